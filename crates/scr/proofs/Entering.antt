-- Laws of the entries, one for each way out.
use Rattle.std.specs.Prelude.{Result, Ok, Err, is_err, ◌≡◌, refl, Bool, true, false, not, List, [], ℕ, ◌-◌, ◌≤◌, ◌<◌, length, take, drop}
use Rattle.std.proofs.Common.{sym, ap, ◌∙◌, arith}
use Rattle.std.proofs.lemmas.Bool.{not-true, not-false}
use Rattle.meaning.specs.Answers.{Outcome, ok, refuse, ◌>>=◌}
use Rattle.meaning.specs.Searches.{least}
use Rattle.meaning.specs.Syntax.{TableSet}
use Rattle.meaning.specs.States.{Values, read_set}
use Rattle.meaning.specs.Steps.{step_of}
use Rattle.meaning.specs.Calls.{start_of, values_of, lent_values, is_table_of, part_from, rows_if, rows_of}
use Rattle.meaning.specs.Run.{run_ready, ran_of, run_of}
use Rattle.meaning.specs.Check.{check_of}
use Rattle.part.specs.Part.{start_at, end_at}
use Rattle.part.proofs.Laws.{part_is, part_none}
use Rattle.set.specs.declared.opened.Opened.{Opened}
use Rattle.set.specs.declared.faults.Fault as S
use Rattle.set.specs.declared.faults.Fault.TheVariants.{Unread, Cycle}
use Rattle.set.specs.ReadSet.{Opens, SetAs, unread_is}
use Rattle.scr.specs.declared.Refusal.{Refusal}
use Rattle.scr.specs.Answers.{refused, refusal_says, answer_says, verdict_says, count_of}
use Rattle.scr.specs.Opened.{is_ok, reads_well}
use Rattle.scr.proofs.Refusing.{refused_says}

-- ---- by what the entry begins with
module _ (ws : List ℕ) (r : Result Opened S.Fault) (h : SetAs ws r) where
  pub opens : (o : Opened) → r ≡ Ok o → Opens ws o
  unfolding SetAs
  opens o e = rw e at h

  -- a call that begins with the reading is refused as the reading is
  module _ (f : S.Fault) (e : r ≡ Err f) (q : Refusal) (eq : refusal_says q ≡ unread_is f) where
    unread : read_set ws ≡ refused q
    unfolding SetAs unread_is
    unread = go f e eq
      where
        go : (f : S.Fault) → r ≡ Err f → refusal_says q ≡ unread_is f → read_set ws ≡ refused q
        go (Unread f) e eq = let p = rw e at h in p.0 ∙ sym (refused_says q _ _ eq)
        go (Cycle c) e eq = let p = rw e at h in p ∙ sym (refused_says q _ _ eq)

    refused_first : {B : Type 0} (f : TableSet → Outcome B) → refused q ≡ (read_set ws >>= f)
    unfolding refused
    refused_first f = rw unread

    pub start_refused : answer_says (Err q) ≡ start_of ws
    unfolding answer_says start_of
    start_refused = refused_first _

    pub check_refused : verdict_says (Err q) ≡ check_of ws
    unfolding verdict_says check_of
    check_refused = refused_first _

    pub step_refused : (s w : ℕ) → answer_says (Err q) ≡ step_of ws s w
    unfolding answer_says step_of
    step_refused s w = refused_first _

    module _ (s : ℕ) (es lent : List ℕ) (place : ℕ) where
      run_first : ran_of ws s es (length lent - place) ≡ record { done = []; last = refused q }
      unfolding ran_of run_ready refused
      run_first = rw (unread, ran_of)

      pub run_refused : answer_says (Err q) ≡ (run_of ws s es lent place).answer
      unfolding answer_says run_of
      run_refused = rw run_first

      pub run_kept : lent ≡ (run_of ws s es lent place).lent
      unfolding run_of
      run_kept = rw run_first

    module _ (s room : ℕ) where
      values_first : refused q ≡ values_of ws s room
      unfolding values_of
      values_first = refused_first _

      pub values_refused : answer_says (Err q) ≡ count_of (values_of ws s room)
      unfolding answer_says count_of refused
      values_refused = ap count_of values_first

      pub kept_refused : (out : List ℕ) → out ≡ lent_values (values_of ws s room) out
      unfolding lent_values refused
      kept_refused out = ap (λ (y : Outcome Values). lent_values y out) values_first

-- ---- rows
module _ (ws : List ℕ) (v : ℕ) (r : Result Opened S.Fault) (h : SetAs ws r) (b : Bool) (eb : b ≡ is_err r) where
  reads_as : b ≡ not (reads_well ws)
  unfolding reads_well SetAs is_ok
  reads_as = eb ∙ go r h
    where
      go : (r : Result Opened S.Fault) → SetAs ws r → is_err r ≡ not (is_ok (read_set ws))
      go (Ok x) h = rw h.1.reads
      go (Err (Unread f)) h = rw h.0
      go (Err (Cycle c)) h = rw h

  pub rows_unread : b ≡ true → [] ≡ rows_of ws v
  unfolding rows_of rows_if reads_well is_ok
  rows_unread f = go (read_set ws) (not-true _ (sym reads_as ∙ f))
    where
      go : (o : Outcome TableSet) → is_ok o ≡ false → [] ≡ rows_if ws v o
      go (ok z) e = let x : ◌≡◌ {A = ℕ} 0 1 = cc in (let o : ⊥ = omega arith in absurd o)
      go (refuse n xs) e = refl

  rows_read : b ≡ false → rows_of ws v ≡ part_from ws (least (is_table_of ws v) (length ws))
  unfolding rows_of rows_if reads_well is_ok
  rows_read f = go (read_set ws) (not-false _ (sym reads_as ∙ f))
    where
      go : (o : Outcome TableSet) → is_ok o ≡ true → rows_if ws v o ≡ part_from ws (least (is_table_of ws v) (length ws))
      go (ok z) e = refl
      go (refuse n xs) e = let x : ◌≡◌ {A = ℕ} 0 1 = cc in (let o : ⊥ = omega arith in absurd o)

  module _ (a : ℕ) (f : b ≡ false) (ea : a ≡ start_at ws v) where
    pub rows_none : length ws ≤ a → [] ≡ rows_of ws v
    rows_none h = part_none ws v a ea h ∙ sym (rows_read f)

    pub rows_part : (d : ℕ) → a < length ws → d ≡ end_at ws a → take (d - a) (drop a ws) ≡ rows_of ws v
    rows_part d h ed = part_is ws v a d ea h ed ∙ sym (rows_read f)
