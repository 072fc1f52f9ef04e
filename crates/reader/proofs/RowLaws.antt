-- Laws of read_formula, read_row and read_rows, one for each way out.
use Rattle.std.specs.Prelude.{◌≡◌, refl, Bool, true, false, not, List, [], ◌∷◌, ℕ, suc, ◌+◌, ◌-◌, ◌≤◌, ◌<◌, eqb, Result, Ok, Err, ◌⊎◌}
use Rattle.std.proofs.Common.{inl, inr, sym, ap, ◌∙◌, arith, add-one, ne_eqb}
use Rattle.std.proofs.lemmas.Bool.{not-true, not-false}
use Rattle.word.specs.Fields as W
use Rattle.word.specs.Kinds.{table_type_number}
use Rattle.word.specs.declared.kinds.TableType.{TableType}
use Rattle.word.specs.declared.kinds.TableType.TheVariants as T
use Rattle.word.specs.Limits as Max
use Rattle.meaning.specs.Answers.{fine, ◌>>>◌, expect, if◌give◌else◌}
use Rattle.meaning.specs.Syntax.{Condition, Event, Variable, Row}
use Rattle.meaning.specs.Reading.{Read, word, row_ok, row_of, rows_by, read_condition, read_event, read_row, read_rows}
use Rattle.theory.specs.Loops.{left}
use Rattle.index.specs.Places.{Reached, Next, reach, then_at}
use Rattle.reader.specs.declared.faults.Fault.{Fault}
use Rattle.reader.specs.declared.faults.Fault.TheVariants.{Range}
use Rattle.reader.specs.Faults.{refusal, carried, reached}
use Rattle.reader.specs.First.{first_word, first_said}
use Rattle.reader.specs.Formulas.{by_type, formula_reach, row_reach, rows_reach}
use Rattle.reader.proofs.Answers.{then_reach, made_reach, then_next, then_stop}
use Rattle.reader.proofs.FirstLaws.{first_then}

-- ---- the formula of a row
module _ (ws : List ℕ) (vs : List Variable) (t : TableType) (at : ℕ) (r : Result ℕ Fault) where
  pub formula_condition : t ≡ T.Condition → reached r ≡ reach (read_condition ws vs Max.max_depth at) → reached r ≡ formula_reach ws vs (table_type_number t) at
  unfolding formula_reach
  formula_condition e er = rw e er

  pub formula_event : (t ≡ T.Mode) ⊎ (t ≡ T.Event) → reached r ≡ reach (read_event ws vs Max.max_depth at) → reached r ≡ formula_reach ws vs (table_type_number t) at
  unfolding formula_reach
  formula_event (inl e) er = rw e er
  formula_event (inr e) er = rw e er

-- ---- rows, whatever their formulas are
abbrev row_then : Bool → Reached → ℕ → Reached
row_then true r j = r
row_then false r j = Next j

module _ (ws : List ℕ) (vs : List Variable) {F : Type 0} (formula : ℕ → Read F) (v m : ℕ) where
  rows_by_lem : (rec : ℕ → Read (List (Row F))) (k : ℕ) (p : Row F × ℕ)
      → reach (rows_by k rec p) ≡ row_then (eqb k 3) (reach (rec p.1)) p.1
  unfolding rows_by reach
  rows_by_lem rec k p = go (eqb k 3)
    where
      go : (b : Bool)
          → reach (if b give (λ _. rec p.1 >>> λ q. fine (p.0 ∷ q.0, q.1)) else (λ _. fine (p.0 ∷ [], p.1)))
          ≡ row_then b (reach (rec p.1)) p.1
      go true = made_reach (rec p.1) _
      go false = refl

  rows_unrolled : (l on : ℕ) → reach (read_rows ws vs formula v m (suc l) on)
      ≡ then_at (reach (read_row ws vs formula v m (suc l) on))
      (λ j. row_then (eqb (W.kind (word ws j)) 3) (reach (read_rows ws vs formula v m l j)) j)
  unfolding read_rows
  rows_unrolled l on =
      then_reach (read_row ws vs formula v m (suc l) on) _ _
      (λ p. rows_by_lem (read_rows ws vs formula v m l) (W.kind (word ws p.1)) p)

  rows_ended : (on : ℕ) → reach (read_row ws vs formula v m 0 on) ≡ reach (read_rows ws vs formula v m 0 on)
  unfolding read_rows
  rows_ended on = sym (made_reach (read_row ws vs formula v m 0 on) _)

-- ---- the same in a table of type t
module _ (ws : List ℕ) (vs : List Variable) (t : ℕ) where
  by_type_lem : (f g : (F : Type 0) → (ℕ → Read F) → Reached) → ((F : Type 0) (formula : ℕ → Read F) → f F formula ≡ g F formula)
      → by_type ws vs t f ≡ by_type ws vs t g
  by_type_lem f g same = go (eqb t 3)
    where
      go : (b : Bool)
          → (if b give (λ _. f Condition (read_condition ws vs Max.max_depth)) else (λ _. f Event (read_event ws vs Max.max_depth)))
          ≡ (if b give (λ _. g Condition (read_condition ws vs Max.max_depth)) else (λ _. g Event (read_event ws vs Max.max_depth)))
      go true = same Condition (read_condition ws vs Max.max_depth)
      go false = same Event (read_event ws vs Max.max_depth)

-- ---- a row of a table of type t, which r is the first word of
module _ (ws : List ℕ) (vs : List Variable) (t v m l at : ℕ) (r : Result ℕ Fault) (er : first_said r ≡ first_word ws (3 ∷ []) l at) where
  -- what comes after the first word
  abbrev after : {F : Type 0} → (ℕ → Read F) → ℕ → Read (Row F)
  after formula w = expect (row_ok vs v m w) 3 at >>> λ _. formula (suc at) >>> λ p. fine (row_of w p.0, p.1)

  row_begins : {F : Type 0} (formula : ℕ → Read F) → reach (first_said r >>> after formula) ≡ reach (read_row ws vs formula v m l at)
  unfolding read_row
  row_begins formula = ap reach (rw er (sym (first_then ws (3 ∷ []) l at (after formula))))

  -- a fault that does not ask for the formula
  row_refused : (q : Fault) → ((F : Type 0) (formula : ℕ → Read F) → reached (Err q) ≡ reach (first_said r >>> after formula))
      → reached (Err q) ≡ row_reach ws vs t v m l at
  unfolding row_reach
  row_refused q e =
      always (eqb t 3) ∙ by_type_lem ws vs t (λ F formula. reached (Err q)) (λ F formula. reach (read_row ws vs formula v m l at))
      (λ F formula. e F formula ∙ row_begins formula)
    where
      always : (b : Bool) → reached (Err q) ≡ (if b give (λ _. reached (Err q)) else (λ _. reached (Err q)))
      always true = refl
      always false = refl

  pub row_stops : (q : Fault) → r ≡ Err q → reached (Err q) ≡ row_reach ws vs t v m l at
  unfolding first_said reached reach
  row_stops q e = row_refused q (λ F formula. rw e)

  module _ (w : ℕ) (e : r ≡ Ok w) (b : Bool) (eb : b ≡ row_ok vs v m w) where
    pub row_range : not b ≡ true → reached (Err (Range at)) ≡ row_reach ws vs t v m l at
    unfolding first_said reached refusal carried reach
    row_range n = row_refused (Range at) (λ F formula. rw (e, ← eb, not-true b n))

    pub row_on : (a : Result ℕ Fault) → not b ≡ false → reached a ≡ formula_reach ws vs t (at + 1) → reached a ≡ row_reach ws vs t v m l at
    unfolding row_reach formula_reach first_said
    row_on a n ea =
        ea ∙ rw (add-one at)
        (by_type_lem ws vs t (λ F formula. reach (formula (suc at))) (λ F formula. reach (read_row ws vs formula v m l at))
        (λ F formula. sym (made_reach (formula (suc at)) (λ p. row_of w p.0)) ∙ rest F formula ∙ row_begins formula))
      where
        rest : (F : Type 0) (formula : ℕ → Read F) → reach (formula (suc at) >>> λ p. fine (row_of w p.0, p.1)) ≡ reach (first_said r >>> after formula)
        rest F formula = rw (e, ← eb, not-false b n)

pub ruleset row_laws = (row_stops, row_range, row_on)

-- ---- the rows of a table of type t: what is left to read from here is the whole reading
module _ (ws : List ℕ) (vs : List Variable) (t v m : ℕ) where
  rows_step : (l on : ℕ) → rows_reach ws vs t v m (suc l) on
      ≡ then_at (row_reach ws vs t v m (suc l) on) (λ j. row_then (eqb (W.kind (word ws j)) 3) (rows_reach ws vs t v m l j) j)
  unfolding rows_reach row_reach
  rows_step l on = go (eqb t 3)
    where
      go : (b : Bool)
          → (if b
          give (λ _. reach (read_rows ws vs (read_condition ws vs Max.max_depth) v m (suc l) on))
          else (λ _. reach (read_rows ws vs (read_event ws vs Max.max_depth) v m (suc l) on)))
          ≡ then_at (if b
          give (λ _. reach (read_row ws vs (read_condition ws vs Max.max_depth) v m (suc l) on))
          else (λ _. reach (read_row ws vs (read_event ws vs Max.max_depth) v m (suc l) on)))
          (λ j. row_then (eqb (W.kind (word ws j)) 3) (if b
          give (λ _. reach (read_rows ws vs (read_condition ws vs Max.max_depth) v m l j))
          else (λ _. reach (read_rows ws vs (read_event ws vs Max.max_depth) v m l j))) j)
      go true = rows_unrolled ws vs (read_condition ws vs Max.max_depth) v m l on
      go false = rows_unrolled ws vs (read_event ws vs Max.max_depth) v m l on

  rows_last : (on : ℕ) → row_reach ws vs t v m 0 on ≡ rows_reach ws vs t v m 0 on
  unfolding rows_reach row_reach
  rows_last on =
      by_type_lem ws vs t (λ F formula. reach (read_row ws vs formula v m 0 on)) (λ F formula. reach (read_rows ws vs formula v m 0 on))
      (λ F formula. rows_ended ws vs formula v m on)

  pub rows_over : (i on at : ℕ) (r : Result ℕ Fault) → Max.max_rows ≤ i
      → rows_reach ws vs t v m (Max.max_rows - i) on ≡ rows_reach ws vs t v m Max.max_rows at
      → reached r ≡ row_reach ws vs t v m 0 on → reached r ≡ rows_reach ws vs t v m Max.max_rows at
  rows_over i on at r h inv er = let z : Max.max_rows - i ≡ 0 = omega arith in er ∙ rows_last on ∙ (rw z at inv)

  module _ (i on at : ℕ) (h : i < Max.max_rows)
      (inv : rows_reach ws vs t v m (Max.max_rows - i) on ≡ rows_reach ws vs t v m Max.max_rows at)
      (a : Result ℕ Fault) (ea : reached a ≡ row_reach ws vs t v m (Max.max_rows - i) on) where
    rows_turn : then_at (reached a) (λ j. row_then (eqb (W.kind (word ws j)) 3) (rows_reach ws vs t v m (Max.max_rows - (i + 1)) j) j)
        ≡ rows_reach ws vs t v m Max.max_rows at
    rows_turn =
        rw (ea, left Max.max_rows i h) (sym (rows_step (Max.max_rows - (i + 1)) on) ∙ (rw (left Max.max_rows i h) at inv))

    pub rows_refused : (q : Fault) → a ≡ Err q → reached (Err q) ≡ rows_reach ws vs t v m Max.max_rows at
    rows_refused q e = then_stop a _ q e ∙ rows_turn

    module _ (j w k : ℕ) (e : a ≡ Ok j) (ew : w ≡ word ws j) (ek : k ≡ W.kind w) where
      pub rows_end : (k ≡ 3 → ⊥) → reached (Ok j) ≡ rows_reach ws vs t v m Max.max_rows at
      unfolding reached
      rows_end n = then_next a _ (Next j) j e (rw (← ew, ← ek, ne_eqb k 3 n)) ∙ rows_turn

  -- the premises in an order in which each one shows what the next is about
  pub rows_on : (i on at j w k : ℕ) (a : Result ℕ Fault) → a ≡ Ok j → reached a ≡ row_reach ws vs t v m (Max.max_rows - i) on → w ≡ word ws j
      → k ≡ W.kind w → k ≡ 3 → i < Max.max_rows
      → rows_reach ws vs t v m (Max.max_rows - i) on ≡ rows_reach ws vs t v m Max.max_rows at
      → rows_reach ws vs t v m (Max.max_rows - (i + 1)) j ≡ rows_reach ws vs t v m Max.max_rows at
  rows_on i on at j w k a e ea ew ek e3 h inv =
      then_next a _ (rows_reach ws vs t v m (Max.max_rows - (i + 1)) j) j e (rw (← ew, ← ek, e3)) ∙ rows_turn i on at h inv a ea

pub ruleset formula_laws = (formula_condition, formula_event)

pub ruleset rows_laws = (rows_refused, rows_end, rows_on, rows_over)
