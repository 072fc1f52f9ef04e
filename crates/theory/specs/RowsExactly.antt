-- Rows hands back the table that reading found: the words that reading it took, or none where the set has no such table.
use Prim.Native.Nat.{ℕ, suc, ◌+◌, ◌-◌, ◌≤◌, ◌<◌}
use Rattle.std.specs.Prelude.{◌≡◌, Bool, false, List, [], ◌∷◌, ◌++◌, eqb, take, drop}
use Rattle.std.proofs.Math.Path.{refl}
use Rattle.std.proofs.Common.{sym, ap, subst, ◌∙◌, inl, inr, length-drop, length-take-le}
use Rattle.std.proofs.Math.Bool.{true}
use Rattle.std.proofs.Math.Option.{Option, none, some}
use native.Mathlib.Omega.{arith}
use Rattle.std.proofs.Math.Decide.{dec_le}
use Rattle.std.proofs.Math.ListN.{length, get_or-eq_default}
use Rattle.word.specs.Fields as W
use Rattle.meaning.specs.Answers.{Outcome, ok, refuse, fine, if◌give◌else◌}
use Rattle.meaning.specs.Searches.{least, or_else, mem}
use Rattle.meaning.specs.Syntax.{Variable, Table, TableSet}
use Rattle.meaning.specs.Lookup.{defined_by, table_of, is_some, has_table}
use Rattle.meaning.specs.Reading.{word, read_table}
use Rattle.meaning.specs.States.{read_set}
use Rattle.meaning.specs.Calls.{is_table_of, ends_table, part_length, part_from, rows_if, rows_of}
use Rattle.meaning.specs.TableWords.{Follow, nothing, more, EndsAt, at_next_table, first_assertion, end_of_words, TablePart}
use Rattle.meaning.specs.Passes.{Reads}
use Rattle.meaning.specs.Demand1.{RowsAnswers}
use Rattle.theory.specs.Tests.{true_not_false, otherwise, eqb_true, true_eqb}
use Rattle.theory.specs.Found.{least_nothing, least_is}
use Rattle.theory.specs.WellRead.{read_words_lem}
use Rattle.theory.specs.TablesRead.{body_kinds, Kind, other_than, TableAt, read_at, Closing, Layout, layout}
use Rattle.theory.specs.CheckExactly.{reads_exactly}
use Rattle.theory.specs.ReadExactly.{read_refuses_exactly}

-- ---- the first table of v among tables: what stands before it has none of v
record Split (ts : List Table) (v : ℕ) : Type 0 where
  before : List Table
  table : Table
  after : List Table
  all : ts ≡ before ++ (table ∷ after)
  its : defined_by table ≡ v
  none_before : has_table before v ≡ false

split : (ts : List Table) (v : ℕ) → has_table ts v ≡ true → Split ts v
unfolding has_table table_of is_some
split [] v h = absurd (true_not_false h refl)
split (t ∷ ts) v h = go (eqb (defined_by t) v) refl (λ k. split ts v k) h
  where
    go : (b : Bool) → eqb (defined_by t) v ≡ b → (is_some (table_of ts v) ≡ true → Split ts v)
        → is_some (if b give (λ _. some t) else (λ _. table_of ts v)) ≡ true → Split (t ∷ ts) v
    go true e ih k = record { before = []; table = t; after = ts; all = refl; its = eqb_true e; none_before = refl }
    go false e ih k =
        let s = ih k in
        record {
          before = t ∷ s.before;
          table = s.table;
          after = s.after;
          all = ap (λ (l : List Table). t ∷ l) s.all;
          its = s.its;
          none_before = rw e s.none_before;
        }

-- the first of tables none of which is v's, and the others
none_of : (t : Table) (ts : List Table) (v : ℕ) → has_table (t ∷ ts) v ≡ false → (eqb (defined_by t) v ≡ false) × (has_table ts v ≡ false)
unfolding has_table table_of is_some
none_of t ts v h = go (eqb (defined_by t) v) h
  where
    go : (b : Bool) → is_some (if b give (λ _. some t) else (λ _. table_of ts v)) ≡ false → (b ≡ false) × (is_some (table_of ts v) ≡ false)
    go true k = absurd (true_not_false refl k)
    go false k = (refl, k)

module _ (ws : List ℕ) where
  -- a word past the end has kind 0
  word_inside : (kinds : List ℕ) (k : ℕ) → mem 0 kinds ≡ false → mem (Kind ws k) kinds ≡ true → k < length ws
  unfolding word W.kind
  word_inside kinds k z h = elim (dec_le (suc k) (length ws)) [
    | yes l ↦ l
    | no l ↦ absurd (true_not_false (rw (get_or-eq_default ws 0 {n = k} (omega arith)) at h) z)
  ]

  -- ---- which words are v's table word
  other_kind : (v k : ℕ) → eqb (Kind ws k) 2 ≡ false → is_table_of ws v k ≡ false
  unfolding is_table_of
  other_kind v k e = rw e

  its_word : (v : ℕ) {i j : ℕ} {t : Table} → TableAt ws i t j → defined_by t ≡ v → is_table_of ws v i ≡ true
  unfolding is_table_of
  its_word v a e = rw (a.kind, a.defines) (true_eqb e)

  other_word : (v : ℕ) {i j : ℕ} {t : Table} → TableAt ws i t j → eqb (defined_by t) v ≡ false → is_table_of ws v i ≡ false
  unfolding is_table_of
  other_word v a e = rw (a.kind, a.defines) e

  module _ (vs : List Variable) where
    -- ---- tables read one after another
    follow_none : (v : ℕ) {i k : ℕ} {ts : List Table} → Follow ws vs i ts k → has_table ts v ≡ false
        → (n : ℕ) → i ≤ n → n < k → is_table_of ws v n ≡ false
    unfolding mem
    follow_none v nothing h n l m = let x : ⊥ = omega arith in absurd x
    follow_none v (more {i} {j} {k} {t} {ts} e f) h n l m =
        go (λ p. follow_none v f (none_of t ts v h).1 n p m) (dec_le j n) (dec_le (suc i) n)
      where
        a : TableAt ws i t j
        a = read_at ws vs i t j e

        go : (j ≤ n → is_table_of ws v n ≡ false) → Dec (j ≤ n) → Dec (i < n) → is_table_of ws v n ≡ false
        go ih (yes p) q = ih p
        go ih (no p) (yes q) = other_kind v n (other_than ws 2 n refl (a.body.kinds n q (omega arith)))
        go ih (no p) (no q) =
            let x : i ≡ n = omega arith in
            subst (λ (y : ℕ). is_table_of ws v y ≡ false) x (other_word v a (none_of t ts v h).0)

    record Parted (first : ℕ) (before : List Table) (t : Table) (after : List Table) (last : ℕ) : Type 0 where
      from : ℕ
      to : ℕ
      sooner : Follow ws vs first before from
      here : read_table ws vs from false false ≡ fine (t, to)
      later : Follow ws vs to after last

    parted : {i k : ℕ} (before : List Table) (t : Table) (after : List Table) → Follow ws vs i (before ++ (t ∷ after)) k → Parted i before t after k
    parted [] t after (more e f) = record { from = _; to = _; sooner = nothing; here = e; later = f }
    parted (b ∷ before) t after (more e f) =
        let p = parted before t after f in
        record { from = p.from; to = p.to; sooner = more e p.sooner; here = p.here; later = p.later }

  -- ---- the part
  -- a set without a table of v has no table word of v
  module _ (z : TableSet) (v : ℕ) (lay : Layout ws z) where
    before_tables : (n : ℕ) → n < lay.first → is_table_of ws v n ≡ false
    before_tables n l = other_kind v n (rw (lay.low n l))

    nowhere : has_table z.tables v ≡ false → (n : ℕ) → n < length ws → is_table_of ws v n ≡ false
    nowhere h n l = go (dec_le (suc n) lay.first) (dec_le (suc n) lay.last)
      where
        go : Dec (n < lay.first) → Dec (n < lay.last) → is_table_of ws v n ≡ false
        go (yes p) q = before_tables n p
        go (no p) (yes q) = follow_none z.variables v lay.tables h n (omega arith) q
        go (no p) (no q) = other_kind v n (lay.closing.no_table n (omega arith) l)

    -- where the table of v stands: no table word of v comes before it
    module _ (h : has_table z.tables v ≡ true) where
      cut : Split z.tables v
      cut = split z.tables v h

      place : Parted z.variables lay.first cut.before cut.table cut.after lay.last
      place =
          parted z.variables cut.before cut.table cut.after
          (subst (λ (ts : List Table). Follow ws z.variables lay.first ts lay.last) cut.all lay.tables)

      abbrev From : ℕ
      From = place.from

      abbrev To : ℕ
      To = place.to

      at_place : TableAt ws From cut.table To
      at_place = read_at ws z.variables From cut.table To place.here

      sooner_none : (n : ℕ) → n < From → is_table_of ws v n ≡ false
      sooner_none n l = elim (dec_le (suc n) lay.first) [
        | yes p ↦ before_tables n p
        | no p ↦ follow_none z.variables v place.sooner cut.none_before n (omega arith) l
      ]

      other : (n : ℕ) → mem n body_kinds ≡ false → (k : ℕ) → From < k → k < To → eqb (Kind ws k) n ≡ false
      other n f k l m = other_than ws n k f (at_place.body.kinds k l m)

      between : (k : ℕ) → From < k → k < To → (Kind ws k ≡ 2 → ⊥) × (Kind ws k ≡ 10 → ⊥)
      unfolding mem
      between k l m = (λ e. true_not_false (true_eqb e) (other 2 refl k l m), λ e. true_not_false (true_eqb e) (other 10 refl k l m))

      rising : From < To
      rising = omega (arith, at_place.body.some)

      inside : To ≤ length ws
      unfolding mem
      inside =
          let l = at_place.body.some in
          let k = word_inside body_kinds (To - 1) refl (at_place.body.kinds (To - 1) (omega arith) (omega arith)) in
          omega arith

      ends : EndsAt ws To
      ends = go place.later lay.closing
        where
          go : {ts : List Table} {k : ℕ} → Follow ws z.variables To ts k → Closing ws k → EndsAt ws To
          go nothing c = elim c.starts [
            | inl l ↦ let e : length ws ≡ To = omega (arith, inside) in subst (EndsAt ws) e end_of_words
            | inr e ↦ first_assertion e
          ]
          go (more {t} e f) c = at_next_table (read_at ws z.variables To t _ e).kind

      -- so the part's end is the first word after the table word that ends a table
      abbrev EndsAfter : ℕ → Bool
      EndsAfter k = ends_table ws (suc From + k)

      not_yet : (k : ℕ) → k < To - suc From → EndsAfter k ≡ false
      unfolding ends_table mem
      not_yet k l =
          rw (other 2 refl (suc From + k) (omega arith) (omega arith), other 10 refl (suc From + k) (omega arith) (omega arith))

      ended : {k : ℕ} → EndsAt ws k → k < length ws → ends_table ws k ≡ true
      unfolding ends_table
      ended (at_next_table e) l = rw e
      ended (first_assertion e) l = rw e
      ended end_of_words l = let x : ⊥ = omega arith in absurd x

      part_length_lem : part_length ws From ≡ To - suc From
      unfolding part_length or_else
      part_length_lem = go (dec_le (suc To) (length ws))
        where
          go : Dec (To < length ws) → or_else (least EndsAfter (length ws - suc From)) (length ws - suc From) ≡ To - suc From
          go (yes l) =
              let q : suc From + (To - suc From) ≡ To = omega (arith, rising) in
              let t : EndsAfter (To - suc From) ≡ true = rw q (ended ends l) in
              rw (least_is EndsAfter (length ws - suc From) (To - suc From) (omega (arith, rising)) t not_yet)
          go (no l) = let q : length ws ≡ To = omega (arith, inside) in rw (q, least_nothing EndsAfter (To - suc From) not_yet)

      part_is : part_from ws (least (is_table_of ws v) (length ws)) ≡ take (To - From) (drop From ws)
      unfolding part_from
      part_is =
          let l : From < length ws = omega (arith, rising, inside) in
          let q : suc (To - suc From) ≡ To - From = omega (arith, rising) in
          rw (least_is (is_table_of ws v) (length ws) From l (its_word v at_place cut.its) sooner_none, part_length_lem, q)

      table_part : TablePart ws z v (part_from ws (least (is_table_of ws v) (length ws)))
      table_part = record {
        from = From;
        to = To;
        rising = rising;
        within = inside;
        is_part = part_is;
        took = record {
          first = lay.first;
          variables = lay.variables;
          before = cut.before;
          table = cut.table;
          after = cut.after;
          all = cut.all;
          its = cut.its;
          sooner = place.sooner;
          here = place.here;
          last = lay.last;
          later = place.later;
        };
        table_word = (at_place.kind, at_place.defines ∙ cut.its);
        between = between;
        ends = ends;
      }

      not_empty : part_from ws (least (is_table_of ws v) (length ws)) ≡ [] → ⊥
      not_empty e =
          let a : length (take (To - From) (drop From ws)) ≡ To - From = length-take-le (To - From) (drop From ws) (simp length-drop (omega (arith, inside))) in
          let b : length (take (To - From) (drop From ws)) ≡ 0 = ap length (sym part_is ∙ e) in
          omega (arith, rising)

-- ---- rows
pub rows_answers : (ws : List ℕ) (v : ℕ) → RowsAnswers ws v (rows_of ws v)
unfolding rows_of rows_if part_from
rows_answers ws v = record {
  is_part = part (read_set ws);
  unread = λ n xs r. rw ((read_refuses_exactly ws n xs).1 r);
  empty = λ z r. (
    λ e. otherwise (has_table z.tables v) (λ h. not_empty ws z v (laid z r) h (sym (of_set z r) ∙ e)),
    λ h. of_set z r ∙ rw (least_nothing (is_table_of ws v) (length ws) (nowhere ws z v (laid z r) h)),
  );
  table = λ z r h. subst (TablePart ws z v) (sym (of_set z r)) (table_part ws z v (laid z r) h);
}
  where
    taken : (o : Option ℕ) → (a k : ℕ) × (part_from ws o ≡ take k (drop a ws))
    taken none = (0, 0, refl)
    taken (some i) = (i, suc (part_length ws i), refl)

    part : (m : Outcome TableSet) → (a k : ℕ) × (rows_if ws v m ≡ take k (drop a ws))
    part (ok z) = taken (least (is_table_of ws v) (length ws))
    part (refuse n xs) = (0, 0, refl)

    laid : (z : TableSet) → Reads ws z → Layout ws z
    laid z r = layout ws z (read_words_lem ws z r.reads)

    of_set : (z : TableSet) → Reads ws z → rows_if ws v (read_set ws) ≡ part_from ws (least (is_table_of ws v) (length ws))
    of_set z r = ap (rows_if ws v) ((reads_exactly ws z).1 r)
