-- The numbers that the readers of words stop with: a table word's are word_numbers, any other word's are those but 5 and 21.
use Prim.Native.Nat.{ℕ, zero, suc}
use Rattle.std.specs.Prelude.{◌≡◌, refl, Bool, true, false, ◌&&◌, List, [], ◌∷◌, leb, ltb, eqb, length}
use Rattle.std.proofs.Math.Bool.{not}
use Rattle.word.specs.Fields as W
use Rattle.word.specs.Limits as Max
use Rattle.meaning.specs.Answers.{Parse, fine, stop, ◌>>>◌, expect, if◌give◌else◌, word_numbers}
use Rattle.meaning.specs.Searches.{mem, within}
use Rattle.meaning.specs.Syntax.{Variable, Table}
use Rattle.meaning.specs.Reading.{Read, word, fits, condition_kinds, event_kinds, variable_ok, condition_by, event_by, test_ok, row_ok, table_ok, table_fits, rows_by, word_at, read_variables, read_condition, read_event, read_row, read_rows, read_body, read_table, next_table, read_tables, read_assertion, read_assertions}
use Rattle.theory.specs.Tests.{all_of, mem_among}

-- those of a word that is no table word
abbrev pub plain_numbers : List ℕ
plain_numbers = 2 ∷ 3 ∷ 4 ∷ []

plain_2 : mem 2 plain_numbers ≡ true
unfolding mem
plain_2 = refl

plain_3 : mem 3 plain_numbers ≡ true
unfolding mem
plain_3 = refl

plain_4 : mem 4 plain_numbers ≡ true
unfolding mem
plain_4 = refl

plain_word : (n : ℕ) → mem n plain_numbers ≡ true → mem n word_numbers ≡ true
unfolding all_of mem
plain_word n h = mem_among n plain_numbers word_numbers refl h

-- a reader that stops does so with one of the numbers
pub data Stops (ns : List ℕ) {A : Type 0} : Parse A → Type 0 where
  reads : (a : A) → Stops ns (fine a)
  stops : (n i : ℕ) → mem n ns ≡ true → Stops ns (stop n i)

pub as_word : {A : Type 0} {m : Parse A} → Stops plain_numbers m → Stops word_numbers m
as_word (reads a) = reads a
as_word (stops n i h) = stops n i (plain_word n h)

then_stops : {ns : List ℕ} {A B : Type 0} (m : Parse A) {f : A → Parse B} → Stops ns m → ((a : A) → Stops ns (f a)) → Stops ns (m >>> f)
then_stops m (reads a) h = h a
then_stops m (stops n i w) h = stops n i w

if_stops : {ns : List ℕ} {A : Type 0} (b : Bool) {f g : Unit {0} → Parse A} → ((u : Unit {0}) → Stops ns (f u)) → ((u : Unit {0}) → Stops ns (g u))
    → Stops ns (if b give f else g)
if_stops true s t = s tt
if_stops false s t = t tt

expect_then : {ns : List ℕ} {B : Type 0} (b : Bool) (n i : ℕ) {f : Unit {0} → Parse B} → mem n ns ≡ true → ((u : Unit {0}) → Stops ns (f u))
    → Stops ns (expect b n i >>> f)
expect_then true n i w h = h tt
expect_then false n i w h = stops n i w

-- one operand, or two, and then nothing more to refuse
one_stops : {ns : List ℕ} {A B : Type 0} (m : Read A) (f : A × ℕ → B × ℕ) → Stops ns m → Stops ns (m >>> λ r. fine (f r))
one_stops m f s = then_stops m s (λ r. reads _)

two_stops : {ns : List ℕ} {A B C : Type 0} (m : Read A) (k : ℕ → Read B) (f : A × ℕ → B × ℕ → C × ℕ) → Stops ns m → ((i : ℕ) → Stops ns (k i))
    → Stops ns (m >>> λ r. k r.1 >>> λ q. fine (f r q))
two_stops m k f s h = then_stops m s (λ r. one_stops (k r.1) (f r) (h r.1))

module _ (ws : List ℕ) where
  pub word_stops : (kinds : List ℕ) (i : ℕ) → Stops plain_numbers (word_at ws kinds i)
  unfolding word_at
  word_stops kinds i = expect_then (fits kinds (word ws i)) 2 i plain_2 (λ _. reads _)

  pub variables_stops : (left i : ℕ) (vs : List Variable) → Stops plain_numbers (read_variables ws left i vs)
  unfolding read_variables
  variables_stops zero i vs = if_stops (eqb (W.kind (word ws i)) 1) (λ _. stops 4 i plain_4) (λ _. reads _)
  variables_stops (suc left) i vs =
      if_stops (eqb (W.kind (word ws i)) 1)
      (λ _. expect_then (variable_ok (word ws i)) 3 i plain_3 (λ _. variables_stops left (suc i) _))
      (λ _. reads _)

  module _ (vs : List Variable) where
    condition_stops : (left i : ℕ) → Stops plain_numbers (read_condition ws vs left i)
    unfolding read_condition condition_by
    condition_stops zero i = then_stops (word_at ws condition_kinds i) (word_stops condition_kinds i) (λ w. stops 4 i plain_4)
    condition_stops (suc left) i =
        then_stops (word_at ws condition_kinds i) (word_stops condition_kinds i) λ w.
        if_stops (eqb (W.operands w) 2)
        (λ _. two_stops (read_condition ws vs left (suc i)) (read_condition ws vs left) _ (condition_stops left (suc i)) (condition_stops left))
        (λ _. if_stops (eqb (W.operands w) 1) (λ _. one_stops (read_condition ws vs left (suc i)) _ (condition_stops left (suc i)))
        (λ _. if_stops (eqb (W.kind w) 4) (λ _. expect_then (test_ok vs w) 3 i plain_3 (λ _. reads _)) (λ _. reads _)))

    event_stops : (left i : ℕ) → Stops plain_numbers (read_event ws vs left i)
    unfolding read_event event_by
    event_stops zero i = then_stops (word_at ws event_kinds i) (word_stops event_kinds i) (λ w. stops 4 i plain_4)
    event_stops (suc left) i =
        then_stops (word_at ws event_kinds i) (word_stops event_kinds i) λ w.
        if_stops (eqb (W.operands w) 2)
        (λ _. if_stops (eqb (W.kind w) 7)
        (λ _. two_stops (read_event ws vs left (suc i)) (read_event ws vs left) _ (event_stops left (suc i)) (event_stops left))
        (λ _. expect_then (within 1 2 (W.sort w)) 3 i plain_3 λ _.
        two_stops (read_condition ws vs left (suc i)) (read_condition ws vs left) _ (condition_stops left (suc i)) (condition_stops left)))
        (λ _. expect_then (eqb (W.truth w) 0) 3 i plain_3 (λ _. reads _))

    module _ {F : Type 0} (formula : ℕ → Read F) (stops : (i : ℕ) → Stops plain_numbers (formula i)) (v m : ℕ) where
      row_stops : (left i : ℕ) → Stops plain_numbers (read_row ws vs formula v m left i)
      unfolding read_row
      row_stops left i =
          then_stops (word_at ws (3 ∷ []) i) (word_stops (3 ∷ []) i) λ w.
          expect_then (ltb 0 left) 4 i plain_4 λ _.
          expect_then (row_ok vs v m w) 3 i plain_3 λ _.
          one_stops (formula (suc i)) _ (stops (suc i))

      rows_stops : (left i : ℕ) → Stops plain_numbers (read_rows ws vs formula v m left i)
      unfolding read_rows rows_by
      rows_stops zero i = one_stops (read_row ws vs formula v m 0 i) _ (row_stops 0 i)
      rows_stops (suc left) i =
          then_stops (read_row ws vs formula v m (suc left) i) (row_stops (suc left) i) λ r.
          if_stops (eqb (W.kind (word ws r.1)) 3) (λ _. one_stops (read_rows ws vs formula v m left r.1) _ (rows_stops left r.1))
          (λ _. reads _)

    pub body_stops : (w i : ℕ) → Stops plain_numbers (read_body ws vs w i)
    unfolding read_body
    body_stops w i =
        if_stops (eqb (W.sort w) 3)
        (λ _. one_stops (read_rows ws vs (read_condition ws vs Max.max_depth) (W.defined w) (W.class_read w) Max.max_rows i) _
        (rows_stops (read_condition ws vs Max.max_depth) (condition_stops Max.max_depth) (W.defined w) (W.class_read w) Max.max_rows i))
        (λ _. one_stops (read_rows ws vs (read_event ws vs Max.max_depth) (W.defined w) (W.class_read w) Max.max_rows i) _
        (rows_stops (read_event ws vs Max.max_depth) (event_stops Max.max_depth) (W.defined w) (W.class_read w) Max.max_rows i))

    table_stops : (i : ℕ) (taken lower : Bool) → Stops word_numbers (read_table ws vs i taken lower)
    unfolding read_table mem
    table_stops i taken lower =
        then_stops (word_at ws (2 ∷ []) i) (as_word (word_stops (2 ∷ []) i)) λ w.
        expect_then (table_ok vs w) 3 i refl λ _.
        expect_then (table_fits vs w && not taken) 5 i refl λ _.
        expect_then (not lower) 21 i refl λ _.
        as_word (body_stops w (suc i))

    pub tables_stops : (left i : ℕ) (ts : List Table) (before : ℕ) → Stops word_numbers (read_tables ws vs left i ts before)
    unfolding read_tables next_table mem
    tables_stops zero i ts before =
        if_stops (eqb (W.kind (word ws i)) 2)
        (λ _. then_stops (next_table ws vs i ts before) (table_stops i _ _) (λ _. stops 5 i refl))
        (λ _. reads _)
    tables_stops (suc left) i ts before =
        if_stops (eqb (W.kind (word ws i)) 2)
        (λ _. then_stops (next_table ws vs i ts before) (table_stops i _ _) (λ r. tables_stops left r.1 _ _))
        (λ _. reads _)

    assertion_stops : (left i : ℕ) → Stops plain_numbers (read_assertion ws vs left i)
    unfolding read_assertion
    assertion_stops left i =
        then_stops (word_at ws (10 ∷ []) i) (word_stops (10 ∷ []) i) λ w.
        expect_then (ltb 0 left) 4 i plain_4 λ _.
        expect_then (eqb (W.sort w) 1) 3 i plain_3 λ _.
        condition_stops Max.max_depth (suc i)

    pub assertions_stops : (left i : ℕ) → Stops plain_numbers (read_assertions ws vs left i)
    unfolding read_assertions
    assertions_stops zero i =
        if_stops (leb (length ws) i) (λ _. reads _) (λ _. one_stops (read_assertion ws vs 0 i) _ (assertion_stops 0 i))
    assertions_stops (suc left) i =
        if_stops (leb (length ws) i) (λ _. reads _)
        (λ _. two_stops (read_assertion ws vs (suc left) i) (read_assertions ws vs left) _ (assertion_stops (suc left) i) (assertions_stops left))
