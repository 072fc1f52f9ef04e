-- The mask of a formula, and of a variable's table, has a bit for each variable that the meaning says it reads.
-- What was scanned agrees with what was read, by the clauses of the reader; where reading stops nothing is said.
use Rattle.std.specs.Prelude.{ℕ, zero, suc, ◌<◌, ◌≡◌, refl, Bool, true, false, ◌||◌, List, [], ◌∷◌, eqb, leb, ltb, bit_or, length, get_or}
use Rattle.std.proofs.Common.{sym, ◌∙◌, subst, arith}
use Rattle.std.proofs.Math.Bool.{or-false, or_assoc}
use Rattle.std.proofs.lemmas.Bool.{ne_eqb}
use Rattle.word.specs.Fields as W
use Rattle.word.specs.Limits as Max
use Rattle.meaning.specs.Answers.{fine, stop, ◌>>>◌, expect, if◌give◌else◌}
use Rattle.meaning.specs.Searches.{mem, within}
use Rattle.meaning.specs.Syntax.{Condition, constant, negation, Event, never, one_of, Variable, Row, TableSet}
use Rattle.meaning.specs.Lookup.{Source}
use Rattle.meaning.specs.Reading.{Read, word, fits, test_ok, test_by, test_of, row_ok, condition_kinds, event_kinds, joined, changed, condition_by, event_by, rows_by, row_of, body_of, word_at, read_condition, read_event, read_row, read_rows}
use Rattle.meaning.specs.Order.{tests, changes, any_row, reads_by, reads}
use Rattle.index.specs.Indexed.{Indexed}
use Rattle.index.specs.Sources.{SourceAt, no_table, event_at, condition_at, source_at}
use Rattle.theory.specs.Tests.{true_not_false}
use Rattle.order.specs.declared.Masked.{Masked}
use Rattle.index.specs.Bits.{bit_in, one_bit}
use Rattle.index.proofs.Laws.{past_unfit}
use Rattle.index.proofs.BitLaws.{zero_at, or_at, bit_of}
use Rattle.order.specs.Masks.{nothing_at, both_from, first_from, condition_mask_by, condition_mask, event_mask_by, event_mask, formula_mask, rows_mask, table_mask}
use Rattle.order.proofs.Scans.{rows_here}
use Rattle.order.proofs.Bits.{eqb_swap}

-- the same place after it, and a bit for each variable b that `sees` finds in it
abbrev Agrees : {A : Type 0} → (ℕ → A → Bool) → Read A → Masked → Type 0
Agrees sees (fine p) j = (j.next ≡ p.1) × ((b : ℕ) → b < Max.max_variables → sees b p.0 ≡ bit_in j.mask b)
Agrees sees (stop k i) j = Unit {0}

-- one reading after another; of their masks m and n the whole has g m n
then_agrees : {A B C : Type 0} (sees_a : ℕ → A → Bool) (sees_b : ℕ → B → Bool) (sees_c : ℕ → C → Bool) (f : A → B → C) (g : ℕ → ℕ → ℕ)
    → ((x : A) (y : B) (m n b : ℕ) → sees_a b x ≡ bit_in m b → sees_b b y ≡ bit_in n b → sees_c b (f x y) ≡ bit_in (g m n) b)
    → (rp : ℕ → Read B) (rj : ℕ → Masked) → ((i : ℕ) → Agrees sees_b (rp i) (rj i)) → (m : Read A) (j : Masked) → Agrees sees_a m j
    → Agrees sees_c (m >>> λ r. rp r.1 >>> λ q. fine (f r.0 q.0, q.1))
    (record { mask = g j.mask (rj j.next).mask; next = (rj j.next).next })
then_agrees sees_a sees_b sees_c f g h rp rj ih (stop k i) j e = tt
then_agrees sees_a sees_b sees_c f g h rp rj ih (fine p) j e = rw e.0 (go (rp p.1) (ih p.1))
  where
    go : (o : Read _) → Agrees sees_b o (rj p.1)
        → Agrees sees_c (o >>> λ q. fine (f p.0 q.0, q.1))
        (record { mask = g j.mask (rj p.1).mask; next = (rj p.1).next })
    go (stop k i) a = tt
    go (fine q) a = (a.0, λ b l. h p.0 q.0 j.mask (rj p.1).mask b (e.1 b l) (a.1 b l))

or_bits : (x y : Bool) (m n b : ℕ) → x ≡ bit_in m b → y ≡ bit_in n b → x || y ≡ bit_in (bit_or m n) b
or_bits x y m n b ex ey = rw (or_at m n b, ex, ey)

-- ---- conditions
joined_tests : (s : Bool) (c d : Condition) (b : ℕ) → tests b (joined s c d) ≡ tests b c || tests b d
unfolding tests joined
joined_tests true c d b = refl
joined_tests false c d b = refl

test_tests : (w b : ℕ) → tests b (test_of w) ≡ eqb b (W.variable w)
unfolding test_of test_by tests
test_tests w b = go (eqb (W.relation w) 0) ∙ eqb_swap (W.variable w) b
  where
    go : (t : Bool) → tests b (test_by t (W.variable w) (W.value w)) ≡ eqb (W.variable w) b
    go true = refl
    go false = refl

module _ (vs : List Variable) (rp : ℕ → Read Condition) (rj : ℕ → Masked) (ih : (i : ℕ) → Agrees tests (rp i) (rj i)) where
  condition_by_lem : (w i : ℕ) → Agrees tests (condition_by vs rp w i) (condition_mask_by rj w i)
  unfolding condition_by condition_mask_by tests
  condition_by_lem w i = go (eqb (W.operands w) 2) (eqb (W.operands w) 1) (eqb (W.kind w) 4)
    where
      test : (t : Bool) → Agrees tests (expect t 3 i >>> λ _. fine (test_of w, suc i)) (record { mask = one_bit (W.variable w); next = suc i })
      test true = (refl, λ b l. test_tests w b ∙ sym (bit_of (W.variable w) b l))
      test false = tt

      negated : (o : Read Condition) (j : Masked) → Agrees tests o j → Agrees tests (o >>> λ r. fine (negation r.0, r.1)) j
      negated (stop k x) j a = tt
      negated (fine p) j a = a

      go : (x y z : Bool)
          → Agrees tests
          (if x give (λ _. rp (suc i) >>> λ r. rp r.1 >>> λ q. fine (joined (eqb (W.kind w) 6) r.0 q.0, q.1))
          else λ _. if y give (λ _. rp (suc i) >>> λ r. fine (negation r.0, r.1))
          else λ _. if z give (λ _. expect (test_ok vs w) 3 i >>> λ _. fine (test_of w, suc i))
          else λ _. fine (constant (eqb (W.truth w) 1), suc i))
          (if x give (λ _. both_from rj (suc i))
          else λ _. if y give (λ _. rj (suc i))
          else λ _. if z give (λ _. record { mask = one_bit (W.variable w); next = suc i })
          else λ _. nothing_at (suc i))
      go false true z = negated (rp (suc i)) (rj (suc i)) (ih (suc i))
      go false false true = test (test_ok vs w)
      go false false false = (refl, λ b l. sym (zero_at b))
      go true y z =
          then_agrees tests tests tests (joined (eqb (W.kind w) 6)) bit_or
          (λ c d m n b ec ed. joined_tests (eqb (W.kind w) 6) c d b ∙ or_bits (tests b c) (tests b d) m n b ec ed)
          rp rj ih (rp (suc i)) (rj (suc i)) (ih (suc i))

-- ---- events
changed_changes : (s : Bool) (c d : Condition) (b : ℕ) → changes b (changed s c d) ≡ tests b c
unfolding changes changed
changed_changes true c d b = refl
changed_changes false c d b = refl

module _ (rp : ℕ → Read Event) (rj : ℕ → Masked) (ih : (i : ℕ) → Agrees changes (rp i) (rj i)) (cp : ℕ → Read Condition) (cj : ℕ → Masked) (ic : (i : ℕ) → Agrees tests (cp i) (cj i)) where
  event_by_lem : (w i : ℕ) → Agrees changes (event_by rp cp w i) (event_mask_by rj cj w i)
  unfolding event_by event_mask_by changes
  event_by_lem w i = go (eqb (W.operands w) 2) (eqb (W.kind w) 7)
    where
      none : (t : Bool) → Agrees changes (expect t 3 i >>> λ _. fine (never, suc i)) (nothing_at (suc i))
      none true = (refl, λ b l. sym (zero_at b))
      none false = tt

      change : (t : Bool)
          → Agrees changes
          (expect t 3 i >>> λ _. cp (suc i) >>> λ r. cp r.1 >>> λ q. fine (changed (eqb (W.sort w) 1) r.0 q.0, q.1))
          (first_from cj (suc i))
      change true =
          then_agrees tests tests changes (changed (eqb (W.sort w) 1)) (λ m n. m)
          (λ c d m n b ec ed. changed_changes (eqb (W.sort w) 1) c d b ∙ ec) cp cj ic (cp (suc i)) (cj (suc i)) (ic (suc i))
      change false = tt

      go : (x y : Bool)
          → Agrees changes
          (if x
          give (λ _.
          if y give (λ _. rp (suc i) >>> λ r. rp r.1 >>> λ q. fine (one_of r.0 q.0, q.1))
          else λ _. (expect (within 1 2 (W.sort w)) 3 i >>> λ _. cp (suc i) >>> λ r. cp r.1 >>> λ q.
          fine (changed (eqb (W.sort w) 1) r.0 q.0, q.1)))
          else λ _. (expect (eqb (W.truth w) 0) 3 i >>> λ _. fine (never, suc i)))
          (if x
          give (λ _. if y give (λ _. both_from rj (suc i)) else λ _. first_from cj (suc i))
          else λ _. nothing_at (suc i))
      go false y = none (eqb (W.truth w) 0)
      go true true =
          then_agrees changes changes changes one_of bit_or (λ e f m n b ee ef. or_bits (changes b e) (changes b f) m n b ee ef)
          rp rj ih (rp (suc i)) (rj (suc i)) (ih (suc i))
      go true false = change (within 1 2 (W.sort w))

-- ---- levels: a word that fits is there
level : {A : Type 0} (sees : ℕ → A → Bool) (ws kinds : List ℕ) (i : ℕ) → mem 0 kinds ≡ false → (f : ℕ → Read A) (j : Masked)
    → Agrees sees (f (word ws i)) j → Agrees sees (word_at ws kinds i >>> f) (if leb (length ws) i give (λ _. nothing_at i) else (λ _. j))
unfolding word_at
level sees ws kinds i k f j a = go (leb (length ws) i) refl (fits kinds (word ws i)) refl
  where
    go : (l : Bool) → leb (length ws) i ≡ l → (t : Bool) → fits kinds (word ws i) ≡ t
        → Agrees sees ((expect t 2 i >>> λ _. fine (word ws i)) >>> f) (if l give (λ _. nothing_at i) else (λ _. j))
    go l el false et = tt
    go true el true et = absurd (true_not_false et (past_unfit ws kinds i k el))
    go false el true et = a

no_level : {A : Type 0} (sees : ℕ → A → Bool) (ws kinds : List ℕ) (i : ℕ) (j : Masked) → Agrees sees (word_at ws kinds i >>> λ w. stop 4 i) j
unfolding word_at
no_level sees ws kinds i j = go (fits kinds (word ws i))
  where
    go : (t : Bool) → Agrees sees ((expect t 2 i >>> λ _. fine (word ws i)) >>> λ w. stop 4 i) j
    go true = tt
    go false = tt

module _ (ws : List ℕ) (vs : List Variable) where
  condition_agrees : (left i : ℕ) → Agrees tests (read_condition ws vs left i) (condition_mask ws left i)
  unfolding read_condition condition_mask mem
  condition_agrees zero i = no_level tests ws condition_kinds i _
  condition_agrees (suc left) i =
      level tests ws condition_kinds i refl (λ w. condition_by vs (read_condition ws vs left) w i) _
      (condition_by_lem vs (read_condition ws vs left) (condition_mask ws left) (condition_agrees left) (word ws i) i)

  event_agrees : (left i : ℕ) → Agrees changes (read_event ws vs left i) (event_mask ws left i)
  unfolding read_event event_mask mem
  event_agrees zero i = no_level changes ws event_kinds i _
  event_agrees (suc left) i =
      level changes ws event_kinds i refl (λ w. event_by (read_event ws vs left) (read_condition ws vs left) w i) _
      (event_by_lem (read_event ws vs left) (event_mask ws left) (event_agrees left) (read_condition ws vs left) (condition_mask ws left)
      (condition_agrees left) (word ws i) i)

-- ---- rows whose formulas are scanned as formulas of type t
abbrev RowsAgree : {F : Type 0} → (ℕ → F → Bool) → ℕ → Read (List (Row F)) → ℕ → Type 0
RowsAgree sees first (fine p) m = (b : ℕ) → b < Max.max_variables → bit_in first b || any_row (sees b) p.0 ≡ bit_in m b
RowsAgree sees first (stop k i) m = Unit {0}

module _ {F : Type 0} (sees : ℕ → F → Bool) (ws : List ℕ) (vs : List Variable) (formula : ℕ → Read F) (t v c : ℕ) (scanned : (i : ℕ) → Agrees sees (formula i) (formula_mask ws t i)) where
  abbrev sees_row : ℕ → Row F → Bool
  sees_row b r = sees b r.formula

  row_agrees : (left p : ℕ) → Agrees sees_row (read_row ws vs formula v c left p) (formula_mask ws t (suc p))
  unfolding read_row word_at row_of
  row_agrees left p = go (fits (3 ∷ []) (word ws p))
    where
      inside : (y z : Bool) (w : ℕ) (o : Read F) → Agrees sees o (formula_mask ws t (suc p))
          → Agrees sees_row (expect y 4 p >>> λ _. expect z 3 p >>> λ _. o >>> λ r. fine (row_of w r.0, r.1)) (formula_mask ws t (suc p))
      inside false z w o a = tt
      inside true false w o a = tt
      inside true true w (fine r) a = a
      inside true true w (stop k i) a = tt

      go : (x : Bool)
          → Agrees sees_row
          ((expect x 2 p >>> λ _. fine (word ws p)) >>> λ w.
          expect (ltb 0 left) 4 p >>> λ _. expect (row_ok vs v c w) 3 p >>> λ _. formula (suc p) >>> λ r. fine (row_of w r.0, r.1))
          (formula_mask ws t (suc p))
      go false = tt
      go true = inside (ltb 0 left) (row_ok vs v c (word ws p)) (word ws p) (formula (suc p)) (scanned (suc p))

  row_past : (left p : ℕ) → leb (length ws) p ≡ true → read_row ws vs formula v c left p ≡ stop 2 p
  unfolding read_row word_at mem
  row_past left p e = rw (past_unfit ws (3 ∷ []) p refl e)

  row_over : (p : ℕ) (r : Row F × ℕ) → read_row ws vs formula v c 0 p ≡ fine r → ⊥
  unfolding read_row word_at
  row_over p r e = go (fits (3 ∷ []) (word ws p)) e
    where
      go : (x : Bool) → ◌≡◌ {A = Read (Row F)} ((expect x 2 p >>> λ _. fine (word ws p)) >>> λ w. stop 4 p) (fine r) → ⊥
      go true e = let z : ◌≡◌ {A = ℕ} 0 1 = cc in omega arith
      go false e = let z : ◌≡◌ {A = ℕ} 0 1 = cc in omega arith

  rows_agree : (left p first : ℕ) → RowsAgree sees first (read_rows ws vs formula v c left p) (rows_mask ws t left p first)
  unfolding read_rows rows_by any_row
  rows_agree zero p first = go (read_row ws vs formula v c 0 p) refl
    where
      go : (o : Read (Row F)) → read_row ws vs formula v c 0 p ≡ o
          → RowsAgree sees first (o >>> λ r. fine (r.0 ∷ [], r.1)) (rows_mask ws t 0 p first)
      go (stop k x) e = tt
      go (fine r) e = absurd (row_over p r e)
  rows_agree (suc left) p first = start (leb (length ws) p) refl (λ q a. rows_agree left q a)
    where
      more : (k : Bool) (r : Row F × ℕ) (n : ℕ) → ((b : ℕ) → b < Max.max_variables → sees_row b r.0 ≡ bit_in n b) → (o : Read (List (Row F)))
          → RowsAgree sees (bit_or first n) o (rows_mask ws t left r.1 (bit_or first n))
          → RowsAgree sees first
          (if k give (λ _. o >>> λ q. fine (r.0 ∷ q.0, q.1)) else (λ _. fine (r.0 ∷ [], r.1)))
          (if k give (λ _. rows_mask ws t left r.1 (bit_or first n)) else (λ _. bit_or first n))
      more false r n h o a = λ b l. rw (or-false (sees_row b r.0), h b l) (sym (or_at first n b))
      more true r n h (stop k x) a = tt
      more true r n h (fine s) a = λ b l.
          rw (← or_assoc (bit_in first b) (sees_row b r.0) (any_row (sees b) s.0), h b l, ← or_at first n b) (a b l)

      go : (o : Read (Row F)) → Agrees sees_row o (formula_mask ws t (suc p)) → leb (length ws) p ≡ false
          → ((q a : ℕ) → RowsAgree sees a (read_rows ws vs formula v c left q) (rows_mask ws t left q a))
          → RowsAgree sees first (o >>> λ r. rows_by (W.kind (word ws r.1)) (read_rows ws vs formula v c left) r) (rows_mask ws t (suc left) p first)
      go (stop k x) a e ih = tt
      go (fine r) a e ih =
          rw (rows_here ws t left p first e, a.0)
          (more (eqb (W.kind (word ws r.1)) 3) r (formula_mask ws t (suc p)).mask a.1 (read_rows ws vs formula v c left r.1)
          (ih r.1 (bit_or first (formula_mask ws t (suc p)).mask)))

      start : (k : Bool) → leb (length ws) p ≡ k
          → ((q a : ℕ) → RowsAgree sees a (read_rows ws vs formula v c left q) (rows_mask ws t left q a))
          → RowsAgree sees first (read_row ws vs formula v c (suc left) p >>> λ r. rows_by (W.kind (word ws r.1)) (read_rows ws vs formula v c left) r)
          (rows_mask ws t (suc left) p first)
      start true e ih = rw (row_past (suc left) p e) tt
      start false e ih = go (read_row ws vs formula v c (suc left) p) (row_agrees (suc left) p) e ih

  -- rows that were read, after x that the first mask has
  rows_read : (left p first : ℕ) (rs : List (Row F)) (j : ℕ) → read_rows ws vs formula v c left p ≡ fine (rs, j) → (b : ℕ) → b < Max.max_variables
      → (x : Bool) → x ≡ bit_in first b → x || any_row (sees b) rs ≡ bit_in (rows_mask ws t left p first) b
  rows_read left p first rs j e b h x ex =
      rw ex (subst (λ (o : Read (List (Row F))). RowsAgree sees first o (rows_mask ws t left p first)) e (rows_agree left p first) b h)

-- ---- the source of a variable, by the place of its first row
source_means : {ws : List ℕ} {vs : List Variable} {p : ℕ} {s : Source} → SourceAt ws vs p s → (b : ℕ) → b < Max.max_variables
    → reads_by s b ≡ bit_in (table_mask ws p) b
unfolding reads_by table_mask body_of formula_mask
source_means no_table b h = sym (zero_at b)
source_means {ws} {vs} (event_at i j rs n e) b h =
    rw (ne_eqb (W.sort (word ws i)) 3 n)
    (rows_read changes ws vs (read_event ws vs Max.max_depth) (W.sort (word ws i)) (W.defined (word ws i)) (W.class_read (word ws i))
    scanned Max.max_rows (suc i) 0 rs j e b h false (sym (zero_at b)))
  where
    scanned : (k : ℕ) → Agrees changes (read_event ws vs Max.max_depth k) (formula_mask ws (W.sort (word ws i)) k)
    scanned k = rw (ne_eqb (W.sort (word ws i)) 3 n) (event_agrees ws vs Max.max_depth k)
source_means {ws} {vs} (condition_at i j rs t e) b h =
    rw t
    (rows_read tests ws vs (read_condition ws vs Max.max_depth) 3 (W.defined (word ws i)) (W.class_read (word ws i)) scanned Max.max_rows
    (suc i) (one_bit (W.class_read (word ws i))) rs j e b h (eqb (W.class_read (word ws i)) b)
    (eqb_swap (W.class_read (word ws i)) b ∙ sym (bit_of (W.class_read (word ws i)) b h)))
  where
    scanned : (k : ℕ) → Agrees tests (read_condition ws vs Max.max_depth k) (formula_mask ws 3 k)
    scanned k = condition_agrees ws vs Max.max_depth k

pub reads_mean : {ws : List ℕ} {z : TableSet} {n a : ℕ} {ps : List ℕ} → Indexed ws z n a ps → (v b : ℕ) → v < n → b < Max.max_variables
    → reads z v b ≡ bit_in (table_mask ws (get_or ps v 0)) b
unfolding reads
reads_mean ix v b l h = source_means (source_at ix v l) b h
