-- One law for each way out.
use Rattle.std.proofs.Common.{◌≡◌, refl, List, Bool, true, false, not, ◌&&◌, ◌||◌, ℕ, zero, suc, ◌+◌, ◌-◌, ◌≤◌, ◌<◌, length, get_or, eqb, leb, sym, ◌∙◌, arith, sub-one, add-one, ne_eqb, le-leb}
use Rattle.std.proofs.lemmas.Bool.{lt-leb, not-true, not-false}
use Rattle.word.specs.Fields as W
use Rattle.word.specs.Limits as Max
use Rattle.meaning.specs.Answers.{if◌give◌else◌}
use Rattle.meaning.specs.Reading.{word, test_by, test_of}
use Rattle.meaning.specs.Steps.{true_in, mode_is}
use Rattle.theory.specs.Loops.{left}
use Rattle.judge.specs.declared.Judged.{Judged}
use Rattle.judge.specs.declared.Got.{Got}
use Rattle.judge.specs.declared.Got.TheVariants.{Nothing, One, Two}
use Rattle.judge.specs.Judge.{joined_by, judge_by, judge_at, changed_by, change_by, change_at, judge_event_by, judge_event_at, add_row, rows_at}

-- ---- a test word
module _ (b : List ℕ) (w v x k t : ℕ) (ev : v ≡ W.variable w) (ex : x ≡ get_or b v 0) (ek : k ≡ W.value w)
    (et : t ≡ W.relation w) where
  pub test_equal : t ≡ 0 → eqb x k ≡ true_in b (test_of w)
  unfolding test_of test_by true_in
  test_equal e = rw (ex, ev, ek, ← et, e)

  pub test_most : (t ≡ 0 → ⊥) → leb x k ≡ true_in b (test_of w)
  unfolding test_of test_by true_in
  test_most n = rw (ex, ev, ek, ← et, ne_eqb t 0 n)

pub join_and : (k : ℕ) (a b : Bool) → k ≡ 6 → (a && b) ≡ joined_by k a b
unfolding joined_by
join_and k a b e = rw e

pub join_or : (k : ℕ) (a b : Bool) → (k ≡ 6 → ⊥) → (a || b) ≡ joined_by k a b
unfolding joined_by
join_or k a b n = rw (ne_eqb k 6 n)

pub ruleset test_laws = (test_equal, test_most)

pub ruleset join_laws = (join_and, join_or)

-- ---- judge
pub judge_none : (ws b : List ℕ) (n at : ℕ) → n ≡ 0 → record { value = false; next = at } ≡ judge_at ws b n at
unfolding judge_at
judge_none ws b n at z = rw z

judge_past_test : (ws b : List ℕ) (n at : ℕ) → leb (length ws) at ≡ true → record { value = false; next = at } ≡ judge_at ws b n at
unfolding judge_at
judge_past_test ws b zero at h = refl
judge_past_test ws b (suc n) at h = rw h

pub judge_past : (ws b : List ℕ) (n at : ℕ) → length ws ≤ at → record { value = false; next = at } ≡ judge_at ws b n at
judge_past ws b n at h = judge_past_test ws b n at (le-leb (length ws) at h)

judge_unroll : (ws b : List ℕ) (n at : ℕ) → (n ≡ 0 → ⊥) → leb (length ws) at ≡ false
    → judge_by b (judge_at ws b (n - 1)) (word ws at) at ≡ judge_at ws b n at
unfolding judge_at
judge_unroll ws b zero at nz h = absurd (nz refl)
judge_unroll ws b (suc n) at nz h = rw (h, sub-one (suc n))

module _ (ws b : List ℕ) (n at w o : ℕ) (nz : n ≡ 0 → ⊥) (h : at < length ws) (ew : w ≡ word ws at) (eo : o ≡ W.operands w) where
  judge_arm : (r : Judged) → r ≡ judge_by b (judge_at ws b (n - 1)) w at → r ≡ judge_at ws b n at
  judge_arm r e = e ∙ rw ew (judge_unroll ws b n at nz (lt-leb (length ws) at h))

  -- no operand follows
  module _ (k : ℕ) (z : o ≡ 0) (ek : k ≡ W.kind w) where
    pub judge_test : (v : Bool) → k ≡ 4 → v ≡ true_in b (test_of w) → record { value = v; next = at + 1 } ≡ judge_at ws b n at
    unfolding judge_by
    judge_test v e ev = judge_arm _ (rw (← eo, z, ← ek, e, ev, add-one at))

    pub judge_constant : (t : ℕ) → (k ≡ 4 → ⊥) → t ≡ W.truth w → record { value = eqb t 1; next = at + 1 } ≡ judge_at ws b n at
    unfolding judge_by
    judge_constant t n4 et = judge_arm _ (rw (← eo, z, ← ek, ne_eqb k 4 n4, et, add-one at))

  pub judge_operator : (r : Judged) → r ≡ judge_by b (judge_at ws b (n - 1)) w at → r ≡ judge_at ws b n at
  judge_operator = judge_arm

pub ruleset judge_laws = (judge_none, judge_past, judge_test, judge_constant, judge_operator)

-- ---- judge_operator
module _ (ws b : List ℕ) (d at w o : ℕ) (eo : o ≡ W.operands w) (c : Judged) (ec : c ≡ judge_at ws b d (at + 1)) where
  pub operator_two : (e : Judged) (k : ℕ) (v : Bool) → o ≡ 2 → e ≡ judge_at ws b d c.next → k ≡ W.kind w → v ≡ joined_by k c.value e.value
      → record { value = v; next = e.next } ≡ judge_by b (judge_at ws b d) w at
  unfolding judge_by
  operator_two e k v two ee ek ev = rw (← eo, two, ← ek, ev, ee, ec, add-one at)

  -- the table has no other count left
  pub operator_one : (W.operands w ≡ 0 → ⊥) → (o ≡ 2 → ⊥) → o < 3
      → record { value = not c.value; next = c.next } ≡ judge_by b (judge_at ws b d) w at
  unfolding judge_by
  operator_one nz n2 l = let one : o ≡ 1 = omega (arith, n2, l, λ (z : o ≡ 0). nz (sym eo ∙ z)) in rw (← eo, one, ec, add-one at)

pub ruleset operator_laws = (operator_two, operator_one)

-- ---- a change
pub change_true : (s : ℕ) (x y z : Bool) → s ≡ 1 → (not x && y && z) ≡ changed_by s x y z
unfolding changed_by
change_true s x y z e = rw e

pub change_false : (s : ℕ) (x y z : Bool) → (s ≡ 1 → ⊥) → (x && not y && z) ≡ changed_by s x y z
unfolding changed_by
change_false s x y z n = rw (ne_eqb s 1 n)

pub ruleset changed_laws = (change_true, change_false)

pub change_law : (ws a b : List ℕ) (n w at s : ℕ) (x y z : Judged) (v : Bool)
    → x ≡ judge_at ws a n at → y ≡ judge_at ws b n at → z ≡ judge_at ws a n x.next → s ≡ W.sort w
    → v ≡ changed_by s x.value y.value z.value → record { value = v; next = z.next } ≡ change_at ws a b n w at
unfolding change_at change_by
change_law ws a b n w at s x y z v ex ey ez es ev = rw (ev, ez, ey, ex, es)

-- ---- judge_event
pub event_none : (ws a b : List ℕ) (n at : ℕ) → n ≡ 0 → record { value = false; next = at } ≡ judge_event_at ws a b n at
unfolding judge_event_at
event_none ws a b n at z = rw z

event_past_test : (ws a b : List ℕ) (n at : ℕ) → leb (length ws) at ≡ true
    → record { value = false; next = at } ≡ judge_event_at ws a b n at
unfolding judge_event_at
event_past_test ws a b zero at h = refl
event_past_test ws a b (suc n) at h = rw h

pub event_past : (ws a b : List ℕ) (n at : ℕ) → length ws ≤ at → record { value = false; next = at } ≡ judge_event_at ws a b n at
event_past ws a b n at h = event_past_test ws a b n at (le-leb (length ws) at h)

event_unroll : (ws a b : List ℕ) (n at : ℕ) → (n ≡ 0 → ⊥) → leb (length ws) at ≡ false
    → judge_event_by (judge_event_at ws a b (n - 1)) (change_at ws a b (n - 1)) (word ws at) at ≡ judge_event_at ws a b n at
unfolding judge_event_at
event_unroll ws a b zero at nz h = absurd (nz refl)
event_unroll ws a b (suc n) at nz h = rw (h, sub-one (suc n))

module _ (ws a b : List ℕ) (n at w o : ℕ) (nz : n ≡ 0 → ⊥) (h : at < length ws)
    (ew : w ≡ word ws at) (eo : o ≡ W.operands w) where
  event_arm : (r : Judged) → r ≡ judge_event_by (judge_event_at ws a b (n - 1)) (change_at ws a b (n - 1)) w at
      → r ≡ judge_event_at ws a b n at
  event_arm r e = e ∙ rw ew (event_unroll ws a b n at nz (lt-leb (length ws) at h))

  module _ (k : ℕ) (ek : k ≡ W.kind w) (e : o ≡ 2) where
    pub event_or : (c d : Judged) → k ≡ 7 → c ≡ judge_event_at ws a b (n - 1) (at + 1) → d ≡ judge_event_at ws a b (n - 1) c.next
        → record { value = c.value || d.value; next = d.next } ≡ judge_event_at ws a b n at
    unfolding judge_event_by
    event_or c d e7 ec ed = event_arm _ (rw (← eo, e, ← ek, e7, ed, ec, add-one at))

    pub event_change : (r : Judged) → (k ≡ 7 → ⊥) → r ≡ change_at ws a b (n - 1) w (at + 1) → r ≡ judge_event_at ws a b n at
    unfolding judge_event_by
    event_change r n7 er = event_arm r (rw (← eo, e, ← ek, ne_eqb k 7 n7, er, add-one at))

  pub event_never : (o ≡ 2 → ⊥) → record { value = false; next = at + 1 } ≡ judge_event_at ws a b n at
  unfolding judge_event_by
  event_never n2 = event_arm _ (rw (← eo, ne_eqb o 2 n2, add-one at))

pub ruleset event_laws = (event_none, event_past, event_or, event_change, event_never)

-- ---- rows
pub mode_law : (m x : ℕ) → (eqb m Max.any || eqb m x) ≡ mode_is m x
unfolding mode_is
mode_law m x = refl

pub add_no : (g : Got) (h : Bool) (i k : ℕ) → not h ≡ true → g ≡ add_row g h i k
unfolding add_row
add_no g h i k e = rw (not-true h e)

module _ (g : Got) (h : Bool) (i k : ℕ) (e : not h ≡ false) where
  pub add_first : g ≡ Nothing → One i k ≡ add_row g h i k
  unfolding add_row
  add_first eg = rw (eg, not-false h e)

  pub add_second : (j l : ℕ) → g ≡ One j l → Two j i ≡ add_row g h i k
  unfolding add_row
  add_second j l eg = rw (eg, not-false h e)

  pub add_third : (j l : ℕ) → g ≡ Two j l → Two j l ≡ add_row g h i k
  unfolding add_row
  add_third j l eg = rw (eg, not-false h e)

pub ruleset add_laws = (add_no, add_first, add_second, add_third)

pub with_law : (g r : Got) (w q x i k : ℕ) (t m : Bool) → q ≡ W.mode w → m ≡ mode_is q x → k ≡ W.value w
    → r ≡ add_row g (m && t) i k → r ≡ add_row g (mode_is (W.mode w) x && t) i (W.value w)
with_law g r w q x i k t m eq em ek er = rw (er, em, eq, ek)

pub row_law : (ws : List ℕ) (w k at : ℕ) → w ≡ word ws at → k ≡ W.kind w → eqb k 3 ≡ eqb (W.kind (word ws at)) 3
row_law ws w k at ew ek = rw (ek, ew)

-- f judges a row's formula: the conditions of a state, or the events of a step
module _ (ws : List ℕ) (f : ℕ → Judged) (x : ℕ) where
  rows_past : (l i p : ℕ) (g : Got) → leb (length ws) p ≡ true → rows_at ws f x l i p g ≡ g
  unfolding rows_at
  rows_past zero i p g e = refl
  rows_past (suc l) i p g e = rw e

  rows_step : (l i p : ℕ) (g : Got) → leb (length ws) p ≡ false → rows_at ws f x (suc l) i p g
      ≡ (if eqb (W.kind (word ws (f (suc p)).next)) 3
      give (λ _. rows_at ws f x l (suc i) (f (suc p)).next
      (add_row g (mode_is (W.mode (word ws p)) x && (f (suc p)).value) i (W.value (word ws p))))
      else (λ _. add_row g (mode_is (W.mode (word ws p)) x && (f (suc p)).value) i (W.value (word ws p))))
  unfolding rows_at
  rows_step l i p g e = rw e

  module _ (i on : ℕ) (g all : Got) (inv : rows_at ws f x (Max.max_rows - i) i on g ≡ all) where
    pub rows_out : length ws ≤ on → g ≡ all
    rows_out h = sym (rows_past (Max.max_rows - i) i on g (le-leb (length ws) on h)) ∙ inv

    pub rows_all : Max.max_rows ≤ i → g ≡ all
    unfolding rows_at
    rows_all h = let z : Max.max_rows - i ≡ 0 = omega arith in rw z at inv

    module _ (w : ℕ) (j : Judged) (r : Got) (q : Bool) (h : i < Max.max_rows) (hl : on < length ws)
        (ej : j ≡ f (on + 1)) (ew : w ≡ word ws on)
        (er : r ≡ add_row g (mode_is (W.mode w) x && j.value) i (W.value w)) (eq : q ≡ eqb (W.kind (word ws j.next)) 3) where
      turn : (if q give (λ _. rows_at ws f x (Max.max_rows - (i + 1)) (i + 1) j.next r) else (λ _. r)) ≡ all
      turn =
          rw (eq, er, ew, ej, add-one on, add-one i)
          (sym (rows_step (Max.max_rows - suc i) i on g (lt-leb (length ws) on hl)) ∙ (rw (left Max.max_rows i h, add-one i) at inv))

      pub rows_end : not q ≡ true → r ≡ all
      rows_end n = rw (not-true q n) at turn

      pub rows_on : not q ≡ false → rows_at ws f x (Max.max_rows - (i + 1)) (i + 1) j.next r ≡ all
      rows_on e = rw (not-false q e) at turn

pub ruleset rows_laws = (rows_out, rows_all, rows_end, rows_on)
