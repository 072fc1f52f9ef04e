use Rattle.std.specs.Prelude.{ℕ, zero, suc, ◌+◌, ◌-◌, ◌≤◌, ◌<◌, ◌≡◌, Bool, true, false, not, ◌&&◌, ◌||◌, List, [], ◌∷◌, ◌++◌, eqb, length, get_or, set, take, Some, None, Ok, Err, Result, unwrap_or}
use Rattle.std.specs.Prelude as R
use Rattle.std.specs.Int.Bits.{bit_or}
use Rattle.std.proofs.Common.{refl, sym, ap, ◌∙◌, arith, add-one}
use Rattle.std.proofs.Math.Option.{Option, none, some}
use Rattle.std.proofs.Math.Nat.{sub-zero}
use Rattle.std.proofs.Common.{length-take}
use Rattle.std.proofs.lemmas.List.{set-get_or, take-append-le}
use Rattle.std.proofs.Common.{take-suc-set}
use Rattle.std.proofs.lemmas.Bool.{eq-eqb, ne_eqb}
use Rattle.word.specs.Limits as Max
use Rattle.meaning.specs.Searches.{least, or_else, iterate}
use Rattle.meaning.specs.Order.{taking}
use Rattle.theory.specs.Found.{least_here, least_on, least_end}
use Rattle.theory.specs.Loops.{left}
use Rattle.order.specs.declared.Cycle.{Cycle}
use Rattle.index.specs.Bits.{bit_in, one_bit}
use Rattle.index.specs.Search.{found_of}
use Rattle.index.proofs.Searching.{unwrap_found}
use Rattle.order.specs.Masks.{masks_at}
use Rattle.order.specs.Orders.{cycle_said, mask_of, covered, untaken_by, least_stuck, stuck_read, ready_by, least_ready, take_by, order_by, taken_by, move_by, shown_by, home_by, back_by, cycle_of, cycle_by, order_at, no_cycle_at}

-- ---- what is found
pub least_start : (f : ℕ → Bool) → least f 0 ≡ none
unfolding least
least_start f = refl

found_none : (o : Option ℕ) → found_of o ≡ None → o ≡ none
unfolding found_of
found_none none e = refl
found_none (some v) e = absurd (let z : ◌≡◌ {A = ℕ} 0 1 = cc in omega arith)

found_some : (o : Option ℕ) (v : ℕ) → found_of o ≡ Some v → o ≡ some v
unfolding found_of
found_some none v e = absurd (let z : ◌≡◌ {A = ℕ} 0 1 = cc in omega arith)
found_some (some w) v e = let q : w ≡ v = cc in rw q

pub untaken_is : (t v : ℕ) (x : Bool) → x ≡ bit_in t v → not x ≡ untaken_by t v
unfolding untaken_by
untaken_is t v x e = rw e

-- ---- are all taken that are read?
pub missing_is : (m t b : ℕ) (x y : Bool) → x ≡ bit_in m b → y ≡ bit_in t b → x && not y ≡ not (not (bit_in m b) || bit_in t b)
missing_is m t b x y ex ey = rw (← ex, ← ey) (both x y)
  where
    both : (x y : Bool) → x && not y ≡ not (not x || y)
    both true y = refl
    both false y = refl

pub not_missing : (m t b : ℕ) (x : Bool) → x ≡ not (not (bit_in m b) || bit_in t b) → not x ≡ not (bit_in m b) || bit_in t b
not_missing m t b x e = rw e (twice (not (bit_in m b) || bit_in t b))
  where
    twice : (x : Bool) → not (not x) ≡ x
    twice true = refl
    twice false = refl

pub ready_is : (ms : List ℕ) (n t v m : ℕ) (x y : Bool) → x ≡ untaken_by t v → m ≡ get_or ms v 0 → y ≡ covered m t n
    → x && y ≡ ready_by ms n t v
unfolding ready_by
ready_is ms n t v m x y ex em ey = rw (ex, ey, em)

-- one way out each
pub ready_then : (ms : List ℕ) (n t v m : ℕ) (x y : Bool) → x ≡ untaken_by t v → x ≡ true → m ≡ get_or ms v 0 → y ≡ covered m t n
    → y ≡ ready_by ms n t v
ready_then ms n t v m x y ex tx em ey = let h = ready_is ms n t v m x y ex em ey in rw tx at h

pub ready_else : (ms : List ℕ) (n t v : ℕ) (x : Bool) → x ≡ untaken_by t v → x ≡ false → x ≡ ready_by ms n t v
ready_else ms n t v x ex fx =
    let h : x && covered (get_or ms v 0) t n ≡ ready_by ms n t v = ready_is ms n t v _ x _ ex refl refl in
    let k : false ≡ ready_by ms n t v = rw fx at h in
    rw fx k

-- ---- the order
mask_grown : (xs : List ℕ) (v m : ℕ) → mask_of (xs ++ (v ∷ [])) m ≡ bit_or (mask_of xs m) (one_bit v)
unfolding mask_of
mask_grown [] v m = refl
mask_grown (x ∷ xs) v m = mask_grown xs v (bit_or m (one_bit x))

take_none : (xs : List ℕ) → take 0 xs ≡ []
take_none [] = refl
take_none (x ∷ xs) = refl

pub mask_start : (xs : List ℕ) → 0 ≡ mask_of (take 0 xs) 0
unfolding mask_of
mask_start [] = refl
mask_start (x ∷ xs) = refl

pub order_start : (ms : List ℕ) (n : ℕ) (xs : List ℕ) → take_by ms n (n - 0) (take 0 xs) ≡ order_by ms n
unfolding order_by
order_start ms n xs = rw (sub-zero n, take_none xs)

-- i variables are taken, in the front of xs, and have the mask t; xs is the front of what was os
module _ (ms : List ℕ) (n i t : ℕ) (xs os : List ℕ) (few : n ≤ Max.max_variables) (room : length os ≡ Max.max_variables)
    (same : length xs ≡ length (take n os)) (et : t ≡ mask_of (take i xs) 0) (inv : take_by ms n (n - i) (take i xs) ≡ order_by ms n) where
  front_length : length (take n os) ≡ n
  front_length = length-take n os ∙ omega arith

  -- the order ends here
  mask_end : take i xs ≡ order_by ms n → t ≡ taken_by ms n
  unfolding taken_by
  mask_end e = et ∙ ap (λ (o : List ℕ). mask_of o 0) e

  front : i ≤ length (take n os) → take i xs ≡ order_by ms n → (ys : List ℕ) → take (length (order_by ms n)) (xs ++ ys) ≡ order_by ms n
  front h e ys =
      let q : length (take i xs) ≡ i = length-take i xs ∙ omega arith in
      let l : i ≤ length xs = omega arith in
      rw (← e, q) (take-append-le i xs ys l)

  turn : i < n → (o : Option ℕ) → least_ready ms n t ≡ o → taking o (take i xs) (take_by ms n (n - (i + 1))) ≡ order_by ms n
  unfolding take_by
  turn h o eo = rw (← eo, et) (rw (left n i h) at inv)

  stopped : (r : R.Option ℕ) → i < length (take n os) → r ≡ found_of (least_ready ms n t) → r ≡ None → take i xs ≡ order_by ms n
  unfolding taking
  stopped r h er e = turn (omega (arith, front_length)) none (found_none _ (sym er ∙ e))

  ended : i ≤ length (take n os) → length (take n os) ≤ i → take i xs ≡ order_by ms n
  unfolding take_by
  ended h k = let z : n - i ≡ 0 = omega (arith, front_length) in rw z at inv

  pub mask_stop : (r : R.Option ℕ) → i < length (take n os) → r ≡ found_of (least_ready ms n t) → r ≡ None → t ≡ taken_by ms n
  mask_stop r h er e = mask_end (stopped r h er e)

  pub order_stop : (r : R.Option ℕ) (ys : List ℕ) → i < length (take n os) → r ≡ found_of (least_ready ms n t) → r ≡ None
      → take (length (order_by ms n)) (set xs i (get_or xs i 0) ++ ys) ≡ order_by ms n
  order_stop r ys h er e = rw (set-get_or xs i 0) (front (omega arith) (stopped r h er e) ys)

  pub mask_all : i ≤ length (take n os) → length (take n os) ≤ i → t ≡ taken_by ms n
  mask_all h k = mask_end (ended h k)

  pub order_all : (ys : List ℕ) → i ≤ length (take n os) → length (take n os) ≤ i → take (length (order_by ms n)) (xs ++ ys) ≡ order_by ms n
  order_all ys h k = front h (ended h k) ys

  grown : (v : ℕ) → i < length (take n os) → take (i + 1) (set xs i v) ≡ take i xs ++ (v ∷ [])
  grown v h = let b : i < length xs = omega arith in rw (add-one i) (take-suc-set xs i v b)

  pub mask_on : (v m : ℕ) → i < length (take n os) → m ≡ one_bit v → bit_or t m ≡ mask_of (take (i + 1) (set xs i v)) 0
  mask_on v m h em = rw (grown v h, mask_grown (take i xs) v 0, em, et)

  pub order_on : (r : R.Option ℕ) (v : ℕ) → i < length (take n os) → r ≡ found_of (least_ready ms n t) → r ≡ Some v
      → take_by ms n (n - (i + 1)) (take (i + 1) (set xs i v)) ≡ order_by ms n
  unfolding taking
  order_on r v h er e = rw (grown v h) (turn (omega (arith, front_length)) (some v) (found_some _ v (sym er ∙ e)))

pub ruleset taking_laws = (mask_start, order_start, mask_on, order_on, mask_stop, order_stop, mask_all, order_all)

-- ---- one move
pub stuck_read_is : (m t b : ℕ) (x y : Bool) → x ≡ untaken_by t b → y ≡ bit_in m b → x && y ≡ stuck_read m t b
unfolding stuck_read
stuck_read_is m t b x y ex ey = rw (ex, ey)

pub moved : (ms : List ℕ) (n t v m r : ℕ) (o : R.Option ℕ) → m ≡ get_or ms v 0 → o ≡ found_of (least (stuck_read m t) n) → r ≡ unwrap_or o v
    → r ≡ move_by ms n t v
unfolding move_by
moved ms n t v m r o em eo er = rw (er, eo, em, unwrap_found)

-- ---- many moves
module _ (ms : List ℕ) (n t v : ℕ) where
  pub moves_none : v ≡ iterate (move_by ms n t) 0 v
  unfolding iterate
  moves_none = refl

  pub moves_on : (i u r : ℕ) → u ≡ iterate (move_by ms n t) i v → r ≡ move_by ms n t u → r ≡ iterate (move_by ms n t) (i + 1) v
  unfolding iterate
  moves_on i u r eu er = rw (er, eu, add-one i)

-- ---- the moves back
module _ (ms : List ℕ) (n t w k : ℕ) (i : least (home_by ms n t w) k ≡ none) where
  pub back_none : k ≤ n → n ≤ k → 1 ≡ back_by ms n t w
  unfolding back_by or_else
  back_none h l = rw (least_end (home_by ms n t w) n k h l i)

  module _ (u r : ℕ) (eu : u ≡ iterate (move_by ms n t) k w) (er : r ≡ move_by ms n t u) where
    home_is : home_by ms n t w k ≡ eqb r w
    unfolding home_by iterate
    home_is = rw (er, eu)

    pub back_found : k < n → r ≡ w → k + 1 ≡ back_by ms n t w
    unfolding back_by or_else
    back_found h e = rw (least_here (home_by ms n t w) n k h i (home_is ∙ eq-eqb r w e), add-one k)

    pub back_on : (r ≡ w → ⊥) → least (home_by ms n t w) (k + 1) ≡ none
    back_on e = least_on (home_by ms n t w) k i (home_is ∙ ne_eqb r w e)

pub ruleset back_laws = (least_start, moves_none, moves_on, back_found, back_on, back_none)

-- ---- the cycle
module _ (ms : List ℕ) (n t : ℕ) (f : R.Option ℕ) (ef : f ≡ found_of (least_stuck t n)) where
  pub cycle_none : f ≡ None → cycle_said (Ok tt) ≡ cycle_by ms n t
  unfolding cycle_said cycle_by cycle_of
  cycle_none e = rw (found_none _ (sym ef ∙ e))

  pub cycle_some : (v w m : ℕ) → f ≡ Some v → w ≡ shown_by ms n t v → m ≡ back_by ms n t w
      → cycle_said (Err (record { variable = w; length = m })) ≡ cycle_by ms n t
  unfolding cycle_said cycle_by cycle_of
  cycle_some v w m e ew em = rw (found_some _ v (sym ef ∙ e), em, ew)

pub ruleset cycle_laws = (cycle_none, cycle_some)

-- ---- the whole
module _ (ws ps ms : List ℕ) (n : ℕ) (e : ms ≡ masks_at ws ps) where
  pub tables_cycle : (t : ℕ) (r : Result (Unit {0}) Cycle) → t ≡ taken_by ms n → cycle_said r ≡ cycle_by ms n t → cycle_said r ≡ no_cycle_at ws ps n
  unfolding no_cycle_at
  tables_cycle t r et er = er ∙ rw (et, e)

  pub tables_order : (xs : List ℕ) → take (length (order_by ms n)) xs ≡ order_by ms n
      → take (length (order_at ws ps n)) xs ≡ order_at ws ps n
  unfolding order_at
  tables_order xs q = rw e at q

pub ruleset tables_laws = (tables_cycle, tables_order)
