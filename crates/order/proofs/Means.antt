-- The order and the cycle that are worked out from words and places are those of the meaning.
use Rattle.std.specs.Prelude.{ℕ, zero, suc, ◌+◌, ◌≤◌, ◌<◌, ◌≡◌, refl, ◌⊎◌, Bool, true, not, ◌&&◌, ◌||◌, List, [], ◌∷◌, ◌++◌, eqb, length, get_or}
use Rattle.std.proofs.Common.{sym, ap, ◌∙◌, subst, inl, inr, arith, length-append}
use Rattle.std.proofs.Math.Option.{Option, none, some}
use Rattle.word.specs.Limits as Max
use Rattle.meaning.specs.Answers.{ok}
use Rattle.meaning.specs.Searches.{least, or_else, all_below, mem, iterate}
use Rattle.meaning.specs.Syntax.{TableSet}
use Rattle.meaning.specs.Lookup.{count}
use Rattle.meaning.specs.Order.{reads, ready, taking, take_more, order, stuck, move, shown, moves_back, cycle_from, no_cycle}
use Rattle.index.specs.Indexed.{Indexed}
use Rattle.index.proofs.Means.{count_is}
use Rattle.theory.specs.Tests.{mem_split, mem_append, mem_left, mem_right, mem_cons}
use Rattle.theory.specs.Found.{LeastView, absent, found, least_view}
use Rattle.theory.specs.Numbers.{get_or_list_of}
use Rattle.theory.specs.Orders.{all_ordered}
use Rattle.index.specs.Bits.{bit_in}
use Rattle.order.specs.Masks.{table_mask, masks_at}
use Rattle.order.specs.Orders.{mask_of, covered, untaken_by, least_stuck, stuck_read, ready_by, least_ready, take_by, order_by, taken_by, move_by, shown_by, home_by, back_by, cycle_of, cycle_by, order_at, no_cycle_at}
use Rattle.order.proofs.Bits.{mem_bit}
use Rattle.order.proofs.Masking.{reads_mean}

-- ---- searches and walks go by what their tests and moves give below n
all_same : (f g : ℕ → Bool) (n : ℕ) → ((k : ℕ) → k < n → f k ≡ g k) → all_below f n ≡ all_below g n
unfolding all_below
all_same f g zero h = refl
all_same f g (suc n) h = rw (all_same f g n (λ k l. h k (omega arith)), h n (omega arith))

least_same : (f g : ℕ → Bool) (n : ℕ) → ((k : ℕ) → k < n → f k ≡ g k) → least f n ≡ least g n
unfolding least
least_same f g zero h = refl
least_same f g (suc n) h = rw (least_same f g n (λ k l. h k (omega arith)), h n (omega arith))

taking_same : (o : Option ℕ) (taken : List ℕ) (f g : List ℕ → List ℕ) → ((l : List ℕ) → f l ≡ g l) → taking o taken f ≡ taking o taken g
unfolding taking
taking_same none taken f g h = refl
taking_same (some v) taken f g h = h (taken ++ (v ∷ []))

module _ (f g : ℕ → ℕ) (n : ℕ) (same : (u : ℕ) → u < n → f u ≡ g u) (below : (u : ℕ) → u < n → f u < n) where
  walk_below : (k v : ℕ) → v < n → iterate f k v < n
  unfolding iterate
  walk_below zero v h = h
  walk_below (suc k) v h = below (iterate f k v) (walk_below k v h)

  walk_same : (k v : ℕ) → v < n → iterate f k v ≡ iterate g k v
  unfolding iterate
  walk_same zero v h = refl
  walk_same (suc k) v h = same (iterate f k v) (walk_below k v h) ∙ ap g (walk_same k v h)

-- ---- the masks say what each variable reads
module _ (z : TableSet) (ms : List ℕ) (few : count z ≤ Max.max_variables)
    (masked : (v b : ℕ) → v < count z → b < count z → reads z v b ≡ bit_in (get_or ms v 0) b) where
  ready_same : (taken : List ℕ) (v : ℕ) → v < count z → ready z taken v ≡ ready_by ms (count z) (mask_of taken 0) v
  unfolding ready ready_by untaken_by covered
  ready_same taken v h =
      rw (
        mem_bit taken v (omega arith),
        all_same (λ b. not (reads z v b) || mem b taken) (λ b. not (bit_in (get_or ms v 0) b) || bit_in (mask_of taken 0) b) (count z)
            (λ b l. rw (masked v b h l, mem_bit taken b (omega arith))),
      )

  take_same : (k : ℕ) (taken : List ℕ) → take_more z k taken ≡ take_by ms (count z) k taken
  unfolding take_more take_by least_ready
  take_same zero taken = refl
  take_same (suc k) taken =
      rw (least_same (ready z taken) (ready_by ms (count z) (mask_of taken 0)) (count z) (ready_same taken))
      (taking_same (least (ready_by ms (count z) (mask_of taken 0)) (count z)) taken (take_more z k) (take_by ms (count z) k) (take_same k))

  order_same : order z ≡ order_by ms (count z)
  unfolding order order_by
  order_same = take_same (count z) []

  abbrev ever : ℕ
  ever = taken_by ms (count z)

  stuck_same : (v : ℕ) → v < count z → stuck z v ≡ untaken_by ever v
  unfolding stuck untaken_by taken_by
  stuck_same v h = rw (mem_bit (order z) v (omega arith), order_same)

  move_same : (v : ℕ) → v < count z → move z v ≡ move_by ms (count z) ever v
  unfolding move move_by stuck_read
  move_same v h =
      rw (least_same (λ b. stuck z b && reads z v b) (stuck_read (get_or ms v 0) ever) (count z) (λ b l. rw (stuck_same b l, masked v b h l)))

  move_below : (v : ℕ) → v < count z → move z v < count z
  unfolding move or_else
  move_below v h = go (least_view (λ b. stuck z b && reads z v b) (count z))
    where
      go : {o : Option ℕ} → LeastView (λ b. stuck z b && reads z v b) (count z) o → or_else o v < count z
      go (absent f) = h
      go (found k l e f) = l

  walk : (k v : ℕ) → v < count z → iterate (move z) k v ≡ iterate (move_by ms (count z) ever) k v
  walk = walk_same (move z) (move_by ms (count z) ever) (count z) move_same move_below

  back_same : (w : ℕ) → w < count z → moves_back z w ≡ back_by ms (count z) ever w
  unfolding moves_back back_by home_by
  back_same w h =
      rw (least_same (λ k. eqb (iterate (move z) (suc k) w) w) (home_by ms (count z) ever w) (count z) (λ k l. rw (walk (suc k) w h)))

  cycle_same : no_cycle z ≡ cycle_by ms (count z) ever
  unfolding no_cycle cycle_from cycle_by cycle_of least_stuck shown shown_by
  cycle_same = rw (← least_same (stuck z) (untaken_by ever) (count z) stuck_same) (go (least_view (stuck z) (count z)))
    where
      go : {o : Option ℕ} → LeastView (stuck z) (count z) o → cycle_from z o ≡ cycle_of ms (count z) ever o
      go (absent f) = refl
      go (found v l e f) =
          let h = walk_below (move z) (move_by ms (count z) ever) (count z) move_same move_below Max.cycle_moves v l in
          rw (back_same (iterate (move z) Max.cycle_moves v) h, walk Max.cycle_moves v l)

-- ---- the index
module _ {ws : List ℕ} {z : TableSet} {n a : ℕ} {ps : List ℕ} (ix : Indexed ws z n a ps) where
  counted : count z ≡ n
  counted = count_is ix

  few : count z ≤ Max.max_variables
  few = rw counted ix.few

  masked : (v b : ℕ) → v < count z → b < count z → reads z v b ≡ bit_in (get_or (masks_at ws ps) v 0) b
  unfolding masks_at
  masked v b h l =
      let f = few in
      rw (get_or_list_of (λ u. table_mask ws (get_or ps u 0)) Max.max_variables 0 v (omega arith)) (reads_mean ix v b (rw (← counted) h) (omega arith))

pub order_means : {ws : List ℕ} {z : TableSet} {n a : ℕ} {ps : List ℕ} → Indexed ws z n a ps
    → (order_at ws ps n ≡ order z) × (no_cycle_at ws ps n ≡ no_cycle z)
unfolding order_at no_cycle_at
order_means {ws} {z} {ps} ix =
    rw (← counted ix)
    (sym (order_same z (masks_at ws ps) (few ix) (masked ix)), sym (cycle_same z (masks_at ws ps) (few ix) (masked ix)))

-- ---- how many the order has
taken_few : (z : TableSet) (k : ℕ) (taken : List ℕ) → length (take_more z k taken) ≤ k + length taken
unfolding take_more taking
taken_few z zero taken = omega arith
taken_few z (suc k) taken = go (least (ready z taken) (count z)) (taken_few z k)
  where
    go : (o : Option ℕ) → ((l : List ℕ) → length (take_more z k l) ≤ k + length l) → length (taking o taken (take_more z k)) ≤ suc k + length taken
    go none ih = omega arith
    go (some v) ih = omega (arith, ih (taken ++ (v ∷ [])), length-append taken (v ∷ []))

-- a list that has each number below n has n elements at least: without the last of them it has the others still
others : (n v : ℕ) (front rest : List ℕ) → v < n → mem v (front ++ (n ∷ rest)) ≡ true → mem v (front ++ rest) ≡ true
others n v front rest l m = go (mem_append v front (n ∷ rest) m)
  where
    go : (mem v front ≡ true) ⊎ (mem v (n ∷ rest) ≡ true) → mem v (front ++ rest) ≡ true
    go (inl q) = mem_left v front rest q
    go (inr q) =
        elim (mem_cons v n rest q) [ inl e ↦ absurd (let x : ⊥ = omega arith in x) | inr r ↦ mem_right v front rest r ]

all_listed : (n : ℕ) (xs : List ℕ) → ((v : ℕ) → v < n → mem v xs ≡ true) → n ≤ length xs
all_listed zero xs h = omega arith
all_listed (suc n) xs h =
    let s = mem_split n xs (h n (omega arith)) in
    let ih = all_listed n (s.0 ++ s.1) (λ v l. others n v s.0 s.1 l (subst (λ (o : List ℕ). mem v o ≡ true) s.2 (h v (omega arith)))) in
    omega (arith, ih, length-append s.0 s.1, length-append s.0 (n ∷ s.1), ap length s.2)

order_count : (z : TableSet) → no_cycle z ≡ ok tt → length (order z) ≡ count z
unfolding order
order_count z e = omega (arith, taken_few z (count z) [], all_listed (count z) (order z) (all_ordered z e))

pub order_below : {ws : List ℕ} {z : TableSet} {n a : ℕ} {ps : List ℕ} → Indexed ws z n a ps → no_cycle z ≡ ok tt
    → length (order_at ws ps n) ≡ n
order_below {z} ix e = ap length (order_means ix).0 ∙ order_count z e ∙ counted ix
