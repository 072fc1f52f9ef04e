-- The dependency order and the cycle shown, worked out from masks: the meaning's own definitions with a bit of a mask for each of
-- their tests. ms are the masks of what each variable reads, n is the number of variables.
use Rattle.std.specs.Prelude.{ℕ, zero, suc, Bool, not, ◌&&◌, ◌||◌, List, [], ◌∷◌, eqb, get_or, Result, Ok, Err}
use Rattle.std.proofs.Math.Option.{Option, none, some}
use Rattle.std.specs.Int.Bits.{bit_or}
use Rattle.word.specs.Limits as Max
use Rattle.meaning.specs.Answers.{Outcome, ok, refuse}
use Rattle.meaning.specs.Searches.{least, or_else, all_below, iterate}
use Rattle.meaning.specs.Order.{taking}
use Rattle.index.specs.Bits.{bit_in, one_bit}
use Rattle.order.specs.declared.Cycle.{Cycle}
use Rattle.order.specs.Masks.{masks_at}

-- document 01's number and values for each case
unfoldable pub cycle_said : Result (Unit {0}) Cycle → Outcome (Unit {0})
cycle_said (Ok u) = ok tt
cycle_said (Err c) = refuse 9 (c.variable ∷ c.length ∷ [])

-- the mask m with the variables of a list
unfoldable pub mask_of : List ℕ → ℕ → ℕ
mask_of [] m = m
mask_of (v ∷ vs) m = mask_of vs (bit_or m (one_bit v))

-- every bit of m below n is one of t
unfoldable pub covered : ℕ → ℕ → ℕ → Bool
covered m t n = all_below (λ b. not (bit_in m b) || bit_in t b) n

-- ---- t is the mask of what is taken, or for the cycle of what is ever taken, so that the untaken are stuck
unfoldable pub untaken_by : ℕ → ℕ → Bool
untaken_by t v = not (bit_in t v)

unfoldable pub least_stuck : ℕ → ℕ → Option ℕ
least_stuck t n = least (untaken_by t) n

-- b is stuck, and read by what has the mask m
unfoldable pub stuck_read : ℕ → ℕ → ℕ → Bool
stuck_read m t b = untaken_by t b && bit_in m b

module _ (ms : List ℕ) (n : ℕ) where
  unfoldable pub ready_by : ℕ → ℕ → Bool
  ready_by t v = untaken_by t v && covered (get_or ms v 0) t n

  unfoldable pub least_ready : ℕ → Option ℕ
  least_ready t = least (ready_by t) n

  unfoldable pub take_by : ℕ → List ℕ → List ℕ
  take_by zero taken = taken
  take_by (suc k) taken = taking (least_ready (mask_of taken 0)) taken (take_by k)

  unfoldable pub order_by : List ℕ
  order_by = take_by n []

  unfoldable pub taken_by : ℕ
  taken_by = mask_of order_by 0

  module _ (t : ℕ) where
    unfoldable pub move_by : ℕ → ℕ
    move_by v = or_else (least (stuck_read (get_or ms v 0) t) n) v

    unfoldable pub shown_by : ℕ → ℕ
    shown_by v = iterate move_by Max.cycle_moves v

    -- k + 1 moves lead from w to w
    unfoldable pub home_by : ℕ → ℕ → Bool
    home_by w k = eqb (iterate move_by (suc k) w) w

    unfoldable pub back_by : ℕ → ℕ
    back_by w = suc (or_else (least (home_by w) n) 0)

    unfoldable pub cycle_of : Option ℕ → Outcome (Unit {0})
    cycle_of none = ok tt
    cycle_of (some v) = refuse 9 (shown_by v ∷ back_by (shown_by v) ∷ [])

    unfoldable pub cycle_by : Outcome (Unit {0})
    cycle_by = cycle_of (least_stuck t n)

-- ---- from words and places
unfoldable pub order_at : List ℕ → List ℕ → ℕ → List ℕ
order_at ws ps n = order_by (masks_at ws ps) n

unfoldable pub no_cycle_at : List ℕ → List ℕ → ℕ → Outcome (Unit {0})
no_cycle_at ws ps n = cycle_by (masks_at ws ps) n (taken_by (masks_at ws ps) n)
