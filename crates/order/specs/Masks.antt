-- What each variable reads, as a mask, from words and places alone. Bit b of v's mask stands for "v reads b".
-- Nothing is assumed of the words: where no formula can be read, nothing is read.
use Rattle.std.specs.Prelude.{ℕ, zero, suc, List, eqb, leb, get_or, length}
use Rattle.std.specs.Int.Bits.{bit_or}
use Rattle.word.specs.Fields as W
use Rattle.word.specs.Limits as Max
use Rattle.meaning.specs.Answers.{if◌give◌else◌}
use Rattle.meaning.specs.Searches.{list_of}
use Rattle.meaning.specs.Reading.{word}
use Rattle.index.specs.Bits.{one_bit}
use Rattle.order.specs.declared.Masked.{Masked}

abbrev pub nothing_at : ℕ → Masked
nothing_at i = record { mask = 0; next = i }

-- what two formulas read, one after the other
abbrev pub both_from : (ℕ → Masked) → ℕ → Masked
both_from f i = record { mask = bit_or (f i).mask (f (f i).next).mask; next = (f (f i).next).next }

-- what the first of two formulas reads
abbrev pub first_from : (ℕ → Masked) → ℕ → Masked
first_from f i = record { mask = (f i).mask; next = (f (f i).next).next }

-- ---- formulas, by their first word w at place i; `rec` and `cond` scan an operand
unfoldable pub condition_mask_by : (ℕ → Masked) → ℕ → ℕ → Masked
condition_mask_by rec w i =
    if eqb (W.operands w) 2 give (λ _. both_from rec (suc i))
    else λ _. if eqb (W.operands w) 1 give (λ _. rec (suc i))
    else λ _. if eqb (W.kind w) 4 give (λ _. record { mask = one_bit (W.variable w); next = suc i })
    else λ _. nothing_at (suc i)

unfoldable pub event_mask_by : (ℕ → Masked) → (ℕ → Masked) → ℕ → ℕ → Masked
event_mask_by rec cond w i =
    if eqb (W.operands w) 2
    give (λ _. if eqb (W.kind w) 7 give (λ _. both_from rec (suc i)) else λ _. first_from cond (suc i))
    else λ _. nothing_at (suc i)

module _ (ws : List ℕ) where
  unfoldable pub condition_mask : ℕ → ℕ → Masked
  condition_mask zero i = nothing_at i
  condition_mask (suc left) i =
      if leb (length ws) i give (λ _. nothing_at i) else (λ _. condition_mask_by (condition_mask left) (word ws i) i)

  unfoldable pub event_mask : ℕ → ℕ → Masked
  event_mask zero i = nothing_at i
  event_mask (suc left) i =
      if leb (length ws) i give (λ _. nothing_at i) else (λ _. event_mask_by (event_mask left) (condition_mask left) (word ws i) i)

  -- the formula of a row in a table of type t
  unfoldable pub formula_mask : ℕ → ℕ → Masked
  formula_mask t i = if eqb t 3 give (λ _. condition_mask Max.max_depth i) else (λ _. event_mask Max.max_depth i)

  -- m, and what the rows from p on read, `left` of them still allowed
  unfoldable pub rows_mask : ℕ → ℕ → ℕ → ℕ → ℕ
  rows_mask t zero p m = m
  rows_mask t (suc left) p m =
      if leb (length ws) p give (λ _. m)
      else λ _.
      let j = formula_mask t (suc p) in
      if eqb (W.kind (word ws j.next)) 3 give (λ _. rows_mask t left j.next (bit_or m j.mask)) else (λ _. bit_or m j.mask)

  -- the table whose first row stands at a place
  unfoldable pub table_mask : ℕ → ℕ
  table_mask zero = 0
  table_mask (suc i) =
      rows_mask (W.sort (word ws i)) Max.max_rows (suc i)
      (if eqb (W.sort (word ws i)) 3 give (λ _. one_bit (W.class_read (word ws i))) else (λ _. 0))

  unfoldable pub masks_at : List ℕ → List ℕ
  masks_at ps = list_of (λ v. table_mask (get_or ps v 0)) Max.max_variables
