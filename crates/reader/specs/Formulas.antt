-- What code that keeps places alone says of formulas and rows. Rows are typed by their formula, places are not: these are the same
-- readings for a table of type t, which is 3 for a condition table.
use Rattle.std.specs.Prelude.{ℕ, Bool, true, false, List, eqb}
use Rattle.word.specs.Limits as Max
use Rattle.meaning.specs.Answers.{if◌give◌else◌}
use Rattle.meaning.specs.Syntax.{Condition, Event, Variable}
use Rattle.meaning.specs.Reading.{Read, read_condition, read_event, read_row, read_rows}
use Rattle.index.specs.Places.{Reached, reach, then_at}

-- the number of a word's refusal, 0 for none: "each word, in this order", 2, 4, 3, 5
unfoldable pub fault_of : (fits room ranged suited : Bool) → ℕ
fault_of false room ranged suited = 2
fault_of true false ranged suited = 4
fault_of true true false suited = 3
fault_of true true true false = 5
fault_of true true true true = 0

module _ (ws : List ℕ) (vs : List Variable) where
  -- the two conditions of a change
  unfoldable pub change_reach : ℕ → ℕ → Reached
  change_reach left i = then_at (reach (read_condition ws vs left i)) (λ j. reach (read_condition ws vs left j))

  -- what a reading says that takes the reader of formulas as an argument, in a table of type t
  abbrev pub by_type : ℕ → ((F : Type 0) → (ℕ → Read F) → Reached) → Reached
  by_type t reading =
      if eqb t 3
      give (λ _. reading Condition (read_condition ws vs Max.max_depth))
      else (λ _. reading Event (read_event ws vs Max.max_depth))

  -- the formula of a row
  unfoldable pub formula_reach : ℕ → ℕ → Reached
  formula_reach t i = by_type t (λ F formula. reach (formula i))

  -- a row and rows, of the table for v that reads class m, `left` of them still allowed
  unfoldable pub row_reach : (t v m left i : ℕ) → Reached
  row_reach t v m left i = by_type t (λ F formula. reach (read_row ws vs formula v m left i))

  unfoldable pub rows_reach : (t v m left i : ℕ) → Reached
  rows_reach t v m left i = by_type t (λ F formula. reach (read_rows ws vs formula v m left i))
