-- What a state holds of each variable, from words and places.
use Rattle.std.specs.Prelude.{ℕ, ◌-◌, Bool, not, ◌||◌, List, eqb, get_or}
use Rattle.word.specs.Fields as W
use Rattle.meaning.specs.Answers.{if◌give◌else◌}
use Rattle.meaning.specs.Searches.{product_below}
use Rattle.meaning.specs.Reading.{word}
use Rattle.index.specs.Places.{head_of}

-- held, by the place of a variable's table: none, or not of type 3
unfoldable pub held_by : List ℕ → ℕ → Bool
held_by ws p = eqb p 0 || not (eqb (W.sort (word ws (p - 1))) 3)

module _ (ws ps : List ℕ) where
  unfoldable pub held_at : ℕ → Bool
  held_at v = held_by ws (get_or ps v 0)

  -- how many values v adds to a state
  unfoldable pub radix_at : ℕ → ℕ
  radix_at v = if held_at v give (λ _. W.size (word ws (head_of ps v))) else (λ _. 1)

  -- what one more of v's value adds to the number of a state
  unfoldable pub weight_at : ℕ → ℕ
  weight_at v = product_below radix_at v
