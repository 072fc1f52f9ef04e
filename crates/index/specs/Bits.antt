-- Masks of variables: bit v of a mask stands for variable v.
use Rattle.std.specs.Prelude.{ℕ, ◌/◌, ◌%◌, ◌^◌, Bool, eqb, ltb}
use Rattle.word.specs.Limits as Max
use Rattle.meaning.specs.Answers.{if◌give◌else◌}

unfoldable pub bit_in : ℕ → ℕ → Bool
bit_in m b = eqb (m / 2 ^ b % 2) 1

-- the mask of variable v alone; none past the last variable
unfoldable pub one_bit : ℕ → ℕ
one_bit v = if ltb v Max.max_variables give (λ _. 2 ^ v) else (λ _. 0)
