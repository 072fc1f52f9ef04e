-- How much a refusal carries.
use Rattle.std.specs.Prelude.{ℕ}

-- numbers that a refusal carries at most
abbrev pub max_carried : ℕ
max_carried = 6
