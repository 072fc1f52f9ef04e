-- Numbers that follow from widths.
use Rattle.std.specs.Prelude.{ℕ, ◌^◌}

-- bits of the type of a value in the code, which has room for value_bits
abbrev pub type_bits : ℕ
type_bits = 8

-- how many numbers a word has
abbrev pub word_number_count : ℕ
word_number_count = 2 ^ 32
