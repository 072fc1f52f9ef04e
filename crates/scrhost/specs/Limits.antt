-- Bytes that the host refuses by their number alone.
use Rattle.std.specs.Prelude.{ℕ, List, ◌≡◌}
use Rattle.meaning.specs.Answers.{refuse, ◌>>=◌}
use Rattle.meaning.specs.States.{read_set}
use Rattle.meaning.specs.Host.{host_words}

-- no whole words, or more than a set has: reading them is refusal 1
abbrev pub Refused : List ℕ → Type 0
Refused bs = (xs : List ℕ) × ((host_words bs >>= λ ws. read_set ws) ≡ refuse 1 xs)
