-- Text put into a buffer.
use Rattle.std.specs.Prelude.{ℕ, ◌+◌, ◌≡◌, List, length}
use Rattle.std.proofs.lemmas.List.Edits.{sets}

-- every byte of a buffer, and the place in it where the next text goes
pub data Buffer : Type 0 where
  buffer : List ℕ → ℕ → Buffer

infixl 10 ◌with◌
-- text put there, all other bytes as they were, and the place after the text
unfoldable pub ◌with◌ : Buffer → List ℕ → Buffer
buffer xs at with text = buffer (sets xs at text) (at + length text)

-- the text, put into xs from a place on, makes it ys; r is the place after the text
abbrev pub Puts : List ℕ → List ℕ → ℕ → List ℕ → ℕ → Type 0
Puts text xs at ys r = buffer ys r ≡ buffer xs at with text
