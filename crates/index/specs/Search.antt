-- What a search of the code gives, from what the meaning's search says.
use Rattle.std.specs.Prelude.{ℕ, Some, None}
use Rattle.std.specs.Prelude as R
use Rattle.std.proofs.Math.Option.{Option, none, some}

-- the lowest number that passed a test, as the code holds it
unfoldable pub found_of : Option ℕ → R.Option ℕ
found_of none = None
found_of (some k) = Some k
