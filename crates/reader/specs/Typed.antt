-- What the answers of read_words and read_typed say.
use Rattle.std.specs.Prelude.{ℕ, ◌<◌, ◌≡◌, List, [], ◌∷◌, length, get_or, Result, Ok, Err}
use Rattle.word.specs.Limits as Max
use Rattle.meaning.specs.Answers.{ok, refuse}
use Rattle.meaning.specs.Syntax.{TableSet}
use Rattle.meaning.specs.Reading.{read_words}
use Rattle.meaning.specs.States.{weight, state_count, read_typed}
use Rattle.index.specs.Places.{place_count}
use Rattle.index.specs.Indexed.{Indexed}
use Rattle.reader.specs.declared.Sections.{Sections}
use Rattle.reader.specs.declared.Typed.{Typed}
use Rattle.reader.specs.declared.faults.Fault.{Fault}
use Rattle.reader.specs.Faults.{refusal, carried}

-- refusals 1 to 5, or the index of the set that the words say
unfoldable pub ReadAs : List ℕ → Result Sections Fault → Type 0
ReadAs ws (Ok s) = (z : TableSet) × Indexed ws z s.found.count s.assertions s.found.places
ReadAs ws (Err f) = read_words ws ≡ refuse (refusal f) (carried f ∷ [])

-- the set z that the words say, which passes refusals 1 to 8: its index, the weights of its n variables and the number c of its states
pub record TypedSet (ws : List ℕ) (z : TableSet) (n a c : ℕ) (ps us : List ℕ) : Type 0 where
  pub typed : read_typed ws ≡ ok z
  pub indexed : Indexed ws z n a ps
  pub places_long : length ps ≡ place_count
  pub weights_long : length us ≡ Max.max_variables
  pub weights_are : (v : ℕ) → v < n → get_or us v 0 ≡ weight z v
  pub states_are : c ≡ state_count z

unfoldable pub TypedAs : List ℕ → Result Typed Fault → Type 0
TypedAs ws (Ok t) = (z : TableSet) × TypedSet ws z t.extent.variables t.extent.assertions t.extent.states t.places t.weights
TypedAs ws (Err f) = read_typed ws ≡ refuse (refusal f) (carried f ∷ [])
