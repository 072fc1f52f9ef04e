-- What an entry begins with: whether the words read, and the index of the set that they say.
use Rattle.std.specs.Prelude.{ℕ, Bool, true, false, List}
use Rattle.meaning.specs.Answers.{Outcome, ok, refuse}
use Rattle.meaning.specs.States.{read_set}
use Rattle.meaning.specs.Run.{Ran}
use Rattle.index.specs.declared.variables.Index.{Index}
use Rattle.simulator.specs.RunIndex.{run_index}
pub use Rattle.set.specs.Opened.{IndexOf}

unfoldable pub is_ok : {A : Type 0} → Outcome A → Bool
is_ok (ok a) = true
is_ok (refuse n xs) = false

-- do the words read?
unfoldable pub reads_well : List ℕ → Bool
reads_well ws = is_ok (read_set ws)

-- the events in turn from state s, by the index
unfoldable pub run_in : Index → ℕ → List ℕ → Ran
run_in x s es = run_index x.variables.words.now x.variables.places.now x.weights.now x.order.now x.variables.count 0 s es
