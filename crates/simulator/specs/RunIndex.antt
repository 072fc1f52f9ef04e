-- A run as the code works it out over the index of a set: the meaning's run, step by step with the index's step.
use Rattle.std.specs.Prelude.{ℕ, suc, List, [], ◌∷◌}
use Rattle.meaning.specs.Answers.{ok, refuse}
use Rattle.meaning.specs.Run.{Ran}
use Rattle.simulator.specs.StepIndex.{step_index}

-- the events from number i on, from state s
unfoldable pub run_index : List ℕ → List ℕ → List ℕ → List ℕ → ℕ → ℕ → ℕ → List ℕ → Ran
run_index ws ps us os n i s [] = record { done = []; last = ok s }
run_index ws ps us os n i s (w ∷ es) = elim (step_index ws ps us os n i s w) [
  | ok t ↦ let r = run_index ws ps us os n (suc i) t es in record { done = t ∷ r.done; last = r.last }
  | refuse k xs ↦ record { done = []; last = refuse k xs }
]
