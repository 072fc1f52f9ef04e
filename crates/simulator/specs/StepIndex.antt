-- The step as the code works it out over the index of a set, with document 01's refusals.
use Rattle.std.specs.Prelude.{ℕ, ◌%◌, List, [], ◌∷◌, Result, Ok, Err}
use Rattle.word.specs.Fields as W
use Rattle.meaning.specs.Answers.{Outcome, ok, refuse, ◌>>=◌, demand}
use Rattle.meaning.specs.Searches.{list_of}
use Rattle.meaning.specs.States.{Values}
use Rattle.meaning.specs.Steps.{Input, input_of}
use Rattle.index.specs.Numbers.{word_number_count}
use Rattle.state.specs.Held.{digit_at, number_at, enabled_at}
use Rattle.simulator.specs.declared.NoStep.{NoStep}
use Rattle.simulator.specs.declared.Stopped.{Stopped}
use Rattle.simulator.specs.declared.NoStep.TheVariants.{NotEnabled, Before, After}
use Rattle.simulator.specs.Walks.{clash_is, walk_says, state_walk, step_walk}

-- how a step ends: the state after it, or why there is none
abbrev pub Stepped : Type 0
Stepped = Result ℕ NoStep

-- why there is no step from state s by e: the number of the refusal, and what it carries
unfoldable pub no_step_is : ℕ → Input → NoStep → ℕ × List ℕ
no_step_is s e (NotEnabled i) = (16, i ∷ [])
no_step_is s e (Before x) = clash_is 0 s e x.variable x.why
no_step_is s e (After x) = clash_is 1 s e x.variable x.why

-- the answer of a step from state s by e
unfoldable pub stepped_says : ℕ → Input → Stepped → Outcome ℕ
stepped_says s e (Ok t) = ok t
stepped_says s e (Err r) = refuse (no_step_is s e r).0 (no_step_is s e r).1

-- the answer of a step or of a run that tells where it stopped: a refused step's is that of the step, from the state before it by its word
unfoldable pub ended_says : Result ℕ Stopped → Outcome ℕ
ended_says (Ok t) = ok t
ended_says (Err x) = stepped_says x.state (input_of x.event) (Err x.why)

-- from the values a of state s by event word w
unfoldable pub after_index : List ℕ → List ℕ → List ℕ → List ℕ → ℕ → ℕ → ℕ → Values → Outcome ℕ
after_index ws ps us os n s w a =
    walk_says 1 s (input_of w) (step_walk ws ps a (W.variable w) (W.value w) os a) >>= λ b. ok (number_at ws ps us b n % word_number_count)

-- from state s by event word w, number i of its list
unfoldable pub step_index : List ℕ → List ℕ → List ℕ → List ℕ → ℕ → ℕ → ℕ → ℕ → Outcome ℕ
step_index ws ps us os n i s w =
    demand (enabled_at ws ps us n s w) 16 (i ∷ []) >>= λ _.
    walk_says 0 s (input_of w) (state_walk ws ps us s os (list_of (digit_at ws ps us s) n)) >>= λ a.
    after_index ws ps us os n s w a

-- the values of state s, or its first gap or overlap
unfoldable pub examined : List ℕ → List ℕ → List ℕ → List ℕ → ℕ → ℕ → Outcome Values
examined ws ps us os n s = walk_says 0 s (input_of 0) (state_walk ws ps us s os (list_of (digit_at ws ps us s) n))
