-- Settling a state and a step as the code does it: from words and places, with the variable at fault and no number of a state.
use Rattle.std.specs.Prelude.{ℕ, zero, suc, List, [], ◌∷◌, eqb, get_or, set as put, Result, Ok, Err}
use Rattle.word.specs.Fields as W
use Rattle.word.specs.Limits as Max
use Rattle.meaning.specs.Answers.{Outcome, ok, refuse, if◌give◌else◌}
use Rattle.meaning.specs.Reading.{word}
use Rattle.meaning.specs.States.{Values}
use Rattle.meaning.specs.Steps.{Input}
use Rattle.judge.specs.declared.Got.{Got}
use Rattle.judge.specs.declared.Got.TheVariants.{Nothing, One, Two}
use Rattle.judge.specs.Judge.{condition_rows_at, event_rows_at}
use Rattle.state.specs.Held.{digit_at}
use Rattle.simulator.specs.declared.Clash.{Clash}
use Rattle.simulator.specs.declared.Clash.TheVariants.{Gap, Overlap, StepOverlap}
use Rattle.simulator.specs.declared.Unsettled.{Unsettled}

-- what a table gives: a value, or why it gives none
abbrev pub Given : Type 0
Given = Result ℕ Clash

-- how settling ends: all variables have their values, or the first that has none
abbrev pub Settled : Type 0
Settled = Result (Unit {0}) Unsettled

-- ---- what a table gives from the rows that hold
unfoldable pub condition_of : Got → Given
condition_of Nothing = Err Gap
condition_of (One i k) = Ok k
condition_of (Two i j) = Err (Overlap i j)

unfoldable pub event_of : ℕ → Got → Given
event_of old Nothing = Ok old
event_of old (One i k) = Ok k
event_of old (Two i j) = Err (StepOverlap i j)

-- the condition table with table word w and first row at p; the mode or event table of v
unfoldable pub condition_given : List ℕ → Values → ℕ → ℕ → Given
condition_given ws b w p = condition_of (condition_rows_at ws b (get_or b (W.class_read w) 0) Max.max_rows 0 p Nothing)

unfoldable pub event_given : List ℕ → Values → Values → ℕ → ℕ → ℕ → Given
event_given ws a b w p v = event_of (get_or a v 0) (event_rows_at ws a b (get_or a (W.class_read w) 0) Max.max_rows 0 p Nothing)

-- ---- by the place of the first row of v's table
unfoldable pub given_in_by : List ℕ → Values → ℕ → ℕ → Given
given_in_by ws b x zero = Ok x
given_in_by ws b x (suc i) =
    if eqb (W.sort (word ws i)) 3 give (λ _. condition_given ws b (word ws i) (suc i)) else (λ _. Ok x)

unfoldable pub given_in : List ℕ → List ℕ → Values → ℕ → ℕ → Given
given_in ws ps b x v = given_in_by ws b x (get_or ps v 0)

unfoldable pub given_after_by : List ℕ → Values → Values → ℕ → ℕ → ℕ → Given
given_after_by ws a b x v zero = Ok x
given_after_by ws a b x v (suc i) =
    if eqb (W.sort (word ws i)) 3
    give (λ _. condition_given ws b (word ws i) (suc i))
    else (λ _. event_given ws a b (word ws i) (suc i) v)

unfoldable pub given_after : List ℕ → List ℕ → Values → Values → ℕ → ℕ → Given
given_after ws ps a b x v = given_after_by ws a b x v (get_or ps v 0)

-- ---- one variable after the other
-- how a walk along the order ends: with all values, or at the first variable at fault
pub data Walk : Type 0 where
  done : Values → Walk
  at : Unsettled → Walk

unfoldable pub joined : Settled → Values → Walk
joined (Ok u) b = done b
joined (Err x) b = at x

unfoldable pub onward : ℕ → Given → (ℕ → Walk) → Walk
onward v (Ok k) f = f k
onward v (Err why) f = at (record { variable = v; why = why })

unfoldable pub walk : (Values → ℕ → Given) → List ℕ → Values → Walk
walk g [] b = done b
walk g (v ∷ vs) b = onward v (g b v) (λ k. walk g vs (put b v k))

unfoldable pub state_walk : List ℕ → List ℕ → List ℕ → ℕ → List ℕ → Values → Walk
state_walk ws ps us s os b = walk (λ b v. given_in ws ps b (digit_at ws ps us s v) v) os b

unfoldable pub step_walk : List ℕ → List ℕ → Values → ℕ → ℕ → List ℕ → Values → Walk
step_walk ws ps a u k os b = walk (λ b v. given_after ws ps a b (get_or (put a u k) v 0) v) os b

-- ---- what it says as an answer: the side, the state and the event are the caller's
-- the number of the refusal, and what it carries
unfoldable pub clash_is : ℕ → ℕ → Input → ℕ → Clash → ℕ × List ℕ
clash_is side s e v Gap = (10, side ∷ s ∷ v ∷ [])
clash_is side s e v (Overlap i j) = (11, side ∷ s ∷ v ∷ i ∷ j ∷ [])
clash_is side s e v (StepOverlap i j) = (12, s ∷ e.variable ∷ e.value ∷ v ∷ i ∷ j ∷ [])

abbrev pub clash_says : {A : Type 0} → ℕ → ℕ → Input → ℕ → Clash → Outcome A
clash_says side s e v why = refuse (clash_is side s e v why).0 (clash_is side s e v why).1

unfoldable pub given_says : ℕ → ℕ → Input → ℕ → Given → Outcome ℕ
given_says side s e v (Ok k) = ok k
given_says side s e v (Err why) = clash_says side s e v why

unfoldable pub settled_says : ℕ → ℕ → Input → Values → Settled → Outcome Values
settled_says side s e b (Ok u) = ok b
settled_says side s e b (Err x) = clash_says side s e x.variable x.why

unfoldable pub walk_says : ℕ → ℕ → Input → Walk → Outcome Values
walk_says side s e (done b) = ok b
walk_says side s e (at x) = clash_says side s e x.variable x.why
