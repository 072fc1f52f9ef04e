-- The documents' number and list of values for each case of the answers. Every promise of an entry is stated through these.
use Rattle.std.specs.Prelude.{ℕ, List, [], ◌∷◌, length, Result, Ok, Err}
use Rattle.meaning.specs.Answers.{Outcome, ok, refuse}
use Rattle.scr.specs.declared.Refusal.{Refusal}
use Rattle.scr.specs.declared.Refusal.TheVariants as R
use Rattle.meaning.specs.Check as Meant
use Rattle.scr.specs.declared.Counts.{Counts}

-- the number of a refusal, and what it carries
unfoldable pub refusal_says : Refusal → ℕ × List ℕ
refusal_says (R.Length n) = (1, n ∷ [])
refusal_says (R.Kind i) = (2, i ∷ [])
refusal_says (R.Range i) = (3, i ∷ [])
refusal_says (R.Limit i) = (4, i ∷ [])
refusal_says (R.Fit i) = (5, i ∷ [])
refusal_says (R.NoTable v) = (6, v ∷ [])
refusal_says (R.InitialValue v) = (7, v ∷ [])
refusal_says (R.States v) = (8, v ∷ [])
refusal_says (R.Cycle c) = (9, c.variable ∷ c.length ∷ [])
refusal_says (R.Gap g) = (10, g.side ∷ g.state ∷ g.variable ∷ [])
refusal_says (R.Overlap o) = (11, o.side ∷ o.state ∷ o.variable ∷ o.first ∷ o.second ∷ [])
refusal_says (R.StepOverlap o) =
    (12, o.state ∷ o.input.variable ∷ o.input.value ∷ o.variable ∷ o.first ∷ o.second ∷ [])
refusal_says (R.FalseInitially j) = (13, j ∷ [])
refusal_says (R.Broken b) = (14, b.assertion ∷ b.state ∷ b.input.variable ∷ b.input.value ∷ [])
refusal_says (R.NoState s) = (15, s ∷ [])
refusal_says (R.NotEnabled i) = (16, i ∷ [])
refusal_says (R.Room n) = (17, n ∷ [])
refusal_says (R.Order i) = (21, i ∷ [])

-- the same as an answer
unfoldable pub refused : {A : Type 0} → Refusal → Outcome A
refused r = refuse (refusal_says r).0 (refusal_says r).1

-- a state, or the number of values written; or the refusal
abbrev pub Answer : Type 0
Answer = Result ℕ Refusal

unfoldable pub answer_says : Answer → Outcome ℕ
answer_says (Ok n) = ok n
answer_says (Err r) = refused r

-- a pass, or the refusal
abbrev pub Verdict : Type 0
Verdict = Result Counts Refusal

unfoldable pub verdict_says : Verdict → Outcome Meant.Counts
verdict_says (Ok c) = ok (record { states = c.states; steps = c.steps; assertions = c.assertions })
verdict_says (Err r) = refused r

-- how many values were written, where none is refused
unfoldable pub count_of : Outcome (List ℕ) → Outcome ℕ
count_of (ok a) = ok (length a)
count_of (refuse n xs) = refuse n xs
