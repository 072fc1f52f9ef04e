-- What the entries promise beside their equations.
use Rattle.std.specs.Prelude.{ℕ, ◌≤◌, ◌<◌, ◌≡◌, ◌↔◌, true, List, length}
use Rattle.std.proofs.lemmas.List.Edits.{sets}
use Rattle.meaning.specs.Syntax.{TableSet}
use Rattle.meaning.specs.Lookup.{count}
use Rattle.meaning.specs.States.{Values, state_count}
use Rattle.meaning.specs.Steps.{input_of, enabled_word}
use Rattle.meaning.specs.Answers.{ok, refuse}
use Rattle.meaning.specs.Check.{Counts, counts}
use Rattle.meaning.specs.Valued.{IsInitial, OneValuation}
use Rattle.meaning.specs.Moved.{Clean}
use Rattle.meaning.specs.Passes.{Reads, Passes, Refused}
use Rattle.scr.specs.Answers.{Answer, Verdict, answer_says, verdict_says}

-- Demand 2, of check: "A set passes exactly if it reads, its tables have a dependency order, no condition table has a gap or an overlap at a
-- typed state, no mode or event table an overlap at a typed step, and each assertion holds initially and is kept by every step under
-- the earlier ones. Each refusal shows the first such cycle, gap, overlap or violating step."
-- `Passes` and `Refused` say it of the words and the set: of reading they take what the words say, and places are compared along the dependency
-- order; nothing else that check works out stands in them.
pub record Demand2 (ws : List ℕ) (r : Verdict) : Type 0 where
  -- a pass, with the three counts
  pub passes : (c : Counts) → (verdict_says r ≡ ok c) ↔ ((z : TableSet) × Passes ws z × (c ≡ counts z))
  -- a refusal, with its number and what it carries
  pub refuses : (n : ℕ) (xs : List ℕ) → (verdict_says r ≡ refuse n xs) ↔ Refused ws n xs

-- Demand 2, of step: "A simulated step gives the next state by the SCR rules and no other." Step answers s' exactly if the set reads, s is one of
-- its typed states, the word is enabled there, and s' is the one next state, met without a gap or an overlap in the state, the step or
-- the state after.
abbrev pub StepsExactly : List ℕ → ℕ → ℕ → Answer → Type 0
StepsExactly ws s w r =
    (s' : ℕ) → (answer_says r ≡ ok s')
    ↔ ((z : TableSet) × Reads ws z × (s < state_count z) × (enabled_word z s w ≡ true) × Clean z s (input_of w) s')

-- Start answers s exactly if the set reads and s is the state that holds its initial values.
abbrev pub StartsExactly : List ℕ → Answer → Type 0
StartsExactly ws r = (s : ℕ) → (answer_says r ≡ ok s) ↔ ((z : TableSet) × Reads ws z × IsInitial z s)

-- Values answers that k values are written exactly if the set reads, s is one of its typed states, there is room for a value of each
-- of its k variables, and the state has one valuation, met without a gap or an overlap. Then that valuation is what it has written.
pub record ValuesExactly (ws : List ℕ) (s : ℕ) (lent : List ℕ) (r : Answer) (after : List ℕ) : Type 0 where
  pub answers : (k : ℕ) → (answer_says r ≡ ok k)
      ↔ ((z : TableSet) × (a : Values) × Reads ws z × (count z ≤ length lent) × (s < state_count z) × OneValuation z s a × (k ≡ count z))
  pub written : (z : TableSet) (a : Values) → Reads ws z → count z ≤ length lent → s < state_count z → OneValuation z s a → after ≡ sets lent 0 a
  -- a refused call has written nothing
  pub kept : (n : ℕ) (xs : List ℕ) → answer_says r ≡ refuse n xs → after ≡ lent
