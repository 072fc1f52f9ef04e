-- The lines of a run, from what the entry gives and leaves in the lent list.
use Rattle.std.specs.Prelude.{ℕ, List, ◌++◌, eqb, length, get_or, take}
use Rattle.meaning.specs.Answers.{Outcome, ok, refuse, if◌give◌else◌}
use Rattle.meaning.specs.Syntax.{TableSet}
use Rattle.meaning.specs.Passes.{Passes}
use Rattle.meaning.specs.Program.{event_lines, refuse_line}

-- the words say a set that passes
abbrev pub Passed : List ℕ → Type 0
Passed ws = (z : TableSet) × Passes ws z

-- how many events were done before this refusal
unfoldable pub done_before : ℕ → List ℕ → ℕ
done_before n xs = if eqb n 16 give (λ _. get_or xs 0 0) else (λ _. 0)

unfoldable pub ran_lines : List ℕ → List ℕ → Outcome ℕ → List ℕ
ran_lines events states (ok s) = event_lines 0 events (take (length events) states)
ran_lines events states (refuse n xs) = event_lines 0 events (take (done_before n xs) states) ++ refuse_line n xs
