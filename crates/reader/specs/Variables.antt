-- What the answer of read_variables says.
use Rattle.std.specs.Prelude.{ℕ, ◌≤◌, ◌<◌, ◌≡◌, List, [], length, get_or, Result, Ok, Err}
use Rattle.word.specs.Limits as Max
use Rattle.meaning.specs.Answers.{fine, stop}
use Rattle.meaning.specs.Reading.{read_variables}
use Rattle.index.specs.Places.{place_count, variables_to}
use Rattle.reader.specs.declared.faults.Fault.{Fault}
use Rattle.reader.specs.declared.found.Found.{Found}
use Rattle.reader.specs.Faults.{refusal, carried}

-- no table has been read
unfoldable pub NoTables : List ℕ → Type 0
NoTables ps = (v : ℕ) → v < Max.max_variables → get_or ps v 0 ≡ 0

-- n variables, the places of their words in ps, and the place i after them
pub record VariablesRead (ws ps : List ℕ) (n i : ℕ) : Type 0 where
  pub variables_read : read_variables ws Max.max_variables 0 [] ≡ fine (variables_to ws ps n, i)
  pub few : n ≤ Max.max_variables
  pub long : length ps ≡ place_count
  pub no_tables : NoTables ps

-- the number of variables is the place after them too
unfoldable pub VariablesAs : List ℕ → Result Found Fault → Type 0
VariablesAs ws (Ok f) = VariablesRead ws f.places f.count f.count
VariablesAs ws (Err f) = read_variables ws Max.max_variables 0 [] ≡ stop (refusal f) (carried f)
