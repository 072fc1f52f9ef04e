use Rattle.std.specs.Prelude.{◌≡◌, [], ◌≤◌, ◌-◌, length}
use Rattle.word.specs.Limits as Max
use Rattle.meaning.specs.Reading.{read_variables}
use Rattle.index.specs.Places.{place_count, variables_to}
use Rattle.reader.specs.Variables.{NoTables}
use Rattle.reader.proofs.variables.read_variables.Given as goal

abbrev pub invariant-loop-i : goal.invariant-loop-i
invariant-loop-i l = record {
  few : l.i ≤ Max.max_variables;
  long : length l.places ≡ place_count;
  no_tables : NoTables l.places;
  rest : read_variables l.words (Max.max_variables - l.i) l.i (variables_to l.words l.places l.i) ≡ read_variables l.words Max.max_variables 0 [];
}
