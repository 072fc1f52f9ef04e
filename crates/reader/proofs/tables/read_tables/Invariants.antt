use Rattle.std.specs.Prelude.{◌≡◌, ◌-◌}
use Rattle.index.specs.Places.{variables_to}
use Rattle.reader.specs.Tables.{read_places}
use Rattle.reader.proofs.tables.read_tables.Given as goal

abbrev pub invariant-loop : goal.invariant-loop
invariant-loop l = record {
  count_same : l.found.count ≡ l.n;
  variables_same : variables_to l.words l.found.places l.n ≡ variables_to l.words l.initial.found.places l.n;
  rest : read_places l.words (variables_to l.words l.initial.found.places l.n) (l.n - l.counter) l.on l.found.places l.before ≡ read_places l.words (variables_to l.words l.initial.found.places l.n) l.n l.n l.initial.found.places 0;
}
