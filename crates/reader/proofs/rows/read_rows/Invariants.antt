use Rattle.std.specs.Prelude.{◌≡◌, ◌≤◌, ◌-◌}
use Rattle.word.specs.Limits as Max
use Rattle.word.specs.Kinds.{table_type_number}
use Rattle.index.specs.Places.{variables_to}
use Rattle.reader.specs.Formulas.{rows_reach}
use Rattle.reader.proofs.rows.read_rows.Given as goal

abbrev pub invariant-loop-i : goal.invariant-loop-i
invariant-loop-i l = (l.i ≤ Max.max_rows) × (rows_reach l.set.words.now (variables_to l.set.words.now l.set.places.now l.set.count) (table_type_number l.heading.table_type) l.heading.variable l.heading.class_read (Max.max_rows - l.i) l.on ≡ rows_reach l.set.words.now (variables_to l.set.words.now l.set.places.now l.set.count) (table_type_number l.heading.table_type) l.heading.variable l.heading.class_read Max.max_rows l.at)

abbrev pub decreases-loop-i : goal.decreases-loop-i
decreases-loop-i l = Max.max_rows - l.i
