use Rattle.std.proofs.Common.{refl, rules, length-set, arith}
use Rattle.index.specs.Places.{variables_to}
use Rattle.reader.proofs.VariableLaws.{places_none, no_tables_on, variables_on}
use Rattle.reader.proofs.variables.read_variables.Goals as goal

pub loop-i-init : goal.loop-i-init
loop-i-init c = record { few = omega arith; long = refl; no_tables = places_none; rest = unfold variables_to in refl }

pub loop-i-preserved : goal.loop-i-preserved
loop-i-preserved c = record { few = omega arith; long = simp length-set (search rules); no_tables = search no_tables_on; rest = search variables_on }
