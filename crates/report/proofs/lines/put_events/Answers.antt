use Rattle.std.proofs.Common.{rules, arith}
use Rattle.std.proofs.lemmas.Grind.{common_steps}
use Rattle.report.proofs.Putting.{events_on, events_end}
use Rattle.report.proofs.lines.put_events.Goals as goal

pub loop-i-preserved : goal.loop-i-preserved
loop-i-preserved c = (search rules, search rules, λ few. grind (arith, common_steps), search rules, search events_on)

pub returns-clause-puts : goal.returns-clause-puts
returns-clause-puts c = search events_end
