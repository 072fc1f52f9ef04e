use Rattle.std.proofs.Common.{rules, arith}
use Rattle.report.proofs.Printing.{events_on, events_end}
use Rattle.report.proofs.text_lines.put_events.Goals as goal

pub loop-i-preserved : goal.loop-i-preserved
loop-i-preserved g c = (search rules, search rules, λ few. omega arith, search events_on)

pub returns-clause-puts : goal.returns-clause-puts
returns-clause-puts g c = search events_end
