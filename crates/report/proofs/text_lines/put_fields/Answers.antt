use Rattle.std.proofs.Common.{rules}
use Rattle.report.proofs.Printing.{fields_on, fields_end}
use Rattle.report.proofs.text_lines.put_fields.Goals as goal

pub loop-n-preserved : goal.loop-n-preserved
loop-n-preserved g c = (search rules, search rules, search fields_on)

pub returns-clause-puts : goal.returns-clause-puts
returns-clause-puts g c = search fields_end
