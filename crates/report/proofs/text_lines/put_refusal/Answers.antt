use Rattle.report.proofs.Printing.{refusal_put}
use Rattle.report.proofs.text_lines.put_refusal.Goals as goal

pub returns-clause-puts : goal.returns-clause-puts
returns-clause-puts g c = search refusal_put
