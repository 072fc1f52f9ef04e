use Rattle.report.proofs.Running.{run_put, start_put}
use Rattle.report.proofs.runs.put_run.Goals as goal

pub returns-in-Ok-clause-puts : goal.returns-in-Ok-clause-puts
returns-in-Ok-clause-puts g c = search run_put

pub returns-in_default-clause-puts : goal.returns-in_default-clause-puts
returns-in_default-clause-puts g c = search start_put
