use Rattle.report.proofs.Running.{ran_state, ran_refused}
use Rattle.report.proofs.runs.put_ran.Goals as goal

pub returns-in-Ok-clause-puts : goal.returns-in-Ok-clause-puts
returns-in-Ok-clause-puts g c = search ran_state

pub returns-in-Err-clause-puts : goal.returns-in-Err-clause-puts
returns-in-Err-clause-puts g c = search ran_refused
