use Rattle.std.proofs.Common.{rules}
use Rattle.report.proofs.Reporting.{pass_passed, set_passed, set_refused}
use Rattle.report.proofs.put_set.Goals as goal

pub put_run-requires : goal.put_run-requires
put_run-requires g c = (search rules, (search rules, search pass_passed))

pub returns-in-Ok : goal.returns-in-Ok
returns-in-Ok g c = search set_passed

pub returns-in-Err : goal.returns-in-Err
returns-in-Err g c = search set_refused
