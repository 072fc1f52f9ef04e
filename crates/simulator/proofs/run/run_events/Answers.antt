use Rattle.std.proofs.Common.{rules, length-set}
use Rattle.std.proofs.lemmas.Result.{err_from_is_err_and}
use Rattle.simulator.proofs.Running.{run_end_answer, run_end_trace, run_on_answer, run_on_trace, run_stop_answer, run_stop_trace}
use Rattle.simulator.proofs.run.run_events.Goals as goal

pub returns-in_err-next-clause-result_value : goal.returns-in_err-next-clause-result_value
returns-in_err-next-clause-result_value c =
    let p = err_from_is_err_and c.from_residual.result c.from_residual.ensures.1 in
    rw (p.1, p.2) (search (run_stop_answer, c.in_err-next.was))

pub returns-in_err-next-clause-trace_after : goal.returns-in_err-next-clause-trace_after
returns-in_err-next-clause-trace_after c = search (run_stop_trace, c.in_err-next.was)

pub loop-i-preserved : goal.loop-i-preserved
loop-i-preserved c =
    (simp length-set (search rules), search (run_on_answer, c.in_ok-next.was), search (run_on_trace, c.in_ok-next.was))

pub returns-clause-result_value : goal.returns-clause-result_value
returns-clause-result_value c = search run_end_answer

pub returns-clause-trace_after : goal.returns-clause-trace_after
returns-clause-trace_after c = search run_end_trace
