use Rattle.std.proofs.lemmas.Result.{err_from_is_err_and}
use Rattle.scr.proofs.Performing.{performed_last, performed_stopped, performed_written}
use Rattle.scr.proofs.reading.Reading.perform.Goals as goal

pub returns-in_err-run_events : goal.returns-in_err-run_events
returns-in_err-run_events c =
    let p = err_from_is_err_and c.from_residual.result c.from_residual.ensures.1 in
    record {
      result_value = rw p.1 (search (performed_stopped, c.in_err-run_events.was, p.2));
      trace_after = search performed_written;
    }

pub returns : goal.returns
returns c = record { result_value = search (performed_last, c.in_ok-run_events.was); trace_after = search performed_written }
