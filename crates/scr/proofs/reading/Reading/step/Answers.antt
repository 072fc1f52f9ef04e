use Rattle.std.proofs.lemmas.Result.{err_from_is_err_and}
use Rattle.scr.proofs.Calling.{step_no_state, step_done, step_refused}
use Rattle.scr.proofs.reading.Reading.step.Goals as goal

pub returns-then-self-s : goal.returns-then-self-s
returns-then-self-s c = search step_no_state

pub returns-in_err-step_from : goal.returns-in_err-step_from
returns-in_err-step_from c =
    let p = err_from_is_err_and c.from_residual.result c.from_residual.ensures.1 in
    rw p.1 (search (step_refused, c.in_err-step_from.was, p.2))

pub returns : goal.returns
returns c = search (step_done, c.in_ok-step_from.was)
