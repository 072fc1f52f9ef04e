use Rattle.std.proofs.Common.{◌≡◌}
use Rattle.std.proofs.lemmas.Result.{err_from_is_err_and}
use Rattle.meaning.specs.Steps.{step_of}
use Rattle.scr.specs.Answers.{answer_says}
use Rattle.scr.proofs.Entering.{opens, step_refused}
use Rattle.scr.proofs.Demanded.{step_demand, steps_exactly}
use Rattle.scr.proofs.step.Goals as goal

pub new-requires : goal.new-requires
new-requires c = opens _ _ c.read_set.ensures _ c.in_ok-opened.was

pub returns-in_err-opened : goal.returns-in_err-opened
returns-in_err-opened c =
    let p = err_from_is_err_and c.from_residual.result c.from_residual.ensures.1 in
    let v : answer_says c.from_residual.result ≡ step_of c.args.words.now c.args.state c.args.event = rw p.1 (step_refused _ _ c.read_set.ensures _ c.in_err-opened.was _ p.2 _ _) in
    record { result_value = v; answers_or_refuses = step_demand _ _ _ _ v; steps_exactly = steps_exactly _ _ _ _ v }

pub returns : goal.returns
returns c =
    let v = rw c.new.ensures at c.step.ensures in
    record { result_value = v; answers_or_refuses = step_demand _ _ _ _ v; steps_exactly = steps_exactly _ _ _ _ v }
