use Rattle.std.proofs.Common.{rules}
use Rattle.std.proofs.lemmas.Result.{err_from_is_err_and}
use Rattle.simulator.specs.declared.NoStep.TheVariants.{After}
use Rattle.word.proofs.Handed.{handed_err, handed_ok}
use Rattle.simulator.proofs.Laws.{after_fault, after_done}
use Rattle.simulator.proofs.step_after.Goals as goal

pub returns-in_err-map_err : goal.returns-in_err-map_err
returns-in_err-map_err c =
    let p = err_from_is_err_and c.from_residual.result c.from_residual.ensures.1 in
    let q = handed_err c.settle_step.result c.map_err.result _ c.map_err.ensures.cases (λ e. After e) (λ e d h. search rules) _ c.in_err-map_err.was in
    rw (p.1, p.2, q.2) (after_fault _ _ _ _ _ _ _ _ _ _ _ _ c.copy_from_slice.ensures.after c.variable.ensures c.given.ensures c.settle_step.ensures.after_after _ q.1)

pub returns : goal.returns
returns c =
    let q = handed_ok c.settle_step.result c.map_err.result _ c.map_err.ensures.cases _ c.in_ok-map_err.was in
    search after_done
