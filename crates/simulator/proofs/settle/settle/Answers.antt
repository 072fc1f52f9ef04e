use Rattle.std.proofs.Common.{rules, get_or}
use Rattle.std.proofs.lemmas.Result.{err_from_is_err_and}
use Rattle.word.proofs.Handed.{handed_err, handed_ok}
use Rattle.simulator.proofs.Laws.{walk_end, walk_stop, walk_on}
use Rattle.simulator.proofs.settle.settle.Goals as goal

pub returns-in_err-value-clause-values_after : goal.returns-in_err-value-clause-values_after
returns-in_err-value-clause-values_after g c =
    let p = err_from_is_err_and c.from_residual.result c.from_residual.ensures.1 in
    let q = handed_err c.give.result c.map_err.result _ c.map_err.ensures.cases (λ e. record { variable = get_or c.args.order.now c.loop-variable.variable-index 0; why = e }) (λ e d h. search rules) _ c.in_err-value.was in
    rw (p.1, p.2, q.2) (walk_stop _ _ _ _ _ c.loop-variable.invariant.1 _ c.loop-variable-test.true c.give.ensures _ q.1)

pub loop-variable-preserved : goal.loop-variable-preserved
loop-variable-preserved g c =
    let q = handed_ok c.give.result c.map_err.result _ c.map_err.ensures.cases _ c.in_ok-value.was in
    (search rules, walk_on _ _ _ _ _ c.loop-variable.invariant.1 _ c.loop-variable-test.true c.give.ensures _ _ q c.put.ensures)

pub returns-clause-values_after : goal.returns-clause-values_after
returns-clause-values_after g c = search walk_end
