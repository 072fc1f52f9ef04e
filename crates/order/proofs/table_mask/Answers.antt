use Rattle.std.proofs.Common.{rules}
use Rattle.order.proofs.Scans.{table_condition, table_event, condition_formula, event_formula}
use Rattle.order.proofs.table_mask.Goals as goal

pub returns-then-sort : goal.returns-then-sort
returns-then-sort c =
    let rows = c.rows_mask.ensures c.sort.result (λ x m e. condition_formula _ _ x m c.if-sort.true (search rules)) in
    search table_condition

pub returns-else-sort : goal.returns-else-sort
returns-else-sort c =
    let rows = c.rows_mask-else-sort.ensures c.sort.result (λ x m e. event_formula _ _ x m c.if-sort.false (search rules)) in
    search table_event
