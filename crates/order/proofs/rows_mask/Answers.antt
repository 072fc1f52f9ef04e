use Rattle.std.proofs.Common.{refl}
use Rattle.order.proofs.Scans.{rows_past, rows_all, rows_last, rows_on}
use Rattle.order.proofs.rows_mask.Goals as goal

pub loop-init : goal.loop-init
loop-init g c = λ t computes. refl

pub returns-then-words-on : goal.returns-then-words-on
returns-then-words-on g c = λ t computes. let so_far = c.loop.invariant t computes in search rows_past

pub returns-then-kind : goal.returns-then-kind
returns-then-kind g c = λ t computes.
    let so_far = c.loop.invariant t computes in
    let read = computes _ _ c.formula-j.ensures in
    search rows_last

pub loop-preserved : goal.loop-preserved
loop-preserved g c = λ t computes.
    let so_far = c.loop.invariant t computes in
    let read = computes _ _ c.formula-j.ensures in
    search rows_on

pub returns : goal.returns
returns g c = λ t computes. let so_far = c.loop.invariant t computes in search rows_all
