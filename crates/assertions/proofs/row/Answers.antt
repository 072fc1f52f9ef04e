use Rattle.assertions.proofs.Laws.{row_start, row_end, row_here, row_on, row_all}
use Rattle.assertions.proofs.row.Goals as goal

pub loop-j-init : goal.loop-j-init
loop-j-init g c = λ h computes. row_start _ _ h _ _

pub returns-then-words-on : goal.returns-then-words-on
returns-then-words-on g c = λ h computes. let so_far = c.loop-j.invariant h computes in search row_end

pub returns-then-not-goes_on : goal.returns-then-not-goes_on
returns-then-not-goes_on g c = λ h computes.
    let so_far = c.loop-j.invariant h computes in
    let asked = computes _ _ c.goes_on.ensures in
    search row_here

pub loop-j-preserved : goal.loop-j-preserved
loop-j-preserved g c = λ h computes.
    let so_far = c.loop-j.invariant h computes in
    let asked = computes _ _ c.goes_on.ensures in
    search row_on

pub returns : goal.returns
returns g c = λ h computes. let so_far = c.loop-j.invariant h computes in search row_all
