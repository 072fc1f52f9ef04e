use Rattle.std.proofs.Common.{rules}
use Rattle.scrcheck.proofs.Reading.{read_more, read_none}
use Rattle.scrcheck.proofs.input.read_to_end.Goals as goal
use Rattle.scrcheck.proofs.input.read_to_end.Goals.{in-Ok, in-Err+else-ne}

pub loop-preserved : goal.loop-preserved
loop-preserved g c = elim c.match-read.branch [
  | in-Ok w ↦ record {
    within = rw w.done-is (search (rules, w.in-Ok.ensures.bound.0, c.loop.invariant.within, c.read.auto.buf));
    taken = rw w.done-is (read_more _ _ _ c.loop.invariant.within _ _ _ c.loop.invariant.taken _ w.in-Ok.ensures.bound.0 w.in-Ok.ensures.bytes.0);
  }
  | in-Err+else-ne w ↦ record {
    within = rw w.done-is (search (rules, c.loop.invariant.within));
    taken = rw w.done-is (read_none _ _ _ c.loop.invariant.within _ _ _ c.loop.invariant.taken w.in-Err.ensures.bytes);
  }
]
