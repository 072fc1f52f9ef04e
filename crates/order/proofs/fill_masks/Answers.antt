use Rattle.std.proofs.Common.{rules, length-set}
use Rattle.order.proofs.Scans.{masks_on}
use Rattle.order.proofs.fill_masks.Goals as goal

pub loop-v-preserved : goal.loop-v-preserved
loop-v-preserved c = record {
  long = simp length-set (search rules);
  filled = masks_on _ _ _ _ _ c.loop-v.invariant.long c.loop-v-test.true c.loop-v.invariant.filled c.table_mask.ensures;
}
