use Rattle.order.proofs.+condition_mask.Given as goal

abbrev pub decreases-condition_mask : goal.decreases-condition_mask
decreases-condition_mask l = l.left
