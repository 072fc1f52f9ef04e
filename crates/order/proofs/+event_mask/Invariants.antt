use Rattle.order.proofs.+event_mask.Given as goal

abbrev pub decreases-event_mask : goal.decreases-event_mask
decreases-event_mask l = l.left
