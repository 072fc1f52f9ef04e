use Rattle.order.proofs.Takes.{mask_start, order_start}
use Rattle.order.proofs.taking.take_ready.Goals as goal

pub loop-place-init : goal.loop-place-init
loop-place-init c = record { mask_of_front = search mask_start; front_of_order = search order_start }
