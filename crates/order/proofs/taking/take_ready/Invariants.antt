use Rattle.std.specs.Prelude.{◌≡◌, ◌-◌, take}
use Rattle.order.specs.Orders.{mask_of, take_by, order_by}
use Rattle.order.proofs.taking.take_ready.Given as goal

abbrev pub invariant-loop-place : goal.invariant-loop-place
invariant-loop-place l = record {
  mask_of_front : l.taken ≡ mask_of (take l.place-index l.place-items) 0;
  front_of_order : take_by l.masks l.count (l.count - l.place-index) (take l.place-index l.place-items) ≡ order_by l.masks l.count;
}
