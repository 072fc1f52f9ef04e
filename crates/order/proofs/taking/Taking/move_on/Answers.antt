use Rattle.std.proofs.Common.{refl, rules}
use Rattle.index.proofs.Searching.{find_gives}
use Rattle.order.specs.Orders.{stuck_read}
use Rattle.order.proofs.Takes.{moved}
use Rattle.order.proofs.taking.Taking.move_on.Goals as goal

pub returns : goal.returns
returns c =
    moved _ _ _ _ _ _ _ c.element-m.ensures
    (find_gives (stuck_read c.element-m.result c.args.self.now.taken) _ _ _ _ c.find.ensures.ran refl (λ x b q k. search rules))
    c.unwrap_or.ensures
