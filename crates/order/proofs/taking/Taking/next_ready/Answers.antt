use Rattle.std.proofs.Common.{refl, rules}
use Rattle.index.proofs.Searching.{find_gives}
use Rattle.order.specs.Orders.{ready_by, least_ready}
use Rattle.order.proofs.taking.Taking.next_ready.Goals as goal

pub returns : goal.returns
unfolding least_ready
returns c = find_gives (ready_by c.args.self.now.masks.now c.args.self.now.count c.args.self.now.taken) _ _ _ _ c.find.ensures.ran refl (λ x b q k. search rules)
