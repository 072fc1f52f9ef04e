use Rattle.std.proofs.Common.{refl, rules}
use Rattle.index.proofs.Searching.{find_gives}
use Rattle.order.specs.Orders.{untaken_by, least_stuck}
use Rattle.order.proofs.taking.Taking.lowest_stuck.Goals as goal

pub returns : goal.returns
unfolding least_stuck
returns c = find_gives (untaken_by c.args.self.now.taken) _ _ _ _ c.find.ensures.ran refl (λ x b q k. search rules)
