use Rattle.std.proofs.Common.{refl, rules}
use Rattle.index.proofs.Searching.{fold_iterates}
use Rattle.order.specs.Orders.{move_by, shown_by}
use Rattle.order.proofs.taking.Taking.shown_from.Goals as goal

pub returns : goal.returns
unfolding shown_by
returns c =
    fold_iterates (move_by c.args.self.now.masks.now c.args.self.now.count c.args.self.now.taken) _ _ _ _ c.fold.ensures.ran refl (λ x k b q e. search rules)
