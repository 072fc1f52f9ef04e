use Rattle.std.specs.Prelude.{not, ◌||◌}
use Rattle.std.proofs.Common.{refl, rules}
use Rattle.index.specs.Bits.{bit_in}
use Rattle.index.proofs.Searching.{all_gives}
use Rattle.order.specs.Orders.{covered}
use Rattle.order.proofs.Takes.{not_missing}
use Rattle.order.proofs.taking.Taking.all_taken.Goals as goal

pub returns : goal.returns
unfolding covered
returns c =
    all_gives (λ b. not (bit_in c.args.m b) || bit_in c.args.self.now.taken b) _ _ _ _ c.all.ensures.ran refl (λ x b q k. search (rules, not_missing))
