use Rattle.std.specs.Prelude.{◌≡◌}
use Rattle.std.proofs.Math.Option.{none}
use Rattle.meaning.specs.Searches.{least, iterate}
use Rattle.order.specs.Orders.{move_by, home_by}
use Rattle.order.proofs.taking.Taking.moves_back.Given as goal

abbrev pub invariant-loop-k : goal.invariant-loop-k
invariant-loop-k l = record {
  so_many_moves : l.u ≡ iterate (move_by l.self.masks.now l.self.count l.self.taken) l.k l.w;
  none_home : least (home_by l.self.masks.now l.self.count l.self.taken l.w) l.k ≡ none;
}
