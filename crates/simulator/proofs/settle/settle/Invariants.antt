use Rattle.std.proofs.Common.{◌≡◌, length, drop}
use Rattle.simulator.specs.Walks.{walk}
use Rattle.simulator.proofs.settle.settle.Given as goal

abbrev pub invariant-loop-variable : goal.invariant-loop-variable
invariant-loop-variable g l =
    (length l.values ≡ length l.initial.values)
    × (walk (g.R.Rule.gives l.rule) (drop l.variable-index l.order) l.values ≡ walk (g.R.Rule.gives l.rule) l.order l.initial.values)
