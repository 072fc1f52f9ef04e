use Rattle.std.specs.Prelude.{◌&&◌, eqb}
use Rattle.std.proofs.Common.{rules}
use Rattle.word.specs.Fields as W
use Rattle.index.proofs.Searching.{position_gives}
use Rattle.part.proofs.Laws.{start_is}
use Rattle.part.proofs.part_start.Goals as goal

pub returns : goal.returns
returns c =
    start_is _ _ _ _
    (position_gives (λ w. eqb (W.kind w) 2 && eqb (W.defined w) c.args.variable) _ _ _ _ _ c.position.ensures.ran c.iter.ensures.rest (λ x b q k. search rules))
    c.unwrap_or.ensures
