use Rattle.std.specs.Prelude.{eqb}
use Rattle.std.proofs.Common.{rules}
use Rattle.word.specs.Fields as W
use Rattle.index.proofs.Searching.{position_gives}
use Rattle.report.proofs.Parting.{event_is, event_most}
use Rattle.report.proofs.parts.first_event.Goals as goal

pub returns : goal.returns
returns c =
    let e = position_gives (λ w. eqb (W.kind w) 11) _ _ _ _ _ c.position.ensures.ran c.iter.ensures.rest (λ x b q k. search rules) in
    record { value = event_is _ _ _ e c.unwrap_or.ensures; upper_bound = event_most _ _ _ e c.unwrap_or.ensures }
