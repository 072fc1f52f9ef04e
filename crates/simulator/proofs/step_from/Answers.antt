use Rattle.std.proofs.Common.{rules, ◌∙◌}
use Rattle.simulator.proofs.Laws.{ended_handed}
use Rattle.simulator.proofs.step_from.Goals as goal

pub returns : goal.returns
returns c = ended_handed _ _ _ _ _ c.map_err.ensures.cases (λ why x h. search rules) ∙ c.step.ensures
