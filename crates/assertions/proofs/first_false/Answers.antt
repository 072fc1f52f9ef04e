use Rattle.std.proofs.Common.{◌∙◌, rules}
use Rattle.assertions.proofs.Laws.{row_is_false}
use Rattle.assertions.proofs.first_false.Goals as goal

pub returns : goal.returns
returns c = c.row.ensures (λ x. x) (λ x b e. search rules) ∙ row_is_false _ _ _ _
