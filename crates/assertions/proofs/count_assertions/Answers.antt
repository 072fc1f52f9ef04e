use Rattle.std.proofs.Common.{true, ◌∙◌, rules}
use Rattle.assertions.proofs.Laws.{row_counts}
use Rattle.assertions.proofs.count_assertions.Goals as goal

pub returns : goal.returns
returns c = c.row.ensures (λ _. true) (λ x b e. search rules) ∙ row_counts _ _ _ _
