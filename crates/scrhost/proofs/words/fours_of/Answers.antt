use Rattle.std.proofs.Common.{arith, rules, inl, inr}
use Rattle.std.proofs.lemmas.Grind.{common_steps}
use Rattle.scrhost.proofs.Copying.{words_are}
use Rattle.scrhost.proofs.Hosting.{unfit, whole}
use Rattle.scrhost.proofs.words.fours_of.Goals as goal

pub returns-then-not-is_empty-clause-refused : goal.returns-then-not-is_empty-clause-refused
returns-then-not-is_empty-clause-refused c =
    elim c.then-not-is_empty.either [
      | inl h ↦ unfit _ _ c.as_chunks.ensures.back_len (inl (grind (arith, common_steps)))
      | inr h ↦ unfit _ _ c.as_chunks.ensures.back_len (inr (grind (arith, common_steps)))
    ]

pub returns-clause-words_value : goal.returns-clause-words_value
returns-clause-words_value c = whole _ _ _ c.as_chunks.ensures.back_len (search rules) (rw c.as_chunks.ensures.front (words_are _ _ 0))
