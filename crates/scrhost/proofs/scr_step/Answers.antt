use Rattle.scrhost.proofs.Hosting.{step_words}
use Rattle.scrhost.proofs.scr_step.Goals as goal

pub returns-in-Some : goal.returns-in-Some
returns-in-Some c = step_words _ _ _ c.in-Some.ensures.words_value _ _ _ (rw c.words_of.ensures at c.step.ensures.result_value) c.step_number.ensures
