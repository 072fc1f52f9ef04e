use Rattle.scrhost.proofs.Hosting.{check_words}
use Rattle.scrhost.proofs.scr_check.Goals as goal

pub returns-in-Some : goal.returns-in-Some
returns-in-Some c = check_words _ _ _ c.in-Some.ensures.words_value _ (rw c.words_of.ensures at c.check.ensures.result_value) c.check_number.ensures
