use Rattle.scr.proofs.Performing.{short_answer}
use Rattle.scr.proofs.reading.Reading.run.Goals as goal

pub returns-then-room-events-clause-result_value : goal.returns-then-room-events-clause-result_value
returns-then-room-events-clause-result_value c = search short_answer
