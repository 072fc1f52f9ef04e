use Rattle.judge.proofs.+judge_event.Given as goal

abbrev pub decreases-judge_event : goal.decreases-judge_event
decreases-judge_event l = l.left
