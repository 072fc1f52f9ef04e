use Rattle.reader.proofs.formulas.+read_event.Given as goal

abbrev pub decreases-read_event : goal.decreases-read_event
decreases-read_event l = l.left
