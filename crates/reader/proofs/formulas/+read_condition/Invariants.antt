use Rattle.reader.proofs.formulas.+read_condition.Given as goal

abbrev pub decreases-read_condition : goal.decreases-read_condition
decreases-read_condition l = l.left
