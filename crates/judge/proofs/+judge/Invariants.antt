use Rattle.std.proofs.Common.{◌+◌, ◌*◌}
use Rattle.judge.proofs.+judge.Given as goal

abbrev pub decreases-judge : goal.decreases-judge
decreases-judge l = 2 * l.left

-- its operands have as many levels left as it has, and are judged
abbrev pub decreases-judge_operator : goal.decreases-judge_operator
decreases-judge_operator l = 2 * l.left + 1
