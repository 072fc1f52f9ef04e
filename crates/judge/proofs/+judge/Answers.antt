use Rattle.judge.proofs.Laws.{operator_one}
use Rattle.judge.proofs.+judge.Goals as goal

pub judge_operator-returns-else-operands-eq2 : goal.judge_operator-returns-else-operands-eq2
judge_operator-returns-else-operands-eq2 t c = search operator_one
