use Rattle.judge.proofs.Laws.{rows_laws}
use Rattle.judge.proofs.rows.rows.Goals as goal

pub returns-then-words-on : goal.returns-then-words-on
returns-then-words-on g c = search rows_laws

pub returns-then-not-is_row : goal.returns-then-not-is_row
returns-then-not-is_row g c = search rows_laws

pub loop-i-preserved : goal.loop-i-preserved
loop-i-preserved g c = search rows_laws

pub returns : goal.returns
returns g c = search rows_laws
