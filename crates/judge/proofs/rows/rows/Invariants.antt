use Rattle.std.proofs.Common.{◌≡◌, ◌-◌}
use Rattle.word.specs.Limits as Max
use Rattle.judge.specs.declared.Got.TheVariants.{Nothing}
use Rattle.judge.specs.Judge.{rows_at}
use Rattle.judge.proofs.rows.rows.Given as goal

abbrev pub invariant-loop-i : goal.invariant-loop-i
invariant-loop-i g l =
    rows_at l.words (g.J.RowJudge.judged l.judges l.words) l.mode (Max.max_rows - l.i) l.i l.on l.got
    ≡ rows_at l.words (g.J.RowJudge.judged l.judges l.words) l.mode Max.max_rows 0 l.at Nothing
