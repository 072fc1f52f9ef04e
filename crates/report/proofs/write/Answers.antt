use Rattle.std.proofs.Common.{rules}
use Rattle.report.proofs.Reporting.{put_first, shown}
use Rattle.report.proofs.write.Goals as goal

pub returns-clause-out_after : goal.returns-clause-out_after
returns-clause-out_after c = shown _ _ _ _ _ (put_first _ _ _ c.new-text.ensures c.put_set.ensures) c.len.ensures.value (search rules) (search rules)
