use Rattle.report.proofs.Reporting.{whole}
use Rattle.report.proofs.report.Goals as goal

pub returns-clause-out_after : goal.returns-clause-out_after
returns-clause-out_after c = rw (whole _ _ _ _ _ _ _ c.words_of-words.ensures c.deref-2.ensures.0 c.deref.ensures.0 c.first_event.ensures.value c.split_at.ensures.front c.split_at.ensures.back) at c.write.ensures.out_after

pub returns-clause-value : goal.returns-clause-value
returns-clause-value c = rw (whole _ _ _ _ _ _ _ c.words_of-words.ensures c.deref-2.ensures.0 c.deref.ensures.0 c.first_event.ensures.value c.split_at.ensures.front c.split_at.ensures.back) at c.write.ensures.value
