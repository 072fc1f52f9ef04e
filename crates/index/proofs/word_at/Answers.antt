use Rattle.index.proofs.Laws.{word_is}
use Rattle.index.proofs.word_at.Goals as goal

pub returns : goal.returns
returns c = search word_is
