use Rattle.word.proofs.Mask.{masked}
use Rattle.word.proofs.bits.Goals as goal

pub returns : goal.returns
returns c = masked _ _ c.requires.1
