use Rattle.index.proofs.BitLaws.{bit_is}
use Rattle.index.proofs.bits.bit.Goals as goal

pub returns : goal.returns
returns c = search bit_is
