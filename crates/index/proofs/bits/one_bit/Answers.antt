use Rattle.index.proofs.BitLaws.{bit_none, bit_one}
use Rattle.index.proofs.bits.one_bit.Goals as goal

pub returns-then-v-ge-MAX_VARIABLES : goal.returns-then-v-ge-MAX_VARIABLES
returns-then-v-ge-MAX_VARIABLES c = search bit_none

pub returns : goal.returns
returns c = search bit_one
