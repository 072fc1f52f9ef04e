use Rattle.word.proofs.Mask.{kind_below, is_clear}
use Rattle.word.proofs.spare_clear.Goals as goal

pub spare_low-requires : goal.spare_low-requires
spare_low-requires c = search kind_below

pub spare_width-requires : goal.spare_width-requires
spare_width-requires c = search kind_below

pub returns : goal.returns
returns c = search is_clear
