use Rattle.word.proofs.Mask.{width_below}
use Rattle.std.specs.Prelude.{refl}
use Rattle.word.proofs.spare_width.Goals as goal

pub returns : goal.returns
returns c = (refl, width_below c.args.k)
