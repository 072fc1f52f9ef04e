use Rattle.word.proofs.Mask.{low_below}
use Rattle.std.specs.Prelude.{refl}
use Rattle.word.proofs.spare_low.Goals as goal

pub returns : goal.returns
returns c = (refl, low_below c.args.k)
