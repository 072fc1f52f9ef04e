use Rattle.std.specs.Prelude.{◌≡◌, ◌+◌, refl}
use denote.Enum.Declared.{tag_of}
use Rattle.word.specs.Kinds.{kind_number}
use Rattle.word.specs.declared.kinds.Kind.{Kind}
use Rattle.word.specs.declared.kinds.Kind.TheVariants as K
use Rattle.word.specs.contracts.kinds.Kind as D
use Rattle.reader.proofs.TestLaws.{one_kind}
use Rattle.reader.proofs.tests.fits_kind.Goals as goal

numbered : (k : Kind) → tag_of D.the_type k + 1 ≡ kind_number k
numbered K.Variable = refl
numbered K.Table = refl
numbered K.Row = refl
numbered K.Test = refl
numbered K.Not = refl
numbered K.And = refl
numbered K.Or = refl
numbered K.Change = refl
numbered K.Constant = refl
numbered K.Assertion = refl
numbered K.InputEvent = refl

pub returns : goal.returns
returns c = rw (numbered c.args.k) (search one_kind)
