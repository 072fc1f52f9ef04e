use Rattle.std.proofs.Common.{rules}
use Rattle.scrhost.proofs.Copying.{copied, copied_all}
use Rattle.scrhost.proofs.words.words_of.Goals as goal

pub loop-i-preserved : goal.loop-i-preserved
loop-i-preserved c = (search rules, search rules, copied c.args.fours.now c.loop-i.room _ c.loop-i.i c.loop-i.invariant.2 _ _ (search rules) (search rules) c.from_le_bytes.ensures)

pub returns : goal.returns
returns c = search copied_all
