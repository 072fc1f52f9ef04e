use Rattle.std.specs.Prelude.{◌≡◌, length, take}
use Rattle.word.specs.Limits as Max
use Rattle.order.proofs.Scans.{masks_to}
use Rattle.order.proofs.fill_masks.Given as goal

abbrev pub invariant-loop-v : goal.invariant-loop-v
invariant-loop-v l = record {
  long : length l.masks ≡ Max.max_variables;
  filled : take l.v l.masks ≡ masks_to l.set.words.now l.set.places.now l.v;
}
