use Rattle.std.specs.Prelude.{◌≡◌, ◌≤◌, ◌-◌}
use Rattle.word.specs.Limits as Max
use Rattle.meaning.specs.Reading.{read_assertions}
use Rattle.index.specs.Places.{reach, variables_to}
use Rattle.reader.proofs.assertions.read_assertions.Given as goal

abbrev pub invariant-loop-i : goal.invariant-loop-i
invariant-loop-i l = (l.i ≤ Max.max_assertions) × (reach (read_assertions l.set.words.now (variables_to l.set.words.now l.set.places.now l.set.count) (Max.max_assertions - l.i) l.on) ≡ reach (read_assertions l.set.words.now (variables_to l.set.words.now l.set.places.now l.set.count) Max.max_assertions l.at))

abbrev pub decreases-loop-i : goal.decreases-loop-i
decreases-loop-i l = Max.max_assertions - l.i
