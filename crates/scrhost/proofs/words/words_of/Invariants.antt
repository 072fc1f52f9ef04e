use Rattle.std.proofs.Common.{◌≡◌, ◌≤◌, ◌++◌, length, take, drop, map}
use Rattle.std.specs.Int.{w32, from_le_bytes}
use Rattle.word.specs.Limits as Max
use Rattle.scrhost.proofs.words.words_of.Given as goal

abbrev pub invariant-loop-i : goal.invariant-loop-i
invariant-loop-i l =
    (l.i ≤ length l.fours)
    × (length l.room ≡ Max.max_words)
    × (take l.i l.room ++ map (from_le_bytes w32) (drop l.i l.fours) ≡ map (from_le_bytes w32) l.fours)
