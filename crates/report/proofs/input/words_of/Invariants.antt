use Rattle.std.proofs.Common.{◌≡◌, ◌+◌, ◌*◌, ◌≤◌, length, drop}
use Rattle.std.specs.Iterator.Adapters.{take_source, take_count}
use Rattle.std.specs.Slice.Iter.{chunks_rest, chunks_size}
use Rattle.meaning.specs.Searches.{list_of}
use Rattle.meaning.specs.Program.{input_word}
use Rattle.report.proofs.input.words_of.Given as goal

abbrev pub invariant-loop-four : goal.invariant-loop-four
invariant-loop-four l =
    (goal.iterator-loop-four).can_next l.four-iterator
    × (goal.iterator-loop-four).is_finite l.four-iterator
    × (chunks_size (take_source l.four-iterator) ≡ 4)
    × (chunks_rest (take_source l.four-iterator) ≡ drop (length l.words.items * 4) l.bytes)
    × (l.words.items ≡ list_of (input_word l.bytes) (length l.words.items))
    × (take_count l.four-iterator + length l.words.items ≡ 8192)
    × (length l.words.items * 4 ≤ length l.bytes + 3)
