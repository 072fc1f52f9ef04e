use Rattle.reader.proofs.Whole.{all_read}
use Rattle.reader.proofs.read_words.Goals as goal

pub returns : goal.returns
returns c =
    let v = c.variables-set.ensures in
    let read = rw (v.same_words, v.same_places, v.same_count) at c.read_assertions.ensures in
    search (all_read, c.in_ok-found.was, c.in_ok-assertions.was, c.in_ok-read_assertions.was, read)
