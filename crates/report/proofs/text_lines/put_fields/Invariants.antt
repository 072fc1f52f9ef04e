use Rattle.std.proofs.Common.{◌≡◌, ◌++◌, ◌+◌, ◌*◌, ◌≤◌, length, drop}
use Rattle.meaning.specs.Program.{fields}
use Rattle.report.specs.Room as Room
use Rattle.report.proofs.text_lines.put_fields.Given as goal

abbrev pub invariant-loop-n : goal.invariant-loop-n
invariant-loop-n g l =
    (l.n-index ≤ length l.numbers)
    × (length l.text.items ≤ length l.initial.text.items + l.n-index * Room.field)
    × (l.text.items ++ fields (drop l.n-index l.numbers) ≡ l.initial.text.items ++ fields l.numbers)
