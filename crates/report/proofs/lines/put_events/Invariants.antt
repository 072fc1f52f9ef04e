use Rattle.std.proofs.Common.{◌≡◌, ◌+◌, ◌*◌, ◌≤◌, length, drop}
use Rattle.word.specs.Limits as Max
use Rattle.meaning.specs.Program.{event_lines}
use Rattle.report.specs.Room as Room
use Rattle.report.specs.Text.{buffer, ◌with◌}
use Rattle.report.proofs.lines.put_events.Given as goal

abbrev pub invariant-loop-i : goal.invariant-loop-i
invariant-loop-i l =
    (l.i ≤ length l.states)
    × (l.on ≤ l.at + l.i * Room.event)
    × (length l.states ≤ Max.max_events → l.on ≤ l.at + l.i * Room.short_event)
    × (length l.out ≡ length l.initial.out)
    × (buffer l.out l.on with event_lines l.i l.events (drop l.i l.states) ≡ buffer l.initial.out l.at with event_lines 0 l.events l.states)
