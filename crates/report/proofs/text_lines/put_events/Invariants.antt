use Rattle.std.proofs.Common.{◌≡◌, ◌++◌, ◌+◌, ◌*◌, ◌≤◌, length, drop}
use Rattle.word.specs.Limits as Max
use Rattle.meaning.specs.Program.{event_lines}
use Rattle.report.specs.Room as Room
use Rattle.report.proofs.text_lines.put_events.Given as goal

abbrev pub invariant-loop-i : goal.invariant-loop-i
invariant-loop-i g l =
    (l.i ≤ length l.states)
    × (length l.text.items ≤ length l.initial.text.items + l.i * Room.event)
    × (length l.states ≤ Max.max_events → length l.text.items ≤ length l.initial.text.items + l.i * Room.short_event)
    × (l.text.items ++ event_lines l.i l.events (drop l.i l.states) ≡ l.initial.text.items ++ event_lines 0 l.events l.states)
