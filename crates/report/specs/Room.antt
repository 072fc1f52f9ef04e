-- Bytes that are enough for what is printed.
use Rattle.std.specs.Prelude.{ℕ, ◌+◌, ◌*◌, ◌≤◌, ◌⊎◌}
use Rattle.word.specs.Limits as Max

-- digits of a number of 64 bits
abbrev pub max_digits : ℕ
max_digits = 20

-- digits of a state, a number of 32 bits
abbrev pub state_digits : ℕ
state_digits = 10

-- digits of the index, the variable or the value of an event of a run: its index is below 4,096, the others have 8 bits
abbrev pub small_digits : ℕ
small_digits = 4

-- a blank and a number
abbrev pub field : ℕ
field = max_digits + 1

-- the longest line of a set: REFUSE, the number of the refusal, six numbers that it carries, a line feed
abbrev pub line : ℕ
line = 6 + 7 * field + 1

-- the line of an event of any index: index, variable, value and state, each with a blank or the line feed after it
abbrev pub event : ℕ
event = 4 * field

-- the line of an event whose index is below the most events of a run: its numbers have few digits
abbrev pub short_event : ℕ
short_event = 3 * (small_digits + 1) + (state_digits + 1)

-- room for the lines of n events from a place on, in a buffer of so many bytes: n lines of any event; or, where n is no more than the most events of a run,
-- n short lines and the longest line of a set besides
abbrev pub EventsFit : ℕ → ℕ → ℕ → Type 0
EventsFit at n size = (at + n * event ≤ size) ⊎ ((at + n * short_event + line ≤ size) × (n ≤ Max.max_events))

-- a run: its events, and the refusal that ends it
abbrev pub run : ℕ
run = Max.max_events * short_event + line

-- the line of the set, and the run
abbrev pub output : ℕ
output = line + run
