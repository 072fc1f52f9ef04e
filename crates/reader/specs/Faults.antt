-- A fault of the code in the meaning's terms: the number of the refusal and the number that it carries.
use Rattle.std.specs.Prelude.{ℕ, Result, Ok, Err, [], ◌∷◌}
use Rattle.meaning.specs.Answers.{Outcome, ok, refuse}
use Rattle.index.specs.Places.{Reached, Next, Refused}
use Rattle.reader.specs.declared.faults.Fault.{Fault}
use Rattle.reader.specs.declared.faults.Fault.TheVariants.{Length, Kind, Range, Limit, Fit, NoTable, InitialValue, States, Order}

unfoldable pub refusal : Fault → ℕ
refusal (Length l) = 1
refusal (Kind i) = 2
refusal (Range i) = 3
refusal (Limit i) = 4
refusal (Fit i) = 5
refusal (NoTable v) = 6
refusal (InitialValue v) = 7
refusal (States v) = 8
refusal (Order i) = 21

unfoldable pub carried : Fault → ℕ
carried (Length l) = l
carried (Kind i) = i
carried (Range i) = i
carried (Limit i) = i
carried (Fit i) = i
carried (NoTable v) = v
carried (InitialValue v) = v
carried (States v) = v
carried (Order i) = i

-- ---- answers
-- of a reader: the place after what was read, or the refusal
unfoldable pub reached : Result ℕ Fault → Reached
reached (Ok i) = Next i
reached (Err f) = Refused (refusal f) (carried f)

-- of a search over the variables
unfoldable pub said_by : Result (Unit {0}) Fault → Outcome (Unit {0})
said_by (Ok u) = ok tt
said_by (Err f) = refuse (refusal f) (carried f ∷ [])
