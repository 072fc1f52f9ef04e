-- What the program makes of its input. What a reader has left, and what a writer holds, is None where nobody can know it.
use Rattle.std.specs.Prelude.{ℕ, List, None, Some, Option}
use Rattle.std.specs.Io.KnownBytes.{Appends, Keeps}
use Rattle.std.specs.declared.result.Result.{Result}
use Rattle.std.specs.declared.result.Result.TheVariants.{Ok, Err}
use Rattle.meaning.specs.Program.{program_of}
use Rattle.scrcheck.specs.declared.judging.Fault.{Fault}
use Rattle.scrcheck.specs.declared.judging.Fault.TheVariants.{Input, Output}

-- of this input, all that document 01's program prints of it is added to what was written before
abbrev pub Prints : Option (List ℕ) → Option (List ℕ) → Option (List ℕ) → Type 0
Prints None old new = Unit {0}
Prints (Some input) old new = Appends old new (program_of input)

-- where it answers it has printed that; where the input can't be read it has written nothing
abbrev pub Judges : {A : Type 0} → Result A Fault → Option (List ℕ) → Option (List ℕ) → Option (List ℕ) → Type 0
Judges (Ok done) input old new = Prints input old new
Judges (Err (Input fault)) input old new = Keeps old new
Judges (Err (Output fault)) input old new = Unit {0}
