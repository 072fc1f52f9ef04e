-- The counts of a pass.
use Rattle.meaning.specs.Check as C
use Rattle.scr.specs.declared.Counts.{Counts}

-- as the meaning has them
abbrev pub counts_of : Counts → C.Counts
counts_of c = record { states = c.states; steps = c.steps; assertions = c.assertions }
