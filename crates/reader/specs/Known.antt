-- The variables of a set that is read.
use Rattle.std.specs.Prelude.{List}
use Rattle.meaning.specs.Syntax.{Variable}
use Rattle.index.specs.declared.variables.Variables.{Variables}
use Rattle.index.specs.Places.{variables_to}

-- as the meaning has them
abbrev pub known : Variables → List Variable
known s = variables_to s.words.now s.places.now s.count
