-- What a refusal told as numbers says.
use Rattle.std.specs.Prelude.{ℕ, List, take}
use Rattle.scr.specs.declared.told.Told.{Told}

-- the number, and the list of what is carried
unfoldable pub told_says : Told → ℕ × List ℕ
told_says t = (t.number, take t.count t.carried)
