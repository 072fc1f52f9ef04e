use Rattle.std.proofs.Common.{◌≡◌, ◌+◌, ◌-◌, Bool}
use Rattle.assertions.specs.Assertions.{row_from}
use Rattle.assertions.proofs.row.Given as goal

abbrev pub invariant-loop-j : goal.invariant-loop-j
invariant-loop-j g l =
    (h : Bool → Bool) → ((x b : Bool) → goal.F-post g l.goes_on x b → b ≡ h x)
    → l.j + row_from l.words l.values h (l.most - l.j) l.on ≡ row_from l.words l.values h l.most l.at
