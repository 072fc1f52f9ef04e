use Rattle.std.proofs.Common.{◌∷◌, ◌++◌, ◌≤◌, length, take, flat_map}
use Rattle.std.specs.Fmt.{decimal, HasWritten, IsPlainFormatter}
use Rattle.scr.proofs.told.ToldDisplay.fmt.Given as goal

abbrev pub invariant-loop-carried : goal.invariant-loop-carried
invariant-loop-carried g l =
    (l.carried-index ≤ length l.carried-items)
    × (IsPlainFormatter l.fn.f → HasWritten g.W.Write.write_str_gives l.fn.f (decimal l.fn.self.number ++ flat_map (λ n. 32 ∷ decimal n) (take l.carried-index l.carried-items)) l.f)
