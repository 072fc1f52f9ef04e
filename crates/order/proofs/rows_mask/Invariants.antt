use Rattle.std.specs.Prelude.{ℕ, ◌≡◌, ◌-◌}
use Rattle.word.specs.Limits as Max
use Rattle.order.specs.declared.Masked.{Masked}
use Rattle.order.specs.Masks.{formula_mask, rows_mask}
use Rattle.order.proofs.rows_mask.Given as goal

abbrev pub invariant-loop : goal.invariant-loop
invariant-loop g l =
    (t : ℕ) → ((x : ℕ) (r : Masked) → goal.F-post g l.formula x r → r ≡ formula_mask l.words t x)
    → rows_mask l.words t (Max.max_rows - l.counter) l.on l.mask ≡ rows_mask l.words t Max.max_rows l.at l.first
