-- Laws of held variables and radices, one for each way out of a function.
use Rattle.std.specs.Prelude.{◌≡◌, Bool, true, false, not, List, ℕ, ◌-◌, eqb, get_or}
use Rattle.std.proofs.Common.{ne_eqb}
use Rattle.word.specs.Fields as W
use Rattle.meaning.specs.Reading.{word}
use Rattle.index.specs.Places.{head_of}
use Rattle.index.specs.Held.{held_by, held_at, radix_at}

module _ (ws ps : List ℕ) (v : ℕ) where
  pub held_none : (p : ℕ) → p ≡ get_or ps v 0 → p ≡ 0 → true ≡ held_at ws ps v
  unfolding held_at held_by
  held_none p ep z = rw (← ep, z)

  pub held_some : (p w t : ℕ) → p ≡ get_or ps v 0 → (p ≡ 0 → ⊥) → w ≡ word ws (p - 1) → t ≡ W.sort w
      → not (eqb t 3) ≡ held_at ws ps v
  unfolding held_at held_by
  held_some p w t ep nz ew et = rw (← ep, ne_eqb p 0 nz, ← ew, ← et)

  module _ (b : Bool) (eb : b ≡ held_at ws ps v) where
    pub radix_held : (w r : ℕ) → b ≡ true → w ≡ word ws (head_of ps v) → r ≡ W.size w → r ≡ radix_at ws ps v
    unfolding radix_at
    radix_held w r t ew er = rw (← eb, t, ← ew) er

    pub radix_one : b ≡ false → 1 ≡ radix_at ws ps v
    unfolding radix_at
    radix_one f = rw (← eb, f)
