-- The mask of a list of variables has a bit for each of them.
use Rattle.std.specs.Prelude.{ℕ, ◌<◌, ◌≡◌, ◌||◌, List, [], ◌∷◌, eqb, bit_or}
use Rattle.std.proofs.Common.{sym}
use Rattle.std.proofs.Math.Bool.{or-false, or_assoc}
use Rattle.std.proofs.Math.Decide.{ℕ_discrete}
use Rattle.std.proofs.lemmas.Bool.{eq-eqb, ne_eqb}
use Rattle.word.specs.Limits as Max
use Rattle.meaning.specs.Searches.{mem}
use Rattle.index.specs.Bits.{bit_in, one_bit}
use Rattle.index.proofs.BitLaws.{zero_at, or_at, bit_of}
use Rattle.order.specs.Orders.{mask_of}

pub eqb_swap : (a b : ℕ) → eqb a b ≡ eqb b a
eqb_swap a b =
    elim (ℕ_discrete a b) [
      | yes e ↦ rw (eq-eqb a b e, eq-eqb b a (sym e))
      | no n ↦ rw (ne_eqb a b n, ne_eqb b a (λ e. n (sym e)))
    ]

-- ---- a list of variables
mask_has : (xs : List ℕ) (m b : ℕ) → b < Max.max_variables → bit_in (mask_of xs m) b ≡ bit_in m b || mem b xs
unfolding mask_of mem
mask_has [] m b h = sym (or-false (bit_in m b))
mask_has (x ∷ xs) m b h =
    rw (mask_has xs (bit_or m (one_bit x)) b h, or_at m (one_bit x) b, bit_of x b h) (or_assoc (bit_in m b) (eqb b x) (mem b xs))

pub mem_bit : (xs : List ℕ) (b : ℕ) → b < Max.max_variables → mem b xs ≡ bit_in (mask_of xs 0) b
mem_bit xs b h = rw (mask_has xs 0 b h, zero_at b)
