-- What the loops of the code go by: how many turns are left, and lists that agree element by element.
use Rattle.std.specs.Prelude.{ℕ, zero, suc, ◌+◌, ◌-◌, ◌<◌, ◌≡◌, refl}
use Rattle.std.proofs.Common.{arith}
use Rattle.meaning.specs.Searches.{list_of}

-- one turn, and those after it
pub left : (n i : ℕ) → i < n → n - i ≡ suc (n - (i + 1))
left n i h = omega arith

pub list_same : (f g : ℕ → ℕ) (n : ℕ) → ((i : ℕ) → i < n → f i ≡ g i) → list_of f n ≡ list_of g n
unfolding list_of
list_same f g zero h = refl
list_same f g (suc n) h = rw (list_same f g n (λ i l. h i (omega arith)), h n (omega arith))
