-- Laws of refusals: as numbers, and as what the layers below refuse.
use Rattle.std.specs.Prelude.{true}
use Rattle.std.proofs.Common.{◌≡◌, List, [], ◌∷◌, ℕ, take, inl, inr, ne_eqb}
use Rattle.meaning.specs.Answers.{Outcome, refuse, typed_numbers}
use Rattle.meaning.specs.Searches.{mem}
use Rattle.theory.specs.Tests.{mem_cons, mem_none}
use Rattle.scr.specs.declared.Refusal.{Refusal}
use Rattle.scr.specs.declared.Refusal.TheVariants as R
use Rattle.scr.specs.declared.told.Told.{Told}
use Rattle.scr.specs.Answers.{refusal_says, refused}
use Rattle.scr.specs.Telling.{told_says}

-- a refusal as numbers, its case being known
pub told_case : (t : Told) (q q' : Refusal) (n : ℕ) (xs : List ℕ) → q ≡ q' → t.number ≡ n → take t.count t.carried ≡ xs → (n, xs) ≡ refusal_says q' → told_says t ≡ refusal_says q
unfolding told_says
told_case t q q' n xs e en ex h = rw (e, en, ex) h

-- of the numbers of reading before the dependency order, the one that is left
pub says_8 : (k x : ℕ) → mem k typed_numbers ≡ true → (k ≡ 1 → ⊥) → (k ≡ 2 → ⊥) → (k ≡ 3 → ⊥) → (k ≡ 4 → ⊥) → (k ≡ 5 → ⊥) → (k ≡ 6 → ⊥) → (k ≡ 7 → ⊥)
    → (k ≡ 21 → ⊥) → refusal_says (R.States x) ≡ (k, x ∷ [])
unfolding refusal_says mem
says_8 k x h a b c d e f g i =
    let l = simp (ne_eqb k 1 a, ne_eqb k 2 b, ne_eqb k 3 c, ne_eqb k 4 d, ne_eqb k 5 e, ne_eqb k 6 f, ne_eqb k 7 g, ne_eqb k 21 i) at h in
    let q : k ≡ 8 = elim (mem_cons k 8 [] l) [ inl p ↦ p | inr p ↦ absurd (mem_none k p) ] in
    rw q

-- a refusal of this number that carries these
pub refused_says : {A : Type 0} (r : Refusal) (n : ℕ) (xs : List ℕ) → refusal_says r ≡ (n, xs) → ◌≡◌ {A = Outcome A} (refused r) (refuse n xs)
unfolding refused
refused_says r n xs e = rw e
