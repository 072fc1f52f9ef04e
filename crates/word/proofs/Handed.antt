-- What `map_err` hands on: the value as it is, and of an error what f makes of it.
use Rattle.std.proofs.Common.{◌≡◌, refl, sym, ◌∙◌, Result, Ok, Err, MatchResult, IsErrAnd}

module _ {T E D : Type 0} (r : Result T E) (m : Result T D) (P : E → D → Type 0) (cases : MatchResult r (λ x. m ≡ Ok x) (λ e. IsErrAnd m (P e))) where
  pub handed_err : (f : E → D) → ((e : E) (d : D) → P e d → d ≡ f e) → (d : D) → m ≡ Err d → (e : E) × (r ≡ Err e) × (d ≡ f e)
  handed_err f made d h = go r refl cases
    where
      go : (q : Result T E) → r ≡ q → MatchResult q (λ x. m ≡ Ok x) (λ e. IsErrAnd m (P e)) → (e : E) × (r ≡ Err e) × (d ≡ f e)
      go (Ok x) k c = absurd (let i : ◌≡◌ {A = Result T D} (Ok x) (Err d) = sym c ∙ h in cc)
      go (Err e) k c = (e, k, made e d (rw h at c))

  pub handed_ok : (x : T) → m ≡ Ok x → r ≡ Ok x
  handed_ok x h = go r refl cases
    where
      go : (q : Result T E) → r ≡ q → MatchResult q (λ x. m ≡ Ok x) (λ e. IsErrAnd m (P e)) → r ≡ Ok x
      go (Ok y) k c = let i : ◌≡◌ {A = Result T D} (Ok y) (Ok x) = sym c ∙ h in let e : y ≡ x = cc in rw (← e) k
      go (Err e) k c = absurd (let z : IsErrAnd {T = T} {E = D} (Ok x) (P e) = rw h at c in z)
