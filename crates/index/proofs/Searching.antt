-- What `find` and `all` of a range, and `position` of a list, give where the closure computes a test: what the meaning's searches say.
use Rattle.std.specs.Prelude.{ℕ, zero, suc, List, [], ◌∷◌, ◌++◌, ◌+◌, ◌-◌, ◌<◌, ◌≤◌, ◌≡◌, Bool, true, false, Some, None, MatchBool, MatchOption, get_or, length, option_map, unwrap_or}
use Rattle.std.specs.Prelude as R
use Rattle.std.specs.Fn.{Called, CalledAt}
use Rattle.std.specs.Iterator.{Drains, YieldsThen}
use Rattle.std.specs.List.{FoldsTo, AllWithin, HoldsAt, range_with_len}
use Rattle.std.specs.Slice.Iter.{iter_rest}
use Rattle.std.specs.declared.slice.Iter.{Iter}
use Rattle.std.specs.declared.ops.Range.{Range}
use Rattle.std.proofs.iter.Yields.{fronts, nat_range_steps, Range-gives}
use Rattle.std.proofs.Common.{refl, sym, ◌∙◌, subst, arith, add-one, length-append}
use Rattle.std.proofs.lemmas.Fn.{fold_over}
use Rattle.std.proofs.Math.Option.{Option, none, some}
use Rattle.std.proofs.lemmas.Iterator.{first_from_Range, cases_from_all, IsFirst-from_position, YieldsList-from_range, YieldsList-from_slice}
use Rattle.std.proofs.lemmas.List.FromFn.{length-range_with_len, get_or-range_with_len}
use denote.Param.Members.{Mut}
use denote.Ref.{Bor}
use Rattle.meaning.specs.Searches.{least, or_else, all_below, iterate}
use Rattle.theory.specs.Found.{least_is, least_nothing}
use Rattle.theory.specs.Tests.{all_below_true, true_all_below, true_not_false}
use Rattle.index.specs.Search.{found_of}

-- ---- the lowest number, told by what it must be
pub least_first : (test : ℕ → Bool) (n : ℕ) (r : R.Option ℕ)
    → MatchOption r ((k : ℕ) → k < n → test k ≡ false) (λ i. (i < n) × (test i ≡ true) × ((k : ℕ) → k < i → test k ≡ false))
    → r ≡ found_of (least test n)
unfolding found_of
least_first test n None h = rw (least_nothing test n h)
least_first test n (Some i) h = rw (least_is test n i h.0 h.1 h.2)

-- the same of the numbers from a on
least_from : (test : ℕ → Bool) (a b : ℕ) (r : R.Option ℕ)
    → MatchOption r ((k : ℕ) → a ≤ k → k < b → test k ≡ false) (λ i. (a ≤ i) × (i < b) × (test i ≡ true) × ((k : ℕ) → a ≤ k → k < i → test k ≡ false))
    → r ≡ option_map (λ k. a + k) (found_of (least (λ k. test (a + k)) (b - a)))
unfolding found_of
least_from test a b None h = rw (least_nothing (λ k. test (a + k)) (b - a) (λ k l. h (a + k) (omega arith) (omega arith)))
least_from test a b (Some i) h =
    let e : a + (i - a) ≡ i = omega (arith, h.0) in
    rw (least_is (λ k. test (a + k)) (b - a) (i - a) (omega (arith, h.0, h.1)) (rw e h.2) (λ k l. h.3 (a + k) (omega arith) (omega (arith, h.0))), e)

module _ {F : Type 0} {g : Mut F (Bor ℕ × Unit {0}) Bool} (test : ℕ → Bool) (s u : Range ℕ) (f : F) (r : R.Option ℕ)
    (d : (xs : List ℕ) × (j : F) × YieldsThen nat_range_steps s xs r u × FoldsTo (λ p x q. CalledAt g p x false q) f xs j × MatchOption r (Unit {0}) (λ x. (h : F) × CalledAt g j x true h)) where
  -- `(a..n).find(f)`
  pub find_from_gives : ((x : ℕ) (b : Bool) (q : F) → CalledAt g f x b q → (q ≡ f) × (b ≡ test x))
      → r ≡ option_map (λ k. s.start + k) (found_of (least (λ k. test (s.start + k)) (s.end - s.start)))
  find_from_gives calls =
      least_from test s.start s.end r (first_from_Range s u f r (λ k. test k ≡ true) (λ k. test k ≡ false) d (λ x q c. sym (calls x true q c).1) (λ x q c. let h = calls x false q c in (h.0, sym h.1)))

  -- `(0..n).find(f)`
  pub find_gives : s.start ≡ 0 → ((x : ℕ) (b : Bool) (q : F) → CalledAt g f x b q → (q ≡ f) × (b ≡ test x)) → r ≡ found_of (least test s.end)
  find_gives z calls =
      least_first test s.end r (by r (first_from_Range s u f r (λ k. test k ≡ true) (λ k. test k ≡ false) d (λ x q c. sym (calls x true q c).1) (λ x q c. let h = calls x false q c in (h.0, sym h.1))))
    where
      by : (o : R.Option ℕ) → MatchOption o ((k : ℕ) → s.start ≤ k → k < s.end → test k ≡ false) (λ i. (s.start ≤ i) × (i < s.end) × (test i ≡ true) × ((k : ℕ) → s.start ≤ k → k < i → test k ≡ false))
          → MatchOption o ((k : ℕ) → k < s.end → test k ≡ false) (λ i. (i < s.end) × (test i ≡ true) × ((k : ℕ) → k < i → test k ≡ false))
      by None h = λ k l. h k (omega (arith, z)) l
      by (Some i) h = (h.1, h.2, λ k l. h.3 k (omega (arith, z)) l)

pub unwrap_found_from : (a b : ℕ) (o : Option ℕ) → a ≤ b → unwrap_or (option_map (λ k. a + k) (found_of o)) b ≡ a + or_else o (b - a)
unfolding found_of or_else
unwrap_found_from a b none h = omega arith
unwrap_found_from a b (some k) h = refl

pub unwrap_found : (o : Option ℕ) (d : ℕ) → unwrap_or (found_of o) d ≡ or_else o d
unfolding found_of or_else
unwrap_found none d = refl
unwrap_found (some k) d = refl

-- `(0..n).all(f)`
one_fails : (test : ℕ → Bool) (n k : ℕ) → k < n → test k ≡ false → all_below test n ≡ false
one_fails test n k l e = go (all_below test n) refl
  where
    go : (b : Bool) → all_below test n ≡ b → b ≡ false
    go true h = absurd (true_not_false (all_below_true test n h k l) e)
    go false h = refl

pub all_gives : {F : Type 0} {g : Mut F (ℕ × Unit {0}) Bool} (test : ℕ → Bool) (s u : Range ℕ) (f : F) (r : Bool)
    → (xs : List ℕ) × (o : R.Option ℕ) × (j : F) × YieldsThen nat_range_steps s xs o u × FoldsTo (λ p x q. Called g p (x, tt) true q) f xs j × MatchOption o (r ≡ true) (λ x. (r ≡ false) × ((h : F) × Called g j (x, tt) false h))
    → s.start ≡ 0 → ((x : ℕ) (b : Bool) (q : F) → Called g f (x, tt) b q → (q ≡ f) × (b ≡ test x)) → r ≡ all_below test s.end
all_gives test s u f r d z calls =
    by r (cases_from_all u f r (λ k. test k ≡ true) (λ k. test k ≡ false) d (YieldsList-from_range s.start s.end _ refl refl) (λ x q c. let h = calls x true q c in (h.0, sym h.1)) (λ x q c. sym (calls x false q c).1))
  where
    numbers : List ℕ
    numbers = range_with_len s.start (s.end - s.start)

    long : length numbers ≡ s.end
    long = let e = length-range_with_len s.start (s.end - s.start) in omega (arith, e, z)

    at : (k : ℕ) → k < s.end → get_or numbers k 0 ≡ k
    at k l = let e = get_or-range_with_len s.start (s.end - s.start) k 0 (omega (arith, z)) in omega (arith, e, z)

    by : (b : Bool) → MatchBool b (AllWithin (λ k. test k ≡ true) numbers 0 (length numbers)) ((k : ℕ) × (k < length numbers) × HoldsAt (λ k. test k ≡ false) numbers k) → b ≡ all_below test s.end
    by true h = sym (true_all_below test s.end (λ k l. subst (λ m. test m ≡ true) (at k l) (h k 0 (omega arith) (omega (arith, long)))))
    by false h = let l : h.0 < s.end = omega (arith, h.1, long) in sym (one_fails test s.end h.0 l (subst (λ m. test m ≡ false) (at h.0 l) (h.2 0)))

-- `(0..n).fold(a, f)`, where f does h whatever the number
pub fold_iterates : {F : Type 0} {g : Mut F (ℕ × (ℕ × Unit {0})) ℕ} (h : ℕ → ℕ) (s : Range ℕ) (f : F) (a r : ℕ)
    → (xs : List ℕ) × (q : F) × Drains nat_range_steps s xs × FoldsTo {P = F × ℕ} (λ p x q. Called g p.0 (p.1, (x, tt)) q.1 q.0) (f, a) xs (q, r)
    → s.start ≡ 0 → ((x k b : ℕ) (q : F) → Called g f (x, (k, tt)) b q → (q ≡ f) × (b ≡ h x)) → r ≡ iterate h s.end a
unfolding iterate
fold_iterates {F} {g} h s f a r d z calls =
    rw (← long) (fold_over nat_range_steps (λ x. x) g (λ ys b. b ≡ iterate h (length ys) a) f step s numbers a r (Range-gives s) base d)
  where
    numbers : List ℕ
    numbers = range_with_len s.start (s.end - s.start)

    long : length numbers ≡ s.end
    long = let e = length-range_with_len s.start (s.end - s.start) in omega (arith, e, z)

    base : a ≡ iterate h (length {A = ℕ} []) a
    base = refl

    step : (ys : List ℕ) (x k b : ℕ) (q : F) → x ≡ iterate h (length ys) a → Called g f (x, (k, tt)) b q
        → (b ≡ iterate h (length (ys ++ (k ∷ []))) a) × (q ≡ f)
    step ys x k b q e c =
        let w = calls x k b q c in
        let l : length (ys ++ (k ∷ [])) ≡ suc (length ys) = length-append ys (k ∷ []) ∙ add-one (length ys) in
        (rw (l, w.1, e), w.0)

-- `xs.iter().position(f)`
pub position_gives : {F : Type 0} {g : Mut F (Bor ℕ × Unit {0}) Bool} (test : ℕ → Bool) (s u : Iter ℕ) (f : F) (r : R.Option ℕ) (ws : List ℕ)
    → (xs : List (Bor ℕ)) × (o : R.Option (Bor ℕ)) × (j : F) × YieldsThen fronts s xs o u × FoldsTo (λ p x q. Called g p (x, tt) false q) f xs j × MatchOption o (r ≡ None) (λ x. (r ≡ Some (length xs)) × ((h : F) × Called g j (x, tt) true h))
    → iter_rest s ≡ ws → ((x : Bor ℕ) (b : Bool) (q : F) → Called g f (x, tt) b q → (q ≡ f) × (b ≡ test x.now)) → r ≡ found_of (least (λ k. test (get_or ws k 0)) (length ws))
position_gives test s u f r ws d e calls =
    least_first (λ k. test (get_or ws k 0)) (length ws) r
    (by r (IsFirst-from_position u f r (λ k. test k ≡ true) (λ k. test k ≡ false) d (YieldsList-from_slice ws e) (λ x q c. sym (calls x true q c).1) (λ x q c. let h = calls x false q c in (h.0, sym h.1))))
  where
    by : (o : R.Option ℕ) → MatchOption o (AllWithin (λ k. test k ≡ false) ws 0 (length ws)) (λ i. (i < length ws) × HoldsAt (λ k. test k ≡ true) ws i × AllWithin (λ k. test k ≡ false) ws 0 i)
        → MatchOption o ((k : ℕ) → k < length ws → test (get_or ws k 0) ≡ false) (λ i. (i < length ws) × (test (get_or ws i 0) ≡ true) × ((k : ℕ) → k < i → test (get_or ws k 0) ≡ false))
    by None h = λ k l. h k 0 (omega arith) l
    by (Some i) h = (h.0, h.1 0, λ k l. h.2 k 0 (omega arith) l)
