-- Reading a condition or an event takes just the words that the table of operand counts says: its first word, and so many formulas after it. The
-- table alone tells where they end.
use Rattle.std.specs.Prelude.{ℕ, zero, suc, ◌≡◌, refl, true, false, List, eqb}
use Rattle.std.proofs.Common.{sym, subst}
use native.Mathlib.Omega.{arith}
use Rattle.word.specs.Fields as W
use Rattle.word.specs.Operands.{Count, not_one, and_two, or_two, change_two, no_operator, counted}
use Rattle.meaning.specs.Answers.{expect}
use Rattle.meaning.specs.Searches.{mem, within}
use Rattle.meaning.specs.Syntax.{Variable}
use Rattle.meaning.specs.Reading.{word, condition_kinds, event_kinds, condition_by, event_by, test_ok, word_at, read_condition, read_event}
use Rattle.meaning.specs.FormulaWords.{Formulas, none, more}
use Rattle.theory.specs.Tests.{true_not_false, eqb_true, true_eqb}
use Rattle.theory.specs.Readers.{Gives, gives, stops, after, past, decides, branches}
use Rattle.theory.specs.TablesRead.{word_read}

-- ---- the rule, read backwards
none_follows : {k n : ℕ} → Count k n → (n ≡ 2 → ⊥) → (n ≡ 1 → ⊥) → n ≡ 0
none_follows not_one n2 n1 = absurd (n1 refl)
none_follows and_two n2 n1 = absurd (n2 refl)
none_follows or_two n2 n1 = absurd (n2 refl)
none_follows change_two n2 n1 = absurd (n2 refl)
none_follows (no_operator h) n2 n1 = refl

one_of_not : {k n : ℕ} → Count k n → n ≡ 1 → k ≡ 5
one_of_not not_one e = refl
one_of_not and_two e = omega (arith, e)
one_of_not or_two e = omega (arith, e)
one_of_not change_two e = omega (arith, e)
one_of_not (no_operator h) e = omega (arith, e)

module _ (ws : List ℕ) where
  abbrev Operands : ℕ → ℕ
  Operands i = W.operands (word ws i)

  pub one_end : {n i j k : ℕ} → Formulas ws n i j → Formulas ws n i k → j ≡ k
  one_end none none = refl
  one_end {k} (more {n} p q) (more r s) = one_end q (subst (λ (m : ℕ). Formulas ws n m k) (sym (one_end p r)) s)

  -- ---- a formula by the number of its operands
  with_none : {i : ℕ} → Operands i ≡ 0 → Formulas ws 1 i (suc i)
  with_none {i} e = more (subst (λ (n : ℕ). Formulas ws n (suc i) (suc i)) (sym e) none) none

  with_one : {i j : ℕ} → Operands i ≡ 1 → Formulas ws 1 (suc i) j → Formulas ws 1 i j
  with_one {i} {j} e p = more (subst (λ (n : ℕ). Formulas ws n (suc i) j) (sym e) p) none

  before : {n i j k : ℕ} → Formulas ws 1 i j → Formulas ws n j k → Formulas ws (suc n) i k
  before (more p none) q = more p q

  with_two : {i j k : ℕ} → Operands i ≡ 2 → Formulas ws 1 (suc i) j → Formulas ws 1 j k → Formulas ws 1 i k
  with_two {i} {j} {k} e p q = more (subst (λ (n : ℕ). Formulas ws n (suc i) k) (sym e) (before p q)) none

  -- what a test of w = word ws i says of the operands
  says : (i : ℕ) {w n : ℕ} → w ≡ word ws i → eqb (W.operands w) n ≡ true → Operands i ≡ n
  says i h e = rw (← h) (eqb_true e)

  says_not : (i : ℕ) {w n : ℕ} → w ≡ word ws i → eqb (W.operands w) n ≡ false → Operands i ≡ n → ⊥
  says_not i h e q = true_not_false (true_eqb (rw h q)) e

  -- ---- the readers
  module _ (vs : List Variable) where
    pub condition_words : (left i : ℕ) → Gives (λ r. Formulas ws 1 i r.1) (read_condition ws vs left i)
    unfolding read_condition condition_by
    condition_words zero i = past (word_at ws condition_kinds i) (λ w. stops 4 i)
    condition_words (suc left) i =
        after (word_read ws condition_kinds i) λ w h.
        decides (eqb (W.operands w) 2)
        (λ _ e. after (condition_words left (suc i)) λ r p. after (condition_words left r.1) λ q s. gives _ (with_two (says i h.0 e) p s))
        (λ _ n2. decides (eqb (W.operands w) 1)
        (λ _ e. after (condition_words left (suc i)) λ r p. gives _ (with_one (says i h.0 e) p))
        (λ _ n1.
        let z = with_none (none_follows (counted (word ws i)) (says_not i h.0 n2) (says_not i h.0 n1)) in
        branches (eqb (W.kind w) 4) (λ _. past (expect (test_ok vs w) 3 i) (λ _. gives _ z)) (λ _. gives _ z)))

    pub event_words : (left i : ℕ) → Gives (λ r. Formulas ws 1 i r.1) (read_event ws vs left i)
    unfolding read_event event_by mem
    event_words zero i = past (word_at ws event_kinds i) (λ w. stops 4 i)
    event_words (suc left) i =
        after (word_read ws event_kinds i) λ w h.
        decides (eqb (W.operands w) 2)
        (λ _ e. branches (eqb (W.kind w) 7)
        (λ _. after (event_words left (suc i)) λ r p. after (event_words left r.1) λ q s. gives _ (with_two (says i h.0 e) p s))
        (λ _. past (expect (within 1 2 (W.sort w)) 3 i) λ _.
        after (condition_words left (suc i)) λ r p. after (condition_words left r.1) λ q s. gives _ (with_two (says i h.0 e) p s)))
        (λ _ n2.
        let n1 : Operands i ≡ 1 → ⊥ =
        λ e. true_not_false (subst (λ (k : ℕ). mem k event_kinds ≡ true) (one_of_not (counted (word ws i)) e) h.1) refl in
        past (expect (eqb (W.truth w) 0) 3 i) (λ _. gives _ (with_none (none_follows (counted (word ws i)) (says_not i h.0 n2) n1))))
