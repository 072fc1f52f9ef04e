-- Laws of read_condition, read_change and read_event, one for each way out.
use Rattle.std.specs.Prelude.{◌≡◌, refl, Bool, true, false, List, ℕ, zero, suc, ◌+◌, ◌-◌, ltb, Result, Ok, Err, is_ok}
use Rattle.std.proofs.Common.{sym, ap, ◌∙◌, arith, sub-one, add-one, ne_eqb, lt-ltb}
use Rattle.word.specs.Fields as W
use Rattle.word.specs.Kinds.{IsChange}
use Rattle.word.specs.declared.kinds.Change.{Change}
use Rattle.word.specs.declared.kinds.Unnamed.{Unnamed}
use Rattle.meaning.specs.Answers.{◌>>>◌, expect}
use Rattle.meaning.specs.Searches.{within}
use Rattle.meaning.specs.Syntax.{Variable}
use Rattle.meaning.specs.Reading.{test_ok, condition_kinds, event_kinds, condition_by, event_by, word_at, read_condition, read_event}
use Rattle.index.specs.Places.{Reached, Refused, reach, then_at}
use Rattle.reader.specs.declared.faults.Fault.{Fault}
use Rattle.reader.specs.declared.faults.Fault.TheVariants.{Range}
use Rattle.reader.specs.Faults.{refusal, carried, reached}
use Rattle.reader.specs.Formulas.{change_reach}
use Rattle.reader.specs.First.{first_word, first_said}
use Rattle.reader.proofs.FirstLaws.{first_then}
use Rattle.reader.proofs.Answers.{made_reach, two_reach, then_next, then_stop}

-- ---- conditions
condition_unroll : (ws : List ℕ) (vs : List Variable) (n at : ℕ)
    → (word_at ws condition_kinds at >>> λ w. expect (ltb 0 n) 4 at >>> λ _. condition_by vs (read_condition ws vs (n - 1)) w at) ≡ read_condition ws vs n at
unfolding read_condition
condition_unroll ws vs zero at = refl
condition_unroll ws vs (suc n) at = rw (lt-ltb 0 (suc n) (omega arith), sub-one (suc n))

-- r is the first word of a condition
module _ (ws : List ℕ) (vs : List Variable) (n at : ℕ) (r : Result ℕ Fault) (er : first_said r ≡ first_word ws condition_kinds n at) where
  condition_begins : reach (first_said r >>> λ w. condition_by vs (read_condition ws vs (n - 1)) w at) ≡ reach (read_condition ws vs n at)
  condition_begins = ap reach (rw er (sym (first_then ws condition_kinds n at _) ∙ condition_unroll ws vs n at))

  pub condition_first : (q : Fault) → r ≡ Err q → reached (Err q) ≡ reach (read_condition ws vs n at)
  unfolding first_said reached reach
  condition_first q e =
      let h : reached (Err q) ≡ reach (first_said r >>> λ w. condition_by vs (read_condition ws vs (n - 1)) w at) = rw e in
      h ∙ condition_begins

  -- it is w, and o operands follow it
  module _ (w : ℕ) (e : r ≡ Ok w) where
    module _ (o : ℕ) (eo : o ≡ W.operands w) where
      arm : (x : Reached) → x ≡ reach (condition_by vs (read_condition ws vs (n - 1)) w at) → x ≡ reach (read_condition ws vs n at)
      unfolding first_said
      arm x ex =
          let h : reach (condition_by vs (read_condition ws vs (n - 1)) w at) ≡ reach (first_said r >>> λ w. condition_by vs (read_condition ws vs (n - 1)) w at) = rw e in
          ex ∙ h ∙ condition_begins

      module _ (k : ℕ) (n2 : o ≡ 2 → ⊥) (n1 : o ≡ 1 → ⊥) (ek : k ≡ W.kind w) where
        pub condition_test : (b : Bool) → k ≡ 4 → b ≡ test_ok vs w → b ≡ true → reached (Ok (at + 1)) ≡ reach (read_condition ws vs n at)
        unfolding condition_by reach reached
        condition_test b e4 eb t = arm _ (rw (← eo, ne_eqb o 2 n2, ne_eqb o 1 n1, ← ek, e4, ← eb, t, add-one at))

        pub condition_range : (b : Bool) → k ≡ 4 → b ≡ test_ok vs w → b ≡ false → reached (Err (Range at)) ≡ reach (read_condition ws vs n at)
        unfolding condition_by reach reached refusal carried
        condition_range b e4 eb t = arm _ (rw (← eo, ne_eqb o 2 n2, ne_eqb o 1 n1, ← ek, e4, ← eb, t))

        pub condition_constant : (k ≡ 4 → ⊥) → reached (Ok (at + 1)) ≡ reach (read_condition ws vs n at)
        unfolding condition_by reach reached
        condition_constant n4 = arm _ (rw (← eo, ne_eqb o 2 n2, ne_eqb o 1 n1, ← ek, ne_eqb k 4 n4, add-one at))

      pub condition_not : (a : Reached) → o ≡ 1 → a ≡ reach (read_condition ws vs (n - 1) (at + 1))
          → a ≡ reach (read_condition ws vs n at)
      unfolding condition_by
      condition_not a e1 ea =
          arm _ (rw (← eo, e1) (ea ∙ rw (add-one at) (sym (made_reach (read_condition ws vs (n - 1) (suc at)) _))))

      module _ (e2 : o ≡ 2) where
        two : (a : Reached) → a ≡ reach (read_condition ws vs (n - 1) (at + 1)) → (r : Reached) → r ≡ then_at a (λ j. reach (read_condition ws vs (n - 1) j)) → r ≡ reach (read_condition ws vs n at)
        unfolding condition_by
        two a ea r er =
            arm r
            (rw (← eo, e2)
            (er ∙ rw (ea, add-one at) (sym (two_reach (read_condition ws vs (n - 1) (suc at)) (read_condition ws vs (n - 1)) _))))

        pub condition_both : (b : Reached) (j : ℕ) → reached (Ok j) ≡ reach (read_condition ws vs (n - 1) (at + 1)) → b ≡ reach (read_condition ws vs (n - 1) j)
            → b ≡ reach (read_condition ws vs n at)
        condition_both b j ea eb = two (reached (Ok j)) ea _ (then_next (Ok j) _ _ j refl eb)

        pub condition_stop : (q i : ℕ) → Refused q i ≡ reach (read_condition ws vs (n - 1) (at + 1)) → Refused q i ≡ reach (read_condition ws vs n at)
        unfolding then_at
        condition_stop q i ea = two (Refused q i) ea _ refl

        -- of a fault of the code
        pub condition_fault : (q : Fault) → reached (Err q) ≡ reach (read_condition ws vs (n - 1) (at + 1)) → reached (Err q) ≡ reach (read_condition ws vs n at)
        unfolding reached
        condition_fault q ea = condition_stop (refusal q) (carried q) ea

pub ruleset conditions =
    (condition_first, condition_test, condition_range, condition_constant, condition_not, condition_both, condition_fault)

-- ---- the two conditions of a change
module _ (ws : List ℕ) (vs : List Variable) (n at : ℕ) where
  pub change_both : (b : Result ℕ Fault) (j : ℕ) → reached (Ok j) ≡ reach (read_condition ws vs n at) → reached b ≡ reach (read_condition ws vs n j)
      → reached b ≡ change_reach ws vs n at
  unfolding change_reach
  change_both b j ea eb = rw (← ea) (then_next (Ok j) _ _ j refl eb)

  pub change_stop : (q : Fault) → reached (Err q) ≡ reach (read_condition ws vs n at) → reached (Err q) ≡ change_reach ws vs n at
  unfolding change_reach
  change_stop q ea = rw (← ea) (then_stop (Err q) _ q refl)

-- ---- events
event_unroll : (ws : List ℕ) (vs : List Variable) (n at : ℕ)
    → (word_at ws event_kinds at >>> λ w. expect (ltb 0 n) 4 at >>> λ _. event_by (read_event ws vs (n - 1)) (read_condition ws vs (n - 1)) w at) ≡ read_event ws vs n at
unfolding read_event
event_unroll ws vs zero at = refl
event_unroll ws vs (suc n) at = rw (lt-ltb 0 (suc n) (omega arith), sub-one (suc n))

-- r is the first word of an event
module _ (ws : List ℕ) (vs : List Variable) (n at : ℕ) (r : Result ℕ Fault) (er : first_said r ≡ first_word ws event_kinds n at) where
  event_begins : reach (first_said r >>> λ w. event_by (read_event ws vs (n - 1)) (read_condition ws vs (n - 1)) w at) ≡ reach (read_event ws vs n at)
  event_begins = ap reach (rw er (sym (first_then ws event_kinds n at _) ∙ event_unroll ws vs n at))

  pub event_first : (q : Fault) → r ≡ Err q → reached (Err q) ≡ reach (read_event ws vs n at)
  unfolding first_said reached reach
  event_first q e =
      let h : reached (Err q) ≡ reach (first_said r >>> λ w. event_by (read_event ws vs (n - 1)) (read_condition ws vs (n - 1)) w at) = rw e in
      h ∙ event_begins

  module _ (w : ℕ) (e : r ≡ Ok w) where
    module _ (o : ℕ) (eo : o ≡ W.operands w) where
      event_arm : (x : Reached) → x ≡ reach (event_by (read_event ws vs (n - 1)) (read_condition ws vs (n - 1)) w at) → x ≡ reach (read_event ws vs n at)
      unfolding first_said
      event_arm x ex =
          let h : reach (event_by (read_event ws vs (n - 1)) (read_condition ws vs (n - 1)) w at) ≡ reach (first_said r >>> λ w. event_by (read_event ws vs (n - 1)) (read_condition ws vs (n - 1)) w at) = rw e in
          ex ∙ h ∙ event_begins

      pub event_never : (v : ℕ) → (o ≡ 2 → ⊥) → v ≡ W.truth w → v ≡ 0 → reached (Ok (at + 1)) ≡ reach (read_event ws vs n at)
      unfolding event_by reach reached
      event_never v n2 ev z = event_arm _ (rw (← eo, ne_eqb o 2 n2, ← ev, z, add-one at))

      pub event_true : (v : ℕ) → (o ≡ 2 → ⊥) → v ≡ W.truth w → (v ≡ 0 → ⊥) → reached (Err (Range at)) ≡ reach (read_event ws vs n at)
      unfolding event_by reach reached refusal carried
      event_true v n2 ev z = event_arm _ (rw (← eo, ne_eqb o 2 n2, ← ev, ne_eqb v 0 z))

      module _ (k : ℕ) (e2 : o ≡ 2) (ek : k ≡ W.kind w) (e7 : k ≡ 7) where
        two_events : (a : Reached) → a ≡ reach (read_event ws vs (n - 1) (at + 1)) → (r : Reached) → r ≡ then_at a (λ j. reach (read_event ws vs (n - 1) j)) → r ≡ reach (read_event ws vs n at)
        unfolding event_by
        two_events a ea r er =
            event_arm r
            (rw (← eo, e2, ← ek, e7) (er ∙ rw (ea, add-one at) (sym (two_reach (read_event ws vs (n - 1) (suc at)) (read_event ws vs (n - 1)) _))))

        pub event_both : (b : Reached) (j : ℕ) → reached (Ok j) ≡ reach (read_event ws vs (n - 1) (at + 1)) → b ≡ reach (read_event ws vs (n - 1) j)
            → b ≡ reach (read_event ws vs n at)
        event_both b j ea eb = two_events (reached (Ok j)) ea _ (then_next (Ok j) _ _ j refl eb)

        pub event_stop : (q i : ℕ) → Refused q i ≡ reach (read_event ws vs (n - 1) (at + 1)) → Refused q i ≡ reach (read_event ws vs n at)
        unfolding then_at
        event_stop q i ea = two_events (Refused q i) ea _ refl

        -- of a fault of the code
        pub event_fault : (q : Fault) → reached (Err q) ≡ reach (read_event ws vs (n - 1) (at + 1)) → reached (Err q) ≡ reach (read_event ws vs n at)
        unfolding reached
        event_fault q ea = event_stop (refusal q) (carried q) ea

      module _ (k s : ℕ) (b : Bool) (e2 : o ≡ 2) (ek : k ≡ W.kind w) (n7 : k ≡ 7 → ⊥) (es : s ≡ W.sort w) where
        module _ (eb : b ≡ within 1 2 s) where
          pub event_sort : b ≡ false → reached (Err (Range at)) ≡ reach (read_event ws vs n at)
          unfolding event_by reach reached refusal carried
          event_sort t = event_arm _ (rw (← eo, e2, ← ek, ne_eqb k 7 n7, ← es, ← eb, t))

          pub event_change : (r : Reached) → b ≡ true → r ≡ change_reach ws vs (n - 1) (at + 1) → r ≡ reach (read_event ws vs n at)
          unfolding event_by change_reach
          event_change r t er =
              event_arm r
              (rw (← eo, e2, ← ek, ne_eqb k 7 n7, ← es, ← eb, t)
              (er ∙ rw (add-one at) (sym (two_reach (read_condition ws vs (n - 1) (suc at)) (read_condition ws vs (n - 1)) _))))

        -- by the name that the code looks for
        module _ (c : Result Change Unnamed) (ec : IsChange s c) (eb : b ≡ is_ok c) where
          in_range : b ≡ within 1 2 s
          unfolding within
          in_range = eb ∙ ec.0

          pub event_unnamed : b ≡ false → reached (Err (Range at)) ≡ reach (read_event ws vs n at)
          event_unnamed t = event_sort in_range t

          pub event_named : (r : Reached) → b ≡ true → r ≡ change_reach ws vs (n - 1) (at + 1) → r ≡ reach (read_event ws vs n at)
          event_named r t er = event_change in_range r t er

pub ruleset events =
    (event_first, event_never, event_true, event_both, event_fault, event_unnamed, event_named)

pub ruleset change_laws = (change_both, change_stop)
