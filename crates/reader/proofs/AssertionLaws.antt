-- Laws of read_assertion and read_assertions, one for each way out.
use Rattle.std.specs.Prelude.{◌≡◌, refl, Bool, true, false, List, [], ◌∷◌, ℕ, zero, suc, ◌+◌, ◌-◌, ◌≤◌, ◌<◌, eqb, leb, length, Result, Ok, Err, is_ok}
use Rattle.std.proofs.Common.{sym, ap, ◌∙◌, arith, add-one, le-leb}
use Rattle.std.proofs.lemmas.Bool.{lt-leb}
use Rattle.word.specs.Fields as W
use Rattle.word.specs.Kinds.{IsAssertionType}
use Rattle.word.specs.declared.kinds.AssertionType.{AssertionType}
use Rattle.word.specs.declared.kinds.Unnamed.{Unnamed}
use Rattle.word.specs.Limits as Max
use Rattle.meaning.specs.Answers.{◌>>>◌, expect}
use Rattle.meaning.specs.Syntax.{Condition, Variable}
use Rattle.meaning.specs.Reading.{Read, read_condition, read_assertion, read_assertions}
use Rattle.theory.specs.Loops.{left}
use Rattle.index.specs.Places.{Next, reach, then_at}
use Rattle.reader.specs.declared.faults.Fault.{Fault}
use Rattle.reader.specs.declared.faults.Fault.TheVariants.{Range}
use Rattle.reader.specs.Faults.{refusal, carried, reached}
use Rattle.reader.specs.First.{first_word, first_said}
use Rattle.reader.proofs.Answers.{made_reach, two_reach, then_next, then_stop}
use Rattle.reader.proofs.FirstLaws.{first_then}

-- ---- an assertion, which r is the first word of
module _ (ws : List ℕ) (vs : List Variable) (l at : ℕ) (r : Result ℕ Fault) (er : first_said r ≡ first_word ws (10 ∷ []) l at) where
  -- what comes after the first word
  abbrev after : ℕ → Read Condition
  after w = expect (eqb (W.sort w) 1) 3 at >>> λ _. read_condition ws vs Max.max_depth (suc at)

  assertion_begins : reach (first_said r >>> after) ≡ reach (read_assertion ws vs l at)
  unfolding read_assertion
  assertion_begins = ap reach (rw er (sym (first_then ws (10 ∷ []) l at after)))

  pub assertion_stops : (q : Fault) → r ≡ Err q → reached (Err q) ≡ reach (read_assertion ws vs l at)
  unfolding first_said reached reach
  assertion_stops q e = let h : reached (Err q) ≡ reach (first_said r >>> after) = rw e in h ∙ assertion_begins

  -- whether its type has a name
  module _ (w s : ℕ) (e : r ≡ Ok w) (es : s ≡ W.sort w) (a : Result AssertionType Unnamed) (ea : IsAssertionType s a) where
    typed : (c : Bool) → is_ok a ≡ c → eqb (W.sort w) 1 ≡ c
    typed c h = rw (← es) (sym ea.0 ∙ h)

    pub assertion_range : (u : Unnamed) → a ≡ Err u → reached (Err (Range at)) ≡ reach (read_assertion ws vs l at)
    unfolding first_said reached refusal carried reach
    assertion_range u n =
        let h : reached (Err (Range at)) ≡ reach (first_said r >>> after) = rw (e, typed false (rw n refl)) in
        h ∙ assertion_begins

    pub assertion_on : (t : AssertionType) (c : Result ℕ Fault) → a ≡ Ok t → reached c ≡ reach (read_condition ws vs Max.max_depth (at + 1))
        → reached c ≡ reach (read_assertion ws vs l at)
    unfolding first_said
    assertion_on t c n ec =
        let h : reach (read_condition ws vs Max.max_depth (suc at)) ≡ reach (first_said r >>> after) = rw (e, typed true (rw n refl)) in
        ec ∙ rw (add-one at) h ∙ assertion_begins

pub ruleset assertion_laws = (assertion_stops, assertion_range, assertion_on)

-- ---- the assertions: what is left to read from here is the whole reading
module _ (ws : List ℕ) (vs : List Variable) where
  assertions_ended : (l on : ℕ) → leb (length ws) on ≡ true → reach (read_assertions ws vs l on) ≡ Next on
  unfolding read_assertions reach
  assertions_ended zero on e = rw e
  assertions_ended (suc l) on e = rw e

  assertions_step : (l on : ℕ) → leb (length ws) on ≡ false
      → reach (read_assertions ws vs (suc l) on)
      ≡ then_at (reach (read_assertion ws vs (suc l) on)) (λ j. reach (read_assertions ws vs l j))
  unfolding read_assertions
  assertions_step l on e = rw e (two_reach (read_assertion ws vs (suc l) on) (read_assertions ws vs l) _)

  assertions_last : (on : ℕ) → leb (length ws) on ≡ false
      → reach (read_assertions ws vs 0 on) ≡ reach (read_assertion ws vs 0 on)
  unfolding read_assertions
  assertions_last on e = rw e (made_reach (read_assertion ws vs 0 on) _)

  module _ (i on at : ℕ)
      (inv : reach (read_assertions ws vs (Max.max_assertions - i) on) ≡ reach (read_assertions ws vs Max.max_assertions at)) where
    pub assertions_end : length ws ≤ on → reached (Ok on) ≡ reach (read_assertions ws vs Max.max_assertions at)
    unfolding reached
    assertions_end h = sym (assertions_ended (Max.max_assertions - i) on (le-leb (length ws) on h)) ∙ inv

    pub assertions_over : (r : Result ℕ Fault) → on < length ws → Max.max_assertions ≤ i → reached r ≡ reach (read_assertion ws vs 0 on)
        → reached r ≡ reach (read_assertions ws vs Max.max_assertions at)
    assertions_over r h k er =
        let z : Max.max_assertions - i ≡ 0 = omega arith in
        er ∙ sym (assertions_last on (lt-leb (length ws) on h)) ∙ (rw z at inv)

    module _ (a : Result ℕ Fault) (h : i < Max.max_assertions) (hl : on < length ws)
        (ea : reached a ≡ reach (read_assertion ws vs (Max.max_assertions - i) on)) where
      turn : then_at (reached a) (λ j. reach (read_assertions ws vs (Max.max_assertions - (i + 1)) j))
          ≡ reach (read_assertions ws vs Max.max_assertions at)
      turn =
          rw (ea, left Max.max_assertions i h)
          (sym (assertions_step (Max.max_assertions - (i + 1)) on (lt-leb (length ws) on hl)) ∙ (rw (left Max.max_assertions i h) at inv))

      pub assertions_refused : (q : Fault) → a ≡ Err q → reached (Err q) ≡ reach (read_assertions ws vs Max.max_assertions at)
      assertions_refused q e = then_stop a _ q e ∙ turn

  -- the premises in an order in which each one shows what the next is about
  pub assertions_on : (i on at j : ℕ) (a : Result ℕ Fault) → a ≡ Ok j → reached a ≡ reach (read_assertion ws vs (Max.max_assertions - i) on)
      → on < length ws → i < Max.max_assertions
      → reach (read_assertions ws vs (Max.max_assertions - i) on) ≡ reach (read_assertions ws vs Max.max_assertions at)
      → reach (read_assertions ws vs (Max.max_assertions - (i + 1)) j) ≡ reach (read_assertions ws vs Max.max_assertions at)
  assertions_on i on at j a e ea hl h inv =
      then_next a _ (reach (read_assertions ws vs (Max.max_assertions - (i + 1)) j)) j e refl ∙ turn i on at inv a h hl ea

pub ruleset assertions_laws = (assertions_end, assertions_refused, assertions_on, assertions_over)
