-- What the first word of a formula is read as, kind by kind, with no table in sight: as before operands were counted by one (document 02, 2.2: "The
-- meaning of every word is as before.").
use Rattle.std.specs.Prelude.{ℕ, suc, ◌≡◌, List, eqb}
use Rattle.word.specs.Fields as W
use Rattle.meaning.specs.Answers.{fine, ◌>>>◌, expect}
use Rattle.meaning.specs.Searches.{within}
use Rattle.meaning.specs.Syntax.{Condition, constant, negation, both, either, Event, never, one_of, Variable}
use Rattle.meaning.specs.Reading.{Read, test_ok, test_of, joined, changed, condition_by, event_by}

-- `rec` reads an operand
module _ (vs : List Variable) (rec : ℕ → Read Condition) (w i : ℕ) where
  pub condition_test : W.kind w ≡ 4 → condition_by vs rec w i ≡ (expect (test_ok vs w) 3 i >>> λ _. fine (test_of w, suc i))
  unfolding condition_by W.operands
  condition_test e = rw e

  pub condition_not : W.kind w ≡ 5 → condition_by vs rec w i ≡ (rec (suc i) >>> λ r. fine (negation r.0, r.1))
  unfolding condition_by W.operands
  condition_not e = rw e

  pub condition_and : W.kind w ≡ 6 → condition_by vs rec w i ≡ (rec (suc i) >>> λ r. rec r.1 >>> λ q. fine (both r.0 q.0, q.1))
  unfolding condition_by W.operands joined
  condition_and e = rw e

  pub condition_or : W.kind w ≡ 7 → condition_by vs rec w i ≡ (rec (suc i) >>> λ r. rec r.1 >>> λ q. fine (either r.0 q.0, q.1))
  unfolding condition_by W.operands joined
  condition_or e = rw e

  pub condition_constant : W.kind w ≡ 9 → condition_by vs rec w i ≡ fine (constant (eqb (W.truth w) 1), suc i)
  unfolding condition_by W.operands
  condition_constant e = rw e

-- `rec` reads an event, `cond` a condition
module _ (rec : ℕ → Read Event) (cond : ℕ → Read Condition) (w i : ℕ) where
  pub event_or : W.kind w ≡ 7 → event_by rec cond w i ≡ (rec (suc i) >>> λ r. rec r.1 >>> λ q. fine (one_of r.0 q.0, q.1))
  unfolding event_by W.operands
  event_or e = rw e

  pub event_change : W.kind w ≡ 8
      → event_by rec cond w i
      ≡ (expect (within 1 2 (W.sort w)) 3 i >>> λ _. cond (suc i) >>> λ r. cond r.1 >>> λ q. fine (changed (eqb (W.sort w) 1) r.0 q.0, q.1))
  unfolding event_by W.operands
  event_change e = rw e

  pub event_constant : W.kind w ≡ 9 → event_by rec cond w i ≡ (expect (eqb (W.truth w) 0) 3 i >>> λ _. fine (never, suc i))
  unfolding event_by W.operands
  event_constant e = rw e
