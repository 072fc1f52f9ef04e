-- Laws of the lines of a run, one for each way out.
use Rattle.std.specs.Prelude.{ℕ, ◌≤◌, ◌≡◌, min, List, ◌++◌, length, take, Ok, Err}
use Rattle.std.proofs.Common.{refl, sym, ap, ◌∙◌, arith, append_assoc, append-nil, take_all, replicate}
use Rattle.std.proofs.Math.Decide.{dec_le}
use Rattle.std.proofs.lemmas.List.{length-replicate}
use Rattle.word.specs.Limits as Max
use Rattle.meaning.specs.Answers.{ok}
use Rattle.meaning.specs.Calls.{start_of}
use Rattle.meaning.specs.Run.{run_of}
use Rattle.meaning.specs.Demand3.{Demand3}
use Rattle.meaning.specs.Program.{refuse_line, event_lines, run_from_start}
use Rattle.scr.specs.declared.Refusal.{Refusal}
use Rattle.scr.specs.declared.Refusal.TheVariants as R
use Rattle.scr.specs.Answers.{Answer, refusal_says, refused, answer_says}
use Rattle.report.specs.Runs.{Passed, done_before, ran_lines}
use Rattle.report.proofs.Counting.{start_is, ran_is}

-- ---- how many events were done
pub done_16 : (q : Refusal) (i : ℕ) → q ≡ R.NotEnabled i → i ≡ done_before (refusal_says q).0 (refusal_says q).1
unfolding done_before refusal_says
done_16 q i e = rw e

-- of another case than 16, as the code finds it
pub done_none : (q : Refusal) → ((i : ℕ) → q ≡ R.NotEnabled i → ⊥) → 0 ≡ done_before (refusal_says q).0 (refusal_says q).1
unfolding done_before refusal_says
done_none (R.Length n) h = refl
done_none (R.Kind i) h = refl
done_none (R.Range i) h = refl
done_none (R.Limit i) h = refl
done_none (R.Fit i) h = refl
done_none (R.NoTable v) h = refl
done_none (R.InitialValue v) h = refl
done_none (R.States v) h = refl
done_none (R.Cycle c) h = refl
done_none (R.Gap g) h = refl
done_none (R.Overlap o) h = refl
done_none (R.StepOverlap o) h = refl
done_none (R.FalseInitially j) h = refl
done_none (R.Broken b) h = refl
done_none (R.NoState s) h = refl
done_none (R.NotEnabled i) h = absurd (h i refl)
done_none (R.Room n) h = refl
done_none (R.Order i) h = refl

-- ---- the lines, by the answer
-- the front of the states, or all of them
front : (tr : List ℕ) (m k : ℕ) → m ≡ min k (length tr) → take m tr ≡ take k tr
front tr m k e = go (dec_le k (length tr))
  where
    go : Dec (k ≤ length tr) → take m tr ≡ take k tr
    go (yes h) = let q : m ≡ k = omega arith in rw q
    go (no h) = take_all m tr (omega arith) ∙ sym (take_all k tr (omega arith))

module _ (es tr old lines : List ℕ) (a : Answer) (m : ℕ) (h : lines ≡ old ++ event_lines 0 es (take m tr)) where
  pub ran_state : (s : ℕ) → a ≡ Ok s → m ≡ min (length es) (length tr) → lines ≡ old ++ ran_lines es tr (answer_says a)
  unfolding ran_lines answer_says
  ran_state s e em = rw (e, ← front tr m (length es) em) h

  pub ran_refused : (all : List ℕ) (k : ℕ) (q : Refusal) → a ≡ Err q → k ≡ done_before (refusal_says q).0 (refusal_says q).1 → m ≡ min k (length tr)
      → all ≡ lines ++ refuse_line (refusal_says q).0 (refusal_says q).1 → all ≡ old ++ ran_lines es tr (answer_says a)
  unfolding ran_lines answer_says refused
  ran_refused all k q e ek em w = rw (e, ← ek, ← front tr m k em, w, h, append_assoc)

-- ---- the run from the initial state
module _ (ws es : List ℕ) (passed : Passed ws) (i : Answer) (ei : answer_says i ≡ start_of ws) where
  pub run_put : (tr old all : List ℕ) (s : ℕ) (a : Answer) → i ≡ Ok s → answer_says a ≡ (run_of ws s es (replicate Max.max_events 0) 0).answer
      → tr ≡ (run_of ws s es (replicate Max.max_events 0) 0).lent → Demand3 ws s es (replicate Max.max_events 0) 0 (answer_says a) tr
      → all ≡ old ++ ran_lines es tr (answer_says a) → all ≡ old ++ run_from_start ws es (start_of ws)
  unfolding run_from_start answer_says
  run_put tr old all s a e ea et d h =
      let o : ok s ≡ start_of ws = rw e at ei in
      let z : ℕ = 0 in
      rw (← o) (h ∙ ap (λ (l : List ℕ). old ++ l)
      (ran_is ws passed.0 passed.1 s es (start_is ws passed.0 passed.1 s o) (replicate Max.max_events 0) tr (answer_says a) (length-replicate Max.max_events z) ea et (d passed.0 passed.1)))

  -- a set that passes has an initial state
  pub start_put : (old : List ℕ) → ((s : ℕ) → i ≡ Ok s → ⊥) → old ≡ old ++ run_from_start ws es (start_of ws)
  unfolding run_from_start answer_says refused
  start_put old none = go i refl
    where
      go : (j : Answer) → i ≡ j → old ≡ old ++ run_from_start ws es (start_of ws)
      go (Ok s) e = absurd (none s e)
      go (Err q) e = let o = rw e at ei in rw (← o) (sym (append-nil old))
