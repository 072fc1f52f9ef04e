-- Laws of the event loop, one for each way out of it: what is left from here is the whole.
use Rattle.std.proofs.Common.{◌≡◌, refl, sym, ap, ◌∙◌, ℕ, ◌+◌, ◌≤◌, ◌<◌, List, [], ◌∷◌, add-one, length, get_or, set, drop, drop_of_length-le, drop-cons, Result, Ok, Err}
use Rattle.std.proofs.lemmas.List.Edits.{sets}
use Rattle.meaning.specs.Answers.{Outcome, ok, refuse}
use Rattle.meaning.specs.Steps.{Input}
use Rattle.meaning.specs.Run.{Ran}
use Rattle.simulator.specs.declared.Stopped as D
use Rattle.simulator.specs.StepIndex.{Stepped, stepped_says, ended_says, step_index}
use Rattle.simulator.specs.RunIndex.{run_index}

-- the step gave no state, as the code finds it (`D.Stopped` is what the code tells of an event that is not done)
abbrev pub Stopped : Stepped → Type 0
Stopped r = (t : ℕ) → r ≡ Ok t → ⊥

pub stopped_refuses : (s : ℕ) (e : Input) (r : Stepped) → Stopped r → (k : ℕ) × (xs : List ℕ) × (stepped_says s e r ≡ refuse k xs)
unfolding stepped_says
stopped_refuses s e (Ok t) h = absurd (h t refl)
stopped_refuses s e (Err why) h = (_, _, refl)

module _ (ws ps us os : List ℕ) (n i s : ℕ) (es out : List ℕ) where
  -- no event is left
  pub run_end_answer : (all : Outcome ℕ) → (run_index ws ps us os n i s (drop i es)).last ≡ all → length es ≤ i → ended_says (Ok s) ≡ all
  unfolding run_index ended_says
  run_end_answer all inv h = rw (drop_of_length-le es h) at inv

  pub run_end_trace : (all : List ℕ) → sets out i (run_index ws ps us os n i s (drop i es)).done ≡ all → length es ≤ i → out ≡ all
  unfolding run_index
  run_end_trace all inv h = rw (drop_of_length-le es h) at inv

  module _ (r : Result ℕ D.Stopped) (h : i < length es) (er : ended_says r ≡ step_index ws ps us os n i s (get_or es i 0)) where
    -- an event is done
    module _ (t : ℕ) (e : r ≡ Ok t) where
      run_on : run_index ws ps us os n i s (drop i es)
          ≡ record {
            done = t ∷ (run_index ws ps us os n (i + 1) t (drop (i + 1) es)).done;
            last = (run_index ws ps us os n (i + 1) t (drop (i + 1) es)).last;
          }
      unfolding run_index ended_says
      run_on = let p : step_index ws ps us os n i s (get_or es i 0) ≡ ok t = sym er ∙ rw e in rw (drop-cons es i 0 h, p, add-one i, run_index)

      pub run_on_answer : (all : Outcome ℕ) → (run_index ws ps us os n i s (drop i es)).last ≡ all
          → (run_index ws ps us os n (i + 1) t (drop (i + 1) es)).last ≡ all
      run_on_answer all inv = sym (ap (λ (q : Ran). q.last) run_on) ∙ inv

      pub run_on_trace : (all : List ℕ) → sets out i (run_index ws ps us os n i s (drop i es)).done ≡ all
          → sets (set out i t) (i + 1) (run_index ws ps us os n (i + 1) t (drop (i + 1) es)).done ≡ all
      run_on_trace all inv = rw (add-one i) (rw (run_on, add-one i) at inv)

    -- an event is refused
    module _ (x : D.Stopped) (e : r ≡ Err x) where
      run_stop : run_index ws ps us os n i s (drop i es) ≡ record { done = []; last = ended_says (Err x) }
      unfolding run_index ended_says stepped_says
      run_stop =
          let q : ended_says (Err x) ≡ step_index ws ps us os n i s (get_or es i 0) = rw e at er in
          rw (drop-cons es i 0 h, ← q, run_index)

      pub run_stop_answer : (all : Outcome ℕ) → (run_index ws ps us os n i s (drop i es)).last ≡ all → ended_says (Err x) ≡ all
      run_stop_answer all inv = sym (ap (λ (q : Ran). q.last) run_stop) ∙ inv

      pub run_stop_trace : (all : List ℕ) → sets out i (run_index ws ps us os n i s (drop i es)).done ≡ all → out ≡ all
      run_stop_trace all inv = rw run_stop at inv
