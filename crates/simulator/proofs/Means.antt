-- What the code settles from words and places is what the meaning settles of the set that has been read.
use Rattle.std.proofs.Common.{◌≡◌, refl, ap, ◌∙◌, ℕ, suc, ◌%◌, ◌≤◌, ◌<◌, Bool, true, false, List, [], ◌∷◌, arith, mod-eq_of_lt, get_or, ne_eqb, eq-eqb, Ok, Err}
use Rattle.std.proofs.Common.{set as put}
use Rattle.word.specs.Fields as W
use Rattle.word.specs.Limits as Max
use Rattle.meaning.specs.Answers.{Outcome, ok, refuse, ◌>>=◌, demand}
use Rattle.meaning.specs.Searches.{mem, Hits, no_hit, one_hit, two_hits, list_of}
use Rattle.meaning.specs.Syntax.{Condition, Event, Variable, Row, TableSet}
use Rattle.meaning.specs.Lookup.{Source}
use Rattle.meaning.specs.Reading.{word, body_of}
use Rattle.meaning.specs.Order.{order, no_cycle}
use Rattle.meaning.specs.States.{Values, value_of, digit, held_values, number, state_count, weight}
use Rattle.meaning.specs.Steps.{Input, input_of, condition_hits, event_hits, condition_gives, event_gives, settle, value_by, altered, step_by, values_in, values_after, enabled_word, step_at}
use Rattle.index.specs.Indexed.{Indexed}
use Rattle.index.specs.Places.{variables_to}
use Rattle.index.specs.Sources.{SourceAt, no_table, event_at, condition_at, source_at}
use Rattle.judge.specs.Judge.{got_of}
use Rattle.judge.proofs.Means.{condition_rows_means, event_rows_means}
use Rattle.index.specs.Numbers.{word_number_count}
use Rattle.state.specs.Held.{digit_at, number_at}
use Rattle.state.proofs.Means.{count_is, digit_means, held_values_means, number_means, enabled_means}
use Rattle.theory.specs.Tests.{mem_here, mem_there}
use Rattle.theory.specs.WellFormed.{WellFormed}
use Rattle.theory.specs.Orders.{ordered_below}
use Rattle.theory.specs.Valuations.{valuation_typed}
use Rattle.theory.specs.StepExactly.{step_at_exactly}
use Rattle.simulator.specs.Walks.{condition_of, event_of, condition_given, event_given, given_in_by, given_in, given_after_by, given_after, onward, Given, walk, state_walk, step_walk, clash_is, given_says, settled_says, walk_says}
use Rattle.simulator.specs.StepIndex.{after_index, step_index}
use Rattle.meaning.specs.Run.{run_from}
use Rattle.simulator.specs.RunIndex.{run_index}

-- ---- what a table gives, as an answer
condition_says : (side s : ℕ) (e : Input) (v : ℕ) (rs : List (Row Condition)) (h : Hits)
    → given_says side s e v (condition_of (got_of rs h)) ≡ condition_gives side s v rs h
unfolding given_says clash_is condition_of got_of condition_gives
condition_says side s e v rs no_hit = refl
condition_says side s e v rs (one_hit i) = refl
condition_says side s e v rs (two_hits i j) = refl

event_says : (side s : ℕ) (e : Input) (v : ℕ) (rs : List (Row Event)) (x : ℕ) (h : Hits)
    → given_says side s e v (event_of x (got_of rs h)) ≡ event_gives s e v rs x h
unfolding given_says clash_is event_of got_of event_gives
event_says side s e v rs x no_hit = refl
event_says side s e v rs x (one_hit i) = refl
event_says side s e v rs x (two_hits i j) = refl

module _ (ws : List ℕ) (vs : List Variable) where
  in_source : (s : ℕ) (e : Input) (b : Values) (x v : ℕ) {p : ℕ} {q : Source} → SourceAt ws vs p q
      → given_says 0 s e v (given_in_by ws b x p) ≡ value_by s v x b q
  unfolding given_in_by given_says value_by condition_given condition_hits body_of
  in_source s e b x v no_table = refl
  in_source s e b x v (event_at i j rs n r) = rw (ne_eqb (W.sort (word ws i)) 3 n)
  in_source s e b x v (condition_at i j rs t r) =
      rw (eq-eqb (W.sort (word ws i)) 3 t)
      (rw (condition_rows_means ws vs b (W.defined (word ws i)) (W.class_read (word ws i)) (suc i) rs j r) (condition_says 0 s e v rs _))

  after_source : (s : ℕ) (e : Input) (a b : Values) (v : ℕ) {p : ℕ} {q : Source} → SourceAt ws vs p q
      → given_says 1 s e v (given_after_by ws a b (altered e a v) v p) ≡ step_by s e v a b q
  unfolding given_after_by given_says step_by condition_given event_given condition_hits event_hits body_of
  after_source s e a b v no_table = refl
  after_source s e a b v (event_at i j rs n r) =
      rw (ne_eqb (W.sort (word ws i)) 3 n)
      (rw (event_rows_means ws vs a b (W.defined (word ws i)) (W.class_read (word ws i)) (suc i) rs j r) (event_says 1 s e v rs (value_of a v) _))
  after_source s e a b v (condition_at i j rs t r) =
      rw (eq-eqb (W.sort (word ws i)) 3 t)
      (rw (condition_rows_means ws vs b (W.defined (word ws i)) (W.class_read (word ws i)) (suc i) rs j r) (condition_says 1 s e v rs _))

-- ---- a walk is settling
walk_settles : (side s : ℕ) (e : Input) (g : Values → ℕ → Given) (os : List ℕ) (b : Values)
    → walk_says side s e (walk g os b) ≡ settle (λ b v. given_says side s e v (g b v)) os b
unfolding walk settle walk_says settled_says onward given_says
walk_settles side s e g [] b = refl
walk_settles side s e g (v ∷ os) b = go (g b v) (λ k. walk_settles side s e g os (put b v k))
  where
    go : (r : Given) → ((k : ℕ) → walk_says side s e (walk g os (put b v k)) ≡ settle (λ b v. given_says side s e v (g b v)) os (put b v k))
        → walk_says side s e (onward v r (λ k. walk g os (put b v k)))
        ≡ (given_says side s e v r >>= λ x. settle (λ b v. given_says side s e v (g b v)) os (put b v x))
    go (Ok k) h = h k
    go (Err why) h = refl

-- rules that agree at the variables of the order settle alike
settle_same : (f g : Values → ℕ → Outcome ℕ) (os : List ℕ) (b : Values) → ((b : Values) (v : ℕ) → mem v os ≡ true → f b v ≡ g b v)
    → settle f os b ≡ settle g os b
unfolding settle
settle_same f g [] b h = refl
settle_same f g (v ∷ os) b h =
    rw (h b v (mem_here v os)) (go (g b v) (λ x. settle_same f g os (put b v x) (λ b u m. h b u (mem_there u v os m))))
  where
    go : (m : Outcome ℕ) → ((x : ℕ) → settle f os (put b v x) ≡ settle g os (put b v x))
        → (m >>= λ x. settle f os (put b v x)) ≡ (m >>= λ x. settle g os (put b v x))
    go (ok x) ih = ih x
    go (refuse k xs) ih = refl

-- a number that is kept small is kept
small_same : (m : Outcome Values) (f : Values → ℕ) → ((t : ℕ) → (m >>= λ b. ok (f b)) ≡ ok t → t < word_number_count)
    → (m >>= λ b. ok (f b % word_number_count)) ≡ (m >>= λ b. ok (f b))
small_same (ok b) f h = ap ok (mod-eq_of_lt (h (f b) refl))
small_same (refuse k xs) f h = refl

module _ (ws : List ℕ) (z : TableSet) (n a : ℕ) (ps us : List ℕ) (ix : Indexed ws z n a ps) (wf : WellFormed z)
    (weights : (v : ℕ) → v < n → get_or us v 0 ≡ weight z v) where
  pub values_means : (s : ℕ) (e : Input)
      → walk_says 0 s e (state_walk ws ps us s (order z) (list_of (digit_at ws ps us s) n)) ≡ values_in z s
  unfolding state_walk values_in given_in
  values_means s e =
      walk_settles 0 s e _ (order z) _
      ∙ rw (held_values_means ws z n a ps us ix wf weights s)
      (settle_same _ _ (order z) (held_values z s) (λ b v m.
      let l : v < n = rw (← count_is ws z n a ps us ix wf weights) (ordered_below z v m) in
      rw (digit_means ws z n a ps us ix wf weights s v l) (in_source ws (variables_to ws ps n) s e b (digit z s v) v (source_at ix v l))))

  pub after_means : (s : ℕ) (e : Input) (b : Values)
      → walk_says 1 s e (step_walk ws ps b e.variable e.value (order z) b) ≡ values_after z s e b
  unfolding step_walk values_after given_after altered
  after_means s e b =
      walk_settles 1 s e _ (order z) _
      ∙ settle_same _ _ (order z) b (λ c v m.
      let l : v < n = rw (← count_is ws z n a ps us ix wf weights) (ordered_below z v m) in
      after_source ws (variables_to ws ps n) s e b c v (source_at ix v l))

  -- the step over the index is the meaning's
  pub step_means : no_cycle z ≡ ok tt → state_count z ≤ Max.max_states → (i s w : ℕ) → s < state_count z
      → step_index ws ps us (order z) n i s w ≡ step_at z i s w
  unfolding step_index step_at after_index input_of
  step_means acyclic few i s w l =
      rw (enabled_means ws z n a ps us ix wf weights s w, values_means s (input_of w))
      (go (enabled_word z s w) refl (values_in z s) refl)
    where
      typed : (t : ℕ) → step_at z i s w ≡ ok t → t < word_number_count
      typed t e =
          let c = (step_at_exactly z acyclic wf i s w t l).0 e in
          let k = valuation_typed z acyclic wf t c.1.next.new c.1.next.leads.after in
          omega (arith, k, few)

      go : (on : Bool) → enabled_word z s w ≡ on → (m : Outcome Values) → values_in z s ≡ m
          → (demand on 16 (i ∷ []) >>= λ _. m >>= λ b. walk_says 1 s (input_of w) (step_walk ws ps b (W.variable w) (W.value w) (order z) b) >>= λ c. ok (number_at ws ps us c n % word_number_count))
          ≡ (demand on 16 (i ∷ []) >>= λ _. m >>= λ b. values_after z s (input_of w) b >>= λ c. ok (number z c))
      go false e m em = refl
      go true e (refuse k xs) em = refl
      go true e (ok b) em =
          rw (after_means s (input_of w) b)
          (let h = small_same (values_after z s (input_of w) b) (number z) (λ t q. typed t (rw (e, em) q)) in
          same (values_after z s (input_of w) b) ∙ h)
        where
          same : (o : Outcome Values) → (o >>= λ c. ok (number_at ws ps us c n % word_number_count)) ≡ (o >>= λ c. ok (number z c % word_number_count))
          same (ok c) = rw (number_means ws z n a ps us ix wf weights c)
          same (refuse k xs) = refl

  -- the run over the index is the meaning's: every state reached is typed
  pub run_means : no_cycle z ≡ ok tt → state_count z ≤ Max.max_states → (i s : ℕ) (es : List ℕ) → s < state_count z
      → run_index ws ps us (order z) n i s es ≡ run_from z i s es
  unfolding run_index run_from
  run_means acyclic few i s [] l = refl
  run_means acyclic few i s (w ∷ es) l = go (λ t k. run_means acyclic few (suc i) t es k) (step_at z i s w) refl
    where
      go : ((t : ℕ) → t < state_count z → run_index ws ps us (order z) n (suc i) t es ≡ run_from z (suc i) t es) → (o : Outcome ℕ)
          → step_at z i s w ≡ o → run_index ws ps us (order z) n i s (w ∷ es) ≡ run_from z i s (w ∷ es)
      go ih (ok t) e =
          let c = (step_at_exactly z acyclic wf i s w t l).0 e in
          let k = valuation_typed z acyclic wf t c.1.next.new c.1.next.leads.after in
          rw (step_means acyclic few i s w l, e, ih t k, run_index, run_from)
      go ih (refuse k xs) e = rw (step_means acyclic few i s w l, e, run_index, run_from)
