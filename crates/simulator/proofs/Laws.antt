-- One law for each way out of the functions of this crate, in the code's own terms.
use Rattle.std.proofs.Common.{◌≡◌, refl, sym, ap, ◌∙◌, ℕ, zero, suc, ◌+◌, ◌-◌, ◌%◌, ◌≤◌, ◌<◌, Bool, true, not, eqb, List, length, get_or, set, drop, drop_of_length-le, drop-cons, arith, add-one, ne_eqb, Result, Ok, Err, MatchResult, IsErrAnd}
use Rattle.std.proofs.lemmas.Bool.{not-true}
use Rattle.word.specs.Fields as W
use Rattle.word.specs.Limits as Max
use Rattle.meaning.specs.Answers.{ok, ◌>>=◌, if◌give◌else◌}
use Rattle.meaning.specs.Searches.{list_of}
use Rattle.meaning.specs.Steps.{Input, input_of}
use Rattle.meaning.specs.Reading.{word}
use Rattle.meaning.specs.States.{Values}
use Rattle.judge.specs.declared.Got.{Got}
use Rattle.judge.specs.declared.Got.TheVariants.{Nothing, One, Two}
use Rattle.judge.specs.Judge.{condition_rows_at, event_rows_at}
use Rattle.index.specs.Numbers.{word_number_count}
use Rattle.state.specs.Held.{digit_at, number_at, enabled_at}
use Rattle.simulator.specs.declared.Clash.{Clash}
use Rattle.simulator.specs.declared.Clash.TheVariants.{Gap, Overlap, StepOverlap}
use Rattle.simulator.specs.declared.Unsettled.{Unsettled}
use Rattle.simulator.specs.declared.NoStep.TheVariants.{NotEnabled, Before, After}
use Rattle.simulator.specs.declared.NoStep.{NoStep}
use Rattle.simulator.specs.declared.Stopped.{Stopped}
use Rattle.simulator.specs.StepIndex.{Stepped, no_step_is, stepped_says, ended_says, after_index, step_index}
use Rattle.simulator.specs.Walks.{Given, Settled, condition_of, event_of, condition_given, event_given, given_in_by, given_in, given_after_by, given_after, Walk, joined, onward, walk, state_walk, step_walk, walk_says, settled_says}

-- ---- what a table gives
module _ (ws b : List ℕ) (w p m y mode : ℕ) (got : Got) (em : m ≡ W.class_read w) (ey : y ≡ get_or b m 0) (ex : mode ≡ y)
    (eg : got ≡ condition_rows_at ws b mode Max.max_rows 0 p Nothing) where
  condition_rows_lem : condition_of got ≡ condition_given ws b w p
  unfolding condition_given
  condition_rows_lem = rw (eg, ex, ey, em)

  pub condition_gap : got ≡ Nothing → Err Gap ≡ condition_given ws b w p
  unfolding condition_of
  condition_gap e = rw e at condition_rows_lem

  pub condition_one : (i k : ℕ) → got ≡ One i k → Ok k ≡ condition_given ws b w p
  unfolding condition_of
  condition_one i k e = rw e at condition_rows_lem

  pub condition_two : (i j : ℕ) → got ≡ Two i j → Err (Overlap i j) ≡ condition_given ws b w p
  unfolding condition_of
  condition_two i j e = rw e at condition_rows_lem

pub ruleset condition_laws = (condition_gap, condition_one, condition_two)

module _ (ws a b : List ℕ) (w p v m y mode : ℕ) (got : Got) (em : m ≡ W.class_read w) (ey : y ≡ get_or a m 0) (ex : mode ≡ y)
    (eg : got ≡ event_rows_at ws a b mode Max.max_rows 0 p Nothing) where
  event_rows_lem : event_of (get_or a v 0) got ≡ event_given ws a b w p v
  unfolding event_given
  event_rows_lem = rw (eg, ex, ey, em)

  pub event_none : (old : ℕ) → old ≡ get_or a v 0 → got ≡ Nothing → Ok old ≡ event_given ws a b w p v
  unfolding event_of
  event_none old eo e = rw eo (rw e at event_rows_lem)

  pub event_one : (i k : ℕ) → got ≡ One i k → Ok k ≡ event_given ws a b w p v
  unfolding event_of
  event_one i k e = rw e at event_rows_lem

  pub event_two : (i j : ℕ) → got ≡ Two i j → Err (StepOverlap i j) ≡ event_given ws a b w p v
  unfolding event_of
  event_two i j e = rw e at event_rows_lem

pub ruleset event_laws = (event_none, event_one, event_two)

-- ---- by the place of the first row
in_place : (ws b : List ℕ) (x p : ℕ) → (p ≡ 0 → ⊥)
    → (if eqb (W.sort (word ws (p - 1))) 3 give (λ _. condition_given ws b (word ws (p - 1)) p) else (λ _. Ok x)) ≡ given_in_by ws b x p
unfolding given_in_by
in_place ws b x zero n = absurd (n refl)
in_place ws b x (suc i) n = let e : suc i - 1 ≡ i = omega arith in rw e

after_place : (ws a b : List ℕ) (x v p : ℕ) → (p ≡ 0 → ⊥)
    → (if eqb (W.sort (word ws (p - 1))) 3
    give (λ _. condition_given ws b (word ws (p - 1)) p)
    else (λ _. event_given ws a b (word ws (p - 1)) p v)) ≡ given_after_by ws a b x v p
unfolding given_after_by
after_place ws a b x v zero n = absurd (n refl)
after_place ws a b x v (suc i) n = let e : suc i - 1 ≡ i = omega arith in rw e

module _ (ws ps b : List ℕ) (x v p : ℕ) (ep : p ≡ get_or ps v 0) where
  pub in_none : p ≡ 0 → Ok x ≡ given_in ws ps b x v
  unfolding given_in given_in_by
  in_none e = rw (← ep, e)

  pub in_held : (w t : ℕ) → (p ≡ 0 → ⊥) → w ≡ word ws (p - 1) → t ≡ W.sort w → (t ≡ 3 → ⊥) → Ok x ≡ given_in ws ps b x v
  unfolding given_in
  in_held w t np ew et n = rw (← ep, ← in_place ws b x p np, ← ew, ← et, ne_eqb t 3 n)

  pub in_condition : (w t : ℕ) (g : Given) → (p ≡ 0 → ⊥) → w ≡ word ws (p - 1) → t ≡ W.sort w → t ≡ 3 → g ≡ condition_given ws b w p
      → g ≡ given_in ws ps b x v
  unfolding given_in
  in_condition w t g np ew et e3 eg = rw (← ep, ← in_place ws b x p np, ← ew, ← et, e3, eg)

pub ruleset state_laws = (in_none, in_held, in_condition)

module _ (ws ps a b : List ℕ) (x v p : ℕ) (ep : p ≡ get_or ps v 0) where
  pub after_none : p ≡ 0 → Ok x ≡ given_after ws ps a b x v
  unfolding given_after given_after_by
  after_none e = rw (← ep, e)

  pub after_condition : (w t : ℕ) (g : Given) → (p ≡ 0 → ⊥) → w ≡ word ws (p - 1) → t ≡ W.sort w → t ≡ 3 → g ≡ condition_given ws b w p
      → g ≡ given_after ws ps a b x v
  unfolding given_after
  after_condition w t g np ew et e3 eg = rw (← ep, ← after_place ws a b x v p np, ← ew, ← et, e3, eg)

  pub after_event : (w t : ℕ) (g : Given) → (p ≡ 0 → ⊥) → w ≡ word ws (p - 1) → t ≡ W.sort w → (t ≡ 3 → ⊥)
      → g ≡ event_given ws a b w p v → g ≡ given_after ws ps a b x v
  unfolding given_after
  after_event w t g np ew et n eg = rw (← ep, ← after_place ws a b x v p np, ← ew, ← et, ne_eqb t 3 n, eg)

pub ruleset step_laws = (after_none, after_condition, after_event)

-- ---- walking: what is left from here is the whole
module _ (f : Values → ℕ → Given) (os b : List ℕ) (i : ℕ) (all : Walk) (inv : walk f (drop i os) b ≡ all) where
  pub walk_end : length os ≤ i → joined (Ok tt) b ≡ all
  unfolding walk joined
  walk_end h = rw (drop_of_length-le os h) at inv

  module _ (g : Given) (h : i < length os) (eg : g ≡ f b (get_or os i 0)) where
    walk_turn : onward (get_or os i 0) g (λ k. walk f (drop (i + 1) os) (set b (get_or os i 0) k)) ≡ all
    unfolding walk
    walk_turn = rw (eg, add-one i) (rw (drop-cons os i 0 h) at inv)

    pub walk_stop : (why : Clash) → g ≡ Err why → joined (Err (record { variable = get_or os i 0; why = why })) b ≡ all
    unfolding onward joined
    walk_stop why e = rw e at walk_turn

    pub walk_on : (k : ℕ) (c : List ℕ) → g ≡ Ok k → c ≡ set b (get_or os i 0) k → walk f (drop (i + 1) os) c ≡ all
    unfolding onward
    walk_on k c e ec = rw ec (rw e at walk_turn)

-- ---- the step
-- what a walk that ended says
pub said : (side s : ℕ) (e : Input) (r : Settled) (b : Values) (all : Walk) → joined r b ≡ all → walk_says side s e all ≡ settled_says side s e b r
unfolding joined walk_says settled_says
said side s e (Ok u) b all p = rw (← p)
said side s e (Err x) b all p = rw (← p)

-- from the values a: b is their copy, c what settling left
module _ (ws ps us os a b c : List ℕ) (n w v k : ℕ) (r : Settled) (eb : b ≡ a) (ev : v ≡ W.variable w) (ek : k ≡ W.value w)
    (er : joined r c ≡ step_walk ws ps a v k os b) where
  after_says : (s : ℕ) → after_index ws ps us os n s w a
      ≡ (settled_says 1 s (input_of w) c r >>= λ d. ok (number_at ws ps us d n % word_number_count))
  unfolding after_index
  after_says s = rw (← ek, ← ev, said 1 s (input_of w) r c (step_walk ws ps a v k os a) (er ∙ ap (step_walk ws ps a v k os) eb))

  pub after_fault : (x : Unsettled) → r ≡ Err x → (s : ℕ) → stepped_says s (input_of w) (Err (After x)) ≡ after_index ws ps us os n s w a
  unfolding stepped_says no_step_is settled_says
  after_fault x e s = sym (after_says s ∙ rw e)

  pub after_done : (t : ℕ) → r ≡ Ok tt → length c ≡ length b → t ≡ number_at ws ps us c (length c) → n ≡ length a
      → (s : ℕ) → stepped_says s (input_of w) (Ok (t % word_number_count)) ≡ after_index ws ps us os n s w a
  unfolding stepped_says settled_says
  after_done t e len et en s =
      let l : length c ≡ n = len ∙ ap length eb ∙ sym en in
      rw et (rw l (sym (after_says s ∙ rw e)))

-- from state s: a is what working out its values left
module _ (ws ps us os : List ℕ) (n i s w : ℕ) (on : Bool) (eo : on ≡ enabled_at ws ps us n s w) where
  pub not_enabled : not on ≡ true → stepped_says s (input_of w) (Err (NotEnabled i)) ≡ step_index ws ps us os n i s w
  unfolding stepped_says no_step_is step_index
  not_enabled f = rw (← eo, not-true on f)

  module _ (a : List ℕ) (m : ℕ) (r : Settled) (f : on ≡ true) (em : m ≡ n)
      (er : joined r a ≡ state_walk ws ps us s os (list_of (digit_at ws ps us s) m)) where
    from_says : step_index ws ps us os n i s w ≡ (settled_says 0 s (input_of w) a r >>= λ d. after_index ws ps us os n s w d)
    unfolding step_index
    from_says =
        rw (← eo, f)
        (rw (said 0 s (input_of w) r a (state_walk ws ps us s os (list_of (digit_at ws ps us s) n)) (rw em at er)))

    pub from_fault : (x : Unsettled) → r ≡ Err x → stepped_says s (input_of w) (Err (Before x)) ≡ step_index ws ps us os n i s w
    unfolding stepped_says no_step_is settled_says
    from_fault x e = sym (from_says ∙ rw e)

    pub from_done : (t : Stepped) → r ≡ Ok tt → length a ≡ m
        → ((s : ℕ) → stepped_says s (input_of w) t ≡ after_index ws ps us os (length a) s w a) → stepped_says s (input_of w) t ≡ step_index ws ps us os n i s w
    unfolding settled_says
    from_done t e la h = let l : length a ≡ n = la ∙ em in (rw l at (h s)) ∙ sym (from_says ∙ rw e)

-- with the state and the event beside the reason
pub ended_handed : (s w : ℕ) (r : Stepped) (m : Result ℕ Stopped) (P : NoStep → Stopped → Type 0)
    → MatchResult r (λ t. m ≡ Ok t) (λ why. IsErrAnd m (P why)) → ((why : NoStep) (x : Stopped) → P why x → x ≡ record { state = s; event = w; why = why })
    → ended_says m ≡ stepped_says s (input_of w) r
unfolding ended_says stepped_says
ended_handed s w (Ok t) m P e made = rw e
ended_handed s w (Err why) (Ok t) P e made = absurd e
ended_handed s w (Err why) (Err x) P e made = rw (made why x e)
