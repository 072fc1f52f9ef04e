-- What the index says of refusals 6 to 8 of the set that was read, and the laws of read_typed.
use Rattle.std.specs.Prelude.{◌≡◌, refl, ◌||◌, List, [], ◌∷◌, ℕ, zero, suc, ◌≤◌, ◌<◌, eqb, length, Result, Ok, Err}
use Rattle.std.proofs.Common.{ap, ◌∙◌, arith}
use Rattle.word.specs.Limits as Max
use Rattle.meaning.specs.Answers.{Outcome, ok, refuse, ◌>>=◌, demand}
use Rattle.meaning.specs.Searches.{every}
use Rattle.meaning.specs.Syntax.{TableSet}
use Rattle.meaning.specs.Lookup.{is_monitored, source}
use Rattle.meaning.specs.Reading.{variable_of}
use Rattle.meaning.specs.States.{is_held, state_count, tabled, starts_at_zero, few_states, read_typed}
use Rattle.index.specs.Places.{place_count, variables_to}
use Rattle.index.specs.Indexed.{Indexed}
use Rattle.index.proofs.Means.{count_is, variable_is, initial_is, held_is, weight_is}
use Rattle.reader.specs.declared.Sections.{Sections}
use Rattle.reader.specs.declared.counts.Counted.{Counted}
use Rattle.reader.specs.declared.faults.Fault.{Fault}
use Rattle.reader.specs.Counts.{is_tabled, tabled_at, is_zero_at_first, starts_at_zero_at, few_states_at, typed_at, WeightsTo, CountedAs}
use Rattle.reader.specs.Typed.{ReadAs, TypedAs}
use Rattle.reader.proofs.Places.{places_have}

-- ---- a search goes by what it is given
every_same : (f g : ℕ → Outcome (Unit {0})) (n : ℕ) → ((k : ℕ) → k < n → f k ≡ g k) → every f n ≡ every g n
unfolding every
every_same f g zero h = refl
every_same f g (suc n) h = rw (every_same f g n (λ k l. h k (omega arith)), h n (omega arith))

-- ---- by the index
module _ {ws : List ℕ} {z : TableSet} {n a : ℕ} {ps : List ℕ} (ix : Indexed ws z n a ps) where
  tabled_is : (v : ℕ) → v < n → tabled_at ws ps v ≡ tabled z v
  unfolding tabled_at is_tabled tabled is_monitored variable_of
  tabled_is v l = rw (variable_is ix v l, places_have ws (variables_to ws ps n) z.tables ps ix.tables_are v (omega (arith, ix.few)))

  starts_is : (v : ℕ) → v < n → starts_at_zero_at ws ps v ≡ starts_at_zero z v
  unfolding starts_at_zero_at is_zero_at_first starts_at_zero
  starts_is v l =
      rw (held_is ix v l) (ap (λ (k : ℕ). demand (is_held (source z v) || eqb k 0) 7 (v ∷ [])) (initial_is ix v l))

  few_is : (v : ℕ) → v < n → few_states_at ws ps v ≡ few_states z v
  unfolding few_states_at few_states
  few_is v l = rw (weight_is ix (suc v) l)

  typed_is : read_typed ws ≡ (typed_at ws ps n >>= λ _. ok z)
  unfolding read_typed typed_at
  typed_is =
      rw (
        ix.words_read,
        count_is ix,
        every_same (tabled_at ws ps) (tabled z) n tabled_is,
        every_same (starts_at_zero_at ws ps) (starts_at_zero z) n starts_is,
        every_same (few_states_at ws ps) (few_states z) n few_is,
      )
      (assoc (every (tabled z) n) (every (starts_at_zero z) n) (every (few_states z) n))
    where
      assoc : (x y w : Outcome (Unit {0})) → ◌≡◌ {A = Outcome TableSet} (x >>= λ _. y >>= λ _. w >>= λ _. ok z) (x >>= (λ _. y >>= λ _. w) >>= λ _. ok z)
      assoc (ok u) (ok t) w = refl
      assoc (ok u) (refuse k xs) w = refl
      assoc (refuse k xs) y w = refl

-- ---- read_typed
module _ (ws : List ℕ) (r : Result Sections Fault) (h : ReadAs ws r) where
  pub read_few : (s : Sections) → r ≡ Ok s → s.found.count ≤ Max.max_variables
  unfolding ReadAs
  read_few s e = (rw e at h).1.few

  pub typed_wrong : (q : Fault) → r ≡ Err q → TypedAs ws (Err q)
  unfolding ReadAs TypedAs read_typed
  typed_wrong q e = rw (rw e at h)

  module _ (s : Sections) (er : r ≡ Ok s) (c : Result Counted Fault)
      (hc : CountedAs ws s.found.places s.found.count (typed_at ws s.found.places s.found.count) c) where
    pub typed_refused : (q : Fault) → c ≡ Err q → TypedAs ws (Err q)
    unfolding ReadAs TypedAs CountedAs
    typed_refused q e =
        let ix = (rw er at h).1 in
        typed_is ix ∙ rw (rw e at hc)

    pub typed_set : (k : Counted) → c ≡ Ok k → length s.found.places ≡ place_count
        → TypedAs ws (Ok (record {
          extent = record { variables = s.found.count; assertions = s.assertions; states = k.states };
          places = s.found.places;
          weights = k.weights;
        }))
    unfolding ReadAs TypedAs CountedAs WeightsTo state_count
    typed_set k e long =
        let z = rw er at h in
        let ix = z.1 in
        let w = rw e at hc in (
          z.0,
          record {
            typed = typed_is ix ∙ rw w.0;
            indexed = ix;
            places_long = long;
            weights_long = w.1.long;
            weights_are = λ v l. w.1.weights v l ∙ weight_is ix v (omega arith);
            states_are = rw (count_is ix) (w.1.states ∙ weight_is ix s.found.count (omega arith));
          },
        )

pub ruleset typed_laws = (read_few, typed_wrong, typed_refused, typed_set)
