-- Laws of the calls by the index of a set, one for each way out.
use Rattle.std.specs.Prelude.{Result, Ok, Err, ◌≡◌, List, [], ◌∷◌, ◌++◌, ℕ, ◌+◌, ◌%◌, ◌≤◌, ◌<◌, leb, ltb, length, drop}
use Rattle.std.proofs.Common.{sym, ap, ◌∙◌, arith, mod-eq_of_lt, le-ltb, lt-ltb, le-leb}
use Rattle.std.proofs.lemmas.Bool.{lt-leb}
use Rattle.std.proofs.lemmas.List.Edits.{sets-eq}
use Rattle.meaning.specs.Answers.{ok, refuse, ◌>>=◌, demand}
use Rattle.meaning.specs.Searches.{list_of}
use Rattle.meaning.specs.States.{initial_state}
use Rattle.meaning.specs.Steps.{input_of, step_of}
use Rattle.meaning.specs.Calls.{start_of, values_of, lent_values}
use Rattle.theory.specs.Numbers.{initial_below}
use Rattle.state.specs.Held.{digit_at, initial_number}
use Rattle.state.proofs.Means.{count_is, initial_number_lem}
use Rattle.word.specs.Fields as W
use Rattle.simulator.specs.declared.Stopped.{Stopped}
use Rattle.simulator.specs.declared.Unsettled.{Unsettled}
use Rattle.simulator.specs.Walks.{Settled, clash_is, joined, state_walk, settled_says}
use Rattle.simulator.specs.StepIndex.{no_step_is, stepped_says, ended_says, step_index, examined}
use Rattle.simulator.proofs.Laws.{said}
use Rattle.simulator.proofs.Means.{values_means, step_means}
use Rattle.scr.specs.declared.reading.Reading.{Reading}
use Rattle.scr.specs.declared.Refusal.{Refusal}
use Rattle.scr.specs.declared.Refusal.TheVariants as R
use Rattle.index.specs.declared.variables.Extent.{Extent}
use Rattle.index.specs.declared.variables.Index.{Index}
use Rattle.scr.specs.Answers.{refusal_says, refused, answer_says, count_of}
use Rattle.scr.specs.Opened.{IndexOf}
use Rattle.scr.proofs.Refusing.{refused_says}
use Rattle.scr.proofs.Indexing.{well, few, typed_state, no_state}

module _ (x : Index) (ext : Extent) (h : IndexOf x ext) where
  -- ---- start
  pub start_state : (t : ℕ) → t ≡ initial_number x.variables.words.now x.variables.places.now x.weights.now x.variables.count % 4294967296 → answer_says (Ok t) ≡ start_of x.variables.words.now
  unfolding answer_says start_of
  start_state t e =
      let l = initial_below h.set (well h).sizes (well h).initials in
      let low : initial_state h.set < 4294967296 = omega (arith, l, few h) in
      rw (
        h.reads,
        e,
        initial_number_lem x.variables.words.now h.set x.variables.count ext.assertions x.variables.places.now x.weights.now h.typed.indexed (well h) h.typed.weights_are,
        mod-eq_of_lt low,
      )

module _ (o : Reading) where
  -- ---- step
  module _ (s w : ℕ) where
    pub step_no_state : o.extent.states ≤ s → answer_says (Err (R.NoState s)) ≡ step_of o.index.variables.words.now s w
    unfolding answer_says refused refusal_says step_of
    step_no_state l = rw (o.index_of.reads, le-ltb s _ (no_state o.index_of s l))

    module _ (r : Result ℕ Stopped) (l : s < o.extent.states)
        (er : ended_says r ≡ step_index o.index.variables.words.now o.index.variables.places.now o.index.weights.now o.index.order.now o.index.variables.count 0 s w) where
      stepped_is : ended_says r ≡ step_of o.index.variables.words.now s w
      unfolding step_of
      stepped_is =
          let typed = typed_state o.index_of s l in
          rw (o.index_of.reads, lt-ltb s _ typed)
          ((rw o.index_of.order_is at er)
          ∙ step_means o.index.variables.words.now o.index_of.set o.index.variables.count o.extent.assertions o.index.variables.places.now o.index.weights.now o.index_of.typed.indexed (well o.index_of)
          o.index_of.typed.weights_are o.index_of.acyclic (few o.index_of) 0 s w typed)

      pub step_done : (t : ℕ) → r ≡ Ok t → answer_says (Ok t) ≡ step_of o.index.variables.words.now s w
      unfolding answer_says ended_says
      step_done t e = (rw e at stepped_is)

      pub step_refused : (y : Stopped) (q : Refusal) → r ≡ Err y → refusal_says q ≡ no_step_is y.state (input_of y.event) y.why → answer_says (Err q) ≡ step_of o.index.variables.words.now s w
      unfolding answer_says ended_says stepped_says
      step_refused y q e eq = refused_says q _ _ eq ∙ (rw e at stepped_is)

  -- ---- values
  module _ (s room : ℕ) where
    values_said : values_of o.index.variables.words.now s room
        ≡ (demand (leb o.index.variables.count room) 17 (o.index.variables.count ∷ []) >>= λ _. demand (ltb s o.extent.states) 15 (s ∷ []) >>= λ _.
        examined o.index.variables.words.now o.index.variables.places.now o.index.weights.now o.index.order.now o.index.variables.count s)
    unfolding values_of examined
    values_said =
        rw (
          o.index_of.reads,
          o.index_of.typed.states_are,
          o.index_of.order_is,
          count_is o.index.variables.words.now o.index_of.set o.index.variables.count o.extent.assertions o.index.variables.places.now o.index.weights.now o.index_of.typed.indexed (well o.index_of) o.index_of.typed.weights_are,
          values_means o.index.variables.words.now o.index_of.set o.index.variables.count o.extent.assertions o.index.variables.places.now o.index.weights.now o.index_of.typed.indexed (well o.index_of)
              o.index_of.typed.weights_are s (input_of 0),
        )

    pub count_room : room < o.index.variables.count → answer_says (Err (R.Room o.index.variables.count)) ≡ count_of (values_of o.index.variables.words.now s room)
    unfolding answer_says refused refusal_says count_of
    count_room l = rw (values_said, lt-leb o.index.variables.count room l)

    pub kept_room : (out : List ℕ) → room < o.index.variables.count → out ≡ lent_values (values_of o.index.variables.words.now s room) out
    unfolding lent_values
    kept_room out l = rw (values_said, lt-leb o.index.variables.count room l)

    module _ (l : o.index.variables.count ≤ room) where
      pub count_no_state : o.extent.states ≤ s → answer_says (Err (R.NoState s)) ≡ count_of (values_of o.index.variables.words.now s room)
      unfolding answer_says refused refusal_says count_of
      count_no_state k = rw (values_said, le-leb o.index.variables.count room l, le-ltb s o.extent.states k)

      pub kept_no_state : (out : List ℕ) → o.extent.states ≤ s → out ≡ lent_values (values_of o.index.variables.words.now s room) out
      unfolding lent_values
      kept_no_state out k = rw (values_said, le-leb o.index.variables.count room l, le-ltb s o.extent.states k)

      -- by what settling gave
      module _ (k : s < o.extent.states) (own : List ℕ) (m : ℕ) (r : Settled) (em : m ≡ o.index.variables.count)
          (er : joined r own ≡ state_walk o.index.variables.words.now o.index.variables.places.now o.index.weights.now s o.index.order.now (list_of (digit_at o.index.variables.words.now o.index.variables.places.now o.index.weights.now s) m)) where
        examined_says : values_of o.index.variables.words.now s room ≡ settled_says 0 s (input_of 0) own r
        unfolding examined
        examined_says =
            rw (values_said, le-leb o.index.variables.count room l, lt-ltb s o.extent.states k)
            (said 0 s (input_of 0) r own (state_walk o.index.variables.words.now o.index.variables.places.now o.index.weights.now s o.index.order.now (list_of (digit_at o.index.variables.words.now o.index.variables.places.now o.index.weights.now s) o.index.variables.count)) (rw em at er))

        -- a refusal writes nothing
        module _ (f : Unsettled) (ef : r ≡ Err f) where
          not_settled : values_of o.index.variables.words.now s room ≡ refuse (clash_is 0 s (input_of 0) f.variable f.why).0 (clash_is 0 s (input_of 0) f.variable f.why).1
          unfolding settled_says
          not_settled = examined_says ∙ rw ef

          pub unsettled_count : (q : Refusal) → refusal_says q ≡ clash_is 0 s (record { variable = 0; value = 0 }) f.variable f.why
              → answer_says (Err q) ≡ count_of (values_of o.index.variables.words.now s room)
          unfolding answer_says count_of input_of W.variable W.value
          unsettled_count q eq = rw not_settled (refused_says q _ _ eq)

          pub unsettled_kept : (out : List ℕ) → out ≡ lent_values (values_of o.index.variables.words.now s room) out
          unfolding lent_values
          unsettled_kept out = rw not_settled

        module _ (u : Unit {0}) (eu : r ≡ Ok u) where
          pub done_count : length own ≡ m → answer_says (Ok o.index.variables.count) ≡ count_of (values_of o.index.variables.words.now s room)
          unfolding settled_says answer_says count_of
          done_count long = rw (examined_says, eu) (ap ok (sym (long ∙ em)))

          -- the values are written to the front of the lent list
          pub done_written : (out b : List ℕ) → length own ≡ m → o.index.variables.count ≤ length out → b ≡ own
              → b ++ drop (length own) out ≡ lent_values (values_of o.index.variables.words.now s room) out
          unfolding settled_says lent_values
          done_written out b long room eb =
              let z : 0 + length own ≡ length own = omega arith in
              let e = sets-eq own out 0 (omega (arith, long, em)) in
              rw (examined_says, eu, eb) (sym (e ∙ ap (λ (n : ℕ). own ++ drop n out) z))

pub ruleset values_laws = (count_room, kept_room, count_no_state, kept_no_state)

pub ruleset examine_laws = (unsettled_count, unsettled_kept, done_count, done_written)
