-- Laws of a run of a set that reads, two for each way out: the answer, and the lent list.
use Rattle.std.specs.Prelude.{Result, Ok, Err, ◌≡◌, refl, List, [], ◌∷◌, ◌++◌, ℕ, suc, ◌+◌, ◌-◌, ◌≤◌, ◌<◌, length, take, drop, set}
use Rattle.std.proofs.Common.{◌∙◌, append-nil, arith, add-zero, take-append-drop, length-drop, drop_of_length-le, take_all, le-ltb, lt-ltb, le-leb}
use Rattle.std.proofs.lemmas.Bool.{lt-leb}
use Rattle.std.proofs.lemmas.List.{take-set-le, drop-set-add}
use Rattle.std.proofs.lemmas.List.Edits.{sets}
-- std does not pass these on
use borrow.Rule.Slice.PartMut.{put_mid}
use Rattle.word.specs.Limits as Max
use Rattle.meaning.specs.Answers.{refuse}
use Rattle.meaning.specs.Steps.{input_of}
use Rattle.meaning.specs.Run.{run_ready, ran_of, run_of}
use Rattle.simulator.specs.declared.Stopped.{Stopped}
use Rattle.simulator.specs.StepIndex.{no_step_is, stepped_says, ended_says}
use Rattle.simulator.specs.RunIndex.{run_index}
use Rattle.simulator.proofs.Means.{run_means}
use Rattle.scr.specs.declared.reading.Reading.{Reading}
use Rattle.scr.specs.declared.Refusal.{Refusal}
use Rattle.scr.specs.declared.Refusal.TheVariants as R
use Rattle.scr.specs.Answers.{Answer, refusal_says, refused, answer_says}
use Rattle.index.specs.declared.variables.Index.{Index}
use Rattle.scr.specs.Opened.{run_in}
use Rattle.scr.proofs.Refusing.{refused_says}
use Rattle.scr.proofs.Indexing.{well, few, typed_state, no_state}

-- ---- the events
module _ (x : Index) (s : ℕ) (es : List ℕ) where
  module _ (r : Result ℕ Stopped) (er : ended_says r ≡ (run_index x.variables.words.now x.variables.places.now x.weights.now x.order.now x.variables.count 0 s es).last) where
    pub performed_last : (t : ℕ) → r ≡ Ok t → answer_says (Ok t) ≡ (run_in x s es).last
    unfolding ended_says answer_says run_in
    performed_last t e = rw e at er

    pub performed_stopped : (y : Stopped) (q : Refusal) → r ≡ Err y → refusal_says q ≡ no_step_is y.state (input_of y.event) y.why → answer_says (Err q) ≡ (run_in x s es).last
    unfolding ended_says answer_says run_in stepped_says
    performed_stopped y q e eq = refused_says q _ _ eq ∙ (rw e at er)

  pub performed_written : (lent after : List ℕ)
      → after ≡ sets lent 0 (run_index x.variables.words.now x.variables.places.now x.weights.now x.order.now x.variables.count 0 s es).done → after ≡ sets lent 0 (run_in x s es).done
  unfolding run_in
  performed_written lent after e = e

-- ---- the tests before them
module _ (o : Reading) (s : ℕ) (es lent : List ℕ) (place : ℕ) where
  abbrev room : ℕ
  room = length lent - place

  stopped : (k : ℕ) (xs : List ℕ) → run_ready o.index.variables.words.now s (length es) room ≡ refuse k xs → run_of o.index.variables.words.now s es lent place ≡ record { answer = refuse k xs; lent = lent }
  unfolding run_of ran_of
  stopped k xs e = rw (e, ran_of)

  many : Max.max_events < length es → run_ready o.index.variables.words.now s (length es) room ≡ refuse 17 (suc Max.max_events ∷ [])
  unfolding run_ready
  many l = rw (o.index_of.reads, lt-leb (length es) Max.max_events l)

  short : length es ≤ Max.max_events → room < length es → run_ready o.index.variables.words.now s (length es) room ≡ refuse 17 (length es ∷ [])
  unfolding run_ready
  short l k = rw (o.index_of.reads, le-leb (length es) Max.max_events l, lt-leb (length es) room k)

  untyped : length es ≤ Max.max_events → length es ≤ room → o.extent.states ≤ s → run_ready o.index.variables.words.now s (length es) room ≡ refuse 15 (s ∷ [])
  unfolding run_ready
  untyped l k c = rw (o.index_of.reads, le-leb (length es) Max.max_events l, le-leb (length es) room k, le-ltb s _ (no_state o.index_of s c))

  runs : length es ≤ Max.max_events → length es ≤ room → s < o.extent.states
      → run_of o.index.variables.words.now s es lent place ≡ record { answer = (run_in o.index s es).last; lent = sets lent place (run_in o.index s es).done }
  unfolding run_of ran_of run_ready run_in
  runs l k c =
      let typed = typed_state o.index_of s c in
      rw (
        o.index_of.reads,
        le-leb (length es) Max.max_events l,
        le-leb (length es) room k,
        lt-ltb s _ typed,
        o.index_of.order_is,
        run_means o.index.variables.words.now o.index_of.set o.index.variables.count o.extent.assertions o.index.variables.places.now o.index.weights.now o.index_of.typed.indexed (well o.index_of) o.index_of.typed.weights_are
            o.index_of.acyclic (few o.index_of) 0 s es typed,
        ran_of,
      )

  module _ (l : Max.max_events < length es) where
    pub many_answer : answer_says (Err (R.Room (Max.max_events + 1))) ≡ (run_of o.index.variables.words.now s es lent place).answer
    unfolding answer_says refused refusal_says
    many_answer = rw (stopped 17 _ (many l))

    pub many_kept : lent ≡ (run_of o.index.variables.words.now s es lent place).lent
    many_kept = rw (stopped 17 _ (many l))

  module _ (free : ℕ) (ef : free ≡ room) (l : length es ≤ Max.max_events) where
    module _ (k : free < length es) where
      abbrev Short : run_ready o.index.variables.words.now s (length es) room ≡ refuse 17 (length es ∷ [])
      Short = short l (rw (← ef) k)

      pub short_answer : answer_says (Err (R.Room (length es))) ≡ (run_of o.index.variables.words.now s es lent place).answer
      unfolding answer_says refused refusal_says
      short_answer = rw (stopped 17 _ Short)

      pub short_kept : lent ≡ (run_of o.index.variables.words.now s es lent place).lent
      short_kept = rw (stopped 17 _ Short)

    module _ (k : length es ≤ free) where
      enough : length es ≤ room
      enough = rw (← ef) k

      module _ (c : o.extent.states ≤ s) where
        pub state_answer : answer_says (Err (R.NoState s)) ≡ (run_of o.index.variables.words.now s es lent place).answer
        unfolding answer_says refused refusal_says
        state_answer = rw (stopped 15 _ (untyped l enough c))

        pub state_kept : lent ≡ (run_of o.index.variables.words.now s es lent place).lent
        state_kept = rw (stopped 15 _ (untyped l enough c))

      module _ (c : s < o.extent.states) where
        pub run_answer : (a : Answer) → answer_says a ≡ (run_in o.index s es).last → answer_says a ≡ (run_of o.index.variables.words.now s es lent place).answer
        run_answer a e = rw (runs l enough c) e

        pub run_written : (after : List ℕ) → after ≡ sets lent place (run_in o.index s es).done → after ≡ (run_of o.index.variables.words.now s es lent place).lent
        run_written after e = rw (runs l enough c) e

-- ---- a place at or past the end: there are no events
none_left : (es : List ℕ) → length es ≤ 0 → es ≡ []
none_left [] h = refl
none_left (e ∷ es) h = let o : ⊥ = omega arith in absurd o

module _ (x : Index) (s : ℕ) (es lent : List ℕ) (place : ℕ) (l : length es ≤ length lent - place) (m : length lent ≤ place) where
  none : es ≡ []
  none = none_left es (let z : length es ≤ 0 = omega arith in z)

  pub past_answer : answer_says (Ok s) ≡ (run_in x s es).last
  unfolding answer_says run_in run_index
  past_answer = rw none

  pub past_kept : lent ≡ sets lent place (run_in x s es).done
  unfolding run_in run_index
  past_kept = rw none

-- ---- the lent part, given back
part_sets : (l : List ℕ) (p i : ℕ) (vs : List ℕ) → take p l ++ sets (drop p l) i vs ≡ sets l (p + i) vs
part_sets l p i [] = take-append-drop p l
part_sets l p i (v ∷ vs) =
    let past : p ≤ p + i = omega arith in
    let on : p + suc i ≡ suc (p + i) = omega arith in
    rw (← drop-set-add p l i v, ← take-set-le p l (p + i) v past) (part_sets (set l (p + i) v) p (suc i) vs ∙ rw on)

pub lent_back : (l ys vs : List ℕ) (p : ℕ) → p < length l → ys ≡ sets (take (length l - p) (drop p l)) 0 vs → put_mid p (length l - p) l ys ≡ sets l p vs
lent_back l ys vs p h e =
    let whole : length (drop p l) ≤ length l - p = simp length-drop (omega arith) in
    rw (e, take_all (length l - p) (drop p l) whole, drop_of_length-le (drop p l) whole, append-nil (sets (drop p l) 0 vs))
    (part_sets l p 0 vs ∙ rw (add-zero p))

pub ruleset perform_from_laws = (past_answer, past_kept, lent_back)

pub ruleset run_laws = (many_answer, many_kept, short_kept, state_answer, state_kept, run_answer, run_written)
