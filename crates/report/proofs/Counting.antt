-- Of a set that passes, what a run answers tells how many events were done: all, or, by 16, as many as its index says; or, by 17, none.
use Rattle.std.proofs.Common.{◌≡◌, sym, ap, subst, inl, inr, List, [], ◌∷◌, append-nil, ℕ, suc, ◌+◌, ◌-◌, ◌≤◌, ◌<◌, arith, length, take, drop, take_at}
use Rattle.std.proofs.Math.Decide.{dec_le}
use Rattle.std.proofs.lemmas.Bool.{lt-leb}
use Rattle.std.proofs.lemmas.List.Edits.{sets, sets-eq}
use Rattle.word.specs.Limits as Max
use Rattle.meaning.specs.Answers.{Outcome, ok, refuse}
use Rattle.meaning.specs.Syntax.{TableSet}
use Rattle.meaning.specs.States.{state_count, initial_state, read_set}
use Rattle.meaning.specs.Calls.{start_of}
use Rattle.meaning.specs.Run.{Ran, run_from, run_ready, ran_of, run_of}
use Rattle.meaning.specs.Moved.{Course}
use Rattle.meaning.specs.Passes.{Reads, Passes}
use Rattle.meaning.specs.Demand3.{Answered, RunsInOrder}
use Rattle.meaning.specs.Program.{event_lines, end_line, run_lines}
use Rattle.theory.specs.Tests.{true_leb, true_ltb}
use Rattle.theory.specs.Found.{ok_same}
use Rattle.theory.specs.WellRead.{read_well_formed}
use Rattle.theory.specs.Orders.{order_exists}
use Rattle.theory.specs.Asserting.{initial_typed}
use Rattle.theory.specs.CheckExactly.{reads_exactly}
use Rattle.theory.specs.CourseExactly.{every_list_has_one_course}
use Rattle.report.specs.Runs.{done_before, ran_lines}

-- what was written stands in front
front : (l vs : List ℕ) (n : ℕ) → n ≡ length vs → n ≤ length l → take n (sets l 0 vs) ≡ vs
front l vs n e h = let h' : 0 + length vs ≤ length l = omega arith in rw (sets-eq vs l 0 h') (take_at vs (drop (0 + length vs) l) n (sym e))

module _ (ws : List ℕ) (z : TableSet) (passes : Passes ws z) (s : ℕ) where
  read : Reads ws z
  read = record { reads = passes.reads; order = passes.order }

  set_is : read_set ws ≡ ok z
  set_is = (reads_exactly ws z).1 read

  pub start_is : ok s ≡ start_of ws → s ≡ initial_state z
  unfolding start_of
  start_is e = ok_same (rw set_is at e)

  module _ (es : List ℕ) (from : s ≡ initial_state z) where
    typed : s < state_count z
    typed = rw from (initial_typed z ((order_exists z).1 passes.order) (read_well_formed ws z passes.reads) passes.states passes.steps)

    -- the run, its tests passed
    abbrev Whole : Ran
    Whole = run_from z 0 s es

    few_ready : length es ≤ Max.max_events → run_ready ws s (length es) Max.max_events ≡ ok z
    unfolding run_ready
    few_ready few = rw (set_is, true_leb few, true_ltb typed)

    few_ran : length es ≤ Max.max_events → ran_of ws s es Max.max_events ≡ Whole
    unfolding ran_of
    few_ran few = rw (few_ready few, ran_of)

    many_ready : Max.max_events < length es → run_ready ws s (length es) Max.max_events ≡ refuse 17 (suc Max.max_events ∷ [])
    unfolding run_ready
    many_ready h = rw (set_is, lt-leb (length es) Max.max_events h)

    many_ran : Max.max_events < length es → ran_of ws s es Max.max_events ≡ record { done = []; last = refuse 17 (suc Max.max_events ∷ []) }
    unfolding ran_of
    many_ran h = rw (many_ready h, ran_of)

    module _ (lent after : List ℕ) (answer : Outcome ℕ) (room : length lent ≡ Max.max_events) (runs : RunsInOrder z s es lent 0 answer after) where
      counted : length Whole.done ≡ runs.done
      counted =
          let c = (every_list_has_one_course ws z read s es typed).0 in
          let e = runs.only_course _ (subst (λ (t : ℕ). Course z t es (s ∷ Whole.done)) from c) in
          omega (arith, ap length e, runs.one_more)

      module _ (few : length es ≤ Max.max_events) (ea : answer ≡ Whole.last) (el : after ≡ sets lent 0 Whole.done) where
        told : Answered es runs.course runs.done answer
        told = (runs.run from few (omega arith)).1

        few_lines : ran_lines es after answer ≡ run_lines es Whole
        unfolding ran_lines run_lines end_line done_before
        few_lines =
            elim runs.ends [
              | inl p ↦
                  let k : runs.done ≡ length es = omega (arith, p, runs.one_more) in
                  let t = told.all_done k in
                  let f : take (length es) after ≡ Whole.done = rw el (front lent Whole.done (length es) (omega (arith, counted, k)) (omega arith)) in
                  rw (← ea, t, f) (sym (append-nil (event_lines 0 es Whole.done)))
              | inr p ↦
                  let l : runs.done < length es = omega (arith, p.1, p.2, runs.one_more) in
                  let t = told.not_all_done l in
                  let f : take runs.done after ≡ Whole.done = rw el (front lent Whole.done runs.done (sym counted) (omega (arith, l))) in
                  rw (← ea, t, f)
            ]

    -- the lines by the answer and the states written are the meaning's
    pub ran_is : (lent after : List ℕ) (answer : Outcome ℕ) → length lent ≡ Max.max_events → answer ≡ (run_of ws s es lent 0).answer
        → after ≡ (run_of ws s es lent 0).lent → RunsInOrder z s es lent 0 answer after
        → ran_lines es after answer ≡ run_lines es (ran_of ws s es Max.max_events)
    unfolding run_of ran_lines run_lines end_line done_before
    ran_is lent after answer room ea el runs =
        let q : length lent - 0 ≡ Max.max_events = omega arith in
        go (rw q at ea) (rw q at el) (dec_le (length es) Max.max_events)
      where
        go : answer ≡ (ran_of ws s es Max.max_events).last → after ≡ sets lent 0 (ran_of ws s es Max.max_events).done → Dec (length es ≤ Max.max_events)
            → ran_lines es after answer ≡ run_lines es (ran_of ws s es Max.max_events)
        go ea el (yes few) =
            let w = few_ran few in
            rw w (few_lines lent after answer room runs few (rw w at ea) (rw w at el))
        go ea el (no h) = let w = many_ran (omega arith) in rw (w, ea, w)
