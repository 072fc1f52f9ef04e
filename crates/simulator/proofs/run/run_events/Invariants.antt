use Rattle.std.proofs.Common.{◌≡◌, length, drop}
use Rattle.std.proofs.lemmas.List.Edits.{sets}
use Rattle.simulator.specs.RunIndex.{run_index}
use Rattle.simulator.proofs.run.run_events.Given as goal

abbrev pub invariant-loop-i : goal.invariant-loop-i
invariant-loop-i l =
    (length l.trace ≡ length l.initial.trace)
    × ((run_index l.index.variables.words.now l.index.variables.places.now l.index.weights.now l.index.order.now l.index.variables.count l.i l.state (drop l.i l.events)).last
    ≡ (run_index l.index.variables.words.now l.index.variables.places.now l.index.weights.now l.index.order.now l.index.variables.count 0 l.s l.events).last)
    × (sets l.trace l.i (run_index l.index.variables.words.now l.index.variables.places.now l.index.weights.now l.index.order.now l.index.variables.count l.i l.state (drop l.i l.events)).done
    ≡ sets l.initial.trace 0 (run_index l.index.variables.words.now l.index.variables.places.now l.index.weights.now l.index.order.now l.index.variables.count 0 l.s l.events).done)
