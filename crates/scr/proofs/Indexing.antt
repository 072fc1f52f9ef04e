-- What the index of a set gives.
use Rattle.std.proofs.Common.{◌≡◌, ◌<◌, ◌≤◌, ℕ, length}
use Rattle.word.specs.Limits as Max
use Rattle.meaning.specs.States.{state_count}
use Rattle.theory.specs.WellFormed.{WellFormed}
use Rattle.theory.specs.WellRead.{read_well_formed, states_few}
use Rattle.index.specs.declared.variables.Extent.{Extent}
use Rattle.index.specs.declared.variables.Index.{Index}
use Rattle.index.specs.Places.{place_count}
use Rattle.lanes.specs.Cleared.{Known}
use Rattle.scr.specs.Opened.{IndexOf}

module _ {x : Index} {ext : Extent} (h : IndexOf x ext) where
  pub well : WellFormed h.set
  well = read_well_formed x.variables.words.now h.set h.typed.typed

  pub few : state_count h.set ≤ Max.max_states
  few = states_few x.variables.words.now h.set h.typed.typed

  pub states_room : ext.states ≤ Max.max_states
  states_room = rw h.typed.states_are few

  pub index_few : x.variables.count ≤ Max.max_variables
  index_few = h.typed.indexed.few

  pub places_full : length x.variables.places.now ≡ place_count
  places_full = h.typed.places_long

  pub weights_full : length x.weights.now ≡ Max.max_variables
  weights_full = h.typed.weights_long

  pub order_few_lem : length x.order.now ≤ Max.max_variables
  order_few_lem = h.order_few

  pub typed_state : (s : ℕ) → s < ext.states → s < state_count h.set
  typed_state s l = rw (← h.typed.states_are) l

  pub no_state : (s : ℕ) → ext.states ≤ s → state_count h.set ≤ s
  no_state s l = rw (← h.typed.states_are) l

  pub index_known : Known x.variables.words.now x.variables.places.now x.weights.now x.order.now x.variables.count ext.assertions ext.states
  index_known = record {
    set = h.set;
    indexed = h.typed.indexed;
    formed = well;
    weighed = h.typed.weights_are;
    ordered = h.order_is;
    acyclic = h.acyclic;
    states = h.typed.states_are;
    few = states_room;
  }
