-- One law for each way out of the reading of a set.
use Rattle.std.specs.Prelude.{◌≡◌, List, [], ◌∷◌, ℕ, ◌≤◌, length, take, Result, Ok, Err}
use Rattle.std.proofs.Common.{sym, ◌∙◌, subst}
use Rattle.word.specs.Limits as Max
use Rattle.meaning.specs.Answers.{ok, refuse}
use Rattle.meaning.specs.Order.{order, no_cycle}
use Rattle.meaning.specs.States.{read_typed, read_set}
use Rattle.reader.specs.declared.faults.Fault as R
use Rattle.reader.specs.declared.Typed.{Typed}
use Rattle.reader.specs.Faults.{refusal, carried}
use Rattle.reader.specs.Typed.{TypedAs}
use Rattle.order.specs.declared.Cycle as O
use Rattle.order.specs.Orders.{order_at, no_cycle_at, cycle_said}
use Rattle.order.proofs.Means.{order_means, order_below}
use Rattle.theory.specs.Numbered.{typed_number}
use Rattle.set.specs.declared.faults.Fault.TheVariants.{Unread, Cycle}
use Rattle.set.specs.ReadSet.{SetAs}

pub set_refused : (ws : List ℕ) (t : Result Typed R.Fault) (f : R.Fault) → TypedAs ws t → t ≡ Err f → SetAs ws (Err (Unread f))
unfolding SetAs TypedAs read_set
set_refused ws t f h e =
    let r : read_typed ws ≡ refuse (refusal f) (carried f ∷ []) = subst (λ (y : Result Typed R.Fault). TypedAs ws y) e h in
    (rw r, typed_number ws (refusal f) (carried f ∷ []) r)

module _ (ws : List ℕ) (t : Result Typed R.Fault) (x : Typed) (h : TypedAs ws t) (e : t ≡ Ok x) where
  pub index_few : x.extent.variables ≤ Max.max_variables
  unfolding TypedAs
  index_few = let p = rw e at h in p.1.indexed.few

  module _ (o : Result (Unit {0}) O.Cycle) (eo : cycle_said o ≡ no_cycle_at ws x.places x.extent.variables) where
    pub set_cycle : (c : O.Cycle) → o ≡ Err c → SetAs ws (Err (Cycle c))
    unfolding SetAs TypedAs cycle_said read_set
    set_cycle c p =
        let q = rw e at h in
        let s : no_cycle q.0 ≡ refuse 9 (c.variable ∷ c.length ∷ []) = sym (order_means q.1.indexed).1 ∙ sym eo ∙ rw p in
        rw (q.1.typed, s)

    pub set_all : (u : Unit {0}) (os : List ℕ) → o ≡ Ok u → take (length (order_at ws x.places x.extent.variables)) os ≡ order_at ws x.places x.extent.variables
        → length os ≡ Max.max_variables
        → SetAs ws (Ok (record { extent = x.extent; places = x.places; weights = x.weights; order = os }))
    unfolding SetAs TypedAs cycle_said read_set
    set_all u os p take_is long =
        let q = rw e at h in
        let m = order_means q.1.indexed in
        let s : no_cycle q.0 ≡ ok tt = sym m.1 ∙ sym eo ∙ rw p in (
          q.0,
          record {
            reads = rw (q.1.typed, s);
            typed = q.1;
            acyclic = s;
            order_is = subst (λ (k : ℕ). take k os ≡ order q.0) (order_below q.1.indexed s) (take_is ∙ m.0);
            order_long = long;
          },
        )

pub ruleset set_laws = (set_refused, index_few, set_cycle, set_all)
