-- That IndexOf has at most one proof, so that a struct may hold it: words stand for one set at most, and the rest of it are equations between values of
-- which each two equal ones are so in one way.
use Rattle.std.specs.Prelude.{ℕ, zero, suc, ◌≤◌, ◌<◌, ◌≡◌, refl, Bool, true, List, length, get_or}
use Rattle.std.proofs.Common.{sym, ap, ◌∙◌}
use Rattle.std.proofs.Props.{props}
use Rattle.std.proofs.Math.Option.{Option, none, some}
use mathlib.Core.HLevel.{Unit-prop, ⊥_prop, Σ_prop_path, is_prop→PathP, collapsible→set}
use Rattle.word.specs.Limits as Max
use Rattle.meaning.specs.Answers.{Outcome, ok, Parse, fine}
use Rattle.meaning.specs.Syntax.{Condition, equals, at_most, constant, negation, both, either, Event, never, to_true, to_false, one_of, Variable, Table, TableSet}
use Rattle.meaning.specs.Order.{order, no_cycle}
use Rattle.meaning.specs.Lookup.{table_of}
use Rattle.meaning.specs.Reading.{word, read_body, read_assertions, read_words}
use Rattle.meaning.specs.States.{read_set}
use Rattle.theory.specs.Found.{ok_same, fine_same}
use Rattle.index.specs.declared.variables.Extent.{Extent}
use Rattle.index.specs.declared.variables.Index.{Index}
use Rattle.index.specs.Indexed.{Placed, absent, there, Indexed}
use Rattle.index.specs.Places.{variables_to}
use Rattle.reader.specs.Typed.{TypedSet}
use Rattle.set.specs.Opened.{IndexOf}

-- ---- conditions and events, by a copy of both
data Formula : Type 0 where
  is_value is_at_most : ℕ → ℕ → Formula
  fixed : Bool → Formula
  denied : Formula → Formula
  and_both or_both : Formula → Formula → Formula
  no_event : Formula
  turns_true turns_false one_event : Formula → Formula → Formula
  deriving IsSet as Formula-set

abbrev of_condition : Condition → Formula
of_condition (equals v k) = is_value v k
of_condition (at_most v k) = is_at_most v k
of_condition (constant b) = fixed b
of_condition (negation c) = denied (of_condition c)
of_condition (both c d) = and_both (of_condition c) (of_condition d)
of_condition (either c d) = or_both (of_condition c) (of_condition d)

abbrev condition : Formula → Condition
condition (is_value v k) = equals v k
condition (is_at_most v k) = at_most v k
condition (fixed b) = constant b
condition (denied x) = negation (condition x)
condition (and_both x y) = both (condition x) (condition y)
condition (or_both x y) = either (condition x) (condition y)
condition _ = constant true

condition_back : (c : Condition) → condition (of_condition c) ≡ c
condition_back (equals v k) = refl
condition_back (at_most v k) = refl
condition_back (constant b) = refl
condition_back (negation c) = λ i. negation (condition_back c i)
condition_back (both c d) = λ i. both (condition_back c i) (condition_back d i)
condition_back (either c d) = λ i. either (condition_back c i) (condition_back d i)

abbrev of_event : Event → Formula
of_event never = no_event
of_event (to_true c d) = turns_true (of_condition c) (of_condition d)
of_event (to_false c d) = turns_false (of_condition c) (of_condition d)
of_event (one_of e f) = one_event (of_event e) (of_event f)

abbrev event : Formula → Event
event (turns_true x y) = to_true (condition x) (condition y)
event (turns_false x y) = to_false (condition x) (condition y)
event (one_event x y) = one_of (event x) (event y)
event _ = never

event_back : (e : Event) → event (of_event e) ≡ e
event_back never = refl
event_back (to_true c d) = λ i. to_true (condition_back c i) (condition_back d i)
event_back (to_false c d) = λ i. to_false (condition_back c i) (condition_back d i)
event_back (one_of e f) = λ i. one_of (event_back e i) (event_back f i)

-- what has such a copy
copied : {A : Type 0} (to : A → Formula) (from : Formula → A) → ((x : A) → from (to x) ≡ x) → IsSet A
copied to from back =
    let set : IsSet Formula = hlevel (props, Formula-set) in
    collapsible→set (λ x y p. sym (back x) ∙ ap from (ap to p) ∙ back y)
    (λ x y p q. ap (λ z. sym (back x) ∙ ap from z ∙ back y) (set (to x) (to y) (ap to p) (ap to q)))

Condition-set : IsSet Condition
Condition-set = copied of_condition condition condition_back

Event-set : IsSet Event
Event-set = copied of_event event event_back

ruleset sets = (props, Condition-set, Event-set)

-- ---- the sets of tables, the answers and the readings
Table-set : IsSet Table
Table-set = hlevel sets

TableSet-set : IsSet TableSet
TableSet-set = hlevel (sets, Table-set)

Outcome-set : {A : Type 0} → IsSet A → IsSet (Outcome A)
Outcome-set set = hlevel (props, set)

Parse-set : {A : Type 0} → IsSet A → IsSet (Parse A)
Parse-set set = hlevel (props, set)

-- ---- the places
module _ (ws : List ℕ) (vs : List Variable) where
  -- what an entry says, by cases
  abbrev Entry : ℕ → Option Table → Type 0
  Entry zero none = Unit {0}
  Entry (suc i) (some t) = (j : ℕ) × read_body ws vs (word ws i) (suc i) ≡ fine (t, j)
  Entry _ _ = ⊥

  entry : (n : ℕ) (o : Option Table) → Placed ws vs n o → Entry n o
  entry _ _ absent = tt
  entry _ _ (there i j t e) = (j, e)

  placed : (n : ℕ) (o : Option Table) → Entry n o → Placed ws vs n o
  placed zero none x = absent
  placed zero (some t) x = absurd x
  placed (suc i) none x = absurd x
  placed (suc i) (some t) x = there i x.0 t x.1

  placed_back : (n : ℕ) (o : Option Table) (p : Placed ws vs n o) → placed n o (entry n o p) ≡ p
  unfolding entry placed
  placed_back _ _ absent = refl
  placed_back _ _ (there i j t e) = refl

  Entry-prop : (n : ℕ) (o : Option Table) → IsProp (Entry n o)
  Entry-prop zero none = Unit-prop
  Entry-prop zero (some t) = ⊥_prop
  Entry-prop (suc i) none = ⊥_prop
  Entry-prop (suc i) (some t) = λ x y.
      let set : IsSet (Table × ℕ) = hlevel (sets, Table-set) in
      Σ_prop_path (λ j. Parse-set set _ _) (ap (λ (p : Table × ℕ). p.1) (fine_same (sym x.1 ∙ y.1)))

  Placed-prop : (n : ℕ) (o : Option Table) → IsProp (Placed ws vs n o)
  Placed-prop n o = λ x y. sym (placed_back n o x) ∙ ap (placed n o) (Entry-prop n o (entry n o x) (entry n o y)) ∙ placed_back n o y

-- ---- the index
Indexed-prop : {ws : List ℕ} {z : TableSet} {n a : ℕ} {ps : List ℕ} → IsProp (Indexed ws z n a ps)
Indexed-prop {ws} {z} {n} {a} {ps} x y =
    let words : IsProp (read_words ws ≡ ok z) = hlevel (props, Outcome-set, TableSet-set) in
    let variables : IsProp (z.variables ≡ variables_to ws ps n) = hlevel props in
    let tables : IsProp ((v : ℕ) → v < Max.max_variables → Placed ws (variables_to ws ps n) (get_or ps v 0) (table_of z.tables v)) = hlevel (props, Placed-prop) in
    let read : IsSet (Parse (List Condition × ℕ)) = hlevel (sets, Parse-set) in
    let few : IsProp (n ≤ Max.max_variables) = hlevel props in
    let same : x.last ≡ y.last = ap (λ (p : List Condition × ℕ). p.1) (fine_same (sym x.assertions_are ∙ y.assertions_are)) in
    λ i. record {
      words_read = words x.words_read y.words_read i;
      few = few x.few y.few i;
      variables_are = variables x.variables_are y.variables_are i;
      tables_are = tables x.tables_are y.tables_are i;
      last = same i;
      assertions_are =
          is_prop→PathP (λ j. read_assertions ws (variables_to ws ps n) Max.max_assertions a ≡ fine (z.assertions, same j)) (λ j. read _ _)
          x.assertions_are y.assertions_are i;
    }

TypedSet-prop : {ws : List ℕ} {z : TableSet} {n a c : ℕ} {ps us : List ℕ} → IsProp (TypedSet ws z n a c ps us)
TypedSet-prop = hlevel (props, Outcome-set, TableSet-set, Indexed-prop)

-- one set by `reads`, and all else is said of it
pub IndexOf-prop : {x : Index} {e : Extent} → IsProp (IndexOf x e)
IndexOf-prop {x} {e} h k = ap (λ (p : (z : TableSet) × Of z). record { set = p.0; reads = p.1.0; typed = p.1.1; acyclic = p.1.2; order_is = p.1.3; order_few = p.1.4 }) same
  where
    Of : TableSet → Type 0
    Of z =
        (read_set x.variables.words.now ≡ ok z) × TypedSet x.variables.words.now z x.variables.count e.assertions e.states x.variables.places.now x.weights.now
        × (no_cycle z ≡ ok tt) × (x.order.now ≡ order z) × (length x.order.now ≤ Max.max_variables)

    of : IndexOf x e → (z : TableSet) × Of z
    of h = (h.set, (h.reads, h.typed, h.acyclic, h.order_is, h.order_few))

    one : (z : TableSet) → IsProp (Of z)
    one z = hlevel (props, Outcome-set, TableSet-set, TypedSet-prop)

    same : of h ≡ of k
    same = Σ_prop_path one (ok_same (sym h.reads ∙ k.reads))
