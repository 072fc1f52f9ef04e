-- What a reading without a refusal leaves: the set that the words say, and its index.
use Rattle.std.specs.Prelude.{ℕ, ◌≡◌, true, List, [], ◌∷◌, length, take, Result, Ok, Err}
use Rattle.word.specs.Limits as Max
use Rattle.meaning.specs.Answers.{ok, refuse, typed_numbers}
use Rattle.meaning.specs.Searches.{mem}
use Rattle.meaning.specs.Syntax.{TableSet}
use Rattle.meaning.specs.Order.{order, no_cycle}
use Rattle.meaning.specs.States.{read_set}
use Rattle.reader.specs.Faults.{refusal, carried}
use Rattle.reader.specs.Typed.{TypedSet}
use Rattle.set.specs.declared.opened.Opened.{Opened}
use Rattle.set.specs.declared.faults.Fault.{Fault}
use Rattle.set.specs.declared.faults.Fault.TheVariants.{Unread, Cycle}

-- n variables, the first assertion at a, c states, tables at the places ps, weights us, dependency order os
pub record ReadSet (ws : List ℕ) (z : TableSet) (n a c : ℕ) (ps us os : List ℕ) : Type 0 where
  pub reads : read_set ws ≡ ok z
  pub typed : TypedSet ws z n a c ps us
  pub acyclic : no_cycle z ≡ ok tt
  pub order_is : take n os ≡ order z
  pub order_long : length os ≡ Max.max_variables

-- x holds the index of the set that the words say
abbrev pub Opens : List ℕ → Opened → Type 0
Opens ws x = (z : TableSet) × ReadSet ws z x.extent.variables x.extent.assertions x.extent.states x.places x.weights x.order

-- why a set is not read: the number of the refusal, and what it carries
unfoldable pub unread_is : Fault → ℕ × List ℕ
unread_is (Unread f) = (refusal f, carried f ∷ [])
unread_is (Cycle c) = (9, c.variable ∷ c.length ∷ [])

unfoldable pub SetAs : List ℕ → Result Opened Fault → Type 0
SetAs ws (Ok x) = Opens ws x
SetAs ws (Err (Unread f)) = (read_set ws ≡ refuse (refusal f) (carried f ∷ [])) × (mem (refusal f) typed_numbers ≡ true)
SetAs ws (Err (Cycle c)) = read_set ws ≡ refuse 9 (c.variable ∷ c.length ∷ [])
