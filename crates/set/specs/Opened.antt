-- What the index of a set that reads is.
use Rattle.std.specs.Prelude.{◌≡◌, ◌≤◌, length}
use Rattle.word.specs.Limits as Max
use Rattle.meaning.specs.Answers.{ok}
use Rattle.meaning.specs.Syntax.{TableSet}
use Rattle.meaning.specs.Order.{order, no_cycle}
use Rattle.meaning.specs.States.{read_set}
use Rattle.index.specs.declared.variables.Extent.{Extent}
use Rattle.index.specs.declared.variables.Index.{Index}
use Rattle.reader.specs.Typed.{TypedSet}

-- x is the index of the set that its words say, which goes as far as e
pub record IndexOf (x : Index) (e : Extent) : Type 0 where
  pub set : TableSet
  pub reads : read_set x.variables.words.now ≡ ok set
  pub typed : TypedSet x.variables.words.now set x.variables.count e.assertions e.states x.variables.places.now x.weights.now
  pub acyclic : no_cycle set ≡ ok tt
  pub order_is : x.order.now ≡ order set
  pub order_few : length x.order.now ≤ Max.max_variables
