-- The numbers of document 01 and their names: what decoding a number gives.
use Rattle.std.specs.Prelude.{ℕ, ◌≡◌, Bool, ◌&&◌, leb, eqb, Result, IfOk, IfErr, is_ok}
use Rattle.word.specs.declared.kinds.Kind.{Kind}
use Rattle.word.specs.declared.kinds.Kind.TheVariants as K
use Rattle.word.specs.declared.kinds.Class.{Class}
use Rattle.word.specs.declared.kinds.Class.TheVariants as C
use Rattle.word.specs.declared.kinds.TableType.{TableType}
use Rattle.word.specs.declared.kinds.TableType.TheVariants as T
use Rattle.word.specs.declared.kinds.Relation.{Relation}
use Rattle.word.specs.declared.kinds.Relation.TheVariants as R
use Rattle.word.specs.declared.kinds.Change.{Change}
use Rattle.word.specs.declared.kinds.Change.TheVariants as H
use Rattle.word.specs.declared.kinds.AssertionType.{AssertionType}
use Rattle.word.specs.declared.kinds.AssertionType.TheVariants as A
use Rattle.word.specs.declared.kinds.Unnamed.{Unnamed}

-- r is the name that stands for n, or an error with n, where no name does
abbrev pub Names : {A : Type 0} → (A → ℕ) → Bool → ℕ → Result A Unnamed → Type 0
Names number named n r = (is_ok r ≡ named) × IfOk r (λ a. number a ≡ n) × IfErr r (λ e. e.0 ≡ n)

-- ---- what a word is
abbrev pub kind_number : Kind → ℕ
kind_number K.Variable = 1
kind_number K.Table = 2
kind_number K.Row = 3
kind_number K.Test = 4
kind_number K.Not = 5
kind_number K.And = 6
kind_number K.Or = 7
kind_number K.Change = 8
kind_number K.Constant = 9
kind_number K.Assertion = 10
kind_number K.InputEvent = 11

-- ---- the class of a variable: 1 to 4
abbrev pub class_number : Class → ℕ
class_number C.Monitored = 1
class_number C.ModeClass = 2
class_number C.Term = 3
class_number C.Controlled = 4

abbrev pub IsClass : ℕ → Result Class Unnamed → Type 0
IsClass n r = Names class_number (leb 1 n && leb n 4) n r

-- ---- the type of a table: 1 to 3
abbrev pub table_type_number : TableType → ℕ
table_type_number T.Mode = 1
table_type_number T.Event = 2
table_type_number T.Condition = 3

abbrev pub IsTableType : ℕ → Result TableType Unnamed → Type 0
IsTableType n r = Names table_type_number (leb 1 n && leb n 3) n r

-- ---- the relation of a test: 0 or 1
abbrev pub relation_number : Relation → ℕ
relation_number R.Equals = 0
relation_number R.AtMost = 1

abbrev pub IsRelation : ℕ → Result Relation Unnamed → Type 0
IsRelation n r = Names relation_number (leb n 1) n r

-- ---- the sort of a change: 1 or 2
abbrev pub change_number : Change → ℕ
change_number H.BecomesTrue = 1
change_number H.BecomesFalse = 2

abbrev pub IsChange : ℕ → Result Change Unnamed → Type 0
IsChange n r = Names change_number (leb 1 n && leb n 2) n r

-- ---- the type of an assertion: 1
abbrev pub assertion_type_number : AssertionType → ℕ
assertion_type_number A.OfStates = 1

abbrev pub IsAssertionType : ℕ → Result AssertionType Unnamed → Type 0
IsAssertionType n r = Names assertion_type_number (eqb n 1) n r
