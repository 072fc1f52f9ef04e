-- What a table word says to the reader of its rows.
use Rattle.std.specs.Prelude.{ℕ, ◌≡◌, true, false, List, Result, Ok, Err}
use Rattle.word.specs.Fields as W
use Rattle.word.specs.Kinds.{table_type_number}
use Rattle.meaning.specs.Syntax.{Variable}
use Rattle.meaning.specs.Reading.{table_ok}
use Rattle.reader.specs.declared.faults.Fault.{Fault}
use Rattle.reader.specs.declared.faults.Fault.TheVariants.{Range}
use Rattle.reader.specs.declared.headings.Heading.{Heading}

-- h says the fields of the table word w
pub record HeadingOf (w : ℕ) (h : Heading) : Type 0 where
  pub type_is : table_type_number h.table_type ≡ W.sort w
  pub variable_is : h.variable ≡ W.defined w
  pub class_is : h.class_read ≡ W.class_read w

-- what the word w at i says, or that its fields are out of range
unfoldable pub HeadingAs : List Variable → ℕ → ℕ → Result Heading Fault → Type 0
HeadingAs vs w i (Ok h) = (table_ok vs w ≡ true) × HeadingOf w h
HeadingAs vs w i (Err f) = (table_ok vs w ≡ false) × (f ≡ Range i)
