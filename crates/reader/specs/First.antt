-- The word that a table, a row, an assertion or a formula begins with.
use Rattle.std.specs.Prelude.{ℕ, List, ltb, Result, Ok, Err}
use Rattle.meaning.specs.Answers.{Parse, fine, stop, ◌>>>◌, expect}
use Rattle.meaning.specs.Reading.{word_at}
use Rattle.reader.specs.declared.faults.Fault.{Fault}
use Rattle.reader.specs.Faults.{refusal, carried}

-- the word at i, of one of the kinds, where `left` more may stand
abbrev pub first_word : (ws kinds : List ℕ) (left i : ℕ) → Parse ℕ
first_word ws kinds left i = word_at ws kinds i >>> λ w. expect (ltb 0 left) 4 i >>> λ _. fine w

unfoldable pub first_said : Result ℕ Fault → Parse ℕ
first_said (Ok w) = fine w
first_said (Err f) = stop (refusal f) (carried f)
