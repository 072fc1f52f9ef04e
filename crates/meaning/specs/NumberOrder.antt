-- Document 02, request 2.7: "Tables shall come in rising number of the variable defined." What the tables of a set that reads are like,
-- and where a set is refused with 21. The places are the readers' own.
use Rattle.std.specs.Prelude.{ℕ, ◌≤◌, ◌<◌, ◌≡◌, true, false, List, [], ◌∷◌, ◌++◌, length}
use Rattle.word.specs.Fields as W
use Rattle.word.specs.Limits as Max
use Rattle.meaning.specs.Answers.{fine}
use Rattle.meaning.specs.Syntax.{Variable, Table}
use Rattle.meaning.specs.Lookup.{defined_by, has_table}
use Rattle.meaning.specs.Reading.{word, fits, table_ok, table_fits, read_variables}
use Rattle.meaning.specs.TableWords.{Follow}

-- each table's variable is higher than that of the table before
abbrev pub Rising : List Table → Type 0
Rising [] = Unit {0}
Rising (t ∷ []) = Unit {0}
Rising (t ∷ u ∷ ts) = (defined_by t < defined_by u) × Rising (u ∷ ts)

-- "21, a table word whose variable is lower than the table before, tested after 5 at that word": the word at i, which comes after tables in
-- rising number. Of its rows nothing is said.
pub record OutOfOrder (ws : List ℕ) (i : ℕ) : Type 0 where
  pub some : 1 ≤ length ws
  pub few : length ws ≤ Max.max_words
  pub variables : List Variable
  pub first : ℕ
  pub variables_read : read_variables ws Max.max_variables 0 [] ≡ fine (variables, first)
  pub sooner : List Table
  pub before : Table
  pub follow : Follow ws variables first (sooner ++ (before ∷ [])) i
  pub rising : Rising (sooner ++ (before ∷ []))
  -- neither 2, 3 nor 5
  pub table_word : fits (2 ∷ []) (word ws i) ≡ true
  pub ranged : table_ok variables (word ws i) ≡ true
  pub suited : table_fits variables (word ws i) ≡ true
  pub untabled : has_table (sooner ++ (before ∷ [])) (W.defined (word ws i)) ≡ false
  pub lower : W.defined (word ws i) < defined_by before
