-- What code that keeps places alone says of tables.
use Rattle.std.specs.Prelude.{ℕ, zero, suc, Bool, not, List, eqb, ltb, get_or, set}
use Rattle.word.specs.Fields as W
use Rattle.meaning.specs.Answers.{fine, stop, ◌>>>◌, if◌give◌else◌}
use Rattle.meaning.specs.Syntax.{Variable, Table}
use Rattle.meaning.specs.Reading.{Read, word, read_table}

-- has v a table, by the places so far?
unfoldable pub is_placed : List ℕ → ℕ → Bool
is_placed ps v = not (eqb (get_or ps v 0) 0)

module _ (ws : List ℕ) (vs : List Variable) where
  -- the table at i behind those whose places are ps; `before` is the variable of the last of them, or 0
  unfoldable pub next_place : ℕ → List ℕ → ℕ → Read Table
  next_place i ps before = read_table ws vs i (is_placed ps (W.defined (word ws i))) (ltb (W.defined (word ws i)) before)

  -- the places of the tables from i on, by variable: the reading of tables, with their places kept and not their rows
  unfoldable pub read_places : ℕ → ℕ → List ℕ → ℕ → Read (List ℕ)
  read_places zero i ps before =
      if eqb (W.kind (word ws i)) 2 give (λ _. next_place i ps before >>> λ _. stop 5 i) else (λ _. fine (ps, i))
  read_places (suc left) i ps before =
      if eqb (W.kind (word ws i)) 2
      give (λ _. next_place i ps before >>> λ r. read_places left r.1 (set ps (W.defined (word ws i)) (suc i)) (W.defined (word ws i)))
      else (λ _. fine (ps, i))
