-- Which words of a set are a table: those that reading it took. The places are the readers' own.
use Rattle.std.specs.Prelude.{ℕ, ◌-◌, ◌≤◌, ◌<◌, ◌≡◌, false, List, [], ◌∷◌, ◌++◌, length, take, drop}
use Rattle.word.specs.Fields as W
use Rattle.word.specs.Limits as Max
use Rattle.meaning.specs.Answers.{fine}
use Rattle.meaning.specs.Syntax.{Variable, Table, TableSet}
use Rattle.meaning.specs.Lookup.{defined_by}
use Rattle.meaning.specs.Reading.{word, read_variables, read_table}

module _ (ws : List ℕ) where
  -- Tables read one after another: the first at place i, each other where reading the one before it ended, and the last ended at k. (false and
  -- false: no table of its variable was read before, and the table before is of no higher one.)
  pub data Follow (vs : List Variable) : ℕ → List Table → ℕ → Type 0 where
    nothing : {i : ℕ} → Follow vs i [] i
    more : {i j k : ℕ} {t : Table} {ts : List Table} → read_table ws vs i false false ≡ fine (t, j) → Follow vs j ts k → Follow vs i (t ∷ ts) k

  -- Reading the words as z took those from a up to b for the table of v: its variables' words end before `first`, and from there on table
  -- follows table up to `last`.
  pub record Took (z : TableSet) (v a b : ℕ) : Type 0 where
    pub first : ℕ
    pub variables : read_variables ws Max.max_variables 0 [] ≡ fine (z.variables, first)
    pub before : List Table
    pub table : Table
    pub after : List Table
    pub all : z.tables ≡ before ++ (table ∷ after)
    pub its : defined_by table ≡ v
    pub sooner : Follow z.variables first before a
    pub here : read_table ws z.variables a false false ≡ fine (table, b)
    pub last : ℕ
    pub later : Follow z.variables b after last

  -- what stands at the place after a table: "the next table or assertion, or .. the end"
  pub data EndsAt : ℕ → Type 0 where
    at_next_table : {b : ℕ} → W.kind (word ws b) ≡ 2 → EndsAt b
    first_assertion : {b : ℕ} → W.kind (word ws b) ≡ 10 → EndsAt b
    end_of_words : EndsAt (length ws)

  -- The part is the table of v: "from its table word to before the next table or assertion, or to the end". These are the words that
  -- reading the table took, and no others.
  pub record TablePart (z : TableSet) (v : ℕ) (part : List ℕ) : Type 0 where
    pub from : ℕ
    pub to : ℕ
    pub rising : from < to
    pub within : to ≤ length ws
    pub is_part : part ≡ take (to - from) (drop from ws)
    pub took : Took z v from to
    pub table_word : (W.kind (word ws from) ≡ 2) × (W.defined (word ws from) ≡ v)
    pub between : (k : ℕ) → from < k → k < to → (W.kind (word ws k) ≡ 2 → ⊥) × (W.kind (word ws k) ≡ 10 → ⊥)
    pub ends : EndsAt to
