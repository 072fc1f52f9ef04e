-- Where the part of a table starts and ends.
use Rattle.std.specs.Prelude.{ℕ, suc, ◌+◌, List, length}
use Rattle.meaning.specs.Searches.{least, or_else}
use Rattle.meaning.specs.Calls.{is_table_of, part_length}

unfoldable pub start_at : List ℕ → ℕ → ℕ
start_at ws v = or_else (least (is_table_of ws v) (length ws)) (length ws)

unfoldable pub end_at : List ℕ → ℕ → ℕ
end_at ws i = suc i + part_length ws i
