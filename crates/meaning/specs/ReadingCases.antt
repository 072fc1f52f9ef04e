-- Which refusal a word gets that is wrong in two ways, every limit from both sides, and which words are a table, by computation.
-- Demand 1 takes the refusals of a word from the readers themselves, so these cases are what tells them from readers that try a word in
-- another order.
use Rattle.std.specs.Prelude.{ℕ, zero, suc, ◌≡◌, refl, List, [], ◌∷◌, ◌++◌, replicate}
use Rattle.meaning.specs.Answers.{ok, refuse}
use Rattle.meaning.specs.Run.{run_of}
use Rattle.meaning.specs.Calls.{start_of, rows_of}
use Rattle.meaning.specs.Opened.{meaning}

-- n times the same words
abbrev times : ℕ → List ℕ → List ℕ
times zero ws = []
times (suc n) ws = ws ++ times n ws

abbrev input : List ℕ
input = 0x11002000 ∷ []

-- a term of size 2 and its condition table, up to before the rows; a row that always gives 0
abbrev term : List ℕ
term = 0x13002000 ∷ 0x2300FF00 ∷ []

abbrev row : List ℕ
row = 0x3FF00000 ∷ 0x90000001 ∷ []

-- an input, an output and its event table, up to before the formula of its first row
abbrev event : List ℕ
event = 0x11002000 ∷ 0x14002000 ∷ 0x2201FF00 ∷ 0x3FF00000 ∷ []

-- the same event table whole, with words of every kind that a table has: @T(not Input=0 and true) WHEN Input=0 or false
abbrev event_table_words : List ℕ
event_table_words =
    0x2201FF00 ∷ 0x3FF00001 ∷ 0x81000000 ∷ 0x60000000 ∷ 0x50000000 ∷ 0x40000000 ∷ 0x90000001 ∷ 0x70000000 ∷ 0x40000000 ∷ 0x90000000 ∷ []

abbrev assertion : List ℕ
assertion = 0xA1000000 ∷ 0x90000001 ∷ []

pub record ReadingCases : Type 0 where
  -- ---- words wrong in two ways: 2, then 4, then 3, then 5
  -- a 33rd variable, of size 1
  pub variable_too_many : start_of (times 32 input ++ (0x11001000 ∷ [])) ≡ refuse 4 (32 ∷ [])
  -- a 65th row, of value 2
  pub row_too_many : start_of (term ++ (times 64 row ++ (0x3FF00002 ∷ []))) ≡ refuse 4 (130 ∷ [])
  -- level 17, and a bit that no constant has; the same without the bit; a test of no variable there
  pub level_too_many_spare : start_of (0xA1000000 ∷ (replicate 16 0x50000000 ++ (0x90000002 ∷ []))) ≡ refuse 2 (17 ∷ [])
  pub level_too_many : start_of (0xA1000000 ∷ (replicate 16 0x50000000 ++ (0x90000001 ∷ []))) ≡ refuse 4 (17 ∷ [])
  pub level_too_many_range : start_of (0xA1000000 ∷ (replicate 16 0x50000000 ++ (0x40000000 ∷ []))) ≡ refuse 4 (17 ∷ [])
  pub event_level_too_many_spare : start_of (event ++ (replicate 16 0x70000000 ++ (0x90000002 ∷ []))) ≡ refuse 2 (20 ∷ [])
  -- a second table, of type 4; a table of an input that reads class 9
  pub table_no_type : start_of (term ++ (row ++ (0x2400FF00 ∷ []))) ≡ refuse 3 (4 ∷ [])
  pub table_no_class : start_of (input ++ (0x23000900 ∷ [])) ≡ refuse 3 (1 ∷ [])
  -- a 33rd assertion, of type 5
  pub assertion_too_many : start_of (times 32 assertion ++ (0xA5000000 ∷ [])) ≡ refuse 4 (64 ∷ [])
  -- a bit that its kind doesn't have: a second table of type 4; the 65th row; the 33rd assertion, of type 5; a test of no variable; a change
  -- of sort 3
  pub table_spare : start_of (term ++ (row ++ (0x2400FF01 ∷ []))) ≡ refuse 2 (4 ∷ [])
  pub row_too_many_spare : start_of (term ++ (times 64 row ++ (0x3FF01002 ∷ []))) ≡ refuse 2 (130 ∷ [])
  pub assertion_too_many_spare : start_of (times 32 assertion ++ (0xA5000001 ∷ [])) ≡ refuse 2 (64 ∷ [])
  pub test_spare : start_of (0xA1000000 ∷ 0x40008000 ∷ []) ≡ refuse 2 (1 ∷ [])
  pub change_spare : start_of (event ++ (0x83000001 ∷ [])) ≡ refuse 2 (4 ∷ [])
  -- a table without a row, at the end and before an assertion
  pub no_row : start_of term ≡ refuse 2 (2 ∷ [])
  pub no_row_before_assertion : start_of (term ++ assertion) ≡ refuse 2 (2 ∷ [])
  -- a row of value 2 and an early end: the row comes first
  pub row_before_formula : start_of (term ++ (0x3FF00002 ∷ [])) ≡ refuse 3 (2 ∷ [])
  -- ---- events
  -- true is no event; @T under 15 "or" is level 16, and what follows it level 17; under 14 "or" all is well
  pub true_as_event : start_of (event ++ (0x90000001 ∷ [])) ≡ refuse 3 (4 ∷ [])
  pub below_a_change : start_of (event ++ (replicate 15 0x70000000 ++ (0x81000000 ∷ 0x90000001 ∷ []))) ≡ refuse 4 (20 ∷ [])
  pub change_deep_enough :
      start_of (event ++ (replicate 14 0x70000000 ++ (0x81000000 ∷ 0x90000001 ∷ 0x90000001 ∷ replicate 14 0x90000000))) ≡ ok 0
  -- ---- limits from both sides
  -- word 0 has no kind: with 4,096 of them the first is refused, with one more their number
  pub words_most : start_of (replicate 4096 0) ≡ refuse 2 (0 ∷ [])
  pub words_too_many : start_of (replicate 4097 0) ≡ refuse 1 (4097 ∷ [])
  -- 32 inputs read: their states are too many, not they
  pub variables_most : start_of (times 32 input) ≡ refuse 8 (16 ∷ [])
  pub variables_too_many : start_of (times 33 input) ≡ refuse 4 (32 ∷ [])
  pub rows_most : start_of (term ++ times 64 row) ≡ ok 0
  pub rows_too_many : start_of (term ++ times 65 row) ≡ refuse 4 (130 ∷ [])
  pub assertions_most : start_of (times 32 assertion) ≡ ok 0
  pub assertions_too_many : start_of (times 33 assertion) ≡ refuse 4 (64 ∷ [])
  -- levels, in an assertion, in a row of conditions, in a row of events
  pub levels_most : start_of (0xA1000000 ∷ (replicate 15 0x50000000 ++ (0x90000001 ∷ []))) ≡ ok 0
  pub row_levels_most : start_of (term ++ (0x3FF00000 ∷ (replicate 15 0x50000000 ++ (0x90000001 ∷ [])))) ≡ ok 0
  pub row_levels_too_many : start_of (term ++ (0x3FF00000 ∷ (replicate 16 0x50000000 ++ (0x90000001 ∷ [])))) ≡ refuse 4 (19 ∷ [])
  pub event_levels_most : start_of (event ++ (replicate 15 0x70000000 ++ replicate 16 0x90000000)) ≡ ok 0
  pub event_levels_too_many : start_of (event ++ (replicate 16 0x70000000 ++ (0x90000000 ∷ []))) ≡ refuse 4 (20 ∷ [])
  pub states_most : start_of (times 16 input) ≡ ok 0
  pub states_too_many : start_of (times 17 input) ≡ refuse 8 (16 ∷ [])
  pub size_least : start_of (0x11002001 ∷ []) ≡ ok 1
  pub size_too_small : start_of (0x11001000 ∷ []) ≡ refuse 3 (0 ∷ [])
  pub size_most : start_of (0x111000FF ∷ []) ≡ ok 255
  pub size_too_big : start_of (0x11101000 ∷ []) ≡ refuse 3 (0 ∷ [])
  pub initial_too_big : start_of (0x11002002 ∷ []) ≡ refuse 3 (0 ∷ [])
  pub modes_most : start_of (0x120FF000 ∷ 0x21000000 ∷ 0x3FE00000 ∷ 0x90000000 ∷ []) ≡ ok 0
  pub modes_too_many : start_of (0x12100000 ∷ 0x21000000 ∷ 0x3FE00000 ∷ 0x90000000 ∷ []) ≡ refuse 3 (0 ∷ [])
  pub mode_too_big : start_of (0x12003000 ∷ 0x21000000 ∷ 0x30300000 ∷ 0x90000000 ∷ []) ≡ refuse 3 (2 ∷ [])
  pub every_mode : start_of (0x12003000 ∷ 0x21000000 ∷ 0x3FF00000 ∷ 0x90000000 ∷ []) ≡ ok 0
  pub test_value_too_big : start_of (input ++ (0xA1000000 ∷ 0x40000002 ∷ [])) ≡ refuse 3 (2 ∷ [])
  pub test_value_most : start_of (input ++ (0xA1000000 ∷ 0x40000001 ∷ [])) ≡ ok 0
  pub row_value_too_big : start_of (term ++ (0x3FF00002 ∷ 0x90000001 ∷ [])) ≡ refuse 3 (2 ∷ [])
  -- word 0 is no event either: of 4,096 the first is refused
  pub events_most : (run_of input 0 (replicate 4096 0) (replicate 4096 9) 0).answer ≡ refuse 16 (0 ∷ [])
  pub events_too_many : (run_of input 0 (replicate 4097 0) (replicate 4097 9) 0).answer ≡ refuse 17 (4097 ∷ [])
  -- ---- the words of a table: before the end, before an assertion, before another table
  pub rows_to_the_end : rows_of (0x11002000 ∷ 0x14002000 ∷ event_table_words) 1 ≡ event_table_words
  pub rows_to_an_assertion : rows_of (0x11002000 ∷ 0x14002000 ∷ (event_table_words ++ assertion)) 1 ≡ event_table_words
  pub rows_to_a_table : rows_of (0x11002000 ∷ 0x14002000 ∷ 0x13002000 ∷ (event_table_words ++ (0x2302FF00 ∷ row))) 1 ≡ event_table_words
  pub rows_of_the_second : rows_of (0x11002000 ∷ 0x14002000 ∷ 0x13002000 ∷ (event_table_words ++ (0x2302FF00 ∷ row))) 2 ≡ 0x2302FF00 ∷ row
  pub rows_of_an_input : rows_of (0x11002000 ∷ 0x14002000 ∷ event_table_words) 0 ≡ []

pub reading_cases : ReadingCases
unfolding meaning
reading_cases = record {
  variable_too_many = refl;
  row_too_many = refl;
  level_too_many_spare = refl;
  level_too_many = refl;
  level_too_many_range = refl;
  event_level_too_many_spare = refl;
  table_no_type = refl;
  table_no_class = refl;
  assertion_too_many = refl;
  table_spare = refl;
  row_too_many_spare = refl;
  assertion_too_many_spare = refl;
  test_spare = refl;
  change_spare = refl;
  no_row = refl;
  no_row_before_assertion = refl;
  row_before_formula = refl;
  true_as_event = refl;
  below_a_change = refl;
  change_deep_enough = refl;
  words_most = refl;
  words_too_many = refl;
  variables_most = refl;
  variables_too_many = refl;
  rows_most = refl;
  rows_too_many = refl;
  assertions_most = refl;
  assertions_too_many = refl;
  levels_most = refl;
  row_levels_most = refl;
  row_levels_too_many = refl;
  event_levels_most = refl;
  event_levels_too_many = refl;
  states_most = refl;
  states_too_many = refl;
  size_least = refl;
  size_too_small = refl;
  size_most = refl;
  size_too_big = refl;
  initial_too_big = refl;
  modes_most = refl;
  modes_too_many = refl;
  mode_too_big = refl;
  every_mode = refl;
  test_value_too_big = refl;
  test_value_most = refl;
  row_value_too_big = refl;
  events_most = refl;
  events_too_many = refl;
  rows_to_the_end = refl;
  rows_to_an_assertion = refl;
  rows_to_a_table = refl;
  rows_of_the_second = refl;
  rows_of_an_input = refl;
}
