-- Which sets are refused with 21, and at which word (document 02, request 2.7), by computation. Demand 1 takes the refusals of a word from
-- the readers themselves, so these cases are what tells them from readers that try 21 elsewhere.
use Rattle.std.specs.Prelude.{ℕ, ◌≡◌, refl, List, [], ◌∷◌, ◌++◌}
use Rattle.meaning.specs.Answers.{ok, refuse}
use Rattle.meaning.specs.Check.{check_of}
use Rattle.meaning.specs.Steps.{step_of}
use Rattle.meaning.specs.Run.{run_of}
use Rattle.meaning.specs.Calls.{start_of, values_of, rows_of}
use Rattle.meaning.specs.Opened.{meaning}

-- three terms, or an input and two terms; then the tables
abbrev terms : List ℕ → List ℕ
terms ts = 0x13002000 ∷ 0x13002000 ∷ 0x13002000 ∷ ts

abbrev input_first : List ℕ → List ℕ
input_first ts = 0x11002000 ∷ 0x13002000 ∷ 0x13002000 ∷ ts

-- one row that always gives 0
abbrev row : List ℕ
row = 0x3FF00000 ∷ 0x90000001 ∷ []

-- the table words of variables 0, 1 and 2, and the tables
abbrev word0 : ℕ
word0 = 0x2300FF00

abbrev word1 : ℕ
word1 = 0x2301FF00

abbrev word2 : ℕ
word2 = 0x2302FF00

abbrev table0 : List ℕ
table0 = word0 ∷ row

abbrev table1 : List ℕ
table1 = word1 ∷ row

abbrev table2 : List ℕ
table2 = word2 ∷ row

-- the second office's sheets
abbrev turned : List ℕ
turned = input_first (table2 ++ table1)

pub record NumberOrderCases : Type 0 where
  pub rising : start_of (terms (table0 ++ (table1 ++ table2))) ≡ ok 0
  -- the second table; the third, lower than the second and higher than the first
  pub second : start_of (terms (table1 ++ (table0 ++ table2))) ≡ refuse 21 (6 ∷ [])
  pub third : start_of (terms (table0 ++ (table2 ++ table1))) ≡ refuse 21 (9 ∷ [])
  -- two terms, which document 01 alone lets stand in any order
  pub two_in_order : start_of (0x13002000 ∷ 0x13002000 ∷ (table0 ++ table1)) ≡ ok 0
  pub two_turned : start_of (0x13002000 ∷ 0x13002000 ∷ (table1 ++ table0)) ≡ refuse 21 (5 ∷ [])
  -- ---- 2, 3 and 5 at that word come first: a bit that no table word has; type 4; type 1, which a term doesn't have
  pub spare_first : start_of (terms (table2 ++ (0x2301FF01 ∷ row))) ≡ refuse 2 (6 ∷ [])
  pub range_first : start_of (terms (table2 ++ (0x2401FF00 ∷ row))) ≡ refuse 3 (6 ∷ [])
  pub type_first : start_of (terms (table2 ++ (0x2101FF00 ∷ row))) ≡ refuse 5 (6 ∷ [])
  -- the same variable again; a lower one that has a table; a lower one that is monitored
  pub again : start_of (terms (table1 ++ table1)) ≡ refuse 5 (6 ∷ [])
  pub lower_again : start_of (terms (table0 ++ (table1 ++ table0))) ≡ refuse 5 (9 ∷ [])
  pub lower_input : start_of (input_first (table1 ++ table0)) ≡ refuse 5 (6 ∷ [])
  -- ---- its rows come after: a row of value 5; no row; and all that follows, here variable 2 without a table
  pub before_its_row : start_of (input_first (table2 ++ (word1 ∷ 0x30000005 ∷ []))) ≡ refuse 21 (6 ∷ [])
  pub before_the_end : start_of (input_first (table2 ++ (word1 ∷ []))) ≡ refuse 21 (6 ∷ [])
  pub before_no_table : start_of (terms (table1 ++ table0)) ≡ refuse 21 (6 ∷ [])
  -- what stands before it comes first: the second row of the table before, of value 5
  pub after_rows_before : start_of (input_first (table2 ++ (0x3FF00005 ∷ (word1 ∷ row)))) ≡ refuse 3 (6 ∷ [])
  -- ---- every call
  pub checked : check_of turned ≡ refuse 21 (6 ∷ [])
  pub stepped : step_of turned 9 0 ≡ refuse 21 (6 ∷ [])
  pub run : run_of turned 9 (0 ∷ []) (7 ∷ []) 3 ≡ record { answer = refuse 21 (6 ∷ []); lent = 7 ∷ [] }
  pub valued : values_of turned 9 0 ≡ refuse 21 (6 ∷ [])
  pub table : rows_of turned 1 ≡ []

pub number_order_cases : NumberOrderCases
unfolding meaning
number_order_cases = record {
  rising = refl;
  second = refl;
  third = refl;
  two_in_order = refl;
  two_turned = refl;
  spare_first = refl;
  range_first = refl;
  type_first = refl;
  again = refl;
  lower_again = refl;
  lower_input = refl;
  before_its_row = refl;
  before_the_end = refl;
  before_no_table = refl;
  after_rows_before = refl;
  checked = refl;
  stepped = refl;
  run = refl;
  valued = refl;
  table = refl;
}
