-- One word at a time, by computation: which kinds each place of a set allows, which bits each kind leaves spare, and every field just
-- inside and just outside its range.
use Rattle.std.specs.Prelude.{ℕ, zero, suc, ◌+◌, ◌*◌, ◌^◌, ◌≡◌, refl, Bool, true, false, List, [], ◌∷◌, ◌++◌}
use Rattle.word.specs.Fields as W
use Rattle.meaning.specs.Answers.{Outcome, ok, refuse}
use Rattle.meaning.specs.Searches.{list_of}
use Rattle.meaning.specs.Calls.{start_of}
use Rattle.meaning.specs.Opened.{meaning}

-- what start says of the words with one more behind them, for the kinds from k on: its other bits are zero
abbrev followed : List ℕ → ℕ → ℕ → List (Outcome ℕ)
followed ws k zero = []
followed ws k (suc n) = start_of (ws ++ (k * 2 ^ 28 ∷ [])) ∷ followed ws (suc k) n

abbrev kinds : List ℕ → List (Outcome ℕ)
kinds ws = followed ws 0 16

-- refused at word i: for its kind, or an early end (2); for a field (3); for the table (5)
abbrev kind : ℕ → Outcome ℕ
kind i = refuse 2 (i ∷ [])

abbrev field : ℕ → Outcome ℕ
field i = refuse 3 (i ∷ [])

abbrev table : ℕ → Outcome ℕ
table i = refuse 5 (i ∷ [])

-- the bits below n, lowest first, that a word of kind k may not have
abbrev add_bit : Bool → ℕ → List ℕ → List ℕ
add_bit true b bs = bs
add_bit false b bs = bs ++ (b ∷ [])

abbrev spare : ℕ → ℕ → List ℕ
spare k zero = []
spare k (suc n) = add_bit (W.spare_clear (k * 2 ^ 28 + 2 ^ n)) n (spare k n)

-- n bits from `low` on
abbrev bits : ℕ → ℕ → List ℕ
bits low n = list_of (λ i. low + i) n

pub record WordCases : Type 0 where
  -- ---- kinds, from 0 to 15
  -- the first word: a variable, a table or an assertion
  pub first : kinds []
      ≡ kind 0 ∷ field 0 ∷ field 0 ∷ kind 0 ∷ kind 0 ∷ kind 0 ∷ kind 0 ∷ kind 0 ∷ kind 0 ∷ kind 0 ∷ field 0 ∷ kind 0 ∷ kind 0 ∷ kind 0 ∷ kind 0
      ∷ kind 0 ∷ []
  -- after a variable: the same
  pub after_variable : kinds (0x11002000 ∷ [])
      ≡ kind 1 ∷ field 1 ∷ field 1 ∷ kind 1 ∷ kind 1 ∷ kind 1 ∷ kind 1 ∷ kind 1 ∷ kind 1 ∷ kind 1 ∷ field 1 ∷ kind 1 ∷ kind 1 ∷ kind 1 ∷ kind 1
      ∷ kind 1 ∷ []
  -- after a table word: a row, whose mode 0 is none here
  pub after_table : kinds (0x13002000 ∷ 0x2300FF00 ∷ [])
      ≡ kind 2 ∷ kind 2 ∷ kind 2 ∷ field 2 ∷ kind 2 ∷ kind 2 ∷ kind 2 ∷ kind 2 ∷ kind 2 ∷ kind 2 ∷ kind 2 ∷ kind 2 ∷ kind 2 ∷ kind 2 ∷ kind 2
      ∷ kind 2 ∷ []
  -- a condition: a test, "not", "and", "or" or a constant; those three are followed by an early end
  pub condition : kinds (0x11002000 ∷ 0xA1000000 ∷ [])
      ≡ kind 2 ∷ kind 2 ∷ kind 2 ∷ kind 2 ∷ ok 0 ∷ kind 3 ∷ kind 3 ∷ kind 3 ∷ kind 2 ∷ ok 0 ∷ kind 2 ∷ kind 2 ∷ kind 2 ∷ kind 2 ∷ kind 2 ∷ kind 2
      ∷ []
  -- an event: "or", a change (of sort 0) or false
  pub event : kinds (0x11002000 ∷ 0x14002000 ∷ 0x2201FF00 ∷ 0x3FF00000 ∷ [])
      ≡ kind 4 ∷ kind 4 ∷ kind 4 ∷ kind 4 ∷ kind 4 ∷ kind 4 ∷ kind 4 ∷ kind 5 ∷ field 4 ∷ ok 0 ∷ kind 4 ∷ kind 4 ∷ kind 4 ∷ kind 4 ∷ kind 4
      ∷ kind 4 ∷ []
  -- after a row and its formula: a table, a row or an assertion
  pub after_row : kinds (0x13002000 ∷ 0x2300FF00 ∷ 0x3FF00000 ∷ 0x90000001 ∷ [])
      ≡ kind 4 ∷ kind 4 ∷ field 4 ∷ field 4 ∷ kind 4 ∷ kind 4 ∷ kind 4 ∷ kind 4 ∷ kind 4 ∷ kind 4 ∷ field 4 ∷ kind 4 ∷ kind 4 ∷ kind 4 ∷ kind 4
      ∷ kind 4 ∷ []
  -- after an assertion: another
  pub after_assertion : kinds (0xA1000000 ∷ 0x90000001 ∷ [])
      ≡ kind 2 ∷ kind 2 ∷ kind 2 ∷ kind 2 ∷ kind 2 ∷ kind 2 ∷ kind 2 ∷ kind 2 ∷ kind 2 ∷ kind 2 ∷ field 2 ∷ kind 2 ∷ kind 2 ∷ kind 2 ∷ kind 2
      ∷ kind 2 ∷ []
  -- ---- "Bits not named are zero."
  pub variable_bits : spare 1 28 ≡ []
  pub table_bits : spare 2 28 ≡ bits 0 8
  pub row_bits : spare 3 28 ≡ bits 8 12
  pub test_bits : spare 4 28 ≡ bits 8 8
  pub not_bits : spare 5 28 ≡ bits 0 28
  pub and_bits : spare 6 28 ≡ bits 0 28
  pub or_bits : spare 7 28 ≡ bits 0 28
  pub change_bits : spare 8 28 ≡ bits 0 24
  pub constant_bits : spare 9 28 ≡ bits 1 27
  pub assertion_bits : spare 10 28 ≡ bits 0 24
  pub event_bits : spare 11 28 ≡ bits 8 12
  -- ---- fields out of range. A variable's class; a mode class, a term and a controlled variable then lack a table
  pub class_0 : start_of (0x10002000 ∷ []) ≡ field 0
  pub class_2 : start_of (0x12002000 ∷ []) ≡ refuse 6 (0 ∷ [])
  pub class_4 : start_of (0x14002000 ∷ []) ≡ refuse 6 (0 ∷ [])
  pub class_5 : start_of (0x15002000 ∷ []) ≡ field 0
  pub class_9 : start_of (0x19002000 ∷ []) ≡ field 0
  -- all bits of a field count: the highest of a size, of an initial value, of the variable of a table and of a test, of a change
  pub size_high : start_of (0x11802000 ∷ []) ≡ field 0
  pub initial_high : start_of (0x11100800 ∷ []) ≡ field 0
  pub defined_high : start_of (0x13002000 ∷ 0x2380FF00 ∷ []) ≡ field 1
  pub test_high : start_of (0x11002000 ∷ 0xA1000000 ∷ 0x48000000 ∷ []) ≡ field 2
  pub change_high : start_of (0x11002000 ∷ 0x14002000 ∷ 0x2201FF00 ∷ 0x3FF00000 ∷ 0x89000000 ∷ []) ≡ field 4
  -- a term of 256 values, and a row that gives the last of them
  pub term_256 : start_of (0x13100000 ∷ 0x2300FF00 ∷ 0x3FF000FF ∷ 0x90000001 ∷ []) ≡ ok 0
  -- a table's type, the variable defined, the class read
  pub type_0 : start_of (0x13002000 ∷ 0x2000FF00 ∷ []) ≡ field 1
  pub type_4 : start_of (0x13002000 ∷ 0x2400FF00 ∷ []) ≡ field 1
  pub no_such_variable : start_of (0x13002000 ∷ 0x2301FF00 ∷ []) ≡ field 1
  pub no_such_class : start_of (0x13002000 ∷ 0x23000100 ∷ []) ≡ field 1
  pub class_254 : start_of (0x13002000 ∷ 0x2300FE00 ∷ []) ≡ field 1
  -- a row's mode in a table without a class; a change; an assertion's type; a test's variable and relation
  pub mode_without_class : start_of (0x13002000 ∷ 0x2300FF00 ∷ 0x3FE00000 ∷ []) ≡ field 2
  pub change_3 : start_of (0x11002000 ∷ 0x14002000 ∷ 0x2201FF00 ∷ 0x3FF00000 ∷ 0x83000000 ∷ []) ≡ field 4
  pub assertion_2 : start_of (0xA2000000 ∷ []) ≡ field 0
  pub test_of_no_variable : start_of (0x11002000 ∷ 0xA1000000 ∷ 0x40100000 ∷ []) ≡ field 2
  pub test_2 : start_of (0x11002000 ∷ 0xA1000000 ∷ 0x40020000 ∷ []) ≡ field 2
  -- ---- tables that don't fit: of an input; a second one; of a mode class by events or conditions; of a term by modes
  pub of_an_input : start_of (0x11002000 ∷ 0x2200FF00 ∷ []) ≡ table 1
  pub second : start_of (0x13002000 ∷ 0x2300FF00 ∷ 0x3FF00000 ∷ 0x90000001 ∷ 0x2300FF00 ∷ []) ≡ table 4
  pub class_by_events : start_of (0x12002000 ∷ 0x22000000 ∷ []) ≡ table 1
  pub class_by_conditions : start_of (0x12002000 ∷ 0x23000000 ∷ []) ≡ table 1
  pub term_by_modes : start_of (0x13002000 ∷ 0x21000000 ∷ []) ≡ table 1
  -- a mode class that reads none or another; a term that reads an input
  pub class_reads_none : start_of (0x12002000 ∷ 0x2100FF00 ∷ []) ≡ table 1
  pub class_reads_another : start_of (0x12002000 ∷ 0x12002000 ∷ 0x21000100 ∷ []) ≡ table 2
  pub reads_an_input : start_of (0x11002000 ∷ 0x13002000 ∷ 0x23010000 ∷ []) ≡ table 2

pub word_cases : WordCases
unfolding meaning
word_cases = record {
  first = refl;
  after_variable = refl;
  after_table = refl;
  condition = refl;
  event = refl;
  after_row = refl;
  after_assertion = refl;
  variable_bits = refl;
  table_bits = refl;
  row_bits = refl;
  test_bits = refl;
  not_bits = refl;
  and_bits = refl;
  or_bits = refl;
  change_bits = refl;
  constant_bits = refl;
  assertion_bits = refl;
  event_bits = refl;
  class_0 = refl;
  class_2 = refl;
  class_4 = refl;
  class_5 = refl;
  class_9 = refl;
  size_high = refl;
  initial_high = refl;
  defined_high = refl;
  test_high = refl;
  change_high = refl;
  term_256 = refl;
  type_0 = refl;
  type_4 = refl;
  no_such_variable = refl;
  no_such_class = refl;
  class_254 = refl;
  mode_without_class = refl;
  change_3 = refl;
  assertion_2 = refl;
  test_of_no_variable = refl;
  test_2 = refl;
  of_an_input = refl;
  second = refl;
  class_by_events = refl;
  class_by_conditions = refl;
  term_by_modes = refl;
  class_reads_none = refl;
  class_reads_another = refl;
  reads_an_input = refl;
}
