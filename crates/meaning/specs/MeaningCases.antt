-- Formulas, rows, what is read, the order, states and counts, by computation. The relations of the demands judge formulas and find what is
-- read by the same definitions as the calls do, so these cases are what tells them from likely wrong ones.
use Rattle.std.specs.Prelude.{◌≡◌, refl, List, [], ◌∷◌, ℕ}
use Rattle.meaning.specs.Answers.{ok, refuse}
use Rattle.meaning.specs.Check.{check_of}
use Rattle.meaning.specs.Steps.{step_of}
use Rattle.meaning.specs.Calls.{start_of}
use Rattle.meaning.specs.Opened.{meaning}
use Rattle.meaning.specs.SetA.{set_a}

-- an input and a mode class of two modes, with one row from mode 0 to mode 1 whose formula follows; with a row for every mode
abbrev moved : List ℕ → List ℕ
moved f = 0x11002000 ∷ 0x12002000 ∷ 0x21010100 ∷ 0x30000001 ∷ f

abbrev moved_always : List ℕ → List ℕ
moved_always f = 0x11002000 ∷ 0x12002000 ∷ 0x21010100 ∷ 0x3FF00001 ∷ f

-- the same with a second input before the mode class
abbrev moved_by_two : List ℕ → List ℕ
moved_by_two f = 0x11002000 ∷ 0x11002000 ∷ 0x12002000 ∷ 0x21020200 ∷ 0x30000001 ∷ f

-- an input and a term that an event of it turns, WHEN the term is 0: the change word is open
abbrev tests_itself : ℕ → List ℕ
tests_itself change = 0x11002000 ∷ 0x13002000 ∷ 0x2201FF00 ∷ 0x3FF00001 ∷ change ∷ 0x40000001 ∷ 0x40100000 ∷ []

-- three terms, each with one condition row that gives 0 under the test or constant given
abbrev terms : ℕ → ℕ → ℕ → List ℕ
terms f g h =
    0x13002000 ∷ 0x13002000 ∷ 0x13002000 ∷ 0x2300FF00 ∷ 0x3FF00000 ∷ f ∷ 0x2301FF00 ∷ 0x3FF00000 ∷ g ∷ 0x2302FF00 ∷ 0x3FF00000 ∷ h ∷ []

abbrev PassesWith : List ℕ → ℕ → ℕ → ℕ → Type 0
PassesWith ws a b c = check_of ws ≡ ok (record { states = a; steps = b; assertions = c })

pub record MeaningCases : Type 0 where
  -- ---- conditions
  -- at most 1: true of 0 and 1, broken by 2
  pub at_most : check_of (0x11003000 ∷ 0xA1000000 ∷ 0x40010001 ∷ []) ≡ refuse 14 (0 ∷ 0 ∷ 0 ∷ 2 ∷ [])
  pub and_false : check_of (0xA1000000 ∷ 0x60000000 ∷ 0x90000001 ∷ 0x90000000 ∷ []) ≡ refuse 13 (0 ∷ [])
  pub and_true : PassesWith (0xA1000000 ∷ 0x60000000 ∷ 0x90000001 ∷ 0x90000001 ∷ []) 1 0 1
  pub or_true : PassesWith (0xA1000000 ∷ 0x70000000 ∷ 0x90000000 ∷ 0x90000001 ∷ []) 1 0 1
  pub not_true : check_of (0xA1000000 ∷ 0x50000000 ∷ 0x90000001 ∷ []) ≡ refuse 13 (0 ∷ [])
  -- ---- events
  -- one of two is enough; false never happens
  pub or_event : step_of (moved (0x70000000 ∷ 0x81000000 ∷ 0x40000001 ∷ 0x90000001 ∷ 0x90000000 ∷ [])) 0 0xB0000001 ≡ ok 3
  pub never_happens : step_of (moved (0x90000000 ∷ [])) 0 0xB0000001 ≡ ok 1
  -- @F of a condition that was false before does not happen; its WHEN is judged before the step
  pub already_false : step_of (moved_by_two (0x82000000 ∷ 0x40000001 ∷ 0x90000001 ∷ [])) 0 0xB0100001 ≡ ok 2
  pub when_before : step_of (moved (0x82000000 ∷ 0x40000001 ∷ 0x40000001 ∷ [])) 1 0xB0000000 ≡ ok 2
  -- ---- rows
  -- mode 255 is every mode, also where there is no class
  pub every_mode : step_of (moved_always (0x81000000 ∷ 0x40000001 ∷ 0x90000001 ∷ [])) 0 0xB0000001 ≡ ok 3
  pub no_class : PassesWith (0x13002000 ∷ 0x2300FF00 ∷ 0x3FF00000 ∷ 0x90000001 ∷ []) 1 0 0
  -- ---- event words
  -- a bit that it does not name, the lowest and the highest; a mode class
  pub event_low_bit : step_of (0x11002000 ∷ []) 0 0xB0000101 ≡ refuse 16 (0 ∷ [])
  pub event_high_bit : step_of (0x11002000 ∷ []) 0 0xB0080001 ≡ refuse 16 (0 ∷ [])
  pub event_of_a_class : step_of set_a 0 0xB0200001 ≡ refuse 16 (0 ∷ [])
  -- ---- what is read
  -- a term may test itself in WHEN
  pub when_not_read : start_of (tests_itself 0x81000000) ≡ ok 0
  pub when_not_read_false : start_of (tests_itself 0x82000000) ≡ ok 0
  -- a table of type 2 does not read its class: here the mode class reads the term
  pub class_of_events_not_read :
      start_of (0x11002000 ∷ 0x12002000 ∷ 0x13002000 ∷ 0x21010100 ∷ 0x30000001 ∷ 0x81000000 ∷ 0x40200001 ∷ 0x90000001 ∷
      (0x22020100 ∷ 0x30000001 ∷ 0x81000000 ∷ 0x40000001 ∷ 0x90000001 ∷ [])) ≡ ok 0
  -- one of type 3 does, whatever its rows' modes; and two variables that read each other are a cycle of two
  pub class_of_conditions_read :
      start_of (0x12002000 ∷ 0x13002000 ∷ 0x21000000 ∷ 0x3FF00001 ∷ 0x81000000 ∷ 0x40100001 ∷ 0x90000001 ∷
      (0x23010000 ∷ 0x3FF00000 ∷ 0x90000001 ∷ [])) ≡ refuse 9 (0 ∷ 2 ∷ [])
  -- 0 reads 1, 1 reads 2 and 2 reads 0: 32 moves from 0 lead to 2
  pub cycle_of_three : start_of (terms 0x40100000 0x40200000 0x40000000) ≡ refuse 9 (2 ∷ 3 ∷ [])
  -- ---- the order
  -- 0 reads 1, so 1 is taken first, then 0 before 2: the first gap is that of 0
  pub lowest_first : check_of (terms 0x40100001 0x90000001 0x90000000) ≡ refuse 10 (0 ∷ 0 ∷ 0 ∷ [])
  -- ---- states and counts
  -- a mode class starts at its initial value; the input before it weighs less
  pub initial_mode : start_of (0x12003002 ∷ 0x21000000 ∷ 0x3FF00000 ∷ 0x90000000 ∷ []) ≡ ok 2
  pub weights : start_of (0x11003001 ∷ 0x12003002 ∷ 0x21010100 ∷ 0x3FF00000 ∷ 0x90000000 ∷ []) ≡ ok 7
  -- two other values for each of three
  pub steps_counted : PassesWith (0x11003000 ∷ []) 3 6 0
  -- the second of two assertions
  pub second_assertion : check_of (0xA1000000 ∷ 0x90000001 ∷ 0xA1000000 ∷ 0x90000000 ∷ []) ≡ refuse 13 (1 ∷ [])
  pub both_assertions : PassesWith (0xA1000000 ∷ 0x90000001 ∷ 0xA1000000 ∷ 0x90000001 ∷ []) 1 0 2

pub meaning_cases : MeaningCases
unfolding meaning
meaning_cases = record {
  at_most = refl;
  and_false = refl;
  and_true = refl;
  or_true = refl;
  not_true = refl;
  or_event = refl;
  never_happens = refl;
  already_false = refl;
  when_before = refl;
  every_mode = refl;
  no_class = refl;
  event_low_bit = refl;
  event_high_bit = refl;
  event_of_a_class = refl;
  when_not_read = refl;
  when_not_read_false = refl;
  class_of_events_not_read = refl;
  class_of_conditions_read = refl;
  cycle_of_three = refl;
  lowest_first = refl;
  initial_mode = refl;
  weights = refl;
  steps_counted = refl;
  second_assertion = refl;
  both_assertions = refl;
}
