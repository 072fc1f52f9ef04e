-- The host's numbers and the program's output, by computation.
use Rattle.std.specs.Prelude.{◌≡◌, refl, List, [], ◌∷◌, ◌++◌, ℕ}
use Rattle.meaning.specs.Host.{host_check_of, host_step_of}
use Rattle.meaning.specs.Program.{program_of, decimal}
use Rattle.meaning.specs.Opened.{meaning}

-- the bytes of words: an input of two values, one that starts at 1, a term, an assertion that input 0 is 1; events that set input 0
abbrev input : List ℕ
input = 0 ∷ 32 ∷ 0 ∷ 17 ∷ []

abbrev input_from_one : List ℕ
input_from_one = 1 ∷ 32 ∷ 0 ∷ 17 ∷ []

abbrev term : List ℕ
term = 0 ∷ 32 ∷ 0 ∷ 19 ∷ []

abbrev assertion : List ℕ
assertion = 0 ∷ 0 ∷ 0 ∷ 161 ∷ 1 ∷ 0 ∷ 0 ∷ 64 ∷ []

abbrev to_0 : List ℕ
to_0 = 0 ∷ 0 ∷ 0 ∷ 176 ∷ []

abbrev to_1 : List ℕ
to_1 = 1 ∷ 0 ∷ 0 ∷ 176 ∷ []

-- PASS 2 2 0
abbrev pass : List ℕ
pass = 80 ∷ 65 ∷ 83 ∷ 83 ∷ 32 ∷ 50 ∷ 32 ∷ 50 ∷ 32 ∷ 48 ∷ 10 ∷ []

-- REFUSE and a blank
abbrev refuses : List ℕ → List ℕ
refuses numbers = 82 ∷ 69 ∷ 70 ∷ 85 ∷ 83 ∷ 69 ∷ 32 ∷ numbers

-- 0 0 1 1, then REFUSE 16 1
abbrev first_done : List ℕ
first_done = 48 ∷ 32 ∷ 48 ∷ 32 ∷ 49 ∷ 32 ∷ 49 ∷ 10 ∷ refuses (49 ∷ 54 ∷ 32 ∷ 49 ∷ 10 ∷ [])

pub record OutputCases : Type 0 where
  -- ---- the host: 0 or the refusal; the state, or 2^31 and the refusal
  pub host_passes : host_check_of input ≡ 0
  pub host_later_words : host_check_of (input ++ assertion) ≡ 13
  pub host_steps : host_step_of input 0 0xB0000001 ≡ 1
  pub host_refuses : host_step_of input 0 0xB0000000 ≡ 2147483664
  -- one byte, two or three beyond whole words
  pub host_one_byte : host_check_of (input ++ (0 ∷ [])) ≡ 1
  pub host_two_bytes : host_check_of (input ++ (0 ∷ 0 ∷ [])) ≡ 1
  pub host_three_bytes : host_check_of (0 ∷ 32 ∷ 0 ∷ []) ≡ 1
  pub host_step_broken : host_step_of (input ++ (0 ∷ [])) 0 0xB0000001 ≡ 2147483649
  -- ---- the program: REFUSE 6 0; a broken last word is one more, REFUSE 2 1
  pub refused : program_of term ≡ refuses (54 ∷ 32 ∷ 48 ∷ 10 ∷ [])
  pub broken_word : program_of (input ++ (0 ∷ [])) ≡ refuses (50 ∷ 32 ∷ 49 ∷ 10 ∷ [])
  -- the lines done, then the refusal; every word after the first event is one, also the word of an input
  pub lines_then_refusal : program_of (input ++ (to_1 ++ to_1)) ≡ pass ++ first_done
  pub other_kind_after : program_of (input ++ (to_1 ++ input)) ≡ pass ++ first_done
  -- a set that check refuses is not run, REFUSE 13 0
  pub not_run : program_of (input ++ (assertion ++ to_1)) ≡ refuses (49 ∷ 51 ∷ 32 ∷ 48 ∷ 10 ∷ [])
  -- the run starts at the initial state: 0 0 0 0
  pub from_the_initial_state : program_of (input_from_one ++ to_0) ≡ pass ++ (48 ∷ 32 ∷ 48 ∷ 32 ∷ 48 ∷ 32 ∷ 48 ∷ 10 ∷ [])
  -- all digits of the highest number of 64 bits
  pub all_digits :
      decimal 18446744073709551615
      ≡ 49 ∷ 56 ∷ 52 ∷ 52 ∷ 54 ∷ 55 ∷ 52 ∷ 52 ∷ 48 ∷ 55 ∷ 51 ∷ 55 ∷ 48 ∷ 57 ∷ 53 ∷ 53 ∷ 49 ∷ 54 ∷ 49 ∷ 53 ∷ []

pub output_cases : OutputCases
unfolding meaning
output_cases = record {
  host_passes = refl;
  host_later_words = refl;
  host_steps = refl;
  host_refuses = refl;
  host_one_byte = refl;
  host_two_bytes = refl;
  host_three_bytes = refl;
  host_step_broken = refl;
  refused = refl;
  broken_word = refl;
  lines_then_refusal = refl;
  other_kind_after = refl;
  not_run = refl;
  from_the_initial_state = refl;
  all_digits = refl;
}
