-- Laws of the word that a table, a row, an assertion or a formula begins with: of the tests, and of what comes after them.
use Rattle.std.specs.Prelude.{◌≡◌, refl, Bool, true, false, not, List, ℕ, ◌≤◌, ltb, length, Ok, Err}
use Rattle.std.proofs.Common.{arith, lt-ltb}
use Rattle.std.proofs.lemmas.Bool.{not-true, not-false}
use Rattle.meaning.specs.Answers.{Parse, fine, stop, ◌>>>◌, expect}
use Rattle.meaning.specs.Searches.{mem}
use Rattle.meaning.specs.Reading.{word, fits, word_at}
use Rattle.reader.specs.declared.faults.Fault.TheVariants.{Kind, Limit}
use Rattle.reader.specs.Faults.{refusal, carried}
use Rattle.reader.specs.First.{first_word, first_said}
use Rattle.reader.proofs.TestLaws.{kind_past}

module _ (ws kinds : List ℕ) (left i : ℕ) where
  pub first_past : mem 0 kinds ≡ false → length ws ≤ i → first_said (Err (Kind i)) ≡ first_word ws kinds left i
  unfolding fits word_at first_said refusal carried
  first_past none h = rw (kind_past ws i h, none)

  module _ (w : ℕ) (f : Bool) (ew : w ≡ word ws i) (ef : f ≡ fits kinds w) where
    fitting : (b : Bool) → f ≡ b → fits kinds (word ws i) ≡ b
    fitting b e = rw (← ew, ← ef) e

    pub first_unfit : not f ≡ true → first_said (Err (Kind i)) ≡ first_word ws kinds left i
    unfolding word_at first_said refusal carried
    first_unfit n = rw (fitting false (not-true f n))

    pub first_over : not f ≡ false → left ≡ 0 → first_said (Err (Limit i)) ≡ first_word ws kinds left i
    unfolding word_at first_said refusal carried
    first_over n z = rw (fitting true (not-false f n), z)

    pub first_is : not f ≡ false → (left ≡ 0 → ⊥) → first_said (Ok w) ≡ first_word ws kinds left i
    unfolding word_at first_said
    first_is n nz = rw (fitting true (not-false f n), lt-ltb 0 left (omega (arith, nz)), ew)

  -- what begins with the word
  pub first_then : {A : Type 0} (f : ℕ → Parse A) → (word_at ws kinds i >>> λ w. expect (ltb 0 left) 4 i >>> λ _. f w) ≡ (first_word ws kinds left i >>> f)
  first_then {A} f = go (word_at ws kinds i) (ltb 0 left)
    where
      go : (m : Parse ℕ) (b : Bool) → ◌≡◌ {A = Parse A} (m >>> λ w. expect b 4 i >>> λ _. f w) ((m >>> λ w. expect b 4 i >>> λ _. fine w) >>> f)
      go (fine w) true = refl
      go (fine w) false = refl
      go (stop k j) b = refl
