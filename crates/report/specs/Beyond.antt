-- Input beyond the words that are looked at changes nothing that is printed: a program may read so many bytes and no more.
use Rattle.std.specs.Prelude.{◌≡◌, refl, List, ℕ, ◌+◌, ◌*◌, ◌/◌, ◌≤◌, min, length, take}
use Rattle.std.proofs.Common.{arith, take_all, length-take-le, get_or-take, le-leb}
use Rattle.std.proofs.Math.Decide.{dec_le}
use Rattle.word.specs.Limits as Max
use Rattle.meaning.specs.Host.{word_of_bytes}
use Rattle.meaning.specs.Program.{input_word, input_words, program_of}
use Rattle.theory.specs.Loops.{list_same}
use Rattle.theory.specs.Numbers.{length_list_of}

-- "the first 8,192 only": so many words there are
pub input_long : (bs : List ℕ) → length (input_words bs) ≡ min 8192 ((length bs + 3) / 4)
unfolding input_words
input_long bs = length_list_of (input_word bs) (min 8192 ((length bs + 3) / 4))

-- bytes of the words that are looked at
abbrev pub max_input : ℕ
max_input = Max.max_input_words * 4

-- a word that ends within the first m bytes
word_same : (bs : List ℕ) (m i : ℕ) → i * 4 + 4 ≤ m → m ≤ length bs → input_word (take m bs) i ≡ input_word bs i
unfolding input_word word_of_bytes
word_same bs m i h l =
    let a : i * 4 + 4 ≤ length (take m bs) = omega (arith, length-take-le m bs l) in
    let b : i * 4 + 4 ≤ length bs = omega arith in
    rw (
      le-leb (i * 4 + 4) (length (take m bs)) a,
      le-leb (i * 4 + 4) (length bs) b,
      get_or-take m bs (i * 4) 0 (omega arith),
      get_or-take m bs (i * 4 + 1) 0 (omega arith),
      get_or-take m bs (i * 4 + 2) 0 (omega arith),
      get_or-take m bs (i * 4 + 3) 0 (omega arith),
    )

words_same : (bs : List ℕ) (m : ℕ) → m ≡ max_input → m ≤ length bs → input_words (take m bs) ≡ input_words bs
unfolding input_words
words_same bs m e l =
    let a : min Max.max_input_words ((length (take m bs) + 3) / 4) ≡ Max.max_input_words = omega (arith, length-take-le m bs l) in
    let b : min Max.max_input_words ((length bs + 3) / 4) ≡ Max.max_input_words = omega arith in
    rw (a, b) (list_same (input_word (take m bs)) (input_word bs) Max.max_input_words (λ i h. word_same bs m i (omega arith) l))

pub beyond_ignored : (bs : List ℕ) → program_of (take max_input bs) ≡ program_of bs
unfolding program_of
beyond_ignored bs =
    elim (dec_le (length bs) max_input) [ yes h ↦ rw (take_all max_input bs h) | no h ↦ rw (words_same bs max_input refl (omega arith)) ]
