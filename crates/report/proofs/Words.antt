-- Laws of the input's words: a word by the bytes from its place on, and all of them in turn.
use Rattle.std.specs.Prelude.{ℕ, ◌+◌, ◌*◌, ◌/◌, ◌<◌, ◌≤◌, ◌≡◌, min, List, [], ◌∷◌, ◌++◌, length, take, drop}
use Rattle.std.proofs.Common.{arith, sym, ap, ◌∙◌, append-nil, length-append, get_or-take, add-one, add-zero, drop_of_length-le, le-leb}
use Rattle.std.proofs.Math.Decide.{dec_le, dec_lt}
use Rattle.std.proofs.Math.ListN.{get_or-append}
use Rattle.std.proofs.lemmas.Bool.{lt-leb}
use Rattle.std.proofs.lemmas.List.{length-drop, get_or-drop, drop-drop, drop_at, nil_from_length}
use Rattle.std.specs.Int.{w32, from_le_bytes}
use Rattle.word.specs.Limits as Max
use Rattle.meaning.specs.Searches.{list_of}
use Rattle.meaning.specs.Host.{word_of_bytes}
use Rattle.meaning.specs.Program.{input_word, input_words}

-- ---- a word
pub word_broken : (bs : List ℕ) → length bs < 4 → 0 ≡ input_word bs 0
unfolding input_word
word_broken bs h = rw (lt-leb 4 (length bs) h)

pub word_whole : (bs four : List ℕ) (r : ℕ) → 4 ≤ length bs → four ≡ take 4 bs → r ≡ from_le_bytes w32 four → r ≡ input_word bs 0
unfolding input_word word_of_bytes
word_whole bs four r h e q =
    rw (le-leb 4 (length bs) h, ← get_or-take 4 bs 0 0 (omega arith), ← get_or-take 4 bs 1 0 (omega arith), ← get_or-take 4 bs 2 0 (omega arith), ← get_or-take 4 bs 3 0 (omega arith), ← e) q

-- its first four bytes decide it
word_first : (four next : List ℕ) → length four ≡ min 4 (length (four ++ next)) → input_word four 0 ≡ input_word (four ++ next) 0
unfolding input_word word_of_bytes
word_first four next e =
    let s = length-append four next in
    elim (dec_le 4 (length four)) [
      | yes h ↦
          let l : 4 ≤ length (four ++ next) = omega arith in
          rw (
            le-leb 4 (length four) h,
            le-leb 4 (length (four ++ next)) l,
            get_or-append four next 0 0 (omega arith),
            get_or-append four next 0 1 (omega arith),
            get_or-append four next 0 2 (omega arith),
            get_or-append four next 0 3 (omega arith),
          )
      | no h ↦ rw (lt-leb 4 (length four) (omega arith), lt-leb 4 (length (four ++ next)) (omega arith))
    ]

word_from : (bs : List ℕ) (i : ℕ) → input_word (drop (i * 4) bs) 0 ≡ input_word bs i
unfolding input_word word_of_bytes
word_from bs i =
    let s = length-drop (i * 4) bs in
    elim (dec_le (i * 4 + 4) (length bs)) [
      | yes h ↦
          rw (
            le-leb 4 (length (drop (i * 4) bs)) (omega arith),
            le-leb (i * 4 + 4) (length bs) h,
            get_or-drop (i * 4) bs 0 0,
            get_or-drop (i * 4) bs 1 0,
            get_or-drop (i * 4) bs 2 0,
            get_or-drop (i * 4) bs 3 0,
            add-zero (i * 4),
            word_of_bytes,
          )
      | no h ↦ rw (lt-leb 4 (length (drop (i * 4) bs)) (omega arith), lt-leb (i * 4 + 4) (length bs) (omega arith))
    ]

-- ---- all of them, one after another: the words so far, and the bytes after them
pub fed_none : (bs words : List ℕ) → words ≡ [] → words ≡ list_of (input_word bs) (length words)
unfolding list_of
fed_none bs words e = rw e

module _ (bs words rest : List ℕ) (er : rest ≡ drop (length words * 4) bs) (ew : words ≡ list_of (input_word bs) (length words)) where
  -- the bytes of one more word, or those that are left
  module _ (four next after : List ℕ) (k : ℕ) (ek : k ≡ 4) (ef : rest ≡ four ++ next) (long : length four ≡ min k (length rest)) (some : 0 < length rest)
      (more : length after ≡ length words + 1) where
    size : length four ≡ min 4 (length rest)
    size = rw ek at long

    pub fed_left : next ≡ drop (length after * 4) bs
    fed_left =
        let n : length after * 4 ≡ length words * 4 + 4 = omega arith in
        rw n (sym (left (dec_le 4 (length four))) ∙ ap (drop 4) (sym ef ∙ er) ∙ drop-drop 4 (length words * 4) bs)
      where
        -- a short one is the last
        left : Dec (4 ≤ length four) → drop 4 (four ++ next) ≡ next
        left (yes h) = drop_at four next 4 (omega (arith, ap length ef))
        left (no h) =
            let none : next ≡ [] = nil_from_length next (omega (arith, length-append four next, ap length ef)) in
            let short : length four ≤ 4 = omega arith in
            rw (none, append-nil) (drop_of_length-le four short)

    pub fed_few : length after * 4 ≤ length bs + 3
    fed_few = omega (arith, ap length er, length-drop (length words * 4) bs)

    pub fed_word : (r : ℕ) → r ≡ input_word four 0 → after ≡ words ++ r ∷ [] → after ≡ list_of (input_word bs) (length after)
    unfolding list_of
    fed_word r e ea =
        let s = rw ef at size in
        let w : r ≡ input_word bs (length words) = e ∙ word_first four next s ∙ ap (λ (l : List ℕ). input_word l 0) (sym ef ∙ er) ∙ word_from bs (length words) in
        rw (more, add-one (length words), ← ew, ea, w)

  pub fed_all : length words ≤ 8192 → (length words < 8192 → length rest ≡ 0) → length words * 4 ≤ length bs + 3 → words ≡ input_words bs
  unfolding input_words
  fed_all most last few = ew ∙ ap (list_of (input_word bs)) (go (dec_lt (length words) 8192))
    where
      go : Dec (length words < 8192) → length words ≡ min Max.max_input_words ((length bs + 3) / 4)
      go (yes l) = omega (arith, last l, ap length er, length-drop (length words * 4) bs)
      go (no l) = omega arith
