-- Laws of bytes taken as words, four after four.
use Rattle.std.specs.Prelude.{ℕ, zero, suc, ◌+◌, ◌*◌, ◌<◌, ◌≤◌, ◌≡◌, List, ◌++◌, length, get_or, take, drop, map}
use Rattle.std.specs.Int.{w32, from_le_bytes}
use Rattle.std.specs.Simd.{first_chunks}
use Rattle.std.proofs.Common.{arith, refl, sym, ap, ◌∙◌, append_assoc, append-nil, get_or-take, add-zero, add-one, set, take-suc-set, drop-cons, drop_of_length-le}
use Rattle.std.proofs.lemmas.List.{get_or-drop, drop-drop}
use Rattle.meaning.specs.Host.{word_of_bytes, words_of_bytes}

pub length_words : (bs : List ℕ) (n i : ℕ) → length (words_of_bytes bs n i) ≡ n
unfolding words_of_bytes
length_words bs zero i = refl
length_words bs (suc n) i = ap suc (length_words bs n (i + 1))

-- ---- one word
word_at : (bs four : List ℕ) (at r : ℕ) → four ≡ take 4 (drop at bs) → r ≡ from_le_bytes w32 four → r ≡ word_of_bytes bs at
unfolding word_of_bytes
word_at bs four at r e q =
    q ∙ rw (
      e,
      get_or-take 4 (drop at bs) 0 0 (omega arith),
      get_or-take 4 (drop at bs) 1 0 (omega arith),
      get_or-take 4 (drop at bs) 2 0 (omega arith),
      get_or-take 4 (drop at bs) 3 0 (omega arith),
      get_or-drop at bs 0 0,
      get_or-drop at bs 1 0,
      get_or-drop at bs 2 0,
      get_or-drop at bs 3 0,
      add-zero at,
      word_of_bytes,
    )

-- ---- all words of the bytes
pub words_are : (bs : List ℕ) (n i : ℕ) → map (from_le_bytes w32) (first_chunks 4 n (drop (i * 4) bs)) ≡ words_of_bytes bs n i
unfolding words_of_bytes
words_are bs zero i = refl
words_are bs (suc n) i =
    let w = word_at bs (take 4 (drop (i * 4) bs)) (i * 4) (from_le_bytes w32 (take 4 (drop (i * 4) bs))) refl refl in
    let on : i * 4 + 4 ≡ (i + 1) * 4 = omega arith in
    rw (w, drop-drop 4 (i * 4) bs, on, words_are bs n (i + 1))

-- ---- the words so far and those that are left are all of them
module _ (fours : List (List ℕ)) (room all : List ℕ) (i : ℕ) (inv : take i room ++ map (from_le_bytes w32) (drop i fours) ≡ all) where
  pub copied : (d : List ℕ) (r : ℕ) → i < length fours → i < length room → r ≡ from_le_bytes w32 (get_or fours i d)
      → take (i + 1) (set room i r) ++ map (from_le_bytes w32) (drop (i + 1) fours) ≡ all
  copied d r h within e = rw (add-one i, take-suc-set room i r within, e, append_assoc) (rw (drop-cons fours i d h) at inv)

  pub copied_all : i ≤ length fours → length fours ≤ i → take (length fours) room ≡ all
  copied_all k h =
      let q : i ≡ length fours = omega arith in
      sym (append-nil (take (length fours) room)) ∙ (rw (drop_of_length-le fours h, q) at inv)
