-- Laws of decimal numbers: the library's digits are the meaning's, and how many there are.
use Rattle.std.specs.Prelude.{ℕ, zero, suc, ◌/◌, ◌^◌, ◌<◌, ◌≤◌, ◌≡◌, List, ◌++◌, length}
use Rattle.std.specs.Fmt as S
use Rattle.std.proofs.Common.{arith, ap, ◌∙◌, length-append, le-ltb, lt-ltb}
use Rattle.std.proofs.Math.Decide.{dec_lt}
use Rattle.std.proofs.lemmas.Fmt.{decimal_digit, decimal_step}
use Rattle.meaning.specs.Program.{digits_of, decimal}

digits_are : (k n : ℕ) → n < 10 ^ suc k → n < 2 ^ 64 → S.decimal n ≡ digits_of (suc k) n
unfolding digits_of
digits_are zero n h l = rw (lt-ltb n 10 h) (decimal_digit n h)
digits_are (suc k) n h l =
    elim (dec_lt n 10) [
      | yes q ↦ rw (lt-ltb n 10 q) (decimal_digit n q)
      | no q ↦
          let m : 10 ≤ n = omega arith in
          let few : n / 10 < 10 ^ suc k = omega arith in
          rw (le-ltb n 10 m, decimal_step n m l, digits_are k (n / 10) few (omega arith))
    ]

-- the library's digits put at the end of a text
pub number_put : (old text after : List ℕ) (n : ℕ) → n < 2 ^ 64 → text ≡ S.decimal n → after ≡ old ++ text → after ≡ old ++ decimal n
unfolding decimal
number_put old text after n l e h = h ∙ ap (λ (t : List ℕ). old ++ t) (e ∙ digits_are 19 n (omega arith) l)

-- ---- a number below 10 ^ j has at most j digits
digits_few : (k j n : ℕ) → n < 10 ^ suc j → length (digits_of k n) ≤ suc j
unfolding digits_of
digits_few zero j n h = omega arith
digits_few (suc k) zero n h = rw (lt-ltb n 10 h) (omega arith)
digits_few (suc k) (suc j) n h =
    elim (dec_lt n 10) [
      | yes q ↦ rw (lt-ltb n 10 q) (omega arith)
      | no q ↦
          let l : 10 ≤ n = omega arith in
          let m : n / 10 < 10 ^ suc j = omega arith in
          rw (le-ltb n 10 l, length-append) (omega (arith, digits_few k j (n / 10) m))
    ]

pub decimal_few : (j n : ℕ) → n < 10 ^ suc j → length (decimal n) ≤ suc j
unfolding decimal
decimal_few j n h = digits_few 20 j n h
