-- Laws of masks: one for each way out of a function, then what the bits of a mask are.
use Rattle.std.specs.Prelude.{ℕ, zero, suc, ◌+◌, ◌*◌, ◌-◌, ◌/◌, ◌%◌, ◌^◌, ◌≤◌, ◌<◌, max, ◌≡◌, refl, ◌||◌, false, eqb, bit_and, bit_or}
use Rattle.std.proofs.Common.{sym, ap, ◌∙◌, arith, mod-lt, one-mul, lit<, pow_pos, pow-add, shl_exact, eq-eqb, ne_eqb, lt-ltb, le-ltb}
use Rattle.std.proofs.Math.Decide.{dec_lt, ℕ_discrete}
use Rattle.std.proofs.Math.Nat.{div-eq_of_lt}
use Rattle.std.proofs.Math.Pow.{pow-lt}
use Rattle.std.proofs.lemmas.Nat.{and_mask, or_shr, shl-shr}
-- std does not pass these on
use lib.Bits.{or_step, shifted_even}
use Rattle.word.specs.Limits as Max
use Rattle.index.specs.Bits.{bit_in, one_bit}

pub bit_is : (m b : ℕ) → eqb (bit_and (m / 2 ^ b) 1) 1 ≡ bit_in m b
unfolding bit_in
bit_is m b = ap (λ (x : ℕ). eqb x 1) (and_mask (m / 2 ^ b) 1)

pub bit_none : (v : ℕ) → Max.max_variables ≤ v → 0 ≡ one_bit v
unfolding one_bit
bit_none v h = rw (le-ltb v Max.max_variables h)

pub bit_one : (v : ℕ) → v < Max.max_variables → (1 * 2 ^ v) % 2 ^ 32 ≡ one_bit v
unfolding one_bit
bit_one v h = rw (lt-ltb v Max.max_variables h, shl_exact 1 v 32 (lit< tt) (omega arith), one-mul (2 ^ v))

-- ---- the bits of a mask: of none, of two masks together, of one variable
pub zero_at : (b : ℕ) → bit_in 0 b ≡ false
unfolding bit_in
zero_at b = rw (div-eq_of_lt (pow_pos b))

-- two masks together
low_or : (a b : ℕ) → bit_or a b % 2 ≡ max (a % 2) (b % 2)
low_or a b =
    let ha : a % 2 < 2 = mod-lt a (lit< tt) in
    let hb : b % 2 < 2 = mod-lt b (lit< tt) in
    rw (or_step a b) (omega arith)

max_bits : (p q : ℕ) → p < 2 → q < 2 → eqb (max p q) 1 ≡ eqb p 1 || eqb q 1
max_bits zero zero h k = refl
max_bits zero (suc zero) h k = refl
max_bits zero (suc (suc q)) h k = absurd (omega arith)
max_bits (suc zero) zero h k = refl
max_bits (suc zero) (suc zero) h k = refl
max_bits (suc zero) (suc (suc q)) h k = absurd (omega arith)
max_bits (suc (suc p)) q h k = absurd (omega arith)

pub or_at : (x y b : ℕ) → bit_in (bit_or x y) b ≡ bit_in x b || bit_in y b
unfolding bit_in
or_at x y b =
    rw (or_shr x y b, low_or (x / 2 ^ b) (y / 2 ^ b))
    (max_bits (x / 2 ^ b % 2) (y / 2 ^ b % 2) (mod-lt (x / 2 ^ b) (lit< tt)) (mod-lt (y / 2 ^ b) (lit< tt)))

-- one variable
pow_same : (b : ℕ) → 2 ^ b / 2 ^ b ≡ 1
pow_same b = ap (λ (x : ℕ). x / 2 ^ b) (sym (one-mul (2 ^ b))) ∙ shl-shr 1 b

pow_above : (v b : ℕ) → b < v → 2 ^ v / 2 ^ b % 2 ≡ 0
pow_above v b h =
    let e : v ≡ suc (v - (b + 1)) + b = omega arith in
    rw (
      e,
      pow-add 2 (suc (v - (b + 1))) b,
      shl-shr (2 ^ suc (v - (b + 1))) b,
      ← one-mul (2 ^ suc (v - (b + 1))),
      shifted_even 1 (v - (b + 1)),
    )

pow_other : (v b : ℕ) → (b ≡ v → ⊥) → 2 ^ v / 2 ^ b % 2 ≡ 0
pow_other v b h =
    elim (dec_lt b v) [
      | yes l ↦ pow_above v b l
      | no l ↦ let g : v < b = omega arith in rw (div-eq_of_lt (pow-lt g))
    ]

pub bit_power : (v b : ℕ) → bit_in (2 ^ v) b ≡ eqb b v
unfolding bit_in
bit_power v b =
    elim (ℕ_discrete b v) [
      | yes e ↦ rw (eq-eqb b v e, e, pow_same v)
      | no n ↦ rw (ne_eqb b v n, pow_other v b n)
    ]

pub bit_of : (v b : ℕ) → b < Max.max_variables → bit_in (one_bit v) b ≡ eqb b v
unfolding one_bit
bit_of v b h =
    elim (dec_lt v Max.max_variables) [
      | yes l ↦ rw (lt-ltb v Max.max_variables l) (bit_power v b)
      | no l ↦ rw (le-ltb v Max.max_variables (omega arith), zero_at b, ne_eqb b v (λ e. let z : ⊥ = omega arith in z))
    ]
