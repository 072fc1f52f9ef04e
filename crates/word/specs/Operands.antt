-- The rule of the table of operand counts (document 02, 2.2): its sentences, and that the table keeps to them for every word.
use Rattle.std.specs.Prelude.{ℕ, zero, suc, ◌≡◌, ◌≤◌, refl, List, [], ◌∷◌, length, get_or}
use Rattle.std.proofs.lemmas.List.{get_or-replicate, get_or_past}
use native.Mathlib.Omega.{arith}
use native.Mathlib.Decide.{dec_lt}
use Rattle.word.specs.Fields as W

-- kinds 5 to 8 are the operators
abbrev pub Operator : ℕ → Type 0
Operator k = (5 ≤ k) × (k ≤ 8)

-- so many formulas follow a word of kind k
pub data Count : ℕ → ℕ → Type 0 where
  -- "Not has 1; and, or and change have 2;"
  not_one : Count 5 1
  and_two : Count 6 2
  or_two : Count 7 2
  change_two : Count 8 2
  -- "a kind that is no operator has 0, rows and assertions too."
  no_operator : {k : ℕ} → (Operator k → ⊥) → Count k 0

-- "a table of sixteen entries"
pub sixteen : length W.operand_counts ≡ 16
sixteen = refl

-- the entries from kind 9 on are zeros, and behind the table nothing follows
abbrev zeros : List ℕ
zeros = 0 ∷ 0 ∷ 0 ∷ 0 ∷ 0 ∷ 0 ∷ 0 ∷ []

rest : (k : ℕ) → get_or zeros k 0 ≡ 0
rest k = elim (dec_lt k 7) [ yes l ↦ get_or-replicate 7 k 0 0 l | no n ↦ get_or_past zeros k 0 (omega arith) ]

pub counted : (w : ℕ) → Count (W.kind w) (W.operands w)
unfolding W.operands
counted w = entry (W.kind w)
  where
    entry : (k : ℕ) → Count k (get_or W.operand_counts k 0)
    entry zero = no_operator (λ o. omega (arith, o.0, o.1))
    entry (suc zero) = no_operator (λ o. omega (arith, o.0, o.1))
    entry (suc (suc zero)) = no_operator (λ o. omega (arith, o.0, o.1))
    entry (suc (suc (suc zero))) = no_operator (λ o. omega (arith, o.0, o.1))
    entry (suc (suc (suc (suc zero)))) = no_operator (λ o. omega (arith, o.0, o.1))
    entry (suc (suc (suc (suc (suc zero))))) = not_one
    entry (suc (suc (suc (suc (suc (suc zero)))))) = and_two
    entry (suc (suc (suc (suc (suc (suc (suc zero))))))) = or_two
    entry (suc (suc (suc (suc (suc (suc (suc (suc zero)))))))) = change_two
    entry (suc (suc (suc (suc (suc (suc (suc (suc (suc k))))))))) = rw (rest k) (no_operator {k = suc (suc (suc (suc (suc (suc (suc (suc (suc k))))))))} (λ o. omega (arith, o.0, o.1)))
