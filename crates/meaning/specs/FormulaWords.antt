-- Which words are a formula: a word, and as many formulas after it as the table of operand counts says (document 02, 2.2).
use Rattle.std.specs.Prelude.{ℕ, suc, List}
use Rattle.word.specs.Fields as W
use Rattle.meaning.specs.Reading.{word}

module _ (ws : List ℕ) where
  -- so many formulas, one after another, from one place to another
  pub data Formulas : ℕ → ℕ → ℕ → Type 0 where
    none : {i : ℕ} → Formulas 0 i i
    more : {n i j k : ℕ} → Formulas (W.operands (word ws i)) (suc i) j → Formulas n j k → Formulas (suc n) i k
