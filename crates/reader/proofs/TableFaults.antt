-- The order of a table word's refusals, 2, 4, 3 and 5, as laws of the definitions alone: what reading a table answers, by the number of the first test
-- that its word fails. The code tests a word where it reads it and has no such number, so that none of its proofs goes through these.
use Rattle.std.specs.Prelude.{◌≡◌, refl, Bool, true, false, not, ◌&&◌, List, [], ◌∷◌, ℕ, suc, ◌+◌, ◌≤◌, ◌<◌, eqb, length, get_or}
use Rattle.std.proofs.Common.{sym, ap, ◌∙◌, arith, add-one, lt-ltb, le-ltb}
use Rattle.word.specs.Fields as W
use Rattle.word.specs.Limits as Max
use Rattle.meaning.specs.Answers.{◌>>>◌, expect}
use Rattle.meaning.specs.Searches.{mem}
use Rattle.meaning.specs.Syntax.{Variable, Table}
use Rattle.meaning.specs.Reading.{Read, word, fits, table_ok, table_fits, read_body, read_table}
use Rattle.theory.specs.Readers.{word_then}
use Rattle.index.specs.Places.{Reached, Refused, reach}
use Rattle.reader.specs.Formulas.{fault_of, rows_reach}
use Rattle.reader.specs.Tables.{is_placed, next_place}
use Rattle.reader.proofs.TestLaws.{kind_past}
use Rattle.reader.proofs.TableLaws.{body_reach}

-- the four tests of a word, then m
abbrev pub tested : {A : Type 0} → Bool → Bool → Bool → Bool → ℕ → Read A → Read A
tested a b c d i m = expect a 2 i >>> λ _. expect b 4 i >>> λ _. expect c 3 i >>> λ _. expect d 5 i >>> λ _. m

pub tested_refused : {A : Type 0} (a b c d : Bool) (k i : ℕ) (m : Read A) → k ≡ fault_of a b c d → (k ≡ 0 → ⊥)
    → Refused k i ≡ reach (tested a b c d i m)
unfolding fault_of reach
tested_refused false b c d k i m e n = rw e
tested_refused true false c d k i m e n = rw e
tested_refused true true false d k i m e n = rw e
tested_refused true true true false k i m e n = rw e
tested_refused true true true true k i m e n = absurd (n e)

pub tested_passed : {A : Type 0} (a b c d : Bool) (k i : ℕ) (m : Read A) → k ≡ fault_of a b c d → k ≡ 0
    → reach m ≡ reach (tested a b c d i m)
unfolding fault_of
tested_passed false b c d k i m e z = absurd (let x : ◌≡◌ {A = ℕ} 2 0 = sym e ∙ z in omega arith)
tested_passed true false c d k i m e z = absurd (let x : ◌≡◌ {A = ℕ} 4 0 = sym e ∙ z in omega arith)
tested_passed true true false d k i m e z = absurd (let x : ◌≡◌ {A = ℕ} 3 0 = sym e ∙ z in omega arith)
tested_passed true true true false k i m e z = absurd (let x : ◌≡◌ {A = ℕ} 5 0 = sym e ∙ z in omega arith)
tested_passed true true true true k i m e z = refl

module _ (ws : List ℕ) (vs : List Variable) (at : ℕ) (taken lower : Bool) where
  -- what comes after the first four tests
  abbrev table_in_order : Read Table
  table_in_order = expect (not lower) 21 at >>> λ _. read_body ws vs (word ws at) (suc at)

  table_tested : reach (read_table ws vs at taken lower)
      ≡ reach (tested (fits (2 ∷ []) (word ws at)) true (table_ok vs (word ws at)) (table_fits vs (word ws at) && not taken) at table_in_order)
  unfolding read_table
  table_tested = ap reach (word_then ws (2 ∷ []) at _)

  module _ (k : ℕ) (ek : k ≡ fault_of (fits (2 ∷ []) (word ws at)) true (table_ok vs (word ws at)) (table_fits vs (word ws at) && not taken)) where
    table_refused : (k ≡ 0 → ⊥) → Refused k at ≡ reach (read_table ws vs at taken lower)
    table_refused nz = tested_refused _ _ _ _ k at _ ek nz ∙ sym table_tested

    out_of_order : k ≡ 0 → lower ≡ true → Refused 21 at ≡ reach (read_table ws vs at taken lower)
    unfolding reach
    out_of_order z e = (rw e) ∙ tested_passed _ _ _ _ k at _ ek z ∙ sym table_tested

    table_passed : k ≡ 0 → lower ≡ false → reach (read_body ws vs (word ws at) (suc at)) ≡ reach (read_table ws vs at taken lower)
    table_passed z e = (rw e) ∙ tested_passed _ _ _ _ k at _ ek z ∙ sym table_tested

not_not : (a : Bool) → not (not a) ≡ a
not_not true = refl
not_not false = refl

module _ (ws : List ℕ) (vs : List Variable) (at : ℕ) (ps : List ℕ) (before : ℕ) where
  pub table_past : length ws ≤ at → Refused 2 at ≡ reach (next_place ws vs at ps before)
  unfolding fits mem fault_of next_place
  table_past h = table_refused ws vs at _ _ 2 (rw (kind_past ws at h)) (λ e. (let z : ⊥ = omega arith in z))

  module _ (w v p k : ℕ) (f b s : Bool) (ew : w ≡ word ws at) (ef : f ≡ fits (2 ∷ []) w) (eb : b ≡ table_ok vs (word ws at))
      (es : s ≡ table_fits vs (word ws at)) (ev : v ≡ W.defined w) (ep : p ≡ get_or ps v 0) (ek : k ≡ fault_of f true b (s && eqb p 0)) where
    found : k ≡ fault_of (fits (2 ∷ []) (word ws at)) true (table_ok vs (word ws at))
        (table_fits vs (word ws at) && not (is_placed ps (W.defined (word ws at))))
    unfolding is_placed
    found = rw (not_not (eqb (get_or ps (W.defined (word ws at)) 0) 0), ← eb, ← es, ← ew, ← ev, ← ep, ← ef) ek

    pub table_fault : (k ≡ 0 → ⊥) → Refused k at ≡ reach (next_place ws vs at ps before)
    unfolding next_place
    table_fault nz = table_refused ws vs at _ _ k found nz

    defines : v ≡ W.defined (word ws at)
    defines = rw ev (rw ew refl)

    pub table_lower : k ≡ 0 → v < before → Refused 21 at ≡ reach (next_place ws vs at ps before)
    unfolding next_place
    table_lower z h = out_of_order ws vs at _ _ k found z (rw (← defines) (lt-ltb v before h))

    pub table_on : (t m : ℕ) (r : Reached) → k ≡ 0 → before ≤ v → t ≡ W.sort w → m ≡ W.class_read w
        → r ≡ rows_reach ws vs t v m Max.max_rows (at + 1)
        → r ≡ reach (next_place ws vs at ps before)
    unfolding next_place
    table_on t m r z h et em er =
        er ∙ rw (et, ev, em, ew, add-one at) (body_reach ws vs (word ws at) (suc at)) ∙ table_passed ws vs at _ _ k found z (rw (← defines) (le-ltb v before h))
