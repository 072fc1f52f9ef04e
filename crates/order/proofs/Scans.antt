-- Laws of the scans for masks, one for each way out of a function.
use Rattle.std.specs.Prelude.{ℕ, zero, suc, ◌+◌, ◌-◌, ◌≤◌, ◌<◌, ◌≡◌, refl, true, false, List, [], ◌∷◌, eqb, leb, bit_or, length, get_or, set, take}
use Rattle.std.proofs.Common.{sym, ◌∙◌, arith, sub-one, add-one, take_all, take-suc-set}
use Rattle.std.proofs.lemmas.Bool.{ne_eqb, eq-eqb, le-leb, lt-leb}
use Rattle.word.specs.Fields as W
use Rattle.word.specs.Limits as Max
use Rattle.meaning.specs.Answers.{if◌give◌else◌}
use Rattle.meaning.specs.Searches.{list_of}
use Rattle.meaning.specs.Reading.{word}
use Rattle.theory.specs.Loops.{left}
use Rattle.index.specs.Bits.{one_bit}
use Rattle.order.specs.declared.Masked.{Masked}
use Rattle.order.specs.Masks.{nothing_at, condition_mask_by, condition_mask, event_mask_by, event_mask, formula_mask, rows_mask, table_mask, masks_at}

-- ---- conditions
pub condition_none : (ws : List ℕ) (n at : ℕ) → n ≡ 0 → record { mask = 0; next = at } ≡ condition_mask ws n at
unfolding condition_mask
condition_none ws n at z = rw z

condition_end_lem : (ws : List ℕ) (n at : ℕ) → leb (length ws) at ≡ true → nothing_at at ≡ condition_mask ws n at
unfolding condition_mask
condition_end_lem ws zero at h = refl
condition_end_lem ws (suc n) at h = rw h

pub condition_past : (ws : List ℕ) (n at : ℕ) → length ws ≤ at → record { mask = 0; next = at } ≡ condition_mask ws n at
condition_past ws n at h = condition_end_lem ws n at (le-leb (length ws) at h)

condition_here : (ws : List ℕ) (n at : ℕ) → (n ≡ 0 → ⊥) → leb (length ws) at ≡ false
    → condition_mask_by (condition_mask ws (n - 1)) (word ws at) at ≡ condition_mask ws n at
unfolding condition_mask
condition_here ws zero at nz h = absurd (nz refl)
condition_here ws (suc n) at nz h = rw (h, sub-one (suc n))

module _ (ws : List ℕ) (n at w o : ℕ) (nz : n ≡ 0 → ⊥) (h : at < length ws) (ew : w ≡ word ws at) (eo : o ≡ W.operands w) where
  condition_by_lem : (r : Masked) → r ≡ condition_mask_by (condition_mask ws (n - 1)) w at → r ≡ condition_mask ws n at
  condition_by_lem r e = e ∙ rw ew (condition_here ws n at nz (lt-leb (length ws) at h))

  pub condition_two : (a b : Masked) → o ≡ 2 → a ≡ condition_mask ws (n - 1) (at + 1) → b ≡ condition_mask ws (n - 1) a.next
      → record { mask = bit_or a.mask b.mask; next = b.next } ≡ condition_mask ws n at
  unfolding condition_mask_by
  condition_two a b e ea eb = condition_by_lem _ (rw (← eo, e, eb, ea, add-one at))

  pub condition_not : (a : Masked) → o ≡ 1 → a ≡ condition_mask ws (n - 1) (at + 1) → a ≡ condition_mask ws n at
  unfolding condition_mask_by
  condition_not a e ea = condition_by_lem _ (rw (← eo, e, ea, add-one at))

  -- no operand follows
  module _ (k : ℕ) (n2 : o ≡ 2 → ⊥) (n1 : o ≡ 1 → ⊥) (ek : k ≡ W.kind w) where
    pub condition_test : (v m : ℕ) → k ≡ 4 → v ≡ W.variable w → m ≡ one_bit v
        → record { mask = m; next = at + 1 } ≡ condition_mask ws n at
    unfolding condition_mask_by
    condition_test v m e ev em = condition_by_lem _ (rw (← eo, ne_eqb o 2 n2, ne_eqb o 1 n1, ← ek, e, em, ev, add-one at))

    pub condition_constant : (k ≡ 4 → ⊥) → record { mask = 0; next = at + 1 } ≡ condition_mask ws n at
    unfolding condition_mask_by
    condition_constant n4 = condition_by_lem _ (rw (← eo, ne_eqb o 2 n2, ne_eqb o 1 n1, ← ek, ne_eqb k 4 n4, add-one at))

pub ruleset condition_laws = (condition_none, condition_past, condition_two, condition_not, condition_test, condition_constant)

-- ---- events
pub event_none : (ws : List ℕ) (n at : ℕ) → n ≡ 0 → record { mask = 0; next = at } ≡ event_mask ws n at
unfolding event_mask
event_none ws n at z = rw z

event_end_lem : (ws : List ℕ) (n at : ℕ) → leb (length ws) at ≡ true → nothing_at at ≡ event_mask ws n at
unfolding event_mask
event_end_lem ws zero at h = refl
event_end_lem ws (suc n) at h = rw h

pub event_past : (ws : List ℕ) (n at : ℕ) → length ws ≤ at → record { mask = 0; next = at } ≡ event_mask ws n at
event_past ws n at h = event_end_lem ws n at (le-leb (length ws) at h)

event_here : (ws : List ℕ) (n at : ℕ) → (n ≡ 0 → ⊥) → leb (length ws) at ≡ false
    → event_mask_by (event_mask ws (n - 1)) (condition_mask ws (n - 1)) (word ws at) at ≡ event_mask ws n at
unfolding event_mask
event_here ws zero at nz h = absurd (nz refl)
event_here ws (suc n) at nz h = rw (h, sub-one (suc n))

module _ (ws : List ℕ) (n at w o : ℕ) (nz : n ≡ 0 → ⊥) (h : at < length ws) (ew : w ≡ word ws at) (eo : o ≡ W.operands w) where
  event_by_lem : (r : Masked) → r ≡ event_mask_by (event_mask ws (n - 1)) (condition_mask ws (n - 1)) w at → r ≡ event_mask ws n at
  event_by_lem r e = e ∙ rw ew (event_here ws n at nz (lt-leb (length ws) at h))

  module _ (k : ℕ) (e : o ≡ 2) (ek : k ≡ W.kind w) where
    pub event_or : (a b : Masked) → k ≡ 7 → a ≡ event_mask ws (n - 1) (at + 1) → b ≡ event_mask ws (n - 1) a.next
        → record { mask = bit_or a.mask b.mask; next = b.next } ≡ event_mask ws n at
    unfolding event_mask_by
    event_or a b e7 ea eb = event_by_lem _ (rw (← eo, e, ← ek, e7, eb, ea, add-one at))

    pub event_change : (a b : Masked) → (k ≡ 7 → ⊥) → a ≡ condition_mask ws (n - 1) (at + 1)
        → b ≡ condition_mask ws (n - 1) a.next → record { mask = a.mask; next = b.next } ≡ event_mask ws n at
    unfolding event_mask_by
    event_change a b n7 ea eb = event_by_lem _ (rw (← eo, e, ← ek, ne_eqb k 7 n7, eb, ea, add-one at))

  pub event_constant : (o ≡ 2 → ⊥) → record { mask = 0; next = at + 1 } ≡ event_mask ws n at
  unfolding event_mask_by
  event_constant n2 = event_by_lem _ (rw (← eo, ne_eqb o 2 n2, add-one at))

pub ruleset event_laws = (event_none, event_past, event_or, event_change, event_constant)

-- ---- the formula of a row
pub condition_formula : (ws : List ℕ) (t at : ℕ) (r : Masked) → t ≡ 3 → r ≡ condition_mask ws Max.max_depth at → r ≡ formula_mask ws t at
unfolding formula_mask
condition_formula ws t at r e er = rw e er

pub event_formula : (ws : List ℕ) (t at : ℕ) (r : Masked) → (t ≡ 3 → ⊥) → r ≡ event_mask ws Max.max_depth at → r ≡ formula_mask ws t at
unfolding formula_mask
event_formula ws t at r n er = rw (ne_eqb t 3 n) er

-- ---- rows: what is left from here is the whole
rows_zero : (ws : List ℕ) (t p m : ℕ) → rows_mask ws t 0 p m ≡ m
unfolding rows_mask
rows_zero ws t p m = refl

rows_end : (ws : List ℕ) (t l p m : ℕ) → leb (length ws) p ≡ true → rows_mask ws t l p m ≡ m
unfolding rows_mask
rows_end ws t zero p m e = refl
rows_end ws t (suc l) p m e = rw e

-- the rows after one with the mask and end of j
abbrev pub rows_after : List ℕ → ℕ → ℕ → ℕ → Masked → ℕ
rows_after ws t l m j =
    if eqb (W.kind (word ws j.next)) 3
    give (λ _. rows_mask ws t l j.next (bit_or m j.mask))
    else (λ _. bit_or m j.mask)

pub rows_here : (ws : List ℕ) (t l p m : ℕ) → leb (length ws) p ≡ false
    → rows_mask ws t (suc l) p m ≡ rows_after ws t l m (formula_mask ws t (suc p))
unfolding rows_mask
rows_here ws t l p m e = rw e

module _ (ws : List ℕ) (t i on m at first : ℕ) (inv : rows_mask ws t (Max.max_rows - i) on m ≡ rows_mask ws t Max.max_rows at first) where
  pub rows_past : length ws ≤ on → m ≡ rows_mask ws t Max.max_rows at first
  rows_past h = sym (rows_end ws t (Max.max_rows - i) on m (le-leb (length ws) on h)) ∙ inv

  pub rows_all : Max.max_rows ≤ i → m ≡ rows_mask ws t Max.max_rows at first
  rows_all h = let z : Max.max_rows - i ≡ 0 = omega arith in sym (rows_zero ws t on m) ∙ (rw z at inv)

  module _ (w k : ℕ) (j : Masked) (h : i < Max.max_rows) (hl : on < length ws) (ej : j ≡ formula_mask ws t (on + 1)) (ew : w ≡ word ws j.next) (ek : k ≡ W.kind w) where
    turn : (if eqb k 3 give (λ _. rows_mask ws t (Max.max_rows - (i + 1)) j.next (bit_or m j.mask)) else (λ _. bit_or m j.mask))
        ≡ rows_mask ws t Max.max_rows at first
    turn =
        rw (ek, ew, ej, add-one on)
        (sym (rows_here ws t (Max.max_rows - (i + 1)) on m (lt-leb (length ws) on hl)) ∙ (rw (left Max.max_rows i h) at inv))

    pub rows_last : (k ≡ 3 → ⊥) → bit_or m j.mask ≡ rows_mask ws t Max.max_rows at first
    rows_last n = rw (ne_eqb k 3 n) at turn

    pub rows_on : k ≡ 3 → rows_mask ws t (Max.max_rows - (i + 1)) j.next (bit_or m j.mask) ≡ rows_mask ws t Max.max_rows at first
    rows_on e = rw (eq-eqb k 3 e) at turn

-- ---- a table
pub table_none : (ws ps : List ℕ) (v p : ℕ) → p ≡ get_or ps v 0 → p ≡ 0 → 0 ≡ table_mask ws (get_or ps v 0)
unfolding table_mask
table_none ws ps v p ep e = rw (← ep, e)

table_by : (ws : List ℕ) (p : ℕ) → (p ≡ 0 → ⊥)
    → rows_mask ws (W.sort (word ws (p - 1))) Max.max_rows p
    (if eqb (W.sort (word ws (p - 1))) 3 give (λ _. one_bit (W.class_read (word ws (p - 1)))) else (λ _. 0)) ≡ table_mask ws p
unfolding table_mask
table_by ws zero n = absurd (n refl)
table_by ws (suc i) n = rw (sub-one (suc i))

module _ (ws ps : List ℕ) (v p w t r : ℕ) (ep : p ≡ get_or ps v 0) (np : p ≡ 0 → ⊥) (ew : w ≡ word ws (p - 1)) (et : t ≡ W.sort w) where
  pub table_condition : (c m : ℕ) → t ≡ 3 → c ≡ W.class_read w → m ≡ one_bit c → r ≡ rows_mask ws t Max.max_rows p m
      → r ≡ table_mask ws (get_or ps v 0)
  table_condition c m e ec em er = er ∙ rw (em, ec, ← ep, ← table_by ws p np, ← ew, ← et, e)

  pub table_event : (t ≡ 3 → ⊥) → r ≡ rows_mask ws t Max.max_rows p 0 → r ≡ table_mask ws (get_or ps v 0)
  table_event n er = er ∙ rw (← ep, ← table_by ws p np, ← ew, ← et, ne_eqb t 3 n)

-- ---- the masks of all variables: those filled in so far are the first of them
abbrev pub masks_to : List ℕ → List ℕ → ℕ → List ℕ
masks_to ws ps n = list_of (λ v. table_mask ws (get_or ps v 0)) n

pub masks_none : (ws ps ms : List ℕ) → take 0 ms ≡ masks_to ws ps 0
unfolding list_of
masks_none ws ps [] = refl
masks_none ws ps (m ∷ ms) = refl

pub masks_on : (ws ps ms : List ℕ) (v m : ℕ) → length ms ≡ Max.max_variables → v < Max.max_variables → take v ms ≡ masks_to ws ps v
    → m ≡ table_mask ws (get_or ps v 0) → take (v + 1) (set ms v m) ≡ masks_to ws ps (v + 1)
unfolding list_of
masks_on ws ps ms v m l h i em =
    let b : v < length ms = omega arith in
    rw (add-one v, take-suc-set ms v m b, i, em)

pub masks_all : (ws ps ms : List ℕ) (v : ℕ) → length ms ≡ Max.max_variables → v ≤ Max.max_variables → Max.max_variables ≤ v → take v ms ≡ masks_to ws ps v
    → ms ≡ masks_at ws ps
unfolding masks_at
masks_all ws ps ms v l h k i =
    let e : v ≡ Max.max_variables = omega arith in
    let b : length ms ≤ Max.max_variables = omega arith in
    sym (take_all Max.max_variables ms b) ∙ (rw e at i)

pub ruleset masks_laws = (masks_none, masks_on, masks_all)
