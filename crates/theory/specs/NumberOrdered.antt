-- Document 02, request 2.7: the tables of a set that reads come in rising number.
use Prim.Native.Nat.{ℕ, zero, suc, ◌≤◌, ◌<◌}
use Rattle.std.specs.Prelude.{◌≡◌, refl, ◌≢◌, Bool, true, false, List, [], ◌∷◌, ◌++◌, ltb, eqb}
use Rattle.std.proofs.Math.Path.{sym, subst}
use Rattle.std.proofs.Common.{◌∙◌}
use Rattle.std.proofs.Math.Option.{Option, none, some, none-ne-some}
use mathlib.Core.List.{append_assoc}
use native.Mathlib.Omega.{arith}
use Rattle.std.proofs.Math.Decide.{dec_le}
use Rattle.word.specs.Fields as W
use Rattle.meaning.specs.Answers.{ok, if◌give◌else◌}
use Rattle.meaning.specs.Syntax.{Variable, Table, TableSet}
use Rattle.meaning.specs.Lookup.{defined_by, table_of, is_some, has_table, count}
use Rattle.meaning.specs.Reading.{word, next_table, read_tables, read_words}
use Rattle.meaning.specs.NumberOrder.{Rising}
use Rattle.theory.specs.Tests.{otherwise, true_not_false, eqb_true, eqb_same, ltb_true, true_ltb}
use Rattle.theory.specs.Readers.{Gives, gives, stops, after, past, branches, given}
use Rattle.theory.specs.Sections.{sections}
use Rattle.theory.specs.TablesRead.{table_spans}

-- ---- lists of tables
-- a variable that one of the tables defines has a table
has_there : (us : List Table) (t : Table) (ts : List Table) → has_table (us ++ (t ∷ ts)) (defined_by t) ≡ true
unfolding has_table table_of is_some
has_there [] t ts = rw (eqb_same (defined_by t))
has_there (x ∷ us) t ts = go (eqb (defined_by x) (defined_by t)) (has_there us t ts)
  where
    go : (b : Bool) → is_some (table_of (us ++ (t ∷ ts)) (defined_by t)) ≡ true
        → is_some (if b give (λ _. some x) else (λ _. table_of (us ++ (t ∷ ts)) (defined_by t))) ≡ true
    go true h = refl
    go false h = h

rest : (t : Table) (ts : List Table) → Rising (t ∷ ts) → Rising ts
rest t [] h = tt
rest t (u ∷ us) h = h.1

-- one table more, of a higher variable
one_more : (us : List Table) (t u : Table) → Rising (us ++ (t ∷ [])) → defined_by t < defined_by u → Rising (us ++ (t ∷ u ∷ []))
one_more [] t u h l = (l, tt)
one_more (x ∷ []) t u h l = (h.0, (l, tt))
one_more (x ∷ y ∷ us) t u h l = (h.0, one_more (y ∷ us) t u h.1 l)

-- the first of several is of the lowest variable
lowest_first : (x : Table) (us : List Table) (t : Table) (ts : List Table) → Rising (x ∷ (us ++ (t ∷ ts))) → defined_by x < defined_by t
lowest_first x [] t ts h = h.0
lowest_first x (y ∷ us) t ts h = let l = lowest_first y us t ts h.1 in omega (arith, h.0)

-- the table after u is of a higher variable
pub next_higher : (us : List Table) (u t : Table) (ts : List Table) → Rising (us ++ (u ∷ t ∷ ts)) → defined_by u < defined_by t
next_higher [] u t ts h = h.0
next_higher (x ∷ us) u t ts h = next_higher us u t ts (rest x (us ++ (u ∷ t ∷ ts)) h)

-- a table of a higher variable than all before it is the first of its variable
pub new_there : (us : List Table) (t : Table) (ts : List Table) → Rising (us ++ (t ∷ ts)) → has_table us (defined_by t) ≡ false
unfolding has_table table_of is_some
new_there [] t ts h = refl
new_there (x ∷ us) t ts h = go (eqb (defined_by x) (defined_by t)) refl (new_there us t ts (rest x (us ++ (t ∷ ts)) h))
  where
    go : (b : Bool) → eqb (defined_by x) (defined_by t) ≡ b → is_some (table_of us (defined_by t)) ≡ false
        → is_some (if b give (λ _. some x) else (λ _. table_of us (defined_by t))) ≡ false
    go true e n = let q : defined_by x ≡ defined_by t = eqb_true e in let l = lowest_first x us t ts h in absurd (omega (arith, q, l))
    go false e n = n

-- `before` as read_tables has it: the variable of the last of the tables, or 0
pub data Last : List Table → ℕ → Type 0 where
  none_yet_there : Last [] 0
  last : (us : List Table) (t : Table) → Last (us ++ (t ∷ [])) (defined_by t)

last_of : List Table → ℕ
last_of [] = 0
last_of (t ∷ []) = defined_by t
last_of (t ∷ u ∷ ts) = last_of (u ∷ ts)

last_of_more : (us : List Table) (t : Table) → last_of (us ++ (t ∷ [])) ≡ defined_by t
unfolding last_of
last_of_more [] t = refl
last_of_more (x ∷ []) t = refl
last_of_more (x ∷ y ∷ us) t = last_of_more (y ∷ us) t

is_last : {ts : List Table} {before : ℕ} → Last ts before → before ≡ last_of ts
unfolding last_of
is_last none_yet_there = refl
is_last (last us t) = sym (last_of_more us t)

pub last_is : (us : List Table) (t : Table) {before : ℕ} → Last (us ++ (t ∷ [])) before → before ≡ defined_by t
last_is us t l = is_last l ∙ last_of_more us t

pub last_below : {us : List Table} {before : ℕ} (t : Table) (ts : List Table) → Last us before → Rising (us ++ (t ∷ ts))
    → ltb (defined_by t) before ≡ false
last_below t ts none_yet_there h = otherwise (ltb (defined_by t) 0) (λ e. let l : defined_by t < 0 = ltb_true e in omega (arith, l))
last_below t ts (last us u) h =
    let l = next_higher us u t ts (subst Rising (append_assoc us (u ∷ []) (t ∷ ts)) h) in
    otherwise (ltb (defined_by t) (defined_by u)) (λ e. let m : defined_by t < defined_by u = ltb_true e in omega (arith, l, m))

-- a table that is neither tabled already nor lower rises
pub rises : {us : List Table} {before : ℕ} (t : Table) → Last us before → Rising us → has_table us (defined_by t) ≡ false
    → ltb (defined_by t) before ≡ false → Rising (us ++ (t ∷ []))
rises t none_yet_there h n l = tt
rises t (last us u) h n l =
    subst Rising (sym (append_assoc us (u ∷ []) (t ∷ []))) (one_more us u t h (omega (arith, not_same, not_lower)))
  where
    not_same : defined_by u ≢ defined_by t
    not_same e = true_not_false (has_there us u []) (rw (sym e) at n)

    not_lower : defined_by u ≤ defined_by t
    not_lower = elim (dec_le (defined_by u) (defined_by t)) [ yes m ↦ m | no m ↦ absurd (true_not_false (true_ltb (omega (arith, m))) l) ]

-- ---- a set that reads
module _ (ws : List ℕ) (vs : List Variable) where
  tables_rise : (left i : ℕ) (ts : List Table) (before : ℕ) → Last ts before → Rising ts
      → Gives (λ r. Rising r.0) (read_tables ws vs left i ts before)
  unfolding read_tables next_table
  tables_rise zero i ts before l h =
      branches (eqb (W.kind (word ws i)) 2) (λ _. past (next_table ws vs i ts before) (λ _. stops 5 i)) (λ _. gives (ts, i) h)
  tables_rise (suc left) i ts before l h =
      branches (eqb (W.kind (word ws i)) 2)
      (λ _. after (table_spans ws vs i (has_table ts (W.defined (word ws i))) (ltb (W.defined (word ws i)) before)) λ r p.
      let d = p.3.defines in
      let n : has_table ts (defined_by r.0) ≡ false = rw d at p.0 in
      let m : ltb (defined_by r.0) before ≡ false = rw d at p.1 in
      tables_rise left r.1 (ts ++ (r.0 ∷ [])) (W.defined (word ws i)) (rw d (last ts r.0)) (rises r.0 l h n m))
      (λ _. gives (ts, i) h)

pub rising : (ws : List ℕ) (z : TableSet) → read_words ws ≡ ok z → Rising z.tables
rising ws z e =
    let s = sections ws z e in
    given _ (tables_rise ws z.variables (count z) s.first [] 0 none_yet_there tt) s.tables

-- ---- "their sheets can't be laid together": tables in rising number have one sequence
here : (t : Table) (ts : List Table) → table_of (t ∷ ts) (defined_by t) ≡ some t
unfolding table_of
here t ts = rw (eqb_same (defined_by t))

none_of_none : (v : ℕ) → ◌≡◌ {A = Option Table} none (table_of [] v)
unfolding table_of
none_of_none v = refl

-- the tables behind t are of higher variables
none_up_to : (t : Table) (ts : List Table) (v : ℕ) → Rising (t ∷ ts) → v ≤ defined_by t → table_of ts v ≡ none
unfolding table_of
none_up_to t [] v h l = refl
none_up_to t (u ∷ us) v h l =
    rw (otherwise (eqb (defined_by u) v) (λ e. let q : defined_by u ≡ v = eqb_true e in omega (arith, q, l, h.0)))
    (none_up_to u us v h.1 (omega (arith, l, h.0)))

none_lower : (t : Table) (ts : List Table) (v : ℕ) → Rising (t ∷ ts) → v < defined_by t → table_of (t ∷ ts) v ≡ none
unfolding table_of
none_lower t ts v h l =
    rw (otherwise (eqb (defined_by t) v) (λ e. let q : defined_by t ≡ v = eqb_true e in omega (arith, q, l)))
    (none_up_to t ts v h (omega (arith, l)))

some_same : {A : Type 0} {a b : A} → ◌≡◌ {A = Option A} (some a) (some b) → a ≡ b
some_same e = cc

not_in_front : (t u : Table) (ts us : List Table) → Rising (u ∷ us) → ((v : ℕ) → table_of (t ∷ ts) v ≡ table_of (u ∷ us) v) → defined_by u ≤ defined_by t
not_in_front t u ts us h same =
    elim (dec_le (defined_by u) (defined_by t)) [
      | yes l ↦ l
      | no l ↦ absurd (none-ne-some t (sym (none_lower u us (defined_by t) h (omega (arith, l))) ∙ sym (same (defined_by t)) ∙ here t ts))
    ]

same_rest : (t : Table) (ts us : List Table) → Rising (t ∷ ts) → Rising (t ∷ us) → ((v : ℕ) → table_of (t ∷ ts) v ≡ table_of (t ∷ us) v)
    → (v : ℕ) → table_of ts v ≡ table_of us v
unfolding table_of
same_rest t ts us h k same v = go (dec_le v (defined_by t)) (same v)
  where
    go : Dec (v ≤ defined_by t) → table_of (t ∷ ts) v ≡ table_of (t ∷ us) v → table_of ts v ≡ table_of us v
    go (yes l) e = none_up_to t ts v h l ∙ sym (none_up_to t us v k l)
    go (no l) e = rw (otherwise (eqb (defined_by t) v) (λ e. let q : defined_by t ≡ v = eqb_true e in omega (arith, q, l))) at e

-- two lists of tables in rising number that have the same tables are the same list
pub one_sequence : (ts us : List Table) → Rising ts → Rising us → ((v : ℕ) → table_of ts v ≡ table_of us v) → ts ≡ us
one_sequence [] [] h k same = refl
one_sequence [] (u ∷ us) h k same = absurd (none-ne-some u (none_of_none (defined_by u) ∙ same (defined_by u) ∙ here u us))
one_sequence (t ∷ ts) [] h k same = absurd (none-ne-some t (none_of_none (defined_by t) ∙ sym (same (defined_by t)) ∙ here t ts))
one_sequence (t ∷ ts) (u ∷ us) h k same = go first k same (one_sequence ts us (rest t ts h) (rest u us k))
  where
    first : t ≡ u
    first =
        let l = not_in_front t u ts us k same in
        let m = not_in_front u t us ts h (λ v. sym (same v)) in
        let q : defined_by t ≡ defined_by u = omega (arith, l, m) in
        some_same (sym (here t ts) ∙ same (defined_by t) ∙ rw q (here u us))

    go : t ≡ u → Rising (u ∷ us) → ((v : ℕ) → table_of (t ∷ ts) v ≡ table_of (u ∷ us) v)
        → (((v : ℕ) → table_of ts v ≡ table_of us v) → ts ≡ us) → t ∷ ts ≡ u ∷ us
    go e k same ih =
        let j = subst (λ (x : Table). Rising (x ∷ us)) (sym e) k in
        let all = subst (λ (x : Table). (v : ℕ) → table_of (t ∷ ts) v ≡ table_of (x ∷ us) v) (sym e) same in
        rw (e, ih (same_rest t ts us h j all))
