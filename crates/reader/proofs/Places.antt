-- What the places of the tables say of the tables that the meaning reads.
use Rattle.std.specs.Prelude.{◌≡◌, refl, Bool, true, false, not, ◌&&◌, List, [], ◌∷◌, ◌++◌, ℕ, zero, suc, ◌≤◌, ◌<◌, eqb, length, get_or, set}
use Rattle.std.proofs.Math.Option.{Option, none, some}
use Rattle.std.proofs.Common.{sym, ap, ◌∙◌, arith, length-set, get_or-set_same, get_or-set_other, ne_eqb, eq-eqb}
use Rattle.std.proofs.Math.Decide.{ℕ_discrete}
use Rattle.std.proofs.lemmas.Bool.{not-true}
use Rattle.word.specs.Fields as W
use Rattle.word.specs.Limits as Max
use Rattle.meaning.specs.Answers.{fine, stop, ◌>>>◌, expect, if◌give◌else◌}
use Rattle.meaning.specs.Syntax.{Event, Variable, Table, Body}
use Rattle.meaning.specs.Lookup.{defined_by, table_of, is_some, has_table}
use Rattle.meaning.specs.Reading.{Read, word, fits, table_ok, table_fits, body_of, event_table_by, word_at, read_body, read_table, next_table, read_tables}
use Rattle.theory.specs.Tests.{and_true}
use Rattle.theory.specs.Readers.{word_then}
use Rattle.theory.specs.TablesRead.{defined_below}
use Rattle.theory.specs.Found.{fine_same, then_fine, expect_fine}
use Rattle.index.specs.Places.{Next, Refused, told, place_count}
use Rattle.index.specs.Indexed.{Placed, absent, there}
use Rattle.reader.specs.Tables.{is_placed, next_place, read_places}
use Rattle.reader.specs.Variables.{NoTables}
use Rattle.reader.proofs.TableLaws.{condition_rows, event_rows, condition_table_read, event_table_read}

-- each variable's entry against its table
abbrev pub Places : List ℕ → List Variable → List Table → List ℕ → Type 0
Places ws vs ts ps = (v : ℕ) → v < Max.max_variables → Placed ws vs (get_or ps v 0) (table_of ts v)

word_read : (ws kinds : List ℕ) (i w : ℕ) → word_at ws kinds i ≡ fine w → word ws i ≡ w
unfolding word_at
word_read ws kinds i w e = fine_same (then_fine (expect (fits kinds (word ws i)) 2 i) _ w e).2

-- ---- one entry
module _ (ws : List ℕ) (vs : List Variable) where
  placed_some : {p : ℕ} {o : Option Table} → Placed ws vs p o → is_some o ≡ not (eqb p 0)
  unfolding is_some
  placed_some absent = refl
  placed_some (there i j t e) = rw (ne_eqb (suc i) 0 (λ q. (let z : ⊥ = omega arith in z)))

  pub places_have : (ts : List Table) (ps : List ℕ) → Places ws vs ts ps → (v : ℕ) → v < Max.max_variables
      → has_table ts v ≡ is_placed ps v
  unfolding has_table is_placed
  places_have ts ps ix v l = placed_some (ix v l)

has_none : (o : Option Table) → is_some o ≡ false → o ≡ none
unfolding is_some
has_none none e = refl
has_none (some t) e = let z : ◌≡◌ {A = ℕ} 0 1 = cc in absurd (omega arith)

-- ---- the tables with one more
none_not_some : {A : Type 0} {a : A} → ◌≡◌ {A = Option A} (some a) none → ⊥
none_not_some e = let z : ◌≡◌ {A = ℕ} 0 1 = cc in omega arith

module _ (t : Table) (u : ℕ) where
  other_table : (ts : List Table) → eqb (defined_by t) u ≡ false → table_of (ts ++ (t ∷ [])) u ≡ table_of ts u
  unfolding table_of
  other_table [] e = rw e
  other_table (x ∷ ts) e = go (eqb (defined_by x) u) (other_table ts e)
    where
      go : (b : Bool) → table_of (ts ++ (t ∷ [])) u ≡ table_of ts u
          → (if b give (λ _. some x) else (λ _. table_of (ts ++ (t ∷ [])) u)) ≡ (if b give (λ _. some x) else (λ _. table_of ts u))
      go true h = refl
      go false h = h

  new_table : (ts : List Table) → eqb (defined_by t) u ≡ true → table_of ts u ≡ none → table_of (ts ++ (t ∷ [])) u ≡ some t
  unfolding table_of
  new_table [] e h = rw e
  new_table (x ∷ ts) e h = go (eqb (defined_by x) u) (new_table ts e) h
    where
      go : (b : Bool) → (table_of ts u ≡ none → table_of (ts ++ (t ∷ [])) u ≡ some t)
          → (if b give (λ _. some x) else (λ _. table_of ts u)) ≡ none
          → (if b give (λ _. some x) else (λ _. table_of (ts ++ (t ∷ [])) u)) ≡ some t
      go true ih h = absurd (none_not_some h)
      go false ih h = ih h

-- ---- a table that was read
event_defines : (b : Bool) (x : Body Event) → defined_by (event_table_by b x) ≡ x.variable
unfolding defined_by event_table_by
event_defines true x = refl
event_defines false x = refl

module _ (ws : List ℕ) (vs : List Variable) where
  body_defines : (w i j : ℕ) (t : Table) → read_body ws vs w i ≡ fine (t, j) → defined_by t ≡ W.defined w
  unfolding read_body defined_by body_of
  body_defines w i j t = go (eqb (W.sort w) 3)
    where
      go : (b : Bool) → (if b give (λ _. condition_table_read ws vs w i) else (λ _. event_table_read ws vs w i)) ≡ fine (t, j)
          → defined_by t ≡ W.defined w
      go true e =
          let d = then_fine (condition_rows ws vs w i) _ (t, j) e in
          sym (ap (λ (p : Table × ℕ). defined_by p.0) (fine_same d.2))
      go false e =
          let d = then_fine (event_rows ws vs w i) _ (t, j) e in
          sym (ap (λ (p : Table × ℕ). defined_by p.0) (fine_same d.2)) ∙ event_defines _ (body_of w d.0.0)

  record TableRead (i j : ℕ) (taken : Bool) (t : Table) : Type 0 where
    pub free : taken ≡ false
    pub below : W.defined (word ws i) < length vs
    pub body_read : read_body ws vs (word ws i) (suc i) ≡ fine (t, j)

  table_read : (i j : ℕ) (taken lower : Bool) (t : Table) → read_table ws vs i taken lower ≡ fine (t, j) → TableRead i j taken t
  unfolding read_table
  table_read i j taken lower t e =
      let w = word ws i in
      let a = then_fine (word_at ws (2 ∷ []) i) _ (t, j) e in
      let ew : w ≡ a.0 = word_read ws (2 ∷ []) i a.0 a.1 in
      let e' = rw (← ew) at a.2 in
      let b = then_fine (expect (table_ok vs w) 3 i) _ (t, j) e' in
      let c = then_fine (expect (table_fits vs w && not taken) 5 i) _ (t, j) b.2 in
      let d = then_fine (expect (not lower) 21 i) _ (t, j) c.2 in
      record {
        free = not-true taken (and_true (table_fits vs w) (not taken) (expect_fine _ 5 i _ c.1)).1;
        below = defined_below vs w (expect_fine _ 3 i _ b.1);
        body_read = d.2;
      }

  next_read : (i j : ℕ) (ps : List ℕ) (before : ℕ) (t : Table) → next_place ws vs i ps before ≡ fine (t, j)
      → TableRead i j (is_placed ps (W.defined (word ws i))) t
  unfolding next_place
  next_read i j ps before t e = table_read i j _ _ t e

  -- whether its variable is tabled already is asked only of a variable that is there
  table_asks : (i : ℕ) (a b lower : Bool) → (W.defined (word ws i) < length vs → a ≡ b) → read_table ws vs i a lower ≡ read_table ws vs i b lower
  unfolding read_table
  table_asks i a b lower h =
      word_then ws (2 ∷ []) i _ ∙ go (fits (2 ∷ []) (word ws i)) (table_ok vs (word ws i)) refl ∙ sym (word_then ws (2 ∷ []) i _)
    where
      asked : Bool → Bool → Bool → Read Table
      asked f t taken =
          expect f 2 i >>> λ _. expect t 3 i >>> λ _. expect (table_fits vs (word ws i) && not taken) 5 i >>> λ _.
          expect (not lower) 21 i >>> λ _. read_body ws vs (word ws i) (suc i)

      go : (f t : Bool) → table_ok vs (word ws i) ≡ t → asked f t a ≡ asked f t b
      go false t e = refl
      go true false e = refl
      go true true e = rw (h (defined_below vs (word ws i) e))

  -- its place goes to the entry of its variable
  grown : (ts : List Table) (ps : List ℕ) (i j : ℕ) (t : Table) → Places ws vs ts ps → length ps ≡ place_count
      → W.defined (word ws i) < Max.max_variables
      → TableRead i j (is_placed ps (W.defined (word ws i))) t
      → Places ws vs (ts ++ (t ∷ [])) (set ps (W.defined (word ws i)) (suc i))
  unfolding has_table
  grown ts ps i j t ix len l r u lu = go (ℕ_discrete u (W.defined (word ws i)))
    where
      is : defined_by t ≡ W.defined (word ws i)
      is = body_defines (word ws i) (suc i) j t r.body_read

      go : Dec (u ≡ W.defined (word ws i)) → Placed ws vs (get_or (set ps (W.defined (word ws i)) (suc i)) u 0) (table_of (ts ++ (t ∷ [])) u)
      go (yes e) =
          let n : table_of ts (W.defined (word ws i)) ≡ none
          = has_none (table_of ts (W.defined (word ws i))) (places_have ws vs ts ps ix (W.defined (word ws i)) l ∙ r.free) in
          rw (e, get_or-set_same ps (W.defined (word ws i)) (suc i) 0 (rw len (omega arith)), new_table t (W.defined (word ws i)) ts (eq-eqb (defined_by t) (W.defined (word ws i)) is) n)
          (there i j t r.body_read)
      go (no e) =
          rw (get_or-set_other ps (W.defined (word ws i)) u (suc i) 0 e, other_table t u ts (ne_eqb (defined_by t) u (λ q. e (sym q ∙ is))))
          (ix u lu)

-- ---- the two readings of tables agree
abbrev Agree : (ws : List ℕ) (vs : List Variable) → Read (List Table) → Read (List ℕ) → Type 0
Agree ws vs (fine a) (fine b) = (a.1 ≡ b.1) × Places ws vs a.0 b.0
Agree ws vs (stop k i) (stop l j) = (k ≡ l) × (i ≡ j)
Agree ws vs (fine a) (stop l j) = ⊥
Agree ws vs (stop k i) (fine b) = ⊥

module _ (ws : List ℕ) (vs : List Variable) (few : length vs ≤ Max.max_variables) where
  same_next : (i : ℕ) (ts : List Table) (ps : List ℕ) (before : ℕ) → Places ws vs ts ps → next_table ws vs i ts before ≡ next_place ws vs i ps before
  unfolding next_table next_place
  same_next i ts ps before ix = table_asks ws vs i _ _ _ (λ l. places_have ws vs ts ps ix (W.defined (word ws i)) (omega arith))

  agree : (l i : ℕ) (ts : List Table) (ps : List ℕ) (before : ℕ) → length ps ≡ place_count → Places ws vs ts ps
      → Agree ws vs (read_tables ws vs l i ts before) (read_places ws vs l i ps before)
  unfolding read_tables read_places
  agree zero i ts ps before len ix = rw (same_next i ts ps before ix) (go (eqb (W.kind (word ws i)) 2) (next_place ws vs i ps before))
    where
      go : (b : Bool) (m : Read Table)
          → Agree ws vs (if b give (λ _. m >>> λ _. stop 5 i) else (λ _. fine (ts, i))) (if b give (λ _. m >>> λ _. stop 5 i) else (λ _. fine (ps, i)))
      go true (fine r) = (refl, refl)
      go true (stop k x) = (refl, refl)
      go false m = (refl, ix)
  agree (suc l) i ts ps before len ix =
      rw (same_next i ts ps before ix)
      (go (eqb (W.kind (word ws i)) 2) (next_place ws vs i ps before) refl
      (λ t j r. agree l j (ts ++ (t ∷ [])) (set ps (W.defined (word ws i)) (suc i)) (W.defined (word ws i))
      (length-set ps (W.defined (word ws i)) (suc i) ∙ len) (grown ws vs ts ps i j t ix len (omega (arith, r.below)) r)))
    where
      Now : (t : Table) (j : ℕ) → Type 0
      Now t j = TableRead ws vs i j (is_placed ps (W.defined (word ws i))) t

      go : (b : Bool) (m : Read Table) → next_place ws vs i ps before ≡ m
          → ((t : Table) (j : ℕ) → Now t j
          → Agree ws vs (read_tables ws vs l j (ts ++ (t ∷ [])) (W.defined (word ws i))) (read_places ws vs l j (set ps (W.defined (word ws i)) (suc i)) (W.defined (word ws i))))
          → Agree ws vs (if b give (λ _. m >>> λ r. read_tables ws vs l r.1 (ts ++ (r.0 ∷ [])) (W.defined (word ws i))) else (λ _. fine (ts, i)))
          (if b give (λ _. m >>> λ r. read_places ws vs l r.1 (set ps (W.defined (word ws i)) (suc i)) (W.defined (word ws i))) else (λ _. fine (ps, i)))
      go true (fine r) e ih = ih r.0 r.1 (next_read ws vs i r.1 ps before r.0 e)
      go true (stop k x) e ih = (refl, refl)
      go false m e ih = (refl, ix)

  module _ (p₀ : List ℕ) (len : length p₀ ≡ place_count) (none_yet : NoTables p₀) where
    at_first : Places ws vs [] p₀
    unfolding table_of NoTables
    at_first v l = rw (none_yet v l) absent

    agreed : (n i : ℕ) → Agree ws vs (read_tables ws vs n i [] 0) (read_places ws vs n i p₀ 0)
    agreed n i = agree n i [] p₀ 0 len at_first

    -- what the answer of read_tables and what it wrote say of the meaning
    pub tables_stopped : (n i k x : ℕ) (ps : List ℕ) → told (Refused k x) ps ≡ read_places ws vs n i p₀ 0
        → read_tables ws vs n i [] 0 ≡ stop k x
    unfolding told
    tables_stopped n i k x ps e = go (read_tables ws vs n i [] 0) (rw (← e) at (agreed n i))
      where
        go : (m : Read (List Table)) → Agree ws vs m (stop k x) → m ≡ stop k x
        go (stop l y) (p, q) = rw (p, q)
        go (fine a) h = absurd h

    pub tables_read : (n i j : ℕ) (ps : List ℕ) → told (Next j) ps ≡ read_places ws vs n i p₀ 0
        → (ts : List Table) × (read_tables ws vs n i [] 0 ≡ fine (ts, j)) × Places ws vs ts ps
    unfolding told
    tables_read n i j ps e = go (read_tables ws vs n i [] 0) (rw (← e) at (agreed n i))
      where
        go : (m : Read (List Table)) → Agree ws vs m (fine (ps, j))
            → (ts : List Table) × (m ≡ fine (ts, j)) × Places ws vs ts ps
        go (stop l y) h = absurd h
        go (fine a) (p, q) = (a.0, ap (λ (y : ℕ). fine (a.0, y)) p, q)
