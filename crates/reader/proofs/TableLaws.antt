-- Laws of read_table and read_tables, one for each way out.
use Rattle.std.specs.Prelude.{◌≡◌, refl, Bool, true, false, not, ◌&&◌, List, [], ◌∷◌, ℕ, zero, suc, ◌+◌, ◌-◌, ◌≤◌, ◌<◌, eqb, ltb, length, get_or, set, Result, Ok, Err}
use Rattle.std.proofs.Common.{sym, ap, ◌∙◌, arith, add-one, ne_eqb, eq-eqb, lt-ltb, le-ltb}
use Rattle.std.proofs.lemmas.Bool.{not-true, not-false}
use Rattle.word.specs.Fields as W
use Rattle.word.specs.Kinds.{table_type_number}
use Rattle.word.specs.Limits as Max
use Rattle.meaning.specs.Answers.{Parse, fine, stop, ◌>>>◌, expect, if◌give◌else◌}
use Rattle.meaning.specs.Syntax.{Condition, Event, Variable, Row, Table, condition_table}
use Rattle.meaning.specs.Reading.{Read, word, fits, table_ok, table_fits, body_of, event_table_by, word_at, read_condition, read_event, read_rows, read_body, read_table}
use Rattle.theory.specs.Loops.{left}
use Rattle.theory.specs.Readers.{word_then}
use Rattle.theory.specs.TablesRead.{defined_below}
use Rattle.index.specs.Places.{Reached, Next, Refused, reach, told, place_count, variables_to}
use Rattle.index.proofs.Laws.{variables_length, variables_kept}
use Rattle.reader.specs.declared.faults.Fault.{Fault}
use Rattle.reader.specs.declared.faults.Fault.TheVariants.{Fit, Order}
use Rattle.reader.specs.Faults.{refusal, carried, reached}
use Rattle.reader.specs.First.{first_word, first_said}
use Rattle.reader.specs.declared.headings.Heading.{Heading}
use Rattle.reader.specs.Headings.{HeadingOf, HeadingAs}
use Rattle.reader.specs.Formulas.{rows_reach}
use Rattle.reader.specs.Tables.{is_placed, next_place, read_places}
use Rattle.reader.proofs.TestLaws.{kind_past}
use Rattle.reader.proofs.Answers.{made_reach, refused_not_next}

-- ---- a table: its rows as the meaning reads them, and the table made of them
module _ (ws : List ℕ) (vs : List Variable) (w i : ℕ) where
  abbrev pub condition_rows : Read (List (Row Condition))
  condition_rows = read_rows ws vs (read_condition ws vs Max.max_depth) (W.defined w) (W.class_read w) Max.max_rows i

  abbrev pub event_rows : Read (List (Row Event))
  event_rows = read_rows ws vs (read_event ws vs Max.max_depth) (W.defined w) (W.class_read w) Max.max_rows i

  abbrev pub condition_table_read : Read Table
  condition_table_read = condition_rows >>> λ r. fine (condition_table (body_of w r.0), r.1)

  abbrev pub event_table_read : Read Table
  event_table_read = event_rows >>> λ r. fine (event_table_by (eqb (W.sort w) 1) (body_of w r.0), r.1)

  pub body_reach : rows_reach ws vs (W.sort w) (W.defined w) (W.class_read w) Max.max_rows i ≡ reach (read_body ws vs w i)
  unfolding read_body rows_reach
  body_reach = go (eqb (W.sort w) 3)
    where
      go : (b : Bool)
          → (if b give (λ _. reach condition_rows) else (λ _. reach event_rows))
          ≡ reach (if b give (λ _. condition_table_read) else (λ _. event_table_read))
      go true = sym (made_reach condition_rows _)
      go false = sym (made_reach event_rows _)

-- the two tests of the fields of the word at i, then m
abbrev tested : {A : Type 0} → Bool → Bool → ℕ → Read A → Read A
tested c d i m = expect c 3 i >>> λ _. expect d 5 i >>> λ _. m

not_not : (a : Bool) → not (not a) ≡ a
not_not true = refl
not_not false = refl

-- a table, which r is the first word of
module _ (ws : List ℕ) (vs : List Variable) (at : ℕ) (ps : List ℕ) (before : ℕ) (r : Result ℕ Fault) (er : first_said r ≡ first_word ws (2 ∷ []) 1 at) where
  -- what comes after the tests of its fields, and after its first word
  abbrev in_order : Read Table
  in_order = expect (not (ltb (W.defined (word ws at)) before)) 21 at >>> λ _. read_body ws vs (word ws at) (suc at)

  abbrev after : Read Table
  after = tested (table_ok vs (word ws at)) (table_fits vs (word ws at) && not (is_placed ps (W.defined (word ws at)))) at in_order

  table_begins : reach (first_said r >>> λ _. after) ≡ reach (next_place ws vs at ps before)
  unfolding next_place read_table word_at
  table_begins = ap reach (rw er (go (fits (2 ∷ []) (word ws at))) ∙ sym (word_then ws (2 ∷ []) at _))
    where
      go : (b : Bool)
          → (((expect b 2 at >>> λ _. fine (word ws at)) >>> λ w. expect (ltb 0 1) 4 at >>> λ _. fine w) >>> λ _. after) ≡ (expect b 2 at >>> λ _. after)
      go true = refl
      go false = refl

  pub table_stops : (q : Fault) → r ≡ Err q → reached (Err q) ≡ reach (next_place ws vs at ps before)
  unfolding first_said reached reach
  table_stops q e = let h : reached (Err q) ≡ reach (first_said r >>> λ _. after) = rw e in h ∙ table_begins

  module _ (w : ℕ) (e : r ≡ Ok w) where
    begun : reach after ≡ reach (next_place ws vs at ps before)
    unfolding first_said
    begun = let h : reach after ≡ reach (first_said r >>> λ _. after) = rw e in h ∙ table_begins

    pub table_range : (q : Fault) → HeadingAs vs (word ws at) at (Err q) → reached (Err q) ≡ reach (next_place ws vs at ps before)
    unfolding HeadingAs reached refusal carried reach
    table_range q x = let h : reached (Err q) ≡ reach after = rw (x.1, x.0) in h ∙ begun

    module _ (h : Heading) (eh : HeadingAs vs (word ws at) at (Ok h)) (p : ℕ) (ep : p ≡ get_or ps h.variable 0)
        (s : Bool) (es : (x : ℕ) → HeadingOf x h → s ≡ table_fits vs x) where
      ranged : (table_ok vs (word ws at) ≡ true) × HeadingOf (word ws at) h
      unfolding HeadingAs
      ranged = eh

      suited : (b : Bool) → (s && eqb p 0) ≡ b → (table_fits vs (word ws at) && not (is_placed ps (W.defined (word ws at)))) ≡ b
      unfolding is_placed
      suited b e =
          rw (not_not (eqb (get_or ps (W.defined (word ws at)) 0) 0), ← es (word ws at) ranged.1, ← ranged.1.variable_is, ← ep) e

      pub table_unsuited : not (s && eqb p 0) ≡ true → reached (Err (Fit at)) ≡ reach (next_place ws vs at ps before)
      unfolding reached refusal carried reach
      table_unsuited n = let h : reached (Err (Fit at)) ≡ reach after = rw (ranged.0, suited false (not-true _ n)) in h ∙ begun

      module _ (good : not (s && eqb p 0) ≡ false) where
        all_passed : reach in_order ≡ reach (next_place ws vs at ps before)
        all_passed = let h : reach in_order ≡ reach after = rw (ranged.0, suited true (not-false _ good)) in h ∙ begun

        pub table_lower : h.variable < before → reached (Err (Order at)) ≡ reach (next_place ws vs at ps before)
        unfolding reached refusal carried reach
        table_lower l =
            let first : reached (Err (Order at)) ≡ reach in_order = rw (← ranged.1.variable_is, lt-ltb h.variable before l) in
            first ∙ all_passed

        pub table_on : (c : Result ℕ Fault) → before ≤ h.variable
            → reached c ≡ rows_reach ws vs (table_type_number h.table_type) h.variable h.class_read Max.max_rows (at + 1)
            → reached c ≡ reach (next_place ws vs at ps before)
        table_on c l ec =
            let rows : rows_reach ws vs (table_type_number h.table_type) h.variable h.class_read Max.max_rows (at + 1) ≡ reach (read_body ws vs (word ws at) (suc at))
            = rw (ranged.1.type_is, ranged.1.variable_is, ranged.1.class_is, add-one at) (body_reach ws vs (word ws at) (suc at)) in
            let first : reach (read_body ws vs (word ws at) (suc at)) ≡ reach in_order = rw (← ranged.1.variable_is, le-ltb h.variable before l) in
            ec ∙ rows ∙ first ∙ all_passed

pub ruleset table_laws = (table_stops, table_range, table_unsuited, table_lower, table_on)

-- ---- a table that was read is of a variable that is there
module _ (ws : List ℕ) (vs : List Variable) (at : ℕ) (taken lower : Bool) (j : ℕ) where
  not_in_range : (f b : Bool) → fits (2 ∷ []) (word ws at) ≡ f → table_ok vs (word ws at) ≡ b
      → reach (read_table ws vs at taken lower) ≡ Next j → b ≡ true
  unfolding read_table word_at reach
  not_in_range f true e r h = refl
  not_in_range true false e r h = absurd (refused_not_next (rw (e, r) at h))
  not_in_range false false e r h = absurd (refused_not_next (rw e at h))

  table_below : reach (read_table ws vs at taken lower) ≡ Next j → W.defined (word ws at) < length vs
  table_below h = defined_below vs (word ws at) (not_in_range _ _ refl refl h)

pub store_in : (ws ps : List ℕ) (n on before w v j : ℕ) → w ≡ word ws on → v ≡ W.defined w
    → reached (Ok j) ≡ reach (next_place ws (variables_to ws ps n) on ps before)
    → n ≤ Max.max_variables → v < Max.max_variables
unfolding next_place reached
store_in ws ps n on before w v j ew ev ea h =
    let b : W.defined (word ws on) < n = rw (variables_length ws ps n) at (table_below ws (variables_to ws ps n) on _ _ j (sym ea)) in
    rw (ev, ew) (omega arith)

pub store_fits : (ws ps : List ℕ) (n on before w v j : ℕ) → w ≡ word ws on → v ≡ W.defined w
    → reached (Ok j) ≡ reach (next_place ws (variables_to ws ps n) on ps before)
    → n ≤ Max.max_variables → length ps ≡ place_count → v < length ps
store_fits ws ps n on before w v j ew ev ea h l = let b = store_in ws ps n on before w v j ew ev ea h in rw l (omega arith)

-- ---- the tables: what is left to read from here is the whole reading
abbrev on_reach : {A : Type 0} → Reached → (ℕ → Parse A) → Parse A
on_reach (Next j) f = f j
on_reach (Refused k i) f = stop k i

bind_reach : {A B : Type 0} (m : Read A) (f : A × ℕ → Parse B) (rec : ℕ → Parse B) → ((p : A × ℕ) → f p ≡ rec p.1)
    → m >>> f ≡ on_reach (reach m) rec
unfolding reach
bind_reach (fine p) f rec h = h p
bind_reach (stop k i) f rec h = refl

module _ (ws : List ℕ) (vs : List Variable) where
  tables_ended : (l on : ℕ) (ps : List ℕ) (before : ℕ) → eqb (W.kind (word ws on)) 2 ≡ false
      → read_places ws vs l on ps before ≡ fine (ps, on)
  unfolding read_places
  tables_ended zero on ps before e = rw e
  tables_ended (suc l) on ps before e = rw e

  tables_step : (l on : ℕ) (ps : List ℕ) (before : ℕ) → eqb (W.kind (word ws on)) 2 ≡ true
      → read_places ws vs (suc l) on ps before
      ≡ on_reach (reach (next_place ws vs on ps before))
      (λ j. read_places ws vs l j (set ps (W.defined (word ws on)) (suc on)) (W.defined (word ws on)))
  unfolding read_places
  tables_step l on ps before e = rw e (bind_reach (next_place ws vs on ps before) _ _ (λ p. refl))

  tables_last : (on : ℕ) (ps : List ℕ) (before : ℕ) → eqb (W.kind (word ws on)) 2 ≡ true
      → read_places ws vs 0 on ps before ≡ on_reach (reach (next_place ws vs on ps before)) (λ j. stop 5 on)
  unfolding read_places
  tables_last on ps before e = rw e (bind_reach (next_place ws vs on ps before) _ _ (λ p. refl))

-- p₀ are the places where the reading of tables began
module _ (ws p₀ ps : List ℕ) (n i on before : ℕ) (all : Read (List ℕ)) (inv : read_places ws (variables_to ws p₀ n) (n - i) on ps before ≡ all) where
  pub tables_past : length ws ≤ on → told (reached (Ok on)) ps ≡ all
  unfolding told reached
  tables_past h = sym (tables_ended ws (variables_to ws p₀ n) (n - i) on ps before (rw (kind_past ws on h))) ∙ inv

  module _ (w k : ℕ) (ew : w ≡ word ws on) (ek : k ≡ W.kind w) where
    pub tables_end : (k ≡ 2 → ⊥) → told (reached (Ok on)) ps ≡ all
    unfolding told reached
    tables_end nk = sym (tables_ended ws (variables_to ws p₀ n) (n - i) on ps before (rw (← ew, ← ek) (ne_eqb k 2 nk))) ∙ inv

    module _ (e2 : k ≡ 2) (kept : variables_to ws ps n ≡ variables_to ws p₀ n) where
      turn : (r : Reached) → r ≡ reach (next_place ws (variables_to ws ps n) on ps before)
          → i < n → on_reach r (λ j. read_places ws (variables_to ws p₀ n) (n - (i + 1)) j (set ps (W.defined (word ws on)) (suc on)) (W.defined (word ws on))) ≡ all
      turn r ea h =
          rw (ea, kept)
          (sym (tables_step ws (variables_to ws p₀ n) (n - (i + 1)) on ps before (rw (← ew, ← ek) (eq-eqb k 2 e2))) ∙ (rw (left n i h) at inv))

      last : (r : Reached) → r ≡ reach (next_place ws (variables_to ws ps n) on ps before) → n ≤ i → on_reach r (λ j. stop 5 on) ≡ all
      last r ea h =
          let z : n - i ≡ 0 = omega arith in
          rw (ea, kept) (sym (tables_last ws (variables_to ws p₀ n) on ps before (rw (← ew, ← ek) (eq-eqb k 2 e2))) ∙ (rw z at inv))

      pub tables_refused : (q x : ℕ) → Refused q x ≡ reach (next_place ws (variables_to ws ps n) on ps before) → i < n → told (Refused q x) ps ≡ all
      unfolding told
      tables_refused q x ea h = turn _ ea h

      pub tables_on : (v j : ℕ) → reached (Ok j) ≡ reach (next_place ws (variables_to ws ps n) on ps before) → i < n → v ≡ W.defined w
          → read_places ws (variables_to ws p₀ n) (n - (i + 1)) j (set ps v (on + 1)) v ≡ all
      unfolding reached
      tables_on v j ea h ev = rw (ev, ew, add-one on) (turn _ ea h)

      pub tables_over : (j : ℕ) → reached (Ok j) ≡ reach (next_place ws (variables_to ws ps n) on ps before) → n ≤ i → told (reached (Err (Fit on))) ps ≡ all
      unfolding told reached refusal carried
      tables_over j ea h = last _ ea h

      pub tables_last_refused : (q x : ℕ) → Refused q x ≡ reach (next_place ws (variables_to ws ps n) on ps before) → n ≤ i → told (Refused q x) ps ≡ all
      unfolding told
      tables_last_refused q x ea h = last _ ea h

      -- of a fault of the code
      pub tables_fault : (q : Fault) → reached (Err q) ≡ reach (next_place ws (variables_to ws ps n) on ps before) → i < n → told (reached (Err q)) ps ≡ all
      unfolding reached
      tables_fault q ea h = tables_refused (refusal q) (carried q) ea h

      pub tables_last_fault : (q : Fault) → reached (Err q) ≡ reach (next_place ws (variables_to ws ps n) on ps before) → n ≤ i → told (reached (Err q)) ps ≡ all
      unfolding reached
      tables_last_fault q ea h = tables_last_refused (refusal q) (carried q) ea h

-- the place of a table is no place of a word
pub tables_kept : (ws p₀ ps : List ℕ) (n on before w v j x : ℕ) → w ≡ word ws on → v ≡ W.defined w
    → reached (Ok j) ≡ reach (next_place ws (variables_to ws ps n) on ps before)
    → n ≤ Max.max_variables → variables_to ws ps n ≡ variables_to ws p₀ n
    → variables_to ws (set ps v x) n ≡ variables_to ws p₀ n
tables_kept ws p₀ ps n on before w v j x ew ev ea h kept =
    variables_kept ws ps n v x (store_in ws ps n on before w v j ew ev ea h) ∙ kept

pub ruleset tables_laws = (tables_past, tables_end, tables_fault, tables_on, tables_last_fault, tables_over, tables_kept, store_fits)
