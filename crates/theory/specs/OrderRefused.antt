-- Document 02, request 2.7: the words are refused with 21 exactly at the first table word that is out of order.
use Prim.Native.Nat.{ℕ, zero, suc, ◌+◌, ◌≤◌, ◌<◌}
use Rattle.std.specs.Prelude.{◌≡◌, refl, ◌↔◌, Bool, true, false, ◌&&◌, List, [], ◌∷◌, ◌++◌, ltb, eqb, length, get_or}
use Rattle.std.proofs.Math.Path.{sym, ap, subst}
use Rattle.std.proofs.Common.{◌∙◌, inl, inr}
use Rattle.std.proofs.Math.Bool.{not}
use mathlib.Core.List.{append_assoc, append-nil}
use native.Mathlib.Omega.{arith}
use Rattle.word.specs.Fields as W
use Rattle.word.specs.Limits as Max
use Rattle.meaning.specs.Answers.{refuse, demand, Parse, fine, stop, ◌>>>◌, expect, parsed, if◌give◌else◌}
use Rattle.meaning.specs.Searches.{mem, within}
use Rattle.meaning.specs.Syntax.{Variable, Table}
use Rattle.meaning.specs.Lookup.{defined_by, has_table}
use Rattle.meaning.specs.Reading.{Read, word, fits, table_ok, table_fits, read_variables, read_body, read_table, next_table, read_tables, read_assertions, read_words}
use Rattle.meaning.specs.TableWords.{Follow, nothing, more}
use Rattle.meaning.specs.NumberOrder.{Rising, OutOfOrder}
use Rattle.theory.specs.Tests.{true_not_false, not_true, and_true, true_eqb, ltb_true, true_ltb, true_leb, within_true}
use Rattle.theory.specs.Found.{fine_not_stop, stop_same, refuse_same, ok_not_refuse, then_stop, expect_stop, bind_refuse, demand_ok, demand_refuse}
use Rattle.theory.specs.Readers.{given, word_then}
use Rattle.theory.specs.Sections.{parsed_fine}
use Rattle.theory.specs.TablesRead.{table_spans, read_at, untaken, only_kind}
use Rattle.theory.specs.WordStops.{Stops, reads, stops, plain_numbers, variables_stops, body_stops, assertions_stops}
use Rattle.theory.specs.NumberOrdered.{Last, none_yet_there, last, last_is, last_below, new_there, next_higher, rises}

-- ---- which reader stops with 21
stops_with : {A : Type 0} {m : Parse A} {ns : List ℕ} (n i : ℕ) → Stops ns m → m ≡ stop n i → mem n ns ≡ true
stops_with n i (reads a) e = absurd (fine_not_stop e)
stops_with n i (stops k j h) e = rw (stop_same e).0 at h

not_plain : mem 21 plain_numbers ≡ true → ⊥
unfolding mem
not_plain e = true_not_false e refl

never_21 : {A : Type 0} {m : Parse A} (k : ℕ) → Stops plain_numbers m → m ≡ stop 21 k → ⊥
never_21 k s e = not_plain (stops_with 21 k s e)

parsed_stop : {A : Type 0} (m : Parse A) (n k : ℕ) → parsed m ≡ refuse n (k ∷ []) → m ≡ stop n k
unfolding parsed
parsed_stop (fine a) n k e = absurd (ok_not_refuse e)
parsed_stop (stop m i) n k e =
    let q = refuse_same e in
    let h : i ≡ k = ap (λ (xs : List ℕ). get_or xs 0 0) q.1 in
    rw (q.0, h)

module _ (ws : List ℕ) (vs : List Variable) where
  -- reading a table stopped with 21
  record LowerAt (i : ℕ) (taken lower : Bool) (k : ℕ) : Type 0 where
    here : i ≡ k
    table_word : fits (2 ∷ []) (word ws i) ≡ true
    ranged : table_ok vs (word ws i) ≡ true
    suited : table_fits vs (word ws i) ≡ true
    untaken : taken ≡ false
    lower_one : lower ≡ true

  lower_at : (i : ℕ) (taken lower : Bool) (k : ℕ) → read_table ws vs i taken lower ≡ stop 21 k → LowerAt i taken lower k
  unfolding read_table
  lower_at i taken lower k e =
      let w = word ws i in
      let a = expect_stop (fits (2 ∷ []) w) 2 i _ 21 k (λ q. omega (arith, q)) (sym (word_then ws (2 ∷ []) i _) ∙ e) in
      let b = expect_stop (table_ok vs w) 3 i _ 21 k (λ q. omega (arith, q)) a.1 in
      let c = expect_stop (table_fits vs w && not taken) 5 i _ 21 k (λ q. omega (arith, q)) b.1 in
      let d = and_true (table_fits vs w) (not taken) c.0 in
      let f = last_test lower c.1 in
      record { here = f.1; table_word = a.0; ranged = b.0; suited = d.0; untaken = not_true taken d.1; lower_one = f.0 }
    where
      last_test : (l : Bool) → (expect (not l) 21 i >>> λ _. read_body ws vs (word ws i) (suc i)) ≡ stop 21 k → (l ≡ true) × (i ≡ k)
      last_test true q = (refl, (stop_same q).1)
      last_test false q = absurd (never_21 k (body_stops ws vs (word ws i) (suc i)) q)

  -- and back
  stops_lower : (i : ℕ) → fits (2 ∷ []) (word ws i) ≡ true → table_ok vs (word ws i) ≡ true → table_fits vs (word ws i) ≡ true
      → read_table ws vs i false true ≡ stop 21 i
  unfolding read_table
  stops_lower i f o s = word_then ws (2 ∷ []) i _ ∙ rw (f, o, s)

  follow_more : {a i j : ℕ} {t : Table} {ts : List Table} → Follow ws vs a ts i → read_table ws vs i false false ≡ fine (t, j)
      → Follow ws vs a (ts ++ (t ∷ [])) j
  follow_more nothing e = more e nothing
  follow_more (more d f) e = more d (follow_more f e)

-- ---- the tables
-- the variables' words have been read up to `first`
module _ (ws : List ℕ) (vs : List Variable) (first : ℕ) (some : 1 ≤ length ws) (few : length ws ≤ Max.max_words)
    (read : read_variables ws Max.max_variables 0 [] ≡ fine (vs, first)) where
  -- the table at i stopped with 21, behind those in ts
  next_lower : (i : ℕ) (ts : List Table) (before k : ℕ) → Last ts before → Rising ts → Follow ws vs first ts i
      → next_table ws vs i ts before ≡ stop 21 k → OutOfOrder ws k
  unfolding next_table
  next_lower i ts before k l h f e = go l h f (ltb_true a.lower_one) a.untaken
    where
      a : LowerAt ws vs i (has_table ts (W.defined (word ws i))) (ltb (W.defined (word ws i)) before) k
      a = lower_at ws vs i _ _ k e

      go : {us : List Table} {b : ℕ} → Last us b → Rising us → Follow ws vs first us i → W.defined (word ws i) < b
          → has_table us (W.defined (word ws i)) ≡ false → OutOfOrder ws k
      go none_yet_there h f m n = absurd (omega (arith, m))
      go (last us t) h f m n =
          subst (OutOfOrder ws) a.here (record {
            some = some;
            few = few;
            variables = vs;
            first = first;
            variables_read = read;
            sooner = us;
            before = t;
            follow = f;
            rising = h;
            table_word = a.table_word;
            ranged = a.ranged;
            suited = a.suited;
            untabled = n;
            lower = m;
          })

  -- behind it, where it was read
  one_further : (i : ℕ) (ts : List Table) (before : ℕ) → Last ts before → Rising ts → Follow ws vs first ts i
      → (r : Table × ℕ) → next_table ws vs i ts before ≡ fine r
      → Last (ts ++ (r.0 ∷ [])) (W.defined (word ws i)) × Rising (ts ++ (r.0 ∷ [])) × Follow ws vs first (ts ++ (r.0 ∷ [])) r.1
  unfolding next_table
  one_further i ts before l h f r q =
      let p = given _ (table_spans ws vs i _ _) q in
      let d = p.3.defines in
      let n : has_table ts (defined_by r.0) ≡ false = rw d at p.0 in
      let m : ltb (defined_by r.0) before ≡ false = rw d at p.1 in
      (rw d (last ts r.0), rises r.0 l h n m, follow_more ws vs f (untaken ws vs i _ _ r p.0 p.1 q))

  -- the tables from i on, of which the one at i is followed by what `on` reads
  next_or_after : (i : ℕ) (ts : List Table) (before k : ℕ) (on : Table × ℕ → Read (List Table)) → Last ts before → Rising ts → Follow ws vs first ts i
      → ((r : Table × ℕ) → next_table ws vs i ts before ≡ fine r → on r ≡ stop 21 k → OutOfOrder ws k)
      → (if eqb (W.kind (word ws i)) 2 give (λ _. next_table ws vs i ts before >>> on) else (λ _. fine (ts, i))) ≡ stop 21 k → OutOfOrder ws k
  next_or_after i ts before k on l h f after = go (eqb (W.kind (word ws i)) 2)
    where
      go : (b : Bool) → (if b give (λ _. next_table ws vs i ts before >>> on) else (λ _. fine (ts, i))) ≡ stop 21 k → OutOfOrder ws k
      go true q =
          elim (then_stop (next_table ws vs i ts before) on 21 k q) [
            | inl s ↦ next_lower i ts before k l h f s
            | inr s ↦ after s.0 s.1 s.2
          ]
      go false q = absurd (fine_not_stop q)

  tables_lower : (left i : ℕ) (ts : List Table) (before k : ℕ) → Last ts before → Rising ts → Follow ws vs first ts i
      → read_tables ws vs left i ts before ≡ stop 21 k → OutOfOrder ws k
  unfolding read_tables
  tables_lower zero i ts before k l h f e =
      next_or_after i ts before k (λ _. stop 5 i) l h f (λ r q s. absurd (let x : ◌≡◌ {A = ℕ} 5 21 = (stop_same s).0 in omega (arith, x))) e
  tables_lower (suc left) i ts before k l h f e =
      next_or_after i ts before k (λ r. read_tables ws vs left r.1 (ts ++ (r.0 ∷ [])) (W.defined (word ws i))) l h f
      (λ r q. let m = one_further i ts before l h f r q in
      tables_lower left r.1 (ts ++ (r.0 ∷ [])) (W.defined (word ws i)) k m.0 m.1 m.2) e

-- ---- and back: tables in rising number are read as they follow each other
module _ (ws : List ℕ) (vs : List Variable) where
  -- the variables up to the last table's
  passed : {ts : List Table} {before : ℕ} → Last ts before → ℕ
  passed none_yet_there = 0
  passed (last us t) = suc (defined_by t)

  passed_by : {us : List Table} {before : ℕ} (l : Last us before) (t : Table) (ts : List Table) → Rising (us ++ (t ∷ ts)) → passed l ≤ defined_by t
  unfolding passed
  passed_by none_yet_there t ts h = let z : 0 ≤ defined_by t = omega arith in z
  passed_by (last us u) t ts h = next_higher us u t ts (subst Rising (append_assoc us (u ∷ []) (t ∷ ts)) h)

  -- the tables ts stand from i to k behind those in us, and reading has come to the last of them
  record Reached (left i k before : ℕ) (us ts : List Table) : Type 0 where
    more_left : ℕ
    now : ℕ
    ends : Last (us ++ ts) now
    on : read_tables ws vs left i us before ≡ read_tables ws vs more_left k (us ++ ts) now

  reached : {i k : ℕ} {ts : List Table} → Follow ws vs i ts k → (left before : ℕ) (us : List Table) (l : Last us before)
      → Rising (us ++ ts) → length vs ≤ left + passed l → Reached left i k before us ts
  unfolding read_tables next_table passed
  reached nothing left before us l h room = record { more_left = left; now = before; ends = rw (append-nil us) l; on = rw (append-nil us) refl }
  reached (more {i} {j} {k} {t} {ts} e f) zero before us l h room =
      let p = given _ (table_spans ws vs i false false) e in
      absurd (omega (arith, p.2, p.3.defines, room, passed_by l t ts h))
  reached (more {i} {j} {k} {t} {ts} e f) (suc left) before us l h room =
      let a = read_at ws vs i t j e in
      let n : has_table us (W.defined (word ws i)) ≡ false = rw a.defines (new_there us t ts h) in
      let m : ltb (W.defined (word ws i)) before ≡ false = rw a.defines (last_below t ts l h) in
      let s : us ++ (t ∷ ts) ≡ (us ++ (t ∷ [])) ++ ts = sym (append_assoc us (t ∷ []) ts) in
      let r = reached f left (defined_by t) (us ++ (t ∷ [])) (last us t) (subst Rising s h) (omega (arith, room, passed_by l t ts h)) in
      record {
        more_left = r.more_left;
        now = r.now;
        ends = rw s r.ends;
        on = rw (true_eqb a.kind, n, m, e, a.defines, s) r.on;
      }

  -- the table word at k is lower than the table before
  lower_stops : (left k : ℕ) (us : List Table) (t : Table) (before : ℕ) → Last (us ++ (t ∷ [])) before → fits (2 ∷ []) (word ws k) ≡ true
      → table_ok vs (word ws k) ≡ true → table_fits vs (word ws k) ≡ true → has_table (us ++ (t ∷ [])) (W.defined (word ws k)) ≡ false
      → W.defined (word ws k) < defined_by t → read_tables ws vs left k (us ++ (t ∷ [])) before ≡ stop 21 k
  unfolding read_tables next_table fits
  lower_stops left k us t before l f o s n m = go left
    where
      table : eqb (W.kind (word ws k)) 2 ≡ true
      table = true_eqb (only_kind ws 2 k (and_true (mem (W.kind (word ws k)) (2 ∷ [])) (W.spare_clear (word ws k)) f).0)

      below : ltb (W.defined (word ws k)) before ≡ true
      below = true_ltb (omega (arith, m, last_is us t l))

      go : (left : ℕ) → read_tables ws vs left k (us ++ (t ∷ [])) before ≡ stop 21 k
      go zero = rw (table, n, below, stops_lower ws vs k f o s)
      go (suc left) = rw (table, n, below, stops_lower ws vs k f o s)

-- ---- the words
module _ (ws : List ℕ) (k : ℕ) where
  -- refusal 21 is that of a table word
  from_tables : (p : List Variable × ℕ) → 1 ≤ length ws → length ws ≤ Max.max_words
      → read_variables ws Max.max_variables 0 [] ≡ fine p → read_tables ws p.0 (length p.0) p.1 [] 0 ≡ stop 21 k → OutOfOrder ws k
  from_tables p some few e f = tables_lower ws p.0 p.1 some few e (length p.0) p.1 [] 0 k none_yet_there tt nothing f

  out_of_order : read_words ws ≡ refuse 21 (k ∷ []) → OutOfOrder ws k
  unfolding read_words
  out_of_order e =
      elim (bind_refuse (demand (within 1 Max.max_words (length ws)) 1 (length ws ∷ [])) _ 21 (k ∷ []) e) [
        | inl a ↦ absurd (let x : ◌≡◌ {A = ℕ} 1 21 = (demand_refuse (within 1 Max.max_words (length ws)) 1 21 (length ws ∷ []) (k ∷ []) a).1 in omega (arith, x))
        | inr a ↦
            let l = within_true 1 Max.max_words (length ws) (demand_ok (within 1 Max.max_words (length ws)) 1 (length ws ∷ []) a.1) in
            elim (bind_refuse (parsed (read_variables ws Max.max_variables 0 [])) _ 21 (k ∷ []) a.2) [
              | inl b ↦ absurd (never_21 k (variables_stops ws Max.max_variables 0 []) (parsed_stop _ 21 k b))
              | inr b ↦
                  elim (bind_refuse (parsed (read_tables ws b.0.0 (length b.0.0) b.0.1 [] 0)) _ 21 (k ∷ []) b.2) [
                    | inl c ↦ from_tables b.0 l.0 l.1 (parsed_fine _ b.0 b.1) (parsed_stop _ 21 k c)
                    | inr c ↦
                        elim (bind_refuse (parsed (read_assertions ws b.0.0 Max.max_assertions c.0.1)) _ 21 (k ∷ []) c.2) [
                          | inl d ↦ absurd (never_21 k (assertions_stops ws b.0.0 Max.max_assertions c.0.1) (parsed_stop _ 21 k d))
                          | inr d ↦ absurd (ok_not_refuse d.2)
                        ]
                  ]
            ]
      ]

  order_refused : OutOfOrder ws k → read_words ws ≡ refuse 21 (k ∷ [])
  unfolding read_words parsed within
  order_refused o =
      let vs = o.variables in
      let ts = o.sooner ++ (o.before ∷ []) in
      let r = reached ws vs o.follow (length vs) 0 [] none_yet_there o.rising (omega arith) in
      rw (true_leb o.some, true_leb o.few, o.variables_read, r.on, lower_stops ws vs r.more_left k o.sooner o.before r.now r.ends o.table_word o.ranged o.suited o.untabled o.lower)

  -- 21 is what the words are refused with exactly where the first table word out of order stands
  pub order_refused_exactly : (read_words ws ≡ refuse 21 (k ∷ [])) ↔ OutOfOrder ws k
  order_refused_exactly = (out_of_order, order_refused)
