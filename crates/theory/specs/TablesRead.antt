-- The words of a set that reads, by their kinds: variables, then tables one after another, then assertions to the end. So the place of a
-- table can be told from the kinds of words, and reading took just the words from there to the next table, assertion or the end.
use Prim.Native.Nat.{ℕ, zero, suc, ◌≤◌, ◌<◌}
use Rattle.std.specs.Prelude.{◌≡◌, ◌⊎◌, Bool, true, ◌&&◌, ◌||◌, leb, ltb}
use Rattle.std.proofs.Math.Path.{refl, sym, ap, subst}
use Rattle.std.proofs.Common.{◌∙◌, inl, not-suc-le-zero}
use Rattle.std.proofs.Math.Logic.{inr}
use Rattle.std.proofs.Math.Bool.{false, not}
use mathlib.Core.List.{List, [], ◌∷◌, ◌++◌, append_assoc, append-nil}
use native.Mathlib.Omega.{arith}
use Rattle.std.proofs.Math.Decide.{dec_le}
use Rattle.std.proofs.Math.Dec.{eqb}
use Rattle.std.proofs.Math.ListN.{length}
use Rattle.word.specs.Fields as W
use Rattle.word.specs.Limits as Max
use Rattle.meaning.specs.Answers.{ok, fine, ◌>>>◌, expect}
use Rattle.meaning.specs.Searches.{mem, within}
use Rattle.meaning.specs.Syntax.{Event, Variable, Body, Table, condition_table, TableSet}
use Rattle.meaning.specs.Lookup.{defined_by, has_table, count}
use Rattle.meaning.specs.Reading.{Read, word, fits, condition_kinds, event_kinds, condition_by, event_by, test_ok, variable_ok, row_ok, rows_by, body_of, event_table_by, table_ok, table_fits, word_at, read_variables, read_condition, read_event, read_row, read_rows, read_body, read_table, next_table, read_tables, read_assertion, read_assertions, read_words}
use Rattle.meaning.specs.TableWords.{Follow, nothing, more}
use Rattle.theory.specs.Tests.{otherwise, true_not_false, not_true, and_true, eqb_true, leb_true, ltb_true, below_suc, all_of, mem_among, mem_cons, mem_none}
use Rattle.theory.specs.Sections.{sections}
use Rattle.theory.specs.Readers.{Gives, gives, stops, expected, after, past, so, branches, decides, given_as, given}

-- the kinds of the words that follow a table word in its table: rows and formulas
abbrev pub body_kinds : List ℕ
body_kinds = 3 ∷ 4 ∷ 5 ∷ 6 ∷ 7 ∷ 8 ∷ 9 ∷ []

event_defined : (b : Bool) (t : Body Event) → defined_by (event_table_by b t) ≡ t.variable
unfolding event_table_by defined_by
event_defined true t = refl
event_defined false t = refl

-- a table word whose fields are in range is of a variable that is there
pub defined_below : (vs : List Variable) (w : ℕ) → table_ok vs w ≡ true → W.defined w < length vs
unfolding table_ok
defined_below vs w e =
    let a = and_true _ (eqb (W.class_read w) Max.any || ltb (W.class_read w) (length vs)) e in
    ltb_true (and_true (within 1 3 (W.sort w)) (ltb (W.defined w) (length vs)) a.0).1

module _ (ws : List ℕ) where
  abbrev pub Kind : ℕ → ℕ
  Kind k = W.kind (word ws k)

  -- from i up to j stand words of a table's body, one at least
  pub record Spans (i j : ℕ) : Type 0 where
    pub some : i < j
    pub kinds : (k : ℕ) → i ≤ k → k < j → mem (Kind k) body_kinds ≡ true

  one_word : (kinds : List ℕ) (i : ℕ) → all_of (λ k. mem k body_kinds) kinds ≡ true → mem (Kind i) kinds ≡ true → Spans i (suc i)
  one_word kinds i sub h = record {
    some = omega arith;
    kinds = λ k l m.
        let e : i ≡ k = omega arith in
        subst (λ (n : ℕ). mem (Kind n) body_kinds ≡ true) e (mem_among (Kind i) kinds body_kinds sub h);
  }

  joined : {i j k : ℕ} → Spans i j → Spans j k → Spans i k
  joined {i} {j} {k} p q = record {
    some = omega (arith, p.some, q.some);
    kinds = λ n l m. elim (dec_le (suc n) j) [ yes h ↦ p.kinds n l h | no h ↦ q.kinds n (omega arith) m ];
  }

  -- no word of another kind stands among them, as of a table (2) or an assertion (10)
  pub other_than : (n k : ℕ) → mem n body_kinds ≡ false → mem (Kind k) body_kinds ≡ true → eqb (Kind k) n ≡ false
  other_than n k f h =
      otherwise (eqb (Kind k) n) (λ e. true_not_false (subst (λ (x : ℕ). mem x body_kinds ≡ true) (eqb_true e) h) f)

  -- ---- the readers
  pub only_kind : (n i : ℕ) → mem (Kind i) (n ∷ []) ≡ true → Kind i ≡ n
  only_kind n i h = elim (mem_cons (Kind i) n [] h) [ inl p ↦ p | inr p ↦ absurd (mem_none (Kind i) p) ]

  pub word_read : (kinds : List ℕ) (i : ℕ) → Gives (λ w. (w ≡ word ws i) × (mem (Kind i) kinds ≡ true)) (word_at ws kinds i)
  unfolding word_at fits
  word_read kinds i =
      after (expected (mem (Kind i) kinds && W.spare_clear (word ws i)) 2 i) λ _ e.
      gives (word ws i) (refl, (and_true (mem (Kind i) kinds) (W.spare_clear (word ws i)) e).0)

  -- one operand or two after the word at i
  one_more : {A B : Type 0} {i : ℕ} (m : Read A) (f : A × ℕ → B) → Spans i (suc i) → Gives (λ r. Spans (suc i) r.1) m
      → Gives {A = B × ℕ} (λ r. Spans i r.1) (m >>> λ r. fine (f r, r.1))
  one_more m f s g = after g (λ r p. gives (f r, r.1) (joined s p))

  two_more : {A B C : Type 0} {i : ℕ} (m : Read A) (k : ℕ → Read B) (f : A × ℕ → B × ℕ → C) → Spans i (suc i)
      → Gives (λ r. Spans (suc i) r.1) m → ((j : ℕ) → Gives (λ r. Spans j r.1) (k j))
      → Gives {A = C × ℕ} (λ r. Spans i r.1) (m >>> λ r. k r.1 >>> λ q. fine (f r q, q.1))
  two_more m k f s g h = after g (λ r p. after (h r.1) (λ q n. gives (f r q, q.1) (joined (joined s p) n)))

  -- a table that was read at i, up to j
  pub record TableAt (i : ℕ) (t : Table) (j : ℕ) : Type 0 where
    pub kind : Kind i ≡ 2
    pub defines : W.defined (word ws i) ≡ defined_by t
    pub body : Spans (suc i) j

  -- from i on no table word stands, and an assertion at i if anything
  pub record Closing (i : ℕ) : Type 0 where
    pub starts : (length ws ≤ i) ⊎ (Kind i ≡ 10)
    pub no_table : (k : ℕ) → i ≤ k → k < length ws → eqb (Kind k) 2 ≡ false

  at_end : {i : ℕ} → length ws ≤ i → Closing i
  at_end l = record { starts = inl l; no_table = λ k h m. let x : ⊥ = omega arith in absurd x }

  before_more : {i j : ℕ} → Kind i ≡ 10 → Spans (suc i) j → Closing j → Closing i
  unfolding mem
  before_more {i} {j} e s h = record { starts = inr e; no_table = λ k l m. go k l m (dec_le j k) (dec_le (suc i) k) }
    where
      go : (k : ℕ) → i ≤ k → k < length ws → Dec (j ≤ k) → Dec (i < k) → eqb (Kind k) 2 ≡ false
      go k l m (yes n) o = h.no_table k n m
      go k l m (no n) (yes o) = other_than 2 k refl (s.kinds k o (omega arith))
      go k l m (no n) (no o) = let q : i ≡ k = omega arith in subst (λ (x : ℕ). eqb (Kind x) 2 ≡ false) q (rw e)

  module _ (vs : List Variable) where
    condition_spans : (left i : ℕ) → Gives (λ r. Spans i r.1) (read_condition ws vs left i)
    unfolding read_condition condition_by all_of mem
    condition_spans zero i = past (word_at ws condition_kinds i) (λ w. stops 4 i)
    condition_spans (suc left) i =
        after (word_read condition_kinds i) λ w h.
        let s = one_word condition_kinds i refl h.1 in
        branches (eqb (W.operands w) 2)
        (λ _. two_more (read_condition ws vs left (suc i)) (read_condition ws vs left) _ s (condition_spans left (suc i)) (condition_spans left))
        (λ _. branches (eqb (W.operands w) 1) (λ _. one_more (read_condition ws vs left (suc i)) _ s (condition_spans left (suc i)))
        (λ _. branches (eqb (W.kind w) 4) (λ _. past (expect (test_ok vs w) 3 i) (λ _. gives _ s)) (λ _. gives _ s)))

    event_spans : (left i : ℕ) → Gives (λ r. Spans i r.1) (read_event ws vs left i)
    unfolding read_event event_by all_of mem
    event_spans zero i = past (word_at ws event_kinds i) (λ w. stops 4 i)
    event_spans (suc left) i =
        after (word_read event_kinds i) λ w h.
        let s = one_word event_kinds i refl h.1 in
        branches (eqb (W.operands w) 2)
        (λ _. branches (eqb (W.kind w) 7)
        (λ _. two_more (read_event ws vs left (suc i)) (read_event ws vs left) _ s (event_spans left (suc i)) (event_spans left))
        (λ _. past (expect (within 1 2 (W.sort w)) 3 i) λ _.
        two_more (read_condition ws vs left (suc i)) (read_condition ws vs left) _ s (condition_spans left (suc i)) (condition_spans left)))
        (λ _. past (expect (eqb (W.truth w) 0) 3 i) (λ _. gives _ s))

    module _ {F : Type 0} (formula : ℕ → Read F) (spans : (i : ℕ) → Gives (λ r. Spans i r.1) (formula i)) (v m : ℕ) where
      row_spans : (left i : ℕ) → Gives (λ r. Spans i r.1 × (ltb 0 left ≡ true)) (read_row ws vs formula v m left i)
      unfolding read_row all_of mem
      row_spans left i =
          after (word_read (3 ∷ []) i) λ w h.
          after (expected (ltb 0 left) 4 i) λ _ l.
          past (expect (row_ok vs v m w) 3 i) λ _.
          after (spans (suc i)) λ r p.
          gives _ (joined (one_word (3 ∷ []) i refl h.1) p, l)

      rows_span : (left i : ℕ) → Gives (λ r. Spans i r.1) (read_rows ws vs formula v m left i)
      unfolding read_rows rows_by
      rows_span zero i = after (row_spans 0 i) (λ r h. absurd (true_not_false h.1 refl))
      rows_span (suc left) i =
          after (row_spans (suc left) i) λ r h.
          branches (eqb (Kind r.1) 3) (λ _. after (rows_span left r.1) (λ q k. gives _ (joined h.0 k))) (λ _. gives _ h.0)

    body_spans : (w i : ℕ) → Gives (λ r. (defined_by r.0 ≡ W.defined w) × Spans i r.1) (read_body ws vs w i)
    unfolding read_body body_of defined_by
    body_spans w i =
        branches (eqb (W.sort w) 3)
        (λ _. after (rows_span (read_condition ws vs Max.max_depth) (condition_spans Max.max_depth) (W.defined w) (W.class_read w) Max.max_rows i) λ r h.
        gives (condition_table (body_of w r.0), r.1) (refl, h))
        (λ _. after (rows_span (read_event ws vs Max.max_depth) (event_spans Max.max_depth) (W.defined w) (W.class_read w) Max.max_rows i) λ r h.
        gives _ (event_defined (eqb (W.sort w) 1) (body_of w r.0), h))

    pub table_spans : (i : ℕ) (taken lower : Bool)
        → Gives (λ r. (taken ≡ false) × (lower ≡ false) × (W.defined (word ws i) < length vs) × TableAt i r.0 r.1) (read_table ws vs i taken lower)
    unfolding read_table
    table_spans i taken lower =
        after (word_read (2 ∷ []) i) λ w h.
        after (expected (table_ok vs w) 3 i) λ _ o.
        after (expected (table_fits vs w && not taken) 5 i) λ _ e.
        after (expected (not lower) 21 i) λ _ f.
        so (body_spans w (suc i)) λ r b. (
          not_true taken (and_true (table_fits vs w) (not taken) e).1,
          not_true lower f,
          rw h.0 at (defined_below vs w o),
          record { kind = only_kind 2 i h.1; defines = sym (b.0 ∙ ap W.defined h.0); body = b.1 },
        )

    -- ---- tables one after another
    pub read_at : (i : ℕ) (t : Table) (j : ℕ) → read_table ws vs i false false ≡ fine (t, j) → TableAt i t j
    read_at i t j e = (given _ (table_spans i false false) e).3

    -- the tables us are ts and those read from i on
    record Added (i : ℕ) (ts us : List Table) (k : ℕ) : Type 0 where
      new : List Table
      all : us ≡ ts ++ new
      follow : Follow ws vs i new k

    pub untaken : (i : ℕ) (taken lower : Bool) (r : Table × ℕ) → taken ≡ false → lower ≡ false → read_table ws vs i taken lower ≡ fine r
        → read_table ws vs i false false ≡ fine r
    untaken i taken lower r t l e = rw (t, l) at e

    none_added : (i : ℕ) (ts : List Table) → Added i ts ts i
    none_added i ts = record { new = []; all = sym (append-nil ts); follow = nothing }

    tables_follow : (left i : ℕ) (ts : List Table) (before : ℕ) → Gives (λ r. Added i ts r.0 r.1) (read_tables ws vs left i ts before)
    unfolding read_tables next_table
    tables_follow zero i ts before =
        branches (eqb (Kind i) 2)
        (λ _. past (next_table ws vs i ts before) (λ _. stops 5 i))
        (λ _. gives (ts, i) (none_added i ts))
    tables_follow (suc left) i ts before =
        branches (eqb (Kind i) 2)
        (λ _. after (given_as (table_spans i (has_table ts (W.defined (word ws i))) (ltb (W.defined (word ws i)) before))) λ r h.
        so (tables_follow left r.1 (ts ++ (r.0 ∷ [])) (W.defined (word ws i))) λ q a. record {
          new = r.0 ∷ a.new;
          all = a.all ∙ append_assoc ts (r.0 ∷ []) a.new;
          follow = more (untaken i _ _ r h.0.0 h.0.1 h.1) a.follow;
        })
        (λ _. gives (ts, i) (none_added i ts))

    -- ---- assertions
    assertion_closes : (left i : ℕ) → Gives (λ r. (ltb 0 left ≡ true) × (Kind i ≡ 10) × Spans (suc i) r.1) (read_assertion ws vs left i)
    unfolding read_assertion
    assertion_closes left i =
        after (word_read (10 ∷ []) i) λ w h.
        after (expected (ltb 0 left) 4 i) λ _ l.
        past (expect (eqb (W.sort w) 1) 3 i) λ _.
        so (condition_spans Max.max_depth (suc i)) (λ r s. (l, only_kind 10 i h.1, s))

    assertions_close : (left i : ℕ) → Gives (λ r. Closing i) (read_assertions ws vs left i)
    unfolding read_assertions
    assertions_close zero i =
        decides (leb (length ws) i)
        (λ _ e. gives ([], i) (at_end (leb_true e)))
        (λ _ e. after (assertion_closes 0 i) (λ r h. absurd (true_not_false h.0 refl)))
    assertions_close (suc left) i =
        decides (leb (length ws) i)
        (λ _ e. gives ([], i) (at_end (leb_true e)))
        (λ _ e. after (assertion_closes (suc left) i) λ r h.
        after (assertions_close left r.1) λ q c.
        gives _ (before_more h.1 h.2 c))

  -- ---- variables
  -- words of variables stand up to the place after them
  variables_below : (left i : ℕ) (vs : List Variable) → ((k : ℕ) → k < i → Kind k ≡ 1)
      → Gives (λ r. (k : ℕ) → k < r.1 → Kind k ≡ 1) (read_variables ws left i vs)
  unfolding read_variables
  variables_below zero i vs h = branches (eqb (Kind i) 1) (λ _. stops 4 i) (λ _. gives (vs, i) h)
  variables_below (suc left) i vs h =
      decides (eqb (Kind i) 1)
      (λ _ e. past (expect (variable_ok (word ws i)) 3 i) λ _. variables_below left (suc i) _ (below_suc h (eqb_true e)))
      (λ _ e. gives (vs, i) h)

  -- ---- the whole: variables up to `first`, tables up to `last`, then assertions
  pub record Layout (z : TableSet) : Type 0 where
    pub first : ℕ
    pub last : ℕ
    pub variables : read_variables ws Max.max_variables 0 [] ≡ fine (z.variables, first)
    pub low : (k : ℕ) → k < first → Kind k ≡ 1
    pub tables : Follow ws z.variables first z.tables last
    pub closing : Closing last

  pub layout : (z : TableSet) → read_words ws ≡ ok z → Layout z
  layout z e =
      let s = sections ws z e in
      let t = given _ (tables_follow z.variables (count z) s.first [] 0) s.tables in
      record {
        first = s.first;
        last = s.last;
        variables = s.variables;
        low = given _ (variables_below Max.max_variables 0 [] (λ k h. absurd (not-suc-le-zero h))) s.variables;
        tables = subst (λ (ts : List Table). Follow ws z.variables s.first ts s.last) (sym t.all) t.follow;
        closing = given _ (assertions_close z.variables Max.max_assertions s.last) s.assertions;
      }
