-- What is worked out at a place is what the meaning says of the formula, or of the rows, that it reads there.
use Rattle.std.proofs.Common.{◌≡◌, refl, List, [], ◌∷◌, ◌++◌, Bool, true, false, not, ◌&&◌, ◌||◌, cond, ℕ, zero, suc, length, get_or, eqb, leb, ltb, sym, ◌∙◌, subst, append_assoc, append-nil, arith, add-one, length-append}
use Rattle.word.specs.Fields as W
use Rattle.word.specs.Limits as Max
use Rattle.meaning.specs.Answers.{Parse, fine, stop, ◌>>>◌, expect, if◌give◌else◌}
use Rattle.meaning.specs.Searches.{mem, within, Hits, no_hit, one_hit, two_hits, and_here, hits}
use Rattle.meaning.specs.Syntax.{Condition, constant, negation, Event, never, one_of, Variable, Row}
use Rattle.meaning.specs.Reading.{Read, word, fits, test_ok, test_of, condition_kinds, event_kinds, joined, changed, condition_by, event_by, row_ok, rows_by, row_of, word_at, read_condition, read_event, read_row, read_rows}
use Rattle.meaning.specs.Steps.{true_in, happens, mode_is, event_row, condition_row, row_holds, row_value}
use Rattle.index.proofs.Laws.{past_unfit}
use Rattle.judge.specs.declared.Judged.{Judged}
use Rattle.judge.specs.declared.Got.{Got}
use Rattle.judge.specs.declared.Got.TheVariants.{Nothing}
use Rattle.judge.specs.Judge.{joined_by, judge_by, judge_at, changed_by, change_by, change_at, judge_event_by, judge_event_at, add_row, rows_at, condition_rows_at, event_rows_at, got_of}

-- ---- A claim Q about a reading that says nothing of a refusal: it holds where what comes after the tests meets it.
module _ {A : Type 0} (Q : Parse A → Type 0) (stops : (n k : ℕ) → Q (stop n k)) where
  expected : (b : Bool) (n i : ℕ) (m : Parse A) → Q m → Q (expect b n i >>> λ _. m)
  expected true n i m e = e
  expected false n i m e = stops n i

  none_left : (o : Parse ℕ) (n i : ℕ) → Q (o >>> λ _. stop n i)
  none_left (fine w) n i = stops n i
  none_left (stop k l) n i = stops k l

-- a word that fits stands before the end; Q is told whether the place does
module _ {A : Type 0} (Q : Bool → Parse A → Type 0) (stops : (b : Bool) (n k : ℕ) → Q b (stop n k)) where
  inside : (ws kinds : List ℕ) (i : ℕ) → mem 0 kinds ≡ false → (next : ℕ → Parse A) → Q false (next (word ws i))
      → Q (leb (length ws) i) (word_at ws kinds i >>> next)
  unfolding word_at
  inside ws kinds i z next e = go (fits kinds (word ws i)) refl (leb (length ws) i) refl
    where
      go : (f : Bool) → fits kinds (word ws i) ≡ f → (l : Bool) → leb (length ws) i ≡ l
          → Q l ((expect f 2 i >>> λ _. fine (word ws i)) >>> next)
      go false ef l el = stops l 2 i
      go true ef false el = e
      go true ef true el =
          let x : true ≡ false = sym ef ∙ past_unfit ws kinds i z el in
          absurd (let y : ◌≡◌ {A = ℕ} 0 1 = cc in omega arith)

-- ---- formulas: t is the truth of what was read
abbrev Agrees : {A : Type 0} → (A → Bool) → Read A → Judged → Type 0
Agrees t (fine p) j = j ≡ record { value = t p.0; next = p.1 }
Agrees t (stop n i) j = Unit {0}

module _ {A B : Type 0} (t : A → Bool) (s : B → Bool) where
  one_agrees : (f : A → B) (g : Bool → Bool) → ((c : A) → s (f c) ≡ g (t c)) → (m : Read A) (j : Judged) → Agrees t m j
      → Agrees s (m >>> λ r. fine (f r.0, r.1)) (record { value = g j.value; next = j.next })
  one_agrees f g h (fine p) j e = rw (e, h p.0)
  one_agrees f g h (stop n i) j e = tt

  module _ (read : ℕ → Read A) (judge : ℕ → Judged) (agree : (i : ℕ) → Agrees t (read i) (judge i)) where
    two_agrees : (f : A → A → B) (g : Bool → Bool → Bool) → ((c d : A) → s (f c d) ≡ g (t c) (t d))
        → (m : Read A) (j : Judged) → Agrees t m j
        → Agrees s (m >>> λ r. read r.1 >>> λ q. fine (f r.0 q.0, q.1))
        (record { value = g j.value (judge j.next).value; next = (judge j.next).next })
    two_agrees f g h (fine p) j e =
        rw e (one_agrees (f p.0) (g (t p.0)) (h p.0) (read p.1) (judge p.1) (agree p.1))
    two_agrees f g h (stop n i) j e = tt

    -- the first operand has a second truth u, judged apart
    change_agrees : (u : A → Bool) (f : A → A → B) (g : Bool → Bool → Bool → Bool) → ((c d : A) → s (f c d) ≡ g (t c) (u c) (t d))
        → (m : Read A) (j k : Judged) → Agrees t m j → Agrees u m k
        → Agrees s (m >>> λ r. read r.1 >>> λ q. fine (f r.0 q.0, q.1))
        (record { value = g j.value k.value (judge j.next).value; next = (judge j.next).next })
    change_agrees u f g h (fine p) j k e e' =
        rw (e, e') (one_agrees (f p.0) (g (t p.0) (u p.0)) (h p.0) (read p.1) (judge p.1) (agree p.1))
    change_agrees u f g h (stop n i) j k e e' = tt

-- ---- conditions
join_means : (b : List ℕ) (k : ℕ) (c d : Condition) → true_in b (joined (eqb k 6) c d) ≡ joined_by k (true_in b c) (true_in b d)
unfolding joined_by joined true_in
join_means b k c d = go (eqb k 6)
  where
    go : (x : Bool) → true_in b (joined x c d) ≡ cond x (true_in b c && true_in b d) (true_in b c || true_in b d)
    go true = refl
    go false = refl

condition_agrees : (vs : List Variable) (b : List ℕ) (read : ℕ → Read Condition) (judge : ℕ → Judged)
    → ((i : ℕ) → Agrees (true_in b) (read i) (judge i)) → (w i : ℕ)
    → Agrees (true_in b) (condition_by vs read w i) (judge_by b judge w i)
unfolding condition_by judge_by true_in
condition_agrees vs b read judge agree w i = go (eqb (W.operands w) 2) (eqb (W.operands w) 1) (eqb (W.kind w) 4)
  where
    go : (x y z : Bool)
        → Agrees (true_in b)
        (if x give (λ _. read (suc i) >>> λ r. read r.1 >>> λ q. fine (joined (eqb (W.kind w) 6) r.0 q.0, q.1))
        else λ _. if y give (λ _. read (suc i) >>> λ r. fine (negation r.0, r.1))
        else λ _. if z give (λ _. expect (test_ok vs w) 3 i >>> λ _. fine (test_of w, suc i))
        else λ _. fine (constant (eqb (W.truth w) 1), suc i))
        (if x
        give (λ _. record {
          value = joined_by (W.kind w) (judge (suc i)).value (judge (judge (suc i)).next).value;
          next = (judge (judge (suc i)).next).next;
        })
        else λ _. if y give (λ _. record { value = not (judge (suc i)).value; next = (judge (suc i)).next })
        else λ _. if z give (λ _. record { value = true_in b (test_of w); next = suc i })
        else λ _. record { value = eqb (W.truth w) 1; next = suc i })
    go true y z =
        two_agrees (true_in b) (true_in b) read judge agree (joined (eqb (W.kind w) 6)) (joined_by (W.kind w)) (join_means b (W.kind w))
        (read (suc i)) (judge (suc i)) (agree (suc i))
    go false true z = one_agrees (true_in b) (true_in b) negation not (λ c. refl) (read (suc i)) (judge (suc i)) (agree (suc i))
    go false false true =
        expected (λ (m : Read Condition). Agrees (true_in b) m (record { value = true_in b (test_of w); next = suc i })) (λ n k. tt)
        (test_ok vs w) 3 i (fine (test_of w, suc i)) refl
    go false false false = refl

agrees : (ws : List ℕ) (vs : List Variable) (b : List ℕ) (d i : ℕ) → Agrees (true_in b) (read_condition ws vs d i) (judge_at ws b d i)
unfolding read_condition judge_at mem
agrees ws vs b zero i =
    none_left (λ (m : Read Condition). Agrees (true_in b) m (record { value = false; next = i })) (λ n k. tt)
    (word_at ws condition_kinds i) 4 i
agrees ws vs b (suc d) i =
    inside
    (λ (l : Bool) (m : Read Condition).
    Agrees (true_in b) m
    (if l give (λ _. record { value = false; next = i }) else (λ _. judge_by b (judge_at ws b d) (word ws i) i)))
    (λ l n k. tt)
    ws condition_kinds i refl (λ w. condition_by vs (read_condition ws vs d) w i)
    (condition_agrees vs b (read_condition ws vs d) (judge_at ws b d) (agrees ws vs b d) (word ws i) i)

pub judged : (ws : List ℕ) (vs : List Variable) (b : List ℕ) (d i : ℕ) (c : Condition) (j : ℕ)
    → read_condition ws vs d i ≡ fine (c, j) → judge_at ws b d i ≡ record { value = true_in b c; next = j }
judged ws vs b d i c j e = subst (λ (m : Read Condition). Agrees (true_in b) m (judge_at ws b d i)) e (agrees ws vs b d i)

-- ---- events
change_means : (a b : List ℕ) (s : ℕ) (c d : Condition)
    → happens a b (changed (eqb s 1) c d) ≡ changed_by s (true_in a c) (true_in b c) (true_in a d)
unfolding changed_by changed happens
change_means a b s c d = go (eqb s 1)
  where
    go : (x : Bool)
        → happens a b (changed x c d)
        ≡ cond x (not (true_in a c) && true_in b c && true_in a d) (true_in a c && not (true_in b c) && true_in a d)
    go true = refl
    go false = refl

event_agrees : (a b : List ℕ) (event : ℕ → Read Event) (judge : ℕ → Judged)
    → ((i : ℕ) → Agrees (happens a b) (event i) (judge i))
    → (condition : ℕ → Read Condition) (before after : ℕ → Judged)
    → ((i : ℕ) → Agrees (true_in a) (condition i) (before i)) → ((i : ℕ) → Agrees (true_in b) (condition i) (after i))
    → (w i : ℕ) → Agrees (happens a b) (event_by event condition w i) (judge_event_by judge (change_by before after) w i)
unfolding event_by judge_event_by change_by happens
event_agrees a b event judge agree condition before after agree_a agree_b w i = go (eqb (W.operands w) 2) (eqb (W.kind w) 7)
  where
    go : (x y : Bool)
        → Agrees (happens a b)
        (if x
        give (λ _.
        if y give (λ _. event (suc i) >>> λ r. event r.1 >>> λ q. fine (one_of r.0 q.0, q.1))
        else λ _. (expect (within 1 2 (W.sort w)) 3 i >>> λ _. condition (suc i) >>> λ r. condition r.1 >>> λ q.
        fine (changed (eqb (W.sort w) 1) r.0 q.0, q.1)))
        else λ _. (expect (eqb (W.truth w) 0) 3 i >>> λ _. fine (never, suc i)))
        (if x
        give (λ _.
        if y
        give (λ _. record {
          value = (judge (suc i)).value || (judge (judge (suc i)).next).value;
          next = (judge (judge (suc i)).next).next;
        })
        else λ _. change_by before after w (suc i))
        else λ _. record { value = false; next = suc i })
    go false y =
        expected (λ (m : Read Event). Agrees (happens a b) m (record { value = false; next = suc i })) (λ n k. tt)
        (eqb (W.truth w) 0) 3 i (fine (never, suc i)) refl
    go true true =
        two_agrees (happens a b) (happens a b) event judge agree one_of ◌||◌ (λ e f. refl)
        (event (suc i)) (judge (suc i)) (agree (suc i))
    go true false =
        expected (λ (m : Read Event). Agrees (happens a b) m (change_by before after w (suc i))) (λ n k. tt)
        (within 1 2 (W.sort w)) 3 i
        (condition (suc i) >>> λ r. condition r.1 >>> λ q. fine (changed (eqb (W.sort w) 1) r.0 q.0, q.1))
        (change_agrees (true_in a) (happens a b) condition before agree_a (true_in b) (changed (eqb (W.sort w) 1)) (changed_by (W.sort w))
        (change_means a b (W.sort w)) (condition (suc i)) (before (suc i)) (after (suc i)) (agree_a (suc i)) (agree_b (suc i)))

events_agree : (ws : List ℕ) (vs : List Variable) (a b : List ℕ) (d i : ℕ)
    → Agrees (happens a b) (read_event ws vs d i) (judge_event_at ws a b d i)
unfolding read_event judge_event_at change_at mem
events_agree ws vs a b zero i =
    none_left (λ (m : Read Event). Agrees (happens a b) m (record { value = false; next = i })) (λ n k. tt)
    (word_at ws event_kinds i) 4 i
events_agree ws vs a b (suc d) i =
    inside
    (λ (l : Bool) (m : Read Event).
    Agrees (happens a b) m
    (if l
    give (λ _. record { value = false; next = i })
    else (λ _. judge_event_by (judge_event_at ws a b d) (change_at ws a b d) (word ws i) i)))
    (λ l n k. tt)
    ws event_kinds i refl (λ w. event_by (read_event ws vs d) (read_condition ws vs d) w i)
    (event_agrees a b (read_event ws vs d) (judge_event_at ws a b d) (events_agree ws vs a b d)
    (read_condition ws vs d) (judge_at ws a d) (judge_at ws b d) (agrees ws vs a d) (agrees ws vs b d) (word ws i) i)

pub event_judged : (ws : List ℕ) (vs : List Variable) (a b : List ℕ) (d i : ℕ) (e : Event) (j : ℕ)
    → read_event ws vs d i ≡ fine (e, j) → judge_event_at ws a b d i ≡ record { value = happens a b e; next = j }
event_judged ws vs a b d i e j q =
    subst (λ (m : Read Event). Agrees (happens a b) m (judge_event_at ws a b d i)) q (events_agree ws vs a b d i)

-- ---- rows: those that hold, from the first on; the meaning's search finds the same
unfoldable fold_rows : {F : Type 0} → (Row F → Bool) → ℕ → Got → List (Row F) → Got
fold_rows h i g [] = g
fold_rows h i g (r ∷ rs) = fold_rows h (suc i) (add_row g (h r) i r.value) rs

add_got : {F : Type 0} (rs : List (Row F)) (s : Hits) (b : Bool) (n : ℕ)
    → add_row (got_of rs s) b n (row_value rs n) ≡ got_of rs (and_here s b n)
unfolding add_row got_of and_here
add_got rs no_hit true n = refl
add_got rs no_hit false n = refl
add_got rs (one_hit i) true n = refl
add_got rs (one_hit i) false n = refl
add_got rs (two_hits i j) true n = refl
add_got rs (two_hits i j) false n = refl

module _ {F : Type 0} (h : Row F → Bool) where
  holds_here : (pre : List (Row F)) (r : Row F) (suf : List (Row F)) → row_holds h (pre ++ r ∷ suf) (length pre) ≡ h r
  unfolding row_holds
  holds_here [] r suf = refl
  holds_here (p ∷ pre) r suf = holds_here pre r suf

  value_here : (pre : List (Row F)) (r : Row F) (suf : List (Row F)) → row_value (pre ++ r ∷ suf) (length pre) ≡ r.value
  unfolding row_value
  value_here [] r suf = refl
  value_here (p ∷ pre) r suf = value_here pre r suf

  module _ (all : List (Row F)) where
    row_step : (n : ℕ) (r : Row F) → row_holds h all n ≡ h r → row_value all n ≡ r.value
        → add_row (got_of all (hits (row_holds h all) n)) (h r) n r.value ≡ got_of all (hits (row_holds h all) (suc n))
    unfolding hits
    row_step n r eh ev = rw (← eh, ← ev) (add_got all (hits (row_holds h all) n) (row_holds h all n) n)

    fold_hits : (suf pre : List (Row F)) → all ≡ pre ++ suf
        → fold_rows h (length pre) (got_of all (hits (row_holds h all) (length pre))) suf ≡ got_of all (hits (row_holds h all) (length all))
    unfolding fold_rows
    fold_hits [] pre e = let n : length all ≡ length pre = rw (e, append-nil pre) in rw n
    fold_hits (r ∷ suf) pre e =
        let eh : row_holds h all (length pre) ≡ h r = rw e (holds_here pre r suf) in
        let ev : row_value all (length pre) ≡ r.value = rw e (value_here pre r suf) in
        let n : length (pre ++ (r ∷ [])) ≡ suc (length pre) = length-append pre (r ∷ []) ∙ add-one (length pre) in
        let ih = fold_hits suf (pre ++ (r ∷ [])) (e ∙ sym (append_assoc pre (r ∷ []) suf)) in
        rw (row_step (length pre) r eh ev) (rw n at ih)

  fold_all : (all : List (Row F)) → fold_rows h 0 Nothing all ≡ got_of all (hits (row_holds h all) (length all))
  unfolding hits got_of
  fold_all all = fold_hits all all [] refl

-- ---- rows that are read against rows that are judged
abbrev RowsAgree : {F : Type 0} → (Row F → Bool) → ℕ → Got → Read (List (Row F)) → Got → Type 0
RowsAgree h i g (fine p) got = got ≡ fold_rows h i g p.0
RowsAgree h i g (stop n k) got = Unit {0}

-- formulas with truth t are read by `formula` and judged by f; a row holds, h, where its mode is x and its formula true
module _ (ws : List ℕ) (vs : List Variable) {F : Type 0} (t : F → Bool) (formula : ℕ → Read F) (f : ℕ → Judged)
    (agree : (i : ℕ) → Agrees t (formula i) (f i)) (x : ℕ) (h : Row F → Bool)
    (row : (r : Row F) → h r ≡ (mode_is r.mode x && t r.formula)) (v m : ℕ) where
  -- the rest, where row r is row i and g' are the rows that hold up to it
  rest_agrees : (i q : ℕ) (g g' : Got) (r : Row F) → g' ≡ add_row g (h r) i r.value
      → (b : Bool) (o : Read (List (Row F))) (got : Got) → RowsAgree h (suc i) g' o got
      → RowsAgree h i g (if b give (λ _. o >>> λ s. fine (r ∷ s.0, s.1)) else (λ _. fine (r ∷ [], q)))
      (if b give (λ _. got) else (λ _. g'))
  unfolding fold_rows
  rest_agrees i q g g' r e false o got a = e
  rest_agrees i q g g' r e true (stop n k) got a = tt
  rest_agrees i q g g' r e true (fine s) got a = rw (← e) a

  -- the row of word w whose formula is read as o and judged as j, and the rest
  row_agrees : (l i w : ℕ) (g : Got)
      → ((q : ℕ) (g' : Got) → RowsAgree h (suc i) g' (read_rows ws vs formula v m l q) (rows_at ws f x l (suc i) q g'))
      → (o : Read F) (j : Judged) → Agrees t o j
      → RowsAgree h i g
      ((o >>> λ r. fine (row_of w r.0, r.1)) >>> λ r. rows_by (W.kind (word ws r.1)) (read_rows ws vs formula v m l) r)
      (if eqb (W.kind (word ws j.next)) 3
      give (λ _. rows_at ws f x l (suc i) j.next (add_row g (mode_is (W.mode w) x && j.value) i (W.value w)))
      else (λ _. add_row g (mode_is (W.mode w) x && j.value) i (W.value w)))
  unfolding row_of rows_by
  row_agrees l i w g ih (stop n k) j a = tt
  row_agrees l i w g ih (fine p) j a =
      let g' = add_row g (mode_is (W.mode w) x && t p.0) i (W.value w) in
      let e : g' ≡ add_row g (h (row_of w p.0)) i (W.value w) = rw (row (row_of w p.0)) in
      rw a
      (rest_agrees i p.1 g g' (row_of w p.0) e (eqb (W.kind (word ws p.1)) 3) (read_rows ws vs formula v m l p.1)
      (rows_at ws f x l (suc i) p.1 g') (ih p.1 g'))

  rows_agree : (l i p : ℕ) (g : Got) → RowsAgree h i g (read_rows ws vs formula v m l p) (rows_at ws f x l i p g)
  unfolding read_rows read_row rows_at mem
  rows_agree zero i p g =
      none_left (λ (o : Read (Row F)). RowsAgree h i g (o >>> λ r. fine (r.0 ∷ [], r.1)) g) (λ n k. tt)
      (word_at ws (3 ∷ []) p) 4 p
  rows_agree (suc l) i p g =
      let w = word ws p in
      let j = f (suc p) in
      let g' = add_row g (mode_is (W.mode w) x && j.value) i (W.value w) in
      let got = if eqb (W.kind (word ws j.next)) 3 give (λ _. rows_at ws f x l (suc i) j.next g') else (λ _. g') in
      let rest : Row F × ℕ → Read (List (Row F)) = λ r. rows_by (W.kind (word ws r.1)) (read_rows ws vs formula v m l) r in
      let Q : Read (Row F) → Type 0 = λ o. RowsAgree h i g (o >>> rest) got in
      inside
      (λ (b : Bool) (o : Read (Row F)). RowsAgree h i g (o >>> rest) (if b give (λ _. g) else (λ _. got)))
      (λ b n k. tt)
      ws (3 ∷ []) p refl
      (λ u. expect (ltb 0 (suc l)) 4 p >>> λ _. expect (row_ok vs v m u) 3 p >>> λ _.
      formula (suc p) >>> λ r. fine (row_of u r.0, r.1))
      (expected Q (λ n k. tt) (ltb 0 (suc l)) 4 p
      (expect (row_ok vs v m w) 3 p >>> λ _. formula (suc p) >>> λ r. fine (row_of w r.0, r.1))
      (expected Q (λ n k. tt) (row_ok vs v m w) 3 p (formula (suc p) >>> λ r. fine (row_of w r.0, r.1))
      (row_agrees l i w g (λ q g''. rows_agree l (suc i) q g'') (formula (suc p)) j (agree (suc p)))))

  rows_means : (l p : ℕ) (rs : List (Row F)) (j : ℕ) → read_rows ws vs formula v m l p ≡ fine (rs, j)
      → rows_at ws f x l 0 p Nothing ≡ got_of rs (hits (row_holds h rs) (length rs))
  rows_means l p rs j e =
      subst (λ (o : Read (List (Row F))). RowsAgree h 0 Nothing o (rows_at ws f x l 0 p Nothing)) e (rows_agree l 0 p Nothing)
      ∙ fold_all h rs

pub condition_rows_means : (ws : List ℕ) (vs : List Variable) (b : List ℕ) (v m p : ℕ) (rs : List (Row Condition)) (j : ℕ)
    → read_rows ws vs (read_condition ws vs Max.max_depth) v m Max.max_rows p ≡ fine (rs, j)
    → condition_rows_at ws b (get_or b m 0) Max.max_rows 0 p Nothing ≡ got_of rs (hits (row_holds (condition_row b m) rs) (length rs))
unfolding condition_rows_at condition_row
condition_rows_means ws vs b v m p =
    rows_means ws vs (true_in b) (read_condition ws vs Max.max_depth) (judge_at ws b Max.max_depth) (agrees ws vs b Max.max_depth)
    (get_or b m 0) (condition_row b m) (λ r. refl) v m Max.max_rows p

pub event_rows_means : (ws : List ℕ) (vs : List Variable) (a b : List ℕ) (v m p : ℕ) (rs : List (Row Event)) (j : ℕ)
    → read_rows ws vs (read_event ws vs Max.max_depth) v m Max.max_rows p ≡ fine (rs, j)
    → event_rows_at ws a b (get_or a m 0) Max.max_rows 0 p Nothing ≡ got_of rs (hits (row_holds (event_row a b m) rs) (length rs))
unfolding event_rows_at event_row
event_rows_means ws vs a b v m p =
    rows_means ws vs (happens a b) (read_event ws vs Max.max_depth) (judge_event_at ws a b Max.max_depth) (events_agree ws vs a b Max.max_depth)
    (get_or a m 0) (event_row a b m) (λ r. refl) v m Max.max_rows p
