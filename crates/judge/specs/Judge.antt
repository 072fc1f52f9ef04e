-- What the code works out at a place of the words: no reading and no refusal. The ladders are those of the meaning's readers.
use Rattle.std.specs.Prelude.{ℕ, zero, suc, Bool, true, false, not, ◌&&◌, ◌||◌, cond, List, length, leb, eqb}
use Rattle.word.specs.Fields as W
use Rattle.word.specs.Limits as Max
use Rattle.meaning.specs.Answers.{if◌give◌else◌}
use Rattle.meaning.specs.Searches.{Hits, no_hit, one_hit, two_hits}
use Rattle.meaning.specs.Syntax.{Row}
use Rattle.meaning.specs.Reading.{word, test_of}
use Rattle.meaning.specs.Steps.{true_in, mode_is, row_value}
use Rattle.judge.specs.declared.Judged.{Judged}
use Rattle.judge.specs.declared.Got.{Got}
use Rattle.judge.specs.declared.Got.TheVariants.{Nothing, One, Two}

-- ---- conditions
-- "and" or "or", by the kind of the word
unfoldable pub joined_by : ℕ → Bool → Bool → Bool
joined_by k x y = cond (eqb k 6) (x && y) (x || y)

-- the condition whose first word w stands at i; `rec` judges an operand
unfoldable pub judge_by : List ℕ → (ℕ → Judged) → ℕ → ℕ → Judged
judge_by b rec w i =
    if eqb (W.operands w) 2
    give (λ _. record {
      value = joined_by (W.kind w) (rec (suc i)).value (rec (rec (suc i)).next).value;
      next = (rec (rec (suc i)).next).next;
    })
    else λ _. if eqb (W.operands w) 1 give (λ _. record { value = not (rec (suc i)).value; next = (rec (suc i)).next })
    else λ _. if eqb (W.kind w) 4 give (λ _. record { value = true_in b (test_of w); next = suc i })
    else λ _. record { value = eqb (W.truth w) 1; next = suc i }

-- the condition at i, at most so many levels deep, at the values b; past the end false
unfoldable pub judge_at : List ℕ → List ℕ → ℕ → ℕ → Judged
judge_at ws b zero i = record { value = false; next = i }
judge_at ws b (suc d) i =
    if leb (length ws) i
    give (λ _. record { value = false; next = i })
    else (λ _. judge_by b (judge_at ws b d) (word ws i) i)

-- ---- events
-- a change by its sort: c before and after the step, and d before it
unfoldable pub changed_by : ℕ → Bool → Bool → Bool → Bool
changed_by s old new when = cond (eqb s 1) (not old && new && when) (old && not new && when)

-- The change word w before c at i: d starts where c ends. `before` and `after` judge a condition on either side of the step.
unfoldable pub change_by : (ℕ → Judged) → (ℕ → Judged) → ℕ → ℕ → Judged
change_by before after w i = record {
  value = changed_by (W.sort w) (before i).value (after i).value (before (before i).next).value;
  next = (before (before i).next).next;
}

unfoldable pub change_at : List ℕ → List ℕ → List ℕ → ℕ → ℕ → ℕ → Judged
change_at ws a b d w i = change_by (judge_at ws a d) (judge_at ws b d) w i

-- the event whose first word w stands at i; `change` judges a change word before a place
unfoldable pub judge_event_by : (ℕ → Judged) → (ℕ → ℕ → Judged) → ℕ → ℕ → Judged
judge_event_by rec change w i =
    if eqb (W.operands w) 2
    give (λ _.
    if eqb (W.kind w) 7
    give (λ _. record { value = (rec (suc i)).value || (rec (rec (suc i)).next).value; next = (rec (rec (suc i)).next).next })
    else λ _. change w (suc i))
    else λ _. record { value = false; next = suc i }

-- the event at i in the step from the values a to the values b
unfoldable pub judge_event_at : List ℕ → List ℕ → List ℕ → ℕ → ℕ → Judged
judge_event_at ws a b zero i = record { value = false; next = i }
judge_event_at ws a b (suc d) i =
    if leb (length ws) i
    give (λ _. record { value = false; next = i })
    else (λ _. judge_event_by (judge_event_at ws a b d) (change_at ws a b d) (word ws i) i)

-- ---- rows
-- the rows that hold so far, with row i, which gives k and holds if the Boolean says so
unfoldable pub add_row : Got → Bool → ℕ → ℕ → Got
add_row g false i k = g
add_row Nothing true i k = One i k
add_row (One j l) true i k = Two j i
add_row (Two j l) true i k = Two j l

-- At most so many rows from p on, the first of them row i, where the mode is x and f judges a row's formula. The next row is
-- where the formula ends, if a row stands there.
unfoldable pub rows_at : List ℕ → (ℕ → Judged) → ℕ → ℕ → ℕ → ℕ → Got → Got
rows_at ws f x zero i p g = g
rows_at ws f x (suc l) i p g =
    if leb (length ws) p
    give (λ _. g)
    else λ _.
    let j = f (suc p) in
    let h = add_row g (mode_is (W.mode (word ws p)) x && j.value) i (W.value (word ws p)) in
    if eqb (W.kind (word ws j.next)) 3 give (λ _. rows_at ws f x l (suc i) j.next h) else (λ _. h)

unfoldable pub condition_rows_at : List ℕ → List ℕ → ℕ → ℕ → ℕ → ℕ → Got → Got
condition_rows_at ws b x l i p g = rows_at ws (judge_at ws b Max.max_depth) x l i p g

unfoldable pub event_rows_at : List ℕ → List ℕ → List ℕ → ℕ → ℕ → ℕ → ℕ → Got → Got
event_rows_at ws a b x l i p g = rows_at ws (judge_event_at ws a b Max.max_depth) x l i p g

-- what the meaning's search among the rows rs finds
unfoldable pub got_of : {F : Type 0} → List (Row F) → Hits → Got
got_of rs no_hit = Nothing
got_of rs (one_hit i) = One i (row_value rs i)
got_of rs (two_hits i j) = Two i j
