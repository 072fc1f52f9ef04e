-- Where a part starts and ends, from the first word that passes a test; and what they say of a table's part.
use Rattle.std.specs.Prelude.{ℕ, suc, ◌+◌, ◌-◌, ◌≤◌, ◌<◌, ◌≡◌, Bool, ◌&&◌, ◌||◌, List, [], eqb, length, take, drop, get_or, option_map, unwrap_or}
use Rattle.std.specs.Prelude as R
use Rattle.std.proofs.Common.{refl, sym, arith, add-one}
use Rattle.std.proofs.Math.Option.{Option, none, some}
use Rattle.word.specs.Fields as W
use Rattle.meaning.specs.Searches.{least, or_else}
use Rattle.meaning.specs.Reading.{word}
use Rattle.meaning.specs.Calls.{is_table_of, ends_table, part_length, part_from}
use Rattle.theory.specs.Found.{LeastView, absent, found, least_view}
use Rattle.index.specs.Search.{found_of}
use Rattle.index.proofs.Searching.{unwrap_found, unwrap_found_from}
use Rattle.part.specs.Part.{start_at, end_at}

least_most : (f : ℕ → Bool) (n : ℕ) → or_else (least f n) n ≤ n
unfolding or_else
least_most f n = go (least_view f n)
  where
    go : {o : Option ℕ} → LeastView f n o → or_else o n ≤ n
    go (absent h) = omega arith
    go (found k l t h) = omega arith

-- ---- where a part starts
pub start_is : (ws : List ℕ) (v r : ℕ) (o : R.Option ℕ)
    → o ≡ found_of (least (λ k. eqb (W.kind (get_or ws k 0)) 2 && eqb (W.defined (get_or ws k 0)) v) (length ws))
    → r ≡ unwrap_or o (length ws) → r ≡ start_at ws v
unfolding start_at is_table_of word
start_is ws v r o e u = rw (u, e, unwrap_found)

-- ---- where a part ends; `Ends` is the test of the words after the table word
abbrev pub Ends : List ℕ → ℕ → ℕ → Bool
Ends ws a k = ends_table ws (suc a + k)

pub ends_is : (ws : List ℕ) (i w : ℕ) → w ≡ word ws i → (eqb (W.kind w) 2 || eqb (W.kind w) 10) ≡ ends_table ws i
unfolding ends_table
ends_is ws i w e = rw e

pub end_is : (ws : List ℕ) (a r : ℕ) (o : R.Option ℕ) → a < length ws
    → o ≡ option_map (λ k. a + 1 + k) (found_of (least (λ k. ends_table ws (a + 1 + k)) (length ws - (a + 1))))
    → r ≡ unwrap_or o (length ws) → r ≡ end_at ws a
unfolding end_at part_length
end_is ws a r o h e u = rw (u, e, unwrap_found_from (a + 1) (length ws) _ (omega arith), add-one a)

-- ---- the part lies within the words
pub end_after : (ws : List ℕ) (a b : ℕ) → b ≡ end_at ws a → a ≤ b
unfolding end_at
end_after ws a b e = omega arith

pub end_within : (ws : List ℕ) (a b : ℕ) → a < length ws → b ≡ end_at ws a → b ≤ length ws
unfolding end_at part_length
end_within ws a b h e =
    let l = least_most (Ends ws a) (length ws - suc a) in
    omega (arith, l, e)

-- ---- what it is of the meaning's part
start_of_lem : (ws : List ℕ) (v : ℕ) (o : Option ℕ) → LeastView (is_table_of ws v) (length ws) o → or_else o (length ws) < length ws
    → part_from ws o ≡ take (end_at ws (or_else o (length ws)) - or_else o (length ws)) (drop (or_else o (length ws)) ws)
unfolding or_else part_from end_at
start_of_lem ws v none w h = let x : ⊥ = omega arith in absurd x
start_of_lem ws v (some k) w h = let q : suc k + part_length ws k - k ≡ suc (part_length ws k) = omega arith in rw q

pub part_is : (ws : List ℕ) (v a b : ℕ) → a ≡ start_at ws v → a < length ws → b ≡ end_at ws a
    → take (b - a) (drop a ws) ≡ part_from ws (least (is_table_of ws v) (length ws))
unfolding start_at
part_is ws v a b ea h eb =
    rw (eb, ea) (sym (start_of_lem ws v (least (is_table_of ws v) (length ws)) (least_view (is_table_of ws v) (length ws)) (rw ea at h)))

pub part_none : (ws : List ℕ) (v a : ℕ) → a ≡ start_at ws v → length ws ≤ a → [] ≡ part_from ws (least (is_table_of ws v) (length ws))
unfolding start_at part_from or_else
part_none ws v a ea h = go (least_view (is_table_of ws v) (length ws)) (rw ea at h)
  where
    go : {o : Option ℕ} → LeastView (is_table_of ws v) (length ws) o → length ws ≤ or_else o (length ws) → [] ≡ part_from ws o
    go (absent g) k = refl
    go (found i l t g) k = let x : ⊥ = omega arith in absurd x
