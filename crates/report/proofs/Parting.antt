-- Laws of the first event among the words.
use Rattle.std.specs.Prelude.{ℕ, ◌≤◌, ◌<◌, ◌≡◌, Bool, List, eqb, length, get_or, unwrap_or}
use Rattle.std.specs.Prelude as R
use Rattle.std.proofs.Common.{arith}
use Rattle.std.proofs.Math.Option.{Option}
use Rattle.word.specs.Fields as W
use Rattle.meaning.specs.Searches.{least, or_else}
use Rattle.meaning.specs.Reading.{word}
use Rattle.meaning.specs.Program.{first_event}
use Rattle.theory.specs.Found.{LeastView, absent, found, least_view}
use Rattle.index.specs.Search.{found_of}
use Rattle.index.proofs.Searching.{unwrap_found}

least_most : (f : ℕ → Bool) (n : ℕ) → or_else (least f n) n ≤ n
unfolding or_else
least_most f n = go (least_view f n)
  where
    go : {o : Option ℕ} → LeastView f n o → or_else o n ≤ n
    go (absent h) = omega arith
    go (found k l t h) = omega arith

module _ (ws : List ℕ) (r : ℕ) (o : R.Option ℕ) (e : o ≡ found_of (least (λ k. eqb (W.kind (get_or ws k 0)) 11) (length ws))) (u : r ≡ unwrap_or o (length ws)) where
  pub event_is : r ≡ first_event ws
  unfolding first_event word
  event_is = rw (u, e, unwrap_found)

  pub event_most : r ≤ length ws
  event_most = rw (u, e, unwrap_found) (least_most _ _)
