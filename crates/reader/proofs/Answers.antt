-- Laws of answers: one reading after another, with what was read forgotten.
use Rattle.std.specs.Prelude.{ℕ, ◌≡◌, refl, Result, Ok, Err}
use Rattle.std.proofs.Common.{sym, ap, arith}
use Rattle.meaning.specs.Answers.{fine, stop, ◌>>>◌}
use Rattle.meaning.specs.Reading.{Read}
use Rattle.index.specs.Places.{Reached, Next, Refused, reach, then_at}
use Rattle.reader.specs.declared.faults.Fault.{Fault}
use Rattle.reader.specs.Faults.{reached}

pub then_reach : {A B : Type 0} (m : Read A) (f : A × ℕ → Read B) (rec : ℕ → Reached)
    → ((p : A × ℕ) → reach (f p) ≡ rec p.1) → reach (m >>> f) ≡ then_at (reach m) rec
unfolding reach then_at
then_reach (fine p) f rec h = h p
then_reach (stop k i) f rec h = refl

-- what is made of a reading does not move its place
pub made_reach : {A B : Type 0} (m : Read A) (f : A × ℕ → B) → reach (m >>> λ p. fine (f p, p.1)) ≡ reach m
unfolding reach
made_reach (fine p) f = refl
made_reach (stop k i) f = refl

pub two_reach : {A B C : Type 0} (m : Read A) (g : ℕ → Read B) (f : A × ℕ → B × ℕ → C)
    → reach (m >>> λ p. g p.1 >>> λ q. fine (f p q, q.1)) ≡ then_at (reach m) (λ j. reach (g j))
two_reach m g f = then_reach m _ (λ j. reach (g j)) (λ p. made_reach (g p.1) (f p))

-- an answer of the code, and what comes after it
pub then_next : (r : Result ℕ Fault) (f : ℕ → Reached) (b : Reached) (j : ℕ) → r ≡ Ok j → b ≡ f j → b ≡ then_at (reached r) f
unfolding then_at reached
then_next r f b j e eb = rw e eb

pub then_stop : (r : Result ℕ Fault) (f : ℕ → Reached) (q : Fault) → r ≡ Err q → reached (Err q) ≡ then_at (reached r) f
unfolding then_at reached
then_stop r f q e = rw e

-- ---- what an answer says of the reading
pub refused_not_next : {k i j : ℕ} → ◌≡◌ {A = Reached} (Refused k i) (Next j) → ⊥
refused_not_next e = let z : ◌≡◌ {A = ℕ} 0 1 = cc in omega arith

pub next_same : {i j : ℕ} → ◌≡◌ {A = Reached} (Next i) (Next j) → i ≡ j
next_same e = cc

pub reach_stop : {A : Type 0} (m : Read A) (k i : ℕ) → reach m ≡ Refused k i → m ≡ stop k i
unfolding reach
reach_stop (fine p) k i e = absurd (refused_not_next (sym e))
reach_stop (stop l j) k i e = let p : l ≡ k = cc in let q : j ≡ i = cc in rw (p, q)

pub reach_fine : {A : Type 0} (m : Read A) (j : ℕ) → reach m ≡ Next j → (a : A) × (m ≡ fine (a, j))
unfolding reach
reach_fine (fine p) j e = (p.0, ap (λ (x : ℕ). fine (p.0, x)) (next_same e))
reach_fine (stop l i) j e = absurd (refused_not_next e)
