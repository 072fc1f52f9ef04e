-- What the index says of each variable of the set that was read.
use Rattle.std.specs.Prelude.{◌≡◌, refl, List, ℕ, zero, suc, ◌≤◌, ◌<◌}
use Rattle.std.proofs.Common.{sym, ap, ◌∙◌, arith, sub-one, ne_eqb, eq-eqb}
use Rattle.word.specs.Fields as W
use Rattle.meaning.specs.Answers.{if◌give◌else◌}
use Rattle.meaning.specs.Searches.{product_below}
use Rattle.meaning.specs.Syntax.{Variable, TableSet}
use Rattle.meaning.specs.Lookup.{variable_at, Source, input, by_event, by_condition, count, size_of, source}
use Rattle.meaning.specs.Reading.{word, variable_of}
use Rattle.meaning.specs.States.{is_held, radix_by, radix, weight, initial_of}
use Rattle.index.specs.Places.{head_of}
use Rattle.index.specs.Held.{held_by, held_at, radix_at, weight_at}
use Rattle.index.specs.Indexed.{Indexed}
use Rattle.index.specs.Sources.{SourceAt, no_table, event_at, condition_at, source_at}
use Rattle.index.proofs.Laws.{variables_length, variable_at_lem}

-- ---- by the source
source_held : {ws : List ℕ} {vs : List Variable} {p : ℕ} {s : Source} → SourceAt ws vs p s → held_by ws p ≡ is_held s
unfolding held_by is_held
source_held no_table = refl
source_held {ws} (event_at i j rs n e) =
    rw (ne_eqb (suc i) 0 (λ q. (let z : ⊥ = omega arith in z)), sub-one (suc i), ne_eqb (W.sort (word ws i)) 3 n)
source_held {ws} (condition_at i j rs t e) =
    rw (ne_eqb (suc i) 0 (λ q. (let z : ⊥ = omega arith in z)), sub-one (suc i), eq-eqb (W.sort (word ws i)) 3 t)

held_radix : (s : Source) (n : ℕ) → (if is_held s give (λ _. n) else (λ _. 1)) ≡ radix_by s n
unfolding is_held radix_by
held_radix input n = refl
held_radix (by_event t) n = refl
held_radix (by_condition t) n = refl

product_same : (f g : ℕ → ℕ) (n : ℕ) → ((k : ℕ) → k < n → f k ≡ g k) → product_below f n ≡ product_below g n
unfolding product_below
product_same f g zero h = refl
product_same f g (suc n) h = rw (product_same f g n (λ k l. h k (omega arith)), h n (omega arith))

-- ---- by the index
module _ {ws : List ℕ} {z : TableSet} {n a : ℕ} {ps : List ℕ} (ix : Indexed ws z n a ps) where
  pub count_is : count z ≡ n
  count_is = rw ix.variables_are (variables_length ws ps n)

  pub variable_is : (v : ℕ) → v < n → variable_at z.variables v ≡ variable_of (word ws (head_of ps v))
  variable_is v l = rw ix.variables_are (variable_at_lem ws ps n v l)

  pub size_is : (v : ℕ) → v < n → W.size (word ws (head_of ps v)) ≡ size_of z v
  unfolding size_of variable_of
  size_is v l = sym (ap (λ (x : Variable). x.size) (variable_is v l))

  pub initial_is : (v : ℕ) → v < n → W.initial (word ws (head_of ps v)) ≡ initial_of z v
  unfolding initial_of variable_of
  initial_is v l = sym (ap (λ (x : Variable). x.initial) (variable_is v l))

  pub held_is : (v : ℕ) → v < n → held_at ws ps v ≡ is_held (source z v)
  unfolding held_at
  held_is v l = source_held (source_at ix v l)

  pub radix_is : (v : ℕ) → v < n → radix_at ws ps v ≡ radix z v
  unfolding radix_at radix
  radix_is v l =
      rw (held_is v l) (held_radix (source z v) (W.size (word ws (head_of ps v))) ∙ ap (λ (k : ℕ). radix_by (source z v) k) (size_is v l))

  pub weight_is : (v : ℕ) → v ≤ n → weight_at ws ps v ≡ weight z v
  unfolding weight_at weight
  weight_is v l = product_same (radix_at ws ps) (radix z) v (λ k h. radix_is k (omega arith))
