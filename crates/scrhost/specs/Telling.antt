-- The host's numbers can be told apart: 0 is a pass and nothing else, and what step gives is a state exactly if it is below 2^31.
use Rattle.std.specs.Prelude.{ℕ, ◌/◌, ◌%◌, ◌^◌, ◌≤◌, ◌<◌, ◌≡◌, refl, ◌↔◌, Bool, true, false, List, [], ◌∷◌, leb, eqb, length}
use Rattle.std.proofs.Common.{sym, arith}
use Rattle.meaning.specs.Answers.{Outcome, ok, refuse, ◌>>=◌, demand, check_numbers}
use Rattle.meaning.specs.Searches.{mem}
use Rattle.meaning.specs.Check.{Counts, check_of}
use Rattle.meaning.specs.Steps.{step_of}
use Rattle.meaning.specs.Host.{words_of_bytes, host_words, passed, stepped, host_check_of, host_step_of}
use Rattle.theory.specs.Tests.{leb_true, all_of, mem_passes}
use Rattle.theory.specs.Found.{ok_not_refuse, refuse_same, bind_ok}
use Rattle.theory.specs.WellRead.{read_well_formed, states_few}
use Rattle.theory.specs.Orders.{order_exists}
use Rattle.theory.specs.Valuations.{valuation_typed}
use Rattle.theory.specs.Demand1Holds.{demand_1}
use Rattle.theory.specs.StepExactly.{step_exactly}

-- ---- check
host_positive : (bs : List ℕ) (n : ℕ) (xs : List ℕ) → (host_words bs >>= λ ws. check_of ws) ≡ refuse n xs → 1 ≤ n
unfolding host_words all_of mem
host_positive bs n xs = go (eqb (length bs % 4) 0)
  where
    go : (b : Bool)
        → (demand b 1 (length bs ∷ []) >>= (λ _. ok (words_of_bytes bs (length bs / 4) 0)) >>= λ ws. check_of ws) ≡ refuse n xs → 1 ≤ n
    go true e =
        let d = demand_1.check (words_of_bytes bs (length bs / 4) 0) in
        leb_true (mem_passes (leb 1) check_numbers n refl (d.numbered n xs ((d.refuses n xs).0 e)))
    go false e = omega (arith, (refuse_same e).0)

pass_told : {A : Type 0} (m : Outcome A) → ((n : ℕ) (xs : List ℕ) → m ≡ refuse n xs → 1 ≤ n) → (passed m ≡ 0) ↔ ((a : A) × (m ≡ ok a))
unfolding passed
pass_told (ok a) h = (λ _. (a, refl), λ _. refl)
pass_told (refuse n xs) h = (λ e. absurd (omega (arith, h n xs refl)), λ p. absurd (ok_not_refuse (sym p.1)))

pub check_told : (bs : List ℕ) → (host_check_of bs ≡ 0) ↔ ((c : Counts) × ((host_words bs >>= λ ws. check_of ws) ≡ ok c))
unfolding host_check_of
check_told bs = pass_told (host_words bs >>= λ ws. check_of ws) (host_positive bs)

-- ---- step
-- a state is below 65,536
host_low : (bs : List ℕ) (s w t : ℕ) → (host_words bs >>= λ ws. step_of ws s w) ≡ ok t → t < 2 ^ 31
host_low bs s w t e =
    let p = bind_ok (host_words bs) _ t e in
    let ws = p.0 in
    let q = (step_exactly ws s w t).0 p.2 in
    let z = q.0 in
    let r = q.1 in
    let c = q.4 in
    let l = valuation_typed z ((order_exists z).1 r.order) (read_well_formed ws z r.reads) t c.next.new c.next.leads.after in
    omega (arith, l, states_few ws z r.reads)

state_told : (m : Outcome ℕ) → ((t : ℕ) → m ≡ ok t → t < 2 ^ 31) → (stepped m < 2 ^ 31) ↔ ((t : ℕ) × (m ≡ ok t))
unfolding stepped
state_told (ok t) h = (λ _. (t, refl), λ _. h t refl)
state_told (refuse n xs) h = (λ l. absurd (omega arith), λ p. absurd (ok_not_refuse (sym p.1)))

pub step_told : (bs : List ℕ) (s w : ℕ) → (host_step_of bs s w < 2 ^ 31) ↔ ((t : ℕ) × ((host_words bs >>= λ ws. step_of ws s w) ≡ ok t))
unfolding host_step_of
step_told bs s w = state_told (host_words bs >>= λ ws. step_of ws s w) (host_low bs s w)
