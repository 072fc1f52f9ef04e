-- The demands of each entry, from its equations: demand 1 of all, 2 of check and step, 3 of run.
use Rattle.std.proofs.Common.{◌≡◌, refl, sym, ◌∙◌, inl, inr, List, ℕ, length}
use Rattle.meaning.specs.Answers.{Outcome, ok, refuse, start_numbers, check_numbers, step_numbers, values_numbers}
use Rattle.meaning.specs.States.{Values}
use Rattle.meaning.specs.Steps.{step_of}
use Rattle.meaning.specs.Check.{check_of}
use Rattle.meaning.specs.Run.{run_of}
use Rattle.meaning.specs.Calls.{start_of, values_of, lent_values, rows_of}
use Rattle.meaning.specs.Passes.{Refused}
use Rattle.meaning.specs.Demand1.{StartRefused, StepRefused, ValuesRefused, AnswersOrRefuses, RunAnswers, RowsAnswers}
use Rattle.meaning.specs.Demand3.{Demand3}
use Rattle.theory.specs.Found.{ok_not_refuse, ok_same, refuse_same}
use Rattle.theory.specs.CheckExactly.{check_passes_exactly, check_refuses_exactly}
use Rattle.theory.specs.CallsExactly.{start_answers, values_exactly}
use Rattle.theory.specs.StepExactly.{step_exactly}
use Rattle.theory.specs.RunExactly.{demand_3_holds}
use Rattle.theory.specs.Demand1Holds.{demand_1}
use Rattle.scr.specs.Answers.{Answer, Verdict, answer_says, verdict_says, count_of}
use Rattle.scr.specs.Promises.{Demand2, StepsExactly, StartsExactly, ValuesExactly}

-- ---- demand 1
pub start_demand : (ws : List ℕ) (r : Answer) → answer_says r ≡ start_of ws → AnswersOrRefuses (answer_says r) start_numbers (StartRefused ws)
start_demand ws r e = rw e (demand_1.start ws)

pub check_demand : (ws : List ℕ) (r : Verdict) → verdict_says r ≡ check_of ws → AnswersOrRefuses (verdict_says r) check_numbers (Refused ws)
check_demand ws r e = rw e (demand_1.check ws)

pub step_demand : (ws : List ℕ) (s w : ℕ) (r : Answer) → answer_says r ≡ step_of ws s w → AnswersOrRefuses (answer_says r) step_numbers (StepRefused ws s w)
step_demand ws s w r e = rw e (demand_1.step ws s w)

pub run_demand : (ws : List ℕ) (s : ℕ) (es lent : List ℕ) (place : ℕ) (r : Answer) (after : List ℕ)
    → answer_says r ≡ (run_of ws s es lent place).answer → after ≡ (run_of ws s es lent place).lent
    → RunAnswers ws s es lent place (answer_says r) after
run_demand ws s es lent place r after ea el = rw (ea, el) (demand_1.run ws s es lent place)

-- the number of values is refused as the values are
counted : (m : Outcome Values) (numbers : List ℕ) (R : ℕ → List ℕ → Type 0) → AnswersOrRefuses m numbers R → AnswersOrRefuses (count_of m) numbers R
unfolding count_of
counted (ok a) numbers R d = record {
  either = inl (length a, refl);
  not_both = λ c n xs e r. d.not_both a n xs refl r;
  refuses = λ n xs. (λ e. absurd (ok_not_refuse e), λ r. absurd (d.not_both a n xs refl r));
  one = d.one;
  numbered = d.numbered;
}
counted (refuse k ys) numbers R d = record {
  either = inr (k, ys, (d.refuses k ys).0 refl);
  not_both = λ c n xs e r. absurd (ok_not_refuse (sym e));
  refuses = λ n xs. (
    λ e. let p = refuse_same e in (d.refuses n xs).0 (rw (p.0, p.1)),
    λ r. let p = refuse_same ((d.refuses n xs).1 r) in rw (p.0, p.1),
  );
  one = d.one;
  numbered = d.numbered;
}

pub values_demand : (ws : List ℕ) (s : ℕ) (lent : List ℕ) (r : Answer) → answer_says r ≡ count_of (values_of ws s (length lent))
    → AnswersOrRefuses (answer_says r) values_numbers (ValuesRefused ws s (length lent))
values_demand ws s lent r e = rw e (counted (values_of ws s (length lent)) values_numbers (ValuesRefused ws s (length lent)) (demand_1.values ws s lent))

pub rows_demand : (ws : List ℕ) (v : ℕ) (part : List ℕ) → part ≡ rows_of ws v → RowsAnswers ws v part
rows_demand ws v part e = rw e (demand_1.rows ws v)

-- ---- demand 2
pub demand_2 : (ws : List ℕ) (r : Verdict) → verdict_says r ≡ check_of ws → Demand2 ws r
demand_2 ws r e = record {
  passes = λ c. (
    λ q. (check_passes_exactly ws c).0 (sym e ∙ q),
    λ q. e ∙ (check_passes_exactly ws c).1 q,
  );
  refuses = λ n xs. (
    λ q. (check_refuses_exactly ws n xs).0 (sym e ∙ q),
    λ q. e ∙ (check_refuses_exactly ws n xs).1 q,
  );
}

pub steps_exactly : (ws : List ℕ) (s w : ℕ) (r : Answer) → answer_says r ≡ step_of ws s w → StepsExactly ws s w r
steps_exactly ws s w r e t = let q = step_exactly ws s w t in (λ x. q.0 (sym e ∙ x), λ x. e ∙ q.1 x)

pub starts_exactly : (ws : List ℕ) (r : Answer) → answer_says r ≡ start_of ws → StartsExactly ws r
starts_exactly ws r e t = let q = start_answers ws t in (λ x. q.0 (sym e ∙ x), λ x. e ∙ q.1 x)

-- the number of values and the lent list, from the values
counted_ok : (m : Outcome Values) (k : ℕ) → count_of m ≡ ok k → (a : Values) × (m ≡ ok a) × (k ≡ length a)
unfolding count_of
counted_ok (ok a) k e = (a, refl, sym (ok_same e))
counted_ok (refuse n xs) k e = absurd (ok_not_refuse (sym e))

counted_refused : (m : Outcome Values) (lent : List ℕ) (n : ℕ) (xs : List ℕ) → count_of m ≡ refuse n xs → lent_values m lent ≡ lent
unfolding count_of lent_values
counted_refused (ok a) lent n xs e = absurd (ok_not_refuse e)
counted_refused (refuse m ys) lent n xs e = refl

pub values_shown : (ws : List ℕ) (s : ℕ) (lent after : List ℕ) (r : Answer) → answer_says r ≡ count_of (values_of ws s (length lent))
    → after ≡ lent_values (values_of ws s (length lent)) lent → ValuesExactly ws s lent r after
unfolding count_of lent_values
values_shown ws s lent after r e el = record {
  answers = λ k. (
    λ q.
        let c = counted_ok (values_of ws s (length lent)) k (sym e ∙ q) in
        let p = (values_exactly ws s (length lent) c.0).0 c.1 in
        (p.0, c.0, p.1, p.2, p.3, p.4, c.2 ∙ p.4.here.long),
    λ p. e ∙ rw ((values_exactly ws s (length lent) p.1).1 (p.0, p.2, p.3, p.4, p.5)) (rw (p.6, p.5.here.long)),
  );
  written = λ z a h k l o. el ∙ rw ((values_exactly ws s (length lent) a).1 (z, h, k, l, o));
  kept = λ n xs q. el ∙ counted_refused (values_of ws s (length lent)) lent n xs (sym e ∙ q);
}

-- ---- demand 3
pub demand_3 : (ws : List ℕ) (s : ℕ) (es lent : List ℕ) (place : ℕ) (r : Answer) (after : List ℕ)
    → answer_says r ≡ (run_of ws s es lent place).answer → after ≡ (run_of ws s es lent place).lent
    → Demand3 ws s es lent place (answer_says r) after
demand_3 ws s es lent place r after ea el = rw (ea, el) (demand_3_holds ws s es lent place)
