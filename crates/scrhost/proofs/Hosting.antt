-- Laws of the host's functions, one for each way out.
use Rattle.std.specs.Prelude.{ℕ, ◌+◌, ◌/◌, ◌%◌, ◌<◌, ◌≤◌, ◌≡◌, ◌⊎◌, List, [], ◌∷◌, length, Ok, Err}
use Rattle.std.proofs.Common.{arith, refl, inl, inr, eq-eqb, ne_eqb, le-leb}
use Rattle.std.proofs.Math.Decide.{dec_lt}
use Rattle.std.proofs.lemmas.Bool.{lt-leb}
use Rattle.word.specs.Limits as Max
use Rattle.meaning.specs.Answers.{Outcome, ok, refuse, ◌>>=◌}
use Rattle.meaning.specs.Searches.{within}
use Rattle.meaning.specs.Syntax.{TableSet}
use Rattle.meaning.specs.Reading.{read_words}
use Rattle.meaning.specs.States.{read_typed, read_set}
use Rattle.meaning.specs.Check.{check_of}
use Rattle.meaning.specs.Steps.{step_of}
use Rattle.meaning.specs.Host.{words_of_bytes, host_words, passed, stepped, host_check_of, host_step_of}
use Rattle.theory.specs.Found.{refuse_same}
use Rattle.scr.specs.declared.Refusal.{Refusal}
use Rattle.scr.specs.declared.told.Told.{Told}
use Rattle.scr.specs.Answers.{Answer, Verdict, refusal_says, refused, answer_says, verdict_says}
use Rattle.scr.specs.Telling.{told_says}
use Rattle.scrhost.specs.Limits.{Refused}
use Rattle.scrhost.proofs.Copying.{length_words}

-- ---- answers as numbers
pub check_passes : (v : Verdict) (c : _) → v ≡ Ok c → 0 ≡ passed (verdict_says v)
unfolding passed verdict_says
check_passes v c e = rw e

pub check_refuses : (v : Verdict) (q : Refusal) (t : Told) → v ≡ Err q → told_says t ≡ refusal_says q
    → t.number ≡ passed (verdict_says v)
unfolding passed verdict_says refused told_says
check_refuses v q t e h = rw (e, ← h)

pub step_gives : (a : Answer) (s : ℕ) → a ≡ Ok s → s ≡ stepped (answer_says a)
unfolding stepped answer_says
step_gives a s e = rw e

pub step_refuses : (a : Answer) (q : Refusal) (t : Told) → a ≡ Err q → told_says t ≡ refusal_says q
    → 2147483648 + t.number ≡ stepped (answer_says a)
unfolding stepped answer_says refused told_says
step_refuses a q t e h = rw (e, ← h)

-- ---- bytes that are no words of a set
long_refused : (ws : List ℕ) → Max.max_words < length ws → read_set ws ≡ refuse 1 (length ws ∷ [])
unfolding read_set read_typed read_words within
long_refused ws h =
    let h' : 1 ≤ length ws = omega arith in
    simp (lt-leb (length ws) Max.max_words h, le-leb 1 (length ws) h')

module _ (bs : List ℕ) where
  whole_words : length bs % 4 ≡ 0 → host_words bs ≡ ok (words_of_bytes bs (length bs / 4) 0)
  unfolding host_words
  whole_words e = rw (eq-eqb (length bs % 4) 0 e)

  broken_refused : (length bs % 4 ≡ 0 → ⊥) → Refused bs
  unfolding host_words
  broken_refused n = (length bs ∷ [], rw (ne_eqb (length bs % 4) 0 n))

  many_refused : length bs % 4 ≡ 0 → Max.max_words < length bs / 4 → Refused bs
  many_refused e h =
      let ws = words_of_bytes bs (length bs / 4) 0 in
      let l : Max.max_words < length ws = rw (length_words bs (length bs / 4) 0) h in
      (length ws ∷ [], rw (whole_words e) (long_refused ws l))

  pub unfit : (rest : ℕ) → rest ≡ length bs % 4 → (0 < rest) ⊎ (Max.max_words < length bs / 4) → Refused bs
  unfit rest e (inl h) = broken_refused (λ z. omega arith)
  unfit rest e (inr h) = elim (dec_lt 0 rest) [ yes s ↦ broken_refused (λ z. omega arith) | no z ↦ many_refused (omega arith) h ]

  pub whole : (ws : List ℕ) (rest : ℕ) → rest ≡ length bs % 4 → rest ≡ 0 → ws ≡ words_of_bytes bs (length bs / 4) 0 → host_words bs ≡ ok ws
  whole ws rest e z h = rw h (whole_words (omega arith))

  -- ---- the host's answers
  -- what is made of refusal 1 is made of every call that begins with the reading
  unread : {A : Type 0} (f : TableSet → Outcome A) (g : Outcome A → ℕ) (k : ℕ) → ((xs : List ℕ) → k ≡ g (refuse 1 xs)) → Refused bs → k ≡ g (host_words bs >>= λ ws. read_set ws >>= f)
  unread f g k h r = go (host_words bs) r.1
    where
      go : (m : Outcome (List ℕ)) → (m >>= λ ws. read_set ws) ≡ refuse 1 r.0 → k ≡ g (m >>= λ ws. read_set ws >>= f)
      go (ok ws) e = rw e (h r.0)
      go (refuse n ys) e = rw (refuse_same e).0 (h ys)

  pub check_refused : Refused bs → 1 ≡ host_check_of bs
  unfolding host_check_of passed check_of
  check_refused r = unread _ passed 1 (λ xs. refl) r

  pub step_refused : (s w : ℕ) → Refused bs → 2147483649 ≡ host_step_of bs s w
  unfolding host_step_of stepped step_of
  step_refused s w r = unread _ stepped 2147483649 (λ xs. refl) r

  module _ (ws : List ℕ) (r : ℕ) (e : host_words bs ≡ ok ws) where
    pub check_words : (v : Verdict) → verdict_says v ≡ check_of ws → r ≡ passed (verdict_says v) → r ≡ host_check_of bs
    unfolding host_check_of
    check_words v ev er = rw (e, ← ev) er

    pub step_words : (s w : ℕ) (a : Answer) → answer_says a ≡ step_of ws s w → r ≡ stepped (answer_says a) → r ≡ host_step_of bs s w
    unfolding host_step_of
    step_words s w a ea er = rw (e, ← ea) er
