-- Laws of the whole output, one for each way out.
use Rattle.std.specs.Prelude.{ℕ, ◌+◌, ◌≤◌, ◌≡◌, List, [], ◌++◌, length, take, drop, Ok, Err}
use Rattle.std.proofs.Common.{arith, sym, append_assoc, zero-add}
use Rattle.std.proofs.lemmas.List.Edits.{sets, sets-eq}
use Rattle.meaning.specs.Calls.{start_of}
use Rattle.meaning.specs.Check.{check_of}
use Rattle.meaning.specs.Program.{input_words, first_event, pass_line, refuse_line, run_from_start, printed, program_of}
use Rattle.theory.specs.CheckExactly.{check_passes_exactly}
use Rattle.scr.specs.declared.Counts.{Counts}
use Rattle.scr.specs.declared.Refusal.{Refusal}
use Rattle.scr.specs.Answers.{Verdict, refusal_says, refused, verdict_says}
use Rattle.report.specs.Lines.{counts_of}
use Rattle.report.specs.Runs.{Passed}

-- ---- a set and its events
module _ (ws : List ℕ) (v : Verdict) (ev : verdict_says v ≡ check_of ws) where
  pub pass_passed : (c : Counts) → v ≡ Ok c → Passed ws
  unfolding verdict_says
  pass_passed c e = let p = (check_passes_exactly ws (counts_of c)).0 (sym (rw e at ev)) in (p.0, p.1)

  module _ (es old all : List ℕ) where
    pub set_passed : (line : List ℕ) (c : Counts) → v ≡ Ok c → line ≡ old ++ pass_line (counts_of c) → all ≡ line ++ run_from_start ws es (start_of ws)
        → all ≡ old ++ printed ws es (check_of ws)
    unfolding printed verdict_says
    set_passed line c e h w = let o = rw e at ev in rw (← o, w, h, append_assoc)

    pub set_refused : (q : Refusal) → v ≡ Err q → all ≡ old ++ refuse_line (refusal_says q).0 (refusal_says q).1 → all ≡ old ++ printed ws es (check_of ws)
    unfolding printed verdict_says refused
    set_refused q e h = let o = rw e at ev in rw (← o) h

-- ---- the text copied to the front of the buffer
pub put_first : (old text p : List ℕ) → old ≡ [] → text ≡ old ++ p → text ≡ p
put_first old text p o e = rw o at e

pub shown : (out text front p : List ℕ) (n : ℕ) → text ≡ p → n ≡ length text → n ≤ length out → front ≡ text → front ++ drop n out ≡ sets out 0 p
shown out text front p n e en h q =
    let h' : 0 + length text ≤ length out = omega arith in
    rw (q, en, ← e, sets-eq text out 0 h', zero-add (length text))

-- ---- all of it
pub whole : (bs words front back set events : List ℕ) (k : ℕ) → words ≡ input_words bs → front ≡ words → back ≡ words → k ≡ first_event front → set ≡ take k back → events ≡ drop k back
    → printed set events (check_of set) ≡ program_of bs
unfolding program_of
whole bs words front back set events k e f b ek h g = rw (h, g, ek, f, b, e)
