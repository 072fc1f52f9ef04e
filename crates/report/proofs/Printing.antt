-- Laws of lines at the end of a text, one for each way out.
use Rattle.std.specs.Prelude.{ℕ, ◌+◌, ◌^◌, ◌<◌, ◌≤◌, ◌≡◌, List, [], ◌∷◌, ◌++◌, length, get_or, take, drop}
use Rattle.std.proofs.Common.{arith, sym, ap, ◌∙◌, append_assoc, append-nil, length-append, add-one, drop_of_length-le, drop-cons}
use Rattle.word.specs.Fields as W
use Rattle.word.specs.Limits as Max
use Rattle.meaning.specs.Reading.{word}
use Rattle.meaning.specs.Program.{decimal, fields, pass_line, refuse_line, event_line, event_lines}
use Rattle.scr.specs.declared.Counts.{Counts}
use Rattle.scr.specs.declared.Refusal.{Refusal}
use Rattle.scr.specs.declared.told.Told.{Told}
use Rattle.scr.specs.Answers.{refusal_says}
use Rattle.scr.specs.Telling.{told_says}
use Rattle.report.specs.Lines.{counts_of}
use Rattle.report.specs.Room as Room
use Rattle.report.proofs.Numbers.{decimal_few}

-- ---- fields
module _ (ns all text after : List ℕ) (i : ℕ) (inv : text ++ fields (drop i ns) ≡ all) where
  pub fields_on : i < length ns → after ≡ text ++ 32 ∷ decimal (get_or ns i 0) → after ++ fields (drop (i + 1) ns) ≡ all
  unfolding fields
  fields_on h e = rw (e, append_assoc, add-one i) (rw (drop-cons ns i 0 h) at inv)

  pub fields_end : length ns ≤ i → after ≡ text ++ 10 ∷ [] → after ≡ all
  unfolding fields
  fields_end h e = e ∙ (rw (drop_of_length-le ns h) at inv)

-- ---- the line of a set
module _ (old named all : List ℕ) where
  pub pass_put : (c : Counts) → named ≡ old ++ 80 ∷ 65 ∷ 83 ∷ 83 ∷ [] → all ≡ named ++ fields (c.states ∷ c.steps ∷ c.assertions ∷ []) → all ≡ old ++ pass_line (counts_of c)
  unfolding pass_line
  pass_put c e q = rw (q, e, append_assoc)

  pub refusal_put : (numbered part : List ℕ) (t : Told) (q : Refusal) (n : ℕ) → told_says t ≡ refusal_says q → n ≡ t.number → part ≡ take t.count t.carried
      → named ≡ old ++ 82 ∷ 69 ∷ 70 ∷ 85 ∷ 83 ∷ 69 ∷ [] → numbered ≡ named ++ 32 ∷ decimal n → all ≡ numbered ++ fields part
      → all ≡ old ++ refuse_line (refusal_says q).0 (refusal_says q).1
  unfolding refuse_line fields told_says
  refusal_put numbered part t q n h e ep en ef ez = rw (ez, ef, en, e, ep, ← h) (simp append_assoc)

-- ---- the lines of events
-- the bytes of one whose index a run can have are few
event_few : (i w s : ℕ) → i < Max.max_events → s < 2 ^ 32 → length (event_line i w s) ≤ Room.short_event
unfolding event_line fields W.variable W.value
event_few i w s hi hs =
    simp length-append
    (omega (arith, decimal_few 3 i (omega arith), decimal_few 3 (W.variable w) (omega arith), decimal_few 3 (W.value w) (omega arith), decimal_few 9 s (omega arith)))

module _ (es old numbered all : List ℕ) (i s w v k : ℕ) (ew : w ≡ word es i) (ev : v ≡ W.variable w) (ek : k ≡ W.value w) (e : numbered ≡ old ++ decimal i)
    (q : all ≡ numbered ++ fields (v ∷ k ∷ s ∷ [])) where
  pub event_put : all ≡ old ++ event_line i (word es i) s
  unfolding event_line
  event_put = rw (q, e, ev, ek, ew, append_assoc)

  pub event_short : s < 2 ^ 32 → i < Max.max_events → length all ≤ length old + Room.short_event
  event_short hs hi = omega (arith, event_few i (word es i) s hi hs, ap length event_put, length-append old (event_line i (word es i) s))

module _ (es ss all text after : List ℕ) (i : ℕ) (inv : text ++ event_lines i es (drop i ss) ≡ all) where
  pub events_on : i < length ss → after ≡ text ++ event_line i (word es i) (get_or ss i 0) → after ++ event_lines (i + 1) es (drop (i + 1) ss) ≡ all
  unfolding event_lines
  events_on h e = rw (e, append_assoc, add-one i) (rw (drop-cons ss i 0 h) at inv)

  pub events_end : length ss ≤ i → text ≡ all
  unfolding event_lines
  events_end h = sym (append-nil text) ∙ (rw (drop_of_length-le ss h) at inv)
