-- Laws of text put into lent bytes, one for each way out.
use Rattle.std.specs.Prelude.{ℕ, suc, ◌+◌, ◌-◌, ◌<◌, ◌≤◌, ◌≡◌, List, [], ◌∷◌, ◌++◌, length, get_or, take, drop}
use Rattle.std.proofs.Common.{arith, refl, sym, ap, ◌∙◌, add-zero, add-one, set, append_assoc, drop_of_length-le, drop-cons}
use Rattle.std.proofs.lemmas.List.Edits.{sets, sets-eq, paste_all}
use Rattle.std.proofs.lemmas.Slice.{put_mid-paste}
-- std does not pass this on
use borrow.Rule.Slice.PartMut.{put_mid}
use Rattle.meaning.specs.Reading.{word}
use Rattle.meaning.specs.Program.{event_line, event_lines}
use Rattle.report.specs.Text.{Buffer, buffer, ◌with◌, Puts}

-- ---- none, and one text after another
with_none : (p : Buffer) → p with [] ≡ p
unfolding ◌with◌
with_none (buffer xs at) = rw add-zero

with_more : (xs text : List ℕ) (at b : ℕ) → buffer xs at with (b ∷ text) ≡ buffer (set xs at b) (suc at) with text
unfolding ◌with◌
with_more xs text at b =
    let on : at + suc (length text) ≡ suc at + length text = omega arith in
    ap (buffer (sets xs at (b ∷ text))) on

with_then : (p : Buffer) (a b : List ℕ) → p with a with b ≡ p with (a ++ b)
with_then p [] b = rw (with_none p)
with_then (buffer xs at) (x ∷ a) b = rw (with_more xs a at x, with_more xs (a ++ b) at x) (with_then (buffer (set xs at x) (suc at)) a b)

-- ---- a text copied to its place
pub text_put : (xs text new : List ℕ) (at : ℕ) → at + length text ≤ length xs → new ≡ text → Puts text xs at (put_mid at (at + length text - at) xs new) (at + length text)
unfolding ◌with◌
text_put xs text new at h e =
    let n : length text ≡ at + length text - at = omega arith in
    ap (λ (ys : List ℕ). buffer ys (at + length text))
    (put_mid-paste at (at + length text - at) xs new text (length text) e n refl ∙ paste_all xs at text (length text) refl
    ∙ sym (append_assoc (take at xs) text (drop (at + length text) xs)) ∙ sym (sets-eq text xs at h))

-- a line, made in a text that was empty
pub line_put : (xs ys old text part line : List ℕ) (at r : ℕ) → old ≡ [] → text ≡ old ++ line → part ≡ text → Puts part xs at ys r → Puts line xs at ys r
line_put xs ys old text part line at r o e q h = rw (q, e, o) at h

-- ---- the lines of events
module _ (es ss xs ys : List ℕ) (at on i : ℕ) (inv : buffer ys on with event_lines i es (drop i ss) ≡ buffer xs at with event_lines 0 es ss) where
  pub events_on : (zs old text part : List ℕ) (r : ℕ) → i < length ss → old ≡ [] → text ≡ old ++ event_line i (word es i) (get_or ss i 0) → part ≡ text → Puts part ys on zs r
      → buffer zs r with event_lines (i + 1) es (drop (i + 1) ss) ≡ buffer xs at with event_lines 0 es ss
  unfolding event_lines
  events_on zs old text part r h o e q p =
      let w = line_put ys zs old text part (event_line i (word es i) (get_or ss i 0)) on r o e q p in
      rw (w, with_then, add-one i) (rw (drop-cons ss i 0 h) at inv)

  pub events_end : length ss ≤ i → Puts (event_lines 0 es ss) xs at ys on
  unfolding event_lines
  events_end h = sym (with_none (buffer ys on)) ∙ (rw (drop_of_length-le ss h) at inv)
