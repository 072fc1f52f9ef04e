-- Laws of the program as a whole: what is read is all of the input that is looked at, and what is written is what report made.
use Rattle.std.proofs.Common.{◌≡◌, ℕ, ◌+◌, ◌<◌, ◌≤◌, List, [], ◌++◌, length, take, drop, sym, ap, ◌∙◌, subst, Option, Some, None, length-take-le, append-nil, le_refl, arith}
use Rattle.std.proofs.Math.Decide.{dec_lt}
use Rattle.std.proofs.Math.Seq.{take-length, length-sets}
use Rattle.std.proofs.lemmas.List.{take-append-le}
use Rattle.std.proofs.lemmas.List.Edits.{sets, sets-eq}
use Rattle.std.specs.Io.KnownBytes.{Consumes, IsAtEnd, Appends}
use Rattle.meaning.specs.Program.{program_of}
use Rattle.report.specs.Beyond.{max_input, beyond_ignored}
use Rattle.scrcheck.specs.Prints.{Prints}

-- what stands at the front of the buffer after report
pub shown : (xs ys p : List ℕ) (k : ℕ) → ys ≡ sets xs 0 p → k ≡ length p → k ≤ length ys → take k ys ≡ p
shown xs ys p k e l h =
    let fits : 0 + length p ≤ length xs = omega (arith, h, l, ap length e, length-sets xs 0 p) in
    let rest = drop (0 + length p) xs in
    rw (l, e, sets-eq p xs 0 fits) (take-append-le (length p) p rest (le_refl (length p)) ∙ take-length p)

-- the bytes read decide what is printed: they are the input, or as much of it as is looked at
module _ (bytes : List ℕ) (n : ℕ) (long : length bytes ≡ max_input) (within : n ≤ length bytes) where
  decides : (input rest : List ℕ) → input ≡ take n bytes ++ rest → (n < length bytes → rest ≡ []) → program_of (take n bytes) ≡ program_of input
  decides input rest e ended = elim (dec_lt n (length bytes)) [
    | yes h ↦ ap program_of (sym (e ∙ ap (λ l. take n bytes ++ l) (ended h) ∙ append-nil (take n bytes)))
    | no h ↦
        let full : n ≡ max_input = omega (arith, h, long, within) in
        let all : length (take n bytes) ≡ max_input = length-take-le n bytes within ∙ full in
        ap program_of (sym (take-length (take n bytes)) ∙ sym (take-append-le (length (take n bytes)) (take n bytes) rest (le_refl (length (take n bytes)))) ∙ ap (λ m. take m (take n bytes ++ rest)) all ∙ ap (take max_input) (sym e)) ∙ beyond_ignored input
  ]

  pub judged : (old new before after : Option (List ℕ)) → Consumes old new (take n bytes) → (n < length bytes → IsAtEnd new)
      → Appends before after (program_of (take n bytes)) → Prints old before after
  judged None new before after taken ended put = tt
  judged (Some input) None before after taken ended put = elim taken [ ]
  judged (Some input) (Some rest) before after taken ended put = subst (Appends before after) (decides input rest taken ended) put
