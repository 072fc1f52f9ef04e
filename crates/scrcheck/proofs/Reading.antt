-- Laws of reading: the bytes that stand at the front are those that the reader gave, one read after another.
use Rattle.std.proofs.Common.{◌≡◌, ℕ, ◌+◌, ◌-◌, ◌≤◌, List, ◌++◌, length, take, sym, ap, ◌∙◌, subst, le_refl, drop_at, length-take-le, append_assoc, Option, Some, None, take-add}
use Rattle.std.proofs.lemmas.List.{take-append-le}
-- std does not pass these on
use borrow.Rule.Slice.PartMut.{put_mid, post_of}
use Rattle.std.specs.Io.KnownBytes.{Consumes, Keeps}
use Rattle.std.proofs.lemmas.Slice.{take-put_mid_below}

-- one part taken after another
consumes_then : (x y z : Option (List ℕ)) (bs cs : List ℕ) → Consumes x y bs → Consumes y z cs → Consumes x z (bs ++ cs)
consumes_then None y z bs cs e f = tt
consumes_then (Some xs) None z bs cs e f = elim e [ ]
consumes_then (Some xs) (Some ys) None bs cs e f = elim f [ ]
consumes_then (Some xs) (Some ys) (Some zs) bs cs e f = e ∙ ap (λ l. bs ++ l) f ∙ sym (append_assoc bs cs zs)

consumes_kept : (x y z : Option (List ℕ)) (bs : List ℕ) → Consumes x y bs → Keeps y z → Consumes x z bs
consumes_kept None y z bs e k = tt
consumes_kept (Some xs) None z bs e k = elim e [ ]
consumes_kept (Some xs) (Some ys) None bs e k = elim k [ ]
consumes_kept (Some xs) (Some ys) (Some zs) bs e k = e ∙ ap (λ l. bs ++ l) (sym k)

-- the front of a list whose rest from a on was written
module _ (a : ℕ) (bytes part : List ℕ) (within : a ≤ length bytes) where
  front_same : take a (put_mid a (length bytes - a) bytes part) ≡ take a bytes
  front_same = take-put_mid_below _ _ _ _ _ (le_refl _) within

  front_longer : (n : ℕ) → n ≤ length part → take a bytes ++ take n part ≡ take (a + n) (put_mid a (length bytes - a) bytes part)
  front_longer n fits =
      let k = length bytes - a in
      let new = put_mid a k bytes part in
      let rest = post_of a k bytes in
      let here = drop_at (take a bytes) (part ++ rest) a (length-take-le a bytes within) in
      let inside = ap (take n) here ∙ take-append-le n part rest fits in
      ap (λ l. l ++ take n part) (sym front_same) ∙ ap (λ l. take a new ++ l) (sym inside) ∙ sym (take-add a n new)

  module _ (x y z : Option (List ℕ)) (taken : Consumes x y (take a bytes)) where
    pub read_more : (n : ℕ) → n ≤ length part → Consumes y z (take n part) → Consumes x z (take (a + n) (put_mid a (length bytes - a) bytes part))
    read_more n fits e = subst (Consumes x z) (front_longer n fits) (consumes_then x y z _ _ taken e)

    pub read_none : Keeps y z → Consumes x z (take a (put_mid a (length bytes - a) bytes part))
    read_none k = subst (Consumes x z) (sym front_same) (consumes_kept x y z _ taken k)
