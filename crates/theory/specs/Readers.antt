-- What a reader gives: one law for each way in which a reader is put together.
use Rattle.std.specs.Prelude.{ℕ, ◌≡◌, refl, Bool, true, false, List}
use Rattle.std.proofs.Common.{sym, subst}
use Rattle.meaning.specs.Answers.{Parse, fine, stop, ◌>>>◌, expect, if◌give◌else◌}
use Rattle.meaning.specs.Reading.{Read, word, fits, word_at}
use Rattle.theory.specs.Found.{fine_same, fine_not_stop}

-- where m does not stop, P holds of what it gives
pub data Gives {A : Type 0} (P : A → Type 0) : Parse A → Type 0 where
  gives : (a : A) → P a → Gives P (fine a)
  stops : (n i : ℕ) → Gives P (stop n i)

pub always : {A : Type 0} {P : A → Type 0} (m : Parse A) → ((a : A) → P a) → Gives P m
always (fine a) h = gives a (h a)
always (stop n i) h = stops n i

pub expected : (b : Bool) (n i : ℕ) → Gives (λ u. b ≡ true) (expect b n i)
expected true n i = gives tt refl
expected false n i = stops n i

-- one part after another: of the first Q is known, or (past) nothing
pub after : {A B : Type 0} {Q : A → Type 0} {P : B → Type 0} {m : Parse A} {f : A → Parse B}
    → Gives Q m → ((a : A) → Q a → Gives P (f a)) → Gives P (m >>> f)
after (gives a q) h = h a q
after (stops n i) h = stops n i

pub past : {A B : Type 0} {P : B → Type 0} (m : Parse A) {f : A → Parse B} → ((a : A) → Gives P (f a)) → Gives P (m >>> f)
past (fine a) h = h a
past (stop n i) h = stops n i

-- what follows from what is known of the last part
pub so : {A : Type 0} {Q P : A → Type 0} {m : Parse A} → Gives Q m → ((a : A) → Q a → P a) → Gives P m
so (gives a q) h = gives a (h a q)
so (stops n i) h = stops n i

pub branches : {A : Type 0} {P : A → Type 0} (b : Bool) {f g : Unit {0} → Parse A}
    → ((u : Unit {0}) → Gives P (f u)) → ((u : Unit {0}) → Gives P (g u)) → Gives P (if b give f else g)
branches true p q = p tt
branches false p q = q tt

-- the same where it matters how the test came out
pub decides : {A : Type 0} {P : A → Type 0} (b : Bool) {f g : Unit {0} → Parse A}
    → ((u : Unit {0}) → b ≡ true → Gives P (f u)) → ((u : Unit {0}) → b ≡ false → Gives P (g u)) → Gives P (if b give f else g)
decides true p q = p tt refl
decides false p q = q tt refl

-- what is given, with the equation that says so
pub given_as : {A : Type 0} {P : A → Type 0} {m : Parse A} → Gives P m → Gives (λ a. P a × (m ≡ fine a)) m
given_as (gives a p) = gives a (p, refl)
given_as (stops n i) = stops n i

-- what has been read has been given
pub given : {A : Type 0} {P : A → Type 0} {m : Parse A} (a : A) → Gives P m → m ≡ fine a → P a
given {P} a (gives b p) e = subst P (fine_same e) p
given a (stops n i) e = absurd (fine_not_stop (sym e))

-- a word that fits is the word that is there
pub word_then : {A : Type 0} (ws kinds : List ℕ) (i : ℕ) (f : ℕ → Read A)
    → (word_at ws kinds i >>> f) ≡ (expect (fits kinds (word ws i)) 2 i >>> λ _. f (word ws i))
unfolding word_at
word_then {A} ws kinds i f = go (fits kinds (word ws i))
  where
    go : (b : Bool) → ◌≡◌ {A = Read A} (expect b 2 i >>> (λ _. fine (word ws i)) >>> f) (expect b 2 i >>> λ _. f (word ws i))
    go true = refl
    go false = refl
