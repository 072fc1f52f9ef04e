-- Laws of read_variables, one for each way out. What is left to read from here is the whole reading.
use Rattle.std.specs.Prelude.{◌≡◌, Bool, true, false, not, List, [], ℕ, zero, suc, ◌+◌, ◌-◌, ◌≤◌, ◌<◌, eqb, length, get_or, replicate, set, Ok, Err}
use Rattle.std.proofs.Common.{sym, ◌∙◌, arith, add-one, get_or-set_same, get_or-set_other, ne_eqb, eq-eqb}
use Rattle.std.proofs.lemmas.List.{get_or-replicate}
use Rattle.std.proofs.lemmas.Bool.{not-true, not-false}
use Rattle.word.specs.Fields as W
use Rattle.word.specs.Limits as Max
use Rattle.meaning.specs.Answers.{fine, stop}
use Rattle.meaning.specs.Syntax.{Variable}
use Rattle.meaning.specs.Reading.{word, variable_ok, read_variables}
use Rattle.theory.specs.Loops.{left}
use Rattle.index.specs.Places.{place_count, head_of, variables_to}
use Rattle.index.proofs.Laws.{variables_same}
use Rattle.reader.specs.declared.found.Found.{Found}
use Rattle.reader.specs.declared.faults.Fault.TheVariants.{Range, Limit}
use Rattle.reader.specs.Faults.{refusal, carried}
use Rattle.reader.specs.Variables.{NoTables, VariablesAs}
use Rattle.reader.proofs.TestLaws.{kind_past}

-- ---- the places as they come, and with one more
pub places_none : NoTables (replicate place_count 0)
unfolding NoTables
places_none v h = let z : ℕ = 0 in get_or-replicate place_count v z z (let l : v < place_count = omega arith in l)

pub no_tables_on : (ps : List ℕ) (i x : ℕ) → NoTables ps → NoTables (set ps (Max.max_variables + i) x)
unfolding NoTables
no_tables_on ps i x h v l = get_or-set_other ps (Max.max_variables + i) v x 0 (λ e. (let z : ⊥ = omega arith in z)) ∙ h v l

-- the place of variable i's word is written, that of those before is not seen
module _ (ws ps : List ℕ) (i : ℕ) (h : i < Max.max_variables) (len : length ps ≡ place_count) where
  head_written : head_of (set ps (Max.max_variables + i) i) i ≡ i
  unfolding head_of
  head_written = get_or-set_same ps (Max.max_variables + i) i 0 (rw len (omega arith))

  heads_before : variables_to ws (set ps (Max.max_variables + i) i) i ≡ variables_to ws ps i
  unfolding head_of
  heads_before =
      variables_same ws (set ps (Max.max_variables + i) i) ps i
      (λ v l. get_or-set_other ps (Max.max_variables + i) (Max.max_variables + v) i 0 (λ e. (let z : ⊥ = omega arith in z)))

-- ---- the readings
module _ (ws : List ℕ) where
  ended : (l i : ℕ) (vs : List Variable) → eqb (W.kind (word ws i)) 1 ≡ false → read_variables ws l i vs ≡ fine (vs, i)
  unfolding read_variables
  ended zero i vs e = rw e
  ended (suc l) i vs e = rw e

  out_of_range : (l i : ℕ) (vs : List Variable) → eqb (W.kind (word ws i)) 1 ≡ true → variable_ok (word ws i) ≡ false
      → read_variables ws (suc l) i vs ≡ stop 3 i
  unfolding read_variables
  out_of_range l i vs e f = rw (e, f)

  one_more : (ps : List ℕ) (l i : ℕ) → i < Max.max_variables → length ps ≡ place_count → eqb (W.kind (word ws i)) 1 ≡ true
      → variable_ok (word ws i) ≡ true
      → read_variables ws (suc l) i (variables_to ws ps i)
      ≡ read_variables ws l (suc i) (variables_to ws (set ps (Max.max_variables + i) i) (suc i))
  unfolding read_variables variables_to
  one_more ps l i h len e f = rw (e, f, heads_before ws ps i h len, head_written ws ps i h len)

  one_over : (i : ℕ) (vs : List Variable) → eqb (W.kind (word ws i)) 1 ≡ true → read_variables ws 0 i vs ≡ stop 4 i
  unfolding read_variables
  one_over i vs e = rw e

  module _ (ps : List ℕ) (i : ℕ)
      (inv : read_variables ws (Max.max_variables - i) i (variables_to ws ps i) ≡ read_variables ws Max.max_variables 0 []) where
    -- f is what has been found where the variables end
    ending : (f : Found) → f.places ≡ ps → f.count ≡ i → i ≤ Max.max_variables → length ps ≡ place_count → NoTables ps
        → eqb (W.kind (word ws i)) 1 ≡ false → VariablesAs ws (Ok f)
    unfolding VariablesAs
    ending f ep ei h len none e = rw (ep, ei) (record {
      variables_read = sym inv ∙ ended (Max.max_variables - i) i (variables_to ws ps i) e;
      few = h;
      long = len;
      no_tables = none;
    })

    pub variables_past : (f : Found) → f.places ≡ ps → f.count ≡ length ws → i ≤ length ws → i ≤ Max.max_variables → length ps ≡ place_count → NoTables ps → length ws ≤ i → VariablesAs ws (Ok f)
    variables_past f ep en l h len none past =
        let e : f.count ≡ i = omega arith in
        ending f ep e h len none (rw (kind_past ws i past))

    -- the word at i, as a loop over the words has it, is of kind k
    module _ (k : ℕ) (ek : k ≡ W.kind (get_or ws i 0)) where
      kind_is : (b : Bool) → eqb k 1 ≡ b → eqb (W.kind (word ws i)) 1 ≡ b
      unfolding word
      kind_is b e = rw (← ek) e

      pub variables_end : (f : Found) → f.places ≡ ps → f.count ≡ i → i ≤ Max.max_variables → length ps ≡ place_count → NoTables ps
          → (k ≡ 1 → ⊥) → VariablesAs ws (Ok f)
      variables_end f ep ei h len none n = ending f ep ei h len none (kind_is false (ne_eqb k 1 n))

      pub variables_over : k ≡ 1 → i ≡ Max.max_variables → VariablesAs ws (Err (Limit i))
      unfolding VariablesAs refusal carried
      variables_over e1 e =
          let f : eqb (W.kind (word ws Max.max_variables)) 1 ≡ true = rw e at (kind_is true (eq-eqb k 1 e1)) in
          rw e (sym (rw e at inv) ∙ one_over Max.max_variables (variables_to ws ps Max.max_variables) f)

      module _ (b : Bool) (e1 : k ≡ 1) (few : i ≤ Max.max_variables) (more : i ≡ Max.max_variables → ⊥) (eb : b ≡ variable_ok (get_or ws i 0)) where
        h : i < Max.max_variables
        h = omega (arith, more)

        fields_are : (x : Bool) → b ≡ x → variable_ok (word ws i) ≡ x
        unfolding word
        fields_are x e = rw (← eb) e

        pub variables_bad : not b ≡ true → VariablesAs ws (Err (Range i))
        unfolding VariablesAs refusal carried
        variables_bad n =
            sym (rw (left Max.max_variables i h) at inv)
            ∙ out_of_range (Max.max_variables - (i + 1)) i (variables_to ws ps i) (kind_is true (eq-eqb k 1 e1)) (fields_are false (not-true b n))

        pub variables_on : length ps ≡ place_count → not b ≡ false
            → read_variables ws (Max.max_variables - (i + 1)) (i + 1) (variables_to ws (set ps (Max.max_variables + i) i) (i + 1))
            ≡ read_variables ws Max.max_variables 0 []
        variables_on len n =
            rw (add-one i)
            (sym (one_more ps (Max.max_variables - suc i) i h len (kind_is true (eq-eqb k 1 e1)) (fields_are true (not-false b n)))
            ∙ (rw (left Max.max_variables i h, add-one i) at inv))

pub ruleset variables_laws = (places_none, no_tables_on, variables_end, variables_past, variables_bad, variables_on, variables_over)
