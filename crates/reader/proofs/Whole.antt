-- Laws of read_words, one for each way out.
use Rattle.std.specs.Prelude.{◌≡◌, refl, true, List, [], ◌∷◌, ℕ, ◌≤◌, ◌<◌, length, Result, Ok, Err}
use Rattle.std.proofs.Common.{sym, ap, subst, ◌∙◌, arith, le-leb}
use Rattle.std.proofs.lemmas.Bool.{lt-leb}
use Rattle.word.specs.Limits as Max
use Rattle.meaning.specs.Answers.{ok, refuse, fine, stop, parsed}
use Rattle.meaning.specs.Searches.{within}
use Rattle.meaning.specs.Syntax.{Condition, Table, TableSet}
use Rattle.meaning.specs.Reading.{read_tables, read_assertions, read_words}
use Rattle.index.specs.Places.{Reached, Next, Refused, reach, told, variables_to}
use Rattle.index.specs.Indexed.{Indexed}
use Rattle.index.proofs.Laws.{variables_length}
use Rattle.reader.specs.declared.faults.Fault.{Fault}
use Rattle.reader.specs.declared.found.Found.{Found}
use Rattle.reader.specs.declared.faults.Fault.TheVariants.{Length}
use Rattle.reader.specs.Faults.{refusal, carried, reached}
use Rattle.reader.specs.Variables.{VariablesRead, VariablesAs}
use Rattle.reader.specs.Tables.{read_places}
use Rattle.reader.specs.Typed.{ReadAs}
use Rattle.reader.proofs.Answers.{reach_stop, reach_fine}
use Rattle.reader.proofs.Places.{tables_stopped, tables_read}

module _ (ws : List ℕ) where
  pub words_none : length ws ≡ 0 → ReadAs ws (Err (Length (length ws)))
  unfolding ReadAs read_words within refusal carried
  words_none e = rw e

  pub words_over : Max.max_words < length ws → ReadAs ws (Err (Length (length ws)))
  unfolding ReadAs read_words within refusal carried
  words_over h = rw (lt-leb (length ws) Max.max_words h, le-leb 1 (length ws) (omega arith))

  module _ (some_words : length ws ≡ 0 → ⊥) (not_over : length ws ≤ Max.max_words) where
    fit : within 1 Max.max_words (length ws) ≡ true
    unfolding within
    fit = rw (le-leb 1 (length ws) (omega arith), le-leb (length ws) Max.max_words not_over)

    -- p₁ are the places once the variables have been read, ps those once the tables have been
    module _ (p₁ ps : List ℕ) (n i : ℕ) (read : VariablesRead ws p₁ n i) (t : Reached) (et : told t ps ≡ read_places ws (variables_to ws p₁ n) n i p₁ 0) where
      small : length (variables_to ws p₁ n) ≤ Max.max_variables
      small = rw (variables_length ws p₁ n) read.few

      pub words_tables : (k x : ℕ) → t ≡ Refused k x → read_words ws ≡ refuse k (x ∷ [])
      unfolding read_words parsed
      words_tables k x e =
          rw (
            fit,
            read.variables_read,
            variables_length ws p₁ n,
            tables_stopped ws (variables_to ws p₁ n) small p₁ read.long read.no_tables n i k x ps (rw e at et),
          )

      -- the places of the variables' words are as they were
      module _ (a : ℕ) (ea : t ≡ Next a) (s : Reached) (kept : variables_to ws ps n ≡ variables_to ws p₁ n)
          (es : s ≡ reach (read_assertions ws (variables_to ws ps n) Max.max_assertions a)) where
        stopped : (ts : List Table) (k x : ℕ) → read_tables ws (variables_to ws p₁ n) n i [] 0 ≡ fine (ts, a)
            → read_assertions ws (variables_to ws ps n) Max.max_assertions a ≡ stop k x → read_words ws ≡ refuse k (x ∷ [])
        unfolding read_words parsed
        stopped ts k x e f = rw (fit, read.variables_read, variables_length ws p₁ n, e, ← kept, f)

        whole : (ts : List Table) (cs : List Condition) (j : ℕ) → read_tables ws (variables_to ws p₁ n) n i [] 0 ≡ fine (ts, a)
            → read_assertions ws (variables_to ws ps n) Max.max_assertions a ≡ fine (cs, j)
            → read_words ws ≡ ok (record { variables = variables_to ws ps n; tables = ts; assertions = cs })
        unfolding read_words parsed
        whole ts cs j e f = rw (fit, read.variables_read, variables_length ws p₁ n, e, ← kept, f)

        pub words_assertions : (k x : ℕ) → s ≡ Refused k x → read_words ws ≡ refuse k (x ∷ [])
        words_assertions k x f =
            let r = tables_read ws (variables_to ws p₁ n) small p₁ read.long read.no_tables n i a ps (rw ea at et) in
            stopped r.0 k x r.1 (reach_stop (read_assertions ws (variables_to ws ps n) Max.max_assertions a) k x (sym es ∙ f))

        pub words_all : (j : ℕ) → s ≡ Next j → (z : TableSet) × Indexed ws z n a ps
        words_all j f =
            let r = tables_read ws (variables_to ws p₁ n) small p₁ read.long read.no_tables n i a ps (rw ea at et) in
            let c = reach_fine (read_assertions ws (variables_to ws ps n) Max.max_assertions a) j (sym es ∙ f) in (
              record { variables = variables_to ws ps n; tables = r.0; assertions = c.0 },
              record {
                words_read = whole r.0 c.0 j r.1 c.1;
                few = read.few;
                variables_are = refl;
                tables_are = rw kept r.2;
                last = j;
                assertions_are = c.1;
              },
            )

    -- ---- the same of the answers of the code
    module _ (v : Result Found Fault) (hv : VariablesAs ws v) where
      pub words_variables : (q : Fault) → v ≡ Err q → ReadAs ws (Err q)
      unfolding ReadAs read_words parsed VariablesAs
      words_variables q e = rw (fit, rw e at hv)

      -- p are the variables as they were found, f is what has been found behind the tables
      module _ (p f : Found) (ep : v ≡ Ok p) (t : Result ℕ Fault)
          (et : told (reached t) f.places ≡ read_places ws (variables_to ws p.places p.count) p.count p.count p.places 0) where
        read : VariablesRead ws p.places p.count p.count
        unfolding VariablesAs
        read = rw ep at hv

        pub tables_wrong : (q : Fault) → t ≡ Err q → ReadAs ws (Err q)
        unfolding ReadAs reached
        tables_wrong q e = words_tables p.places f.places p.count p.count read (reached t) et (refusal q) (carried q) (ap reached e)

        module _ (a : ℕ) (ea : t ≡ Ok a) (s : Result ℕ Fault) (en : f.count ≡ p.count)
            (kept : variables_to ws f.places p.count ≡ variables_to ws p.places p.count)
            (es : reached s ≡ reach (read_assertions ws (variables_to ws f.places f.count) Max.max_assertions a)) where
          pub assertions_wrong : (q : Fault) → s ≡ Err q → ReadAs ws (Err q)
          unfolding ReadAs reached
          assertions_wrong q g =
              words_assertions p.places f.places p.count p.count read (reached t) et a (ap reached ea) (reached s) kept (rw en at es) (refusal q) (carried q) (ap reached g)

          pub all_read : (j : ℕ) → s ≡ Ok j → ReadAs ws (Ok (record { found = f; assertions = a }))
          unfolding ReadAs reached
          all_read j g =
              let r = words_all p.places f.places p.count p.count read (reached t) et a (ap reached ea) (reached s) kept (rw en at es) j (ap reached g) in
              (r.0, subst (λ (n : ℕ). Indexed ws r.0 n a f.places) (sym en) r.1)

pub ruleset words_laws = (words_none, words_over, words_variables, tables_wrong, assertions_wrong, all_read)
