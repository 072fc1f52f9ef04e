-- A set that reads, section by section: what the reader of each gave, and where it ended.
use Rattle.std.specs.Prelude.{ℕ, ◌≡◌, true, List, [], ◌∷◌, length}
use Rattle.std.proofs.Common.{sym, subst}
use Rattle.word.specs.Limits as Max
use Rattle.meaning.specs.Answers.{ok, demand, Parse, fine, stop, parsed}
use Rattle.meaning.specs.Searches.{within}
use Rattle.meaning.specs.Syntax.{TableSet}
use Rattle.meaning.specs.Lookup.{count}
use Rattle.meaning.specs.Reading.{read_variables, read_tables, read_assertions, read_words}
use Rattle.theory.specs.Found.{ok_same, ok_not_refuse, bind_ok, demand_ok}

pub record Sections (ws : List ℕ) (z : TableSet) : Type 0 where
  pub words : within 1 Max.max_words (length ws) ≡ true
  pub first : ℕ
  pub variables : read_variables ws Max.max_variables 0 [] ≡ fine (z.variables, first)
  pub last : ℕ
  pub tables : read_tables ws z.variables (count z) first [] 0 ≡ fine (z.tables, last)
  pub end : ℕ
  pub assertions : read_assertions ws z.variables Max.max_assertions last ≡ fine (z.assertions, end)

pub parsed_fine : {A : Type 0} (m : Parse A) (a : A) → parsed m ≡ ok a → m ≡ fine a
unfolding parsed
parsed_fine (fine b) a e = rw (ok_same e)
parsed_fine (stop n i) a e = absurd (ok_not_refuse (sym e))

pub sections : (ws : List ℕ) (z : TableSet) → read_words ws ≡ ok z → Sections ws z
unfolding read_words
sections ws z e =
    let a = bind_ok (demand (within 1 Max.max_words (length ws)) 1 (length ws ∷ [])) _ z e in
    let b = bind_ok (parsed (read_variables ws Max.max_variables 0 [])) _ z a.2 in
    let vs = b.0.0 in
    let c = bind_ok (parsed (read_tables ws vs (length vs) b.0.1 [] 0)) _ z b.2 in
    let d = bind_ok (parsed (read_assertions ws vs Max.max_assertions c.0.1)) _ z c.2 in
    subst (Sections ws) (ok_same d.2) (record {
      words = demand_ok (within 1 Max.max_words (length ws)) 1 (length ws ∷ []) a.1;
      first = b.0.1;
      variables = parsed_fine _ b.0 b.1;
      last = c.0.1;
      tables = parsed_fine _ c.0 c.1;
      end = d.0.1;
      assertions = parsed_fine _ d.0 d.1;
    })
