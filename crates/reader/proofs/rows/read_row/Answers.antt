use Rattle.std.specs.Prelude.{[], ◌∷◌}
use Rattle.std.proofs.Common.{refl, rules}
use Rattle.std.proofs.lemmas.Result.{err_from_is_err_and}
use Rattle.meaning.specs.Searches.{mem}
use Rattle.reader.proofs.RowLaws.{row_laws, row_stops}
use Rattle.reader.proofs.rows.read_row.Goals as goal

pub returns-in_err-w : goal.returns-in_err-w
returns-in_err-w c =
    let begins = c.first_word.ensures.value (3 ∷ []) (unfold mem in refl) (λ x b q. search rules) in
    let p = err_from_is_err_and c.from_residual.result c.from_residual.ensures.1 in
    rw (p.1, p.2) (row_stops _ _ _ _ _ _ _ _ begins _ c.in_err-w.was)

pub returns-then-not-row_ok : goal.returns-then-not-row_ok
returns-then-not-row_ok c = let begins = c.first_word.ensures.value (3 ∷ []) (unfold mem in refl) (λ x b q. search rules) in search (row_laws, c.in_ok-w.was)

pub returns : goal.returns
returns c = let begins = c.first_word.ensures.value (3 ∷ []) (unfold mem in refl) (λ x b q. search rules) in search (row_laws, c.in_ok-w.was)
