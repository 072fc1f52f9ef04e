use Rattle.std.specs.Prelude.{[], ◌∷◌}
use Rattle.std.proofs.Common.{refl, rules}
use Rattle.std.proofs.lemmas.Result.{err_from_is_err_and}
use Rattle.meaning.specs.Searches.{mem}
use Rattle.reader.proofs.TableLaws.{table_stops, table_range, table_laws}
use Rattle.reader.proofs.tables.read_table.Goals as goal

pub returns-in_err-first_word : goal.returns-in_err-first_word
returns-in_err-first_word c =
    let begins = c.first_word.ensures.value (2 ∷ []) (unfold mem in refl) (λ x b q. search rules) in
    let p = err_from_is_err_and c.from_residual.result c.from_residual.ensures.1 in
    rw (p.1, p.2) (table_stops _ _ _ _ _ _ begins _ c.in_err-first_word.was)

pub returns-in_err-heading : goal.returns-in_err-heading
returns-in_err-heading c =
    let begins = c.first_word.ensures.value (2 ∷ []) (unfold mem in refl) (λ x b q. search rules) in
    let p = err_from_is_err_and c.from_residual-in_err-heading.result c.from_residual-in_err-heading.ensures.1 in
    rw (p.1, p.2) (search (table_range, c.in_ok-first_word.was, c.in_err-heading.ensures))

pub returns-then-not-heading_fits-free : goal.returns-then-not-heading_fits-free
returns-then-not-heading_fits-free c =
    let begins = c.first_word.ensures.value (2 ∷ []) (unfold mem in refl) (λ x b q. search rules) in
    search (table_laws, c.in_ok-first_word.was, c.in_ok-heading.ensures)

pub returns-then-heading-before : goal.returns-then-heading-before
returns-then-heading-before c =
    let begins = c.first_word.ensures.value (2 ∷ []) (unfold mem in refl) (λ x b q. search rules) in
    search (table_laws, c.in_ok-first_word.was, c.in_ok-heading.ensures)

pub returns : goal.returns
returns c =
    let begins = c.first_word.ensures.value (2 ∷ []) (unfold mem in refl) (λ x b q. search rules) in
    search (table_laws, c.in_ok-first_word.was, c.in_ok-heading.ensures)
