use Rattle.std.specs.Prelude.{[], ◌∷◌}
use Rattle.std.proofs.Common.{refl, rules}
use Rattle.std.proofs.lemmas.Result.{err_from_is_err_and}
use Rattle.meaning.specs.Searches.{mem}
use Rattle.word.proofs.Handed.{handed_err, handed_ok}
use Rattle.reader.specs.declared.faults.Fault.TheVariants.{Range}
use Rattle.reader.proofs.AssertionLaws.{assertion_laws, assertion_stops}
use Rattle.reader.proofs.assertions.read_assertion.Goals as goal

pub returns-in_err-w : goal.returns-in_err-w
returns-in_err-w c =
    let begins = c.first_word.ensures.value (10 ∷ []) (unfold mem in refl) (λ x b q. search rules) in
    let p = err_from_is_err_and c.from_residual.result c.from_residual.ensures.1 in
    rw (p.1, p.2) (assertion_stops _ _ _ _ _ begins _ c.in_err-w.was)

pub returns-in_err-map_err : goal.returns-in_err-map_err
returns-in_err-map_err c =
    let begins = c.first_word.ensures.value (10 ∷ []) (unfold mem in refl) (λ x b q. search rules) in
    let p = err_from_is_err_and c.from_residual-in_err-map_err.result c.from_residual-in_err-map_err.ensures.1 in
    let q = handed_err c.try_from.result c.map_err.result _ c.map_err.ensures.cases (λ e. Range c.args.at) (λ e d h. search rules) _ c.in_err-map_err.was in
    rw (p.1, p.2, q.2) (search (assertion_laws, c.in_ok-w.was, q.1))

pub returns : goal.returns
returns c =
    let begins = c.first_word.ensures.value (10 ∷ []) (unfold mem in refl) (λ x b q. search rules) in
    let named = handed_ok c.try_from.result c.map_err.result _ c.map_err.ensures.cases _ c.in_ok-map_err.was in
    search (assertion_laws, c.in_ok-w.was, named)
