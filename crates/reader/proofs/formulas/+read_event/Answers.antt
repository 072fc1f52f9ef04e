use Rattle.std.proofs.Common.{refl, rules}
use Rattle.std.proofs.lemmas.Result.{err_from_is_err_and}
use Rattle.meaning.specs.Searches.{mem}
use Rattle.meaning.specs.Reading.{event_kinds}
use Rattle.reader.proofs.FormulaLaws.{event_first, event_fault, event_both, event_unnamed, event_named, event_never, event_true}
use Rattle.reader.proofs.formulas.+read_event.Goals as goal

pub returns-in_err-w : goal.returns-in_err-w
returns-in_err-w t c =
    let begins = c.first_word.ensures.value event_kinds (unfold mem in refl) (λ x b q. search rules) in
    let p = err_from_is_err_and c.from_residual.result c.from_residual.ensures.1 in
    rw (p.1, p.2) (event_first _ _ _ _ _ begins _ c.in_err-w.was)

pub returns-in_err-second-in-2 : goal.returns-in_err-second-in-2
returns-in_err-second-in-2 t c =
    let begins = c.first_word.ensures.value event_kinds (unfold mem in refl) (λ x b q. search rules) in
    let p = err_from_is_err_and c.from_residual-in_err-second-in-2.result c.from_residual-in_err-second-in-2.ensures.1 in
    rw (p.1, p.2) (search (event_fault, c.in_ok-w.was, c.in_err-second-in-2.ensures))

pub returns-then-kind : goal.returns-then-kind
returns-then-kind t c =
    let begins = c.first_word.ensures.value event_kinds (unfold mem in refl) (λ x b q. search rules) in
    search (event_both, c.in_ok-w.was, c.in_ok-second-in-2.ensures, c.in_ok-end-in-2.ensures)

pub returns-in_err-end-in-2 : goal.returns-in_err-end-in-2
returns-in_err-end-in-2 t c =
    let begins = c.first_word.ensures.value event_kinds (unfold mem in refl) (λ x b q. search rules) in
    let p = err_from_is_err_and c.from_residual-in_err-end-in-2.result c.from_residual-in_err-end-in-2.ensures.1 in
    rw (p.1, p.2) (search (event_both, c.in_ok-w.was, c.in_ok-second-in-2.ensures, c.in_err-end-in-2.ensures))

pub returns-in_err-end-in-2-2 : goal.returns-in_err-end-in-2-2
returns-in_err-end-in-2-2 t c =
    let begins = c.first_word.ensures.value event_kinds (unfold mem in refl) (λ x b q. search rules) in
    let p = err_from_is_err_and c.from_residual-in_err-end-in-2-2.result c.from_residual-in_err-end-in-2-2.ensures.1 in
    rw (p.1, p.2) (search (event_named, c.in_ok-w.was, c.in_err-end-in-2-2.ensures))

pub returns-in-2 : goal.returns-in-2
returns-in-2 t c =
    let begins = c.first_word.ensures.value event_kinds (unfold mem in refl) (λ x b q. search rules) in
    search (event_unnamed, c.in_ok-w.was)

pub returns-then-is_ok : goal.returns-then-is_ok
returns-then-is_ok t c =
    let begins = c.first_word.ensures.value event_kinds (unfold mem in refl) (λ x b q. search rules) in
    search (event_named, c.in_ok-w.was, c.in_ok-end-in-2-2.ensures)

pub returns-then-truth-eq0 : goal.returns-then-truth-eq0
returns-then-truth-eq0 t c =
    let begins = c.first_word.ensures.value event_kinds (unfold mem in refl) (λ x b q. search rules) in
    search (event_never, c.in_ok-w.was)

pub returns-in_default : goal.returns-in_default
returns-in_default t c =
    let begins = c.first_word.ensures.value event_kinds (unfold mem in refl) (λ x b q. search rules) in
    search (event_true, c.in_ok-w.was)
