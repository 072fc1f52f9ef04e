use Rattle.std.proofs.Common.{rules, subst}
use Rattle.std.specs.Io.KnownBytes.{Appends}
use Rattle.std.proofs.lemmas.Result.{err_from_is_err_and}
use Rattle.word.proofs.Handed.{handed_err, handed_ok}
use Rattle.scrcheck.specs.declared.judging.Fault.TheVariants.{Input, Output}
use Rattle.scrcheck.proofs.Printing.{shown, judged}
use Rattle.scrcheck.proofs.judging.judge.Goals as goal

pub returns-in_err-n : goal.returns-in_err-n
returns-in_err-n g c =
    let p = err_from_is_err_and c.from_residual.result c.from_residual.ensures.1 in
    let q = handed_err c.read_to_end.result c.map_err.result _ c.map_err.ensures.cases (λ e. Input e) (λ e d h. search rules) _ c.in_err-n.was in
    rw (p.1, p.2, q.2) (search rules)

pub returns-in_err-map_err : goal.returns-in_err-map_err
returns-in_err-map_err g c =
    let p = err_from_is_err_and c.from_residual-in_err-map_err.result c.from_residual-in_err-map_err.ensures.1 in
    let q = handed_err c.write_all.result c.map_err-2.result _ c.map_err-2.ensures.cases (λ e. Output e) (λ e d h. search rules) _ c.in_err-map_err.was in
    rw (p.1, p.2, q.2) tt

pub returns : goal.returns
returns g c =
    let read = rw (handed_ok c.read_to_end.result c.map_err.result _ c.map_err.ensures.cases _ c.in_ok-n.was) at c.read_to_end.ensures in
    let wrote = rw (handed_ok c.write_all.result c.map_err-2.result _ c.map_err-2.ensures.cases _ c.in_ok-map_err.was) at c.write_all.ensures in
    let made = c.report-end.ensures in
    let written = subst (Appends _ _) (shown _ _ _ _ made.out_after made.value made.upper_bound.0) wrote.bytes in
    judged c.read_to_end.new.bytes c.in_ok-n.n (search rules) read.within _ _ _ _ read.taken read.ended written
