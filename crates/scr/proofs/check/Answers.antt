use Rattle.std.proofs.Common.{◌≡◌}
use Rattle.std.proofs.lemmas.Result.{err_from_is_err_and}
use Rattle.meaning.specs.Check.{check_of}
use Rattle.scr.specs.Answers.{verdict_says}
use Rattle.scr.proofs.Entering.{opens, check_refused}
use Rattle.scr.proofs.Demanded.{check_demand, demand_2}
use Rattle.scr.proofs.check.Goals as goal

pub new-requires : goal.new-requires
new-requires c = opens _ _ c.read_set.ensures _ c.in_ok-opened.was

pub returns-in_err-opened : goal.returns-in_err-opened
returns-in_err-opened c =
    let p = err_from_is_err_and c.from_residual.result c.from_residual.ensures.1 in
    let v : verdict_says c.from_residual.result ≡ check_of c.args.words.now = rw p.1 (check_refused _ _ c.read_set.ensures _ c.in_err-opened.was _ p.2) in
    record { result_value = v; answers_or_refuses = check_demand _ _ v; demand2 = demand_2 _ _ v }

pub returns : goal.returns
returns c =
    let v = rw c.new.ensures at c.verdict.ensures in
    record { result_value = v; answers_or_refuses = check_demand _ _ v; demand2 = demand_2 _ _ v }
