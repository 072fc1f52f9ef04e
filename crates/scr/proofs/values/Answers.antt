use Rattle.std.proofs.Common.{◌≡◌, length}
use Rattle.std.proofs.lemmas.Result.{err_from_is_err_and}
use Rattle.meaning.specs.Calls.{values_of}
use Rattle.scr.specs.Answers.{answer_says, count_of}
use Rattle.scr.proofs.Entering.{opens, values_refused, kept_refused}
use Rattle.scr.proofs.Demanded.{values_demand, values_shown}
use Rattle.scr.proofs.values.Goals as goal

pub new-requires : goal.new-requires
new-requires c = opens _ _ c.read_set.ensures _ c.in_ok-opened.was

pub returns-in_err-opened : goal.returns-in_err-opened
returns-in_err-opened c =
    let p = err_from_is_err_and c.from_residual.result c.from_residual.ensures.1 in
    let v : answer_says c.from_residual.result ≡ count_of (values_of c.args.words.now c.args.state (length c.args.out.now)) = rw p.1 (values_refused _ _ c.read_set.ensures _ c.in_err-opened.was _ p.2 _ _) in
    let k = kept_refused _ _ c.read_set.ensures _ c.in_err-opened.was _ p.2 c.args.state (length c.args.out.now) c.args.out.now in
    record { result_value = v; out_after = k; answers_or_refuses = values_demand _ _ _ _ v; values_exactly = values_shown _ _ _ _ _ v k }

pub returns : goal.returns
returns c =
    let v = rw c.new.ensures at c.values.ensures.result_value in
    let k = rw c.new.ensures at c.values.ensures.out_after in
    record { result_value = v; out_after = k; answers_or_refuses = values_demand _ _ _ _ v; values_exactly = values_shown _ _ _ _ _ v k }
