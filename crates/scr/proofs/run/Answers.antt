use Rattle.std.proofs.Common.{◌≡◌}
use Rattle.std.proofs.lemmas.Result.{err_from_is_err_and}
use Rattle.meaning.specs.Run.{run_of}
use Rattle.scr.specs.Answers.{answer_says}
use Rattle.scr.proofs.Entering.{opens, run_refused, run_kept}
use Rattle.scr.proofs.Demanded.{run_demand, demand_3}
use Rattle.scr.proofs.run.Goals as goal

pub new-requires : goal.new-requires
new-requires c = opens _ _ c.read_set.ensures _ c.in_ok-opened.was

pub returns-in_err-opened : goal.returns-in_err-opened
returns-in_err-opened c =
    let p = err_from_is_err_and c.from_residual.result c.from_residual.ensures.1 in
    let v : answer_says c.from_residual.result ≡ (run_of c.args.words.now c.args.state c.args.events.now c.args.trace.now c.args.place).answer = rw p.1 (run_refused _ _ c.read_set.ensures _ c.in_err-opened.was _ p.2 _ _ _ _) in
    let k = run_kept _ _ c.read_set.ensures _ c.in_err-opened.was _ p.2 c.args.state c.args.events.now c.args.trace.now c.args.place in
    record { result_value = v; trace_after = k; run_answers = run_demand _ _ _ _ _ _ _ v k; demand3 = demand_3 _ _ _ _ _ _ _ v k }

pub returns : goal.returns
returns c =
    let v = rw c.new.ensures at c.run.ensures.result_value in
    let k = rw c.new.ensures at c.run.ensures.trace_after in
    record { result_value = v; trace_after = k; run_answers = run_demand _ _ _ _ _ _ _ v k; demand3 = demand_3 _ _ _ _ _ _ _ v k }
