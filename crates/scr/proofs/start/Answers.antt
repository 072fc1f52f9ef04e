use Rattle.std.proofs.Common.{◌≡◌, rules}
use Rattle.std.proofs.lemmas.Result.{err_from_is_err_and}
use Rattle.meaning.specs.Calls.{start_of}
use Rattle.scr.specs.Answers.{answer_says}
use Rattle.scr.proofs.Calling.{start_state}
use Rattle.scr.proofs.Entering.{opens, start_refused}
use Rattle.scr.proofs.Demanded.{start_demand, starts_exactly}
use Rattle.scr.proofs.start.Goals as goal

pub index-requires : goal.index-requires
index-requires c = opens _ _ c.read_set.ensures _ c.in_ok-opened.was

pub returns-in_err-opened : goal.returns-in_err-opened
returns-in_err-opened c =
    let p = err_from_is_err_and c.from_residual.result c.from_residual.ensures.1 in
    let v : answer_says c.from_residual.result ≡ start_of c.args.words.now = rw p.1 (start_refused _ _ c.read_set.ensures _ c.in_err-opened.was _ p.2) in
    record { result_value = v; answers_or_refuses = start_demand _ _ v; starts_exactly = starts_exactly _ _ v }

pub returns : goal.returns
returns c =
    let v = rw c.index.ensures.words_value at (start_state _ _ c.index.ensures.index_of c.initial_state.result (search rules)) in
    record { result_value = v; answers_or_refuses = start_demand _ _ v; starts_exactly = starts_exactly _ _ v }
