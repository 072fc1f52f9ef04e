use Rattle.std.proofs.lemmas.Result.{err_from_is_err_and}
use Rattle.set.proofs.Laws.{set_cycle, set_all}
use Rattle.set.proofs.read_set.Goals as goal

pub returns-in_err-order_tables : goal.returns-in_err-order_tables
returns-in_err-order_tables c =
    let p = err_from_is_err_and c.from_residual-in_err-order_tables.result c.from_residual-in_err-order_tables.ensures.1 in
    let v = c.variables-set.ensures in
    let said = rw (v.same_words, v.same_places, v.same_count) at c.order_tables.ensures.result_value in
    rw (p.1, p.2) (search (set_cycle, c.in_ok-typed.was, c.in_err-order_tables.was, said))

pub returns : goal.returns
returns c =
    let v = c.variables-set.ensures in
    let said = rw (v.same_words, v.same_places, v.same_count) at c.order_tables.ensures.result_value in
    let taken = rw (v.same_words, v.same_places, v.same_count) at c.order_tables.ensures.order_after in
    search (set_all, c.in_ok-typed.was, c.in_ok-order_tables.was, said, taken)
