use Rattle.scr.proofs.Demanded.{rows_demand}
use Rattle.part.proofs.Laws.{end_after, end_within}
use Rattle.scr.proofs.Entering.{rows_unread, rows_none, rows_part}
use Rattle.scr.proofs.rows.Goals as goal

pub returns-then-is_err : goal.returns-then-is_err
returns-then-is_err c = record { result_value = search rows_unread; rows_answers = rows_demand _ _ _ (search rows_unread) }

pub returns-then-words-a : goal.returns-then-words-a
returns-then-words-a c = record { result_value = search rows_none; rows_answers = rows_demand _ _ _ (search rows_none) }

pub slice_bounds-result-count-2 : goal.slice_bounds-result-count-2
slice_bounds-result-count-2 c = search end_after

pub returns : goal.returns
returns c = record { result_value = search rows_part; rows_answers = rows_demand _ _ _ (search rows_part) }

pub slice_bounds-result-start-2 : goal.slice_bounds-result-start-2
slice_bounds-result-start-2 c = search end_after

pub slice_bounds-result-end-2 : goal.slice_bounds-result-end-2
slice_bounds-result-end-2 c = search end_within
