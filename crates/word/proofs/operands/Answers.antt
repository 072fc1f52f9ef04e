use Rattle.word.proofs.Mask.{kind_below, entry_of, entry_few}
use Rattle.word.proofs.operands.Goals as goal

pub bounds-kind : goal.bounds-kind
bounds-kind c = search kind_below

pub returns : goal.returns
returns c = record { value = search entry_of; upper_bound = entry_few _ }
