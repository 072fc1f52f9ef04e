use Rattle.std.proofs.Common.{rules}
use Rattle.meaning.specs.Calls.{ends_table}
use Rattle.index.proofs.Searching.{find_from_gives}
use Rattle.part.proofs.Laws.{end_is, ends_is}
use Rattle.part.proofs.part_end.Goals as goal

pub returns : goal.returns
returns c =
    end_is _ _ _ _ c.requires
    (find_from_gives (ends_table c.args.words.now) _ _ _ _ c.find.ensures.ran (λ x b q k. search (rules, ends_is)))
    c.unwrap_or.ensures
