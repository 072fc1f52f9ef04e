use Rattle.std.proofs.Common.{rules, arith}
use Rattle.report.proofs.Words.{fed_none, fed_left, fed_few, fed_word, fed_all}
use Rattle.report.proofs.input.words_of.Goals as goal

pub loop-four-init : goal.loop-four-init
loop-four-init c = (search rules, tt, search rules, search rules, fed_none _ _ c.new-words.ensures, search rules, search rules)

pub loop-four-preserved : goal.loop-four-preserved
loop-four-preserved c =
    let i = c.loop-four.invariant in
    let s = c.in-Some.ensures.steps.0 in (
      search rules,
      tt,
      search rules,
      fed_left _ _ _ i.3 i.4 _ _ _ _ i.2 s.1.0 s.1.1 s.1.2 c.push.ensures.len,
      fed_word _ _ _ i.3 i.4 _ _ _ _ i.2 s.1.0 s.1.1 s.1.2 c.push.ensures.len _ c.word_of.ensures c.push.ensures.items,
      search rules,
      fed_few _ _ _ i.3 i.4 _ _ _ _ i.2 s.1.0 s.1.1 s.1.2 c.push.ensures.len,
    )

pub returns : goal.returns
returns c =
    let i = c.loop-four.invariant in
    fed_all _ _ _ i.3 i.4 (omega arith) (λ h. (c.in-None.ensures.steps (omega arith)).1.0) i.6
