use Rattle.std.proofs.Common.{rules, arith}
use Rattle.reader.proofs.FirstLaws.{first_past, first_unfit, first_over, first_is}
use Rattle.reader.proofs.first.first_word.Goals as goal

pub returns-then-words-at : goal.returns-then-words-at
returns-then-words-at g c = record { room = search rules; value = λ kinds none computes. search first_past }

pub returns-then-not-fits : goal.returns-then-not-fits
returns-then-not-fits g c = record { room = search rules; value = λ kinds none computes. let f = computes _ _ c.fits.ensures in search first_unfit }

pub returns-then-left-eq0 : goal.returns-then-left-eq0
returns-then-left-eq0 g c = record { room = search rules; value = λ kinds none computes. let f = computes _ _ c.fits.ensures in search first_over }

pub returns : goal.returns
returns g c = record { room = (omega arith, omega arith); value = λ kinds none computes. let f = computes _ _ c.fits.ensures in search first_is }
