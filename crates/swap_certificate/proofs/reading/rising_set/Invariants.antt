use Rattle.swap_certificate.proofs.RisingSets.{HasRead}
use Rattle.swap_certificate.proofs.reading.rising_set.Given as goal

abbrev pub invariant-loop-item : goal.invariant-loop-item
invariant-loop-item l = HasRead l.limit l.items l.item-index l.set l.least
