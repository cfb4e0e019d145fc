use Rattle.swap_certificate.proofs.RisingSets.{all-read, ended-is_set, field-read, nothing-read}
use Rattle.swap_certificate.proofs.reading.rising_set.Goals as goal

pub loop-item-init : goal.loop-item-init
loop-item-init c = nothing-read c.args.limit c.args.items.now c.empty-set.result c.empty-set.ensures

pub loop-item-preserved : goal.loop-item-preserved
loop-item-preserved c =
    field-read c.args.limit c.args.items.now c.loop-item.item-index c.loop-item.set c.loop-item.least c.item-item.result c.in_ok-field.field c.with-set.result
    c.loop-item.invariant c.loop-item-test.true c.item-item.is c.if-field-least.false c.requires.limit.0 c.in_ok-field.ensures.some.0 c.in_ok-field.ensures.some.1 c.with-set.ensures

pub returns-clause-set : goal.returns-clause-set
returns-clause-set c = ended-is_set c.args.limit c.loop-item.set c.loop-item.least c.loop-item.invariant.within c.loop-item.invariant.ends

pub returns-clause-some : goal.returns-clause-some
returns-clause-some c = all-read c.args.limit c.args.items.now c.loop-item.item-index c.loop-item.set c.loop-item.least c.requires.limit.1 c.loop-item-test.false c.loop-item.invariant
