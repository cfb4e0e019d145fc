use Rattle.std.proofs.Common.{List, subst}
use Rattle.ship_strategy.specs.Layouts.{layout_count}
use Rattle.plan_enumerate.specs.Choices.{pair_cost}
use Rattle.plan_enumerate.specs.Leasts.{IsLeastBelow}
use Rattle.plan_enumerate.specs.Listing.{IsListed, plans_of}
use Rattle.plan_enumerate.specs.declared.entries.Entry.{Entry}
use Rattle.plan_enumerate.proofs.choosing.choose_known.Goals as goal

pub cheapest_known-first-requires-clause-of : goal.cheapest_known-first-requires-clause-of
cheapest_known-first-requires-clause-of c = λ t listed. c.requires.of t (subst (λ (es : List Entry). IsListed t es) c.entries-entries.ensures.entries listed)

pub cheapest_known-least-requires-clause-of : goal.cheapest_known-least-requires-clause-of
cheapest_known-least-requires-clause-of c = λ t listed. c.requires.of t (subst (λ (es : List Entry). IsListed t es) c.entries-entries.ensures.entries listed)

pub loop-entry-preserved : goal.loop-entry-preserved
loop-entry-preserved c =
    let p = c.args.program.now in
    let cost = λ (es : List Entry). pair_cost p (plans_of es) c.args.counts.now c.args.workers in
    let least = c.cheapest_known-least.result in
    c.cheaper-chosen.ensures (cost c.args.listed.now.entries) (layout_count p.ops) c.loop-entry.invariant
    (subst (λ (es : List Entry). IsLeastBelow (cost es c.loop-entry.entry) (layout_count p.ops) least.layout least.cost) c.entries-entries.ensures.entries c.cheapest_known-least.ensures)
