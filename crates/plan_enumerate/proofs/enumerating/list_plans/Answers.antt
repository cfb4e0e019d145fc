use Rattle.std.proofs.Common.{◌≡◌, [], ◌∷◌, List, ap, sym, subst, ◌∙◌}
use Rattle.plan_trees.specs.Plans.{PlanTree}
use Rattle.plan_enumerate.specs.declared.entries.Entry.{Entry}
use Rattle.plan_enumerate.specs.Listing.{first_entry}
use Rattle.plan_enumerate.specs.Walks.{IsWalked}
use Rattle.plan_enumerate.proofs.PastExchanges.{walk_begins}
use Rattle.plan_enumerate.proofs.ReachedPlans.{GoesTo-Grows, GoesTo-IsListing, grown-AreEntries}
use Rattle.plan_enumerate.proofs.enumerating.list_plans.Goals as goal

pub walk-requires-clause-begun : goal.walk-requires-clause-begun
walk-requires-clause-begun c =
    let p = c.args.program.now in
    let e : c.in_ok-entries.entries ≡ first_entry p.plan ∷ [] = c.in_ok-entries.ensures ∙ ap (λ (t : PlanTree). first_entry t ∷ []) c.plan.ensures.plan in
    subst (λ (es : List Entry). IsWalked p c.args.limit es 0 0 0) (sym e) (walk_begins p c.args.limit)

pub of-requires-2 : goal.of-requires-2
of-requires-2 c =
    let p = c.args.program.now in
    let es = c.walk.new.entries in
    grown-AreEntries p c.args.limit es c.requires.some c.requires.few (GoesTo-Grows p c.args.limit es c.in_ok-complete.complete c.in_ok-complete.ensures.walked)

pub returns-clause-listing : goal.returns-clause-listing
returns-clause-listing c = GoesTo-IsListing c.args.program.now c.args.limit c.of-2.result c.walk.new.entries c.in_ok-complete.complete c.of-2.ensures c.in_ok-complete.ensures.walked
