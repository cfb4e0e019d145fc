use Rattle.std.proofs.Common.{◌≡◌, ◌++◌, [], ◌∷◌, List, slice_get, Some, sym, ap, subst, ◌∙◌, arith}
use Rattle.reorder_pair.specs.declared.legality.Condition.{Condition}
use Rattle.plan_enumerate.specs.declared.entries.Entry.{Entry}
use Rattle.plan_enumerate.specs.Steps.{AreStepsTo}
use Rattle.plan_enumerate.proofs.LeadingSteps.{LeadsOn, all_back, led-earlier, one_back, read_again, steps-Lead}
use Rattle.plan_enumerate.proofs.steps.steps_of.Goals as goal

pub loop-at-smaller : goal.loop-at-smaller
loop-at-smaller c =
    let keeps = c.entries-entries.ensures.keeps in
    let there = read_again c.args.listed.now.entries _ c.loop-at.at c.at.result c.at-at.result c.in-Some.by c.entries-entries.ensures.entries c.at.ensures c.at-at.ensures c.in-Some.is in
    led-earlier c.args.listed.now.entries c.loop-at.at c.at-at.result c.in-Some.by keeps there.0 there.1

pub loop-at-preserved : goal.loop-at-preserved
loop-at-preserved c =
    let es = c.args.listed.now.entries in
    let there = read_again es _ c.loop-at.at c.at.result c.at-at.result c.in-Some.by c.entries-entries.ensures.entries c.at.ensures c.at-at.ensures c.in-Some.is in
    let less = led-earlier es c.loop-at.at c.at-at.result c.in-Some.by c.entries-entries.ensures.keeps there.0 there.1 in
    let within = c.loop-at.invariant.0 in
    let pushed = c.in_ok-push.ensures.items ∙ ap (λ (b : Condition). c.loop-at.conditions.items ++ b ∷ []) c.in-Some.by-is in (
      omega (arith, less, within),
      subst (LeadsOn es c.at-at.result.from c.args.entry) (sym pushed) (one_back es c.loop-at.at c.args.entry c.at-at.result c.in-Some.by c.loop-at.conditions.items there.0 there.1 c.loop-at.invariant.1),
    )

pub returns-clause-steps : goal.returns-clause-steps
returns-clause-steps c =
    let es = c.args.listed.now.entries in
    let there = subst (λ (xs : List Entry). slice_get xs c.loop-at.at ≡ Some c.at.result) c.entries-entries.ensures.entries c.at.ensures in
    subst (AreStepsTo es c.args.entry) (sym (c.of.ensures ∙ c.reverse.ensures.items))
    (all_back es c.loop-at.at c.args.entry c.at.result c.loop-at.conditions.items c.entries-entries.ensures.keeps there c.in_default.is c.loop-at.invariant.1)

pub returns-clause-lead : goal.returns-clause-lead
returns-clause-lead c p limit listing t at = steps-Lead p limit c.args.listed.now.entries listing.grows c.args.entry c.of.result (returns-clause-steps c) t at
