use Rattle.std.proofs.Common.{◌≡◌, subst, arith}
use Rattle.plan_trees.specs.Plans.{node_limit}
use Rattle.reorder_group.proofs.PlansInReach.{reached-IsPlanOf}
use Rattle.plan_enumerate.specs.Walks.{IsWalked}
use Rattle.plan_enumerate.proofs.LongerLists.{IsAt-within}
use Rattle.plan_enumerate.proofs.PastExchanges.{past_operators, small_operators}
use Rattle.plan_enumerate.proofs.ReachedPlans.{listed-Reach}
use Rattle.plan_enumerate.proofs.enumerating.add_neighbours.Goals as goal

pub add_by_rules-requires : goal.add_by_rules-requires
add_by_rules-requires c =
    let p = c.args.program.now in
    let plan = c.at.result.plan in
    let walked = c.loop-at.invariant.0 in
    let entry = c.loop-at.invariant.1 in
    record {
      some = c.requires.some;
      entry = entry;
      findings = c.loop-at.invariant.2;
      plan = reached-IsPlanOf p c.fields-fields.ensures.keeps plan (listed-Reach p c.args.limit c.loop-at.entries walked.grows plan (c.args.from, entry));
      walked = walked;
    }

pub returns-clause-walked : goal.returns-clause-walked
returns-clause-walked c =
    let p = c.args.program.now in
    let low = c.loop-at-test.false in
    let high = c.loop-at.auto.at-end in
    let last : c.loop-at.at ≡ node_limit = omega (arith, low, high) in
    past_operators p c.args.limit c.loop-at.entries c.args.from node_limit
    (small_operators p c.loop-at.entries c.args.from c.at.result.plan c.loop-at.invariant.1 c.root-root.ensures.plan)
    (subst (λ n. IsWalked p c.args.limit c.loop-at.entries c.args.from n 0) last c.loop-at.invariant.0)

pub returns-clause-within : goal.returns-clause-within
returns-clause-within c = IsAt-within c.loop-at.entries c.args.from c.at.result.plan c.loop-at.invariant.1
