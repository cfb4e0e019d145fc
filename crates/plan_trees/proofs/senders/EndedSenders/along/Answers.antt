use Rattle.std.proofs.Common.{◌≡◌, ◌∷◌, [], List, Bool, true, get_or, length, not, subst, sym, ap, ◌∙◌, arith, length-append}
use Rattle.plan_trees.specs.Sending.{has_out}
use Rattle.plan_trees.proofs.FlagsOfSenders.{flags_more}
use Rattle.plan_trees.proofs.senders.EndedSenders.along.Goals as goal

pub loop-from-preserved : goal.loop-from-preserved
loop-from-preserved c =
    let old = c.loop-from.flags.items in
    let flag = not c.has_out.result in
    let is = c.push_reserved.ensures.items in (
      ap length is ∙ length-append old (flag ∷ []) ∙ omega (arith, c.loop-from.invariant.0),
      omega (arith, c.push_reserved.ensures.len, c.loop-from.invariant.1),
      omega (arith, c.push_reserved.ensures.capacity, c.loop-from.invariant.2),
      λ from less. subst (λ (l : List Bool). get_or l from true ≡ not (has_out c.args.edge from c.args.to)) (sym is)
          (flags_more (λ k. not (has_out c.args.edge k c.args.to)) old flag c.loop-from.from from c.loop-from.invariant.0 less (ap not c.has_out.ensures) c.loop-from.invariant.3),
    )
