use Rattle.std.proofs.Common.{ℕ, List, ap, sym, ◌∙◌, subst, arith, [], get_or, slice_get}
use Rattle.std.proofs.lemmas.Option.{get_or_from_slice_get}
use Rattle.pact_operators.specs.Allowed.{Counted, GivesBoth}
use Rattle.plan_trees.specs.Distinct.{IsAbsent}
use Rattle.pact_operators.specs.PlanOps.{kind_at, plan_ops, source_place, sources_of}
use Rattle.plan_trees.specs.Plans.{IsPlan, PlanTree, leaf, over, both, nodes}
use Rattle.pact_operators.specs.Programs.{HasArity}
use Rattle.pact_operators.specs.declared.operators.Op.{Op}
use Rattle.pact_record.specs.declared.values.Value.{Value}
use Rattle.slow_eval.specs.GivenRows.{rows_of}
use Rattle.plan_trees.proofs.RootParts.{is_both, is_leaf, is_over}
use Rattle.slow_eval.proofs.CallsOfOperators.{at_below}
use Rattle.slow_eval.proofs.PlanCounts.{counted-both, counted-leaf, counted-over, others-both, others-leaf, others-over}
use Rattle.pact_operators.proofs.SourceKinds.{is_source}
use Rattle.pact_operators.proofs.SourceRows.{input_widths, place_below}
use Rattle.pact_record.specs.Widths.{AreWide}
use Rattle.pact_record.proofs.Lists.{AllByRecursion-slice_get}
use Rattle.slow_eval.proofs.evaluating.+evaluate_into.Goals as goal

pub at-rows-requires : goal.at-rows-requires
at-rows-requires t c =
    let p = c.args.program.now in
    let n = c.in-Alone.at in
    let takes = subst (HasArity p.ops) (is_leaf c.args.plan.now n c.in-Alone.ensures.parts) c.requires.arity in
    let place = c.source_place-place.ensures ∙ ap (λ (ops : List Op). source_place ops n) c.ops.ensures.ops in
    let below = place_below p.fields p.ops c.args.inputs.now n c.requires.inputs (at_below p n 0 takes) (is_source p.ops n takes) in
    omega (arith, place, below)

pub set-requires : goal.set-requires
set-requires t c =
    let p = c.args.program.now in
    let n = c.in-Alone.at in
    let takes = subst (HasArity p.ops) (is_leaf c.args.plan.now n c.in-Alone.ensures.parts) c.requires.arity in
    omega (arith, at_below p n 0 takes, c.requires.counts)

pub set-requires-in-OverOne : goal.set-requires-in-OverOne
set-requires-in-OverOne t c =
    let p = c.args.program.now in
    let n = c.in-OverOne.at in
    let takes = (subst (HasArity p.ops) (is_over c.args.plan.now c.in-OverOne.input n c.in-OverOne.ensures.parts) c.requires.arity).0 in
    omega (arith, at_below p n 1 takes, c.evaluate_into.ensures.counts)

pub set-requires-in-OverTwo : goal.set-requires-in-OverTwo
set-requires-in-OverTwo t c =
    let p = c.args.program.now in
    let n = c.in-OverTwo.at in
    let takes = (subst (HasArity p.ops) (is_both c.args.plan.now c.in-OverTwo.left c.in-OverTwo.right n c.in-OverTwo.ensures.parts) c.requires.arity).0 in
    omega (arith, at_below p n 2 takes, c.evaluate_into-in-OverTwo-2.ensures.counts)

pub returns-in-Alone-clause-counted : goal.returns-in-Alone-clause-counted
returns-in-Alone-clause-counted t c =
    let p = c.args.program.now in
    let inputs = c.args.inputs.now in
    let o = plan_ops p inputs in
    let n = c.in-Alone.at in
    let plan = is_leaf c.args.plan.now n c.in-Alone.ensures.parts in
    let takes = subst (HasArity p.ops) plan c.requires.arity in
    let place = c.source_place-place.ensures ∙ ap (λ (ops : List Op). source_place ops n) c.ops.ensures.ops in
    let rows = sym (get_or_from_slice_get inputs c.source_place-place.result c.at-rows.result.now [] c.at-rows.ensures) ∙ ap (λ (i : ℕ). get_or inputs i []) place in
    subst (λ (t : PlanTree). Counted o t c.at-rows.result.now c.set.new.self) (sym plan)
    (subst (Counted o (leaf n) c.at-rows.result.now) (sym c.set.ensures)
    (counted-leaf o n c.len.result c.at-rows.result.now c.args.counts.now (is_source p.ops n takes) rows (omega (arith, at_below p n 0 takes, c.requires.counts)) c.len.ensures c.len.type_inv))

pub returns-in-Alone-clause-others : goal.returns-in-Alone-clause-others
returns-in-Alone-clause-others t c m a =
    let n = c.in-Alone.at in
    let plan = is_leaf c.args.plan.now n c.in-Alone.ensures.parts in
    ap (λ (l : List ℕ). slice_get l m) c.set.ensures ∙ others-leaf n m c.len.result c.args.counts.now (subst (λ (t : PlanTree). IsAbsent m (nodes t)) plan a)

pub returns-in-Alone-clause-widths : goal.returns-in-Alone-clause-widths
returns-in-Alone-clause-widths t c =
    let p = c.args.program.now in
    AllByRecursion-slice_get (AreWide p.fields) c.args.inputs.now c.source_place-place.result c.at-rows.result.now (input_widths p.fields (sources_of p.ops) c.args.inputs.now c.requires.inputs) c.at-rows.ensures

pub returns-in_ok-rows-in-OverOne-clause-counted : goal.returns-in_ok-rows-in-OverOne-clause-counted
returns-in_ok-rows-in-OverOne-clause-counted t c =
    let p = c.args.program.now in
    let inputs = c.args.inputs.now in
    let o = plan_ops p inputs in
    let n = c.in-OverOne.at in
    let below = c.in-OverOne.input in
    let plan = is_over c.args.plan.now below n c.in-OverOne.ensures.parts in
    let takes = (subst (HasArity p.ops) plan c.requires.arity).0 in
    let once = subst IsPlan plan c.in-OverOne.ensures.plan in
    let counts = c.evaluate_into.new.counts in
    let rows = c.in_ok-rows-in-OverOne.rows in
    let given = c.in_ok-rows-in-OverOne.ensures.given inputs in
    subst (λ (t : PlanTree). Counted o t rows c.set-in-OverOne.new.self) (sym plan)
    (subst (Counted o (over n below) rows) (sym c.set-in-OverOne.ensures)
    (counted-over o n c.len-in-OverOne.result below (rows_of c.in_ok-below-in-OverOne.below) rows counts c.in_ok-below-in-OverOne.ensures.counted once.different.0
    (omega (arith, at_below p n 1 takes, c.evaluate_into.ensures.counts)) given c.len-in-OverOne.ensures c.len-in-OverOne.type_inv))

pub returns-in_ok-rows-in-OverOne-clause-others : goal.returns-in_ok-rows-in-OverOne-clause-others
returns-in_ok-rows-in-OverOne-clause-others t c m a =
    let n = c.in-OverOne.at in
    let below = c.in-OverOne.input in
    let plan = is_over c.args.plan.now below n c.in-OverOne.ensures.parts in
    ap (λ (l : List ℕ). slice_get l m) c.set-in-OverOne.ensures
    ∙ others-over n m c.len-in-OverOne.result below c.args.counts.now c.evaluate_into.new.counts c.in_ok-below-in-OverOne.ensures.others (subst (λ (t : PlanTree). IsAbsent m (nodes t)) plan a)

pub returns-in_ok-rows-in-OverTwo-clause-counted : goal.returns-in_ok-rows-in-OverTwo-clause-counted
returns-in_ok-rows-in-OverTwo-clause-counted t c =
    let p = c.args.program.now in
    let inputs = c.args.inputs.now in
    let o = plan_ops p inputs in
    let n = c.in-OverTwo.at in
    let left = c.in-OverTwo.left in
    let right = c.in-OverTwo.right in
    let plan = is_both c.args.plan.now left right n c.in-OverTwo.ensures.parts in
    let takes = (subst (HasArity p.ops) plan c.requires.arity).0 in
    let once = subst IsPlan plan c.in-OverTwo.ensures.plan in
    let first = c.evaluate_into-in-OverTwo.new.counts in
    let second = c.evaluate_into-in-OverTwo-2.new.counts in
    let rows = c.in_ok-rows-in-OverTwo.rows in
    let given = subst (λ (ls : List (List Value)). GivesBoth o (kind_at p.ops n) n ls (rows_of c.in_ok-rights-in-OverTwo.rights) rows) c.rows.ensures
    (subst (λ (rs : List (List Value)). GivesBoth o (kind_at p.ops n) n c.rows.result.now rs rows) c.rows-in-OverTwo.ensures (c.in_ok-rows-in-OverTwo.ensures.given inputs)) in
    subst (λ (t : PlanTree). Counted o t rows c.set-in-OverTwo.new.self) (sym plan)
    (subst (Counted o (both n left right) rows) (sym c.set-in-OverTwo.ensures)
    (counted-both o n c.len-in-OverTwo.result left right (rows_of c.in_ok-lefts-in-OverTwo.lefts) (rows_of c.in_ok-rights-in-OverTwo.rights) rows first second c.in_ok-lefts-in-OverTwo.ensures.counted c.in_ok-rights-in-OverTwo.ensures.counted
    once.different c.in_ok-rights-in-OverTwo.ensures.others (omega (arith, at_below p n 2 takes, c.evaluate_into-in-OverTwo-2.ensures.counts)) given
    c.len-in-OverTwo.ensures c.len-in-OverTwo.type_inv))

pub returns-in_ok-rows-in-OverTwo-clause-others : goal.returns-in_ok-rows-in-OverTwo-clause-others
returns-in_ok-rows-in-OverTwo-clause-others t c m a =
    let n = c.in-OverTwo.at in
    let left = c.in-OverTwo.left in
    let right = c.in-OverTwo.right in
    let plan = is_both c.args.plan.now left right n c.in-OverTwo.ensures.parts in
    ap (λ (l : List ℕ). slice_get l m) c.set-in-OverTwo.ensures
    ∙ others-both n m c.len-in-OverTwo.result left right c.args.counts.now c.evaluate_into-in-OverTwo.new.counts c.evaluate_into-in-OverTwo-2.new.counts
    c.in_ok-lefts-in-OverTwo.ensures.others c.in_ok-rights-in-OverTwo.ensures.others (subst (λ (t : PlanTree). IsAbsent m (nodes t)) plan a)
