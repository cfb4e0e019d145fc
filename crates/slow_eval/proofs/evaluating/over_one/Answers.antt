use Rattle.std.proofs.Common.{subst}
use Rattle.std.proofs.lemmas.Result.{IfOk-weaker}
use Rattle.pact_operators.specs.Allowed.{Bag, Gives}
use Rattle.pact_operators.specs.PlanOps.{kind_at, plan_ops}
use Rattle.pact_record.specs.Widths.{AreWide}
use Rattle.slow_eval.proofs.CallsOfOperators.{called_from, gives_map, gives_reduce}
use Rattle.slow_eval.proofs.evaluating.over_one.Goals as goal

pub returns-in_ok-into_rows-in-Map-clause-given : goal.returns-in_ok-into_rows-in-Map-clause-given
returns-in_ok-into_rows-in-Map-clause-given c =
    let called = called_from c.args.program.now c.args.at 0 c.ops.result.now c.functions.result.now c.index-ops-at.result c.index-functions-op.result c.fields-kept.ensures.keeps c.ops.ensures.ops c.functions.ensures.functions c.requires.takes c.index-ops-at.is c.index-functions-op.is in
    IfOk-weaker c.map_rows.result _ _ (λ out e inputs.
    subst (λ (ls : Bag). Gives (plan_ops c.args.program.now inputs) (kind_at c.args.program.now.ops c.args.at) c.args.at ls out) c.in_ok-into_rows-in-Map.ensures
    (gives_map c.args.program.now inputs c.args.at c.index-ops-at.result c.index-functions-op.result _ out called c.in-Map.is e)) c.map_rows.ensures.given

pub returns-in_ok-into_rows-in-Map-clause-widths : goal.returns-in_ok-into_rows-in-Map-clause-widths
returns-in_ok-into_rows-in-Map-clause-widths c =
    let called = called_from c.args.program.now c.args.at 0 c.ops.result.now c.functions.result.now c.index-ops-at.result c.index-functions-op.result c.fields-kept.ensures.keeps c.ops.ensures.ops c.functions.ensures.functions c.requires.takes c.index-ops-at.is c.index-functions-op.is in
    IfOk-weaker c.map_rows.result _ _ (λ out h. subst (λ n. AreWide n out) called.fields h) c.map_rows.ensures.widths

pub returns-in-Reduce-clause-given : goal.returns-in-Reduce-clause-given
returns-in-Reduce-clause-given c =
    let called = called_from c.args.program.now c.args.at 0 c.ops.result.now c.functions.result.now c.index-ops-at.result c.index-functions-op.result c.fields-kept.ensures.keeps c.ops.ensures.ops c.functions.ensures.functions c.requires.takes c.index-ops-at.is c.index-functions-op.is in
    IfOk-weaker c.reduce_rows.result _ _ (λ out e inputs.
    subst (λ (ls : Bag). Gives (plan_ops c.args.program.now inputs) (kind_at c.args.program.now.ops c.args.at) c.args.at ls out) c.rows.ensures
    (gives_reduce c.args.program.now inputs c.args.at c.index-ops-at.result c.index-functions-op.result _ out called c.in-Reduce.is e)) c.reduce_rows.ensures.given

pub returns-in-Reduce-clause-widths : goal.returns-in-Reduce-clause-widths
returns-in-Reduce-clause-widths c =
    let called = called_from c.args.program.now c.args.at 0 c.ops.result.now c.functions.result.now c.index-ops-at.result c.index-functions-op.result c.fields-kept.ensures.keeps c.ops.ensures.ops c.functions.ensures.functions c.requires.takes c.index-ops-at.is c.index-functions-op.is in
    IfOk-weaker c.reduce_rows.result _ _ (λ out h. subst (λ n. AreWide n out) called.fields h) c.reduce_rows.ensures.widths
