use Rattle.std.proofs.Common.{subst}
use Rattle.std.proofs.lemmas.Result.{IfOk-weaker}
use Rattle.pact_record.specs.Widths.{AreWide}
use Rattle.slow_eval.proofs.CallsOfOperators.{called_from, gives_cogroup, gives_cross, gives_match}
use Rattle.slow_eval.proofs.evaluating.over_two.Goals as goal

pub returns-in-Match-clause-given : goal.returns-in-Match-clause-given
returns-in-Match-clause-given c =
    let called = called_from c.args.program.now c.args.at 1 c.ops.result.now c.functions.result.now c.index-ops-at.result c.index-functions-op.result c.fields-kept.ensures.keeps c.ops.ensures.ops c.functions.ensures.functions c.requires.takes c.index-ops-at.is c.index-functions-op.is in
    IfOk-weaker c.match_rows.result _ _ (λ out e inputs. gives_match c.args.program.now inputs c.nulls_match.result c.args.at c.index-ops-at.result c.index-functions-op.result c.args.lefts.now c.args.rights.now out c.nulls_match.ensures called c.in-Match.is e) c.match_rows.ensures.given

pub returns-in-Match-clause-widths : goal.returns-in-Match-clause-widths
returns-in-Match-clause-widths c =
    let called = called_from c.args.program.now c.args.at 1 c.ops.result.now c.functions.result.now c.index-ops-at.result c.index-functions-op.result c.fields-kept.ensures.keeps c.ops.ensures.ops c.functions.ensures.functions c.requires.takes c.index-ops-at.is c.index-functions-op.is in
    IfOk-weaker c.match_rows.result _ _ (λ out h. subst (λ n. AreWide n out) called.fields h) c.match_rows.ensures.widths

pub returns-in-Cross-clause-given : goal.returns-in-Cross-clause-given
returns-in-Cross-clause-given c =
    let called = called_from c.args.program.now c.args.at 1 c.ops.result.now c.functions.result.now c.index-ops-at.result c.index-functions-op.result c.fields-kept.ensures.keeps c.ops.ensures.ops c.functions.ensures.functions c.requires.takes c.index-ops-at.is c.index-functions-op.is in
    IfOk-weaker c.cross_rows.result _ _ (λ out e inputs. gives_cross c.args.program.now inputs c.args.at c.index-ops-at.result c.index-functions-op.result c.args.lefts.now c.args.rights.now out called c.in-Cross.is e) c.cross_rows.ensures.given

pub returns-in-Cross-clause-widths : goal.returns-in-Cross-clause-widths
returns-in-Cross-clause-widths c =
    let called = called_from c.args.program.now c.args.at 1 c.ops.result.now c.functions.result.now c.index-ops-at.result c.index-functions-op.result c.fields-kept.ensures.keeps c.ops.ensures.ops c.functions.ensures.functions c.requires.takes c.index-ops-at.is c.index-functions-op.is in
    IfOk-weaker c.cross_rows.result _ _ (λ out h. subst (λ n. AreWide n out) called.fields h) c.cross_rows.ensures.widths

pub returns-in-CoGroup-clause-given : goal.returns-in-CoGroup-clause-given
returns-in-CoGroup-clause-given c =
    let called = called_from c.args.program.now c.args.at 1 c.ops.result.now c.functions.result.now c.index-ops-at.result c.index-functions-op.result c.fields-kept.ensures.keeps c.ops.ensures.ops c.functions.ensures.functions c.requires.takes c.index-ops-at.is c.index-functions-op.is in
    IfOk-weaker c.cogroup_rows.result _ _ (λ out e inputs. gives_cogroup c.args.program.now inputs c.args.at c.index-ops-at.result c.index-functions-op.result c.args.lefts.now c.args.rights.now out called c.in-CoGroup.is e) c.cogroup_rows.ensures.given

pub returns-in-CoGroup-clause-widths : goal.returns-in-CoGroup-clause-widths
returns-in-CoGroup-clause-widths c =
    let called = called_from c.args.program.now c.args.at 1 c.ops.result.now c.functions.result.now c.index-ops-at.result c.index-functions-op.result c.fields-kept.ensures.keeps c.ops.ensures.ops c.functions.ensures.functions c.requires.takes c.index-ops-at.is c.index-functions-op.is in
    IfOk-weaker c.cogroup_rows.result _ _ (λ out h. subst (λ n. AreWide n out) called.fields h) c.cogroup_rows.ensures.widths
