use Rattle.std.specs.Prelude.{[], length}
use Rattle.std.proofs.lemmas.Result.{IfOk-weaker}
use Rattle.combine_rule.specs.CombinedPrograms.{planned}
use Rattle.combine_rule.proofs.AllCombined.{all_program}
use Rattle.combine_rule.proofs.CombinedClauses.{counted_for, kept_inputs, same_rest}
use Rattle.combine_rule.proofs.OnePerKey.{put_one_per_key}
use Rattle.combine_rule.proofs.SentOnce.{sent_once}
use Rattle.combine_rule.proofs.combining.combine.Goals as goal

pub returns-clause-plan : goal.returns-clause-plan
returns-clause-plan c =
    let p = c.args.program.now in
    let q = c.args.physical.now in
    IfOk-weaker c.all_combined.result _ _ (λ r h. (all_program [] (planned r.program r.physical) (length p.ops) 0 (planned p q) r.of.items h c.fields-fields.ensures.keeps c.requires).1) c.all_combined.ensures

pub returns-clause-version : goal.returns-clause-version
returns-clause-version c =
    let p = c.args.program.now in
    let q = c.args.physical.now in
    IfOk-weaker c.all_combined.result _ _ (λ r h. (same_rest (length p.ops) 0 (planned p q) (planned r.program r.physical) r.of.items h).version) c.all_combined.ensures

pub returns-clause-fields : goal.returns-clause-fields
returns-clause-fields c =
    let p = c.args.program.now in
    let q = c.args.physical.now in
    IfOk-weaker c.all_combined.result _ _ (λ r h. (same_rest (length p.ops) 0 (planned p q) (planned r.program r.physical) r.of.items h).fields) c.all_combined.ensures

pub returns-clause-sink : goal.returns-clause-sink
returns-clause-sink c =
    let p = c.args.program.now in
    let q = c.args.physical.now in
    IfOk-weaker c.all_combined.result _ _ (λ r h. (same_rest (length p.ops) 0 (planned p q) (planned r.program r.physical) r.of.items h).sink) c.all_combined.ensures

pub returns-clause-workers : goal.returns-clause-workers
returns-clause-workers c =
    let p = c.args.program.now in
    let q = c.args.physical.now in
    IfOk-weaker c.all_combined.result _ _ (λ r h. (same_rest (length p.ops) 0 (planned p q) (planned r.program r.physical) r.of.items h).workers) c.all_combined.ensures

pub returns-clause-inputs : goal.returns-clause-inputs
returns-clause-inputs c =
    let p = c.args.program.now in
    let q = c.args.physical.now in
    IfOk-weaker c.all_combined.result _ _ (λ r h. λ inputs of. kept_inputs (length p.ops) 0 (planned p q) (planned r.program r.physical) r.of.items h inputs of) c.all_combined.ensures

pub returns-clause-counted : goal.returns-clause-counted
returns-clause-counted c =
    let p = c.args.program.now in
    let q = c.args.physical.now in
    IfOk-weaker c.all_combined.result _ _ (λ r h. counted_for (planned p q) (planned r.program r.physical) r.of.items h c.fields-fields.ensures.keeps c.workers-workers.ensures.physical c.requires) c.all_combined.ensures

pub returns-clause-once : goal.returns-clause-once
returns-clause-once c =
    let p = c.args.program.now in
    let q = c.args.physical.now in
    IfOk-weaker c.all_combined.result _ _ (λ r h. sent_once (planned p q) (planned r.program r.physical) r.of.items h c.fields-fields.ensures.keeps c.workers-workers.ensures.physical c.requires) c.all_combined.ensures

pub returns-clause-sent_once : goal.returns-clause-sent_once
returns-clause-sent_once c =
    let p = c.args.program.now in
    let q = c.args.physical.now in
    IfOk-weaker c.all_combined.result _ _ (λ r h. put_one_per_key (planned p q) (planned r.program r.physical) r.of.items h c.fields-fields.ensures.keeps c.workers-workers.ensures.physical c.requires) c.all_combined.ensures
