use Rattle.std.proofs.lemmas.Result.{IfOk-weaker}
use Rattle.prune_fields.proofs.PrunedClauses.{kept_inputs, made_answers, made_legal, made_plan, made_runs}
use Rattle.prune_fields.proofs.pruning.prune.Goals as goal

pub returns-clause-plan : goal.returns-clause-plan
returns-clause-plan c =
    let program = c.fields-fields.ensures.keeps in
    let physical = c.workers-workers.ensures.physical in
    IfOk-weaker c.all_pruned.result _ _ (λ r h. made_plan h program c.requires.plan physical) c.all_pruned.ensures

pub returns-clause-legal : goal.returns-clause-legal
returns-clause-legal c =
    let program = c.fields-fields.ensures.keeps in
    let physical = c.workers-workers.ensures.physical in
    IfOk-weaker c.all_pruned.result _ _ (λ r h. made_legal h program c.requires.plan physical c.requires.legal) c.all_pruned.ensures

pub returns-clause-inputs : goal.returns-clause-inputs
returns-clause-inputs c = IfOk-weaker c.all_pruned.result _ _ (λ r h. λ inputs of. kept_inputs h inputs of) c.all_pruned.ensures

pub returns-clause-same : goal.returns-clause-same
returns-clause-same c =
    let program = c.fields-fields.ensures.keeps in
    let physical = c.workers-workers.ensures.physical in
    IfOk-weaker c.all_pruned.result _ _ (λ r h. λ inputs of. made_answers h program c.requires.plan physical inputs of) c.all_pruned.ensures

pub returns-clause-runs : goal.returns-clause-runs
returns-clause-runs c =
    let program = c.fields-fields.ensures.keeps in
    let physical = c.workers-workers.ensures.physical in
    IfOk-weaker c.all_pruned.result _ _
    (λ r h. λ inputs rows counts of run. made_runs h program c.requires.plan physical c.requires.legal inputs rows counts of run) c.all_pruned.ensures
