use Rattle.std.proofs.Common.{subst, sym}
use Rattle.std.proofs.lemmas.Result.{IfOk-weaker}
use Rattle.drill_program.proofs.DrillRows.{are_inputs}
use Rattle.pact_operators.specs.Inputs.{AreInputsOf}
use Rattle.pact_top.specs.PrivateCalls.{IsLayoutOutcome}
use Rattle.pact_load.specs.declared.loaded.Loaded.{Loaded}
use Rattle.pact_top.proofs.Drills.{is_drill_text}
use Rattle.pact_top.proofs.generating.drill_text.Goals as goal

pub choose_plan-requires-clause-inputs : goal.choose_plan-requires-clause-inputs
choose_plan-requires-clause-inputs g c = subst (λ (l : Loaded). AreInputsOf l.program l.inputs) (sym c.in_ok-loaded.ensures) (are_inputs c.args.seed c.args.rows)

pub run_plan-requires-clause-inputs : goal.run_plan-requires-clause-inputs
run_plan-requires-clause-inputs g c = subst (λ (l : Loaded). AreInputsOf l.program l.inputs) (sym c.in_ok-loaded.ensures) (are_inputs c.args.seed c.args.rows)

pub returns : goal.returns
returns g c =
    let o = c.args.options in
    let rewrites = c.args.rewrites in
    let best = c.in_ok-choice.choice.best in
    let ran = c.in_ok-ran.ran in
    let loaded = c.in_ok-loaded.loaded in
    let is = subst (λ (l : Loaded). IsLayoutOutcome l o.workers best.plan best.chosen.layout rewrites.prune rewrites.combine ran) c.in_ok-loaded.ensures c.in_ok-ran.ensures in
    IfOk-weaker c.summary.result _ _ (λ text told. is_drill_text c.args.seed c.args.rows loaded o.workers best.plan best.chosen.layout rewrites.prune rewrites.combine ran text c.in_ok-loaded.ensures is told) c.summary.ensures
