use Rattle.std.proofs.Common.{Err, List, subst}
use Rattle.std.proofs.lemmas.Result.{err_from_is_err_and}
use Rattle.tac_syntax.specs.declared.functions.Function.{Function}
use Rattle.pact_load.specs.Answers.{Decides}
use Rattle.pact_load.specs.Stages.{each}
use Rattle.pact_load.specs.Loading.{valid}
use Rattle.pact_load.proofs.StagesOfItems.{decides_stop_at, each_next}
use Rattle.pact_load.proofs.programs.valid_functions.Goals as goal

pub returns-in_err-valid : goal.returns-in_err-valid
returns-in_err-valid c =
    let p = err_from_is_err_and c.from_residual.result c.from_residual.ensures.1 in
    let items = c.functions_of-function-items.result.now in
    let told = decides_stop_at (valid c.fields-fields.result) items c.loop-function.function-index c.function-item.result c.loop-function.valids c.in_err-valid.field-0.0 c.loop-function-test.true c.function-item.is
    c.loop-function.invariant c.in_err-valid.ensures in
    rw (p.1, p.2) (subst (λ k. Decides (each (valid k) c.args.draft.now.functions) (Err c.in_err-valid.field-0.0)) c.fields-fields.ensures.fields
    (subst (λ (fs : List Function). Decides (each (valid c.fields-fields.result) fs) (Err c.in_err-valid.field-0.0)) c.functions_of-function-items.ensures told))

pub loop-function-preserved : goal.loop-function-preserved
loop-function-preserved c =
    let items = c.functions_of-function-items.result.now in
    rw c.in_ok-push_valid.ensures
    (each_next (valid c.fields-fields.result) items c.loop-function.function-index c.function-item.result c.loop-function.valids c.in_ok-valid.valid c.loop-function-test.true c.function-item.is c.loop-function.invariant c.in_ok-valid.ensures)
