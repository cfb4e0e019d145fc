use Rattle.std.proofs.Common.{[], Err}
use Rattle.std.proofs.lemmas.Result.{err_from_is_err_and}
use Rattle.pact_load.specs.Stages.{and_then}
use Rattle.pact_load.specs.Loading.{draft, program, valids}
use Rattle.pact_load.proofs.AnswersOfStages.{decides_err, decides_then}
use Rattle.pact_load.proofs.DecidedLoading.{are_validated}
use Rattle.pact_load.proofs.programs.program_of.Goals as goal

pub returns-in_err-draft : goal.returns-in_err-draft
returns-in_err-draft c =
    let e = err_from_is_err_and c.from_residual.result c.from_residual.ensures.1 in
    rw (e.1, e.2) (decides_err (draft c.args.name.now c.args.text.now) (λ d. and_then (valids d) (program d)) c.in_err-draft.field-0.0 c.in_err-draft.ensures)

pub returns-in_err-valids : goal.returns-in_err-valids
returns-in_err-valids c =
    let e = err_from_is_err_and c.from_residual-in_err-valids.result c.from_residual-in_err-valids.ensures.1 in
    let d = c.in_ok-draft.draft in
    rw (e.1, e.2) (decides_then (draft c.args.name.now c.args.text.now) (λ x. and_then (valids x) (program x)) d (Err c.in_err-valids.field-0.0) c.in_ok-draft.ensures (decides_err (valids d) (program d) c.in_err-valids.field-0.0 c.in_err-valids.ensures))

pub checked-requires : goal.checked-requires
checked-requires c = are_validated c.in_ok-draft.draft c.in_ok-valids.valids [] c.in_ok-valids.ensures

pub returns : goal.returns
returns c =
    let d = c.in_ok-draft.draft in
    decides_then (draft c.args.name.now c.args.text.now) (λ x. and_then (valids x) (program x)) d c.checked.result c.in_ok-draft.ensures (decides_then (valids d) (program d) c.in_ok-valids.valids c.checked.result c.in_ok-valids.ensures c.checked.ensures)
