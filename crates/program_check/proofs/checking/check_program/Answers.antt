use Rattle.std.proofs.Common.{List, subst, ◌∙◌}
use Rattle.std.proofs.lemmas.Result.{err_from_is_err_and}
use Rattle.tac_syntax.specs.Valid.{WithFields}
use Rattle.program_check.specs.Checks.{IsToldBy}
use Rattle.program_check.specs.declared.program_rules.ProgramRule.TheVariants.{DeclaredTwice}
use Rattle.program_check.proofs.DifferentNames.{kept-NamesDiffer, spelled-AreNames}
use Rattle.program_check.proofs.RefusedOrKept.{memory-alone}
use Rattle.program_check.proofs.checking.check_program.Goals as goal

pub returns-in_err-resolved-clause-complete : goal.returns-in_err-resolved-clause-complete
returns-in_err-resolved-clause-complete c all =
    let p = err_from_is_err_and c.from_residual.result c.from_residual.ensures.1 in
    let told : IsToldBy c.args.draft.now c.args.functions c.in_err-resolved.field-0.0 =
    subst (λ (v : List WithFields). IsToldBy c.args.draft.now v c.in_err-resolved.field-0.0) c.functions-2.ensures.list c.in_err-resolved.ensures.refused in
    let memory = memory-alone c.args.draft.now c.args.functions c.in_err-resolved.field-0.0 told all in
    rw p.1 (p.2 ∙ memory)

pub returns-clause-names_differ : goal.returns-clause-names_differ
returns-clause-names_differ c =
    let d = c.args.draft.now in
    let v = c.functions-2.result.now in
    rw c.of.ensures (kept-NamesDiffer d v _ c.in_ok-resolved.ensures.program (c.in_ok-resolved.ensures.kept DeclaredTwice))

pub returns-clause-names : goal.returns-clause-names
returns-clause-names c = rw c.of.ensures (spelled-AreNames c.args.draft.now c.functions-2.result.now _ c.in_ok-resolved.ensures.program c.decls-decls.ensures.spelled)
