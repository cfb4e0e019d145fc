use Rattle.std.proofs.Common.{◌++◌, ℕ, List, ap, sym, ◌∙◌, append-nil}
use Rattle.program_check.specs.ProgramRules.{all_inputs as listed}
use Rattle.pact_operators.specs.Resolved.{inputs_named}
use Rattle.program_check.proofs.NamedByDeclarations.{joined_more, all_inputs-append}
use Rattle.program_check.proofs.gathering.all_inputs.Goals as goal

pub loop-decl-preserved : goal.loop-decl-preserved
loop-decl-preserved c =
    let names = c.loop-decl.names.items in
    joined_more listed c.args.decls.now c.loop-decl.decl-index c.decl-item.result names c.in_ok-names.names.items all_inputs-append
    c.loop-decl-test.true c.decl-item.is c.loop-decl.invariant
    (c.in_ok-names.ensures ∙ ap (λ (more : List (List ℕ)). names ++ more) (sym (append-nil (inputs_named c.decl-item.result))))
