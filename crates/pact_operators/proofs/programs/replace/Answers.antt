use Rattle.std.proofs.Common.{sym, subst}
use Rattle.std.proofs.lemmas.Result.{IfOk-weaker}
use Rattle.pact_operators.specs.Programs.{IsPlanOf}
use Rattle.pact_operators.proofs.InsertedPrograms.{replaced_program, replaced_plan}
use Rattle.pact_operators.proofs.programs.replace.Goals as goal

pub with_function-requires-clause-program : goal.with_function-requires-clause-program
with_function-requires-clause-program c = replaced_program c.args.program c.ops-ops.ensures.keeps c.args.at c.args.function c.function-valid.ensures.valid c.requires

pub returns-clause-plans : goal.returns-clause-plans
returns-clause-plans c = IfOk-weaker c.with_function.result _ _ (λ p e tree plan. subst (λ q. IsPlanOf q.functions q.ops tree) (sym e)
    (replaced_plan c.args.program c.ops-ops.ensures.keeps c.args.at c.args.function c.function-valid.ensures.valid c.requires tree plan)) c.with_function.ensures
