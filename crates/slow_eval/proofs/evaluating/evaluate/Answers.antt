use Rattle.std.proofs.Common.{◌≡◌, ℕ, List, Some, slice_get, sym, subst}
use Rattle.pact_operators.specs.Allowed.{Counted, count_of}
use Rattle.pact_operators.specs.PlanOps.{plan_ops}
use Rattle.pact_operators.proofs.PermutedEvaluations.{evaluates_allowed}
use Rattle.pact_record.specs.declared.values.Value.{Value}
use Rattle.slow_eval.proofs.evaluating.evaluate.Goals as goal

pub returns-clause-allowed : goal.returns-clause-allowed
returns-clause-allowed c =
    let o = plan_ops c.args.program.now c.args.inputs.now in
    let plan = c.args.plan.now in
    let counts = c.evaluate_into.new.counts in
    evaluates_allowed (λ (n k : ℕ). slice_get counts n ≡ Some (count_of k)) o plan c.in_ok-rows.rows
    (subst (λ (rows : List (List Value)). Counted o plan rows counts) (sym c.in_ok-rows.ensures) c.in_ok-given.ensures.counted)
