-- A call of a program's function emits at most as many records as it takes steps.
use Rattle.std.proofs.Common.{List, arith}
use Rattle.pact_operators.specs.Allowed.{Bag}
use Rattle.pact_operators.specs.PlanOps.{body_at, plan_ops}
use Rattle.pact_operators.specs.Programs.{ProgramData}
use Rattle.tac_syntax.specs.Call.{of_group, of_groups, of_pair, of_record}
use Rattle.tac_syntax.proofs.EmitsOfSteps.{few_for, out_few}
use Rattle.flow_instance.specs.Most.{AreCallsBounded, program_turns}

pub bounded_program : (p : ProgramData) (inputs : List Bag) → AreCallsBounded (plan_ops p inputs) (program_turns p)
bounded_program p inputs = record {
  of_record = λ n row. out_few p.fields (body_at p n) (of_record row);
  of_pair = λ n left right. out_few p.fields (body_at p n) (of_pair left right);
  of_group = λ n m key group h. few_for p.fields m (body_at p n) (of_group key group) h;
  of_groups = λ n m key left right h k. few_for p.fields m (body_at p n) (of_groups key left right) (omega (arith, h, k));
}
