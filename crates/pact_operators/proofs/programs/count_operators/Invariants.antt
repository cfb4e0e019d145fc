use Rattle.std.proofs.Common.{◌≡◌, ◌≤◌, ◌+◌, drop}
use Rattle.pact_operators.specs.Programs.{is_operator_kind, times_of_kind}
use Rattle.pact_operators.proofs.programs.count_operators.Given as goal

abbrev pub invariant-loop-op : goal.invariant-loop-op
invariant-loop-op l =
    (l.count ≤ l.op-index) × (times_of_kind is_operator_kind (drop l.op-index l.ops) + l.count ≡ times_of_kind is_operator_kind l.ops)
