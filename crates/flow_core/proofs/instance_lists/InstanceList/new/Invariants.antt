use Rattle.std.proofs.Common.{◌≡◌, ◌≤◌, [], replicate, vec_len}
use Rattle.std.specs.Vec.{vec_capacity}
use Rattle.flow_core.proofs.instance_lists.InstanceList.new.Given as goal

abbrev pub invariant-loop : goal.invariant-loop
invariant-loop g l = (l.all.items ≡ replicate l.counter []) × (vec_len l.all ≡ l.counter) × (l.ops ≤ vec_capacity l.all)
