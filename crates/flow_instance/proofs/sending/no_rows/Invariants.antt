use Rattle.std.proofs.Common.{◌≡◌, ◌≤◌, replicate, [], vec_len}
use Rattle.std.specs.Vec.{vec_capacity}
use Rattle.flow_instance.proofs.sending.no_rows.Given as goal

abbrev pub invariant-loop : goal.invariant-loop
invariant-loop l = (l.held.items ≡ replicate l.counter []) × (vec_len l.held ≡ l.counter) × (l.workers ≤ vec_capacity l.held)
