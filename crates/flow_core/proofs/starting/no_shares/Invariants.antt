use Rattle.std.proofs.Common.{◌≡◌, ◌≤◌, replicate, [], vec_len}
use Rattle.std.specs.Vec.{vec_capacity}
use Rattle.flow_core.proofs.starting.no_shares.Given as goal

abbrev pub invariant-loop : goal.invariant-loop
invariant-loop l = (l.shares.items ≡ replicate l.counter []) × (vec_len l.shares ≡ l.counter) × (l.workers ≤ vec_capacity l.shares)
