use Rattle.std.proofs.Common.{◌≡◌, ◌≤◌, None, replicate, vec_len}
use Rattle.std.specs.Vec.{vec_capacity}
use Rattle.flow_run.proofs.tables.blank_cells.Given as goal

abbrev pub invariant-loop : goal.invariant-loop
invariant-loop g l = (l.held.items ≡ replicate l.counter None) × (vec_len l.held ≡ l.counter) × (l.columns ≤ vec_capacity l.held)
