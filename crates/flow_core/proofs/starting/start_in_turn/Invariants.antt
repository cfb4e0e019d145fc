use Rattle.std.proofs.Common.{◌≡◌, ◌≤◌, length, vec_len}
use Rattle.std.specs.Vec.{vec_capacity}
use Rattle.flow_core.specs.Starting.{StartFrom}
use Rattle.flow_core.proofs.starting.start_in_turn.Given as goal

abbrev pub invariant-loop-unstarted : goal.invariant-loop-unstarted
invariant-loop-unstarted g l = (vec_len l.held ≡ length l.yielded) × (length l.fn.own.held.items ≤ vec_capacity l.held) × StartFrom l.yielded l.held.items
