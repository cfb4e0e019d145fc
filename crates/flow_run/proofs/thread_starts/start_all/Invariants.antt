use Rattle.std.proofs.Common.{◌≡◌, ◌≤◌, length, vec_len}
use Rattle.std.specs.Vec.{vec_capacity}
use Rattle.flow_core.specs.Starting.{StartAllFrom}
use Rattle.flow_run.proofs.thread_starts.start_all.Given as goal

abbrev pub invariant-loop-own : goal.invariant-loop-own
invariant-loop-own g l = (vec_len l.all ≡ length l.yielded) × (length l.fn.unstarted.items ≤ vec_capacity l.all) × StartAllFrom l.yielded l.all.items
