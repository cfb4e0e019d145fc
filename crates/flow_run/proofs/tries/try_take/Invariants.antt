use Rattle.std.proofs.Common.{◌≡◌, ℕ}
use Rattle.flow_run.specs.Ends.{AreTakes, notes_in}
use Rattle.flow_run.specs.Tables.{cell}
use Rattle.flow_run.proofs.tries.try_take.Given as goal

abbrev pub invariant-loop-from : goal.invariant-loop-from
invariant-loop-from g l = (l.i ≡ l.fn.i) × AreTakes l.pipes l.context.number l.takes × ((a b : ℕ) → notes_in (cell l.takes a b) ≡ notes_in (cell l.fn.takes a b))
