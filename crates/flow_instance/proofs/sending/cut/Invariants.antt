use Rattle.std.proofs.Common.{◌≡◌, ◌<◌, ◌+◌, ℕ, length}
use Rattle.flow_instance.specs.Sending.{AreCarriedBut, AreFew}
use Rattle.pact_record.specs.Widths.{AreWide}
use Rattle.flow_instance.proofs.sending.cut.Given as goal

abbrev pub invariant-loop-row : goal.invariant-loop-row
invariant-loop-row l =
    ((fields : ℕ) → AreWide fields l.fn.rows → AreCarriedBut fields l.to l.yielded l.fn.queue.items l.queue.items l.held)
    × (length l.held < l.batch)
    × (l.more + length l.yielded ≡ length l.fn.rows)
    × (AreFew l.batch l.fn.queue.items → AreFew l.batch l.queue.items)
