use Rattle.std.proofs.Common.{◌≡◌, ◌+◌, ℕ, length}
use Rattle.pact_record.specs.Widths.{AreWide}
use Rattle.flow_instance.specs.Sending.{AreDivided, AreFew}
use Rattle.flow_instance.proofs.sending.send_by_key.Given as goal

abbrev pub invariant-loop-row : goal.invariant-loop-row
invariant-loop-row l =
    ((fields : ℕ) → AreWide fields l.fn.rows → AreDivided fields l.workers l.keys l.from l.yielded l.queue.items l.held.items)
    × (l.more + length l.yielded ≡ length l.fn.rows)
    × AreFew l.batch l.queue.items
