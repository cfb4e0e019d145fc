use Rattle.std.proofs.Common.{◌≡◌, ℕ, length}
use Rattle.pact_record.specs.Widths.{AreWide}
use Rattle.flow_core.specs.Starting.{AreDealt}
use Rattle.flow_core.proofs.starting.deal.Given as goal

abbrev pub invariant-loop-row : goal.invariant-loop-row
invariant-loop-row l =
    (l.number ≡ length l.yielded) × AreDealt l.workers l.yielded l.shares.items × ((fields : ℕ) → AreWide fields l.fn.rows → AreWide fields l.yielded)
