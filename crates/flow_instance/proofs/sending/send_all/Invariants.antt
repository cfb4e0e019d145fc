use Rattle.std.proofs.Common.{ℕ}
use Rattle.pact_record.specs.Widths.{AreWide}
use Rattle.plan_trees.specs.declared.physicals.Ship.TheVariants.{Broadcast}
use Rattle.flow_instance.specs.Sending.{AreFew, AreSentSoFar}
use Rattle.flow_instance.proofs.sending.send_all.Given as goal

abbrev pub invariant-loop-n : goal.invariant-loop-n
invariant-loop-n l =
    ((fields : ℕ) → AreWide fields l.fn.rows → AreSentSoFar fields l.workers Broadcast l.from l.n l.fn.rows l.queue.items (λ _. l.fn.rows))
    × AreFew l.batch l.queue.items
