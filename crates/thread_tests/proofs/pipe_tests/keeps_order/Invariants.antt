use Rattle.std.proofs.Common.{◌≡◌}
use Rattle.thread_tests.proofs.pipe_tests.keeps_order.Given as goal

abbrev pub invariant-loop-n : goal.invariant-loop-n
invariant-loop-n g l = (l.put.name ≡ l.pipe.name) × (l.take.name ≡ l.pipe.name)
