use Rattle.std.proofs.Common.{◌≡◌, ◌≤◌, ◌<◌, ℕ, List, [], get_or, length}
use Rattle.pact_operators.specs.Allowed.{Bag}
use Rattle.plan_trees.specs.declared.physicals.Ship.TheVariants.{Partition}
use Rattle.flow_instance.specs.Sending.{AreDivided, AreFew, AreSentSoFar, IsTurn}
use Rattle.flow_instance.proofs.sending.send_held.Given as goal

-- what is held for the receivers that still have a turn is unchanged
abbrev pub invariant-loop-n : goal.invariant-loop-n
invariant-loop-n l =
    ((fields : ℕ) (keys : List ℕ) (rows : Bag) → AreDivided fields l.workers keys l.from rows l.fn.queue.items l.fn.held.items
    → AreSentSoFar fields l.workers (Partition keys) l.from l.n rows l.queue.items (λ to. get_or l.fn.held.items to []))
    × (AreFew l.batch l.fn.queue.items → AreFew l.batch l.queue.items)
    × (length l.held.items ≡ l.workers)
    × ((turn to : ℕ) → l.n ≤ turn → turn < l.workers → to < l.workers → IsTurn l.workers l.from turn to → get_or l.held.items to [] ≡ get_or l.fn.held.items to [])
