use Rattle.std.proofs.Common.{◌≡◌, ◌<◌, ◌≤◌, ℕ, true, not, get_or, length, vec_len}
use Rattle.std.specs.Vec.{vec_capacity}
use Rattle.plan_trees.specs.Sending.{has_out}
use Rattle.plan_trees.proofs.senders.EndedSenders.along.Given as goal

abbrev pub invariant-loop-from : goal.invariant-loop-from
invariant-loop-from l =
    (length l.flags.items ≡ l.from) × (vec_len l.flags ≡ l.from) × (l.workers ≤ vec_capacity l.flags)
    × ((from : ℕ) → from < l.from → get_or l.flags.items from true ≡ not (has_out l.edge from l.to))
