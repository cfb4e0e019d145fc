use Rattle.std.proofs.Common.{IfSome}
use Rattle.prune_fields.specs.Needs.{AreNeedsOf}
use Rattle.prune_fields.specs.NeedTables.{needs_in}
use Rattle.prune_fields.specs.PrunedPlans.{IsPrunedBelow}
use Rattle.prune_fields.proofs.pruning.all_pruned.Given as goal

abbrev pub invariant-loop-at : goal.invariant-loop-at
invariant-loop-at l =
    IsPrunedBelow l.program l.physical l.at l.pruned.program l.pruned.physical l.pruned.kept.items
    × IfSome l.known (λ t. AreNeedsOf l.program l.physical.tree (needs_in t))
