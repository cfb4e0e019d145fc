use Rattle.std.proofs.Common.{◌≡◌, true, get_or}
use Rattle.plan_trees.specs.Senders.{all_below}
use Rattle.plan_trees.proofs.senders.EndedSenders.have_all_ended.Given as goal

abbrev pub invariant-loop-from : goal.invariant-loop-from
invariant-loop-from l = all_below l.from (λ k. get_or l.self-inside.flags.items k true) ≡ true
