use Rattle.std.proofs.Common.{◌<◌, List, Bool, true, length, get_or, ap, sym, ◌∙◌, arith}
use Rattle.plan_trees.specs.Senders.{all_below}
use Rattle.plan_trees.proofs.NumbersBelow.{all_below_none}
use Rattle.plan_trees.proofs.FlagsOfSenders.{unset}
use Rattle.plan_trees.proofs.senders.EndedSenders.have_all_ended.Goals as goal

pub returns-then-not-index : goal.returns-then-not-index
returns-then-not-index c =
    let flags = c.self.inside.flags.items in
    let within : c.loop-from.from < length flags = omega arith in
    sym (all_below_none (length flags) c.loop-from.from (λ k. get_or flags k true) within (unset flags c.loop-from.from c.index.result.now within c.index.ensures c.if-not-index.true)) ∙ ap (λ (l : List Bool). all_below (length l) (λ k. get_or l k true)) c.self.view_is
