use Rattle.std.proofs.Common.{rules}
use Rattle.batch_channel.proofs.Keeps.{leaves, totals}
use Rattle.batch_channel.proofs.Remains.{stays_joined, tells_next}
use Rattle.batch_channel.proofs.lefts.Left.next.Goals as goal

pub pop_as-requires-clause-rule : goal.pop_as-requires-clause-rule
pop_as-requires-clause-rule g c = let i = c.self.invariant in (leaves _ _ _ i.1 i.2, totals _ _ _ i.1 i.2)

pub invariant_of-self : goal.invariant_of-self
invariant_of-self g c =
    let i = c.self.invariant in
    let j = stays_joined g.W.Width.fields c.pop_as.result _ _ (i.1, i.2, i.3) c.pop_as.ensures.rule in
    ((search rules, search rules), j.0, j.1, j.2)

pub returns-clause-next : goal.returns-clause-next
returns-clause-next g c = rw (← c.self.view_is) (tells_next g.W.Width.fields c.pop_as.result _ _ c.pop_as.ensures.rule)
