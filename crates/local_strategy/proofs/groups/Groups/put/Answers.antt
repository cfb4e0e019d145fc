use Rattle.std.proofs.Common.{length, subst, sym}
use Rattle.pact_record.specs.Widths.{AreBelow}
use Rattle.local_strategy.specs.Grouped.{GroupsData}
use Rattle.local_strategy.proofs.PutRows.{held_after}
use Rattle.local_strategy.proofs.groups.Groups.put.Goals as goal

pub invariant_of-self : goal.invariant_of-self
invariant_of-self c =
    held_after c.self.inside.keys c.args.row c.args.found c.self.inside.held.items c.put.new.groups.items c.self.inside.none c.put.result c.self.invariant
    (subst (λ (v : GroupsData). AreBelow (length c.args.row) v.keys) (sym c.self.view_is) c.requires.below) c.put.ensures.ok c.put.ensures.err
