use Rattle.std.proofs.Common.{rules, sym, subst}
use Rattle.flow_instance.specs.Instances.{Instance}
use Rattle.flow_instance.specs.Local.{IsLocal}
use Rattle.flow_instance.proofs.InstancesOfPlans.{local_offered}
use Rattle.flow_instance.proofs.instances.Instance.offer.Goals as goal

pub returns-clause-note : goal.returns-clause-note
returns-clause-note g c = search rules

pub returns-clause-offered : goal.returns-clause-offered
returns-clause-offered g c = search rules

pub returns-clause-local : goal.returns-clause-local
returns-clause-local g c = λ s taken put new to l wanted a.
    let i = c.args.self.now in
    subst (λ (j : Instance). IsLocal s i.part.worker j taken new) (sym (returns-clause-offered g c)) (local_offered s i taken put new to c.in-Some.addressed.note (returns-clause-note g c) l wanted a)
