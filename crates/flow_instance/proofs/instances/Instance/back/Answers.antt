use Rattle.std.proofs.Common.{rules, sym, subst}
use Rattle.flow_instance.proofs.LocalAfterPuts.{returned_local}
use Rattle.flow_instance.specs.Instances.{Instance}
use Rattle.flow_instance.specs.Local.{IsLocal}
use Rattle.flow_instance.proofs.instances.Instance.back.Goals as goal

pub returns-clause-back : goal.returns-clause-back
returns-clause-back g c = search rules

pub returns-clause-local : goal.returns-clause-local
returns-clause-local g c = λ before to s taken put wanted o e l.
    let i = c.args.self.now in
    subst (λ (j : Instance). IsLocal s i.part.worker j taken put) (sym (returns-clause-back g c before to wanted o e)) (returned_local s i.part.worker i.part.workers before taken put l)
