use Rattle.pact_load.specs.Loading.{program_of}
use Rattle.explain_report.proofs.Foretold.{decided_stop, decided_value, if_ok, if_ok_both}
use Rattle.explain_report.proofs.loading.explain_sets.Goals as goal

pub returns-in-Ok-clause-told : goal.returns-in-Ok-clause-told
returns-in-Ok-clause-told g c = if_ok c.accepted.result (λ e zero. decided_value (program_of c.args.name.now c.args.text.now) c.in-Ok.program e zero c.in-Ok.ensures) c.accepted.ensures.status

pub returns-in-Err-clause-told : goal.returns-in-Err-clause-told
returns-in-Err-clause-told g c =
    if_ok_both c.refused.result (λ e told cause. decided_stop (program_of c.args.name.now c.args.text.now) c.in-Err.refusal e cause told c.in-Err.ensures) c.refused.ensures.told c.refused.ensures.cause
