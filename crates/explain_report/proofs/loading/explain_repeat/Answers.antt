use Rattle.explain_report.specs.TextStages.{repeated_of}
use Rattle.explain_report.proofs.Foretold.{foretold_stop, foretold_value, if_ok, if_ok_both}
use Rattle.explain_report.proofs.loading.explain_repeat.Goals as goal

pub returns-in-Ok-clause-told : goal.returns-in-Ok-clause-told
returns-in-Ok-clause-told g c = if_ok c.accepted.result (λ e zero. foretold_value (λ files. repeated_of files c.args.name.now c.args.source.now c.args.text.now) c.in-Ok.loaded e zero c.in-Ok.ensures) c.accepted.ensures.status

pub returns-in-Err-clause-told : goal.returns-in-Err-clause-told
returns-in-Err-clause-told g c =
    if_ok_both c.refused.result (λ e told cause. foretold_stop (λ files. repeated_of files c.args.name.now c.args.source.now c.args.text.now) c.in-Err.refusal e cause told c.in-Err.ensures) c.refused.ensures.told c.refused.ensures.cause
