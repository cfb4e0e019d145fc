use Rattle.std.proofs.Common.{refl, subst, sym}
use Rattle.program_text.specs.declared.program_reading.State.{State}
use Rattle.program_text.specs.ProgramStates.{LeadsOn, state_of, version, version_read}
use Rattle.program_text.proofs.program_reading.next.Goals as goal

pub returns-in-Ok-clause-leads : goal.returns-in-Ok-clause-leads
returns-in-Ok-clause-leads c =
    subst (λ (s : State). LeadsOn (state_of s) c.args.words.now (version_read c.in-Ok.version)) (sym c.in-NothingRead.is) (version c.in-Ok.version, c.in-Ok.ensures.version.1, c.in-Ok.ensures.version.0, refl)
