use Rattle.program_check.proofs.Refusals.{keeps-sinks, no_single, one_single, sinks_refused}
use Rattle.program_check.proofs.checking.check_sinks.Goals as goal

pub returns-then-sinks-ne1-clause-refused : goal.returns-then-sinks-ne1-clause-refused
returns-then-sinks-ne1-clause-refused c =
    let candidate = c.args.candidate.now in
    sinks_refused candidate c.code_of.result c.in_ok-from_bytes.field-0 c.requires (no_single candidate.draft c.sinks.result.now c.sinks.ensures c.if-sinks-ne1.true) c.code_of.ensures c.in_ok-from_bytes.ensures

pub returns-clause-kept : goal.returns-clause-kept
returns-clause-kept c =
    let candidate = c.args.candidate.now in
    keeps-sinks candidate c.requires (one_single candidate.draft c.sinks.result.now c.sinks.ensures c.if-sinks-ne1.false)
