use Rattle.std.proofs.Common.{◌≡◌, false}
use Rattle.pact_operators.specs.Resolved.{is_among, sink_inputs}
use Rattle.program_check.proofs.ReachedByReaders.{reached_by}
use Rattle.program_check.proofs.reached.is_reached.Goals as goal

pub returns-else-is_among : goal.returns-else-is_among
returns-else-is_among c n marked =
    let d = c.args.candidate.now.draft in
    let unnamed : is_among c.args.name.now (sink_inputs d.decls) ≡ false = cc (c.sinks.ensures, c.is_among.ensures, c.if-is_among.false) in
    reached_by n d c.args.name.now c.decls.result.now c.args.reached.now c.is_read_by_reached.result c.decls.ensures.decls marked c.is_read_by_reached.ensures unnamed
