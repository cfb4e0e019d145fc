use Rattle.pact_load.proofs.NumberedTwice.{fault_text_is}
use Rattle.pact_load.proofs.refusal_lines.fault_text.Goals as goal

pub returns : goal.returns
returns c =
    rw (← c.from.ensures)
    (fault_text_is c.new-text.result c.push_numbered.new.line c.push_numbered-2.new.line c.extend_from_slice.new.self c.args.number c.from.result c.new-text.ensures c.in_ok-push_numbered.ensures c.in_ok-push_numbered-2.ensures c.in_ok-extend_from_slice.ensures.ok)
