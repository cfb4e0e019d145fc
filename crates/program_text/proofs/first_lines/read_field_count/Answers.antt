use Rattle.std.proofs.Common.{◌≡◌, ◌∙◌, Ok, Some, ap, subst, sym}
use Rattle.text_lines.specs.declared.faults.NotRead.{NotRead}
use Rattle.text_lines.specs.LineReading.{IsFaultOf}
use Rattle.program_text.specs.FirstLines.{fields_fault}
use Rattle.program_text.proofs.ProgramLines.{field_count_words-unique, no_count_fault}
use Rattle.program_text.proofs.first_lines.read_field_count.Goals as goal

pub returns-in-Ok-clause-count_always : goal.returns-in-Ok-clause-count_always
returns-in-Ok-clause-count_always c count h e = let read = c.in-Ok.ensures.count in ap Ok (field_count_words-unique c.args.version c.in-Ok.count count read.0 h (sym read.1 ∙ e))

pub returns-in-Ok-clause-fault_always : goal.returns-in-Ok-clause-fault_always
returns-in-Ok-clause-fault_always c what h = let read = c.in-Ok.ensures.count in absurd (no_count_fault c.args.version c.in-Ok.count what c.args.words.now read.0 read.1 h)

pub returns-in-Err-clause-count_always : goal.returns-in-Err-clause-count_always
returns-in-Err-clause-count_always c count h e =
    let told : fields_fault c.args.version c.args.words.now ≡ Some c.told.result = subst (λ (not : NotRead). IsFaultOf not (fields_fault c.args.version c.args.words.now)) c.told.ensures c.in-Err.ensures.fault in
    absurd (no_count_fault c.args.version count c.told.result c.args.words.now h e told)
