use Rattle.std.proofs.Common.{ap, sym, ◌∙◌}
use Rattle.text_lines.proofs.Faultless.{Gives-read, TellsFault-read}
use Rattle.program_text.specs.DeclarationFaults.{declaration_fault}
use Rattle.program_text.proofs.ProgramLines.{faultless, words_of_decl-unique}
use Rattle.program_text.proofs.declaration_reading.read_declaration.Goals as goal

pub returns-clause-decl_always : goal.returns-clause-decl_always
returns-clause-decl_always c d h e =
    Gives-read c.read_line.result _ _ (declaration_fault c.args.version c.args.words.now) c.read_line.ensures.decl c.read_line.ensures.fault (ap (declaration_fault c.args.version) e ∙ faultless c.args.version d h)
    (λ found read. words_of_decl-unique c.args.version found d read.0 h (sym read.1 ∙ e))

pub returns-clause-fault_always : goal.returns-clause-fault_always
returns-clause-fault_always c =
    TellsFault-read c.read_line.result _ (declaration_fault c.args.version c.args.words.now) c.read_line.ensures.decl c.read_line.ensures.fault (λ found read. ap (declaration_fault c.args.version) read.1 ∙ faultless c.args.version found read.0)
