use Rattle.std.proofs.Common.{ap, sym, ◌∙◌}
use Rattle.tac_text.specs.FunctionFaults.{header_fault}
use Rattle.tac_text.proofs.HeaderWords.{header_fault-header_words, one_header, same_begun}
use Rattle.text_lines.proofs.Faultless.{Gives-read, TellsFault-read}
use Rattle.tac_text.proofs.open_functions.read_header.Goals as goal

pub returns-clause-header_always : goal.returns-clause-header_always
returns-clause-header_always c name kind keys h e =
    Gives-read c.begin.result _ _ (header_fault c.args.words.now) c.begin.ensures.header c.begin.ensures.fault (ap header_fault e ∙ header_fault-header_words name kind keys h)
    (λ o read. same_begun o name kind keys (one_header o.name name o.kind kind o.keys keys read.1 h (sym read.0 ∙ e)) read.2)

pub returns-clause-fault_always : goal.returns-clause-fault_always
returns-clause-fault_always c =
    TellsFault-read c.begin.result _ (header_fault c.args.words.now) c.begin.ensures.header c.begin.ensures.fault (λ o read. ap header_fault read.0 ∙ header_fault-header_words o.name o.kind o.keys read.1)
