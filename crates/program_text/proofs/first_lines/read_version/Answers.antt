use Rattle.program_text.proofs.ProgramLines.{version_answer, version_fault_answer, version_told}
use Rattle.program_text.proofs.first_lines.read_version.Goals as goal

pub returns-clause-version : goal.returns-clause-version
returns-clause-version c = version_told c.version_in.result c.args.words.now c.version_in.ensures.known c.version_in.ensures.version

pub returns-clause-version_always : goal.returns-clause-version_always
returns-clause-version_always c v h e = version_answer c.version_in.result c.args.words.now v (returns-clause-version c) c.version_in.ensures.fault h e

pub returns-clause-fault_always : goal.returns-clause-fault_always
returns-clause-fault_always c what e = version_fault_answer c.version_in.result c.args.words.now what (returns-clause-version c) c.version_in.ensures.fault e
