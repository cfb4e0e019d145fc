use Rattle.tac_text.proofs.StatementWords.{GivesLine-read, TellsFault-read}
use Rattle.tac_text.proofs.statement_reading.read_statement.Goals as goal

pub returns-clause-line_always : goal.returns-clause-line_always
returns-clause-line_always c = GivesLine-read c.args.place c.read_line.result c.args.words.now c.read_line.ensures

pub returns-clause-fault_always : goal.returns-clause-fault_always
returns-clause-fault_always c = TellsFault-read c.args.place c.read_line.result c.args.words.now c.read_line.ensures
