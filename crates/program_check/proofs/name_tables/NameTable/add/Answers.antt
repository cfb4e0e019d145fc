use Rattle.program_check.proofs.TablesOfNames.{added}
use Rattle.program_check.proofs.name_tables.NameTable.add.Goals as goal

pub returns : goal.returns
returns c = added c.args.self.now.marks c.insert.new.self c.args.name.now c.contains_key-is_there.result c.in_ok-insert.ensures.updates c.contains_key-is_there.ensures
