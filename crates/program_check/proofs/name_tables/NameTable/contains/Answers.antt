use Rattle.std.proofs.Common.{◌∙◌}
use Rattle.program_check.proofs.TablesOfNames.{table-among}
use Rattle.program_check.proofs.name_tables.NameTable.contains.Goals as goal

pub returns : goal.returns
returns c names h = c.contains_key.ensures ∙ table-among c.args.self.now.marks c.args.name.now names h
