use Rattle.std.proofs.Common.{◌∙◌}
use Rattle.prune_fields.proofs.pruning.needed_at.Goals as goal

pub returns-clause-needed : goal.returns-clause-needed
returns-clause-needed c = c.at.ensures ∙ c.table_of-table.ensures c.args.at c.requires.there
