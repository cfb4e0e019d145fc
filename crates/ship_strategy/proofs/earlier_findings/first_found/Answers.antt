use Rattle.std.proofs.Common.{List, ap, sym, ◌∙◌}
use Rattle.std.proofs.lemmas.List.{drop_all}
use Rattle.ship_strategy.specs.declared.tables.Table.{Table}
use Rattle.ship_strategy.specs.EarlierFindings.{first_found}
use Rattle.ship_strategy.proofs.earlier_findings.first_found.Goals as goal

pub returns : goal.returns
returns c =
    ap (λ (tables : List Table). first_found tables c.args.at c.args.left c.args.right) (sym (drop_all c.loop-table.table-index c.args.tables.now c.loop-table-test.false))
    ∙ c.loop-table.invariant
