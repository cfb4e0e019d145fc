use Rattle.tac_flow.proofs.EachItem.{AllByRecursion-replicate}
use Rattle.ship_strategy.specs.EarlierFindings.{IsTrueFinding}
use Rattle.ship_strategy.proofs.EarlierFindingRows.{blank_told}
use Rattle.ship_strategy.proofs.earlier_findings.EarlierFindings.nothing.Goals as goal

pub returns : goal.returns
returns c p = AllByRecursion-replicate (IsTrueFinding p) 4 c.blank.result (blank_told p c.blank.result c.blank.ensures)
