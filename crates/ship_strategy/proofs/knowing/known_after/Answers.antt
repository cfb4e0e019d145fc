use Rattle.std.proofs.Common.{◌↔◌, ap, subst, sym, ◌∙◌}
use Rattle.tac_syntax.specs.Contexts.{Has}
use Rattle.plan_trees.specs.Plans.{subtree_of}
use Rattle.pact_operators.specs.Programs.{HasLeftAttribute, HasRightAttribute}
use Rattle.ship_strategy.specs.Facts.{Facts}
use Rattle.ship_strategy.specs.PlanFacts.{filled}
use Rattle.ship_strategy.specs.EarlierFindings.{AreTrueFindings, IsTrueFinding}
use Rattle.tac_flow.proofs.EachItem.{AllByRecursion-set}
use Rattle.ship_strategy.proofs.FilledTables.{filled_is}
use Rattle.ship_strategy.proofs.EarlierFindingRows.{told}
use Rattle.ship_strategy.proofs.PlanAttributes.{facts_left, facts_right}
use Rattle.ship_strategy.proofs.knowing.known_after.Goals as goal

pub returns-clause-value : goal.returns-clause-value
returns-clause-value c = c.fill.ensures.table ∙ ap (λ (f : Facts). filled c.args.program.now c.args.plan.now f) c.blank-table.ensures ∙ filled_is c.args.program.now c.args.plan.now

pub returns-clause-left : goal.returns-clause-left
returns-clause-left c n k there =
    let p = c.args.program.now in
    let t = c.args.plan.now in
    let value = c.fill.ensures.table ∙ ap (λ (f : Facts). filled p t f) c.blank-table.ensures ∙ filled_is p t in
    subst (λ (f : Facts). Has (f n).left k ↔ HasLeftAttribute p.functions p.ops (subtree_of n t) k) (sym value) (facts_left p t n k there)

pub returns-clause-right : goal.returns-clause-right
returns-clause-right c n k there =
    let p = c.args.program.now in
    let t = c.args.plan.now in
    let value = c.fill.ensures.table ∙ ap (λ (f : Facts). filled p t f) c.blank-table.ensures ∙ filled_is p t in
    subst (λ (f : Facts). Has (f n).right k ↔ HasRightAttribute p.functions p.ops (subtree_of n t) k) (sym value) (facts_right p t n k there)

pub returns-clause-seen : goal.returns-clause-seen
returns-clause-seen c =
    let p = c.args.program.now in
    let t = c.args.plan.now in
    let value = c.fill.ensures.table ∙ ap (λ (f : Facts). filled p t f) c.blank-table.ensures ∙ filled_is p t in
    subst (AreTrueFindings p) (sym c.keep.ensures.tables) (AllByRecursion-set (IsTrueFinding p) c.args.seen.now.tables _ c.fill.new.table c.requires.seen (told p t c.fill.new.table value))
