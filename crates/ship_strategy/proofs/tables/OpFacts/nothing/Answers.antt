use Rattle.std.proofs.Common.{false}
use Rattle.tac_syntax.specs.declared.declarations.OpKind.TheVariants.{Source}
use Rattle.ship_strategy.proofs.tables.OpFacts.nothing.Goals as goal

pub returns : goal.returns
returns c = λ i. record {
  kind = Source;
  left_keys = c.new.ensures i;
  right_keys = c.new-2.ensures i;
  left = λ k. c.empty.ensures k i;
  right = λ k. c.empty-2.ensures k i;
  writes = λ k. c.empty-3.ensures k i;
  anchor_left = false;
  anchor_right = false;
}
