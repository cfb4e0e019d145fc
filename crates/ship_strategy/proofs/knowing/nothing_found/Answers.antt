use Rattle.std.proofs.Common.{false}
use Rattle.ship_strategy.proofs.knowing.nothing_found.Goals as goal

pub returns : goal.returns
returns c = λ i. record {
  reads = λ k. c.empty.ensures k i;
  writes = λ k. c.empty-2.ensures k i;
  control = λ k. c.empty-3.ensures k i;
  anchor_left = false;
  anchor_right = false;
}
