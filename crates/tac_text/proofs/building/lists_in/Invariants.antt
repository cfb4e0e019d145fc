use Rattle.std.proofs.Common.{◌≡◌, ◌≤◌, reverse, take}
use Rattle.tac_text.specs.Places.{lists_in}
use Rattle.tac_text.proofs.building.lists_in.Given as goal

abbrev pub invariant-loop-block : goal.invariant-loop-block
invariant-loop-block l = record {
  counted : l.lists ≡ lists_in (reverse (take l.block-index l.blocks));
  few : l.lists ≤ l.block-index;
}
