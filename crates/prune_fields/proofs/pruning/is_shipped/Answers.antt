use Rattle.std.proofs.Common.{◌∙◌, sym}
use Rattle.prune_fields.proofs.CutsFound.{shipped_by}
use Rattle.prune_fields.proofs.pruning.is_shipped.Goals as goal

pub returns : goal.returns
returns c = shipped_by c.args.physical.now c.args.at c.in-Some.ship (sym c.ship.ensures.ship ∙ c.in-Some.is) c.in_default-ship.not-Forward
