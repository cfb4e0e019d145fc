use Rattle.std.proofs.lemmas.Int.{wrapping_add_is}
use Rattle.std.specs.Int.{w64}
use Rattle.tac_interp.proofs.number_operations.wrapped_sum.Goals as goal

pub returns : goal.returns
returns c = wrapping_add_is w64 c.args.x c.args.y c.ranges.x c.ranges.y
