use Rattle.pact_bag.proofs.Widths.{HaveOneWidth-append}
use Rattle.tac_interp.proofs.calls.call_into.Goals as goal

pub hand_over-requires : goal.hand_over-requires
hand_over-requires c = HaveOneWidth-append c.args.f.now.fields _ _ c.requires.widths c.in_ok-ended.ensures.widths
