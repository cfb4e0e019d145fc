use Rattle.pact_bag.proofs.Widths.{HaveOneWidth-append}
use Rattle.tac_syntax.specs.Call.{of_record}
use Rattle.tac_syntax.proofs.StepsAsRecursion.{end_state-items}
use Rattle.tac_interp.proofs.Emissions.{AreWide-behind, one_width}
use Rattle.tac_interp.proofs.calls.map_into.Goals as goal

pub hand_over-requires : goal.hand_over-requires
hand_over-requires c = HaveOneWidth-append c.args.f.now.fields _ _ c.requires.widths c.in_ok-ended.ensures.widths

pub push-requires : goal.push-requires
push-requires c =
    let fields = c.args.f.now.fields in
    one_width fields _ _ c.requires.width (AreWide-behind fields c.args.out.now _ c.in_ok-ended.ended.parts.emitted c.in_ok-hand_over.ensures c.requires.widths c.in_ok-ended.ensures.widths)

pub returns-in_err-ended-clause-ends : goal.returns-in_err-ended-clause-ends
returns-in_err-ended-clause-ends c = end_state-items c.args.f.now.fields c.args.f.now.function.body (of_record c.args.row)

pub returns-in_err-hand_over-clause-ends : goal.returns-in_err-hand_over-clause-ends
returns-in_err-hand_over-clause-ends c = end_state-items c.args.f.now.fields c.args.f.now.function.body (of_record c.args.row)

pub returns-then-not-passes-clause-ends : goal.returns-then-not-passes-clause-ends
returns-then-not-passes-clause-ends c = end_state-items c.args.f.now.fields c.args.f.now.function.body (of_record c.args.row)

pub returns-in_err-push-clause-ends : goal.returns-in_err-push-clause-ends
returns-in_err-push-clause-ends c = end_state-items c.args.f.now.fields c.args.f.now.function.body (of_record c.args.row)

pub returns-clause-ends : goal.returns-clause-ends
returns-clause-ends c = end_state-items c.args.f.now.fields c.args.f.now.function.body (of_record c.args.row)
