use Rattle.std.proofs.Common.{ap, ◌∙◌, length}
use Rattle.tac_syntax.specs.Call.{of_record}
use Rattle.tac_syntax.proofs.StepsAsRecursion.{end_state-items}
use Rattle.tac_interp.proofs.Emissions.{one_width}
use Rattle.tac_interp.proofs.calls.call_map.Goals as goal

pub push-requires : goal.push-requires
push-requires c = one_width c.args.f.now.fields c.in_ok-row.row c.in_ok-ended.ended.parts.emitted (ap length c.in_ok-row.ensures ∙ c.requires.width) c.in_ok-ended.ensures.widths

pub returns-in_err-ended-clause-ends : goal.returns-in_err-ended-clause-ends
returns-in_err-ended-clause-ends c = end_state-items c.args.f.now.fields c.args.f.now.function.body (of_record c.args.row.now)

pub returns-then-not-passes-clause-ends : goal.returns-then-not-passes-clause-ends
returns-then-not-passes-clause-ends c = end_state-items c.args.f.now.fields c.args.f.now.function.body (of_record c.args.row.now)

pub returns-in_err-row-clause-ends : goal.returns-in_err-row-clause-ends
returns-in_err-row-clause-ends c = end_state-items c.args.f.now.fields c.args.f.now.function.body (of_record c.args.row.now)

pub returns-in_err-push-clause-ends : goal.returns-in_err-push-clause-ends
returns-in_err-push-clause-ends c = end_state-items c.args.f.now.fields c.args.f.now.function.body (of_record c.args.row.now)

pub returns-clause-ends : goal.returns-clause-ends
returns-clause-ends c = end_state-items c.args.f.now.fields c.args.f.now.function.body (of_record c.args.row.now)
