use Rattle.std.proofs.Common.{List, sym, ◌∙◌, arith}
use Rattle.std.proofs.lemmas.Result.{IfOk-weaker}
use Rattle.flow_instance.proofs.Bags.{is_same}
use Rattle.pact_operators.specs.Allowed.{Bag}
use Rattle.pact_record.specs.Record.{key_of}
use Rattle.pact_record.specs.declared.values.Value.{Value}
use Rattle.tac_syntax.specs.Call.{Out, of_pair}
use Rattle.flow_instance.proofs.PairsByKeys.{crossed_kept, crossed_none, group_wide}
use Rattle.flow_instance.proofs.matching.cross_kept.Goals as goal

pub returns-then-len-eq0-clause-given : goal.returns-then-len-eq0-clause-given
returns-then-len-eq0-clause-given g c =
    let f = c.args.f.now in
    let calls : List Value → List Value → Bag = λ l r. Out f.fields f.function.body (of_pair l r) in
    is_same (crossed_none calls (g.L.Local.rows c.args.kept.now) c.args.rights.now (omega (arith, c.len.ensures, c.if-len-eq0.true)) ∙ sym c.new.ensures)

pub cross_rows-requires-clause-left_widths : goal.cross_rows-requires-clause-left_widths
cross_rows-requires-clause-left_widths g c =
    group_wide c.args.f.now.fields (g.L.Local.key_fields c.args.kept.now) (g.L.Local.rows c.args.kept.now) c.borrow_group_of-lefts.result.now _ c.requires.left_widths c.borrow_group_of-lefts.ensures

pub returns-clause-given : goal.returns-clause-given
returns-clause-given g c =
    let f = c.args.f.now in
    let calls : List Value → List Value → Bag = λ l r. Out f.fields f.function.body (of_pair l r) in
    IfOk-weaker c.cross_rows.result _ _ (λ out o.
    crossed_kept calls (g.L.Local.key_fields c.args.kept.now) (g.L.Local.rows c.args.kept.now) c.borrow_group_of-lefts.result.now c.args.rights.now out _ c.requires.no_keys (λ i. key_of (c.new-2.ensures i) c.at.result.now) c.borrow_group_of-lefts.ensures o)
    c.cross_rows.ensures.given
