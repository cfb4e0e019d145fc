use Rattle.std.proofs.Common.{List}
use Rattle.std.proofs.lemmas.Result.{IfOk-weaker}
use Rattle.pact_operators.specs.Allowed.{Bag}
use Rattle.pact_record.specs.Record.{key_of}
use Rattle.pact_record.specs.declared.values.Value.{Value}
use Rattle.tac_syntax.specs.Call.{Out, of_pair}
use Rattle.flow_instance.proofs.PairsByKeys.{group_wide, no_right, some_right}
use Rattle.flow_instance.proofs.matching.append_matches.Goals as goal

pub returns-then-not-may_match-clause-given : goal.returns-then-not-may_match-clause-given
returns-then-not-may_match-clause-given g c =
    let f = c.args.f.now in
    let calls : List Value → List Value → Bag = λ l r. Out f.fields f.function.body (of_pair l r) in
    no_right c.args.nulls calls (g.L.Local.key_fields c.args.kept.now) c.args.right_keys.now (g.L.Local.rows c.args.kept.now) c.args.out.now c.args.right.now c.may_match.result c.may_match.ensures c.if-not-may_match.true

pub append_pairs-requires-clause-left_widths : goal.append_pairs-requires-clause-left_widths
append_pairs-requires-clause-left_widths g c =
    group_wide c.args.f.now.fields (g.L.Local.key_fields c.args.kept.now) (g.L.Local.rows c.args.kept.now) c.borrow_group_of-lefts.result.now (key_of c.args.right_keys.now c.args.right.now) c.requires.left_widths c.borrow_group_of-lefts.ensures

pub returns-clause-given : goal.returns-clause-given
returns-clause-given g c =
    let f = c.args.f.now in
    let calls : List Value → List Value → Bag = λ l r. Out f.fields f.function.body (of_pair l r) in
    IfOk-weaker c.append_pairs.result _ _ (λ u m. some_right c.args.nulls calls (g.L.Local.key_fields c.args.kept.now) c.args.right_keys.now (g.L.Local.rows c.args.kept.now) c.borrow_group_of-lefts.result.now c.args.out.now c.append_pairs.new.out c.args.right.now
    c.may_match.result c.may_match.ensures c.if-not-may_match.false c.borrow_group_of-lefts.ensures m)
    c.append_pairs.ensures.given
