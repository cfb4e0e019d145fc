use Rattle.std.proofs.Common.{[], List, OnOk, append-nil, arith, refl, subst, sym}
use Rattle.std.proofs.lemmas.Result.{on_ok_weaker}
use Rattle.pact_operators.specs.Allowed.{Bag}
use Rattle.pact_record.specs.declared.values.Value.{Value}
use Rattle.tac_syntax.specs.Call.{Out, of_groups}
use Rattle.flow_instance.specs.declared.grouping.Side.{Side}
use Rattle.flow_instance.specs.Grouping.{IsAppended, IsGivenFrom}
use Rattle.flow_instance.proofs.CallsForGroups.{given_alone, given_none}
use Rattle.flow_instance.proofs.grouping.call_from.Goals as goal

pub returns-in-Left-clause-given : goal.returns-in-Left-clause-given
returns-in-Left-clause-given c = λ key of_own of_other.
    let f = c.args.f.now in
    let calls : List Value → Bag → Bag → Bag = λ k x y. Out f.fields f.function.body (of_groups k x y) in
    let own = c.args.groups.own.now in
    let other = c.args.groups.other.now in
    subst (λ (s : Side). OnOk c.cogroup_into.result (IsAppended (IsGivenFrom s calls key own other) c.args.out.now c.cogroup_into.new.out)) (sym c.in-Left.is)
    (on_ok_weaker c.cogroup_into.result (λ e. (calls key own other, refl, e)) (c.cogroup_into.ensures.given key of_own of_other))

pub returns-then-len-gt0-clause-given : goal.returns-then-len-gt0-clause-given
returns-then-len-gt0-clause-given c = λ key of_own of_other.
    let f = c.args.f.now in (
      [],
      given_none c.args.side (λ k x y. Out f.fields f.function.body (of_groups k x y)) key c.args.groups.own.now c.args.groups.other.now c.in-Right.is (omega (arith, c.len.ensures, c.if-len-gt0.true)),
      sym (append-nil c.args.out.now),
    )

pub returns-else-len-gt0-clause-given : goal.returns-else-len-gt0-clause-given
returns-else-len-gt0-clause-given c = λ key of_own of_other.
    let f = c.args.f.now in
    let calls : List Value → Bag → Bag → Bag = λ k x y. Out f.fields f.function.body (of_groups k x y) in
    let own = c.args.groups.own.now in
    let other = c.args.groups.other.now in
    on_ok_weaker c.cogroup_into-in-Right.result
    (λ e. (calls key other own, given_alone c.args.side calls key own other (calls key other own) c.in-Right.is (omega (arith, c.len.ensures, c.if-len-gt0.false)) refl, e))
    (c.cogroup_into-in-Right.ensures.given key of_other of_own)
