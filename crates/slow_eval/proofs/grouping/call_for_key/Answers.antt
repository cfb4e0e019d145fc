use Rattle.std.proofs.Common.{◌≡◌, ◌++◌, ap, sym, ◌∙◌, subst, List}
use Rattle.std.proofs.lemmas.Result.{IfOk-weaker}
use Rattle.std.specs.List.{AllByRecursion}
use Rattle.pact_record.specs.declared.values.Value.{Value}
use Rattle.pact_record.specs.Record.{key_of}
use Rattle.tac_syntax.specs.Call.{Out, of_group}
use Rattle.pact_bag.proofs.KeyGroups.{group_keys}
use Rattle.slow_eval.proofs.grouping.call_for_key.Goals as goal

pub returns-clause-given : goal.returns-clause-given
returns-clause-given c =
    let f = c.args.f.now in
    let keys = c.args.keys.now in
    let key = c.args.key.now in
    let group = c.in_ok-group.ensures.group in
    IfOk-weaker c.group_into.result _ _ (λ u e. e ∙ ap (λ (g : List (List Value)). c.args.out.now ++ Out f.fields f.function.body (of_group key g)) group)
    (c.group_into.ensures.given key (subst (AllByRecursion (λ row. key_of keys row ≡ key)) (sym group) (group_keys keys c.args.rows.now key)))
