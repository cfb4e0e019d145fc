use Rattle.std.proofs.Common.{◌≡◌, ◌++◌, sym, ◌∙◌, subst}
use Rattle.std.proofs.lemmas.Result.{IfOk-weaker}
use Rattle.std.specs.List.{AllByRecursion}
use Rattle.pact_record.specs.Record.{key_of}
use Rattle.tac_syntax.specs.Call.{Out, of_groups}
use Rattle.pact_bag.proofs.KeyGroups.{group_keys}
use Rattle.slow_eval.proofs.grouping.call_for_either.Goals as goal

pub returns-clause-given : goal.returns-clause-given
returns-clause-given c =
    let f = c.args.f.now in
    let left_keys = c.args.left_keys.now in
    let right_keys = c.args.right_keys.now in
    let key = c.args.key.now in
    let left = c.in_ok-left.ensures.group in
    let right = c.in_ok-right.ensures.group in
    IfOk-weaker c.cogroup_into.result _ _ (λ u e. e ∙ (λ i. c.args.out.now ++ Out f.fields f.function.body (of_groups key (left i) (right i))))
    (c.cogroup_into.ensures.given key (subst (AllByRecursion (λ row. key_of left_keys row ≡ key)) (sym left) (group_keys left_keys c.args.lefts.now key))
    (subst (AllByRecursion (λ row. key_of right_keys row ≡ key)) (sym right) (group_keys right_keys c.args.rights.now key)))
