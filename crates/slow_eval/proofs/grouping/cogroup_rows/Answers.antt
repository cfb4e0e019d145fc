use Rattle.std.proofs.Common.{ap, ◌∙◌}
use Rattle.std.proofs.lemmas.List.{take_all}
use Rattle.std.specs.Prelude.{flat_map}
use Rattle.pact_bag.specs.Groups.{group_of_key}
use Rattle.pact_operators.specs.Allowed.{keys_in_either}
use Rattle.tac_syntax.specs.Call.{Out, of_groups}
use Rattle.pact_operators.proofs.CallsForKeys.{cogrouped}
use Rattle.slow_eval.proofs.grouping.cogroup_rows.Goals as goal

pub returns-clause-given : goal.returns-clause-given
returns-clause-given c =
    let f = c.args.f.now in
    let left_keys = c.args.left_keys.now in
    let right_keys = c.args.right_keys.now in
    let ls = c.args.lefts.now in
    let rs = c.args.rights.now in
    let all = take_all c.loop-key.key-index c.rows-key-items.result.now c.loop-key-test.false ∙ c.rows-key-items.ensures.rows ∙ c.in_ok-found.ensures.keys in
    cogrouped (λ key left right. Out f.fields f.function.body (of_groups key left right)) left_keys right_keys ls rs (keys_in_either left_keys right_keys ls rs) c.loop-key.out
    (c.loop-key.invariant.0 ∙ ap (flat_map (λ key. Out f.fields f.function.body (of_groups key (group_of_key left_keys ls key) (group_of_key right_keys rs key)))) all)
