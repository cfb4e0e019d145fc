use Rattle.std.proofs.Common.{ap, ◌∙◌}
use Rattle.std.proofs.lemmas.List.{take_all}
use Rattle.std.specs.Prelude.{flat_map}
use Rattle.pact_bag.specs.Groups.{group_of_key}
use Rattle.pact_operators.specs.Allowed.{keys_in}
use Rattle.tac_syntax.specs.Call.{Out, of_group}
use Rattle.pact_operators.proofs.CallsForKeys.{grouped}
use Rattle.slow_eval.proofs.grouping.reduce_rows.Goals as goal

pub returns-clause-given : goal.returns-clause-given
returns-clause-given c =
    let f = c.args.f.now in
    let keys = c.args.keys.now in
    let rows = c.args.rows.now in
    let all = take_all c.loop-key.key-index c.rows-key-items.result.now c.loop-key-test.false ∙ c.rows-key-items.ensures.rows ∙ c.in_ok-found.ensures.keys in
    grouped (λ key group. Out f.fields f.function.body (of_group key group)) keys rows (keys_in keys rows) c.loop-key.out
    (c.loop-key.invariant.0 ∙ ap (flat_map (λ key. Out f.fields f.function.body (of_group key (group_of_key keys rows key)))) all)
