use Rattle.std.proofs.Common.{List, subst, ◌∙◌}
use Rattle.std.specs.Prelude.{flat_map}
use Rattle.std.specs.List.Sorted.{IsPermutation}
use Rattle.std.proofs.lemmas.List.{take_all}
use Rattle.pact_operators.specs.Allowed.{Bag}
use Rattle.pact_bag.specs.Pairs.{matched}
use Rattle.pact_record.specs.declared.values.Value.{Value}
use Rattle.tac_syntax.specs.Call.{Out, of_pair}
use Rattle.flow_instance.proofs.PairsByKeys.{item_width, one_right, turned_pairs}
use Rattle.flow_instance.proofs.matching.match_kept.Goals as goal

pub loop-right-preserved : goal.loop-right-preserved
loop-right-preserved g c =
    let f = c.args.f.now in
    let calls : List Value → List Value → Bag = λ l r. Out f.fields f.function.body (of_pair l r) in (
      one_right (matched c.args.nulls calls (g.L.Local.key_fields c.args.kept.now) c.args.right_keys.now) (g.L.Local.rows c.args.kept.now) c.rows-right-items.result.now c.loop-right.out c.append_matches.new.out c.loop-right.right-index
          c.right-item.result c.loop-right-test.true c.right-item.is c.in_ok-append_matches.ensures.given c.loop-right.invariant.0,
      c.in_ok-append_matches.ensures.widths,
    )

pub returns-clause-given : goal.returns-clause-given
returns-clause-given g c =
    let f = c.args.f.now in
    let calls : List Value → List Value → Bag = λ l r. Out f.fields f.function.body (of_pair l r) in
    let one = matched c.args.nulls calls (g.L.Local.key_fields c.args.kept.now) c.args.right_keys.now in
    let ls = g.L.Local.rows c.args.kept.now in
    let all = take_all c.loop-right.right-index c.rows-right-items.result.now c.loop-right-test.false ∙ c.rows-right-items.ensures.rows in
    turned_pairs one ls c.args.rights.now c.loop-right.out
    (subst (λ (rs : Bag). IsPermutation (flat_map (λ x. flat_map (λ l. one l x) ls) rs) c.loop-right.out) all c.loop-right.invariant.0)

pub append_matches-requires-clause-right_width : goal.append_matches-requires-clause-right_width
append_matches-requires-clause-right_width g c κs lives =
    item_width c.args.f.now.fields c.rows-right-items.result.now c.args.rights.now c.loop-right.right-index c.right-item.result c.rows-right-items.ensures.rows c.loop-right-test.true c.right-item.is c.requires.right_widths
