use Rattle.std.proofs.Common.{◌++◌, ap, refl, ◌∙◌}
use Rattle.std.specs.Prelude.{flat_map}
use Rattle.std.proofs.lemmas.List.{take_all}
use Rattle.pact_operators.specs.Allowed.{Bag}
use Rattle.tac_syntax.specs.Call.{Out, of_pair}
use Rattle.flow_instance.proofs.PairsByKeys.{item_width, pairs_more}
use Rattle.flow_instance.proofs.matching.append_pairs.Goals as goal

pub pair_into-requires-clause-left_width : goal.pair_into-requires-clause-left_width
pair_into-requires-clause-left_width c =
    item_width c.args.f.now.fields c.rows-left-items.result.now c.args.lefts.now c.loop-left.left-index c.left-item.result c.rows-left-items.ensures.rows c.loop-left-test.true c.left-item.is c.requires.left_widths

pub loop-left-preserved : goal.loop-left-preserved
loop-left-preserved c =
    let f = c.args.f.now in (
      pairs_more (λ l. Out f.fields f.function.body (of_pair l c.args.right.now)) c.rows-left-items.result.now c.loop-left.left-index c.left-item.result c.args.out.now c.loop-left.out _ _ c.loop-left-test.true c.left-item.is
          c.loop-left.invariant.0 refl c.in_ok-pair_into.ensures.given,
      c.in_ok-pair_into.ensures.widths,
    )

pub returns-clause-given : goal.returns-clause-given
returns-clause-given c =
    let f = c.args.f.now in
    c.loop-left.invariant.0 ∙ ap (λ (xs : Bag). c.args.out.now ++ flat_map (λ l. Out f.fields f.function.body (of_pair l c.args.right.now)) xs) (take_all c.loop-left.left-index c.rows-left-items.result.now c.loop-left-test.false ∙ c.rows-left-items.ensures.rows)
