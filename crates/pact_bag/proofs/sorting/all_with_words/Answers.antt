use Rattle.std.proofs.Common.{List, arith, ap, map, subst, sym, ◌∙◌, ◌++◌, ◌∷◌, ◌+◌, []}
use Rattle.std.proofs.lemmas.Iterator.Adapters.{YieldsList-from_vec}
use Rattle.std.proofs.lemmas.Iterator.Consumers.{YieldsList-end, YieldsList-turn}
use Rattle.std.proofs.lemmas.List.{length-append, map-append, map-id}
use Rattle.std.proofs.lemmas.List.Elements.{All-push}
use Rattle.std.specs.List.{All}
use Rattle.pact_bag.specs.declared.sorting.WordedRow.{WordedRow}
use Rattle.pact_bag.specs.WordedRows.{IsWorded, row_of}
use Rattle.pact_bag.proofs.sorting.all_with_words.Goals as goal

pub push_reserved-requires : goal.push_reserved-requires
push_reserved-requires c =
    let gives = c.into_iter-row-iterator.ensures.into_iter_gives in
    let t = YieldsList-turn (YieldsList-from_vec {s = c.into_iter-row-iterator.result} c.args.rows.items gives.0 (gives.1 ∙ c.args.rows.ok.0)) c.loop-row.yielded c.loop-row.row-iterator c.loop-row.yielded_by c.next.result c.next.new.self
    c.in-Some.row c.in-Some.is c.next.ensures.steps in
    let len = c.loop-row.invariant.2 in
    let capacity = c.loop-row.invariant.3 in
    omega (arith, t.0, len, capacity)

pub returns-clause-rows : goal.returns-clause-rows
returns-clause-rows c =
    let gives = c.into_iter-row-iterator.ensures.into_iter_gives in
    let all = YieldsList-end (YieldsList-from_vec {s = c.into_iter-row-iterator.result} c.args.rows.items gives.0 (gives.1 ∙ c.args.rows.ok.0)) c.loop-row.yielded c.loop-row.row-iterator c.loop-row.yielded_by c.next.result c.next.new.self
    c.in-None.is c.next.ensures.steps in
    c.loop-row.invariant.0 ∙ sym (map-id c.loop-row.yielded) ∙ all.0

pub loop-row-preserved : goal.loop-row-preserved
loop-row-preserved c =
    let IsOne = IsWorded c.args.prefixes.now c.args.fields.now in
    let words = subst (All IsOne) (sym {A = List WordedRow} c.push_reserved.ensures.items) (All-push IsOne _ _ c.loop-row.invariant.1 c.with_words.ensures.words) in
    let rows = ap (map row_of) c.push_reserved.ensures.items ∙ map-append row_of c.loop-row.all.items _ ∙ (λ i. c.loop-row.invariant.0 i ++ c.with_words.ensures.row i ∷ []) in
    (rows, words, c.push_reserved.ensures.len ∙ ap (λ n. n + 1) c.loop-row.invariant.2 ∙ sym (length-append c.loop-row.yielded _), c.push_reserved.ensures.capacity ∙ c.loop-row.invariant.3)
