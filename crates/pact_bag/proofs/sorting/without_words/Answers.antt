use Rattle.std.proofs.Common.{arith, ap, sym, ◌∙◌, map}
use Rattle.std.proofs.lemmas.Iterator.Adapters.{YieldsList-from_vec}
use Rattle.std.proofs.lemmas.Iterator.Consumers.{YieldsList-end, YieldsList-turn}
use Rattle.std.proofs.lemmas.List.{map-id}
use Rattle.pact_bag.specs.WordedRows.{row_of}
use Rattle.pact_bag.proofs.sorting.without_words.Goals as goal

pub push_reserved-requires : goal.push_reserved-requires
push_reserved-requires c =
    let gives = c.into_iter-worded-iterator.ensures.into_iter_gives in
    let t = YieldsList-turn (YieldsList-from_vec {s = c.into_iter-worded-iterator.result} c.args.all.items gives.0 (gives.1 ∙ c.args.all.ok.0)) c.loop-worded.yielded c.loop-worded.worded-iterator c.loop-worded.yielded_by c.next.result c.next.new.self
    c.in-Some.worded c.in-Some.is c.next.ensures.steps in
    let len = c.loop-worded.invariant.1 in
    let capacity = c.loop-worded.invariant.2 in
    omega (arith, t.0, len, capacity)

pub returns : goal.returns
returns c =
    let gives = c.into_iter-worded-iterator.ensures.into_iter_gives in
    let all = YieldsList-end (YieldsList-from_vec {s = c.into_iter-worded-iterator.result} c.args.all.items gives.0 (gives.1 ∙ c.args.all.ok.0)) c.loop-worded.yielded c.loop-worded.worded-iterator c.loop-worded.yielded_by c.next.result c.next.new.self
    c.in-None.is c.next.ensures.steps in
    c.loop-worded.invariant.0 ∙ ap (map row_of) (sym (map-id c.loop-worded.yielded) ∙ all.0)
