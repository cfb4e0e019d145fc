use Rattle.std.proofs.Common.{◌+◌, ◌<◌, ◌∷◌, [], ap, arith, length-append, subst, ℕ, ◌∙◌}
use Rattle.std.proofs.lemmas.Iterator.Adapters.{YieldsList-from_vec}
use Rattle.std.proofs.lemmas.Iterator.Consumers.{YieldsList-end, YieldsList-turn}
use Rattle.plan_trees.specs.Sending.{share_from}
use Rattle.flow_core.specs.Starting.{AreUnstarted}
use Rattle.flow_core.proofs.SharesOfRows.{own_may_start, own_share}
use Rattle.flow_core.proofs.StartedInstances.{unstarted_more}
use Rattle.flow_core.proofs.starting.unstarted_of.Goals as goal

pub new-requires-clause-worker : goal.new-requires-clause-worker
new-requires-clause-worker c =
    let gives = c.into_iter-share-iterator.ensures.into_iter_gives in
    let shares = c.in_ok-shares.shares in
    let t = YieldsList-turn (YieldsList-from_vec {s = c.into_iter-share-iterator.result} shares.items gives.0 (gives.1 ∙ shares.ok.0)) c.loop-share.yielded c.loop-share.share-iterator c.loop-share.yielded_by c.next.result c.next.new.self
    c.in-Some.share c.in-Some.is c.next.ensures.steps in
    let own = own_share c.workers-workers.result c.loop-share.worker c.args.rows c.in-Some.share shares.items c.loop-share.yielded c.in_ok-shares.ensures c.loop-share.invariant.0 t.0 t.1 in
    let may = own_may_start c.args.program.now c.args.at c.workers-workers.result c.loop-share.worker c.args.rows c.in-Some.share own c.requires.wide c.requires.none in
    subst (λ (n : ℕ). c.loop-share.worker < n) c.workers-workers.ensures.workers may.below

pub new-requires-clause-widths : goal.new-requires-clause-widths
new-requires-clause-widths c =
    let gives = c.into_iter-share-iterator.ensures.into_iter_gives in
    let shares = c.in_ok-shares.shares in
    let t = YieldsList-turn (YieldsList-from_vec {s = c.into_iter-share-iterator.result} shares.items gives.0 (gives.1 ∙ shares.ok.0)) c.loop-share.yielded c.loop-share.share-iterator c.loop-share.yielded_by c.next.result c.next.new.self
    c.in-Some.share c.in-Some.is c.next.ensures.steps in
    let own = own_share c.workers-workers.result c.loop-share.worker c.args.rows c.in-Some.share shares.items c.loop-share.yielded c.in_ok-shares.ensures c.loop-share.invariant.0 t.0 t.1 in
    let may = own_may_start c.args.program.now c.args.at c.workers-workers.result c.loop-share.worker c.args.rows c.in-Some.share own c.requires.wide c.requires.none in
    may.wide

pub new-requires-clause-no_rows : goal.new-requires-clause-no_rows
new-requires-clause-no_rows c =
    let gives = c.into_iter-share-iterator.ensures.into_iter_gives in
    let shares = c.in_ok-shares.shares in
    let t = YieldsList-turn (YieldsList-from_vec {s = c.into_iter-share-iterator.result} shares.items gives.0 (gives.1 ∙ shares.ok.0)) c.loop-share.yielded c.loop-share.share-iterator c.loop-share.yielded_by c.next.result c.next.new.self
    c.in-Some.share c.in-Some.is c.next.ensures.steps in
    let own = own_share c.workers-workers.result c.loop-share.worker c.args.rows c.in-Some.share shares.items c.loop-share.yielded c.in_ok-shares.ensures c.loop-share.invariant.0 t.0 t.1 in
    let may = own_may_start c.args.program.now c.args.at c.workers-workers.result c.loop-share.worker c.args.rows c.in-Some.share own c.requires.wide c.requires.none in
    may.none

pub push_reserved-requires : goal.push_reserved-requires
push_reserved-requires c =
    let gives = c.into_iter-share-iterator.ensures.into_iter_gives in
    let shares = c.in_ok-shares.shares in
    let t = YieldsList-turn (YieldsList-from_vec {s = c.into_iter-share-iterator.result} shares.items gives.0 (gives.1 ∙ shares.ok.0)) c.loop-share.yielded c.loop-share.share-iterator c.loop-share.yielded_by c.next.result c.next.new.self
    c.in-Some.share c.in-Some.is c.next.ensures.steps in
    let own = own_share c.workers-workers.result c.loop-share.worker c.args.rows c.in-Some.share shares.items c.loop-share.yielded c.in_ok-shares.ensures c.loop-share.invariant.0 t.0 t.1 in
    let may = own_may_start c.args.program.now c.args.at c.workers-workers.result c.loop-share.worker c.args.rows c.in-Some.share own c.requires.wide c.requires.none in
    omega (arith, own.below, c.loop-share.invariant.1, c.loop-share.invariant.2)

pub overflow_add-worker : goal.overflow_add-worker
overflow_add-worker c =
    let gives = c.into_iter-share-iterator.ensures.into_iter_gives in
    let shares = c.in_ok-shares.shares in
    let t = YieldsList-turn (YieldsList-from_vec {s = c.into_iter-share-iterator.result} shares.items gives.0 (gives.1 ∙ shares.ok.0)) c.loop-share.yielded c.loop-share.share-iterator c.loop-share.yielded_by c.next.result c.next.new.self
    c.in-Some.share c.in-Some.is c.next.ensures.steps in
    let own = own_share c.workers-workers.result c.loop-share.worker c.args.rows c.in-Some.share shares.items c.loop-share.yielded c.in_ok-shares.ensures c.loop-share.invariant.0 t.0 t.1 in
    let may = own_may_start c.args.program.now c.args.at c.workers-workers.result c.loop-share.worker c.args.rows c.in-Some.share own c.requires.wide c.requires.none in
    omega (arith, own.below)

pub loop-share-preserved : goal.loop-share-preserved
loop-share-preserved c =
    let gives = c.into_iter-share-iterator.ensures.into_iter_gives in
    let shares = c.in_ok-shares.shares in
    let t = YieldsList-turn (YieldsList-from_vec {s = c.into_iter-share-iterator.result} shares.items gives.0 (gives.1 ∙ shares.ok.0)) c.loop-share.yielded c.loop-share.share-iterator c.loop-share.yielded_by c.next.result c.next.new.self
    c.in-Some.share c.in-Some.is c.next.ensures.steps in
    let own = own_share c.workers-workers.result c.loop-share.worker c.args.rows c.in-Some.share shares.items c.loop-share.yielded c.in_ok-shares.ensures c.loop-share.invariant.0 t.0 t.1 in
    let may = own_may_start c.args.program.now c.args.at c.workers-workers.result c.loop-share.worker c.args.rows c.in-Some.share own c.requires.wide c.requires.none in
    let p = c.args.program.now in
    let q = c.args.physical.now in
    let k = c.loop-share.worker in (
      omega (arith, c.loop-share.invariant.0, length-append c.loop-share.yielded (c.in-Some.share ∷ [])),
      c.push_reserved.ensures.len ∙ ap (λ (n : ℕ). n + 1) c.loop-share.invariant.1,
      omega (arith, c.push_reserved.ensures.capacity, c.loop-share.invariant.2),
      unstarted_more p q c.args.batch c.args.at c.args.rows k c.loop-share.held.items _ _ c.push_reserved.ensures.items c.loop-share.invariant.3
          (record { share = c.in-Some.share; is_share = own.is ∙ ap (λ (n : ℕ). share_from 0 n k c.args.rows) c.workers-workers.ensures.workers; is = c.in_ok-unstarted.ensures }),
    )

pub returns : goal.returns
returns c =
    let gives = c.into_iter-share-iterator.ensures.into_iter_gives in
    let shares = c.in_ok-shares.shares in
    let all = YieldsList-end (YieldsList-from_vec {s = c.into_iter-share-iterator.result} shares.items gives.0 (gives.1 ∙ shares.ok.0)) c.loop-share.yielded c.loop-share.share-iterator c.loop-share.yielded_by c.next.result c.next.new.self
    c.in-None.is c.next.ensures.steps in
    let i = c.loop-share.invariant in
    let whole = i.0 ∙ all.1 ∙ c.in_ok-shares.ensures.long ∙ c.workers-workers.ensures.workers in
    subst (λ (n : ℕ). AreUnstarted c.args.program.now c.args.physical.now c.args.batch c.args.at c.args.rows n c.loop-share.held.items) whole i.3

pub new-requires-clause-plan : goal.new-requires-clause-plan
new-requires-clause-plan c = c.requires.plan

pub new-requires-clause-some : goal.new-requires-clause-some
new-requires-clause-some c = c.requires.batch

pub new-requires-clause-has : goal.new-requires-clause-has
new-requires-clause-has c = c.requires.plan.all c.args.at c.requires.at
