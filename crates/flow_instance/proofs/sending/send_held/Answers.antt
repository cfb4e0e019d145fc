use Rattle.std.proofs.Common.{◌≡◌, ◌<◌, ◌∙◌, ℕ, [], arith, get_or, length, refl, subst, sym}
use Rattle.std.proofs.lemmas.List.{get_or-set_other, length-set}
use Rattle.pact_record.specs.Widths.{AreWide}
use Rattle.plan_trees.specs.declared.physicals.Ship.TheVariants.{Partition}
use Rattle.flow_instance.specs.Sending.{AreSentSoFar}
use Rattle.flow_instance.proofs.NotesForReceivers.{all_sent, one_receiver, sent_one}
use Rattle.flow_instance.proofs.SplitRows.{held_is}
use Rattle.flow_instance.proofs.sending.send_held.Goals as goal

pub loop-n-init : goal.loop-n-init
loop-n-init c = (λ fields keys rows h. h.sent, λ few. few, c.requires.long, λ turn to _ _ _ _. refl)

pub loop-n-preserved : goal.loop-n-preserved
loop-n-preserved c =
    let workers = c.args.workers in
    let from = c.args.from in
    let n = c.loop-n.n in
    let to = c.receiver-to.result in
    let below = c.receiver-to.ensures.below in
    let turn = c.receiver-to.ensures.turn in
    let first = c.args.held.items in
    let held = c.loop-n.held.items in
    let early : n < workers = omega (arith, c.loop-n-test.true) in
    let less : to < length held = omega (arith, below, c.loop-n.invariant.2) in
    let own : c.replace-rows.result ≡ get_or first to [] =
    c.replace-rows.ensures.value ∙ held_is held to c.index_mut.result.now less c.index_mut.ensures.value ∙ c.loop-n.invariant.3 n to (omega arith) early below turn in (
      λ fields keys rows h.
          sent_one fields workers from n to (Partition keys) rows c.replace-rows.result c.loop-n.queue.items c.send_to.new.queue.items (λ t. get_or first t []) early below turn refl own
          (c.in_ok-send_to.ensures.carried fields (subst (AreWide fields) (sym own) (h.wide to))) (c.loop-n.invariant.0 fields keys rows h),
      λ few. c.in_ok-send_to.ensures.batches (c.loop-n.invariant.1 few),
      length-set held to c.replace-rows.new.dest ∙ c.loop-n.invariant.2,
      λ m t later ml tl its.
          get_or-set_other held to t c.replace-rows.new.dest [] (λ e. omega (arith, later, one_receiver workers from m n t to ml early tl below its turn e))
          ∙ c.loop-n.invariant.3 m t (omega (arith, later)) ml tl its,
    )

pub returns-clause-sent : goal.returns-clause-sent
returns-clause-sent c = λ fields keys rows h.
    let workers = c.args.workers in
    let held : ℕ → _ = λ to. get_or c.args.held.items to [] in
    let all : c.loop-n.n ≡ workers = omega (arith, c.loop-n-test.false, c.loop-n.auto.n-end) in
    all_sent fields workers c.args.from (Partition keys) rows c.loop-n.queue.items held c.requires.from
    (subst (λ (k : ℕ). AreSentSoFar fields workers (Partition keys) c.args.from k rows c.loop-n.queue.items held) all (c.loop-n.invariant.0 fields keys rows h))
