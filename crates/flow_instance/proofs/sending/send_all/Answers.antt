use Rattle.std.proofs.Common.{◌≡◌, ◌+◌, ◌-◌, ℕ, List, refl, subst, sym, arith}
use Rattle.std.proofs.lemmas.Result.{on_ok_weaker}
use Rattle.pact_record.specs.Widths.{AreWide}
use Rattle.plan_trees.specs.declared.physicals.Ship.TheVariants.{Broadcast}
use Rattle.flow_instance.specs.Sending.{AreSentSoFar}
use Rattle.flow_instance.specs.declared.addressed_notes.AddressedNote.{AddressedNote}
use Rattle.flow_instance.proofs.NotesForReceivers.{all_sent, none_few, none_sent, sent_broadcast, sent_one}
use Rattle.flow_instance.proofs.sending.send_all.Goals as goal

pub loop-n-init : goal.loop-n-init
loop-n-init c = (λ fields wide. none_sent fields c.args.workers c.args.from Broadcast c.args.rows c.args.queue.now.items (λ _. c.args.rows) c.requires.none (λ to. sent_broadcast c.args.workers c.args.from to c.args.rows), none_few c.args.batch c.args.queue.now.items c.requires.none)

pub loop-n-preserved : goal.loop-n-preserved
loop-n-preserved c = (
  λ fields wide.
      let copy = c.in_ok-copy.field-0 in
      let to = c.receiver-to.result in
      sent_one fields c.args.workers c.args.from c.loop-n.n to Broadcast c.args.rows copy c.loop-n.queue.items c.send_to.new.queue.items (λ _. c.args.rows) (omega (arith, c.loop-n-test.true)) c.receiver-to.ensures.below c.receiver-to.ensures.turn refl
      c.in_ok-copy.ensures (c.in_ok-send_to.ensures.carried fields (subst (AreWide fields) (sym c.in_ok-copy.ensures) wide)) (c.loop-n.invariant.0 fields wide),
  c.in_ok-send_to.ensures.batches c.loop-n.invariant.1,
)

pub returns-clause-sent : goal.returns-clause-sent
returns-clause-sent c =
    let workers = c.args.workers in
    let last = workers - 1 in
    let next : last + 1 ≡ workers = omega (arith, c.requires.from) in
    let here : c.loop-n.n ≡ last = omega (arith, c.loop-n-test.false, c.loop-n.auto.n-end) in
    let to = c.receiver-to-2 in
    on_ok_weaker c.send_to-2.result (λ h fields wide.
    let sent : ℕ → List AddressedNote → Type 0 = λ n queue. AreSentSoFar fields workers Broadcast c.args.from n c.args.rows queue (λ _. c.args.rows) in
    let before = subst (λ (n : ℕ). sent n c.loop-n.queue.items) here (c.loop-n.invariant.0 fields wide) in
    all_sent fields workers c.args.from Broadcast c.args.rows c.send_to-2.new.queue.items (λ _. c.args.rows) c.requires.from (subst (λ (n : ℕ). sent n c.send_to-2.new.queue.items) next
    (sent_one fields workers c.args.from last to.result Broadcast c.args.rows c.args.rows c.loop-n.queue.items c.send_to-2.new.queue.items (λ _. c.args.rows) (omega (arith, next)) to.ensures.below to.ensures.turn refl
    refl (h fields wide) before))) c.send_to-2.ensures.carried

pub returns-clause-batches : goal.returns-clause-batches
returns-clause-batches c = on_ok_weaker c.send_to-2.result (λ h. h c.loop-n.invariant.1) c.send_to-2.ensures.batches
