use Rattle.std.proofs.Common.{[], ap, arith, length, subst, sym, ◌∙◌}
use Rattle.std.proofs.lemmas.Result.{on_ok_weaker}
use Rattle.pact_operators.specs.Allowed.{Bag}
use Rattle.flow_instance.specs.Sending.{AreCarriedBut}
use Rattle.flow_instance.proofs.sending.queue_if_full.Goals as goal

pub returns-clause-queued : goal.returns-clause-queued
returns-clause-queued c =
    on_ok_weaker c.queue_batch.result (λ queued fields done old h.
    subst (λ (held : Bag). AreCarriedBut fields c.args.to done old c.queue_batch.new.queue.items held) (sym (c.replace-full.ensures.after ∙ c.in_ok-next.ensures))
    (queued fields done old (subst (λ (full : Bag). AreCarriedBut fields c.args.to done old c.args.queue.now.items full) (sym c.replace-full.ensures.value) h))) c.queue_batch.ensures.queued

pub returns-clause-few : goal.returns-clause-few
returns-clause-few c =
    on_ok_weaker c.queue_batch.result (λ queued. let none = ap length (c.replace-full.ensures.after ∙ c.in_ok-next.ensures) in omega (arith, none, c.requires)) c.queue_batch.ensures.queued

pub returns-clause-batches : goal.returns-clause-batches
returns-clause-batches c =
    on_ok_weaker c.queue_batch.result (λ batches most le few. batches most (omega (arith, le, ap length c.replace-full.ensures.value)) few) c.queue_batch.ensures.batches
