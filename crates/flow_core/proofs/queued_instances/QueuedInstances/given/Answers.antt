use Rattle.std.proofs.Common.{◌≡◌, ◌<◌, ℕ, ap, arith, get_or, length, ◌∙◌}
use Rattle.std.proofs.lemmas.List.{get_or_default}
use Rattle.pact_operators.specs.Allowed.{count_of}
use Rattle.flow_instance.specs.Spread.{sum_below}
use Rattle.flow_core.specs.QueuedInstances.{given_by, total_given}
use Rattle.flow_core.specs.Worlds.{QueuedInstanceData, no_queued_instance}
use Rattle.flow_core.proofs.PlacedRows.{sum_more}
use Rattle.flow_core.proofs.queued_instances.QueuedInstances.given.Goals as goal

pub loop-queued_instance-preserved : goal.loop-queued_instance-preserved
loop-queued_instance-preserved g c =
    let items = c.deref-queued_instance-items.result.now in
    let n = c.loop-queued_instance.queued_instance-index in
    let s = c.queued_instance-item.result in
    let less : n < length items = c.loop-queued_instance-test.true in
    let found : s ≡ get_or items n no_queued_instance = c.queued_instance-item.is ∙ get_or_default items n s no_queued_instance less in
    let given : c.given.result ≡ given_by items n = c.given.ensures ∙ ap (λ (x : QueuedInstanceData). x.instance.given) found in
    omega (arith, c.saturating_add-total.ensures, c.loop-queued_instance.invariant, given, sum_more n (given_by items))

pub returns : goal.returns
returns g c =
    let items = c.deref-queued_instance-items.result.now in
    let row = c.deref-queued_instance-items.ensures.value ∙ c.self.view_is in
    let all : c.loop-queued_instance.queued_instance-index ≡ length items = omega (arith, c.loop-queued_instance-test.false, c.loop-queued_instance.auto.queued_instance-index-end) in
    c.loop-queued_instance.invariant ∙ ap (λ (n : ℕ). count_of (sum_below n (given_by items))) all ∙ ap total_given row
