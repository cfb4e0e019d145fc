use Rattle.std.proofs.Common.{ap, length, refl, sym, ◌∙◌}
use Rattle.std.specs.Vec.{with_items}
use Rattle.std.proofs.lemmas.List.{with_items_is}
use Rattle.flow_run.proofs.ReadyWorkers.{has_worked}
use Rattle.flow_run.proofs.workers.work.Goals as goal

pub returns-else-is_err : goal.returns-else-is_err
returns-else-is_err g c =
    let w = c.args.worker.now in
    let new = c.turns-done.new in
    let done = c.turns-done.ensures in
    let value = c.deref_mut.ensures.value in
    let same = done.count ∙ ap length value ∙ sym w.instances.ok.0 in
    has_worked g.W.Width.fields c.args.pipes.now w (record { number = w.number; instances = with_items w.instances new.instances; puts = new.puts; takes = new.takes }) c.deref_mut.result.now new.instances c.turns-done.result value
    (with_items_is w.instances new.instances same) refl done.count done.ready done.stays done.works done.held
