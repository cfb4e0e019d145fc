use Rattle.std.proofs.Common.{Some, ap, length, sym, subst, ◌∙◌}
use Rattle.flow_run.specs.Tables.{IsChangedIn, IsShaped}
use Rattle.flow_run.specs.Wires.{IsMade, KeepInstances, puts_in, takes_in}
use Rattle.flow_run.proofs.WorkerLists.{as_many_kept, keep_both, made, written}
use Rattle.flow_run.proofs.wires.make.Goals as goal

pub returns-clause-made : goal.returns-clause-made
returns-clause-made g c =
    let vec = c.args.network.now.workers in
    let mid = c.give_put.new.workers in
    let new = c.give_take.new.workers in
    let id = c.args.id in
    let made_of = c.in_ok-pipe.ensures in
    let first = c.deref_mut.ensures.value in
    let mid_long = as_many_kept c.deref_mut.result.now mid c.give_put.ensures.kept ∙ ap length first in
    let back = written vec.len mid vec.items mid_long (sym vec.ok.0) in
    let second = c.deref_mut-2.ensures.value ∙ back in
    let end = written vec.len new _ (as_many_kept c.deref_mut-2.result.now new c.give_take.ensures.kept ∙ ap length c.deref_mut-2.ensures.value) (ap length back ∙ mid_long ∙ sym vec.ok.0) in
    subst (λ ws. IsMade c.args.depth id.edge id.from id.to c.args.network.now.pipes (puts_in vec.items) (takes_in vec.items) c.set.new.self (puts_in ws) (takes_in ws)) (sym end)
    (made c.in_ok-pipe.pipe c.in_ok-pipe.put c.in_ok-pipe.take c.args.depth id.edge id.from id.to c.args.network.now.pipes c.set.new.self vec.items mid new made_of.depth made_of.names made_of.empty c.set.ensures.changed
    (subst (λ ws. IsChangedIn (puts_in ws) id.from id.edge id.to (Some c.in_ok-pipe.put) (puts_in mid)) first c.give_put.ensures.changed)
    (c.give_put.ensures.takes ∙ ap takes_in first)
    (subst (λ ws. IsChangedIn (takes_in ws) id.to id.edge id.from (Some c.in_ok-pipe.take) (takes_in new)) second c.give_take.ensures.changed)
    (c.give_take.ensures.puts ∙ ap puts_in second))

pub returns-clause-put_places : goal.returns-clause-put_places
returns-clause-put_places g c = λ m n o shaped.
    let vec = c.args.network.now.workers in
    let mid = c.give_put.new.workers in
    let new = c.give_take.new.workers in
    let first = c.deref_mut.ensures.value in
    let mid_long = as_many_kept c.deref_mut.result.now mid c.give_put.ensures.kept ∙ ap length first in
    let back = written vec.len mid vec.items mid_long (sym vec.ok.0) in
    let second = c.deref_mut-2.ensures.value ∙ back in
    let end = written vec.len new _ (as_many_kept c.deref_mut-2.result.now new c.give_take.ensures.kept ∙ ap length c.deref_mut-2.ensures.value) (ap length back ∙ mid_long ∙ sym vec.ok.0) in
    subst (λ ws. IsShaped m n o (puts_in ws)) (sym end)
    (subst (IsShaped m n o) (sym (c.give_take.ensures.puts ∙ ap puts_in second))
    (c.give_put.ensures.places m n o (subst (λ ws. IsShaped m n o (puts_in ws)) (sym first) shaped)))

pub returns-clause-take_places : goal.returns-clause-take_places
returns-clause-take_places g c = λ m n o shaped.
    let vec = c.args.network.now.workers in
    let mid = c.give_put.new.workers in
    let new = c.give_take.new.workers in
    let first = c.deref_mut.ensures.value in
    let mid_long = as_many_kept c.deref_mut.result.now mid c.give_put.ensures.kept ∙ ap length first in
    let back = written vec.len mid vec.items mid_long (sym vec.ok.0) in
    let second = c.deref_mut-2.ensures.value ∙ back in
    let end = written vec.len new _ (as_many_kept c.deref_mut-2.result.now new c.give_take.ensures.kept ∙ ap length c.deref_mut-2.ensures.value) (ap length back ∙ mid_long ∙ sym vec.ok.0) in
    subst (λ ws. IsShaped m n o (takes_in ws)) (sym end)
    (c.give_take.ensures.places m n o (subst (IsShaped m n o) (sym (ap takes_in second ∙ c.give_put.ensures.takes ∙ ap takes_in first)) shaped))

pub returns-clause-kept : goal.returns-clause-kept
returns-clause-kept g c =
    let vec = c.args.network.now.workers in
    let mid = c.give_put.new.workers in
    let new = c.give_take.new.workers in
    let first = c.deref_mut.ensures.value in
    let mid_long = as_many_kept c.deref_mut.result.now mid c.give_put.ensures.kept ∙ ap length first in
    let back = written vec.len mid vec.items mid_long (sym vec.ok.0) in
    let second = c.deref_mut-2.ensures.value ∙ back in
    let end = written vec.len new _ (as_many_kept c.deref_mut-2.result.now new c.give_take.ensures.kept ∙ ap length c.deref_mut-2.ensures.value) (ap length back ∙ mid_long ∙ sym vec.ok.0) in
    subst (KeepInstances vec.items) (sym end)
    (keep_both vec.items mid new (subst (λ ws. KeepInstances ws mid) first c.give_put.ensures.kept) (subst (λ ws. KeepInstances ws new) second c.give_take.ensures.kept))
