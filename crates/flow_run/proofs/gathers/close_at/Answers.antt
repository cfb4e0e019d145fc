use Rattle.std.proofs.Common.{ap, sym, ◌∙◌, ◌++◌}
use Rattle.std.specs.Prelude.{Option}
use Rattle.std.proofs.lemmas.Result.{on_ok_weaker}
use Rattle.batch_channel.specs.Ends.{AnEnd}
use Rattle.flow_run.specs.Ends.{notes_in}
use Rattle.flow_run.specs.Workers.{all_data}
use Rattle.flow_run.proofs.Closing.{goes_closed}
use Rattle.flow_run.proofs.EndsOut.{both_out}
use Rattle.flow_run.proofs.gathers.close_at.Goals as goal

pub returns-clause-goes : goal.returns-clause-goes
returns-clause-goes g c =
    let id = c.args.id in
    let ws = all_data c.args.workers.now in
    let mid = all_data c.put_end-put.new.workers in
    let last = all_data c.take_end-take.new.workers in
    let out = c.put_end-put.ensures.out in
    let whole = ap notes_in (sym c.put_end-put.ensures.end) ∙ c.in_ok-notes.ensures
    ∙ ap (λ (o : Option AnEnd). notes_in o ++ c.in_ok-notes.notes.items) (c.take_end-take.ensures.end ∙ out.takes id.edge id.from id.to) in
    on_ok_weaker c.list_left.result
    (λ done. goes_closed c.args.pipes.now c.take.new.self ws last c.args.lists.now c.list_left.new.lists id c.in-Some.pipe c.in_ok-notes.notes.items c.take.ensures.changed (sym c.take.ensures.found ∙ c.in-Some.is) c.requires
    (both_out ws mid last id.edge id.from id.to out c.take_end-take.ensures.out) whole done) c.list_left.ensures
