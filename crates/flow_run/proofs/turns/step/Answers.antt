use Rattle.std.proofs.Common.{slice_index_or, sym, ◌∙◌}
use Rattle.std.proofs.lemmas.List.{get_or_default}
use Rattle.flow_core.specs.Worlds.{no_instance}
use Rattle.flow_run.proofs.ReadyWorkers.{done_rest, may_take, put_fits, put_pipe, put_stepped, take_stepped}
use Rattle.flow_run.proofs.turns.step.Goals as goal

pub try_put-requires-clause-pipe : goal.try_put-requires-clause-pipe
try_put-requires-clause-pipe g c κs within =
    let is = c.args.instances.now in
    let i = slice_index_or is c.args.at c.index-instances-at.result in
    put_pipe c.requires.ready.setting g.W.Width.fields c.args.context.now.number c.args.pipes.now is c.args.puts.now c.args.takes.now c.requires.ready.ready c.args.at c.requires.at i
    (get_or_default is c.args.at c.index-instances-at.result no_instance c.requires.at) c.in-Put.to (sym c.want.ensures ∙ c.in-Put.is)

pub try_put-requires-clause-note : goal.try_put-requires-clause-note
try_put-requires-clause-note g c κs within =
    let is = c.args.instances.now in
    let i = slice_index_or is c.args.at c.index-instances-at.result in
    put_fits c.requires.ready.setting g.W.Width.fields c.args.context.now.number c.args.pipes.now is c.args.puts.now c.args.takes.now c.requires.ready.ready c.args.at c.requires.at i
    (get_or_default is c.args.at c.index-instances-at.result no_instance c.requires.at)

pub try_take-requires-clause-may : goal.try_take-requires-clause-may
try_take-requires-clause-may g c κs within =
    let is = c.args.instances.now in
    let i = slice_index_or is c.args.at c.index-instances-at.result in
    may_take c.requires.ready.setting g.W.Width.fields c.args.context.now.number c.args.pipes.now is c.args.puts.now c.args.takes.now c.requires.ready.ready c.args.at c.requires.at i
    (get_or_default is c.args.at c.index-instances-at.result no_instance c.requires.at) c.in-Take.port (sym c.want.ensures ∙ c.in-Take.is)

pub returns-in-Put-clause-stepped : goal.returns-in-Put-clause-stepped
returns-in-Put-clause-stepped g c =
    let is = c.args.instances.now in
    let i = slice_index_or is c.args.at c.index-instances-at.result in
    put_stepped c.requires.ready.setting g.W.Width.fields c.args.context.now.number c.args.pipes.now is c.args.puts.now c.args.takes.now c.requires.ready.ready c.args.at c.requires.at i
    (get_or_default is c.args.at c.index-instances-at.result no_instance c.requires.at) c.in-Put.to c.try_put.new.i c.try_put.new.puts c.try_put.result (sym c.want.ensures ∙ c.in-Put.is) c.try_put.ensures.attempt

pub returns-in-Take-clause-stepped : goal.returns-in-Take-clause-stepped
returns-in-Take-clause-stepped g c =
    let is = c.args.instances.now in
    let i = slice_index_or is c.args.at c.index-instances-at.result in
    take_stepped c.requires.ready.setting g.W.Width.fields c.args.context.now.number c.args.pipes.now is c.args.puts.now c.args.takes.now c.requires.ready.ready c.args.at c.requires.at i
    (get_or_default is c.args.at c.index-instances-at.result no_instance c.requires.at) c.in-Take.port c.try_take.new.i c.try_take.new.takes c.try_take.result (sym c.want.ensures ∙ c.in-Take.is) c.try_take.ensures.attempt

pub returns-in-Done-clause-stepped : goal.returns-in-Done-clause-stepped
returns-in-Done-clause-stepped g c =
    let is = c.args.instances.now in
    let i = slice_index_or is c.args.at c.index-instances-at.result in
    done_rest c.requires.ready.setting g.W.Width.fields c.args.context.now.number c.args.pipes.now is c.args.puts.now c.args.takes.now c.requires.ready.ready c.args.at c.requires.at i
    (get_or_default is c.args.at c.index-instances-at.result no_instance c.requires.at) (sym c.want.ensures ∙ c.in-Done.is)
