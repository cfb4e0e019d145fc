use Rattle.flow_run.proofs.runs.run_turns.Goals as goal

pub assign-requires-clause-started : goal.assign-requires-clause-started
assign-requires-clause-started g c κs within = record { inputs = c.args.inputs; size = c.args.options.batch; started = c.in_ok-list.ensures }

pub work_in_turn-requires-clause-ready : goal.work_in_turn-requires-clause-ready
work_in_turn-requires-clause-ready g c κs within = (c.in_ok-network.ensures c.args.inputs c.args.options.batch c.in_ok-list.ensures).ready

pub finish-requires-clause-returned : goal.finish-requires-clause-returned
finish-requires-clause-returned g c κs within = (c.in_ok-network.ensures c.args.inputs c.args.options.batch c.in_ok-list.ensures).returned c.in_ok-after.after.items c.in_ok-after.ensures

pub finish-requires-clause-local : goal.finish-requires-clause-local
finish-requires-clause-local g c κs within = record {
  inputs = c.args.inputs;
  are_inputs = c.requires.inputs;
  local = (c.in_ok-network.ensures c.args.inputs c.args.options.batch c.in_ok-list.ensures).local c.in_ok-after.after.items c.in_ok-after.ensures;
}

pub returns : goal.returns
returns g c =
    c.finish.ensures c.args.inputs c.requires.inputs ((c.in_ok-network.ensures c.args.inputs c.args.options.batch c.in_ok-list.ensures).local c.in_ok-after.after.items c.in_ok-after.ensures)
