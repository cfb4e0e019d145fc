use Rattle.std.proofs.Common.{◌<◌, length, arith}
use Rattle.pact_top.proofs.IterationsRun.{few_numbered, iterated_read, source_read, source_within}
use Rattle.pact_top.proofs.repeating.run_rounds.Goals as goal

pub source_place-place-requires-clause-few : goal.source_place-place-requires-clause-few
source_place-place-requires-clause-few g c = few_numbered c.args.program.now c.ops-ops.result.now c.ops-ops.ensures.keeps c.ops-ops.ensures.ops

pub bounds-ops-at : goal.bounds-ops-at
bounds-ops-at g c = source_within c.args.program.now c.ops-ops.result.now c.args.at c.requires.source c.ops-ops.ensures.ops

pub offset_bounds-ops-at : goal.offset_bounds-ops-at
offset_bounds-ops-at g c =
    let within : c.args.at < length c.ops-ops.result.now = source_within c.args.program.now c.ops-ops.result.now c.args.at c.requires.source c.ops-ops.ensures.ops in
    let few = few_numbered c.args.program.now c.ops-ops.result.now c.ops-ops.ensures.keeps c.ops-ops.ensures.ops in
    omega (arith, within, few)

pub iterate-requires-clause-source : goal.iterate-requires-clause-source
iterate-requires-clause-source g c =
    source_read c.args.program.now c.ops-ops.result.now c.args.at c.source_place-place.result c.index-ops-at.result c.requires.source c.ops-ops.ensures.ops
    c.source_place-place.ensures

pub returns : goal.returns
returns g c =
    iterated_read c.args.program.now c.ops-ops.result.now c.args.at c.source_place-place.result c.index-ops-at.result c.requires.source c.ops-ops.ensures.ops
    c.source_place-place.ensures c.args.inputs c.args.limits.rounds c.args.limits.stable c.iterate.result c.iterate.ensures.rounds
