use Rattle.std.proofs.Common.{refl}
use Rattle.flow_instance.proofs.FilledRecords.{filled_below, target-filled}
use Rattle.pact_record.specs.declared.records.TheConstants.{MAX_FIELDS}
use Rattle.flow_instance.proofs.targets.target.Goals as goal

pub target-requires-2-clause-below : goal.target-requires-2-clause-below
target-requires-2-clause-below c = filled_below _ MAX_FIELDS c.args.row.now c.in_ok-filled.filled c.args.keys.now c.in_ok-filled.ensures refl c.requires.fields

pub returns-clause-value : goal.returns-clause-value
returns-clause-value c = target-filled c.args.workers _ c.target-2.result c.args.keys.now c.args.row.now c.in_ok-filled.filled c.in_ok-filled.ensures c.target-2.ensures.value
