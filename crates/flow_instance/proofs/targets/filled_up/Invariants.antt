use Rattle.std.proofs.Common.{◌≡◌, ◌++◌, ◌-◌, replicate, take}
use Rattle.pact_record.specs.declared.records.TheConstants.{MAX_FIELDS}
use Rattle.pact_record.specs.declared.values.Value.TheVariants.{Null}
use Rattle.flow_instance.proofs.targets.filled_up.Given as goal

abbrev pub invariant-loop-field : goal.invariant-loop-field
invariant-loop-field l = l.filled ≡ take l.field l.row ++ replicate (MAX_FIELDS - l.field) Null
