use Rattle.std.proofs.Common.{◌↔◌, IsTrue, take}
use Rattle.pact_record.specs.Widths.{AreBelow}
use Rattle.pact_record.specs.declared.records.TheConstants.{MAX_FIELDS}
use Rattle.flow_instance.proofs.targets.are_below.Given as goal

abbrev pub invariant-loop-n : goal.invariant-loop-n
invariant-loop-n l = (IsTrue l.below ↔ AreBelow l.fields (take l.n l.keys)) × AreBelow MAX_FIELDS (take l.n l.keys)
