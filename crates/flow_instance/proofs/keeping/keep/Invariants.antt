use Rattle.std.specs.Prelude.{filter}
use Rattle.flow_instance.specs.Keeping.{IsKept, may_match}
use Rattle.flow_instance.proofs.keeping.keep.Given as goal

abbrev pub invariant-loop-row : goal.invariant-loop-row
invariant-loop-row g l = IsKept g.L.Local.rows g.L.Local.key_fields g.L.Local.is_sealed l.fields (filter (may_match l.nulls l.keys) l.yielded) l.fn.kept l.kept
