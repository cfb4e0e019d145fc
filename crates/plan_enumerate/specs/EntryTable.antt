-- The entries that a table of plans keeps: for each plan, where it comes from.
use Rattle.std.specs.Prelude.{List, map}
use Rattle.plan_trees.specs.Plans.{PlanTree}
use Rattle.plan_enumerate.specs.declared.entries.Entry.{Entry}
use Rattle.plan_enumerate.specs.declared.entries.Origin.{Origin}

abbrev pub entry_of : PlanTree × Origin → Entry
entry_of row = record { plan = row.0; from = row.1.from; by = row.1.by }

abbrev pub entries_of : List (PlanTree × Origin) → List Entry
entries_of rows = map entry_of rows
