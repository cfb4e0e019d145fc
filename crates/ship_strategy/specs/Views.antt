-- The contents of tables, by number.
use Rattle.std.specs.Prelude.{◌==◌, ◌%◌, ℕ, suc, false, Option, Some, None, slice_get, get_or, List, [], ◌∷◌, if◌then◌else◌}
use Rattle.pact_record.specs.FieldSets.{has_field}
use Rattle.tac_syntax.specs.declared.contexts.Context.{Context}
use Rattle.tac_syntax.specs.declared.declarations.OpKind.{OpKind}
use Rattle.tac_syntax.specs.declared.declarations.OpKind.TheVariants.{Source}
use Rattle.tac_flow.specs.Known.{no_fields}
use Rattle.tac_flow.specs.Results.{FoundSets}
use Rattle.pact_operators.specs.declared.operators.Op.{Op}
use Rattle.ship_strategy.specs.declared.tables.OpFacts.{OpFacts}
use Rattle.ship_strategy.specs.declared.tables.Table.{Table}
use Rattle.ship_strategy.specs.declared.ways.Way.{Way}
use Rattle.ship_strategy.specs.declared.ways.Way.TheVariants.{ByKey}
use Rattle.ship_strategy.specs.declared.ways.Ways.{Ways}
use Rattle.ship_strategy.specs.Facts.{NodeFacts, Facts}
use Rattle.ship_strategy.specs.Layouts.{choices_of, left_over, way_of}

-- the facts of an operator, with its sets as functions
abbrev pub known_of : OpFacts → NodeFacts
known_of x = record {
  kind = x.kind;
  left_keys = x.left_keys;
  right_keys = x.right_keys;
  left = has_field x.left;
  right = has_field x.right;
  writes = has_field x.writes;
  anchor_left = x.anchor_left;
  anchor_right = x.anchor_right;
}

-- the facts of an operator of a kind in a context, with these findings
abbrev pub known_by : OpKind → Context → FoundSets → NodeFacts
known_by kind c s = record {
  kind = kind;
  left_keys = c.left_keys;
  right_keys = c.right_keys;
  left = has_field c.left;
  right = has_field c.right;
  writes = s.writes;
  anchor_left = s.anchor_left;
  anchor_right = s.anchor_right;
}

-- what is known if there is no operator
abbrev pub unknown : NodeFacts
unknown = record {
  kind = Source;
  left_keys = [];
  right_keys = [];
  left = no_fields;
  right = no_fields;
  writes = no_fields;
  anchor_left = false;
  anchor_right = false;
}

-- the facts of an operator, or those without one
abbrev pub known_in : Option OpFacts → NodeFacts
known_in None = unknown
known_in (Some x) = known_of x

-- what a table says, by number
abbrev pub facts_in : Table → Facts
facts_in t n = known_in (slice_get t.nodes n)

-- the facts with those of one number replaced
abbrev pub put : ℕ → NodeFacts → Facts → Facts
put at x old k = if k == at then x else old k

abbrev pub ways_in : Ways → ℕ → Way
ways_in w n = get_or w.held n ByKey

-- the ways, with those of the operators from a place on chosen by a number
abbrev pub chosen_from : ℕ → List Op → ℕ → (ℕ → Way) → ℕ → Way
chosen_from at [] number w k = w k
chosen_from at (op ∷ ops) number w k = if k == at then way_of op.kind (left_over ops number % choices_of op.kind) else chosen_from (suc at) ops number w k
