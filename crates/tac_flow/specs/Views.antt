-- The analysis's state as the code stores it.
use Rattle.std.specs.Prelude.{◌≡◌, ◌||◌, ℕ, List, map, take}
use Rattle.pact_record.specs.FieldSets.{has_field}
use Rattle.tac_flow.specs.declared.facts.ValueFacts.{ValueFacts}
use Rattle.tac_flow.specs.declared.facts.RecordFacts.{RecordFacts}
use Rattle.tac_flow.specs.declared.facts.Facts.{Facts}
use Rattle.tac_flow.specs.declared.scopes.Scope.{Scope as Inside}
use Rattle.tac_flow.specs.declared.sides.Sides.{Sides}
use Rattle.tac_flow.specs.Known.{Known, Held, State, Side}
use Rattle.tac_flow.specs.Steps.{Scope}
use Rattle.tac_syntax.specs.declared.functions.Function.{Function}
use Rattle.tac_syntax.specs.declared.contexts.Context.{Context}
use Rattle.tac_flow.specs.declared.found_sets.Sets.{Sets}
use Rattle.tac_flow.specs.Results.{FoundSets, sets_of}
use Rattle.tac_syntax.specs.Contexts.{Ports, ports}
use Rattle.tac_syntax.specs.Valid.{WithFields}

abbrev pub known_of : ValueFacts → Known
known_of v = record { deps = has_field v.deps; origin = v.origin }

abbrev pub held_of : RecordFacts → Held
held_of h = record { base = h.base; changed = has_field h.changed; depends = has_field h.depends }

abbrev pub state_of : Facts → State
state_of f = record { values = map known_of f.values; records = map held_of f.records }

abbrev pub scope_of : Inside → Scope
scope_of s = record {
  kind = s.kind;
  fields = s.fields;
  left = has_field s.context.left;
  right = has_field s.context.right;
  left_keys = s.context.left_keys;
  right_keys = s.context.right_keys;
}

abbrev pub sides_of : Sides → List Side
sides_of s = take s.count s.held

-- a function's scope in a context
abbrev pub scope_in : Function → ℕ → Context → Scope
scope_in f fields c = record { kind = f.kind; fields = fields; left = has_field c.left; right = has_field c.right; left_keys = c.left_keys; right_keys = c.right_keys }

abbrev pub found_of : Sets → FoundSets
found_of s = record {
  reads = has_field s.reads;
  writes = has_field s.writes;
  control = has_field s.control;
  anchor_left = s.anchor_left;
  anchor_right = s.anchor_right;
}

abbrev pub sets_in : WithFields → Context → FoundSets
sets_in f c = sets_of (scope_in f.function f.fields c) f.function.body

-- the touched fields are those that are read or written, and these
abbrev pub IsTouchedOf : Sets → ℕ → Type 0
IsTouchedOf s named = (k : ℕ) → has_field s.touched k ≡ (has_field s.reads k || has_field s.writes k || has_field named k)

abbrev pub ports_in : Scope → Ports
ports_in c = ports c.left c.right c.left_keys c.right_keys
