-- What the analysis learns from each statement of one line.
use Rattle.std.specs.Prelude.{ℕ, zero, suc, ◌-◌, Bool, false, ◌&&◌, ◌||◌, ◌==◌, if◌then◌else◌, Option, Some, None, List, [], ◌∷◌, get_or, slice_set, replicate}
use Rattle.tac_syntax.specs.declared.functions.Kind.{Kind}
use Rattle.tac_syntax.specs.declared.functions.Kind.TheVariants.{Map, Match, Cross, Reduce, CoGroup}
use Rattle.tac_syntax.specs.declared.statements.Rec.{Rec}
use Rattle.tac_syntax.specs.declared.statements.Rec.TheVariants.{Reg, Loop, Input, Left, Right, Join, First}
use Rattle.tac_syntax.specs.Limits.{value_registers, record_registers}
use Rattle.tac_syntax.specs.Code.{Simple, load_int, load_text, load_null, move_value, get_field, get_at, get_key, apply_one, apply_two, new_record, copy_record, set_field, set_at, emit_record}
use Rattle.tac_flow.specs.Known.{FieldSet, no_fields, fields_below, only_field, with_field, without_field, either, less, Side, left, right, Base, first, bound, some, nowhere, Origin, field_of, key_at, unknown, same_base, side_of, names_one, Known, Held, State}

-- a function's kind and number of fields, and the fields and keys of either side
pub record Scope : Type 0 where
  pub kind : Kind
  pub fields : ℕ
  pub left : FieldSet
  pub right : FieldSet
  pub left_keys : List ℕ
  pub right_keys : List ℕ

-- ---- keys

abbrev pub keys_by : Kind → List ℕ → List ℕ → Side → List ℕ
keys_by Reduce ks js left = ks
keys_by CoGroup ks js left = ks
keys_by CoGroup ks js right = js
keys_by kind ks js side = []

-- the key that the records of a group share; those of a pair share none
abbrev pub keys_of : Scope → Side → List ℕ
keys_of c side = keys_by c.kind c.left_keys c.right_keys side

-- the list has the field at that position
abbrev pub is_key_at : List ℕ → ℕ → ℕ → Bool
is_key_at [] at field = false
is_key_at (k ∷ ks) zero field = field == k
is_key_at (k ∷ ks) (suc at) field = is_key_at ks at field

-- the fields with the key value of a position
abbrev pub key_deps : Scope → ℕ → FieldSet
key_deps c at k = is_key_at (keys_of c left) at k || is_key_at (keys_of c right) at k

-- the first position that has the field, if the list begins at position n; `other` if none has it
abbrev pub key_or : Origin → ℕ → List ℕ → ℕ → Origin
key_or other n [] field = other
key_or other n (k ∷ ks) field = if field == k then key_at n else key_or other (suc n) ks field

-- ---- records

abbrev pub fresh_by : Kind → ℕ → FieldSet → FieldSet → Held
fresh_by Map fields a b = record { base = first; changed = a; depends = no_fields }
fresh_by Match fields a b = record { base = first; changed = either a b; depends = no_fields }
fresh_by Cross fields a b = record { base = first; changed = either a b; depends = no_fields }
fresh_by Reduce fields a b = record { base = some left; changed = a; depends = no_fields }
fresh_by CoGroup fields a b = record { base = nowhere; changed = fields_below fields; depends = no_fields }

-- the empty record
abbrev pub fresh : Scope → Held
fresh c = fresh_by c.kind c.fields c.left c.right

abbrev pub unchanged : Base → Held
unchanged base = record { base = base; changed = no_fields; depends = no_fields }

abbrev pub value_at : State → ℕ → Known
value_at k n = get_or k.values n (record { deps = no_fields; origin = unknown })

abbrev pub record_at : ℕ → State → ℕ → Held
record_at fields k n = get_or k.records n (record { base = nowhere; changed = fields_below fields; depends = no_fields })

-- the record that a statement reads, if the surrounding loops are over these sides
abbrev pub held_of : Scope → List Side → State → Rec → Held
held_of c sides k (Reg n) = record_at c.fields k n
held_of c sides k (Loop name) = unchanged (bound name (get_or sides (name - 1) left))
held_of c sides k Input = unchanged first
held_of c sides k Left = record { base = first; changed = c.right; depends = no_fields }
held_of c sides k Right = record { base = first; changed = c.left; depends = no_fields }
held_of c sides k Join = unchanged first
held_of c sides k First = unchanged first

-- ---- get

abbrev pub origin_of : Scope → Base → ℕ → Origin
origin_of c first field = key_or (field_of first field) 0 (keys_of c left) field
origin_of c (bound name side) field = key_or (field_of (bound name side) field) 0 (keys_of c side) field
origin_of c (some side) field = key_or unknown 0 (keys_of c side) field
origin_of c nowhere field = unknown

abbrev pub read_from : Scope → Held → ℕ → Known
read_from c h field =
    if h.changed field then record { deps = h.depends; origin = unknown } else record { deps = only_field field; origin = origin_of c h.base field }

-- the fields in which the records of a side may have values; a Map's record is on the left, and a pair counts as one
-- record with the fields of both
abbrev pub fields_by : Kind → FieldSet → FieldSet → Side → FieldSet
fields_by Map a b side = a
fields_by Reduce a b side = a
fields_by CoGroup a b left = a
fields_by CoGroup a b right = b
fields_by kind a b side = either a b

abbrev pub fields_of : Scope → Side → FieldSet
fields_of c side = fields_by c.kind c.left c.right side

-- the fields of both sides in which a record equals its base
abbrev pub kept_of : Scope → Held → FieldSet
kept_of c h = less (either c.left c.right) h.changed

-- what a value depends on that is read from a record in a field that isn't known: the whole record
abbrev pub all_of : Scope → List Side → State → Rec → FieldSet
all_of c sides k (Reg n) = let h = record_at c.fields k n in either h.depends (kept_of c h)
all_of c sides k (Loop name) = fields_of c (get_or sides (name - 1) left)
all_of c sides k Input = c.left
all_of c sides k Left = c.left
all_of c sides k Right = c.right
all_of c sides k Join = either c.left c.right
all_of c sides k First = fields_of c left

-- ---- set

abbrev pub is_key_of : Scope → Option Side → ℕ → ℕ → Bool
is_key_of c (Some side) at field = is_key_at (keys_of c side) at field
is_key_of c None at field = false

-- whether a value is the base's own in that field
abbrev pub is_copy : Scope → Base → Origin → ℕ → Bool
is_copy c base (field_of other k) field = names_one base && same_base other base && (k == field)
is_copy c base (key_at at) field = is_key_of c (side_of base) at field
is_copy c base unknown field = false

abbrev pub written : Scope → Held → ℕ → Known → Held
written c h field v =
    if is_copy c h.base v.origin field then record h { changed = without_field field h.changed } else record h { changed = with_field field h.changed; depends = either h.depends v.deps }

-- A field that isn't known is set to a value: each field may have changed, and depends on the field's number, on the
-- value and on what was there.
abbrev pub written_at : Scope → Held → Known → Known → Held
written_at c h at v = record h { changed = fields_below c.fields; depends = either h.depends (either (either at.deps v.deps) (kept_of c h)) }

-- ---- steps

abbrev pub learns_value : State → ℕ → Known → State
learns_value k to v = record k { values = slice_set k.values to v }

abbrev pub learns_record : State → ℕ → Held → State
learns_record k to h = record k { records = slice_set k.records to h }

abbrev pub constant : Known
constant = record { deps = no_fields; origin = unknown }

abbrev pub transfer : Scope → List Side → Simple → State → State
transfer c sides (load_int to value) k = learns_value k to constant
transfer c sides (load_text to bytes) k = learns_value k to constant
transfer c sides (load_null to) k = learns_value k to constant
transfer c sides (move_value to from) k = learns_value k to (value_at k from)
transfer c sides (get_field to from field) k = learns_value k to (read_from c (held_of c sides k from) field)
transfer c sides (get_at to from at) k = learns_value k to (record { deps = either (value_at k at).deps (all_of c sides k from); origin = unknown })
transfer c sides (get_key to at) k = learns_value k to (record { deps = key_deps c at; origin = key_at at })
transfer c sides (apply_one to op a) k = learns_value k to (record { deps = (value_at k a).deps; origin = unknown })
transfer c sides (apply_two to op a b) k = learns_value k to (record { deps = either (value_at k a).deps (value_at k b).deps; origin = unknown })
transfer c sides (new_record to) k = learns_record k to (fresh c)
transfer c sides (copy_record to from) k = learns_record k to (held_of c sides k from)
transfer c sides (set_field to field value) k = learns_record k to (written c (record_at c.fields k to) field (value_at k value))
transfer c sides (set_at to at value) k = learns_record k to (written_at c (record_at c.fields k to) (value_at k at) (value_at k value))
transfer c sides (emit_record from) k = k

-- the state before the first statement
abbrev pub start_state : Scope → State
start_state c = record { values = replicate value_registers constant; records = replicate record_registers (fresh c) }
