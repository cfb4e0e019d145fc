-- What the analysis knows of a state of a call.
use Rattle.std.specs.Prelude.{ℕ, Bool, true, false, not, ◌&&◌, ◌||◌, ◌==◌, nat_lt, if◌then◌else◌, Option, Some, None, List, [], ◌∷◌, map}
pub use Rattle.tac_syntax.specs.Contexts.{FieldSet}
pub use Rattle.tac_syntax.specs.declared.contexts.Side.{Side}
pub use Rattle.tac_syntax.specs.declared.contexts.Side.TheVariants.{Left as left, Right as right}
pub use Rattle.tac_flow.specs.declared.bases.Base.{Base}
pub use Rattle.tac_flow.specs.declared.bases.Base.TheVariants.{First as first, Bound as bound, Any as some, Nowhere as nowhere}
pub use Rattle.tac_flow.specs.declared.bases.Origin.{Origin}
pub use Rattle.tac_flow.specs.declared.bases.Origin.TheVariants.{Field as field_of, Key as key_at, Unknown as unknown}

-- ---- sets of fields

abbrev pub no_fields : FieldSet
no_fields k = false

abbrev pub fields_below : ℕ → FieldSet
fields_below count k = nat_lt k count

abbrev pub only_field : ℕ → FieldSet
only_field field k = k == field

abbrev pub with_field : ℕ → FieldSet → FieldSet
with_field field s k = (k == field) || s k

abbrev pub without_field : ℕ → FieldSet → FieldSet
without_field field s k = not (k == field) && s k

abbrev pub either : FieldSet → FieldSet → FieldSet
either s t k = s k || t k

abbrev pub less : FieldSet → FieldSet → FieldSet
less s t k = s k && not (t k)

-- ---- records of the input

-- A side is a group of a CoGroup; the records of every other kind are on the left. A base is the record that a
-- register's record began as: the first one (the only one for a kind without groups), the one bound to a loop's name,
-- some record of a side, or none. An origin is what a value is known to equal: a field of a named record, or a key
-- value.
abbrev pub same_side : Side → Side → Bool
same_side left left = true
same_side right right = true
same_side a b = false

abbrev pub same_base : Base → Base → Bool
same_base first first = true
same_base (bound name side) (bound other s) = (name == other) && same_side side s
same_base (some side) (some s) = same_side side s
same_base nowhere nowhere = true
same_base a b = false

abbrev pub same_origin : Origin → Origin → Bool
same_origin (field_of base field) (field_of other k) = same_base base other && (field == k)
same_origin (key_at at) (key_at n) = at == n
same_origin unknown unknown = true
same_origin a b = false

abbrev pub side_of : Base → Option Side
side_of first = Some left
side_of (bound name side) = Some side
side_of (some side) = Some side
side_of nowhere = None

-- whether a base names one record
abbrev pub names_one : Base → Bool
names_one first = true
names_one (bound name side) = true
names_one base = false

-- ---- registers

-- what is known of a value: the fields that it depends on, and its origin
pub record Known : Type 0 where
  pub deps : FieldSet
  pub origin : Origin

-- what is known of a record: its base, the fields in which it may differ from that, and the fields that those depend on
pub record Held : Type 0 where
  pub base : Base
  pub changed : FieldSet
  pub depends : FieldSet

pub record State : Type 0 where
  pub values : List Known
  pub records : List Held

-- ---- joins

abbrev pub met : Option Side → Option Side → Base
met (Some a) (Some b) = if same_side a b then some a else nowhere
met a b = nowhere

abbrev pub joined_base : Base → Base → Base
joined_base a b = if same_base a b then a else met (side_of a) (side_of b)

abbrev pub joined_origin : Origin → Origin → Origin
joined_origin a b = if same_origin a b then a else unknown

abbrev pub joined_known : Known → Known → Known
joined_known a b = record { deps = either a.deps b.deps; origin = joined_origin a.origin b.origin }

-- every field if there is no base
abbrev pub changed_from : ℕ → Base → FieldSet → FieldSet
changed_from fields nowhere s = fields_below fields
changed_from fields base s = s

-- a field that is changed in only one of the two depends on itself
abbrev pub joined_held : ℕ → Held → Held → Held
joined_held fields a b =
    let base = joined_base a.base b.base in
    let changed = changed_from fields base (either a.changed b.changed) in
    record { base = base; changed = changed; depends = either (either a.depends b.depends) (either (less changed a.changed) (less changed b.changed)) }

-- place by place
abbrev pub zipped : {A : Type 0} → (A → A → A) → List A → List A → List A
zipped f [] ys = []
zipped f (x ∷ xs) [] = []
zipped f (x ∷ xs) (y ∷ ys) = f x y ∷ zipped f xs ys

abbrev pub joined_values : List Known → List Known → List Known
joined_values xs ys = zipped joined_known xs ys

abbrev pub joined_records : ℕ → List Held → List Held → List Held
joined_records fields xs ys = zipped (joined_held fields) xs ys

abbrev pub joined : ℕ → State → State → State
joined fields a b = record { values = joined_values a.values b.values; records = joined_records fields a.records b.records }

-- ---- a loop's name is bound again

abbrev pub dropped_base : ℕ → Base → Base
dropped_base name (bound n side) = if n == name then some side else bound n side
dropped_base name base = base

abbrev pub names_loop : ℕ → Base → Bool
names_loop name (bound n side) = n == name
names_loop name base = false

abbrev pub dropped_origin : ℕ → Origin → Origin
dropped_origin name (field_of base field) = if names_loop name base then unknown else field_of base field
dropped_origin name origin = origin

abbrev pub dropped_known : ℕ → Known → Known
dropped_known name v = record v { origin = dropped_origin name v.origin }

abbrev pub dropped_held : ℕ → Held → Held
dropped_held name h = record h { base = dropped_base name h.base }

abbrev pub dropped_values : ℕ → List Known → List Known
dropped_values name xs = map (dropped_known name) xs

abbrev pub dropped_records : ℕ → List Held → List Held
dropped_records name xs = map (dropped_held name) xs

abbrev pub dropped : ℕ → State → State
dropped name k = record { values = dropped_values name k.values; records = dropped_records name k.records }
