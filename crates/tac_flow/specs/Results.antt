-- The read, write and control sets of a function.
use Rattle.std.specs.Prelude.{◌≡◌, ◌≤◌, ◌⊎◌, ℕ, Bool, true, false, not, ◌&&◌, ◌||◌, nat_lt, Option, Some, None, List, [], ◌∷◌}
use Rattle.pact_record.specs.Keys.{is_listed}
use Rattle.tac_syntax.specs.declared.functions.Kind.{Kind}
use Rattle.tac_syntax.specs.declared.functions.Kind.TheVariants.{CoGroup}
use Rattle.tac_syntax.specs.Bounded.{Names}
use Rattle.tac_syntax.specs.Code.{Code}
use Rattle.tac_syntax.specs.Contexts.{Has}
use Rattle.tac_flow.specs.Known.{FieldSet, fields_below, Side, left, right, side_of, same_side}
use Rattle.tac_flow.specs.Steps.{Scope, start_state}
use Rattle.tac_flow.specs.Walks.{Note, decides, emits, notes}

-- ---- summaries of the notes

-- the fields in which some emitted record may differ from its base
abbrev pub writes_in : List Note → FieldSet
writes_in [] k = false
writes_in (decides d ∷ ns) k = writes_in ns k
writes_in (emits h ∷ ns) k = h.changed k || writes_in ns k

-- the fields below the number of fields in which each emitted record may differ from its base
abbrev pub common_in : ℕ → List Note → FieldSet
common_in fields [] k = nat_lt k fields
common_in fields (decides d ∷ ns) k = common_in fields ns k
common_in fields (emits h ∷ ns) k = h.changed k && common_in fields ns k

-- the fields that those depend on
abbrev pub depends_in : List Note → FieldSet
depends_in [] k = false
depends_in (decides d ∷ ns) k = depends_in ns k
depends_in (emits h ∷ ns) k = h.depends k || depends_in ns k

abbrev pub control_in : List Note → FieldSet
control_in [] k = false
control_in (decides d ∷ ns) k = d k || control_in ns k
control_in (emits h ∷ ns) k = control_in ns k

abbrev pub is_on : Side → Option Side → Bool
is_on side None = false
is_on side (Some other) = same_side side other

-- whether each emitted record's base is on the side
abbrev pub anchored_in : Side → List Note → Bool
anchored_in side [] = true
anchored_in side (decides d ∷ ns) = anchored_in side ns
anchored_in side (emits h ∷ ns) = is_on side (side_of h.base) && anchored_in side ns

-- ---- results

-- the fields that a function reads, writes and decides by, and the sides on which a CoGroup is anchored
pub record FoundSets : Type 0 where
  pub reads : FieldSet
  pub writes : FieldSet
  pub control : FieldSet
  pub anchor_left : Bool
  pub anchor_right : Bool

-- the summary of the notes
pub record Gathered : Type 0 where
  pub writes : FieldSet
  pub common : FieldSet
  pub depends : FieldSet
  pub control : FieldSet
  pub all_left : Bool
  pub all_right : Bool

abbrev pub summary : ℕ → List Note → Gathered
summary fields ns = record {
  writes = writes_in ns;
  common = common_in fields ns;
  depends = depends_in ns;
  control = control_in ns;
  all_left = anchored_in left ns;
  all_right = anchored_in right ns;
}

abbrev pub reads_by : Scope → Gathered → FieldSet
reads_by c g k = g.depends k || g.control k || is_listed c.left_keys k || is_listed c.right_keys k || (g.writes k && not (g.common k))

abbrev pub reads_in : Scope → List Note → FieldSet
reads_in c ns = reads_by c (summary c.fields ns)

-- the sets of a function that is anchored on these sides
abbrev pub anchored : Bool → Bool → Scope → Gathered → FoundSets
anchored l r c g = record { reads = reads_by c g; writes = g.writes; control = g.control; anchor_left = l; anchor_right = r }

-- a CoGroup that is anchored on neither side reads and writes all fields
abbrev pub by_anchors : Bool → Bool → Scope → Gathered → FoundSets
by_anchors false false c g = record { reads = fields_below c.fields; writes = fields_below c.fields; control = g.control; anchor_left = false; anchor_right = false }
by_anchors l r c g = anchored l r c g

abbrev pub found_by : Kind → Scope → Gathered → FoundSets
found_by CoGroup c g = by_anchors g.all_left g.all_right c g
found_by kind c g = anchored false false c g

abbrev pub notes_of : Scope → Code → List Note
notes_of c body = notes c [] body (start_state c)

abbrev pub sets_of : Scope → Code → FoundSets
sets_of c body = found_by c.kind c (summary c.fields (notes_of c body))

-- ---- what the sets are used for

-- A CoGroup is anchored on the sides that its sets name, and every other function is anchored.
abbrev pub IsAnchoredOn : Kind → Side → FoundSets → Type 0
IsAnchoredOn CoGroup left s = s.anchor_left ≡ true
IsAnchoredOn CoGroup right s = s.anchor_right ≡ true
IsAnchoredOn kind side s = Unit {0}

-- a CoGroup that is anchored on neither side
pub record IsAlone (kind : Kind) (s : FoundSets) : Type 0 where
  pub groups : kind ≡ CoGroup
  pub left : s.anchor_left ≡ false
  pub right : s.anchor_right ≡ false

-- A function touches what it reads, what it writes and what it names.
abbrev pub IsTouched : FoundSets → ℕ → Code → ℕ → Type 0
IsTouched s fields body k = Has s.reads k ⊎ Has s.writes k ⊎ Names fields k body

-- A Map emits exactly one record for each; or it emits at most one, and its control set has only key fields.
abbrev pub IsBoundToKeys : ℕ → ℕ → FieldSet → FieldSet → Type 0
IsBoundToKeys low high control keys = ((low ≡ 1) × (high ≡ 1)) ⊎ ((high ≤ 1) × ((k : ℕ) → Has control k → Has keys k))
