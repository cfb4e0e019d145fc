-- The findings about a CoGroup in any context, composed from those in four. Whether a field is read, written or in the
-- control set depends only on whether the left input may hold that field and whether the right one may.
use Rattle.std.specs.Prelude.{◌≡◌, ◌-◌, ◌^◌, ℕ, Bool, true, false, Some, slice_get}
use Rattle.pact_record.specs.FieldSets.{has_field}
use Rattle.tac_syntax.specs.declared.contexts.Context.{Context}
use Rattle.tac_syntax.specs.declared.functions.Kind.{Kind}
use Rattle.tac_syntax.specs.declared.functions.Kind.TheVariants.{CoGroup}
use Rattle.tac_syntax.specs.Valid.{WithFields}
use Rattle.tac_flow.specs.Sharing.{takes_numbers}
use Rattle.pact_operators.specs.PlanOps.{function_in}
use Rattle.pact_operators.specs.Programs.{ProgramData}
use Rattle.reorder_pair.specs.declared.corners.Corners.{Corners}
use Rattle.reorder_pair.specs.declared.finding.Found.{Found}
use Rattle.reorder_pair.specs.Places.{IsFoundFor}

-- all fields below the bound, or none
abbrev pub whole : ℕ → Bool → ℕ
whole fields true = 2 ^ fields - 1
whole fields false = 0

-- the context with the same keys in which each input may hold all fields, or none
abbrev pub corner : ℕ → Bool → Bool → Context → Context
corner fields l r c = record c { left = whole fields l; right = whole fields r }

-- the finding at a field, by whether the left input and the right input may hold it
abbrev pub chosen : {A : Type 0} → Bool → Bool → A → A → A → A → A
chosen false false n l r b = n
chosen true false n l r b = l
chosen false true n l r b = r
chosen true true n l r b = b

-- A CoGroup has corners if some statement takes a field's number from a register. Corners are the contexts in which
-- each input may hold all fields, or none.
abbrev pub has_corners_by : Kind → Bool → Bool
has_corners_by CoGroup takes = takes
has_corners_by kind takes = false

abbrev pub has_corners : WithFields → Bool
has_corners f = has_corners_by f.function.kind (takes_numbers f.function.body)

-- the operator calls a function with corners
pub record IsCornered (p : ProgramData) (n : ℕ) : Type 0 where
  pub called : WithFields
  pub function : slice_get p.functions (function_in (slice_get p.ops n)) ≡ Some called
  pub corners : has_corners called ≡ true

-- the findings about the operator in each of the four corners
pub record AreCorners (p : ProgramData) (n : ℕ) (c : Context) (s : Corners) : Type 0 where
  pub neither : IsFoundFor p n (corner p.fields false false c) s.neither
  pub left : IsFoundFor p n (corner p.fields true false c) s.left
  pub right : IsFoundFor p n (corner p.fields false true c) s.right
  pub both : IsFoundFor p n (corner p.fields true true c) s.both

-- composed from the four, field by field
pub record IsComposed (c : Context) (s : Corners) (r : Found) : Type 0 where
  pub reads : (k : ℕ) → has_field r.sets.reads k ≡ chosen (has_field c.left k) (has_field c.right k) (has_field s.neither.sets.reads k) (has_field s.left.sets.reads k) (has_field s.right.sets.reads k) (has_field s.both.sets.reads k)
  pub writes : (k : ℕ) → has_field r.sets.writes k ≡ chosen (has_field c.left k) (has_field c.right k) (has_field s.neither.sets.writes k) (has_field s.left.sets.writes k) (has_field s.right.sets.writes k) (has_field s.both.sets.writes k)
  pub control : (k : ℕ) → has_field r.sets.control k ≡ chosen (has_field c.left k) (has_field c.right k) (has_field s.neither.sets.control k) (has_field s.left.sets.control k) (has_field s.right.sets.control k) (has_field s.both.sets.control k)
  pub touched : (k : ℕ) → has_field r.sets.touched k ≡ chosen (has_field c.left k) (has_field c.right k) (has_field s.neither.sets.touched k) (has_field s.left.sets.touched k) (has_field s.right.sets.touched k) (has_field s.both.sets.touched k)
  pub anchor_left : r.sets.anchor_left ≡ s.neither.sets.anchor_left
  pub anchor_right : r.sets.anchor_right ≡ s.neither.sets.anchor_right
  pub lo : r.lo ≡ s.neither.lo
  pub hi : r.hi ≡ s.neither.hi
