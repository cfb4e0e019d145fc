-- The output for groups of kept records.
use Rattle.std.specs.Prelude.{◌≡◌, ◌<◌, ◌++◌, ℕ, Bool, true, false, Some, List, [], ◌∷◌, length, slice_get}
use Rattle.std.specs.List.Sorted.{IsPermutation}
use Rattle.pact_bag.specs.Groups.{group_of_key}
use Rattle.pact_operators.specs.Allowed.{Bag, CoGrouped, Grouped, keys_in, keys_in_either}
use Rattle.pact_record.specs.Widths.{AreBelow, AreWide}
use Rattle.pact_record.specs.declared.values.Value.{Value}
use Rattle.tac_syntax.specs.Valid.{WithFields}
use Rattle.tac_syntax.specs.declared.functions.Kind.TheVariants.{CoGroup}
use Rattle.flow_instance.specs.declared.grouping.Side.{Side}
use Rattle.flow_instance.specs.declared.grouping.Side.TheVariants.{Left, Right}

-- the bag is the concatenation of one part for each key
abbrev pub EachGives : (List Value → Bag → Type 0) → List (List Value) → Bag → Type 0
EachGives Gives [] out = out ≡ []
EachGives Gives (k ∷ ks) out = (part : Bag) × (rest : Bag) × Gives k part × (out ≡ part ++ rest) × EachGives Gives ks rest

-- records that satisfy `Gives` were appended to a list
abbrev pub IsAppended : (Bag → Type 0) → (old new : Bag) → Type 0
IsAppended Gives old new = (part : Bag) × Gives part × (new ≡ old ++ part)

-- ---- one bag

-- the output of a call with the group of a key, whose records may be in any order
abbrev pub IsCalled : (List Value → Bag → Bag) → List ℕ → Bag → List Value → Bag → Type 0
IsCalled f keys rows k out = (group : Bag) × IsPermutation (group_of_key keys rows k) group × (out ≡ f k group)

-- the output of the calls for all keys, in some order
pub record AreGroupsGiven (f : List Value → Bag → Bag) (keys : List ℕ) (rows out : Bag) : Type 0 where
  pub other : Bag
  pub grouped : Grouped f keys rows (keys_in keys rows) other
  pub same : IsPermutation other out

-- ---- two bags

-- the function of a CoGroup, its keys, and the kept records of both sides
pub record AreSides (f : WithFields) (left_keys right_keys left_fields right_fields : List ℕ) (ls rs : Bag) : Type 0 where
  pub kind : f.function.kind ≡ CoGroup
  pub left_count : length left_keys ≡ f.function.keys
  pub right_count : length right_keys ≡ f.function.keys
  pub left_below : AreBelow f.fields left_keys
  pub right_below : AreBelow f.fields right_keys
  pub left_same : left_fields ≡ left_keys
  pub right_same : right_fields ≡ right_keys
  pub left_wide : AreWide f.fields ls
  pub right_wide : AreWide f.fields rs

-- the output of a call with both groups of a key, whose records may be in any order
abbrev pub IsCoCalled : (List Value → Bag → Bag → Bag) → (left_keys right_keys : List ℕ) → (ls rs : Bag) → List Value → Bag → Type 0
IsCoCalled f left_keys right_keys ls rs k out =
    (left : Bag) × (right : Bag) × IsPermutation (group_of_key left_keys ls k) left × IsPermutation (group_of_key right_keys rs k) right × (out ≡ f k left right)

-- whether there is no record
abbrev pub has_none : Bag → Bool
has_none [] = true
has_none (row ∷ rows) = false

-- the output of a call if the condition holds, and no record otherwise
abbrev pub IsCalledIf : Bool → (Bag → Type 0) → Bag → Type 0
IsCalledIf true Gives out = Gives out
IsCalledIf false Gives out = out ≡ []

-- the output of the call for a key of the right side, which is made only if the left side has no such key
abbrev pub IsCalledAlone : (List Value → Bag → Bag → Bag) → (left_keys right_keys : List ℕ) → (ls rs : Bag) → List Value → Bag → Type 0
IsCalledAlone f left_keys right_keys ls rs k out = IsCalledIf (has_none (group_of_key left_keys ls k)) (IsCoCalled f left_keys right_keys ls rs k) out

-- the output of a CoGroup, in some order
pub record AreCoGroupsGiven (f : List Value → Bag → Bag → Bag) (left_keys right_keys : List ℕ) (ls rs out : Bag) : Type 0 where
  pub other : Bag
  pub grouped : CoGrouped f left_keys right_keys ls rs (keys_in_either left_keys right_keys ls rs) other
  pub same : IsPermutation other out

-- ---- the keys of one side

-- Both groups of the key with a number, each in some order. This side's own group isn't empty.
pub record AreGroupsAt (keys other_keys : List ℕ) (rows others : Bag) (order : List (List Value)) (n : ℕ) (own other : Bag) : Type 0 where
  pub key : List Value
  pub is : slice_get order n ≡ Some key
  pub same : IsPermutation (group_of_key keys rows key) own
  pub some : 0 < length own
  pub other_same : IsPermutation (group_of_key other_keys others key) other

-- The output for both groups of a key. A key of the left side always has a call. A key of the right side has one only
-- if the left side lacks it.
abbrev pub IsGivenFrom : Side → (List Value → Bag → Bag → Bag) → List Value → (own other : Bag) → Bag → Type 0
IsGivenFrom Left f k own other out = out ≡ f k own other
IsGivenFrom Right f k own other out = IsCalledIf (has_none other) (λ given. given ≡ f k other own) out

-- The output of the call for a key of one side: of the left side, or of the right side only.
abbrev pub IsCalledFrom : Side → (List Value → Bag → Bag → Bag) → (keys other_keys : List ℕ) → (own others : Bag) → List Value → Bag → Type 0
IsCalledFrom Left f keys other_keys own others k out = IsCoCalled f keys other_keys own others k out
IsCalledFrom Right f keys other_keys own others k out = IsCalledAlone f other_keys keys others own k out
