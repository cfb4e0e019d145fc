-- Where records are, and which ships are legal.
use Rattle.std.specs.Prelude.{◌≡◌, ◌⊎◌, ◌||◌, ◌&&◌, ◌==◌, not, ℕ, Bool, true, false, cond, Option, Some, None, List}
use Rattle.std.specs.Cmp.Lexicographic.{pointwise}
use Rattle.std.specs.List.{AllByRecursion, list_any, list_all}
use Rattle.pact_record.specs.Keys.{is_listed}
use Rattle.tac_syntax.specs.Contexts.{FieldSet}
use Rattle.tac_syntax.specs.declared.declarations.OpKind.{OpKind}
use Rattle.tac_syntax.specs.declared.declarations.OpKind.TheVariants.{Map, Reduce, Match, Cross, CoGroup}
use Rattle.tac_flow.specs.Known.{either}
use Rattle.plan_trees.specs.declared.physicals.Ship.{Ship}
use Rattle.plan_trees.specs.declared.physicals.Ship.TheVariants.{Forward, Partition, Broadcast}
use Rattle.plan_trees.specs.Physicals.{PhysicalData, ship_of}
use Rattle.plan_trees.specs.Plans.{PlanTree, leaf, over, both}
use Rattle.ship_strategy.specs.Facts.{NodeFacts, Facts}

-- ---- placements

-- Each record is at the worker that its values at these fields determine. None means that nothing is known.
abbrev pub Placement : Type 0
Placement = Option (List ℕ)

-- a placement, if none of its fields is in the set
abbrev pub passed : FieldSet → Placement → Placement
passed bad None = None
passed bad (Some keys) = cond (list_any bad keys) None (Some keys)

-- the left one if there is one, the right one otherwise
abbrev pub first_of_both : Placement → Placement → Placement
first_of_both None other = other
first_of_both (Some keys) other = Some keys

-- the placement of an edge, from that of the operator that it leaves
abbrev pub edge_placement : Ship → Placement → Placement
edge_placement Forward below = below
edge_placement (Partition keys) below = Some keys
edge_placement Broadcast below = None

-- whether each worker gets every record
abbrev pub is_broadcast : Ship → Bool
is_broadcast Broadcast = true
is_broadcast ship = false

-- the placement of an operator of one input, from its edge's
abbrev pub placement_over : OpKind → FieldSet → Placement → Placement
placement_over Map writes edge = passed writes edge
placement_over Reduce writes edge = passed writes edge
placement_over kind writes edge = None

-- The placement of an operator that pairs each record of a side that goes everywhere with the records of the other
-- side: where the other side's records were.
abbrev pub placement_paired : (writes left right : FieldSet) → (left_all right_all : Bool) → (left_edge right_edge by_key : Placement) → Placement
placement_paired writes left right true right_all left_edge right_edge by_key = passed (either writes left) right_edge
placement_paired writes left right false true left_edge right_edge by_key = passed (either writes right) left_edge
placement_paired writes left right false false left_edge right_edge by_key = by_key

-- the placement of an operator with both sides by key
abbrev pub placement_of_keys : (writes left right : FieldSet) → (left_keys right_keys : List ℕ) → Placement
placement_of_keys writes left right left_keys right_keys = first_of_both (passed (either writes right) (Some left_keys)) (passed (either writes left) (Some right_keys))

-- the placement by these keys if the test is true, none otherwise
abbrev pub where_so : Bool → List ℕ → Placement
where_so true keys = Some keys
where_so false keys = None

-- the placement of a CoGroup
abbrev pub placement_anchored : FieldSet → Bool → Bool → (left_keys right_keys : List ℕ) → Placement
placement_anchored writes anchor_left anchor_right left_keys right_keys =
    first_of_both (passed writes (where_so anchor_left left_keys)) (passed writes (where_so anchor_right right_keys))

-- the placement of an operator of two inputs, from those of its edges
abbrev pub placement_both : OpKind → NodeFacts → (left_all right_all : Bool) → (left_edge right_edge : Placement) → Placement
placement_both Match x left_all right_all left_edge right_edge =
    placement_paired x.writes x.left x.right left_all right_all left_edge right_edge (placement_of_keys x.writes x.left x.right x.left_keys x.right_keys)
placement_both Cross x left_all right_all left_edge right_edge = placement_paired x.writes x.left x.right left_all right_all left_edge right_edge None
placement_both CoGroup x left_all right_all left_edge right_edge = placement_anchored x.writes x.anchor_left x.anchor_right x.left_keys x.right_keys
placement_both kind x left_all right_all left_edge right_edge = None

-- the placement of what an operator emits, from the ships of its edges and the placements below
abbrev pub placed_over : NodeFacts → Ship → Placement → Placement
placed_over x ship below = placement_over x.kind x.writes (edge_placement ship below)

-- the placement of what an operator of two inputs emits
abbrev pub placed_both : NodeFacts → (left_ship right_ship : Ship) → (left right : Placement) → Placement
placed_both x left_ship right_ship left right =
    placement_both x.kind x (is_broadcast left_ship) (is_broadcast right_ship) (edge_placement left_ship left) (edge_placement right_ship right)

-- the placement of the records that a tree's root emits
abbrev pub placement : Facts → PhysicalData → PlanTree → Placement
placement f p (leaf n) = None
placement f p (over n t) = placed_over (f n) (ship_of p t) (placement f p t)
placement f p (both n t u) = placed_both (f n) (ship_of p t) (ship_of p u) (placement f p t) (placement f p u)

-- ---- legal edges

-- Whether the edge of an operator of one input is legal. A Reduce has the records of a group at one worker if they are
-- placed by some of its keys.
abbrev pub IsLegalOver : OpKind → List ℕ → Bool → Placement → Type 0
IsLegalOver Map keys all edge = all ≡ false
IsLegalOver Reduce keys all edge = (fields : List ℕ) × (edge ≡ Some fields) × AllByRecursion (λ k. is_listed keys k ≡ true) fields
IsLegalOver kind keys all edge = ⊥

-- exactly one side is Broadcast
abbrev pub GoesEverywhere : Bool → Bool → Type 0
GoesEverywhere left_all right_all = ((left_all ≡ true) × (right_all ≡ false)) ⊎ ((left_all ≡ false) × (right_all ≡ true))

-- each side is placed by exactly its own keys
abbrev pub AreByKey : (left_keys right_keys : List ℕ) → (left_edge right_edge : Placement) → Type 0
AreByKey left_keys right_keys left_edge right_edge = (left_edge ≡ Some left_keys) × (right_edge ≡ Some right_keys)

-- whether the edges of an operator of two inputs are legal
abbrev pub IsLegalBoth : OpKind → (left_keys right_keys : List ℕ) → (left_all right_all : Bool) → (left_edge right_edge : Placement) → Type 0
IsLegalBoth Match left_keys right_keys left_all right_all left_edge right_edge = AreByKey left_keys right_keys left_edge right_edge ⊎ GoesEverywhere left_all right_all
IsLegalBoth Cross left_keys right_keys left_all right_all left_edge right_edge = GoesEverywhere left_all right_all
IsLegalBoth CoGroup left_keys right_keys left_all right_all left_edge right_edge = AreByKey left_keys right_keys left_edge right_edge
IsLegalBoth kind left_keys right_keys left_all right_all left_edge right_edge = ⊥

-- whether the edge is legal, from its ship and the placement below
abbrev pub AllowsOver : NodeFacts → Ship → Placement → Type 0
AllowsOver x ship below = IsLegalOver x.kind x.left_keys (is_broadcast ship) (edge_placement ship below)

-- whether the edges of an operator of two inputs are legal, from their ships and the placements below
abbrev pub AllowsBoth : NodeFacts → (left_ship right_ship : Ship) → (left right : Placement) → Type 0
AllowsBoth x left_ship right_ship left right =
    IsLegalBoth x.kind x.left_keys x.right_keys (is_broadcast left_ship) (is_broadcast right_ship) (edge_placement left_ship left) (edge_placement right_ship right)

-- every edge of the tree is legal
abbrev pub IsLegal : Facts → PhysicalData → PlanTree → Type 0
IsLegal f p (leaf n) = Unit {0}
IsLegal f p (over n t) = AllowsOver (f n) (ship_of p t) (placement f p t) × IsLegal f p t
IsLegal f p (both n t u) = AllowsBoth (f n) (ship_of p t) (ship_of p u) (placement f p t) (placement f p u) × IsLegal f p t × IsLegal f p u

-- every edge of the whole physical plan is legal
abbrev pub LegalShip : Facts → PhysicalData → Type 0
LegalShip f p = IsLegal f p p.tree

-- ---- the definitions above as tests

-- the edge has a placement, all of whose fields are among the keys
abbrev pub is_within : List ℕ → Placement → Bool
is_within keys None = false
is_within keys (Some fields) = list_all (is_listed keys) fields

-- two lists of keys are equal
abbrev pub same_keys : List ℕ → List ℕ → Bool
same_keys = pointwise ◌==◌

-- the edge's placement is exactly the keys
abbrev pub is_exactly : List ℕ → Placement → Bool
is_exactly keys None = false
is_exactly keys (Some fields) = same_keys fields keys

-- as `IsLegalOver`
abbrev pub legal_over : OpKind → List ℕ → Bool → Placement → Bool
legal_over Map keys all edge = not all
legal_over Reduce keys all edge = is_within keys edge
legal_over kind keys all edge = false

-- as `GoesEverywhere`
abbrev pub goes_everywhere : Bool → Bool → Bool
goes_everywhere true right_all = not right_all
goes_everywhere false right_all = right_all

-- as `AreByKey`
abbrev pub are_by_key : (left_keys right_keys : List ℕ) → (left_edge right_edge : Placement) → Bool
are_by_key left_keys right_keys left_edge right_edge = is_exactly left_keys left_edge && is_exactly right_keys right_edge

-- as `IsLegalBoth`
abbrev pub legal_both : OpKind → (left_keys right_keys : List ℕ) → (left_all right_all : Bool) → (left_edge right_edge : Placement) → Bool
legal_both Match left_keys right_keys left_all right_all left_edge right_edge = are_by_key left_keys right_keys left_edge right_edge || goes_everywhere left_all right_all
legal_both Cross left_keys right_keys left_all right_all left_edge right_edge = goes_everywhere left_all right_all
legal_both CoGroup left_keys right_keys left_all right_all left_edge right_edge = are_by_key left_keys right_keys left_edge right_edge
legal_both kind left_keys right_keys left_all right_all left_edge right_edge = false

-- as `AllowsOver` and `AllowsBoth`
abbrev pub allows_over : NodeFacts → Ship → Placement → Bool
allows_over x ship below = legal_over x.kind x.left_keys (is_broadcast ship) (edge_placement ship below)

abbrev pub allows_both : NodeFacts → (left_ship right_ship : Ship) → (left right : Placement) → Bool
allows_both x left_ship right_ship left right =
    legal_both x.kind x.left_keys x.right_keys (is_broadcast left_ship) (is_broadcast right_ship) (edge_placement left_ship left) (edge_placement right_ship right)

-- as `IsLegal`
abbrev pub is_legal : Facts → PhysicalData → PlanTree → Bool
is_legal f p (leaf n) = true
is_legal f p (over n t) = allows_over (f n) (ship_of p t) (placement f p t) && is_legal f p t
is_legal f p (both n t u) = allows_both (f n) (ship_of p t) (ship_of p u) (placement f p t) (placement f p u) && (is_legal f p t && is_legal f p u)
