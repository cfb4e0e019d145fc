-- The layouts of a plan.
use Rattle.std.specs.Prelude.{◌≡◌, ◌<◌, ◌+◌, ◌*◌, ◌/◌, ◌%◌, ◌==◌, ℕ, zero, suc, if◌then◌else◌, None, List, [], ◌∷◌}
use Rattle.tac_syntax.specs.declared.declarations.OpKind.{OpKind}
use Rattle.tac_syntax.specs.declared.declarations.OpKind.TheVariants.{Reduce, Match, Cross}
use Rattle.plan_trees.specs.declared.physicals.Ship.{Ship}
use Rattle.plan_trees.specs.declared.physicals.Ship.TheVariants.{Forward, Partition, Broadcast}
use Rattle.plan_trees.specs.Physicals.{PhysicalData, forwarded, ship_of, with_ship}
use Rattle.plan_trees.specs.Plans.{PlanTree, leaf, over, both, root_of}
use Rattle.pact_operators.specs.declared.operators.Op.{Op}
use Rattle.pact_operators.specs.PlanOps.{kind_at}
use Rattle.ship_strategy.specs.declared.ways.Way.{Way}
use Rattle.ship_strategy.specs.declared.ways.Way.TheVariants.{ByKey, LeftEverywhere, RightEverywhere}
use Rattle.ship_strategy.specs.Facts.{Facts}
use Rattle.ship_strategy.specs.Ships.{Placement, placement, placed_over, placed_both, is_exactly, is_within}

-- ---- choices

-- how many choices an operator of a kind has
abbrev pub choices_of : OpKind → ℕ
choices_of Match = 3
choices_of Cross = 2
choices_of kind = 1

-- the number of lists of choices, one for each source and operator
abbrev pub layout_count : List Op → ℕ
layout_count [] = 1
layout_count (op ∷ ops) = choices_of op.kind * layout_count ops

-- The lists of choices are numbered in order, with the last choice varying fastest. `left_over` is what is left of a
-- number for the choices before these, and `choice_at` is the choice at a place.
abbrev pub left_over : List Op → ℕ → ℕ
left_over [] number = number
left_over (op ∷ ops) number = left_over ops number / choices_of op.kind

-- the remainder of the division at the place
abbrev pub choice_at : List Op → ℕ → ℕ → ℕ
choice_at [] number n = 0
choice_at (op ∷ ops) number zero = left_over ops number % choices_of op.kind
choice_at (op ∷ ops) number (suc n) = choice_at ops number n

-- the way that an operator's choice selects
abbrev pub way_of : OpKind → ℕ → Way
way_of Match choice = if choice == 0 then ByKey else (if choice == 1 then LeftEverywhere else RightEverywhere)
way_of Cross choice = if choice == 0 then LeftEverywhere else RightEverywhere
way_of kind choice = ByKey

-- the way of each operator, by its number
abbrev pub ways_of : List Op → ℕ → ℕ → Way
ways_of ops number n = way_of (kind_at ops n) (choice_at ops number n)

-- ---- ships

-- by key, a side stays if its placement is exactly its keys
abbrev pub ship_by_key : List ℕ → Placement → Ship
ship_by_key keys below = if is_exactly keys below then Forward else Partition keys

-- how the left input travels
abbrev pub left_ship : Way → List ℕ → Placement → Ship
left_ship ByKey keys below = ship_by_key keys below
left_ship LeftEverywhere keys below = Broadcast
left_ship RightEverywhere keys below = Forward

-- how the right input travels
abbrev pub right_ship : Way → List ℕ → Placement → Ship
right_ship ByKey keys below = ship_by_key keys below
right_ship LeftEverywhere keys below = Forward
right_ship RightEverywhere keys below = Broadcast

-- a Reduce's input stays if that is legal
abbrev pub only_ship : OpKind → List ℕ → Placement → Ship
only_ship Reduce keys below = if is_within keys below then Forward else Partition keys
only_ship kind keys below = Forward

-- ---- layouts

-- the placement of the records that a tree's root emits, if each operator has its way
abbrev pub planned : Facts → (ℕ → Way) → PlanTree → Placement
planned f w (leaf n) = None
planned f w (over n t) = placed_over (f n) (only_ship (f n).kind (f n).left_keys (planned f w t)) (planned f w t)
planned f w (both n t u) =
    placed_both (f n) (left_ship (w n) (f n).left_keys (planned f w t)) (right_ship (w n) (f n).right_keys (planned f w u)) (planned f w t) (planned f w u)

-- a physical plan with the ships of the tree's edges
abbrev pub laid : Facts → (ℕ → Way) → PlanTree → PhysicalData → PhysicalData
laid f w (leaf n) p = p
laid f w (over n t) p = with_ship (laid f w t p) (root_of t) (only_ship (f n).kind (f n).left_keys (planned f w t))
laid f w (both n t u) p =
    with_ship (with_ship (laid f w u (laid f w t p)) (root_of t) (left_ship (w n) (f n).left_keys (planned f w t)))
    (root_of u) (right_ship (w n) (f n).right_keys (planned f w u))

-- the layout with a number
abbrev pub layout_of : Facts → List Op → PlanTree → ℕ → ℕ → PhysicalData
layout_of f ops tree number workers = laid f (ways_of ops number) tree (forwarded tree workers)

-- Each edge of the tree has the ship that the ways choose for the physical plan's own placements.
abbrev pub IsLaidOut : Facts → (ℕ → Way) → PhysicalData → PlanTree → Type 0
IsLaidOut f w p (leaf n) = Unit {0}
IsLaidOut f w p (over n t) = (ship_of p t ≡ only_ship (f n).kind (f n).left_keys (placement f p t)) × IsLaidOut f w p t
IsLaidOut f w p (both n t u) =
    (ship_of p t ≡ left_ship (w n) (f n).left_keys (placement f p t)) × (ship_of p u ≡ right_ship (w n) (f n).right_keys (placement f p u)) × IsLaidOut f w p t × IsLaidOut f w p u

-- ---- the order of the lists of choices

-- the choices of a number, one for each source and operator
abbrev pub choices : List Op → ℕ → List ℕ
choices [] number = []
choices (op ∷ ops) number = left_over ops number % choices_of op.kind ∷ choices ops number

-- one choice for each, below the number that its kind has
abbrev pub AreChoices : List Op → List ℕ → Type 0
AreChoices [] [] = Unit {0}
AreChoices (op ∷ ops) (c ∷ cs) = (c < choices_of op.kind) × AreChoices ops cs
AreChoices ops cs = ⊥

-- The number of lists of choices that come before a list: those with a smaller first choice, and those with the same
-- first choice whose rest comes before its rest.
abbrev pub place_of : List Op → List ℕ → ℕ
place_of (op ∷ ops) (c ∷ cs) = c * layout_count ops + place_of ops cs
place_of ops cs = 0
