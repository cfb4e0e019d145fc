-- The ships that a layout chooses are legal, kind by kind.
use Rattle.std.proofs.Common.{◌≡◌, inl, inr, ℕ, true, List, refl}
use Rattle.std.specs.Prelude.{Some}
use Rattle.std.specs.List.{AllByRecursion}
use Rattle.std.proofs.lemmas.Bool.{cases_Bool}
use Rattle.pact_record.specs.Keys.{is_listed}
use Rattle.tac_syntax.specs.declared.declarations.OpKind.{OpKind}
use Rattle.tac_syntax.specs.declared.declarations.OpKind.TheVariants.{Map, Reduce, Match, Cross, CoGroup}
use Rattle.ship_strategy.specs.declared.ways.Way.{Way}
use Rattle.ship_strategy.specs.declared.ways.Way.TheVariants.{ByKey, LeftEverywhere, RightEverywhere}
use Rattle.ship_strategy.specs.Facts.{NodeFacts}
use Rattle.ship_strategy.specs.Layouts.{ship_by_key, left_ship, right_ship, only_ship}
use Rattle.ship_strategy.specs.Ships.{Placement, edge_placement, is_broadcast, is_within, is_exactly, IsLegalOver, IsLegalBoth, AllowsOver, AllowsBoth}
use Rattle.ship_strategy.proofs.TestsOfKeys.{exactly, listed_self, within}

-- an operator of one input
abbrev pub IsSingle : OpKind → Type 0
IsSingle Map = Unit {0}
IsSingle Reduce = Unit {0}
IsSingle kind = ⊥

-- a way that an operator of two inputs may have
abbrev pub Suits : OpKind → Way → Type 0
Suits Match way = Unit {0}
Suits Cross LeftEverywhere = Unit {0}
Suits Cross RightEverywhere = Unit {0}
Suits CoGroup ByKey = Unit {0}
Suits kind way = ⊥

by_key : (keys : List ℕ) (below : Placement) → edge_placement (ship_by_key keys below) below ≡ Some keys
by_key keys below = elim (cases_Bool (is_exactly keys below)) as (λ _. edge_placement (ship_by_key keys below) below ≡ Some keys) [
  | inl e ↦ rw e (exactly keys below e)
  | inr e ↦ rw e refl
]

grouped : (keys : List ℕ) (below : Placement)
    → (fields : List ℕ) × (edge_placement (only_ship Reduce keys below) below ≡ Some fields) × AllByRecursion (λ k. is_listed keys k ≡ true) fields
grouped keys below =
    elim (cases_Bool (is_within keys below)) as (λ _. (fields : List ℕ) × (edge_placement (only_ship Reduce keys below) below ≡ Some fields) × AllByRecursion (λ k. is_listed keys k ≡ true) fields) [
      | inl e ↦ rw e (within keys below e)
      | inr e ↦ rw e (keys, refl, listed_self keys)
    ]

over_by : (kind : OpKind) (keys : List ℕ) (below : Placement) → IsSingle kind → IsLegalOver kind keys (is_broadcast (only_ship kind keys below)) (edge_placement (only_ship kind keys below) below)
over_by Map keys below k = refl
over_by Reduce keys below k = grouped keys below
over_by kind keys below k = absurd k

pub over_allowed : (x : NodeFacts) (below : Placement) → IsSingle x.kind → AllowsOver x (only_ship x.kind x.left_keys below) below
over_allowed x below k = over_by x.kind x.left_keys below k

both_by : (kind : OpKind) (way : Way) (left_keys right_keys : List ℕ) (left right : Placement) → Suits kind way
    → IsLegalBoth kind left_keys right_keys (is_broadcast (left_ship way left_keys left)) (is_broadcast (right_ship way right_keys right))
    (edge_placement (left_ship way left_keys left) left) (edge_placement (right_ship way right_keys right) right)
both_by Match ByKey lk rk left right k = inl (by_key lk left, by_key rk right)
both_by Match LeftEverywhere lk rk left right k = inr (inl (refl, refl))
both_by Match RightEverywhere lk rk left right k = inr (inr (refl, refl))
both_by Cross LeftEverywhere lk rk left right k = inl (refl, refl)
both_by Cross RightEverywhere lk rk left right k = inr (refl, refl)
both_by CoGroup ByKey lk rk left right k = (by_key lk left, by_key rk right)
both_by kind way lk rk left right k = absurd k

pub both_allowed : (x : NodeFacts) (way : Way) (left right : Placement) → Suits x.kind way → AllowsBoth x (left_ship way x.left_keys left) (right_ship way x.right_keys right) left right
both_allowed x way left right k = both_by x.kind way x.left_keys x.right_keys left right k
