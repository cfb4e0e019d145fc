-- The rules of exchanges: their words, the kinds of the two operators, and how their trees change.
use Rattle.std.specs.Prelude.{◌≡◌, ◌⊎◌, ℕ, List, [], ◌∷◌, codes}
use Rattle.tac_syntax.specs.declared.declarations.OpKind.{OpKind}
use Rattle.tac_syntax.specs.declared.declarations.OpKind.TheVariants.{Map, Reduce, Match, Cross, CoGroup}
use Rattle.plan_trees.specs.Plans.{PlanTree, replaced, subtree_of}
use Rattle.plan_trees.specs.Shapes.{exchanged}
use Rattle.plan_trees.specs.declared.shapes.Shape.TheVariants.{OneOverOne, IntoLeft, OutOfLeft, IntoRight, OutOfRight, ToRight, ToLeft}
use Rattle.reorder_pair.specs.declared.rules.Exchange.{Exchange}
use Rattle.reorder_pair.specs.declared.rules.Role.{Role}
use Rattle.reorder_pair.specs.declared.rules.Role.TheVariants.{Mapping, Pairing, Grouping, CoGrouping, Matching}
use Rattle.reorder_pair.specs.declared.rules.Rule.{Rule}
use Rattle.reorder_pair.specs.declared.rules.Rule.TheVariants.{MapMap, MapLeft, MapLeftUp, MapRight, MapRightUp, Rotate, RotateUp, MapReduce, MapReduceUp, MapCoGroupLeft, MapCoGroupLeftUp, MapCoGroupRight, MapCoGroupRightUp, ReduceMatchLeft, ReduceMatchLeftUp, ReduceMatchRight, ReduceMatchRightUp}

-- in the order of the variants
abbrev pub all_rules : List Rule
all_rules =
    MapMap ∷ MapLeft ∷ MapLeftUp ∷ MapRight ∷ MapRightUp ∷ Rotate ∷ RotateUp ∷ MapReduce ∷ MapReduceUp ∷ MapCoGroupLeft ∷ MapCoGroupLeftUp ∷ MapCoGroupRight
    ∷ MapCoGroupRightUp ∷ ReduceMatchLeft ∷ ReduceMatchLeftUp ∷ ReduceMatchRight
    ∷ ReduceMatchRightUp ∷ []

abbrev pub word_of : Rule → List ℕ
word_of MapMap = codes "map-map"
word_of MapLeft = codes "map-left"
word_of MapLeftUp = codes "map-left-up"
word_of MapRight = codes "map-right"
word_of MapRightUp = codes "map-right-up"
word_of Rotate = codes "rotate"
word_of RotateUp = codes "rotate-up"
word_of MapReduce = codes "map-reduce"
word_of MapReduceUp = codes "map-reduce-up"
word_of MapCoGroupLeft = codes "map-cogroup-left"
word_of MapCoGroupLeftUp = codes "map-cogroup-left-up"
word_of MapCoGroupRight = codes "map-cogroup-right"
word_of MapCoGroupRightUp = codes "map-cogroup-right-up"
word_of ReduceMatchLeft = codes "reduce-match-left"
word_of ReduceMatchLeftUp = codes "reduce-match-left-up"
word_of ReduceMatchRight = codes "reduce-match-right"
word_of ReduceMatchRightUp = codes "reduce-match-right-up"

-- the kinds of operators that have a part in exchanges
abbrev pub Plays : Role → OpKind → Type 0
Plays Mapping kind = kind ≡ Map
Plays Pairing kind = (kind ≡ Match) ⊎ (kind ≡ Cross)
Plays Grouping kind = kind ≡ Reduce
Plays CoGrouping kind = kind ≡ CoGroup
Plays Matching kind = kind ≡ Match

-- the upper operator, the lower one, and the shape of their tree
abbrev pub exchange_of : Rule → Exchange
exchange_of MapMap = record { upper = Mapping; lower = Mapping; shape = OneOverOne }
exchange_of MapLeft = record { upper = Mapping; lower = Pairing; shape = IntoLeft }
exchange_of MapLeftUp = record { upper = Pairing; lower = Mapping; shape = OutOfLeft }
exchange_of MapRight = record { upper = Mapping; lower = Pairing; shape = IntoRight }
exchange_of MapRightUp = record { upper = Pairing; lower = Mapping; shape = OutOfRight }
exchange_of Rotate = record { upper = Pairing; lower = Pairing; shape = ToRight }
exchange_of RotateUp = record { upper = Pairing; lower = Pairing; shape = ToLeft }
exchange_of MapReduce = record { upper = Mapping; lower = Grouping; shape = OneOverOne }
exchange_of MapReduceUp = record { upper = Grouping; lower = Mapping; shape = OneOverOne }
exchange_of MapCoGroupLeft = record { upper = Mapping; lower = CoGrouping; shape = IntoLeft }
exchange_of MapCoGroupLeftUp = record { upper = CoGrouping; lower = Mapping; shape = OutOfLeft }
exchange_of MapCoGroupRight = record { upper = Mapping; lower = CoGrouping; shape = IntoRight }
exchange_of MapCoGroupRightUp = record { upper = CoGrouping; lower = Mapping; shape = OutOfRight }
exchange_of ReduceMatchLeft = record { upper = Grouping; lower = Matching; shape = IntoLeft }
exchange_of ReduceMatchLeftUp = record { upper = Matching; lower = Grouping; shape = OutOfLeft }
exchange_of ReduceMatchRight = record { upper = Grouping; lower = Matching; shape = IntoRight }
exchange_of ReduceMatchRightUp = record { upper = Matching; lower = Grouping; shape = OutOfRight }

-- the rules without groups
abbrev pub IsPairRule : Rule → Type 0
IsPairRule MapMap = Unit {0}
IsPairRule MapLeft = Unit {0}
IsPairRule MapLeftUp = Unit {0}
IsPairRule MapRight = Unit {0}
IsPairRule MapRightUp = Unit {0}
IsPairRule Rotate = Unit {0}
IsPairRule RotateUp = Unit {0}
IsPairRule rule = ⊥

-- the rules by which a Reduce passes a Match whose other side is unique
abbrev pub IsUniqueRule : Rule → Type 0
IsUniqueRule ReduceMatchLeft = Unit {0}
IsUniqueRule ReduceMatchLeftUp = Unit {0}
IsUniqueRule ReduceMatchRight = Unit {0}
IsUniqueRule ReduceMatchRightUp = Unit {0}
IsUniqueRule rule = ⊥

-- the first thirteen
abbrev pub IsMapOrPairRule : Rule → Type 0
IsMapOrPairRule ReduceMatchLeft = ⊥
IsMapOrPairRule ReduceMatchLeftUp = ⊥
IsMapOrPairRule ReduceMatchRight = ⊥
IsMapOrPairRule ReduceMatchRightUp = ⊥
IsMapOrPairRule rule = Unit {0}

-- the tree after an exchange of its root and the operator below it
abbrev pub exchanged_by : Rule → PlanTree → PlanTree
exchanged_by rule tree = exchanged (exchange_of rule).shape tree

-- the plan after an exchange of an operator and the one below it
abbrev pub swapped : Rule → ℕ → PlanTree → PlanTree
swapped rule at plan = replaced at (exchanged_by rule (subtree_of at plan)) plan
