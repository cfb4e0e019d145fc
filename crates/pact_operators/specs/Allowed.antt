-- The bags that a plan allows, and counts of the same evaluation.
use Rattle.std.specs.Prelude.{◌≡◌, ◌-◌, ◌^◌, ℕ, List, [], ◌∷◌, ◌++◌, flat_map, length, map, min, slice_get, Some}
use Rattle.std.specs.List.Sorted.{IsPermutation}
use Rattle.pact_bag.specs.Groups.{distinct_keys, group_of_key}
use Rattle.pact_bag.specs.Pairs.{crossed, matched}
use Rattle.pact_record.specs.declared.values.Value.{Value}
use Rattle.pact_record.specs.Record.{key_of}
use Rattle.tac_syntax.specs.declared.declarations.OpKind.{OpKind}
use Rattle.tac_syntax.specs.declared.declarations.OpKind.TheVariants.{Source, Map, Reduce, Match, Cross, CoGroup}
use Rattle.plan_trees.specs.Plans.{PlanTree, leaf, over, both}
use Rattle.pact_operators.specs.PlanOps.{PlanOps}

-- A bag is a list up to its order. Equal records at different places are different records of it.
abbrev pub Bag : Type 0
Bag = List (List Value)

-- ---- what an operator emits

-- one call for each of the key values, over the records that have them, in some order
abbrev pub Grouped : (List Value → Bag → Bag) → List ℕ → Bag → List (List Value) → Bag → Type 0
Grouped f keys rows [] out = out ≡ []
Grouped f keys rows (k ∷ ks) out =
    (group : Bag) × (rest : Bag) × IsPermutation (group_of_key keys rows k) group × (out ≡ f k group ++ rest) × Grouped f keys rows ks rest

-- one call for each of the key values, over the records of either side; one of the sides may have none
abbrev pub CoGrouped : (List Value → Bag → Bag → Bag) → List ℕ → List ℕ → Bag → Bag → List (List Value) → Bag → Type 0
CoGrouped f left_keys right_keys ls rs [] out = out ≡ []
CoGrouped f left_keys right_keys ls rs (k ∷ ks) out =
    (left : Bag) × (right : Bag) × (rest : Bag) × IsPermutation (group_of_key left_keys ls k) left × IsPermutation (group_of_key right_keys rs k) right
    × (out ≡ f k left right ++ rest) × CoGrouped f left_keys right_keys ls rs ks rest

-- the key values that occur in a bag, and in one of two bags
abbrev pub keys_in : List ℕ → Bag → List (List Value)
keys_in keys rows = distinct_keys (map (key_of keys) rows)

abbrev pub keys_in_either : List ℕ → List ℕ → Bag → Bag → List (List Value)
keys_in_either left_keys right_keys ls rs = distinct_keys (map (key_of left_keys) ls ++ map (key_of right_keys) rs)

-- what an operator of one input may emit for a bag
abbrev pub Gives : PlanOps → OpKind → ℕ → Bag → Bag → Type 0
Gives o Map n ls out = out ≡ flat_map (o.of_record n) ls
Gives o Reduce n ls out = Grouped (o.of_group n) (o.left_keys n) ls (keys_in (o.left_keys n) ls) out
Gives o kind n ls out = ⊥

-- what an operator of two inputs may emit for two bags
abbrev pub GivesBoth : PlanOps → OpKind → ℕ → Bag → Bag → Bag → Type 0
GivesBoth o Match n ls rs out = out ≡ crossed (matched o.nulls (o.of_pair n) (o.left_keys n) (o.right_keys n)) ls rs
GivesBoth o Cross n ls rs out = out ≡ crossed (o.of_pair n) ls rs
GivesBoth o CoGroup n ls rs out =
    CoGrouped (o.of_groups n) (o.left_keys n) (o.right_keys n) ls rs (keys_in_either (o.left_keys n) (o.right_keys n) ls rs) out
GivesBoth o kind n ls rs out = ⊥

-- ---- evaluations of a plan

-- The source's rows in any order.
pub record FromSource (o : PlanOps) (n : ℕ) (bag : Bag) : Type 0 where
  pub source : o.kind n ≡ Source
  pub permuted : IsPermutation (o.rows n) bag

-- What an operator emits for a bag of its input, in any order; and below for bags of its two inputs.
pub record AboveOne (Below : Bag → Type 0) (Given : Bag → Bag → Type 0) (bag : Bag) : Type 0 where
  pub rows : Bag
  pub out : Bag
  pub below : Below rows
  pub given : Given rows out
  pub permuted : IsPermutation out bag

pub record AboveTwo (Left Right : Bag → Type 0) (Given : Bag → Bag → Bag → Type 0) (bag : Bag) : Type 0 where
  pub left_rows : Bag
  pub right_rows : Bag
  pub out : Bag
  pub left_below : Left left_rows
  pub right_below : Right right_rows
  pub given : Given left_rows right_rows out
  pub permuted : IsPermutation out bag

-- One evaluation yields the bag, and `Told` holds for each number and the count of records that it emits there.
abbrev pub Evaluates : (ℕ → ℕ → Type 0) → PlanOps → PlanTree → Bag → Type 0
Evaluates Told o (leaf n) bag = FromSource o n bag × Told n (length bag)
Evaluates Told o (over n t) bag = AboveOne (Evaluates Told o t) (Gives o (o.kind n) n) bag × Told n (length bag)
Evaluates Told o (both n t u) bag = AboveTwo (Evaluates Told o t) (Evaluates Told o u) (GivesBoth o (o.kind n) n) bag × Told n (length bag)

-- the bags that a plan allows
abbrev pub Allows : PlanOps → PlanTree → Bag → Type 0
Allows o t bag = Evaluates (λ n k. Unit {0}) o t bag

-- a 64-bit count, which stays at its greatest value
abbrev pub count_of : ℕ → ℕ
count_of k = min k (2 ^ 64 - 1)

-- The counts, by number, are those of one evaluation that yields the bag.
abbrev pub Counted : PlanOps → PlanTree → Bag → List ℕ → Type 0
Counted o t bag counts = Evaluates (λ n k. slice_get counts n ≡ Some (count_of k)) o t bag

-- Two plans allow the same bags.
abbrev pub AllowSame : PlanOps → PlanTree → PlanTree → Type 0
AllowSame o t u = (bag : Bag) → (Allows o t bag → Allows o u bag) × (Allows o u bag → Allows o t bag)
