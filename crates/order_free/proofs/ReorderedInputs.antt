-- Inputs of two calls that differ only in the order inside their groups.
use Rattle.std.proofs.Common.{◌≡◌, List, refl, sym, ◌∙◌}
use Rattle.std.specs.List.Sorted.{IsPermutation}
use Rattle.pact_record.specs.declared.values.Value.{Value}
use Rattle.pact_record.proofs.Permutations.{Perm, nothing, chains, same, turned, from_permutation}
use Rattle.tac_syntax.specs.declared.statements.LoopList.{LoopList}
use Rattle.tac_syntax.specs.declared.statements.LoopList.TheVariants.{Group, Left as LeftGroup, Right as RightGroup}
use Rattle.tac_syntax.specs.Call.{CallInput, of_group, of_groups, key_values, input_record, left_record, right_record, rows_of}

-- each loop has the same records, up to order, and all other parts of the inputs are equal
pub record SameUpToOrder (x y : CallInput) : Type 0 where
  pub rows : (list : LoopList) → Perm (rows_of x list) (rows_of y list)
  pub key : key_values x ≡ key_values y
  pub input : input_record x ≡ input_record y
  pub left : left_record x ≡ left_record y
  pub right : right_record x ≡ right_record y

pub input_itself : (x : CallInput) → SameUpToOrder x x
input_itself x = record { rows = λ list. same (rows_of x list); key = refl; input = refl; left = refl; right = refl }

pub inputs_turned : {x y : CallInput} → SameUpToOrder x y → SameUpToOrder y x
inputs_turned h = record { rows = λ list. turned (h.rows list); key = sym h.key; input = sym h.input; left = sym h.left; right = sym h.right }

pub inputs_chained : {x y z : CallInput} → SameUpToOrder x y → SameUpToOrder y z → SameUpToOrder x z
inputs_chained h k = record {
  rows = λ list. chains (h.rows list) (k.rows list);
  key = h.key ∙ k.key;
  input = h.input ∙ k.input;
  left = h.left ∙ k.left;
  right = h.right ∙ k.right;
}

-- ---- groups in another order

pub reordered_group : (key : List Value) (group other : List (List Value)) → IsPermutation group other → SameUpToOrder (of_group key group) (of_group key other)
reordered_group key group other p = record { rows = rows; key = refl; input = refl; left = refl; right = refl } where
  rows : (list : LoopList) → Perm (rows_of (of_group key group) list) (rows_of (of_group key other) list)
  rows Group = from_permutation group other p
  rows LeftGroup = nothing
  rows RightGroup = nothing

pub reordered_groups : (key : List Value) (left right other_left other_right : List (List Value)) → IsPermutation left other_left → IsPermutation right other_right
    → SameUpToOrder (of_groups key left right) (of_groups key other_left other_right)
reordered_groups key left right other_left other_right p q = record { rows = rows; key = refl; input = refl; left = refl; right = refl } where
  rows : (list : LoopList) → Perm (rows_of (of_groups key left right) list) (rows_of (of_groups key other_left other_right) list)
  rows Group = nothing
  rows LeftGroup = from_permutation left other_left p
  rows RightGroup = from_permutation right other_right q
