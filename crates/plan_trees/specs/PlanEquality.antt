-- Whether two plans are the same, as a test of their nodes.
use Rattle.std.specs.Prelude.{◌==◌, ◌&&◌, ◌++◌, ℕ, Bool}
use Rattle.std.specs.Cmp.{IsEquivalence}
use Rattle.std.specs.Cmp.Lexicographic.{pointwise}
use Rattle.std.specs.Hash.{Alike, HashWrites, and-Alike, items_Alike, on_Alike, same_Alike, slice, u32}
use Rattle.std.proofs.lemmas.Bool.Decides.{Decides-eqb}
use Rattle.std.proofs.lemmas.Cmp.{nat_eq_equiv, on_equiv, and_equiv, lists_equiv}
use Rattle.plan_trees.specs.declared.preorders.Node.{Node}
use Rattle.plan_trees.specs.Plans.{PlanTree}
use Rattle.plan_trees.specs.Preorders.{preorder_of}

abbrev pub same_node : Node → Node → Bool
same_node x y = (x.at == y.at) && (x.count == y.count)

abbrev pub same_plan : PlanTree → PlanTree → Bool
same_plan t u = pointwise same_node (preorder_of t) (preorder_of u)

pub same_plan_laws : IsEquivalence same_plan
same_plan_laws =
    on_equiv preorder_of (lists_equiv (and_equiv (on_equiv (λ (x : Node). x.at) nat_eq_equiv) (on_equiv (λ (x : Node). x.count) nat_eq_equiv)))

-- ---- what a plan feeds to a hash: its nodes

abbrev pub node_writes : Node → HashWrites
node_writes x = u32 x.at ++ u32 x.count

abbrev pub plan_writes : PlanTree → HashWrites
plan_writes t = slice node_writes (preorder_of t)

number_Alike : Alike (λ (n m : ℕ). n == m) u32
number_Alike = same_Alike u32 Decides-eqb

-- equal plans feed the same to a hash
pub plan_writes-Alike : Alike same_plan plan_writes
plan_writes-Alike =
    on_Alike preorder_of (items_Alike (and-Alike (on_Alike (λ (x : Node). x.at) number_Alike) (on_Alike (λ (x : Node). x.count) number_Alike)))
