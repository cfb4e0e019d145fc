-- A plan with partial groups before shipping. The laws are proved for these definitions, but no clause names them:
-- clauses use the combined plan of `CombinedPrograms`.
use Rattle.std.specs.Prelude.{◌≡◌, ◌≢◌, ℕ, true, List, get_or}
use Rattle.std.specs.List.{AllByRecursion}
use Rattle.pact_record.specs.Keys.{is_listed}
use Rattle.plan_trees.specs.declared.physicals.Ship.TheVariants.{Forward, Partition}
use Rattle.plan_trees.specs.Inserted.{inserted}
use Rattle.plan_trees.specs.Physicals.{PhysicalData}
use Rattle.plan_trees.specs.Plans.{PlanTree, leaf, over, both, root_of}
use Rattle.tac_syntax.specs.declared.declarations.OpKind.TheVariants.{Source, Reduce}
use Rattle.pact_operators.specs.PlanOps.{PlanOps}
use Rattle.combine_rule.specs.Splits.{IsSplitIn}

-- Two programs make the same calls at a number. It isn't asked of sources, which make none.
pub record HasSameCalls (o u : PlanOps) (n : ℕ) : Type 0 where
  pub of_record : u.of_record n ≡ o.of_record n
  pub of_pair : u.of_pair n ≡ o.of_pair n
  pub of_group : u.of_group n ≡ o.of_group n
  pub of_groups : u.of_groups n ≡ o.of_groups n

pub record IsSameAt (o u : PlanOps) (n : ℕ) : Type 0 where
  pub nulls : u.nulls ≡ o.nulls
  pub kind : u.kind n ≡ o.kind n
  pub rows : u.rows n ≡ o.rows n
  pub calls : (o.kind n ≡ Source → ⊥) → HasSameCalls o u n
  pub left_keys : u.left_keys n ≡ o.left_keys n
  pub right_keys : u.right_keys n ≡ o.right_keys n

-- The Reduce with this number has one input, the operator or source `below`, and no other operator reads `below`.
abbrev pub IsReadBy : (below reduce : ℕ) → PlanTree → Type 0
IsReadBy below reduce (leaf n) = n ≢ reduce
IsReadBy below reduce (over n t) = (root_of t ≡ below → n ≡ reduce) × (n ≡ reduce → root_of t ≡ below) × IsReadBy below reduce t
IsReadBy below reduce (both n t u) = (n ≢ reduce) × (root_of t ≢ below) × (root_of u ≢ below) × IsReadBy below reduce t × IsReadBy below reduce u

-- One Reduce is combined. A sender is inserted on its input's edge. The edge to the sender is Forward, and the edge
-- from the sender to the Reduce has the Partition. The Reduce now merges. The rest is unchanged.
pub record IsCombinedAt (o u : PlanOps) (p q : PhysicalData) (below new reduce : ℕ) (fields : List ℕ) : Type 0 where
  pub tree : q.tree ≡ inserted below new p.tree
  pub workers : q.workers ≡ p.workers
  pub other_ships : (n : ℕ) → n ≢ below → n ≢ new → get_or q.ships n Forward ≡ get_or p.ships n Forward
  pub fed : get_or q.ships below Forward ≡ Forward
  pub ship : get_or p.ships below Forward ≡ Partition fields
  pub kept : get_or q.ships new Forward ≡ Partition fields
  pub same : (n : ℕ) → n ≢ reduce → n ≢ new → IsSameAt o u n
  pub kind : o.kind reduce ≡ Reduce
  pub merger_kind : u.kind reduce ≡ Reduce
  pub sender_kind : u.kind new ≡ Reduce
  pub merger_keys : u.left_keys reduce ≡ o.left_keys reduce
  pub sender_keys : u.left_keys new ≡ o.left_keys reduce
  -- the fields of the Partition are keys of the Reduce, as legal shipping requires
  pub inside : AllByRecursion (λ k. is_listed (o.left_keys reduce) k ≡ true) fields
  pub split : IsSplitIn (o.left_keys reduce) (o.of_group reduce) (u.of_group new) (u.of_group reduce)
