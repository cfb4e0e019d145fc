-- A cost is the sum of all its parts, capped once: the order of the additions doesn't matter.
use Rattle.std.proofs.Common.{◌≡◌, ◌+◌, ◌*◌, ℕ, List, refl, ◌∙◌, arith}
use Rattle.std.proofs.lemmas.Grind.{common_steps}
use Rattle.plan_trees.specs.declared.physicals.Ship.{Ship}
use Rattle.plan_trees.specs.declared.physicals.Ship.TheVariants.{Forward, Partition, Broadcast}
use Rattle.plan_trees.specs.Physicals.{PhysicalData, ship_of}
use Rattle.plan_trees.specs.Plans.{PlanTree, leaf, over, both}
use Rattle.pact_operators.specs.Allowed.{count_of}
use Rattle.pact_operators.specs.Programs.{ProgramData}
use Rattle.cost_model.specs.Costs.{edge_cost, spent, whole_cost, whole_edge_cost}
use Rattle.cost_model.specs.Estimates.{estimate, plus}

stopped_right : (n x : ℕ) → count_of (n + count_of x) ≡ count_of (n + x)
stopped_right n x = grind (arith, common_steps)

stopped_left : (n x : ℕ) → count_of (count_of n + x) ≡ count_of (n + x)
stopped_left n x = grind (arith, common_steps)

stopped_both : (a b m n : ℕ) → a ≡ count_of m → b ≡ count_of n → plus a b ≡ count_of (m + n)
stopped_both a b m n e f = (λ i. plus (e i) (f i)) ∙ stopped_right (count_of m) n ∙ stopped_left m n

edge_whole : (workers : ℕ) (ship : Ship) (n : ℕ) → edge_cost workers ship n ≡ count_of (whole_edge_cost workers ship n)
edge_whole workers Forward n = refl
edge_whole workers (Partition keys) n = refl
edge_whole workers Broadcast n = stopped_right n (workers * n)

pub spent_whole : (p : ProgramData) (counts : List ℕ) (physical : PhysicalData) (t : PlanTree) → spent p counts physical t ≡ count_of (whole_cost p counts physical t)
spent_whole p counts physical (leaf n) = refl
spent_whole p counts physical (over n t) =
    stopped_both _ _ _ _ (edge_whole physical.workers (ship_of physical t) (estimate p counts t)) (spent_whole p counts physical t)
spent_whole p counts physical (both n t u) =
    stopped_both _ _ _ _
    (stopped_both _ _ _ _ (edge_whole physical.workers (ship_of physical t) (estimate p counts t)) (edge_whole physical.workers (ship_of physical u) (estimate p counts u)))
    (stopped_both _ _ _ _ (spent_whole p counts physical t) (spent_whole p counts physical u))
