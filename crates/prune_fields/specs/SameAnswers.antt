-- Two plans that allow the same records, cut to the sink's fields, with the same counts at the operators of both. Also
-- runs of the second plan.
use Rattle.std.specs.Prelude.{◌≡◌, ℕ, true, List, map, slice_get}
use Rattle.pact_bag.specs.Rows.{cut}
use Rattle.plan_trees.specs.Physicals.{PhysicalData}
use Rattle.plan_trees.specs.Plans.{PlanTree, has}
use Rattle.pact_operators.specs.Allowed.{Allows, Bag, Counted}
use Rattle.pact_operators.specs.Inputs.{AreInputsOf}
use Rattle.pact_operators.specs.PlanOps.{PlanOps, plan_ops}
use Rattle.pact_operators.specs.Programs.{ProgramData}
use Rattle.flow_instance.specs.Spots.{setting}
use Rattle.flow_instance.specs.Spread.{Spread}

-- two bags whose records, cut to the sink's fields, are the same list
abbrev pub HaveSameRows : List ℕ → Bag → Bag → Type 0
HaveSameRows sink rows others = map (cut sink) rows ≡ map (cut sink) others

-- This plan allows a bag with the records of the other plan's bag, cut to the sink's fields. Its counts are the other's
-- at each number of the other's tree.
pub record IsGivenBeside (sink : List ℕ) (t : PlanTree) (counts : List ℕ) (bag : Bag) (u : PlanOps) (s : PlanTree) : Type 0 where
  pub now : Bag
  pub more : List ℕ
  pub counted : Counted u s now more
  pub rows : HaveSameRows sink now bag
  pub same_counts : (n : ℕ) → has n t ≡ true → slice_get more n ≡ slice_get counts n

-- This plan allows a bag with the records of the other plan's bag, cut to the sink's fields. The counts are counts of
-- this bag, too.
pub record IsCountedBeside (sink : List ℕ) (bag : Bag) (counts : List ℕ) (o : PlanOps) (t : PlanTree) : Type 0 where
  pub now : Bag
  pub counted : Counted o t now counts
  pub rows : HaveSameRows sink now bag

-- this plan allows a bag with the records of the other plan's bag, cut to the sink's fields
pub record IsAllowedBeside (sink : List ℕ) (bag : Bag) (o : PlanOps) (t : PlanTree) : Type 0 where
  pub now : Bag
  pub allowed : Allows o t now
  pub rows : HaveSameRows sink now bag

-- The second tree's plan has all numbers of the first tree's. For each bag that one of them allows, the other allows
-- one with the same records, cut to the sink's fields. For each bag with counts, the other has one with the same
-- counts.
pub record GiveSame (sink : List ℕ) (o : PlanOps) (t : PlanTree) (u : PlanOps) (s : PlanTree) : Type 0 where
  pub there : (bag : Bag) (counts : List ℕ) → Counted o t bag counts → IsGivenBeside sink t counts bag u s
  pub back : (bag : Bag) (counts : List ℕ) → Counted u s bag counts → IsCountedBeside sink bag counts o t
  pub allowed_there : (bag : Bag) → Allows o t bag → IsAllowedBeside sink bag u s
  pub allowed_back : (bag : Bag) → Allows u s bag → IsAllowedBeside sink bag o t

-- this holds for all inputs of the first program
abbrev pub AnswersSame : ProgramData → PhysicalData → ProgramData → PhysicalData → Type 0
AnswersSame p x q y = (inputs : List Bag) → AreInputsOf p inputs → GiveSame p.sink (plan_ops p inputs) x.tree (plan_ops q inputs) y.tree

-- The rows that a run of the second physical plan leaves are, cut to the sink's fields, those of a bag that the first
-- plan allows, with the run's counts.
abbrev pub RunsAnswer : ProgramData → PhysicalData → ProgramData → PhysicalData → Type 0
RunsAnswer p x q y = (inputs : List Bag) (rows : Bag) (counts : List ℕ) → AreInputsOf p inputs → Spread (setting q inputs y) rows counts
    → IsCountedBeside p.sink rows counts (plan_ops p inputs) x.tree
