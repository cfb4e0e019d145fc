-- A plan of a program stays one if a tree over the same nodes, with the same attributes, replaces a subtree.
use Rattle.std.proofs.Common.{◌≡◌, ℕ, true, List}
use Rattle.pact_record.proofs.Permutations.{Perm}
use Rattle.tac_syntax.specs.Valid.{WithFields}
use Rattle.plan_trees.specs.Plans.{PlanTree, has, subtree_of, replaced, nodes}
use Rattle.plan_trees.proofs.InPlace.{in_place}
use Rattle.plan_trees.proofs.PermutedNodes.{different_perm, has_perm, nodes_kept}
use Rattle.pact_operators.specs.declared.operators.Op.{Op}
use Rattle.pact_operators.specs.Programs.{HasArity, IsPlanOf}
use Rattle.pact_operators.proofs.KeptInPlace.{StaysApart, apart_kept, arity_kept}

-- another tree over the same nodes, with the same attributes, and sides that share none if the first tree's don't
pub record IsExchange (v : List WithFields) (ops : List Op) (t u : PlanTree) : Type 0 where
  pub stays : StaysApart v ops t u
  pub arity : HasArity ops t → HasArity ops u
  pub nodes_same : Perm (nodes t) (nodes u)

pub exchange_kept : (v : List WithFields) (ops : List Op) (at : ℕ) (new t : PlanTree) → has at t ≡ true → IsExchange v ops (subtree_of at t) new → IsExchange v ops t (replaced at new t)
exchange_kept v ops at new t h x = record {
  stays = in_place (StaysApart v ops) (apart_kept v ops) at new t h x.stays;
  arity = in_place (λ a b. HasArity ops a → HasArity ops b) (arity_kept ops) at new t h x.arity;
  nodes_same = in_place (λ a b. Perm (nodes a) (nodes b)) nodes_kept at new t h x.nodes_same;
}

pub still_plan_of : (v : List WithFields) (ops : List Op) (t u : PlanTree) → IsExchange v ops t u → IsPlanOf v ops t → IsPlanOf v ops u
still_plan_of v ops t u x p = record {
  different = different_perm x.nodes_same p.different;
  all = λ n lt. has_perm n t u x.nodes_same (p.all n lt);
  arity = x.arity p.arity;
  apart = x.stays.apart p.apart;
}

pub plan_in_place : (v : List WithFields) (ops : List Op) (at : ℕ) (new t : PlanTree) → IsPlanOf v ops t → has at t ≡ true → IsExchange v ops (subtree_of at t) new → IsPlanOf v ops (replaced at new t)
plan_in_place v ops at new t p h x = still_plan_of v ops t (replaced at new t) (exchange_kept v ops at new t h x) p
