-- A world at its start.
use Rattle.std.proofs.Common.{◌≡◌, ◌<◌, ◌≤◌, inl, inr, ℕ, zero, suc, true, List, [], ◌∷◌, get_or, ap, subst, sym, ◌∙◌, arith}
use Rattle.std.specs.List.{AllByRecursion}
use Rattle.std.proofs.lemmas.Bool.{cases_lt}
use Rattle.std.proofs.lemmas.List.{get_or_past}
use Rattle.pact_operators.specs.Allowed.{Bag}
use Rattle.pact_operators.specs.Inputs.{AreInputsOf}
use Rattle.pact_operators.specs.Programs.{IsPlanOf, IsProgram, ProgramData}
use Rattle.plan_trees.specs.Physicals.{IsPhysical, PhysicalData}
use Rattle.plan_trees.specs.Plans.{has}
use Rattle.flow_instance.specs.declared.notes.Note.{Note}
use Rattle.flow_instance.specs.Events.{no_history}
use Rattle.flow_instance.specs.Spots.{Setting, setting}
use Rattle.flow_instance.proofs.Events.{start_stands}
use Rattle.flow_core.specs.Starting.{AreStarted}
use Rattle.flow_core.specs.Worlds.{HasBatchSize, IsStanding, IsWhole, StandsForSome, QueuedInstanceData, WorldData, no_queued_instance, queue_in, seen, queued_instance_in}

pub all_empty : (queues : List (List Note)) (to : ℕ) → AllByRecursion (λ q. q ≡ []) queues → get_or queues to [] ≡ []
all_empty [] to h = get_or_past [] to [] (omega arith)
all_empty (q ∷ queues) zero h = h.0
all_empty (q ∷ queues) (suc to) h = all_empty queues to h.1

module _ (g : Setting) (size count : ℕ) (queued_instances : List (List QueuedInstanceData)) (s : AreStarted g size count queued_instances) where
  -- outside of the rows there is no queued instance
  no_row : (at worker : ℕ) → count ≤ at → queued_instance_in queued_instances at worker ≡ no_queued_instance
  no_row at worker more = ap (λ (r : List QueuedInstanceData). get_or r worker no_queued_instance) (get_or_past queued_instances at [] (omega (arith, more, s.long))) ∙ get_or_past [] worker no_queued_instance (omega arith)

  none_there : (at worker : ℕ) → at < count → g.physical.workers ≤ worker → queued_instance_in queued_instances at worker ≡ no_queued_instance
  none_there at worker less more = get_or_past (get_or queued_instances at []) worker no_queued_instance (omega (arith, more, (s.each at less).long))

  empty_start : (edge from to : ℕ) → queue_in queued_instances edge from to ≡ []
  empty_start edge from to = elim (cases_lt edge count) as (λ _. queue_in queued_instances edge from to ≡ []) [
    | inr more ↦ ap (λ (x : QueuedInstanceData). get_or x.queues to []) (no_row edge from more) ∙ get_or_past [] to [] (omega arith)
    | inl less ↦ elim (cases_lt from g.physical.workers) as (λ _. queue_in queued_instances edge from to ≡ []) [
      | inr more ↦ ap (λ (x : QueuedInstanceData). get_or x.queues to []) (none_there edge from less more) ∙ get_or_past [] to [] (omega arith)
      | inl below ↦ all_empty (queued_instance_in queued_instances edge from).queues to ((s.each edge less).each from below).empty
    ]
  ]

  pub whole_start : ((at : ℕ) → has at g.physical.tree ≡ true → at < count) → ((at : ℕ) → at < count → has at g.physical.tree ≡ true) → IsWhole g.physical queued_instances
  whole_start each only = record {
    each = λ at there. omega (arith, each at there, s.long);
    only = λ at less. only at (omega (arith, less, s.long));
    workers = λ at less. (s.each at (omega (arith, less, s.long))).long;
    pipes = λ at worker less below. ((s.each at (omega (arith, less, s.long))).each worker below).long;
  }

  pub size_start : (w : WorldData) → w.physical ≡ g.physical → w.queued_instances ≡ queued_instances → ((at : ℕ) → has at g.physical.tree ≡ true → at < count) → HasBatchSize w size
  size_start w same is each = λ at worker there below.
      let there_too : has at g.physical.tree ≡ true = subst (λ (p : PhysicalData). has at p.tree ≡ true) same there in
      let below_too : worker < g.physical.workers = subst (λ (p : PhysicalData). worker < p.workers) same below in
      ap (λ (l : List (List QueuedInstanceData)). (queued_instance_in l at worker).instance.part.batch) is ∙ ((s.each at (each at there_too)).each worker below_too).batch

  pub standing_start : (w : WorldData) → w.physical ≡ g.physical → w.queued_instances ≡ queued_instances → ((at : ℕ) → has at g.physical.tree ≡ true → at < count) → ((at : ℕ) → at < count → has at g.physical.tree ≡ true)
      → IsStanding g w no_history
  standing_start w same is each only =
      subst (λ (l : List (List QueuedInstanceData)). IsStanding g (record w { queued_instances = l }) no_history) (sym is) (record {
        physical = same;
        whole = subst (λ (p : PhysicalData). IsWhole p queued_instances) (sym same) (whole_start each only);
        stands = start_stands g (seen (record w { queued_instances = queued_instances })) (record {
          queue = empty_start;
          instances = λ at worker there below. ((s.each at (each at there)).each worker below).started;
        });
      })

pub some_start : (p : ProgramData) (inputs : List Bag) (physical : PhysicalData) (w : WorldData) → IsProgram p → AreInputsOf p inputs → IsPhysical physical → IsPlanOf p.functions p.ops physical.tree
    → 1 ≤ w.depth → w.physical ≡ physical → IsStanding (setting p inputs physical) w no_history → StandsForSome w
some_start p inputs physical w is are plan of deep same standing = record {
  program = p;
  inputs = inputs;
  history = no_history;
  is_program = is;
  are_inputs = are;
  is_physical = subst IsPhysical (sym same) plan;
  plan = subst (λ (q : PhysicalData). IsPlanOf p.functions p.ops q.tree) (sym same) of;
  some_depth = deep;
  standing = subst (λ (q : PhysicalData). IsStanding (setting p inputs q) w no_history) (sym same) standing;
}
