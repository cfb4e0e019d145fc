-- QueuedInstances at places of a list of lists.
use Rattle.std.proofs.Common.{◌≡◌, ◌≢◌, ◌<◌, ◌≤◌, ◌⊎◌, inl, inr, ℕ, true, Option, None, Some, IfNone, IfSome, List, [], arith, get_or, length, set, ap, subst, sym, ◌∙◌}
use Rattle.std.proofs.lemmas.Bool.{cases_eq}
use Rattle.std.proofs.lemmas.List.{get_or-set_other, get_or-set_same, get_or_default, get_or_past}
use Rattle.std.specs.Option.{option_map, unwrap_or}
use Rattle.plan_trees.specs.Physicals.{PhysicalData}
use Rattle.plan_trees.specs.Plans.{has}
use Rattle.flow_core.specs.Worlds.{IsWhole, QueuedInstanceData, no_queued_instance, queued_instance_in}

-- another queued instance at one place, and the same ones elsewhere
pub record IsSet (old new : List (List QueuedInstanceData)) (at worker : ℕ) (s : QueuedInstanceData) : Type 0 where
  pub here : queued_instance_in new at worker ≡ s
  pub others : (a b : ℕ) → (a ≢ at) ⊎ (b ≢ worker) → queued_instance_in new a b ≡ queued_instance_in old a b

long : (r row : List QueuedInstanceData) (worker : ℕ) → r ≡ row → worker < length row → worker < length r
long r row worker e less = subst (λ (l : List QueuedInstanceData). worker < length l) (sym e) less

set_row : (old : List (List QueuedInstanceData)) (at worker : ℕ) (s : QueuedInstanceData) → at < length old → worker < length (get_or old at []) → IsSet old (set old at (set (get_or old at []) worker s)) at worker s
set_row old at worker s l m =
    let row = get_or old at [] in
    let in_row : get_or (set old at (set row worker s)) at [] ≡ set row worker s = get_or-set_same old at (set row worker s) [] l in
    record {
      here = ap (λ (r : List QueuedInstanceData). get_or r worker no_queued_instance) in_row ∙ get_or-set_same row worker s no_queued_instance m;
      others = λ a b other. elim (cases_eq a at) as (λ _. queued_instance_in (set old at (set row worker s)) a b ≡ queued_instance_in old a b) [
        | inr elsewhere ↦ ap (λ (r : List QueuedInstanceData). get_or r b no_queued_instance) (get_or-set_other old at a (set row worker s) [] elsewhere)
        | inl same ↦ elim other as (λ _. queued_instance_in (set old at (set row worker s)) a b ≡ queued_instance_in old a b) [
          | inl bad ↦ absurd (bad same)
          | inr there ↦
              ap (λ (n : ℕ). get_or (get_or (set old at (set row worker s)) n []) b no_queued_instance) same ∙ ap (λ (r : List QueuedInstanceData). get_or r b no_queued_instance) in_row
              ∙ get_or-set_other row worker b s no_queued_instance there ∙ ap (λ (n : ℕ). get_or (get_or old n []) b no_queued_instance) (sym same)
        ]
      ];
    }

-- the row and the queued instance that were found at a place, however they were found
module _ (old items : List (List QueuedInstanceData)) (row found_row : List QueuedInstanceData) (at worker : ℕ) (items_are : items ≡ old) (row_is : row ≡ found_row) (found : found_row ≡ get_or items at found_row)
    (below : at < length old) (within : worker < length (get_or old at [])) where
  row_at : row ≡ get_or old at []
  row_at = row_is ∙ found ∙ ap (λ (l : List (List QueuedInstanceData)). get_or l at found_row) items_are ∙ get_or_default old at found_row [] below

  queued_instance_at : (x : QueuedInstanceData) → x ≡ get_or row worker x → x ≡ queued_instance_in old at worker
  queued_instance_at x e = e ∙ ap (λ (r : List QueuedInstanceData). get_or r worker x) row_at ∙ get_or_default (get_or old at []) worker x no_queued_instance within

  queued_instance_set : (s : QueuedInstanceData) → IsSet old (set items at (set row worker s)) at worker s
  queued_instance_set s = subst (λ (l : List (List QueuedInstanceData)). IsSet old l at worker s) (λ i. set (sym items_are i) at (set (sym row_at i) worker s)) (set_row old at worker s below within)

-- The queued instance found at a place of whole queued instances, and the queued instances after it is replaced.
pub record IsFoundAt (p : PhysicalData) (old items : List (List QueuedInstanceData)) (row : List QueuedInstanceData) (at worker : ℕ) (x : QueuedInstanceData) : Type 0 where
  pub is : x ≡ queued_instance_in old at worker
  pub below : at < length old
  pub long : length row ≡ p.workers
  pub pipes : length x.queues ≡ p.workers
  pub changed : (s : QueuedInstanceData) → IsSet old (set items at (set row worker s)) at worker s

pub found_at : (p : PhysicalData) (old items : List (List QueuedInstanceData)) (row found_row : List QueuedInstanceData) (at worker : ℕ) (x : QueuedInstanceData) → IsWhole p old → has at p.tree ≡ true → worker < p.workers
    → items ≡ old → row ≡ found_row → found_row ≡ get_or items at found_row → x ≡ get_or row worker x → IsFoundAt p old items row at worker x
found_at p old items row found_row at worker x whole has_it on_worker items_are row_is found x_is =
    let below : at < length old = whole.each at has_it in
    let within : worker < length (get_or old at []) = subst (λ (n : ℕ). worker < n) (sym (whole.workers at below)) on_worker in
    let is : x ≡ queued_instance_in old at worker = queued_instance_at old items row found_row at worker items_are row_is found below within x x_is in
    record {
      is = is;
      below = below;
      long = ap length (row_at old items row found_row at worker items_are row_is found below within) ∙ whole.workers at below;
      pipes = ap (λ (y : QueuedInstanceData). length y.queues) is ∙ whole.pipes at worker below on_worker;
      changed = queued_instance_set old items row found_row at worker items_are row_is found below within;
    }

-- ---- what is looked up

pub no_row : (found queued_instances : List (List QueuedInstanceData)) (at worker : ℕ) → found ≡ queued_instances → length found ≤ at → queued_instance_in queued_instances at worker ≡ no_queued_instance
no_row found queued_instances at worker same past =
    let none : get_or queued_instances at [] ≡ [] = ap (λ (l : List (List QueuedInstanceData)). get_or l at []) (sym same) ∙ get_or_past found at [] past in
    ap (λ (r : List QueuedInstanceData). get_or r worker no_queued_instance) none ∙ get_or_past [] worker no_queued_instance (omega arith)

pub found_some : {R : Type 0} (now : R → QueuedInstanceData) (o : Option R) (s : QueuedInstanceData) → unwrap_or (option_map now o) no_queued_instance ≡ s → IfSome o (λ x. now x ≡ s)
found_some now None s e = tt
found_some now (Some x) s e = e

pub found_none : {R : Type 0} (now : R → QueuedInstanceData) (o : Option R) (s : QueuedInstanceData) → unwrap_or (option_map now o) no_queued_instance ≡ s → IfNone o (s ≡ no_queued_instance)
found_none now None s e = sym e
found_none now (Some x) s e = tt
