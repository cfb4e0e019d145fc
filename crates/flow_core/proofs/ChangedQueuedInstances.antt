-- What another queued instance at one place changes.
use Rattle.std.proofs.Common.{◌≡◌, ◌<◌, ◌++◌, ◌∷◌, ◌&&◌, inl, inr, ℕ, true, false, List, [], get_or, length, set, ap, subst, sym, ◌∙◌}
use Rattle.std.proofs.lemmas.Bool.{cases_eq, eq-eqb}
use Rattle.std.proofs.lemmas.List.{get_or-set_other, get_or-set_same, length-set}
use Rattle.plan_trees.specs.Physicals.{PhysicalData}
use Rattle.flow_instance.specs.declared.notes.Note.{Note}
use Rattle.flow_instance.specs.declared.notes.PipeId.{PipeId}
use Rattle.flow_instance.specs.Events.{Ends, ListChanged, Puts, is_pipe}
use Rattle.flow_instance.specs.Steps.{next_note}
use Rattle.flow_instance.specs.Worlds.{World}
use Rattle.flow_core.specs.QueuedInstances.{with_end, with_put}
use Rattle.flow_core.specs.Worlds.{IsWhole, QueuedInstanceData, instance_in, queue_in, queued_instance_in}
use Rattle.flow_core.proofs.QueuedInstancesAtPlaces.{IsFoundAt, IsSet}

abbrev pub world_of : List (List QueuedInstanceData) → World
world_of queued_instances = record { instance = λ at worker. instance_in queued_instances at worker; queue = λ edge from to. queue_in queued_instances edge from to }

-- another pipe of the same sender is unchanged
other_to : (old new : List (List QueuedInstanceData)) (p : PipeId) (list : List Note) (s : QueuedInstanceData) → IsSet old new p.edge p.from s → s.queues ≡ set (queued_instance_in old p.edge p.from).queues p.to list
    → (edge from to : ℕ) → is_pipe p edge from to ≡ false → edge ≡ p.edge → from ≡ p.from → queue_in new edge from to ≡ queue_in old edge from to
other_to old new p list s i is edge from to other e f = elim (cases_eq to p.to) as (λ _. queue_in new edge from to ≡ queue_in old edge from to) [
  | inl g ↦
      let here : is_pipe p edge from to ≡ true = (λ k. (eq-eqb edge p.edge e k) && ((eq-eqb from p.from f k) && (eq-eqb to p.to g k))) in
      absurd (let clash : true ≡ false = sym here ∙ other in cc)
  | inr elsewhere ↦
      (λ k. queue_in new (e k) (f k) to) ∙ ap (λ (x : QueuedInstanceData). get_or x.queues to []) i.here ∙ ap (λ (q : List (List Note)). get_or q to []) is
      ∙ get_or-set_other (queued_instance_in old p.edge p.from).queues p.to to list [] elsewhere ∙ (λ k. queue_in old (sym e k) (sym f k) to)
]

pub list_changed : (old new : List (List QueuedInstanceData)) (p : PipeId) (list : List Note) (s : QueuedInstanceData) → IsSet old new p.edge p.from s → s.queues ≡ set (queued_instance_in old p.edge p.from).queues p.to list
    → p.to < length (queued_instance_in old p.edge p.from).queues → ListChanged (queue_in old) p list (queue_in new)
list_changed old new p list s i is less = record {
  here = ap (λ (x : QueuedInstanceData). get_or x.queues p.to []) i.here ∙ ap (λ (q : List (List Note)). get_or q p.to []) is ∙ get_or-set_same (queued_instance_in old p.edge p.from).queues p.to list [] less;
  elsewhere = λ edge from to other. elim (cases_eq edge p.edge) as (λ _. queue_in new edge from to ≡ queue_in old edge from to) [
    | inr e ↦ ap (λ (x : QueuedInstanceData). get_or x.queues to []) (i.others edge from (inl e))
    | inl e ↦ elim (cases_eq from p.from) as (λ _. queue_in new edge from to ≡ queue_in old edge from to) [
      | inr f ↦ ap (λ (x : QueuedInstanceData). get_or x.queues to []) (i.others edge from (inr f))
      | inl f ↦ other_to old new p list s i is edge from to other e f
    ]
  ];
}

-- a note was put
pub puts_at : (old new : List (List QueuedInstanceData)) (p : PipeId) (s : QueuedInstanceData) → IsSet old new p.edge p.from s → s ≡ with_put (queued_instance_in old p.edge p.from) p.to → p.to < length (queued_instance_in old p.edge p.from).queues
    → Puts (world_of old) p (world_of new)
puts_at old new p s i is less = record {
  instance = ap (λ (x : QueuedInstanceData). x.instance) (i.here ∙ is);
  others = λ a b other. ap (λ (x : QueuedInstanceData). x.instance) (i.others a b other);
  queue = list_changed old new p (queue_in old p.edge p.from p.to ++ next_note (instance_in old p.edge p.from).waiting ∷ []) s i (ap (λ (x : QueuedInstanceData). x.queues) is) less;
}

-- if the instance at the place is unchanged, all instances are
pub same_instances : (old new : List (List QueuedInstanceData)) (at worker : ℕ) (s : QueuedInstanceData) → IsSet old new at worker s → s.instance ≡ instance_in old at worker → (a b : ℕ) → instance_in new a b ≡ instance_in old a b
same_instances old new at worker s i is a b = elim (cases_eq a at) as (λ _. instance_in new a b ≡ instance_in old a b) [
  | inr e ↦ ap (λ (x : QueuedInstanceData). x.instance) (i.others a b (inl e))
  | inl e ↦ elim (cases_eq b worker) as (λ _. instance_in new a b ≡ instance_in old a b) [
    | inr f ↦ ap (λ (x : QueuedInstanceData). x.instance) (i.others a b (inr f))
    | inl f ↦ (λ k. instance_in new (e k) (f k)) ∙ ap (λ (x : QueuedInstanceData). x.instance) i.here ∙ is ∙ (λ k. instance_in old (sym e k) (sym f k))
  ]
]

-- if the pipes at the place are unchanged, all pipes are
pub same_queues : (old new : List (List QueuedInstanceData)) (at worker : ℕ) (s : QueuedInstanceData) → IsSet old new at worker s → s.queues ≡ (queued_instance_in old at worker).queues → (a b to : ℕ) → queue_in new a b to ≡ queue_in old a b to
same_queues old new at worker s i is a b to = elim (cases_eq a at) as (λ _. queue_in new a b to ≡ queue_in old a b to) [
  | inr e ↦ ap (λ (x : QueuedInstanceData). get_or x.queues to []) (i.others a b (inl e))
  | inl e ↦ elim (cases_eq b worker) as (λ _. queue_in new a b to ≡ queue_in old a b to) [
    | inr f ↦ ap (λ (x : QueuedInstanceData). get_or x.queues to []) (i.others a b (inr f))
    | inl f ↦
        (λ k. queue_in new (e k) (f k) to) ∙ ap (λ (x : QueuedInstanceData). get_or x.queues to []) i.here ∙ ap (λ (q : List (List Note)). get_or q to []) is ∙ (λ k. queue_in old (sym e k) (sym f k) to)
  ]
]

-- an instance has ended
pub ends_at : (old new : List (List QueuedInstanceData)) (at worker : ℕ) (s : QueuedInstanceData) → IsSet old new at worker s → s ≡ with_end (queued_instance_in old at worker) → Ends (world_of old) at worker (world_of new)
ends_at old new at worker s i is = record {
  instance = ap (λ (x : QueuedInstanceData). x.instance) (i.here ∙ is);
  others = λ a b other. ap (λ (x : QueuedInstanceData). x.instance) (i.others a b other);
  queue = same_queues old new at worker s i (ap (λ (x : QueuedInstanceData). x.queues) is);
}

-- ---- whole queued instances

many_pipes : (p : PhysicalData) (old new : List (List QueuedInstanceData)) (at worker : ℕ) (s : QueuedInstanceData) → IsWhole p old → IsSet old new at worker s → length s.queues ≡ p.workers
    → (a b : ℕ) → a < length old → b < p.workers → length (queued_instance_in new a b).queues ≡ p.workers
many_pipes p old new at worker s w i many a b less below = elim (cases_eq a at) as (λ _. length (queued_instance_in new a b).queues ≡ p.workers) [
  | inr e ↦ ap (λ (x : QueuedInstanceData). length x.queues) (i.others a b (inl e)) ∙ w.pipes a b less below
  | inl e ↦ elim (cases_eq b worker) as (λ _. length (queued_instance_in new a b).queues ≡ p.workers) [
    | inr f ↦ ap (λ (x : QueuedInstanceData). length x.queues) (i.others a b (inr f)) ∙ w.pipes a b less below
    | inl f ↦ (λ k. length (queued_instance_in new (e k) (f k)).queues) ∙ ap (λ (x : QueuedInstanceData). length x.queues) i.here ∙ many
  ]
]

-- they stay whole, however the row and the list were found
pub whole_after : (p q : PhysicalData) (old items : List (List QueuedInstanceData)) (row : List QueuedInstanceData) (at worker : ℕ) (x s : QueuedInstanceData) → IsWhole p old → q ≡ p → items ≡ old → IsFoundAt p old items row at worker x
    → length s.queues ≡ p.workers → IsWhole q (set items at (set row worker s))
whole_after p q old items row at worker x s w same items_are f many =
    let new = set items at (set row worker s) in
    let count : length new ≡ length old = length-set items at (set row worker s) ∙ ap length items_are in
    let within : at < length items = subst (λ (l : List (List QueuedInstanceData)). at < length l) (sym items_are) f.below in
    subst (λ (x : PhysicalData). IsWhole x new) (sym same) (record {
      each = λ a there. subst (λ (n : ℕ). a < n) (sym count) (w.each a there);
      only = λ a less. w.only a (subst (λ (n : ℕ). a < n) count less);
      workers = λ a less. elim (cases_eq a at) as (λ _. length (get_or new a []) ≡ p.workers) [
        | inl e ↦ ap (λ (n : ℕ). length (get_or new n [])) e ∙ ap length (get_or-set_same items at (set row worker s) [] within) ∙ length-set row worker s ∙ f.long
        | inr e ↦
            ap length (get_or-set_other items at a (set row worker s) [] e) ∙ ap (λ (l : List (List QueuedInstanceData)). length (get_or l a [])) items_are ∙ w.workers a (subst (λ (n : ℕ). a < n) count less)
      ];
      pipes = λ a b less below_workers. many_pipes p old new at worker s w (f.changed s) many a b (subst (λ (n : ℕ). a < n) count less) below_workers;
    })
