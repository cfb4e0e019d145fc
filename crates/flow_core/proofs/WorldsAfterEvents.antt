-- The world after an event.
use Rattle.std.proofs.Common.{◌≡◌, ◌<◌, ◌≤◌, inl, inr, ℕ, true, Option, Some, None, List, slice_get, ap, subst, sym, ◌∙◌}
use Rattle.std.proofs.lemmas.Bool.{cases_eq}
use Rattle.plan_trees.specs.Physicals.{IsPhysical, PhysicalData}
use Rattle.plan_trees.specs.Plans.{has, subtree_of}
use Rattle.pact_operators.specs.Programs.{IsPlanOf}
use Rattle.flow_instance.specs.declared.notes.Event.{Event}
use Rattle.flow_instance.specs.declared.notes.Event.TheVariants as events
use Rattle.flow_instance.specs.declared.notes.Note.{Note}
use Rattle.flow_instance.specs.declared.notes.PipeId.{PipeId}
use Rattle.flow_instance.specs.Events.{ListChanged, OthersSame, Steps, Takes, TakesBy, first_note, noted}
use Rattle.flow_instance.specs.Instances.{Instance}
use Rattle.flow_instance.specs.Local.{IsLocal}
use Rattle.flow_instance.specs.Spots.{Setting, Spot, ports_of, setting, spot}
use Rattle.flow_instance.specs.Steps.{Took, later}
use Rattle.flow_instance.specs.Worlds.{History, World, enabled, lists_at, reader_of}
use Rattle.flow_instance.proofs.Events.{step_stands}
use Rattle.flow_core.specs.Worlds.{IsStanding, IsWhole, StandsForSome, WorldData, instance_in, queue_in, seen}

-- a note was taken, where u is the world after the note left its pipe
pub take_steps : (g : Setting) (w u v : WorldData) (h : History) (p : PipeId) (at port : ℕ) (note : Note) → IsStanding g w h
    → reader_of p.edge w.physical.tree ≡ Some (at, port) → has at w.physical.tree ≡ true → p.to < w.physical.workers
    → ((a b : ℕ) → instance_in u.queued_instances a b ≡ instance_in w.queued_instances a b)
    → ListChanged (queue_in w.queued_instances) p (later (queue_in w.queued_instances p.edge p.from p.to)) (queue_in u.queued_instances)
    → note ≡ first_note (queue_in w.queued_instances p.edge p.from p.to)
    → ((s : Spot) (taken : ℕ → ℕ → List Note) (put : ℕ → List Note) → IsLocal s p.to (instance_in u.queued_instances at p.to) taken put → Took s p.to (instance_in u.queued_instances at p.to) port p.from note (instance_in v.queued_instances at p.to))
    → OthersSame (seen u) at p.to (seen v)
    → ((edge a b : ℕ) → queue_in v.queued_instances edge a b ≡ queue_in u.queued_instances edge a b)
    → Steps g (seen w) (events.Take p) (seen v)
take_steps g w u v h p at port note s reader there below same queue note_is took others kept =
    let reader_too : reader_of p.edge g.physical.tree ≡ Some (at, port) = ap (λ (q : PhysicalData). reader_of p.edge q.tree) (sym s.physical) ∙ reader in
    let there_too : has at g.physical.tree ≡ true = subst (λ (q : PhysicalData). has at q.tree ≡ true) s.physical there in
    let below_too : p.to < g.physical.workers = subst (λ (q : PhysicalData). p.to < q.workers) s.physical below in
    let t = subtree_of at g.physical.tree in
    let taken : ℕ → ℕ → List Note = λ q from. lists_at h.taken (slice_get (ports_of g.physical t) q) from p.to in
    let put : ℕ → List Note = λ to. h.put at p.to to in
    let l = s.stands.instances at p.to there_too below_too in
    let i = instance_in w.queued_instances at p.to in
    let j = instance_in v.queued_instances at p.to in
    let took_it = took (spot g t) taken put (subst (λ (x : Instance). IsLocal (spot g t) p.to x taken put) (sym (same at p.to)) l) in
    let step : Takes g (seen w) p at port (seen v) = record {
      instance = subst (λ (n : Note). Took (spot g t) p.to i port p.from n j) note_is (subst (λ (x : Instance). Took (spot g t) p.to x port p.from note j) (same at p.to) took_it);
      others = λ a b other. others a b other ∙ same a b;
      queue = record {
        here = kept p.edge p.from p.to ∙ queue.here;
        elsewhere = λ edge a b other. kept edge a b ∙ queue.elsewhere edge a b other;
      };
    } in
    subst (λ (o : Option (ℕ × ℕ)). TakesBy g (seen w) p o (seen v)) (sym reader_too) step

-- ---- parts of instances

-- an instance's part is kept everywhere if it is kept at the one place that changes
parts_by : (w v : World) (at worker : ℕ) → (v.instance at worker).part ≡ (w.instance at worker).part → OthersSame w at worker v → (a b : ℕ) → (v.instance a b).part ≡ (w.instance a b).part
parts_by w v at worker here others a b = elim (cases_eq a at) as (λ _. (v.instance a b).part ≡ (w.instance a b).part) [
  | inr other ↦ ap (λ (i : Instance). i.part) (others a b (inl other))
  | inl same ↦ elim (cases_eq b worker) as (λ _. (v.instance a b).part ≡ (w.instance a b).part) [
    | inr other ↦ ap (λ (i : Instance). i.part) (others a b (inr other))
    | inl same_too ↦ ap (λ (n : ℕ). (v.instance n b).part) same ∙ ap (λ (n : ℕ). (v.instance at n).part) same_too ∙ here ∙ sym (ap (λ (n : ℕ). (w.instance n b).part) same ∙ ap (λ (n : ℕ). (w.instance at n).part) same_too)
  ]
]

-- no event changes what an instance keeps of its program and plan
pub parts_kept : (g : Setting) (w v : World) (e : Event) → Steps g w e v → (at worker : ℕ) → (v.instance at worker).part ≡ (w.instance at worker).part
parts_kept g w v (events.Put p) h = parts_by w v p.edge p.from (ap (λ (i : Instance). i.part) h.instance) h.others
parts_kept g w v (events.Take p) h = by (reader_of p.edge g.physical.tree) h where
  by : (o : Option (ℕ × ℕ)) → TakesBy g w p o v → (at worker : ℕ) → (v.instance at worker).part ≡ (w.instance at worker).part
  by None t = absurd t
  by (Some reader) t = parts_by w v reader.0 p.to t.instance.part t.others
parts_kept g w v (events.End at worker) h = parts_by w v at worker (ap (λ (i : Instance). i.part) h.instance) h.others

-- ---- the histories that the world represents

pub standing_after : (g : Setting) (w v : WorldData) (h : History) (e : Event) → IsPhysical w.physical → enabled w.physical w.depth (seen w) e ≡ true → IsStanding g w h → Steps g (seen w) e (seen v)
    → v.physical ≡ w.physical → IsWhole v.physical v.queued_instances → IsStanding g v (noted (seen w) e h)
standing_after g w v h e physical can s step same whole = record {
  physical = same ∙ s.physical;
  whole = whole;
  stands = step_stands g w.depth (seen w) (seen v) h e (subst IsPhysical s.physical physical).plan.different s.stands (subst (λ (q : PhysicalData). enabled q w.depth (seen w) e ≡ true) s.physical can) step;
}

pub some_after : (w v : WorldData) (e : Event) → enabled w.physical w.depth (seen w) e ≡ true → StandsForSome w → ((g : Setting) (h : History) → IsStanding g w h → Steps g (seen w) e (seen v))
    → v.physical ≡ w.physical → v.depth ≡ w.depth → IsWhole v.physical v.queued_instances → StandsForSome v
some_after w v e can s steps same deep whole =
    let back : w.physical ≡ v.physical = sym same in
    record {
      program = s.program;
      inputs = s.inputs;
      history = noted (seen w) e s.history;
      is_program = s.is_program;
      are_inputs = s.are_inputs;
      is_physical = subst IsPhysical back s.is_physical;
      plan = subst (λ (q : PhysicalData). IsPlanOf s.program.functions s.program.ops q.tree) back s.plan;
      some_depth = subst (λ (n : ℕ). 1 ≤ n) (sym deep) s.some_depth;
      standing = subst (λ (q : PhysicalData). IsStanding (setting s.program s.inputs q) v (noted (seen w) e s.history)) back
          (standing_after (setting s.program s.inputs w.physical) w v s.history e s.is_physical can s.standing (steps (setting s.program s.inputs w.physical) s.history s.standing) same whole);
    }
