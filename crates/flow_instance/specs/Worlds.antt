-- Worlds of instances and pipes, histories of notes, and the events that are possible.
use Rattle.std.specs.Prelude.{◌≡◌, ◌<◌, ◌≤◌, ◌&&◌, ◌⊎◌, ◌==◌, nat_lt, ℕ, Bool, true, false, if◌then◌else◌, Option, Some, None, List, [], ◌++◌, length, slice_get}
use Rattle.plan_trees.specs.Physicals.{PhysicalData}
use Rattle.plan_trees.specs.Plans.{PlanTree, leaf, over, both, root_of, has, subtree_of}
use Rattle.flow_instance.specs.declared.notes.Event.{Event}
use Rattle.flow_instance.specs.declared.notes.Event.TheVariants.{Put, Take, End}
use Rattle.flow_instance.specs.declared.notes.Note.{Note}
use Rattle.flow_instance.specs.declared.notes.PipeId.{PipeId}
use Rattle.flow_instance.specs.declared.notes.Want.{Want}
use Rattle.flow_instance.specs.declared.notes.Want.TheVariants as wants
use Rattle.flow_instance.specs.Instances.{Instance, want}
use Rattle.flow_instance.specs.Local.{IsLocal}
use Rattle.flow_instance.specs.Spots.{Port, Setting, ports_of, spot}

-- An instance for each source and operator on each worker, and the notes on each pipe, by the edge and the workers of
-- sender and receiver.
pub record World : Type 0 where
  pub instance : ℕ → ℕ → Instance
  pub queue : ℕ → ℕ → ℕ → List Note

-- The notes put on each pipe and taken from it. The order between different pipes isn't kept.
pub record History : Type 0 where
  pub put : ℕ → ℕ → ℕ → List Note
  pub taken : ℕ → ℕ → ℕ → List Note

-- the list of the pipe from a sender to a worker at a port; a port that doesn't exist has no notes
abbrev pub lists_at : (ℕ → ℕ → ℕ → List Note) → Option Port → (from worker : ℕ) → List Note
lists_at lists None from worker = []
lists_at lists (Some port) from worker = lists port.edge from worker

-- the instance at a tree's root agrees with the lists of its pipes (`IsLocal`)
abbrev pub LocalAt : Setting → World → History → PlanTree → (at worker : ℕ) → Type 0
LocalAt setting w h t at worker =
    IsLocal (spot setting t) worker (w.instance at worker) (λ port from. lists_at h.taken (slice_get (ports_of setting.physical t) port) from worker) (λ to. h.put at worker to)

-- whether one of these two numbers isn't a worker's
abbrev pub IsOutside : (workers from to : ℕ) → Type 0
IsOutside workers from to = (workers ≤ from) ⊎ (workers ≤ to)

-- A world agrees with a history. There is one condition for each pipe and one for each instance.
pub record Stands (setting : Setting) (w : World) (h : History) : Type 0 where
  pub pipe : (edge from to : ℕ) → h.put edge from to ≡ h.taken edge from to ++ w.queue edge from to
  pub outside : (edge from to : ℕ) → IsOutside setting.physical.workers from to → h.put edge from to ≡ []
  pub instances : (at worker : ℕ) → has at setting.physical.tree ≡ true → worker < setting.physical.workers → LocalAt setting w h (subtree_of at setting.physical.tree) at worker

-- ---- possible events

-- the first one, and the second if the first is None
abbrev pub first_of : Option (ℕ × ℕ) → Option (ℕ × ℕ) → Option (ℕ × ℕ)
first_of None other = other
first_of (Some x) other = Some x

-- the operator of a tree that reads an edge, and the port
abbrev pub reader_of : ℕ → PlanTree → Option (ℕ × ℕ)
reader_of edge (leaf n) = None
reader_of edge (over n t) = if edge == root_of t then Some (n, 0) else reader_of edge t
reader_of edge (both n t u) =
    if edge == root_of t then Some (n, 0) else (if edge == root_of u then Some (n, 1) else first_of (reader_of edge t) (reader_of edge u))

-- whether two wants are equal
abbrev pub does_want : Want → Want → Bool
does_want (wants.Take p) (wants.Take q) = p == q
does_want (wants.Put p) (wants.Put q) = p == q
does_want wants.End wants.End = true
does_want wants.Done wants.Done = true
does_want a b = false

-- whether the reader wants to take at its port and the pipe has a note
abbrev pub can_take : World → PipeId → Option (ℕ × ℕ) → Bool
can_take w p None = false
can_take w p (Some reader) = does_want (want (w.instance reader.0 p.to)) (wants.Take reader.1) && nat_lt 0 (length (w.queue p.edge p.from p.to))

-- A put is enabled if the sender wants it and the pipe holds fewer notes than the depth. A take is enabled if the
-- receiver wants that port and the pipe holds a note. An end is enabled if the instance wants to end.
abbrev pub enabled : PhysicalData → (depth : ℕ) → World → Event → Bool
enabled p depth w (Put pipe) =
    (has pipe.edge p.tree && nat_lt pipe.from p.workers)
    && (does_want (want (w.instance pipe.edge pipe.from)) (wants.Put pipe.to) && nat_lt (length (w.queue pipe.edge pipe.from pipe.to)) depth)
enabled p depth w (Take pipe) = (nat_lt pipe.from p.workers && nat_lt pipe.to p.workers) && can_take w pipe (reader_of pipe.edge p.tree)
enabled p depth w (End at worker) = (has at p.tree && nat_lt worker p.workers) && does_want (want (w.instance at worker)) wants.End

-- no event is enabled
abbrev pub IsStuck : PhysicalData → (depth : ℕ) → World → Type 0
IsStuck p depth w = (e : Event) → enabled p depth w e ≡ false

-- every instance is done
abbrev pub AreDone : PhysicalData → World → Type 0
AreDone p w = (at worker : ℕ) → has at p.tree ≡ true → worker < p.workers → want (w.instance at worker) ≡ wants.Done
