-- The effect of an event on a world and on a history.
use Rattle.std.specs.Prelude.{◌≡◌, ◌≢◌, ◌<◌, ◌≤◌, ◌&&◌, ◌⊎◌, ◌==◌, ℕ, Bool, true, false, cond, Option, Some, None, List, [], ◌∷◌, ◌++◌, length}
use Rattle.plan_trees.specs.Plans.{has, subtree_of}
use Rattle.flow_instance.specs.declared.notes.Event.{Event}
use Rattle.flow_instance.specs.declared.notes.Event.TheVariants.{Put, Take, End}
use Rattle.flow_instance.specs.declared.notes.Note.{Note}
use Rattle.flow_instance.specs.declared.notes.Note.TheVariants as notes
use Rattle.flow_instance.specs.declared.notes.PipeId.{PipeId}
use Rattle.flow_instance.specs.Spots.{Setting, spot}
use Rattle.flow_instance.specs.Steps.{Started, Took, finish, later, next_note, offered}
use Rattle.flow_instance.specs.Worlds.{World, History, enabled, reader_of}

-- ---- lists and instances

-- whether this edge, sender and receiver are the pipe's
abbrev pub is_pipe : PipeId → (edge from to : ℕ) → Bool
is_pipe p edge from to = (edge == p.edge) && ((from == p.from) && (to == p.to))

-- the lists, with one more note on one pipe
abbrev pub added : (ℕ → ℕ → ℕ → List Note) → PipeId → Note → (edge from to : ℕ) → List Note
added lists p note edge from to = lists edge from to ++ cond (is_pipe p edge from to) (note ∷ []) []

-- the list of one pipe changes, and the lists of the others don't
pub record ListChanged (old : ℕ → ℕ → ℕ → List Note) (p : PipeId) (list : List Note) (new : ℕ → ℕ → ℕ → List Note) : Type 0 where
  pub here : new p.edge p.from p.to ≡ list
  pub elsewhere : (edge from to : ℕ) → is_pipe p edge from to ≡ false → new edge from to ≡ old edge from to

-- no other instance changes
abbrev pub OthersSame : World → (at worker : ℕ) → World → Type 0
OthersSame w at worker v = (a b : ℕ) → (a ≢ at) ⊎ (b ≢ worker) → v.instance a b ≡ w.instance a b

-- the first note of a list, or an end mark if the list is empty
abbrev pub first_note : List Note → Note
first_note [] = notes.End
first_note (n ∷ ns) = n

-- ---- worlds

-- the note that a sender wanted to put is now last on its pipe
pub record Puts (w : World) (p : PipeId) (v : World) : Type 0 where
  pub instance : v.instance p.edge p.from ≡ offered (w.instance p.edge p.from)
  pub others : OthersSame w p.edge p.from v
  pub queue : ListChanged w.queue p (w.queue p.edge p.from p.to ++ next_note (w.instance p.edge p.from).waiting ∷ []) v.queue

-- the operator that reads the pipe took its first note, at its port
pub record Takes (setting : Setting) (w : World) (p : PipeId) (at port : ℕ) (v : World) : Type 0 where
  pub instance : Took (spot setting (subtree_of at setting.physical.tree)) p.to (w.instance at p.to) port p.from (first_note (w.queue p.edge p.from p.to)) (v.instance at p.to)
  pub others : OthersSame w at p.to v
  pub queue : ListChanged w.queue p (later (w.queue p.edge p.from p.to)) v.queue

-- The reader of the edge takes the note. Without a reader the event is impossible.
abbrev pub TakesBy : Setting → World → PipeId → Option (ℕ × ℕ) → World → Type 0
TakesBy setting w p None v = ⊥
TakesBy setting w p (Some reader) v = Takes setting w p reader.0 reader.1 v

-- an instance has ended, and no pipe changes
pub record Ends (w : World) (at worker : ℕ) (v : World) : Type 0 where
  pub instance : v.instance at worker ≡ finish (w.instance at worker)
  pub others : OthersSame w at worker v
  pub queue : (edge from to : ℕ) → v.queue edge from to ≡ w.queue edge from to

-- the world after an event
abbrev pub Steps : Setting → World → Event → World → Type 0
Steps setting w (Put p) v = Puts w p v
Steps setting w (Take p) v = TakesBy setting w p (reader_of p.edge setting.physical.tree) v
Steps setting w (End at worker) v = Ends w at worker v

-- ---- histories

-- the history, extended by the note that an event of the world puts or takes
abbrev pub noted : World → Event → History → History
noted w (Put p) h = record { put = added h.put p (next_note (w.instance p.edge p.from).waiting); taken = h.taken }
noted w (Take p) h = record { put = h.put; taken = added h.taken p (first_note (w.queue p.edge p.from p.to)) }
noted w (End at worker) h = h

-- the history before any event
abbrev pub no_history : History
no_history = record { put = λ edge from to. []; taken = λ edge from to. [] }

-- a world at its start
pub record IsStart (setting : Setting) (w : World) : Type 0 where
  pub queue : (edge from to : ℕ) → w.queue edge from to ≡ []
  pub instances : (at worker : ℕ) → has at setting.physical.tree ≡ true → worker < setting.physical.workers → Started (spot setting (subtree_of at setting.physical.tree)) worker (w.instance at worker)

-- a put leaves at most `depth` notes on its pipe
abbrev pub KeepsDepth : (depth : ℕ) → World → Event → World → Type 0
KeepsDepth depth w (Put p) v = length (v.queue p.edge p.from p.to) ≤ depth
KeepsDepth depth w e v = Unit {0}

-- ---- lists of events

-- each event is enabled in the world in which it happens
abbrev pub Runs : Setting → (depth : ℕ) → World → History → List Event → World → History → Type 0
Runs setting depth w h [] v more = (v ≡ w) × (more ≡ h)
Runs setting depth w h (e ∷ es) v more = (next : World) × (enabled setting.physical depth w e ≡ true) × Steps setting w e next × Runs setting depth next (noted w e h) es v more
