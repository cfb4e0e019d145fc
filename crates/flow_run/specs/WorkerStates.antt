-- A worker as data, and the events of its own instances.
use Rattle.std.specs.Prelude.{◌≡◌, ◌≢◌, ◌≤◌, ◌<◌, ◌^◌, ◌⊎◌, ℕ, true, false, Some, List, get_or, length, slice_get}
use Rattle.batch_channel.specs.Ends.{APipe}
use Rattle.plan_trees.specs.Physicals.{IsPhysical}
use Rattle.plan_trees.specs.Plans.{has, subtree_of}
use Rattle.flow_instance.specs.declared.notes.Note.{Note}
use Rattle.flow_instance.specs.declared.notes.Want.{Want}
use Rattle.flow_instance.specs.declared.notes.Want.TheVariants.{Take, Put, End, Done}
use Rattle.flow_instance.specs.Instances.{Instance, ended_at, want}
use Rattle.flow_instance.specs.Local.{IsLocal}
use Rattle.flow_instance.specs.Notes.{IsNote}
use Rattle.flow_instance.specs.Spots.{Port, Setting, is_edge, ports_of, spot}
use Rattle.flow_instance.specs.Steps.{Added, finish, next_note, offered}
use Rattle.flow_instance.specs.Worlds.{lists_at}
use Rattle.flow_core.specs.QueuedInstances.{TakesNote}
use Rattle.flow_core.specs.Worlds.{no_instance}
use Rattle.flow_run.specs.Tables.{cell, cell_in}
use Rattle.flow_run.specs.Ends.{ArePipes, ArePuts, AreTakes, EndTable, PipeTables, notes_in}

-- A worker's instances by the number of their source or operator, the notes that it put by edge and receiver, and those
-- that it took by edge and sender.
pub record WorkerState : Type 0 where
  pub instance : ℕ → Instance
  pub put : ℕ → ℕ → List Note
  pub taken : ℕ → ℕ → List Note

abbrev pub worker_state : List Instance → EndTable → EndTable → WorkerState
worker_state instances puts takes = record {
  instance = λ at. get_or instances at no_instance;
  put = λ edge to. notes_in (cell puts edge to);
  taken = λ edge from. notes_in (cell takes edge from);
}

-- the other instances are the same
abbrev pub OthersStay : WorkerState → (at : ℕ) → WorkerState → Type 0
OthersStay b at c = (k : ℕ) → k ≢ at → c.instance k ≡ b.instance k

abbrev pub PutsStay : WorkerState → WorkerState → Type 0
PutsStay b c = (edge to : ℕ) → c.put edge to ≡ b.put edge to

abbrev pub TakenStay : WorkerState → WorkerState → Type 0
TakenStay b c = (edge from : ℕ) → c.taken edge from ≡ b.taken edge from

-- ---- events

-- the instance put a note
pub record Puts (b : WorkerState) (at : ℕ) (c : WorkerState) : Type 0 where
  pub to : ℕ
  pub wanted : want (b.instance at) ≡ Put to
  pub instance : c.instance at ≡ offered (b.instance at)
  pub others : OthersStay b at c
  pub put : Added b.put at to (next_note (b.instance at).waiting) c.put
  pub taken : TakenStay b c

-- The instance takes a note at the port from a sender that hasn't ended there. The end of that pipe has taken the note.
pub record TakesAt (i : Instance) (worker port : ℕ) (taken : ℕ → ℕ → List Note) (j : Instance) (more : ℕ → ℕ → List Note) : Type 0 where
  pub from : ℕ
  pub note : Note
  pub reads : Port
  pub port_is : slice_get i.part.ports port ≡ Some reads
  pub edge : is_edge (Some reads) from worker ≡ true
  pub below : from < i.part.workers
  pub sends : ended_at i port from ≡ false
  pub is_note : IsNote i.part.fields note
  pub takes_it : TakesNote i port from note j
  pub added : Added taken reads.edge from note more

-- the instance took a note
pub record Takes (worker : ℕ) (b : WorkerState) (at : ℕ) (c : WorkerState) : Type 0 where
  pub port : ℕ
  pub wanted : want (b.instance at) ≡ Take port
  pub took : TakesAt (b.instance at) worker port b.taken (c.instance at) c.taken
  pub others : OthersStay b at c
  pub put : PutsStay b c

-- the instance ended
pub record Ends (b : WorkerState) (at : ℕ) (c : WorkerState) : Type 0 where
  pub wanted : want (b.instance at) ≡ End
  pub instance : c.instance at ≡ finish (b.instance at)
  pub others : OthersStay b at c
  pub put : PutsStay b c
  pub taken : TakenStay b c

abbrev pub Happens : (worker : ℕ) → WorkerState → (at : ℕ) → WorkerState → Type 0
Happens worker b at c = Puts b at c ⊎ (Takes worker b at c ⊎ Ends b at c)

-- There was no event. If a note was offered and taken back, the instance's receiver may have changed, which has no
-- meaning while no note is out.
pub record Rests (b : WorkerState) (at : ℕ) (c : WorkerState) : Type 0 where
  pub receiver : ℕ
  pub instance : c.instance at ≡ record (b.instance at) { receiver = receiver }
  pub others : OthersStay b at c
  pub put : PutsStay b c
  pub taken : TakenStay b c

-- events of the worker's own instances, one after the other, and nothing else
pub data Works (worker count : ℕ) : WorkerState → WorkerState → Type 0 where
  nothing : {b : WorkerState} → Works worker count b b
  rested : {b c d : WorkerState} (at : ℕ) → Works worker count b c → at < count → Rests c at d → Works worker count b d
  happened : {b c d : WorkerState} (at : ℕ) → Works worker count b c → at < count → Happens worker c at d → Works worker count b d

-- ---- when a worker leaves

-- An instance waits for a note, or for room: its end has put at least as many notes as the pipe holds.
abbrev pub Held : PipeTables → (worker : ℕ) → WorkerState → (at : ℕ) → Want → Type 0
Held pipes worker b at (Take port) = Unit {0}
Held pipes worker b at (Put to) = (p : APipe) × (cell_in pipes at worker to ≡ Some p) × (p.depth ≤ length (b.put at to))
Held pipes worker b at End = ⊥
Held pipes worker b at Done = Unit {0}

abbrev pub HeldAt : PipeTables → (worker : ℕ) → WorkerState → (at : ℕ) → Type 0
HeldAt pipes worker b at = Held pipes worker b at (want (b.instance at))

-- each of the first `count` instances waits, or is done
abbrev pub AllHeld : PipeTables → (worker count : ℕ) → WorkerState → Type 0
AllHeld pipes worker count b = (at : ℕ) → at < count → HeldAt pipes worker b at

-- ---- instances that follow from the lists of their ends

abbrev pub LocalAt : Setting → (worker : ℕ) → WorkerState → (at : ℕ) → Type 0
LocalAt g worker b at =
    IsLocal (spot g (subtree_of at g.physical.tree)) worker (b.instance at)
    (λ port from. lists_at (λ edge from to. b.taken edge from) (slice_get (ports_of g.physical (subtree_of at g.physical.tree)) port) from worker) (λ to. b.put at to)

abbrev pub AllLocal : Setting → (worker : ℕ) → WorkerState → Type 0
AllLocal g worker b = (at : ℕ) → has at g.physical.tree ≡ true → LocalAt g worker b at

-- ---- what `work` requires

-- Its instances are those of a physical plan, and follow from the lists of its ends, which are ends of that plan's
-- pipes.
pub record IsReadyFor (g : Setting) (fields worker : ℕ) (pipes : PipeTables) (instances : List Instance) (puts takes : EndTable) : Type 0 where
  pub physical : IsPhysical g.physical
  pub fields_are : g.fields ≡ fields
  pub below : worker < g.physical.workers
  pub few : length instances < 2 ^ 32
  pub only : (at : ℕ) → at < length instances → has at g.physical.tree ≡ true
  pub local : AllLocal g worker (worker_state instances puts takes)
  pub pipes_are : ArePipes g.physical pipes
  pub puts_are : ArePuts pipes worker puts
  pub takes_are : AreTakes pipes worker takes

-- For all programs, physical plans and inputs: if the worker was ready for them before, it is ready for them with the
-- later instances and ends.
pub record StaysReady (fields worker : ℕ) (pipes : PipeTables) (instances : List Instance) (puts takes : EndTable) (more : List Instance) (puts' takes' : EndTable) : Type 0 where
  pub stays : (g : Setting) → IsReadyFor g fields worker pipes instances puts takes → IsReadyFor g fields worker pipes more puts' takes'

-- The worker is ready for some program, physical plan and inputs.
pub record IsReady (fields worker : ℕ) (pipes : PipeTables) (instances : List Instance) (puts takes : EndTable) : Type 0 where
  pub setting : Setting
  pub ready : IsReadyFor setting fields worker pipes instances puts takes
