-- The fields of an instance, and the instance as data that they represent.
use Rattle.std.specs.Prelude.{◌≡◌, ◌≤◌, ◌<◌, ◌+◌, ◌&&◌, ◌||◌, ◌==◌, ◌⊎◌, ℕ, Bool, true, false, List, [], filter, length, map, not, slice_get, Option, Some, None}
use Rattle.flow_instance.specs.Instances.{Instance, Part as PartData, all_ended, ended_at, kept_at, port_ended}
use Rattle.flow_instance.specs.Local.{Calls, IsGiven, Placed, is_pipelined}
use Rattle.flow_instance.specs.Spots.{Port as PortData, Spot, is_edge, ship_in}
use Rattle.flow_instance.specs.Steps.{Carry, Mark, Took}
use Rattle.flow_instance.specs.declared.notes.Note.{Note}
use Rattle.pact_operators.specs.Allowed.{Bag, count_of}
use Rattle.pact_bag.specs.Pairs.{crossed, matched}
use Rattle.pact_operators.specs.PlanOps.{PlanOps}
use Rattle.pact_operators.specs.Programs.{HasKeyLists, IsKindFor, is_pair_kind, takes}
use Rattle.pact_record.specs.Widths.{AreBelow, AreWide}
use Rattle.plan_trees.specs.Senders.{AreEndedAtStart}
use Rattle.plan_trees.specs.declared.physicals.Ship.{Ship}
use Rattle.tac_syntax.specs.Call.{Out, of_pair}
use Rattle.tac_syntax.specs.Code.{Code, stop}
use Rattle.tac_syntax.specs.Valid.{WithFields}
use Rattle.tac_syntax.specs.declared.declarations.OpKind.{OpKind}
use Rattle.tac_syntax.specs.declared.declarations.OpKind.TheVariants.{Map, Reduce, Match, Cross}
use Rattle.std.specs.List.{AllByRecursion}
use Rattle.std.specs.VecDeque.{deque_capacity, deque_len}
use Rattle.std.specs.List.Sorted.{IsPermutation}
use Rattle.flow_instance.specs.Sending.{IsInOrder, batches_in, marks_in}
use Rattle.flow_instance.specs.declared.addressed_notes.AddressedNote.{AddressedNote}
use Rattle.flow_instance.specs.Keeping.{may_match}
use Rattle.flow_instance.specs.declared.parts.Part.{Part}
use Rattle.flow_instance.specs.declared.parts.Port.{Port}
use Rattle.flow_instance.specs.declared.states.State.{State}

-- ---- the data that they represent

-- a port as data
abbrev pub port_of : Port → PortData
port_of p = record { edge = p.edge; ship = p.ship }

-- the body of the function that is called; a source calls none
abbrev pub body_in : Option WithFields → Code
body_in None = stop
body_in (Some f) = f.function.body

-- the part of the program and the plan that an instance keeps, as data
abbrev pub part_of : Part → PartData
part_of p = record {
  at = p.at;
  kind = p.kind;
  body = body_in p.called;
  left_keys = p.left_keys;
  right_keys = p.right_keys;
  nulls = p.nulls;
  fields = p.fields;
  worker = p.worker;
  workers = p.workers;
  batch = p.batch;
  ports = map port_of p.ports.items;
  out = p.out;
}

-- the instance as data; `rows` gives the rows that a local strategy keeps
abbrev pub seen : {L : Type 0} → (L → Bag) → State L → Instance
seen rows s = record {
  part = part_of s.part;
  left_ended = s.left_ended;
  right_ended = s.right_ended;
  left_kept = rows s.left;
  right_kept = rows s.right;
  waiting = batches_in s.queue.items;
  marks = marks_in s.queue.items;
  receiver = s.receiver;
  placed = s.placed;
  given = s.given;
  finished = s.finished;
}

-- ---- the program and plan of a part

-- the spot with the part's own fields, and the rest from the sources and operators of its program
abbrev pub spot_of : PartData → PlanOps → Spot
spot_of p ops = record { at = p.at; kind = p.kind; workers = p.workers; fields = p.fields; ports = p.ports; out = p.out; ops = ops }

-- the part's function, keys and setting for Nulls are those of its operator
pub record AreOpsOf (ops : PlanOps) (p : PartData) : Type 0 where
  pub calls : Calls (spot_of p ops) p.kind p.fields p.body
  pub left_keys : p.left_keys ≡ ops.left_keys p.at
  pub right_keys : p.right_keys ≡ ops.right_keys p.at
  pub nulls : p.nulls ≡ ops.nulls

-- the waiting notes are in order, and their receivers are workers
pub record AreOrderly (workers : ℕ) (queue : List AddressedNote) : Type 0 where
  pub order : IsInOrder queue
  pub receivers : AllByRecursion (λ p. p.to < workers) queue

-- one more sender has ended at a port; the rows kept for port 0 may be in another order
pub record HasEnded {L : Type 0} (rows : L → Bag) (s : State L) (port from : ℕ) (t : State L) : Type 0 where
  pub same : t ≡ record s { left_ended = t.left_ended; right_ended = t.right_ended; left = t.left }
  pub ended : (p k : ℕ) → ended_at (seen rows t) p k ≡ (((p == port) && (k == from)) || ended_at (seen rows s) p k)
  pub kept : IsPermutation (rows s.left) (rows t.left)

-- the output once all senders have ended; an operator that works at once (`true`) gives nothing more
abbrev pub GivesLast : Bool → (Bag → Type 0) → Bag → Type 0
GivesLast true Given out = out ≡ []
GivesLast false Given out = Given out

-- the output of a Reduce or a CoGroup for the rows that it has kept
abbrev pub AreGivenLast : {L : Type 0} → (L → Bag) → State L → Bag → Type 0
AreGivenLast rows s out = (ops : PlanOps) → AreOpsOf ops (part_of s.part)
    → GivesLast (is_pipelined s.part.kind) (IsGiven (spot_of (part_of s.part) ops) s.part.kind (map port_of s.part.ports.items) s.part.worker (kept_at (seen rows s))) out

-- the function's output for the matching pairs of a kept left record and one of these right records, in some order
abbrev pub ArePairsGiven : {L : Type 0} → (L → Bag) → (L → List ℕ) → State L → (rights out : Bag) → Type 0
ArePairsGiven rows keys s rights out = (f : WithFields) → s.part.called ≡ Some f
    → IsPermutation (crossed (matched s.part.nulls (λ l r. Out f.fields f.function.body (of_pair l r)) (keys s.left) s.part.right_keys) (rows s.left) rights) out

-- it took a note at a port from a sender
abbrev pub HasTaken : {L : Type 0} → (L → Bag) → State L → (port from : ℕ) → Note → State L → Type 0
HasTaken rows s port from note t = (ops : PlanOps) → AreOpsOf ops (part_of s.part) → Took (spot_of (part_of s.part) ops) s.part.worker (seen rows s) port from note (seen rows t)

-- ---- the start

-- which senders of a port have ended before any note has come: those that send nothing there
abbrev pub AreFlagsOf : Part → (port : ℕ) → List Bool → Type 0
AreFlagsOf own port flags = AreEndedAtStart (ship_in (slice_get (map port_of own.ports.items) port)) own.workers own.worker flags

-- nothing was taken or given, and nothing waits
pub record IsFresh {L : Type 0} (rows : L → Bag) (keys : L → List ℕ) (is_sealed : L → Bool) (own : Part) (s : State L) : Type 0 where
  pub part : s.part ≡ own
  pub left_flags : length s.left_ended ≡ own.workers
  pub right_flags : length s.right_ended ≡ own.workers
  pub left_ended : (from : ℕ) → from < own.workers → ended_at (seen rows s) 0 from ≡ not (is_edge (slice_get (map port_of own.ports.items) 0) from own.worker)
  pub right_ended : (from : ℕ) → from < own.workers → ended_at (seen rows s) 1 from ≡ not (is_edge (slice_get (map port_of own.ports.items) 1) from own.worker)
  pub left_none : rows s.left ≡ []
  pub right_none : rows s.right ≡ []
  pub left_keys : keys s.left ≡ own.left_keys
  pub right_keys : keys s.right ≡ own.right_keys
  pub left_sealed : is_sealed s.left ≡ false
  pub right_sealed : is_sealed s.right ≡ false
  pub queue : s.queue.items ≡ []
  pub receiver : s.receiver ≡ own.workers
  pub placed : s.placed ≡ []
  pub given : s.given ≡ 0
  pub finished : s.finished ≡ false

-- it gave these records, and queued its end marks if no sender is still to come
pub record HasBegun {L : Type 0} (rows : L → Bag) (s : State L) (out : Bag) (t : State L) : Type 0 where
  pub same : t ≡ record s { queue = t.queue; placed = t.placed; given = t.given }
  pub counted : t.given ≡ count_of (s.given + length out)
  pub carries : (ops : PlanOps) → Carry (spot_of (part_of s.part) ops) s.part.worker out (batches_in t.queue.items)
  pub marks : (ops : PlanOps) → Mark (spot_of (part_of s.part) ops) s.part.worker (all_ended (seen rows t)) (marks_in t.queue.items)
  pub places : Placed s.part.out out t.placed
  pub wide : AreWide s.part.fields t.placed
  pub orderly : AreOrderly s.part.workers t.queue.items

-- ---- invariants of an instance that still takes notes

-- it calls a function of its kind, its keys are fields, and it has the ports of its kind
pub record IsOperator (p : Part) : Type 0 where
  pub function : WithFields
  pub called : p.called ≡ Some function
  pub fields : function.fields ≡ p.fields
  pub kind : IsKindFor p.kind function.function.kind
  pub keys : HasKeyLists p.kind function.function.keys p.left_keys p.right_keys
  pub left_below : AreBelow p.fields p.left_keys
  pub right_below : AreBelow p.fields p.right_keys
  pub arity : takes p.kind ≡ length p.ports.items

-- whether the kind is a Map, a Match, and so on
abbrev pub is_map : OpKind → Bool
is_map Map = true
is_map kind = false

abbrev pub is_cross : OpKind → Bool
is_cross Cross = true
is_cross kind = false

abbrev pub is_reduce : OpKind → Bool
is_reduce Reduce = true
is_reduce kind = false

abbrev pub is_match : OpKind → Bool
is_match Match = true
is_match kind = false

-- The rows that are kept of those that come to port 0. A Match keeps only those that may match.
abbrev pub needed_of : Part → OpKind → Bag → Bag
needed_of p Match rows = filter (may_match p.nulls p.left_keys) rows
needed_of p kind rows = rows

-- A Match or a Cross seals the rows kept for port 0 once that port has ended, since each row of port 1 looks them up.
abbrev pub is_built : OpKind → (left_ended : Bool) → Bool
is_built kind left_ended = is_pair_kind kind && left_ended

-- only the root places records
abbrev pub PlacesAtRoot : Option Ship → Bag → Type 0
PlacesAtRoot None placed = Unit {0}
PlacesAtRoot (Some ship) placed = placed ≡ []

-- The invariant of an instance that can take notes: its fields fit its part, and all rows that it has kept and placed
-- have the program's number of fields.
pub record IsSound {L : Type 0} (rows : L → Bag) (keys : L → List ℕ) (is_sealed : L → Bool) (s : State L) : Type 0 where
  pub batch : 1 ≤ s.part.batch
  pub worker : s.part.worker < s.part.workers
  pub operator : IsOperator s.part
  pub left_flags : length s.left_ended ≡ s.part.workers
  pub right_flags : length s.right_ended ≡ s.part.workers
  pub left_wide : AreWide s.part.fields (rows s.left)
  pub right_wide : AreWide s.part.fields (rows s.right)
  pub left_keys : keys s.left ≡ s.part.left_keys
  pub right_keys : keys s.right ≡ s.part.right_keys
  pub left_sealed : is_sealed s.left ≡ is_built s.part.kind (port_ended (seen rows s) 0)
  pub right_sealed : is_sealed s.right ≡ false
  pub placed_wide : AreWide s.part.fields s.placed
  pub placed_at_root : PlacesAtRoot s.part.out s.placed
  pub counted : s.given ≡ count_of s.given

-- it may take a note at the port
pub record IsReady {L : Type 0} (rows : L → Bag) (keys : L → List ℕ) (is_sealed : L → Bool) (s : State L) (port : ℕ) : Type 0 where
  pub sound : IsSound rows keys is_sealed s
  pub none : s.queue.items ≡ []
  pub there : port < length s.part.ports.items
  pub not_ended : port_ended (seen rows s) port ≡ false
  pub which : (port ≡ 0) ⊎ ((port ≡ 1) × (port_ended (seen rows s) 0 ≡ true))

-- there are at most as many flags as workers
pub record HasFlags {L : Type 0} (s : State L) : Type 0 where
  pub left : length s.left_ended ≤ s.part.workers
  pub right : length s.right_ended ≤ s.part.workers

-- The instance is sound until every sender has ended. After that nothing more is taken.
abbrev pub IsSoundIfTaking : {L : Type 0} → (L → Bag) → (L → List ℕ) → (L → Bool) → State L → Type 0
IsSoundIfTaking rows keys is_sealed s = all_ended (seen rows s) ≡ false → IsSound rows keys is_sealed s

-- ---- the invariant of every instance

-- There are at most as many flags as workers. The waiting notes are in order. While a note is out, the queue has room
-- to take it back.
pub record IsWhole {L : Type 0} (rows : L → Bag) (keys : L → List ℕ) (is_sealed : L → Bool) (s : State L) : Type 0 where
  pub taking : IsSoundIfTaking rows keys is_sealed s
  pub flags : HasFlags s
  pub orderly : AreOrderly s.part.workers s.queue.items
  pub room : s.receiver < s.part.workers → deque_len s.queue < deque_capacity s.queue
