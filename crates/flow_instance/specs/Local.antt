-- The relation between an instance and the notes that it has taken and put.
use Rattle.std.specs.Prelude.{◌≡◌, ◌<◌, ◌+◌, ◌&&◌, ◌||◌, ◌==◌, not, cond, ℕ, Bool, true, false, Option, Some, None, List, [], ◌∷◌, ◌++◌, length, filter, slice_get}
use Rattle.std.specs.List.{AllByRecursion}
use Rattle.std.specs.List.Sorted.{IsPermutation}
use Rattle.pact_record.specs.declared.values.Value.{Value}
use Rattle.pact_record.specs.Record.{key_of}
use Rattle.pact_record.specs.Widths.{AreWide}
use Rattle.tac_syntax.specs.Call.{of_record, of_pair, of_group, of_groups, Out}
use Rattle.tac_syntax.specs.Code.{Code}
use Rattle.tac_syntax.specs.declared.declarations.OpKind.{OpKind}
use Rattle.tac_syntax.specs.declared.declarations.OpKind.TheVariants.{Source, Map, Reduce, Match, Cross, CoGroup}
use Rattle.plan_trees.specs.declared.physicals.Ship.{Ship}
use Rattle.plan_trees.specs.Sending.{all_of, share_from, has_out}
use Rattle.pact_operators.specs.Allowed.{Bag, Gives, GivesBoth, count_of}
use Rattle.pact_bag.specs.Pairs.{has_null}
use Rattle.flow_instance.specs.declared.notes.Note.{Note}
use Rattle.flow_instance.specs.Instances.{Instance, Part, all_ended, ended_at, kept_at, port_ended}
use Rattle.flow_instance.specs.Notes.{AreNotes, has_end, rows_of}
use Rattle.flow_instance.specs.Spots.{Port, Spot, is_edge, sent}

-- ---- what an instance keeps of the program and the plan

-- the function that an instance calls is its operator's; a source has none
abbrev pub Calls : Spot → OpKind → ℕ → Code → Type 0
Calls s Source fields body = Unit {0}
Calls s Map fields body = (row : List Value) → s.ops.of_record s.at row ≡ Out fields body (of_record row)
Calls s Reduce fields body = (key : List Value) (group : Bag) → s.ops.of_group s.at key group ≡ Out fields body (of_group key group)
Calls s Match fields body = (left right : List Value) → s.ops.of_pair s.at left right ≡ Out fields body (of_pair left right)
Calls s Cross fields body = (left right : List Value) → s.ops.of_pair s.at left right ≡ Out fields body (of_pair left right)
Calls s CoGroup fields body = (key : List Value) (left right : Bag) → s.ops.of_groups s.at key left right ≡ Out fields body (of_groups key left right)

-- The part agrees with the program and the plan at this operator.
pub record IsPartOf (s : Spot) (on : ℕ) (p : Part) : Type 0 where
  pub at : p.at ≡ s.at
  pub kind : p.kind ≡ s.kind
  pub calls : Calls s p.kind p.fields p.body
  pub left_keys : p.left_keys ≡ s.ops.left_keys s.at
  pub right_keys : p.right_keys ≡ s.ops.right_keys s.at
  pub nulls : p.nulls ≡ s.ops.nulls
  pub fields : p.fields ≡ s.fields
  pub worker : p.worker ≡ on
  pub workers : p.workers ≡ s.workers
  pub ports : p.ports ≡ s.ports
  pub out : p.out ≡ s.out

-- ---- what was taken

-- the records that were taken at a port
abbrev pub taken_rows : ℕ → (port_from : ℕ → ℕ → List Note) → ℕ → Bag
taken_rows workers taken port = all_of workers (λ from. rows_of (taken port from))

-- Whether a sender has ended, by the notes that were taken from it. A sender without a pipe to this worker counts as
-- ended.
abbrev pub sender_ended : Option Port → (from worker : ℕ) → List Note → Bool
sender_ended port from worker notes = not (is_edge port from worker) || has_end notes

-- ---- the records given

-- whether an operator of this kind gives records before it has taken all
abbrev pub is_pipelined : OpKind → Bool
is_pipelined Reduce = false
is_pipelined CoGroup = false
is_pipelined kind = true

-- The output that an operator of this kind with these ports may give for the records of its ports. A source gives its
-- share of the rows.
abbrev pub MayGive : Spot → OpKind → List Port → (worker : ℕ) → (left right out : Bag) → Type 0
MayGive s kind [] worker left right out = out ≡ share_from 0 s.workers worker (s.ops.rows s.at)
MayGive s kind (p ∷ []) worker left right out = Gives s.ops kind s.at left out
MayGive s kind (p ∷ q ∷ []) worker left right out = GivesBoth s.ops kind s.at left right out
MayGive s kind (p ∷ q ∷ r ∷ ports) worker left right out = ⊥

-- The given records are, in some order, an output that the operator may give for the records of its ports in some
-- order.
pub record IsGiven (s : Spot) (kind : OpKind) (ports : List Port) (worker : ℕ) (rows : ℕ → Bag) (given : Bag) : Type 0 where
  pub left : Bag
  pub right : Bag
  pub out : Bag
  pub of_left : IsPermutation (rows 0) left
  pub of_right : IsPermutation (rows 1) right
  pub may : MayGive s kind ports worker left right out
  pub permuted : IsPermutation out given

-- an operator that waits for all its input has given nothing before that
abbrev pub Gave : Bool → (Bag → Type 0) → Bag → Type 0
Gave true Given given = Given given
Gave false Given given = given ≡ []

-- the root, which has no outgoing edge, places what it gives
abbrev pub Placed : Option Ship → (given placed : Bag) → Type 0
Placed None given placed = IsPermutation given placed
Placed (Some ship) given placed = placed ≡ []

-- ---- notes that wait

-- the records of the batches for a receiver
abbrev pub rows_for : ℕ → List (ℕ × Bag) → Bag
rows_for to [] = []
rows_for to (w ∷ waiting) = cond (w.0 == to) w.1 [] ++ rows_for to waiting

-- a Bool as a number
abbrev pub one_if : Bool → ℕ
one_if b = cond b 1 0

-- how many end marks wait for a receiver
abbrev pub marks_for : ℕ → List ℕ → ℕ
marks_for to [] = 0
marks_for to (m ∷ marks) = one_if (m == to) + marks_for to marks

-- a worker to which this one sends notes
abbrev pub IsReceiver : Spot → (worker to : ℕ) → Type 0
IsReceiver s worker to = (to < s.workers) × (has_out s.out worker to ≡ true)

-- a batch for a receiver; it isn't empty
abbrev pub IsWaiting : Spot → (worker : ℕ) → ℕ × Bag → Type 0
IsWaiting s worker w = IsReceiver s worker w.0 × (0 < length w.1) × AreWide s.fields w.1

-- ---- rows that are kept

-- Whether a left record of a Match may match another one. If Nulls don't match, a key with a Null matches nothing.
abbrev pub may_match : Spot → List Value → Bool
may_match s row = s.ops.nulls || not (has_null (key_of (s.ops.left_keys s.at) row))

-- the rows of each port that a call may still need, in some order
abbrev pub KeepsRows : Spot → OpKind → (taken kept : ℕ → Bag) → Type 0
KeepsRows s Source taken kept = Unit {0}
KeepsRows s Map taken kept = Unit {0}
KeepsRows s Reduce taken kept = IsPermutation (taken 0) (kept 0)
KeepsRows s Match taken kept = IsPermutation (filter (may_match s) (taken 0)) (kept 0)
KeepsRows s Cross taken kept = IsPermutation (taken 0) (kept 0)
KeepsRows s CoGroup taken kept = IsPermutation (taken 0) (kept 0) × IsPermutation (taken 1) (kept 1)

-- ---- instances

-- The instance of a source or operator on a worker agrees with the notes that it has taken and put. `taken` has the
-- notes by port and sender, `put` by receiver.
pub record IsLocal (s : Spot) (worker : ℕ) (i : Instance) (taken : ℕ → ℕ → List Note) (put : ℕ → List Note) : Type 0 where
  -- the records given so far, in some order
  pub given : Bag
  -- the instance keeps what the program and the plan have at its operator
  pub part : IsPartOf s worker i.part
  -- An end mark is the last of its list. Batches aren't empty. Each record has the program's fields. Notes come only
  -- along pipes.
  pub taken_notes : (port from : ℕ) → AreNotes s.fields (taken port from)
  pub put_notes : (to : ℕ) → AreNotes s.fields (put to)
  pub waiting_notes : AllByRecursion (IsWaiting s worker) i.waiting
  pub no_edge : (port from : ℕ) → is_edge (slice_get s.ports port) from worker ≡ false → taken port from ≡ []
  -- the given records follow from the notes taken
  pub gave : Gave (is_pipelined s.kind || all_ended i) (IsGiven s s.kind s.ports worker (taken_rows s.workers taken)) given
  pub counted : i.given ≡ count_of (length given)
  -- Each given record was put or waits, once for each worker that it goes to, and no other record was put or waits.
  pub sent_on : (to : ℕ) → to < s.workers → IsPermutation (sent s.out s.workers worker to given) (rows_of (put to) ++ rows_for to i.waiting)
  pub placed : Placed s.out given i.placed
  pub placed_wide : AreWide s.fields i.placed
  -- Once every port has ended, each receiver's one end mark was put or waits. It is put after every batch.
  pub marks_wait : AllByRecursion (IsReceiver s worker) i.marks
  pub marked : (to : ℕ) → to < s.workers → one_if (has_end (put to)) + marks_for to i.marks ≡ one_if (has_out s.out worker to && all_ended i)
  pub marked_last : (to : ℕ) → to < s.workers → has_end (put to) ≡ true → i.waiting ≡ []
  -- nothing is taken at port 1 before port 0 has ended
  pub in_order : port_ended i 0 ≡ false → (from : ℕ) → taken 1 from ≡ []
  -- it ends when nothing is left to do
  pub finished : i.finished ≡ true → (i.waiting ≡ []) × (i.marks ≡ []) × (all_ended i ≡ true)
  -- the senders that have ended are those whose end mark was taken
  pub ended : (port from : ℕ) → from < s.workers → ended_at i port from ≡ sender_ended (slice_get s.ports port) from worker (taken port from)
  -- it keeps the rows that are still needed
  pub kept : all_ended i ≡ false → KeepsRows s s.kind (taken_rows s.workers taken) (kept_at i)
  pub kept_wide : (port : ℕ) → AreWide s.fields (kept_at i port)
