-- The effect of a note on an instance.
use Rattle.std.specs.Prelude.{◌≡◌, ◌≢◌, ◌<◌, ◌+◌, ◌&&◌, ◌||◌, ◌⊎◌, ◌==◌, ℕ, suc, Bool, true, false, cond, List, [], ◌∷◌, ◌++◌, filter, length, slice_get}
use Rattle.std.specs.List.{AllByRecursion}
use Rattle.std.specs.List.Sorted.{IsPermutation}
use Rattle.pact_record.specs.Widths.{AreWide}
use Rattle.tac_syntax.specs.declared.declarations.OpKind.{OpKind}
use Rattle.tac_syntax.specs.declared.declarations.OpKind.TheVariants.{Map, Match, Cross}
use Rattle.pact_operators.specs.Allowed.{Bag, Gives, GivesBoth, count_of}
use Rattle.flow_instance.specs.declared.notes.Note.{Note}
use Rattle.flow_instance.specs.declared.notes.Note.TheVariants.{Batch, End}
use Rattle.flow_instance.specs.Instances.{Instance, all_ended, ended_at, kept_at}
use Rattle.flow_instance.specs.Local.{Gave, IsGiven, IsPartOf, IsReceiver, IsWaiting, KeepsRows, Placed, marks_for, may_match, one_if, rows_for, sender_ended, is_pipelined}
use Rattle.flow_instance.specs.Spots.{Spot, sent}
use Rattle.plan_trees.specs.Sending.{has_out}

-- whether it is an end mark
abbrev pub is_end : Note → Bool
is_end (Batch rows) = false
is_end End = true

-- the records of a batch, and none of an end mark
abbrev pub note_rows : Note → Bag
note_rows (Batch rows) = rows
note_rows End = []

-- ---- a note is taken

-- the output for one note of an operator that works at once; `kept` are the rows kept for port 0
abbrev pub GivesAtOnce : Spot → OpKind → (port : ℕ) → (kept : Bag) → Note → Bag → Type 0
GivesAtOnce s Map port kept (Batch rows) out = Gives s.ops Map s.at rows out
GivesAtOnce s Match (suc port) kept (Batch rows) out = GivesBoth s.ops Match s.at kept rows out
GivesAtOnce s Cross (suc port) kept (Batch rows) out = GivesBoth s.ops Cross s.at kept rows out
GivesAtOnce s kind port kept note out = out ≡ []

-- the kept rows of each port, with the rows of a note at one port
abbrev pub kept_with : (ℕ → Bag) → (port : ℕ) → Note → ℕ → Bag
kept_with kept port note p = kept p ++ cond (p == port) (note_rows note) []

-- the rows that are kept after a note at a port
abbrev pub KeepsMore : Spot → OpKind → (old : ℕ → Bag) → (port : ℕ) → Note → (new : ℕ → Bag) → Type 0
KeepsMore s Match old port note new = IsPermutation (old 0 ++ filter (may_match s) (cond (0 == port) (note_rows note) [])) (new 0)
KeepsMore s kind old port note new = KeepsRows s kind (kept_with old port note) new

-- the output of an instance for one note
abbrev pub GivesNow : (at_once : Bool) → Spot → (worker : ℕ) → (i j : Instance) → (port : ℕ) → Note → Bag → Type 0
GivesNow true s worker i j port note out = GivesAtOnce s s.kind port (kept_at i 0) note out
GivesNow false s worker i j port note out = Gave (all_ended j) (IsGiven s s.kind s.ports worker (kept_with (kept_at i) port note)) out

-- the waiting batches carry these records to all workers that they go to
pub record Carry (s : Spot) (worker : ℕ) (out : Bag) (waiting : List (ℕ × Bag)) : Type 0 where
  pub notes : AllByRecursion (IsWaiting s worker) waiting
  pub sent_on : (to : ℕ) → to < s.workers → IsPermutation (sent s.out s.workers worker to out) (rows_for to waiting)

-- if end marks are owed, one waits for each receiver; otherwise none waits
pub record Mark (s : Spot) (worker : ℕ) (owed : Bool) (marks : List ℕ) : Type 0 where
  pub receivers : AllByRecursion (IsReceiver s worker) marks
  pub each : (to : ℕ) → to < s.workers → marks_for to marks ≡ one_if (has_out s.out worker to && owed)

-- An instance i, for which no note waits, took a note at a port from a sender and became j.
pub record Took (s : Spot) (worker : ℕ) (i : Instance) (port from : ℕ) (note : Note) (j : Instance) : Type 0 where
  pub out : Bag
  pub gives : GivesNow (is_pipelined s.kind) s worker i j port note out
  pub part : j.part ≡ i.part
  pub finished : j.finished ≡ i.finished
  pub ended : (p k : ℕ) → ended_at j p k ≡ ((is_end note && ((p == port) && (k == from))) || ended_at i p k)
  pub kept : all_ended j ≡ false → KeepsMore s s.kind (kept_at i) port note (kept_at j)
  pub kept_wide : (p : ℕ) → AreWide s.fields (kept_at j p)
  pub carries : Carry s worker out j.waiting
  pub marks : Mark s worker (all_ended j) j.marks
  pub placed : Placed s.out (i.placed ++ out) j.placed
  pub placed_wide : AreWide s.fields j.placed
  pub given : j.given ≡ count_of (i.given + length out)

-- ---- a note goes out

-- the note that goes out next
abbrev pub next_note : (waiting : List (ℕ × Bag)) → Note
next_note [] = End
next_note (w ∷ waiting) = Batch w.1

-- the list without its first element
abbrev pub later : {A : Type 0} → List A → List A
later [] = []
later (x ∷ xs) = xs

-- end marks go out once no batch waits
abbrev pub later_marks : (waiting : List (ℕ × Bag)) → List ℕ → List ℕ
later_marks [] marks = later marks
later_marks (w ∷ waiting) marks = marks

-- the receiver of that note
abbrev pub next_receiver : (waiting : List (ℕ × Bag)) → List ℕ → ℕ
next_receiver [] [] = 0
next_receiver [] (m ∷ marks) = m
next_receiver (w ∷ waiting) marks = w.0

-- the instance after its next note is taken out
abbrev pub offered : Instance → Instance
offered i = record i { waiting = later i.waiting; marks = later_marks i.waiting i.marks; receiver = next_receiver i.waiting i.marks }

-- ---- an instance ends

-- only `finished` changes
abbrev pub finish : Instance → Instance
finish i = record i { finished = true }

-- ---- lists of notes

-- one of the lists has one more note
pub record Added (old : ℕ → ℕ → List Note) (a b : ℕ) (note : Note) (new : ℕ → ℕ → List Note) : Type 0 where
  pub here : new a b ≡ old a b ++ note ∷ []
  pub elsewhere : (c d : ℕ) → (c ≢ a) ⊎ (d ≢ b) → new c d ≡ old c d

-- one of an instance's lists has one more note
pub record AddedTo (old : ℕ → List Note) (a : ℕ) (note : Note) (new : ℕ → List Note) : Type 0 where
  pub here : new a ≡ old a ++ note ∷ []
  pub elsewhere : (c : ℕ) → c ≢ a → new c ≡ old c

-- ---- an instance at its start

-- Nothing was taken or put. A source has given its share, which waits or is placed, and its end marks wait.
pub record Started (s : Spot) (worker : ℕ) (i : Instance) : Type 0 where
  pub out : Bag
  pub gives : Gave (is_pipelined s.kind || all_ended i) (IsGiven s s.kind s.ports worker (λ port. [])) out
  pub part : IsPartOf s worker i.part
  pub ended : (port from : ℕ) → from < s.workers → ended_at i port from ≡ sender_ended (slice_get s.ports port) from worker []
  pub kept : KeepsRows s s.kind (λ port. []) (kept_at i)
  pub kept_wide : (port : ℕ) → AreWide s.fields (kept_at i port)
  pub carries : Carry s worker out i.waiting
  pub marks : Mark s worker (all_ended i) i.marks
  pub placed : Placed s.out out i.placed
  pub placed_wide : AreWide s.fields i.placed
  pub given : i.given ≡ count_of (length out)
  pub finished : i.finished ≡ false
