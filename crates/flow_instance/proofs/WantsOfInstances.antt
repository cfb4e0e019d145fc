-- The wants of an instance, and when it may take a note.
use Rattle.std.proofs.Common.{◌≡◌, ◌<◌, ◌≤◌, ◌+◌, ◌-◌, ◌&&◌, ◌⊎◌, inl, inr, ℕ, zero, suc, Bool, true, false, Option, Some, None, List, [], ◌∷◌, length, map, get_or, slice_get, refl, ap, sym, ◌∙◌, subst, arith}
use Rattle.std.specs.Prelude.{IsSome, ◌↔◌}
use Rattle.flow_instance.proofs.LocalAfterTakes.{IsTaking, not_all, taking_by}
use Rattle.flow_instance.specs.Instances.{Instance, all_ended, port_ended, want, want_by}
use Rattle.flow_instance.specs.Notes.{AreNotes, IsNote}
use Rattle.plan_trees.specs.Senders.{all_below}
use Rattle.flow_instance.specs.Spots.{is_edge}
use Rattle.flow_instance.specs.declared.notes.Note.{Note}
use Rattle.flow_instance.specs.declared.notes.Note.TheVariants as notes
use Rattle.flow_instance.specs.declared.notes.Want.TheVariants.{Done, End, Take}
use Rattle.pact_operators.specs.Allowed.{Bag}
use Rattle.flow_instance.specs.Sending.{batches_in, marks_in, with_batch, with_mark}
use Rattle.flow_instance.specs.States.{AreOrderly, IsReady, IsWhole, part_of, port_of, seen}
use Rattle.flow_instance.specs.declared.addressed_notes.AddressedNote.{AddressedNote}
use Rattle.flow_instance.specs.declared.parts.Port.{Port}
use Rattle.flow_instance.specs.declared.states.State.{State}

-- ---- flags

all_below-more : (n k m : ℕ) (f : ℕ → Bool) → m ≡ k + n → ((x : ℕ) → n ≤ x → f x ≡ true) → all_below m f ≡ all_below n f
all_below-more n zero m f e h = let same : m ≡ n = omega (arith, e) in ap (λ (x : ℕ). all_below x f) same
all_below-more n (suc k) zero f e h = absurd (omega (arith, e))
all_below-more n (suc k) (suc m) f e h = (λ i. h m (omega (arith, e)) i && all_below m f) ∙ all_below-more n k m f (omega (arith, e)) h

past : (flags : List Bool) (m : ℕ) → length flags ≤ m → get_or flags m true ≡ true
past [] m le = refl
past (x ∷ flags) zero le = absurd (omega (arith, le))
past (x ∷ flags) (suc m) le = past flags m (omega (arith, le))

-- the flags decide whether all of the given number of senders have ended
pub all_flags : (flags : List Bool) (workers : ℕ) (all b : Bool) → length flags ≤ workers → all ≡ all_below (length flags) (λ k. get_or flags k true) → all ≡ b → all_below workers (λ k. get_or flags k true) ≡ b
all_flags flags workers all b le told is =
    let split : workers ≡ (workers - length flags) + length flags = omega (arith, le) in
    all_below-more (length flags) (workers - length flags) workers (λ k. get_or flags k true) split (past flags) ∙ sym told ∙ is

pub wants_left : (i : Instance) → i.waiting ≡ [] → i.marks ≡ [] → port_ended i 0 ≡ false → Take 0 ≡ want i
wants_left i w m e = λ x. want_by (sym w x) (sym m x) (sym e x) (port_ended i 1) i.finished

pub wants_right : (i : Instance) → i.waiting ≡ [] → i.marks ≡ [] → port_ended i 0 ≡ true → port_ended i 1 ≡ false → Take 1 ≡ want i
wants_right i w m e f = λ x. want_by (sym w x) (sym m x) (sym e x) (sym f x) i.finished

pub wants_end : (i : Instance) → i.waiting ≡ [] → i.marks ≡ [] → port_ended i 0 ≡ true → port_ended i 1 ≡ true → i.finished ≡ false → End ≡ want i
wants_end i w m e f n = λ x. want_by (sym w x) (sym m x) (sym e x) (sym f x) (sym n x)

pub wants_none : (i : Instance) → i.waiting ≡ [] → i.marks ≡ [] → port_ended i 0 ≡ true → port_ended i 1 ≡ true → i.finished ≡ true → Done ≡ want i
wants_none i w m e f n = λ x. want_by (sym w x) (sym m x) (sym e x) (sym f x) (sym n x)

-- ---- a note that is taken

none_by : (to : ℕ) (note : Note) (others : List (ℕ × Bag)) (marks : List ℕ) → with_batch to note others ≡ [] → with_mark to note marks ≡ [] → ⊥
none_by to (notes.Batch rows) others marks e f = cc
none_by to notes.End others marks e f = cc

no_addressed_notes : (queue : List AddressedNote) → batches_in queue ≡ [] → marks_in queue ≡ [] → queue ≡ []
no_addressed_notes [] e f = refl
no_addressed_notes (p ∷ queue) e f = absurd (none_by p.to p.note (batches_in queue) (marks_in queue) e f)

there_by : (ports : List Port) (port from worker : ℕ) → is_edge (slice_get (map port_of ports) port) from worker ≡ true → port < length ports
there_by [] port from worker e = absurd (cc)
there_by (p ∷ ports) zero from worker e = omega arith
there_by (p ∷ ports) (suc port) from worker e = omega (arith, there_by ports port from worker e)

not_ended_at : (i : Instance) (port : ℕ) → IsTaking i.waiting i.marks (port_ended i 0) (port_ended i 1) port → port_ended i port ≡ false
not_ended_at i port t = elim t.which as (λ _. port_ended i port ≡ false) [
  | inl x ↦ ap (port_ended i) x.0 ∙ x.1
  | inr x ↦ ap (port_ended i) x.0 ∙ x.2
]

which_port : (i : Instance) (port : ℕ) → IsTaking i.waiting i.marks (port_ended i 0) (port_ended i 1) port → (port ≡ 0) ⊎ ((port ≡ 1) × (port_ended i 0 ≡ true))
which_port i port t = elim t.which as (λ _. (port ≡ 0) ⊎ ((port ≡ 1) × (port_ended i 0 ≡ true))) [ inl x ↦ inl x.0 | inr x ↦ inr (x.0, x.1) ]

pub ready : {L : Type 0} (rows : L → Bag) (keys : L → List ℕ) (is_sealed : L → Bool) (s : State L) (port from : ℕ) → IsWhole rows keys is_sealed s → want (seen rows s) ≡ Take port
    → is_edge (slice_get (part_of s.part).ports port) from s.part.worker ≡ true → IsReady rows keys is_sealed s port
ready rows keys is_sealed s port from h wanted edge =
    let i = seen rows s in
    let t = taking_by i.waiting i.marks (port_ended i 0) (port_ended i 1) i.finished port wanted in
    record {
      sound = h.taking (not_all i.waiting i.marks (port_ended i 0) (port_ended i 1) port t);
      none = no_addressed_notes s.queue.items t.waiting t.marks;
      there = there_by s.part.ports.items port from s.part.worker edge;
      not_ended = not_ended_at i port t;
      which = which_port i port t;
    }

pub is_note : (fields : ℕ) (note : Note) → AreNotes fields (note ∷ []) → IsNote fields note
is_note fields (notes.Batch rows) h = (h.0, h.1)
is_note fields notes.End h = tt

-- ---- an instance that wants nothing more

all_true : (n : ℕ) → all_below n (λ k. true) ≡ true
all_true zero = refl
all_true (suc n) = all_true n

pub closed : {L : Type 0} (rows : L → Bag) (keys : L → List ℕ) (is_sealed : L → Bool) (s : State L) → s.left_ended ≡ [] → s.right_ended ≡ [] → s.queue.items ≡ [] → s.receiver ≡ s.part.workers → IsWhole rows keys is_sealed s
closed rows keys is_sealed s l r q o =
    let n = s.part.workers in
    let all : all_ended (seen rows s) ≡ true = (λ i. all_below n (λ k. get_or (l i) k true) && all_below n (λ k. get_or (r i) k true)) ∙ (λ i. all_true n i && all_true n i) in
    record {
      taking = λ not_yet. absurd (let clash : true ≡ false = sym all ∙ not_yet in cc);
      flags = record { left = omega (arith, ap length l); right = omega (arith, ap length r) };
      orderly = subst (AreOrderly n) (sym q) (record { order = refl; receivers = tt });
      room = λ less. absurd (omega (arith, less, o));
    }

-- ---- the edge of a port

pub edge_at : (ports : List Port) (n : ℕ) (p : Port) → n < length (map port_of ports) → p ≡ get_or ports n p → slice_get (map (λ q. q.edge) (map port_of ports)) n ≡ Some p.edge
edge_at [] n p lt e = absurd (omega (arith, lt))
edge_at (q ∷ ports) zero p lt e = ap (λ x. Some x.edge) (sym e)
edge_at (q ∷ ports) (suc n) p lt e = edge_at ports n p (omega (arith, lt)) e

-- ---- a queue after its first note is removed

pub empty_queue : {X Y : Type 0} (front : Option X) (n : ℕ) (xs : List Y) → front ≡ None → IsSome front ↔ 0 < n → n ≡ length xs → xs ≡ []
empty_queue None n [] e h l = refl
empty_queue {X} None n (x ∷ xs) e h l = absurd (let clash : IsSome {T = X} None = h.1 (omega (arith, l)) in cc)
empty_queue (Some y) n xs e h l = absurd (cc)
