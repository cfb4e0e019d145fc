-- An instance stays `IsLocal` when it puts a note and when it ends, and is `IsLocal` at its start.
use Rattle.std.proofs.Common.{◌≡◌, ◌≢◌, ◌<◌, inl, inr, ◌&&◌, ◌||◌, cond, ◌+◌, ℕ, Bool, true, false, List, [], ◌∷◌, ◌++◌, refl, ap, sym, ◌∙◌, subst, arith, append_assoc}
use Rattle.std.specs.List.{AllByRecursion}
use Rattle.std.specs.List.Sorted.{IsPermutation}
use Rattle.std.proofs.Math.Nat.{zero-add}
use Rattle.std.proofs.lemmas.Bool.{cases_eq, eq-eqb, ne_eqb}
use Rattle.pact_operators.specs.Allowed.{Bag}
use Rattle.flow_instance.specs.declared.notes.Note.{Note}
use Rattle.flow_instance.specs.declared.notes.Want.TheVariants.{Put, End}
use Rattle.flow_instance.specs.Instances.{Instance, all_ended, kept_at, port_ended, want, want_by}
use Rattle.flow_instance.specs.Local.{IsLocal, IsReceiver, IsWaiting, IsGiven, Gave, KeepsRows, one_if, marks_for, rows_for, taken_rows, is_pipelined}
use Rattle.plan_trees.proofs.EachWorker.{none_each}
use Rattle.flow_instance.specs.Notes.{AreNotes, IsNote, has_end, rows_of}
use Rattle.flow_instance.specs.Spots.{Spot, sent}
use Rattle.plan_trees.specs.Sending.{has_out}
use Rattle.flow_instance.specs.Steps.{AddedTo, Started, finish, is_end, later, later_marks, next_note, note_rows, offered}
use Rattle.flow_instance.proofs.Bags.{are_notes-last, has_end-last, is_same, joined, rows_of-last}
use Rattle.flow_instance.proofs.Sums.{at_most}

-- an instance that wants to put
pub data IsPutting : List (ℕ × Bag) → List ℕ → ℕ → Type 0 where
  batch : {w : ℕ × Bag} {ws : List (ℕ × Bag)} {ms : List ℕ} → IsPutting (w ∷ ws) ms w.0
  mark : {m : ℕ} {ms : List ℕ} → IsPutting [] (m ∷ ms) m

pub putting_by : (ws : List (ℕ × Bag)) (ms : List ℕ) (a b f : Bool) (to : ℕ) → want_by ws ms a b f ≡ Put to → IsPutting ws ms to
putting_by (w ∷ ws) ms a b f to e = let same : w.0 ≡ to = cc in subst (IsPutting (w ∷ ws) ms) same batch
putting_by [] (m ∷ ms) a b f to e = let same : m ≡ to = cc in subst (IsPutting [] (m ∷ ms)) same mark
putting_by [] [] false b f to e = absurd (cc)
putting_by [] [] true false f to e = absurd (cc)
putting_by [] [] true true false to e = absurd (cc)
putting_by [] [] true true true to e = absurd (cc)

-- at each receiver, either the new note is there or nothing has changed
each_one : (P : ℕ → Type 0) (a : ℕ) → P a → ((c : ℕ) → c ≢ a → P c) → (c : ℕ) → P c
each_one P a here there c = elim (cases_eq c a) as (λ _. P c) [ inl e ↦ subst P (sym e) here | inr e ↦ there c e ]

-- the records of the next note and of the later ones, for one receiver
rows_left : (ws : List (ℕ × Bag)) (ms : List ℕ) (a : ℕ) → IsPutting ws ms a → note_rows (next_note ws) ++ rows_for a (later ws) ≡ rows_for a ws
rows_left (w ∷ ws) ms a batch = ap (λ (b : Bool). cond b w.1 [] ++ rows_for w.0 ws) (sym (eq-eqb w.0 w.0 refl))
rows_left [] (m ∷ ms) a mark = refl
rows_left [] [] a p = elim p [ ]

rows_kept : (ws : List (ℕ × Bag)) (ms : List ℕ) (a c : ℕ) → IsPutting ws ms a → c ≢ a → rows_for c (later ws) ≡ rows_for c ws
rows_kept (w ∷ ws) ms a c batch other = ap (λ (b : Bool). cond b w.1 [] ++ rows_for c ws) (sym (ne_eqb w.0 c (λ e. other (sym e))))
rows_kept [] (m ∷ ms) a c mark other = refl
rows_kept [] [] a c p other = elim p [ ]

marks_left : (ws : List (ℕ × Bag)) (ms : List ℕ) (a : ℕ) → IsPutting ws ms a → one_if (is_end (next_note ws)) + marks_for a (later_marks ws ms) ≡ marks_for a ms
marks_left (w ∷ ws) ms a batch = zero-add (marks_for w.0 ms)
marks_left [] [] a p = elim p [ ]
marks_left [] (m ∷ ms) a mark = ap (λ (b : Bool). one_if b + marks_for m ms) (sym (eq-eqb m m refl))

marks_kept : (ws : List (ℕ × Bag)) (ms : List ℕ) (a c : ℕ) → IsPutting ws ms a → c ≢ a → marks_for c (later_marks ws ms) ≡ marks_for c ms
marks_kept (w ∷ ws) ms a c batch other = refl
marks_kept [] [] a c p other = elim p [ ]
marks_kept [] (m ∷ ms) a c mark other = sym (zero-add (marks_for c ms)) ∙ ap (λ (b : Bool). one_if b + marks_for c ms) (sym (ne_eqb m c (λ e. other (sym e))))

-- no end mark was put for a receiver that a note still waits for
not_before : (b owed : Bool) (ws : List (ℕ × Bag)) (ms : List ℕ) (a : ℕ) → IsPutting ws ms a → one_if b + marks_for a ms ≡ one_if owed → (b ≡ true → ws ≡ []) → b ≡ false
not_before false owed ws ms a p e last = refl
not_before true owed (w ∷ ws) ms a batch e last = let none = last refl in absurd (cc)
not_before true owed [] [] a p e last = elim p [ ]
not_before true owed [] (m ∷ ms) a mark e last = absurd (omega (arith, e, ap (λ (b : Bool). one_if b + marks_for m ms) (eq-eqb m m refl), at_most owed))

next_is_note : (s : Spot) (worker : ℕ) (ws : List (ℕ × Bag)) → AllByRecursion (IsWaiting s worker) ws → IsNote s.fields (next_note ws)
next_is_note s worker [] h = tt
next_is_note s worker (w ∷ ws) h = (h.0.1, h.0.2)

all_later : {X : Type 0} (P : X → Type 0) (xs : List X) → AllByRecursion P xs → AllByRecursion P (later xs)
all_later P [] h = tt
all_later P (x ∷ xs) h = h.1

all_later_marks : (P : ℕ → Type 0) (ws : List (ℕ × Bag)) (ms : List ℕ) → AllByRecursion P ms → AllByRecursion P (later_marks ws ms)
all_later_marks P [] ms h = all_later P ms h
all_later_marks P (w ∷ ws) ms h = h

-- no batch waits once an end mark was put or is being put
later_empty : (ws : List (ℕ × Bag)) → ws ≡ [] → later ws ≡ []
later_empty ws e = ap later e

mark_last : (ws : List (ℕ × Bag)) (ms : List ℕ) (a : ℕ) → IsPutting ws ms a → is_end (next_note ws) ≡ true → later ws ≡ []
mark_last (w ∷ ws) ms a batch e = absurd (cc)
mark_last [] (m ∷ ms) a mark e = refl
mark_last [] [] a p e = elim p [ ]

pub not_finished : (ws : List (ℕ × Bag)) (ms : List ℕ) (a : ℕ) → IsPutting ws ms a → ws ≡ [] → ms ≡ [] → ⊥
not_finished (w ∷ ws) ms a batch e f = cc
not_finished [] (m ∷ ms) a mark e f = cc
not_finished [] [] a p e f = elim p [ ]

pub offered_local : (s : Spot) (worker : ℕ) (i : Instance) (taken : ℕ → ℕ → List Note) (put new : ℕ → List Note) (a : ℕ)
    → IsLocal s worker i taken put → want i ≡ Put a → a < s.workers → AddedTo put a (next_note i.waiting) new → IsLocal s worker (offered i) taken new
offered_local s worker i taken put new a l wanted below more =
    let p = putting_by i.waiting i.marks (port_ended i 0) (port_ended i 1) i.finished a wanted in
    let note = next_note i.waiting in
    let unended : has_end (put a) ≡ false = not_before (has_end (put a)) (has_out s.out worker a && all_ended i) i.waiting i.marks a p (l.marked a below) (l.marked_last a below) in
    let ended_here : has_end (new a) ≡ is_end note = ap has_end more.here ∙ has_end-last (put a) note ∙ ap (λ (b : Bool). b || is_end note) unended in
    record {
      given = l.given;
      part = l.part;
      taken_notes = l.taken_notes;
      put_notes = each_one (λ c. AreNotes s.fields (new c)) a
          (subst (AreNotes s.fields) (sym more.here) (are_notes-last s.fields (put a) note (l.put_notes a) unended (next_is_note s worker i.waiting l.waiting_notes)))
          (λ c other. subst (AreNotes s.fields) (sym (more.elsewhere c other)) (l.put_notes c));
      waiting_notes = all_later (IsWaiting s worker) i.waiting l.waiting_notes;
      no_edge = l.no_edge;
      gave = l.gave;
      sent_on = each_one (λ c. c < s.workers → IsPermutation (sent s.out s.workers worker c l.given) (rows_of (new c) ++ rows_for c (later i.waiting))) a
          (λ lt. joined (l.sent_on a lt) (is_same (ap (λ (rows : Bag). rows_of (put a) ++ rows) (sym (rows_left i.waiting i.marks a p)) ∙ sym (append_assoc (rows_of (put a)) (note_rows note) (rows_for a (later i.waiting)))
          ∙ ap (λ (rows : Bag). rows ++ rows_for a (later i.waiting)) (sym (ap rows_of more.here ∙ rows_of-last (put a) note)))))
          (λ c other lt. joined (l.sent_on c lt) (is_same (λ x. rows_of (sym (more.elsewhere c other) x) ++ sym (rows_kept i.waiting i.marks a c p other) x)));
      placed = l.placed;
      placed_wide = l.placed_wide;
      marks_wait = all_later_marks (IsReceiver s worker) i.waiting i.marks l.marks_wait;
      marked = each_one (λ c. c < s.workers → one_if (has_end (new c)) + marks_for c (later_marks i.waiting i.marks) ≡ one_if (has_out s.out worker c && all_ended i)) a
          (λ lt. ap (λ (b : Bool). one_if b + marks_for a (later_marks i.waiting i.marks)) ended_here ∙ marks_left i.waiting i.marks a p ∙ sym (zero-add (marks_for a i.marks))
          ∙ ap (λ (b : Bool). one_if b + marks_for a i.marks) (sym unended) ∙ l.marked a lt)
          (λ c other lt. (λ x. one_if (has_end (more.elsewhere c other x)) + marks_kept i.waiting i.marks a c p other x) ∙ l.marked c lt);
      marked_last = each_one (λ c. c < s.workers → has_end (new c) ≡ true → later i.waiting ≡ []) a
          (λ lt e. mark_last i.waiting i.marks a p (sym ended_here ∙ e))
          (λ c other lt e. later_empty i.waiting (l.marked_last c lt (ap has_end (sym (more.elsewhere c other)) ∙ e)));
      in_order = l.in_order;
      finished = λ e. let f = l.finished e in absurd (not_finished i.waiting i.marks a p f.0 f.1);
      ended = l.ended;
      kept = l.kept;
      kept_wide = l.kept_wide;
      counted = l.counted;
    }

-- ---- a note is put back, and the instance ends

-- `IsLocal` still holds if `receiver` changes, or if `finished` changes when nothing is left to do
with_state : (s : Spot) (worker r : ℕ) (f : Bool) (i : Instance) (taken : ℕ → ℕ → List Note) (put : ℕ → List Note) → IsLocal s worker i taken put
    → (f ≡ true → (i.waiting ≡ []) × (i.marks ≡ []) × (all_ended i ≡ true)) → IsLocal s worker (record i { receiver = r; finished = f }) taken put
with_state s worker r f i taken put l finished = record {
  given = l.given;
  part = l.part;
  taken_notes = l.taken_notes;
  put_notes = l.put_notes;
  waiting_notes = l.waiting_notes;
  no_edge = l.no_edge;
  gave = l.gave;
  sent_on = l.sent_on;
  placed = l.placed;
  placed_wide = l.placed_wide;
  marks_wait = l.marks_wait;
  marked = l.marked;
  marked_last = l.marked_last;
  in_order = l.in_order;
  finished = finished;
  ended = l.ended;
  kept = l.kept;
  kept_wide = l.kept_wide;
  counted = l.counted;
}

pub returned_local : (s : Spot) (worker r : ℕ) (i : Instance) (taken : ℕ → ℕ → List Note) (put : ℕ → List Note) → IsLocal s worker i taken put → IsLocal s worker (record i { receiver = r }) taken put
returned_local s worker r i taken put l = with_state s worker r i.finished i taken put l l.finished

pub record IsEnding (ws : List (ℕ × Bag)) (ms : List ℕ) (a b : Bool) : Type 0 where
  pub waiting : ws ≡ []
  pub marks : ms ≡ []
  pub all : (a && b) ≡ true

pub ending_by : (ws : List (ℕ × Bag)) (ms : List ℕ) (a b f : Bool) → want_by ws ms a b f ≡ End → IsEnding ws ms a b
ending_by [] [] true true false e = record { waiting = refl; marks = refl; all = refl }
ending_by ws ms a b f e = absurd (cc)

pub finish_local : (s : Spot) (worker : ℕ) (i : Instance) (taken : ℕ → ℕ → List Note) (put : ℕ → List Note) → IsLocal s worker i taken put → want i ≡ End → IsLocal s worker (finish i) taken put
finish_local s worker i taken put l wanted =
    let e = ending_by i.waiting i.marks (port_ended i 0) (port_ended i 1) i.finished wanted in
    with_state s worker i.receiver true i taken put l (λ _. (e.waiting, e.marks, e.all))

-- ---- the start

pub started_local : (s : Spot) (worker : ℕ) (i : Instance) → Started s worker i → IsLocal s worker i (λ port from. []) (λ to. [])
started_local s worker i t =
    let rows : (λ (port : ℕ). []) ≡ taken_rows s.workers (λ port from. []) = λ x port. sym (none_each (λ from. []) s.workers (λ from below. refl)) x in
    record {
      given = t.out;
      part = t.part;
      taken_notes = λ port from. tt;
      put_notes = λ to. tt;
      waiting_notes = t.carries.notes;
      no_edge = λ port from e. refl;
      gave = subst (λ (r : ℕ → Bag). Gave (is_pipelined s.kind || all_ended i) (IsGiven s s.kind s.ports worker r) t.out) rows t.gives;
      sent_on = t.carries.sent_on;
      placed = t.placed;
      placed_wide = t.placed_wide;
      marks_wait = t.marks.receivers;
      marked = λ to less. zero-add (marks_for to i.marks) ∙ t.marks.each to less;
      marked_last = λ to less e. absurd (cc);
      in_order = λ e from. refl;
      finished = λ e. absurd (let clash : true ≡ false = sym e ∙ t.finished in cc);
      ended = t.ended;
      kept = λ e. subst (λ (r : ℕ → Bag). KeepsRows s s.kind r (kept_at i)) rows t.kept;
      kept_wide = t.kept_wide;
      counted = t.given;
    }
