-- An instance stays `IsLocal` when it takes a note.
use Rattle.std.proofs.Common.{◌≡◌, ◌≢◌, ◌<◌, ◌⊎◌, inl, inr, ◌&&◌, ◌||◌, cond, ◌+◌, ◌==◌, ℕ, Bool, true, false, Option, Some, None, List, [], ◌∷◌, ◌++◌, length, slice_get, refl, ap, sym, ◌∙◌, subst, arith, append-nil, length-append}
use Rattle.std.proofs.Math.Bool.{or_comm}
use Rattle.std.specs.List.Sorted.{IsPermutation}
use Rattle.std.proofs.Math.Nat.{zero-add}
use Rattle.std.proofs.lemmas.Bool.{cases_eq, eq-eqb, ne_eqb, and_left, and_right, or_right}
use Rattle.std.proofs.lemmas.List.Elements.{filter-append}
use Rattle.std.proofs.lemmas.List.Sorted.{IsPermutation-refl}
use Rattle.pact_operators.specs.Allowed.{Bag, count_of}
use Rattle.plan_trees.specs.declared.physicals.Ship.{Ship}
use Rattle.flow_instance.specs.declared.notes.Note.{Note}
use Rattle.flow_instance.specs.declared.notes.Want.TheVariants.{Take}
use Rattle.flow_instance.specs.Instances.{Instance, Part, all_ended, ended_at, kept_at, port_ended, want, want_by}
use Rattle.flow_instance.specs.Local.{IsLocal, IsGiven, IsPartOf, Gave, KeepsRows, Placed, sender_ended, one_if, marks_for, rows_for, taken_rows, is_pipelined}
use Rattle.plan_trees.specs.Sending.{goes, has_out}
use Rattle.flow_instance.specs.Notes.{AreNotes, IsNote, has_end, rows_of}
use Rattle.flow_instance.specs.Spots.{Spot, Port, is_edge, sent}
use Rattle.flow_instance.specs.Steps.{Added, Took, GivesNow, is_end, kept_with, note_rows}
use Rattle.plan_trees.proofs.NumbersBelow.{all_below_from, all_below_at}
use Rattle.plan_trees.proofs.EachWorker.{none_each, same_each}
use Rattle.flow_instance.proofs.Bags.{are_notes-last, beside, all_of-grown, has_end-last, is_same, joined, rows_of-last}
use Rattle.flow_instance.proofs.GivenForNotes.{Grown, given_last, given_more, kept_more}

-- an instance that wants to take
pub record IsTaking (ws : List (ℕ × Bag)) (ms : List ℕ) (a b : Bool) (port : ℕ) : Type 0 where
  pub waiting : ws ≡ []
  pub marks : ms ≡ []
  pub which : ((port ≡ 0) × (a ≡ false)) ⊎ ((port ≡ 1) × (a ≡ true) × (b ≡ false))

pub taking_by : (ws : List (ℕ × Bag)) (ms : List ℕ) (a b f : Bool) (port : ℕ) → want_by ws ms a b f ≡ Take port → IsTaking ws ms a b port
taking_by (w ∷ ws) ms a b f port e = absurd (cc)
taking_by [] (m ∷ ms) a b f port e = absurd (cc)
taking_by [] [] false b f port e = let same : 0 ≡ port = cc in record { waiting = refl; marks = refl; which = inl (sym same, refl) }
taking_by [] [] true false f port e = let same : 1 ≡ port = cc in record { waiting = refl; marks = refl; which = inr (sym same, refl, refl) }
taking_by [] [] true true false port e = absurd (cc)
taking_by [] [] true true true port e = absurd (cc)

pub not_all : (ws : List (ℕ × Bag)) (ms : List ℕ) (a b : Bool) (port : ℕ) → IsTaking ws ms a b port → (a && b) ≡ false
not_all ws ms a b port t = elim t.which as (λ _. (a && b) ≡ false) [ inl x ↦ and_left a b x.1 | inr x ↦ and_right a b x.2 ]

-- if no end mark is owed, none was put
pub unmarked : (b owed : Bool) (marks : ℕ) → one_if b + marks ≡ one_if owed → owed ≡ false → b ≡ false
unmarked false owed marks e o = refl
unmarked true owed marks e o = absurd (omega (arith, e, ap one_if o))

pub count_more : (a b n : ℕ) → n ≡ count_of (count_of a + b) → n ≡ count_of (a + b)
count_more a b n e = omega (arith, e)

-- ---- lists with one note more

pub grown_rows : (s : Spot) (taken new : ℕ → ℕ → List Note) (port from : ℕ) (note : Note) → from < s.workers → Added taken port from note new → Grown (taken_rows s.workers taken) port note (taken_rows s.workers new)
grown_rows s taken new port from note less a p = elim (cases_eq p port) as (λ _. IsPermutation (kept_with (taken_rows s.workers taken) port note p) (taken_rows s.workers new p)) [
  | inl e ↦
      let here : new p from ≡ taken p from ++ note ∷ [] = subst (λ (q : ℕ). new q from ≡ taken q from ++ note ∷ []) (sym e) a.here in
      joined (is_same (ap (λ (b : Bool). taken_rows s.workers taken p ++ cond b (note_rows note) []) (eq-eqb p port e)))
      (all_of-grown s.workers from (λ k. rows_of (taken p k)) (λ k. rows_of (new p k)) (note_rows note) less
      (ap rows_of here ∙ rows_of-last (taken p from) note) (λ j other. ap rows_of (a.elsewhere p j (inr other))))
  | inr e ↦
      joined (is_same (ap (λ (b : Bool). taken_rows s.workers taken p ++ cond b (note_rows note) []) (ne_eqb p port e) ∙ append-nil (taken_rows s.workers taken p)))
      (is_same (same_each (λ k. rows_of (taken p k)) (λ k. rows_of (new p k)) s.workers (λ j below. sym (ap rows_of (a.elsewhere p j (inl e))))))
]

-- at each place of the lists, either the new note is there or nothing has changed
pub each_list : (P : ℕ → ℕ → Type 0) (a b : ℕ) → P a b → ((c d : ℕ) → (c ≢ a) ⊎ (d ≢ b) → P c d) → (c d : ℕ) → P c d
each_list P a b here there c d = elim (cases_eq c a) as (λ _. P c d) [
  | inl e ↦ elim (cases_eq d b) as (λ _. P c d) [
    | inl f ↦ subst (λ (x : ℕ). P x d) (sym e) (subst (P a) (sym f) here)
    | inr f ↦ there c d (inr f)
  ]
  | inr e ↦ there c d (inl e)
]

sender_ended-last : (o : Option Port) (from worker : ℕ) (xs : List Note) (note : Note) → is_edge o from worker ≡ true
    → sender_ended o from worker (xs ++ note ∷ []) ≡ (is_end note || sender_ended o from worker xs)
sender_ended-last o from worker xs note e = rw (e, has_end-last xs note) (or_comm (has_end xs) (is_end note))

not_both : (p k port from : ℕ) → (p ≢ port) ⊎ (k ≢ from) → ((p == port) && (k == from)) ≡ false
not_both p k port from h = elim h as (λ _. ((p == port) && (k == from)) ≡ false) [
  | inl e ↦ and_left (p == port) (k == from) (ne_eqb p port e)
  | inr e ↦ and_right (p == port) (k == from) (ne_eqb k from e)
]

-- ---- what was given

gave_more : (b : Bool) (P Q : Bag → Type 0) (out : Bag) → (P out → Q out) → Gave b P out → Gave b Q out
gave_more true P Q out f g = f g
gave_more false P Q out f g = g

gave_next : (w : Bool) (s : Spot) (worker : ℕ) (i j : Instance) (port from : ℕ) (note : Note) (rows new : ℕ → Bag) (given out : Bag)
    → is_pipelined s.kind ≡ w → all_ended i ≡ false → is_edge (slice_get s.ports port) from worker ≡ true → Grown rows port note new → KeepsRows s s.kind rows (kept_at i) → (port ≡ 0 → rows 1 ≡ [])
    → Gave (w || all_ended i) (IsGiven s s.kind s.ports worker rows) given → GivesNow w s worker i j port note out → Gave (w || all_ended j) (IsGiven s s.kind s.ports worker new) (given ++ out)
gave_next true s worker i j port from note rows new given out w not_yet e grown keeps order g o =
    given_more s s.kind s.ports worker port from note rows new (kept_at i) given out w e grown keeps order g o
gave_next false s worker i j port from note rows new given out w not_yet e grown keeps order g o =
    let none : given ≡ [] = subst (λ (b : Bool). Gave b (IsGiven s s.kind s.ports worker rows) given) not_yet g in
    let same : out ≡ given ++ out = ap (λ (l : Bag). l ++ out) (sym none) in
    subst (Gave (all_ended j) (IsGiven s s.kind s.ports worker new)) same
    (gave_more (all_ended j) (IsGiven s s.kind s.ports worker (kept_with (kept_at i) port note)) (IsGiven s s.kind s.ports worker new) out
    (λ x. given_last s s.kind s.ports worker port from note rows new (kept_at i) out w e grown keeps x) o)

placed_next : (o : Option Ship) (given out old new : Bag) → Placed o given old → Placed o (old ++ out) new → Placed o (given ++ out) new
placed_next None given out old new p q = joined (beside p (IsPermutation-refl out)) q
placed_next (Some ship) given out old new p q = q

-- ---- small facts

sent-append : (o : Option Ship) (workers from to : ℕ) (given out : Bag) → sent o workers from to (given ++ out) ≡ sent o workers from to given ++ sent o workers from to out
sent-append None workers from to given out = refl
sent-append (Some ship) workers from to given out = filter-append (goes ship workers from to) given out

here_end : (b : Bool) (p k : ℕ) → (b && ((p == p) && (k == k))) ≡ b
here_end true p k = rw (eq-eqb p p refl, eq-eqb k k refl) refl
here_end false p k = refl

there_end : (b : Bool) (p k port from : ℕ) → (p ≢ port) ⊎ (k ≢ from) → (b && ((p == port) && (k == from))) ≡ false
there_end b p k port from h = and_right b ((p == port) && (k == from)) (not_both p k port from h)

-- ---- the instance

pub took_local : (s : Spot) (worker : ℕ) (i j : Instance) (taken new : ℕ → ℕ → List Note) (put : ℕ → List Note) (port from : ℕ) (note : Note)
    → IsLocal s worker i taken put → want i ≡ Take port → from < s.workers → is_edge (slice_get s.ports port) from worker ≡ true → has_end (taken port from) ≡ false → IsNote s.fields note
    → Took s worker i port from note j → Added taken port from note new → IsLocal s worker j new put
took_local s worker i j taken new put port from note l wanted below edge unended fit t a =
    let taking = taking_by i.waiting i.marks (port_ended i 0) (port_ended i 1) i.finished port wanted in
    let not_yet : all_ended i ≡ false = not_all i.waiting i.marks (port_ended i 0) (port_ended i 1) port taking in
    let grown = grown_rows s taken new port from note below a in
    let unput : (to : ℕ) → to < s.workers → has_end (put to) ≡ false = λ to less.
    unmarked (has_end (put to)) (has_out s.out worker to && all_ended i) (marks_for to i.marks) (l.marked to less) (and_right (has_out s.out worker to) (all_ended i) not_yet) in
    let still : (p : ℕ) → port_ended i p ≡ true → port_ended j p ≡ true = λ p h.
    all_below_from j.part.workers (ended_at j p) (λ k less.
    t.ended p k ∙ or_right (is_end note && ((p == port) && (k == from))) (ended_at i p k) (all_below_at i.part.workers k (ended_at i p) (subst (λ (p : Part). k < p.workers) t.part less) h)) in
    let one_port : (port ≡ 0 → taken_rows s.workers taken 1 ≡ []) = λ e. elim taking.which as (λ _. taken_rows s.workers taken 1 ≡ []) [
      | inl x ↦ none_each (λ k. rows_of (taken 1 k)) s.workers (λ k below. ap rows_of (l.in_order x.1 k))
      | inr x ↦ absurd (omega (arith, e, x.0))
    ] in
    record {
      given = l.given ++ t.out;
      part = subst (IsPartOf s worker) (sym t.part) l.part;
      taken_notes = each_list (λ p k. AreNotes s.fields (new p k)) port from
          (subst (AreNotes s.fields) (sym a.here) (are_notes-last s.fields (taken port from) note (l.taken_notes port from) unended fit))
          (λ p k other. subst (AreNotes s.fields) (sym (a.elsewhere p k other)) (l.taken_notes p k));
      put_notes = l.put_notes;
      waiting_notes = t.carries.notes;
      no_edge = each_list (λ p k. is_edge (slice_get s.ports p) k worker ≡ false → new p k ≡ []) port from
          (λ bad. absurd (let clash : true ≡ false = sym edge ∙ bad in cc))
          (λ p k other h. a.elsewhere p k other ∙ l.no_edge p k h);
      gave = gave_next (is_pipelined s.kind) s worker i j port from note (taken_rows s.workers taken) (taken_rows s.workers new) l.given t.out refl not_yet edge grown (l.kept not_yet) one_port l.gave t.gives;
      sent_on = λ to less.
          let waited : rows_of (put to) ++ rows_for to i.waiting ≡ rows_of (put to) = ap (λ (ws : List (ℕ × Bag)). rows_of (put to) ++ rows_for to ws) taking.waiting ∙ append-nil (rows_of (put to)) in
          joined (is_same (sent-append s.out s.workers worker to l.given t.out))
          (beside (joined (l.sent_on to less) (is_same waited)) (t.carries.sent_on to less));
      placed = placed_next s.out l.given t.out i.placed j.placed l.placed t.placed;
      placed_wide = t.placed_wide;
      marks_wait = t.marks.receivers;
      marked = λ to less. ap (λ (b : Bool). one_if b + marks_for to j.marks) (unput to less) ∙ zero-add _ ∙ t.marks.each to less;
      marked_last = λ to less bad. absurd (let clash : true ≡ false = sym bad ∙ unput to less in cc);
      in_order = λ h k. elim taking.which as (λ _. new 1 k ≡ []) [
        | inl x ↦ a.elsewhere 1 k (inl (λ e. omega (arith, e, x.0))) ∙ l.in_order x.1 k
        | inr x ↦ absurd (let clash : true ≡ false = sym (still 0 x.1) ∙ h in cc)
      ];
      finished = λ h. absurd (let clash : true ≡ false = sym (l.finished (sym t.finished ∙ h)).2 ∙ not_yet in cc);
      ended = λ p k less. each_list (λ q m. m < s.workers → ended_at j q m ≡ sender_ended (slice_get s.ports q) m worker (new q m)) port from
          (λ lt. t.ended port from ∙ (λ x. (here_end (is_end note) port from x || l.ended port from lt x))
          ∙ sym (sender_ended-last (slice_get s.ports port) from worker (taken port from) note edge) ∙ ap (sender_ended (slice_get s.ports port) from worker) (sym a.here))
          (λ q m other lt. t.ended q m ∙ (λ x. (there_end (is_end note) q m port from other x || ended_at i q m)) ∙ l.ended q m lt ∙ ap (sender_ended (slice_get s.ports q) m worker) (sym (a.elsewhere q m other)))
          p k less;
      kept = λ h. kept_more s s.kind (taken_rows s.workers taken) (taken_rows s.workers new) (kept_at i) (kept_at j) port note grown (l.kept not_yet) (t.kept h);
      kept_wide = t.kept_wide;
      counted = count_more (length l.given) (length t.out) j.given (t.given ∙ ap (λ (n : ℕ). count_of (n + length t.out)) l.counted) ∙ ap count_of (sym (length-append l.given t.out));
    }
