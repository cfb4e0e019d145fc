-- `Stands` holds after each event, for the history extended by the event's note.
use Rattle.std.proofs.Common.{◌≡◌, ◌≢◌, ◌<◌, ◌⊎◌, inl, inr, ◌&&◌, cond, ◌==◌, ℕ, Bool, true, false, Option, Some, None, List, [], ◌∷◌, ◌++◌, length, slice_get, filter, refl, ap, sym, ◌∙◌, subst, arith, append-nil, append_assoc}
use Rattle.std.proofs.lemmas.Bool.{and_left, and_right, cases_Bool, cases_eq, eq-eqb, ne_eqb, and_from}
use Rattle.std.specs.List.Sorted.{IsPermutation}
use Rattle.pact_record.specs.declared.values.Value.{Value}
use Rattle.pact_operators.specs.Allowed.{Bag}
use Rattle.plan_trees.specs.Distinct.{AreDifferent}
use Rattle.plan_trees.specs.Physicals.{has_edge, ship_at}
use Rattle.plan_trees.specs.Plans.{has, nodes, root_of, subtree_of}
use Rattle.plan_trees.specs.declared.physicals.Ship.{Ship}
use Rattle.plan_trees.specs.declared.physicals.Ship.TheVariants.{Forward, Partition, Broadcast}
use Rattle.flow_instance.specs.declared.notes.Note.{Note}
use Rattle.flow_instance.specs.declared.notes.Note.TheVariants.{Batch, End as EndNote}
use Rattle.flow_instance.specs.declared.notes.PipeId.{PipeId}
use Rattle.flow_instance.specs.declared.notes.Event.TheVariants as events
use Rattle.flow_instance.specs.declared.notes.Want.TheVariants.{Take, Put, End}
use Rattle.flow_instance.specs.Instances.{Instance, want, all_ended}
use Rattle.flow_instance.specs.Local.{IsLocal, marks_for, rows_for}
use Rattle.flow_instance.specs.Notes.{AreNotes, IsNote, has_end, rows_of}
use Rattle.plan_trees.specs.Sending.{goes, has_pipe, has_out}
use Rattle.flow_instance.specs.Spots.{Port, Setting, Spot, is_edge, ports_of, sent, spot}
use Rattle.flow_instance.specs.Steps.{Added, later, next_note}
use Rattle.flow_instance.specs.Events.{Ends, Puts, Takes, added, first_note, noted, is_pipe}
use Rattle.flow_instance.specs.Worlds.{World, History, LocalAt, Stands, reader_of, lists_at}
use Rattle.flow_instance.proofs.GivenForNotes.{nil_only}
use Rattle.flow_instance.proofs.LocalAfterTakes.{each_list, took_local, unmarked}
use Rattle.flow_instance.proofs.EndMarksAndWants.{nothing_behind}
use Rattle.flow_instance.proofs.LocalAfterPuts.{finish_local, offered_local}
use Rattle.flow_instance.proofs.Readers.{IsFound, found, one_reader, port_for}
use Rattle.plan_trees.proofs.SubtreesOfPlans.{root_of-subtree}

-- ---- lists

pub added_here : (lists : ℕ → ℕ → ℕ → List Note) (p : PipeId) (note : Note) (a b c : ℕ) → a ≡ p.edge → b ≡ p.from → c ≡ p.to → added lists p note a b c ≡ lists a b c ++ note ∷ []
added_here lists p note a b c e f h = ap (λ (x : Bool). lists a b c ++ cond x (note ∷ []) []) (and_from (a == p.edge) ((b == p.from) && (c == p.to)) (eq-eqb a p.edge e) (and_from (b == p.from) (c == p.to) (eq-eqb b p.from f) (eq-eqb c p.to h)))

pub added_elsewhere : (lists : ℕ → ℕ → ℕ → List Note) (p : PipeId) (note : Note) (a b c : ℕ) → is_pipe p a b c ≡ false → added lists p note a b c ≡ lists a b c
added_elsewhere lists p note a b c e = ap (λ (x : Bool). lists a b c ++ cond x (note ∷ []) []) e ∙ append-nil (lists a b c)

pub other_edge : (p : PipeId) (a b c : ℕ) → a ≢ p.edge → is_pipe p a b c ≡ false
other_edge p a b c h = and_left (a == p.edge) ((b == p.from) && (c == p.to)) (ne_eqb a p.edge h)

pub other_from : (p : PipeId) (a b c : ℕ) → b ≢ p.from → is_pipe p a b c ≡ false
other_from p a b c h = and_right (a == p.edge) ((b == p.from) && (c == p.to)) (and_left (b == p.from) (c == p.to) (ne_eqb b p.from h))

pub other_to : (p : PipeId) (a b c : ℕ) → c ≢ p.to → is_pipe p a b c ≡ false
other_to p a b c h = and_right (a == p.edge) ((b == p.from) && (c == p.to)) (and_right (b == p.from) (c == p.to) (ne_eqb c p.to h))

-- a property of this pipe and of every other pipe holds for each pipe
each_pipe : (P : ℕ → ℕ → ℕ → Type 0) (p : PipeId) → P p.edge p.from p.to → ((a b c : ℕ) → is_pipe p a b c ≡ false → P a b c) → (a b c : ℕ) → P a b c
each_pipe P p here there a b c = elim (cases_eq a p.edge) as (λ _. P a b c) [
  | inr e ↦ there a b c (other_edge p a b c e)
  | inl e ↦ elim (cases_eq b p.from) as (λ _. P a b c) [
    | inr f ↦ there a b c (other_from p a b c f)
    | inl f ↦ elim (cases_eq c p.to) as (λ _. P a b c) [
      | inr h ↦ there a b c (other_to p a b c h)
      | inl h ↦ subst (λ (x : ℕ). P x b c) (sym e) (subst (λ (x : ℕ). P p.edge x c) (sym f) (subst (P p.edge p.from) (sym h) here))
    ]
  ]
]

-- an instance that an event doesn't change
pub local_same : (s : Spot) (k : ℕ) (i j : Instance) (taken more : ℕ → ℕ → List Note) (put new : ℕ → List Note) → IsLocal s k i taken put → j ≡ i
    → ((p f : ℕ) → more p f ≡ taken p f) → ((to : ℕ) → new to ≡ put to) → IsLocal s k j more new
local_same s k i j taken more put new l same e f =
    let more_is : taken ≡ more = λ x p q. sym (e p q) x in
    let new_is : put ≡ new = λ x t. sym (f t) x in
    subst (λ (n : ℕ → List Note). IsLocal s k j more n) new_is (subst (λ (m : ℕ → ℕ → List Note). IsLocal s k j m put) more_is (subst (λ (y : Instance). IsLocal s k y taken put) (sym same) l))

taken_same : (h more : History) (o : Option Port) (f k : ℕ) → ((q : Port) → o ≡ Some q → more.taken q.edge f k ≡ h.taken q.edge f k) → lists_at more.taken o f k ≡ lists_at h.taken o f k
taken_same h more None f k e = refl
taken_same h more (Some q) f k e = e q refl

other_sender : (p : PipeId) (a b c : ℕ) → (a ≢ p.edge) ⊎ (b ≢ p.from) → is_pipe p a b c ≡ false
other_sender p a b c h = elim h as (λ _. is_pipe p a b c ≡ false) [ inl e ↦ other_edge p a b c e | inr e ↦ other_from p a b c e ]

not_nil : {X : Type 0} (xs : List X) (y : X) (ys : List X) → xs ++ y ∷ ys ≡ [] → ⊥
not_nil [] y ys e = cc
not_nil (x ∷ xs) y ys e = cc

-- ---- a put

pub put_stands : (g : Setting) (w v : World) (h : History) (p : PipeId) → Stands g w h → want (w.instance p.edge p.from) ≡ Put p.to → p.from < g.physical.workers → p.to < g.physical.workers → Puts w p v → Stands g v (noted w (events.Put p) h)
put_stands g w v h p st wanted from_below below step =
    let note = next_note (w.instance p.edge p.from).waiting in
    let more = noted w (events.Put p) h in
    record {
      pipe = each_pipe (λ a b c. added h.put p note a b c ≡ h.taken a b c ++ v.queue a b c) p
          (added_here h.put p note p.edge p.from p.to refl refl refl ∙ ap (λ (l : List Note). l ++ note ∷ []) (st.pipe p.edge p.from p.to)
          ∙ append_assoc (h.taken p.edge p.from p.to) (w.queue p.edge p.from p.to) (note ∷ []) ∙ ap (λ (l : List Note). h.taken p.edge p.from p.to ++ l) (sym step.queue.here))
          (λ a b c other. added_elsewhere h.put p note a b c other ∙ st.pipe a b c ∙ ap (λ (l : List Note). h.taken a b c ++ l) (sym (step.queue.elsewhere a b c other)));
      outside = λ a b c o. added_elsewhere h.put p note a b c (elim o as (λ _. is_pipe p a b c ≡ false) [
        | inl x ↦ other_from p a b c (λ e. omega (arith, e))
        | inr x ↦ other_to p a b c (λ e. omega (arith, e))
      ]) ∙ st.outside a b c o;
      instances = λ at k there less.
          let t = subtree_of at g.physical.tree in
          each_list (λ a b. LocalAt g w h t a b → LocalAt g v more t a b) p.edge p.from
          (λ l. subst (λ (i : Instance). IsLocal (spot g t) p.from i (λ port from. lists_at h.taken (slice_get (ports_of g.physical t) port) from p.from) (λ to. more.put p.edge p.from to)) (sym step.instance)
          (offered_local (spot g t) p.from (w.instance p.edge p.from) (λ port from. lists_at h.taken (slice_get (ports_of g.physical t) port) from p.from) (λ to. h.put p.edge p.from to) (λ to. more.put p.edge p.from to) p.to l wanted below
          (record {
            here = added_here h.put p note p.edge p.from p.to refl refl refl;
            elsewhere = λ c other. added_elsewhere h.put p note p.edge p.from c (other_to p p.edge p.from c other);
          })))
          (λ a b other l. local_same (spot g t) b (w.instance a b) (v.instance a b) (λ port from. lists_at h.taken (slice_get (ports_of g.physical t) port) from b) (λ port from. lists_at h.taken (slice_get (ports_of g.physical t) port) from b)
          (λ to. h.put a b to) (λ to. more.put a b to) l (step.others a b other) (λ port from. refl)
          (λ to. added_elsewhere h.put p note a b to (other_sender p a b to other)))
          at k (st.instances at k there less);
    }

-- ---- an end

pub end_stands : (g : Setting) (w v : World) (h : History) (at k : ℕ) → Stands g w h → want (w.instance at k) ≡ End → Ends w at k v → Stands g v h
end_stands g w v h at k st wanted step = record {
  pipe = λ a b c. st.pipe a b c ∙ ap (λ (l : List Note). h.taken a b c ++ l) (sym (step.queue a b c));
  outside = st.outside;
  instances = λ n j there less.
      let t = subtree_of n g.physical.tree in
      each_list (λ a b. LocalAt g w h t a b → LocalAt g v h t a b) at k
      (λ l. subst (λ (i : Instance). IsLocal (spot g t) k i (λ port from. lists_at h.taken (slice_get (ports_of g.physical t) port) from k) (λ to. h.put at k to)) (sym step.instance)
      (finish_local (spot g t) k (w.instance at k) (λ port from. lists_at h.taken (slice_get (ports_of g.physical t) port) from k) (λ to. h.put at k to) l wanted))
      (λ a b other l. local_same (spot g t) b (w.instance a b) (v.instance a b) (λ port from. lists_at h.taken (slice_get (ports_of g.physical t) port) from b) (λ port from. lists_at h.taken (slice_get (ports_of g.physical t) port) from b)
      (λ to. h.put a b to) (λ to. h.put a b to) l (step.others a b other) (λ port from. refl) (λ to. refl))
      n j (st.instances n j there less);
}

-- ---- a take

-- no record goes where there is no pipe
goes_nowhere : (ship : Ship) (workers from to : ℕ) (row : List Value) → has_pipe ship from to ≡ false → goes ship workers from to row ≡ false
goes_nowhere Forward workers from to row e = e
goes_nowhere (Partition keys) workers from to row e = absurd (cc)
goes_nowhere Broadcast workers from to row e = absurd (cc)

none_pass : {X : Type 0} (test : X → Bool) (xs : List X) → ((x : X) → test x ≡ false) → filter test xs ≡ []
none_pass test [] h = refl
none_pass test (x ∷ xs) h = rw (h x) (none_pass test xs h)

sent_nowhere : (o : Option Ship) (workers from to : ℕ) (rows : Bag) → has_out o from to ≡ false → sent o workers from to rows ≡ []
sent_nowhere None workers from to rows e = refl
sent_nowhere (Some ship) workers from to rows e = none_pass (goes ship workers from to) rows (λ row. goes_nowhere ship workers from to row e)

pub left_nil : {X : Type 0} (xs ys : List X) → xs ++ ys ≡ [] → xs ≡ []
left_nil [] ys e = refl
left_nil (x ∷ xs) ys e = absurd (cc)

no_notes : (fields : ℕ) (ns : List Note) → AreNotes fields ns → rows_of ns ≡ [] → has_end ns ≡ false → ns ≡ []
no_notes fields [] a r e = refl
no_notes fields (Batch [] ∷ ns) a r e = absurd (omega (arith, a.0))
no_notes fields (Batch (row ∷ rows) ∷ ns) a r e = absurd (cc)
no_notes fields (EndNote ∷ ns) a r e = absurd (cc)

-- no note goes where there is no pipe
pub nothing_put : (s : Spot) (worker : ℕ) (i : Instance) (taken : ℕ → ℕ → List Note) (put : ℕ → List Note) (to : ℕ) → IsLocal s worker i taken put → to < s.workers → has_out s.out worker to ≡ false → put to ≡ []
nothing_put s worker i taken put to l less none =
    let unsent : sent s.out s.workers worker to l.given ≡ [] = sent_nowhere s.out s.workers worker to l.given none in
    let rows : rows_of (put to) ++ rows_for to i.waiting ≡ [] = nil_only (subst (λ (b : Bag). IsPermutation b (rows_of (put to) ++ rows_for to i.waiting)) unsent (l.sent_on to less)) in
    no_notes s.fields (put to) (l.put_notes to) (left_nil (rows_of (put to)) (rows_for to i.waiting) rows)
    (unmarked (has_end (put to)) (has_out s.out worker to && all_ended i) (marks_for to i.marks) (l.marked to less) (and_left (has_out s.out worker to) (all_ended i) none))

-- the first note after the taken ones may extend them
front_note : (fields : ℕ) (xs : List Note) (n : Note) (ns : List Note) → AreNotes fields (xs ++ n ∷ ns) → IsNote fields n
front_note fields [] (Batch rows) ns h = (h.0, h.1)
front_note fields [] EndNote ns h = tt
front_note fields (Batch rows ∷ xs) n ns h = front_note fields xs n ns h.2
front_note fields (EndNote ∷ xs) n ns h = absurd (not_nil xs n ns h)

queue_is : (q : List Note) → 0 < length q → q ≡ first_note q ∷ later q
queue_is [] e = absurd (omega arith)
queue_is (n ∷ ns) e = refl

pub no_out : (b : Bool) (ship : Ship) (from to : ℕ) → has_pipe ship from to ≡ false → has_out (cond b (Some ship) None) from to ≡ false
no_out true ship from to h = h
no_out false ship from to h = refl

-- If a note can be taken, the pipe exists, no end mark was taken from it, and the note may extend the list of taken
-- notes.
pub record CanTake (g : Setting) (w : World) (h : History) (p : PipeId) (n port : ℕ) : Type 0 where
  pub found : IsFound g g.physical.tree p.edge n port
  pub put_is : h.put p.edge p.from p.to ≡ h.taken p.edge p.from p.to ++ first_note (w.queue p.edge p.from p.to) ∷ later (w.queue p.edge p.from p.to)
  pub edge : is_edge (slice_get (ports_of g.physical (subtree_of n g.physical.tree)) port) p.from p.to ≡ true
  pub unended : has_end (lists_at h.taken (slice_get (ports_of g.physical (subtree_of n g.physical.tree)) port) p.from p.to) ≡ false
  pub note : IsNote g.fields (first_note (w.queue p.edge p.from p.to))

pub can_be_taken : (g : Setting) (w : World) (h : History) (p : PipeId) (n port : ℕ) → AreDifferent (nodes g.physical.tree) → Stands g w h → reader_of p.edge g.physical.tree ≡ Some (n, port)
    → p.from < g.physical.workers → p.to < g.physical.workers → 0 < length (w.queue p.edge p.from p.to) → CanTake g w h p n port
can_be_taken g w h p n port different st reader from_below to_below some =
    let note = first_note (w.queue p.edge p.from p.to) in
    let f = found g p.edge n port g.physical.tree different reader in
    let tree_n = subtree_of n g.physical.tree in
    let queue = queue_is (w.queue p.edge p.from p.to) some in
    let put_is : h.put p.edge p.from p.to ≡ h.taken p.edge p.from p.to ++ note ∷ later (w.queue p.edge p.from p.to) =
    st.pipe p.edge p.from p.to ∙ ap (λ (l : List Note). h.taken p.edge p.from p.to ++ l) queue in
    let sender = st.instances p.edge p.from f.has_edge from_below in
    let notes : AreNotes g.fields (h.taken p.edge p.from p.to ++ note ∷ later (w.queue p.edge p.from p.to)) = subst (AreNotes g.fields) put_is (sender.put_notes p.to) in
    let unended : has_end (h.taken p.edge p.from p.to) ≡ false = elim (cases_Bool (has_end (h.taken p.edge p.from p.to))) as (λ _. has_end (h.taken p.edge p.from p.to) ≡ false) [
      | inl bad ↦ absurd (let none = nothing_behind g.fields (h.taken p.edge p.from p.to) (note ∷ later (w.queue p.edge p.from p.to)) notes bad in cc)
      | inr good ↦ good
    ] in
    let pipe : has_pipe (port_for g p.edge).ship p.from p.to ≡ true = elim (cases_Bool (has_pipe (port_for g p.edge).ship p.from p.to)) as (λ _. has_pipe (port_for g p.edge).ship p.from p.to ≡ true) [
      | inl good ↦ good
      | inr bad ↦
          let root = root_of-subtree p.edge g.physical.tree f.has_edge in
          let none : has_out (ship_at g.physical (root_of (subtree_of p.edge g.physical.tree))) p.from p.to ≡ false =
          ap (λ (e : ℕ). has_out (ship_at g.physical e) p.from p.to) root ∙ no_out (has_edge p.edge g.physical.tree) (port_for g p.edge).ship p.from p.to bad in
          let empty : h.put p.edge p.from p.to ≡ [] =
          nothing_put (spot g (subtree_of p.edge g.physical.tree)) p.from (w.instance p.edge p.from) (λ q from. lists_at h.taken (slice_get (ports_of g.physical (subtree_of p.edge g.physical.tree)) q) from p.from)
          (λ to. h.put p.edge p.from to) p.to sender to_below none in
          absurd (not_nil (h.taken p.edge p.from p.to) note (later (w.queue p.edge p.from p.to)) (sym put_is ∙ empty))
    ] in
    record {
      found = f;
      put_is = put_is;
      edge = ap (λ (o : Option Port). is_edge o p.from p.to) f.port_is ∙ pipe;
      unended = ap (λ (o : Option Port). has_end (lists_at h.taken o p.from p.to)) f.port_is ∙ unended;
      note = front_note g.fields (h.taken p.edge p.from p.to) note (later (w.queue p.edge p.from p.to)) notes;
    }

pub take_stands : (g : Setting) (w v : World) (h : History) (p : PipeId) (n port : ℕ) → AreDifferent (nodes g.physical.tree) → Stands g w h → reader_of p.edge g.physical.tree ≡ Some (n, port)
    → p.from < g.physical.workers → p.to < g.physical.workers → want (w.instance n p.to) ≡ Take port → 0 < length (w.queue p.edge p.from p.to) → Takes g w p n port v → Stands g v (noted w (events.Take p) h)
take_stands g w v h p n port different st reader from_below to_below wanted some step =
    let note = first_note (w.queue p.edge p.from p.to) in
    let more = noted w (events.Take p) h in
    let can = can_be_taken g w h p n port different st reader from_below to_below some in
    let f = can.found in
    let tree_n = subtree_of n g.physical.tree in
    let put_is = can.put_is in
    let added_note : Added (λ q from. lists_at h.taken (slice_get (ports_of g.physical tree_n) q) from p.to) port p.from note (λ q from. lists_at more.taken (slice_get (ports_of g.physical tree_n) q) from p.to) =
    record {
      here = ap (λ (o : Option Port). lists_at more.taken o p.from p.to) f.port_is ∙ added_here h.taken p note p.edge p.from p.to refl refl refl
          ∙ ap (λ (o : Option Port). lists_at h.taken o p.from p.to ++ note ∷ []) (sym f.port_is);
      elsewhere = λ q from other. taken_same h more (slice_get (ports_of g.physical tree_n) q) from p.to (λ x is.
          added_elsewhere h.taken p note x.edge from p.to (elim other as (λ _. is_pipe p x.edge from p.to ≡ false) [
            | inl a ↦ other_edge p x.edge from p.to (λ same. a (one_reader g g.physical.tree n n q port x (port_for g p.edge) different f.has_reader f.has_reader is f.port_is same).1)
            | inr b ↦ other_from p x.edge from p.to b
          ]));
    } in
    record {
      pipe = each_pipe (λ a b c. h.put a b c ≡ added h.taken p note a b c ++ v.queue a b c) p
          (put_is ∙ sym (append_assoc (h.taken p.edge p.from p.to) (note ∷ []) (later (w.queue p.edge p.from p.to)))
          ∙ (λ x. sym (added_here h.taken p note p.edge p.from p.to refl refl refl) x ++ sym step.queue.here x))
          (λ a b c other. st.pipe a b c ∙ (λ x. sym (added_elsewhere h.taken p note a b c other) x ++ sym (step.queue.elsewhere a b c other) x));
      outside = st.outside;
      instances = λ at k there less. each_list (λ a b. has a g.physical.tree ≡ true → LocalAt g w h (subtree_of a g.physical.tree) a b → LocalAt g v more (subtree_of a g.physical.tree) a b) n p.to
          (λ here l. took_local (spot g tree_n) p.to (w.instance n p.to) (v.instance n p.to) (λ q from. lists_at h.taken (slice_get (ports_of g.physical tree_n) q) from p.to) (λ q from. lists_at more.taken (slice_get (ports_of g.physical tree_n) q) from p.to)
          (λ to. h.put n p.to to) port p.from note l wanted from_below can.edge can.unended can.note step.instance added_note)
          (λ a b other here l. local_same (spot g (subtree_of a g.physical.tree)) b (w.instance a b) (v.instance a b)
          (λ q from. lists_at h.taken (slice_get (ports_of g.physical (subtree_of a g.physical.tree)) q) from b) (λ q from. lists_at more.taken (slice_get (ports_of g.physical (subtree_of a g.physical.tree)) q) from b)
          (λ to. h.put a b to) (λ to. h.put a b to) l (step.others a b other)
          (λ q from. taken_same h more (slice_get (ports_of g.physical (subtree_of a g.physical.tree)) q) from b (λ x is.
          added_elsewhere h.taken p note x.edge from b (elim other as (λ _. is_pipe p x.edge from b ≡ false) [
            | inl c ↦ other_edge p x.edge from b (λ same. c (one_reader g g.physical.tree a n q port x (port_for g p.edge) different here f.has_reader is f.port_is same).0)
            | inr c ↦ other_to p x.edge from b c
          ])))
          (λ to. refl))
          at k there (st.instances at k there less);
    }
