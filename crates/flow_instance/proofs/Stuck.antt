-- A world in which nothing is enabled is done.
use Rattle.std.proofs.Common.{◌≡◌, ◌≢◌, ◌<◌, ◌≤◌, inl, inr, ◌&&◌, ◌||◌, not, cond, ◌+◌, ℕ, zero, suc, Bool, true, false, Option, Some, None, List, [], ◌∷◌, ◌++◌, length, get_or, slice_get, refl, ap, sym, ◌∙◌, subst, arith, append-nil}
use Rattle.std.proofs.lemmas.Bool.{cases_Bool, eq-eqb, lt-ltb, ltb-false}
use Rattle.std.specs.Prelude.{nat_lt}
use Rattle.plan_trees.specs.Distinct.{AreDifferent}
use Rattle.plan_trees.specs.Plans.{PlanTree, leaf, over, both, has, nodes, root_of, subtree_of}
use Rattle.plan_trees.specs.Physicals.{has_edge, ship_at}
use Rattle.plan_trees.specs.declared.physicals.Ship.TheVariants.{Forward}
use Rattle.flow_instance.specs.declared.notes.Note.{Note}
use Rattle.flow_instance.specs.declared.notes.Want.{Want}
use Rattle.flow_instance.specs.declared.notes.Want.TheVariants.{Take, Put, End, Done}
use Rattle.flow_instance.specs.Instances.{all_ended, ended_at, port_ended, want, want_by}
use Rattle.flow_instance.specs.Local.{IsReceiver, IsWaiting, sender_ended, one_if, marks_for}
use Rattle.flow_instance.specs.Notes.{has_end, AreNotes}
use Rattle.plan_trees.specs.Sending.{has_pipe, has_out}
use Rattle.flow_instance.specs.Spots.{Port, Setting, Spot, port_from, ports_of, spot}
use Rattle.flow_instance.specs.declared.notes.Event.TheVariants as events
use Rattle.flow_instance.specs.Worlds.{World, History, LocalAt, IsStuck, AreDone, does_want, reader_of, lists_at}
use Rattle.flow_instance.proofs.EndMarksAndWants.{nothing_behind, takes_first, takes_second, ends, finished_by, put_to}
use Rattle.plan_trees.proofs.NumbersBelow.{all_below_none, all_below_from}
use Rattle.plan_trees.proofs.EverySubtree.{AllBelow, all_below, all_below-root}
use Rattle.flow_instance.proofs.Trees.{Inside, HasEdge, Reads, each_below, edges, inside_of, read, within}
use Rattle.plan_trees.proofs.SubtreesOfPlans.{has-root}

-- the edge that comes in at a port
abbrev pub edge_at : Spot → ℕ → ℕ
edge_at s port = (get_or s.ports port (record { edge = s.at; ship = Forward })).edge

-- if a note waits on the pipe, no end mark was taken from it
not_ended : (fields : ℕ) (put taken queue : List Note) → put ≡ taken ++ queue → AreNotes fields put → 1 ≤ length queue → has_end taken ≡ true → ⊥
not_ended fields put taken queue e h some t =
    let none : queue ≡ [] = nothing_behind fields taken queue (subst (AreNotes fields) e h) t in
    omega (arith, ap length none)

sender_true : (p : Port) (from worker : ℕ) (notes : List Note) → (has_pipe p.ship from worker ≡ true → has_end notes ≡ true) → sender_ended (Some p) from worker notes ≡ true
sender_true p from worker notes h = elim (cases_Bool (has_pipe p.ship from worker)) as (λ _. (not (has_pipe p.ship from worker) || has_end notes) ≡ true) [
  | inl e ↦ rw e (h e)
  | inr e ↦ rw e refl
]

sender_false : (p : Port) (from worker : ℕ) (notes : List Note) → has_pipe p.ship from worker ≡ true → has_end notes ≡ false → sender_ended (Some p) from worker notes ≡ false
sender_false p from worker notes h e = rw (h, e) refl

pub nothing_there : (ns : List Note) → nat_lt 0 (length ns) ≡ false → ns ≡ []
nothing_there [] e = refl
nothing_there (n ∷ ns) e = absurd (omega (arith, ltb-false 0 (length (n ∷ ns)) e))

-- if no end mark waits and none was put, none is owed
was_put : (b owed : Bool) (marks : ℕ) → one_if b + marks ≡ one_if owed → marks ≡ 0 → owed ≡ true → b ≡ true
was_put true owed marks e m o = refl
was_put false owed marks e m o = absurd (omega (arith, e, m, ap one_if o))

-- each instance of a tree's root is `IsLocal` with the lists of its pipes
abbrev pub StandsAt : Setting → World → History → PlanTree → Type 0
StandsAt g w h t = (k : ℕ) → k < g.physical.workers → LocalAt g w h t (root_of t) k

module _ (g : Setting) (depth : ℕ) (w : World) (h : History) (some : 1 ≤ depth) (pipes : (edge from to : ℕ) → h.put edge from to ≡ h.taken edge from to ++ w.queue edge from to) where
  -- the instance of the operator at the root of the tree can do nothing
  pub record IsIdle (t : PlanTree) (k : ℕ) : Type 0 where
    pub full : (to : ℕ) → want (w.instance (root_of t) k) ≡ Put to → depth ≤ length (w.queue (root_of t) k to)
    pub starved : (port from : ℕ) → port < length (ports_of g.physical t) → from < g.physical.workers → want (w.instance (root_of t) k) ≡ Take port → w.queue (edge_at (spot g t) port) from k ≡ []
    pub not_end : want (w.instance (root_of t) k) ≢ End

  abbrev pub AreIdle : PlanTree → Type 0
  AreIdle t = (k : ℕ) → k < g.physical.workers → IsIdle t k

  abbrev pub ArePutless : PlanTree → Type 0
  ArePutless t = (k to : ℕ) → k < g.physical.workers → want (w.instance (root_of t) k) ≢ Put to

  abbrev pub DoneAt : PlanTree → Type 0
  DoneAt t = (k : ℕ) → k < g.physical.workers → want (w.instance (root_of t) k) ≡ Done

  -- the tree's root feeds the other one's at the port
  pub record IsFed (c : PlanTree) (p : ℕ) (t : PlanTree) : Type 0 where
    pub port : slice_get (ports_of g.physical c) p ≡ Some (port_from g.physical t)
    pub edge : edge_at (spot g c) p ≡ root_of t
    pub below : p < length (ports_of g.physical c)
    pub is_edge : has_edge (root_of t) g.physical.tree ≡ true

  -- an instance that hasn't ended at the port waits for it
  abbrev pub Waits : PlanTree → ℕ → Type 0
  Waits c p = (k : ℕ) → k < g.physical.workers → port_ended (w.instance (root_of c) k) p ≡ false → want (w.instance (root_of c) k) ≡ Take p

  -- both ends of an edge agree on how it ships
  one_ship : (t : PlanTree) (from to : ℕ) → has_edge (root_of t) g.physical.tree ≡ true → has_out (ship_at g.physical (root_of t)) from to ≡ has_pipe (port_from g.physical t).ship from to
  one_ship t from to e = ap (λ (b : Bool). has_out (cond b (Some (port_from g.physical t).ship) None) from to) e

  -- while the reader waits, the sender doesn't want to put
  no_puts : (c : PlanTree) (p : ℕ) (t : PlanTree) → IsFed c p t → StandsAt g w h c → StandsAt g w h t → AreIdle c → AreIdle t → Waits c p → ArePutless t
  no_puts c p t fed at_c at_t idle_c idle_t waits j to below e =
      let i = w.instance (root_of t) j in
      let l = at_t j below in
      let receiver : IsReceiver (spot g t) j to = put_to (IsReceiver (spot g t) j) (IsWaiting (spot g t) j) i.waiting i.marks (port_ended i 0) (port_ended i 1) i.finished to (λ x q. q.0) l.waiting_notes l.marks_wait e in
      let pipe : has_pipe (port_from g.physical t).ship j to ≡ true = sym (one_ship t j to fed.is_edge) ∙ receiver.1 in
      let full = (idle_t j below).full to e in
      let r = at_c to receiver.0 in
      let taken : has_end (h.taken (root_of t) j to) ≡ false =
      elim (cases_Bool (has_end (h.taken (root_of t) j to))) as (λ _. has_end (h.taken (root_of t) j to) ≡ false) [
        | inl bad ↦ absurd (not_ended g.fields (h.put (root_of t) j to) (h.taken (root_of t) j to) (w.queue (root_of t) j to) (pipes (root_of t) j to) (l.put_notes to) (omega arith) bad)
        | inr good ↦ good
      ] in
      let flag : ended_at (w.instance (root_of c) to) p j ≡ false =
      r.ended p j below ∙ ap (λ (o : Option Port). sender_ended o j to (lists_at h.taken o j to)) fed.port
      ∙ sender_false (port_from g.physical t) j to (h.taken (root_of t) j to) pipe taken in
      let not_all : port_ended (w.instance (root_of c) to) p ≡ false = all_below_none (w.instance (root_of c) to).part.workers j (ended_at (w.instance (root_of c) to) p) (subst (λ (n : ℕ). j < n) (sym r.part.workers) below) flag in
      let none : w.queue (edge_at (spot g c) p) j to ≡ [] = (idle_c to receiver.0).starved p j fed.below below (waits to receiver.0 not_all) in
      let same : w.queue (edge_at (spot g c) p) j to ≡ w.queue (root_of t) j to = ap (λ (n : ℕ). w.queue n j to) fed.edge in
      omega (arith, ap length (sym same ∙ none))

  -- once all senders are done, the port has ended
  all_taken : (c : PlanTree) (p : ℕ) (t : PlanTree) → IsFed c p t → StandsAt g w h c → StandsAt g w h t → AreIdle c → DoneAt t → Waits c p
      → (k : ℕ) → k < g.physical.workers → port_ended (w.instance (root_of c) k) p ≡ true
  all_taken c p t fed at_c at_t idle_c done waits k below = elim (cases_Bool (port_ended (w.instance (root_of c) k) p)) as (λ _. port_ended (w.instance (root_of c) k) p ≡ true) [
    | inl good ↦ good
    | inr bad ↦
        let r = at_c k below in
        let c_i = w.instance (root_of c) k in
        all_below_from c_i.part.workers (ended_at c_i p) (λ j less.
        let j_below : j < g.physical.workers = subst (λ (n : ℕ). j < n) r.part.workers less in
        let l = at_t j j_below in
        let i = w.instance (root_of t) j in
        let f = finished_by i.waiting i.marks (port_ended i 0) (port_ended i 1) i.finished (done j j_below) in
        let none : w.queue (edge_at (spot g c) p) j k ≡ [] = (idle_c k below).starved p j fed.below j_below (waits k below bad) in
        let e = root_of t in
        let none_here : w.queue e j k ≡ [] = ap (λ (n : ℕ). w.queue n j k) (sym fed.edge) ∙ none in
        let put_is : h.put e j k ≡ h.taken e j k = pipes e j k ∙ ap (λ (ns : List Note). h.taken e j k ++ ns) none_here ∙ append-nil (h.taken e j k) in
        let has : has_pipe (port_from g.physical t).ship j k ≡ true → has_end (h.taken e j k) ≡ true = λ pipe.
        let owed : (has_out (ship_at g.physical (root_of t)) j k && all_ended i) ≡ true = rw (one_ship t j k fed.is_edge, pipe, f.first, f.second) refl in
        ap has_end (sym put_is) ∙ was_put (has_end (h.put (root_of t) j k)) (has_out (ship_at g.physical (root_of t)) j k && all_ended i) (marks_for k i.marks) (l.marked k below) (ap (marks_for k) f.marks) owed in
        r.ended p j j_below ∙ ap (λ (o : Option Port). sender_ended o j k (lists_at h.taken o j k)) fed.port ∙ sender_true (port_from g.physical t) j k (h.taken e j k) has)
  ]

  -- the last step: an instance that has ended at every port and doesn't want to put is done
  at_last : (t : PlanTree) → AreIdle t → ArePutless t → ((k : ℕ) → k < g.physical.workers → port_ended (w.instance (root_of t) k) 0 ≡ true) → ((k : ℕ) → k < g.physical.workers → port_ended (w.instance (root_of t) k) 1 ≡ true) → DoneAt t
  at_last t idle putless first second k below =
      let i = w.instance (root_of t) k in
      let is : want i ≡ want_by i.waiting i.marks true true i.finished = λ x. want_by i.waiting i.marks (first k below x) (second k below x) i.finished in
      is ∙ ends i.waiting i.marks i.finished (λ to e. putless k to below (is ∙ e)) (λ e. (idle k below).not_end (is ∙ e))

  waits_first : (t : PlanTree) → ArePutless t → Waits t 0
  waits_first t putless k below e =
      let i = w.instance (root_of t) k in
      let is : want i ≡ want_by i.waiting i.marks false (port_ended i 1) i.finished = ap (λ (b : Bool). want_by i.waiting i.marks b (port_ended i 1) i.finished) e in
      is ∙ takes_first i.waiting i.marks (port_ended i 1) i.finished (λ to e. putless k to below (is ∙ e))

  waits_second : (t : PlanTree) → ArePutless t → ((k : ℕ) → k < g.physical.workers → port_ended (w.instance (root_of t) k) 0 ≡ true) → Waits t 1
  waits_second t putless first k below e =
      let i = w.instance (root_of t) k in
      let is : want i ≡ want_by i.waiting i.marks true false i.finished = λ x. want_by i.waiting i.marks (first k below x) (e x) i.finished in
      is ∙ takes_second i.waiting i.marks i.finished (λ to e. putless k to below (is ∙ e))

  -- a port that the operator doesn't have counts as ended
  no_port : (t : PlanTree) (p : ℕ) → StandsAt g w h t → slice_get (ports_of g.physical t) p ≡ None → (k : ℕ) → k < g.physical.workers → port_ended (w.instance (root_of t) k) p ≡ true
  no_port t p at none k below =
      let i = w.instance (root_of t) k in
      let l = at k below in
      all_below_from i.part.workers (ended_at i p) (λ j less.
      l.ended p j (subst (λ (n : ℕ). j < n) l.part.workers less) ∙ ap (λ (o : Option Port). sender_ended o j k (lists_at h.taken o j k)) none)

  -- each input of the tree feeds its root
  abbrev pub IsFedWhole : PlanTree → Type 0
  IsFedWhole (leaf n) = Unit {0}
  IsFedWhole (over n t) = IsFed (over n t) 0 t
  IsFedWhole (both n t u) = IsFed (both n t u) 0 t × IsFed (both n t u) 1 u

  pub drained : (t : PlanTree) → AllBelow (StandsAt g w h) t → AllBelow AreIdle t → AllBelow IsFedWhole t → ArePutless t → AllBelow DoneAt t
  drained (leaf n) at idle fed putless =
      at_last (leaf n) idle putless (no_port (leaf n) 0 at refl) (no_port (leaf n) 1 at refl)
  drained (over n t) at idle fed putless =
      let at_t = all_below-root (StandsAt g w h) t at.1 in
      let idle_t = all_below-root AreIdle t idle.1 in
      let waits = waits_first (over n t) putless in
      let quiet : ArePutless t = no_puts (over n t) 0 t fed.0 at.0 at_t idle.0 idle_t waits in
      let rest = drained t at.1 idle.1 fed.1 quiet in
      let first = all_taken (over n t) 0 t fed.0 at.0 at_t idle.0 (all_below-root DoneAt t rest) waits in
      (at_last (over n t) idle.0 putless first (no_port (over n t) 1 at.0 refl), rest)
  drained (both n t u) at idle fed putless =
      let at_t = all_below-root (StandsAt g w h) t at.1 in
      let idle_t = all_below-root AreIdle t idle.1 in
      let waits = waits_first (both n t u) putless in
      let quiet : ArePutless t = no_puts (both n t u) 0 t fed.0.0 at.0 at_t idle.0 idle_t waits in
      let left = drained t at.1 idle.1 fed.1 quiet in
      let first = all_taken (both n t u) 0 t fed.0.0 at.0 at_t idle.0 (all_below-root DoneAt t left) waits in
      let at_u = all_below-root (StandsAt g w h) u at.2 in
      let idle_u = all_below-root AreIdle u idle.2 in
      let waits_u = waits_second (both n t u) putless first in
      let quiet_u : ArePutless u = no_puts (both n t u) 1 u fed.0.1 at.0 at_u idle.0 idle_u waits_u in
      let right = drained u at.2 idle.2 fed.2 quiet_u in
      let second = all_taken (both n t u) 1 u fed.0.1 at.0 at_u idle.0 (all_below-root DoneAt u right) waits_u in
      (at_last (both n t u) idle.0 putless first second, left, right)

  -- ---- a stuck world is idle

  pub fed_whole : (t : PlanTree) → Inside (HasEdge g.physical.tree) t → AllBelow IsFedWhole t
  fed_whole (leaf n) e = tt
  fed_whole (over n t) e = (
    record { port = refl; edge = refl; below = omega arith; is_edge = all_below-root (HasEdge g.physical.tree) t e },
    fed_whole t (inside_of (HasEdge g.physical.tree) t e),
  )
  fed_whole (both n t u) e = (
    (
      record { port = refl; edge = refl; below = omega arith; is_edge = all_below-root (HasEdge g.physical.tree) t e.0 },
      record { port = refl; edge = refl; below = omega arith; is_edge = all_below-root (HasEdge g.physical.tree) u e.1 },
    ),
    fed_whole t (inside_of (HasEdge g.physical.tree) t e.0),
    fed_whole u (inside_of (HasEdge g.physical.tree) u e.1),
  )

  -- the reader of each edge at a port of the tree's root is the root
  abbrev pub IsReader : PlanTree → Type 0
  IsReader t = (port : ℕ) → port < length (ports_of g.physical t) → reader_of (edge_at (spot g t) port) g.physical.tree ≡ Some (root_of t, port)

  pub is_reader : (t : PlanTree) → Reads (λ e. reader_of e g.physical.tree) t → IsReader t
  is_reader (leaf n) r port less = absurd (omega arith)
  is_reader (over n t) r zero less = r
  is_reader (over n t) r (suc port) less = absurd (omega arith)
  is_reader (both n t u) r zero less = r.0
  is_reader (both n t u) r (suc zero) less = r.1
  is_reader (both n t u) r (suc (suc port)) less = absurd (omega arith)

  pub idle : (t : PlanTree) → IsStuck g.physical depth w → has (root_of t) g.physical.tree ≡ true → IsReader t → AreIdle t
  idle t stuck there reads k below =
      let within : nat_lt k g.physical.workers ≡ true = lt-ltb k g.physical.workers below in
      record {
        full = λ to e.
            let wanted : does_want (want (w.instance (root_of t) k)) (Put to) ≡ true = ap (λ (x : Want). does_want x (Put to)) e ∙ eq-eqb to to refl in
            ltb-false _ _ (sym (rw (there, within, wanted) refl) ∙ stuck (events.Put (record { edge = root_of t; from = k; to = to })));
        starved = λ port from less from_below e.
            let wanted : does_want (want (w.instance (root_of t) k)) (Take port) ≡ true = ap (λ (x : Want). does_want x (Take port)) e ∙ eq-eqb port port refl in
            let from_within : nat_lt from g.physical.workers ≡ true = lt-ltb from g.physical.workers from_below in
            nothing_there _ (sym (rw (from_within, within, reads port less, wanted) refl) ∙ stuck (events.Take (record { edge = edge_at (spot g t) port; from = from; to = k })));
        not_end = λ e.
            let wanted : does_want (want (w.instance (root_of t) k)) End ≡ true = ap (λ (x : Want). does_want x End) e in
            let bad : true ≡ false = sym (rw (there, within, wanted) refl) ∙ stuck (events.End (root_of t) k) in
            cc;
      }

  idle_all : (t : PlanTree) → IsStuck g.physical depth w → AllBelow (λ s. has (root_of s) g.physical.tree ≡ true) t → AllBelow (Reads (λ e. reader_of e g.physical.tree)) t → AllBelow AreIdle t
  idle_all (leaf n) s h r = idle (leaf n) s h (is_reader (leaf n) r)
  idle_all (over n t) s h r = (idle (over n t) s h.0 (is_reader (over n t) r.0), idle_all t s h.1 r.1)
  idle_all (both n t u) s h r = (idle (both n t u) s h.0 (is_reader (both n t u) r.0), idle_all t s h.1 r.1, idle_all u s h.2 r.2)

  -- the root puts nothing
  pub root_putless : (t : PlanTree) → t ≡ g.physical.tree → StandsAt g w h t → ArePutless t
  root_putless t same at k to below e =
      let i = w.instance (root_of t) k in
      let l = at k below in
      let receiver : IsReceiver (spot g t) k to = put_to (IsReceiver (spot g t) k) (IsWaiting (spot g t) k) i.waiting i.marks (port_ended i 0) (port_ended i 1) i.finished to (λ x q. q.0) l.waiting_notes l.marks_wait e in
      let no_edge : has_edge (root_of t) g.physical.tree ≡ false = subst (λ (u : PlanTree). has_edge (root_of u) g.physical.tree ≡ false) (sym same) (rw (has-root g.physical.tree, eq-eqb (root_of g.physical.tree) (root_of g.physical.tree) refl) refl) in
      let bad : has_out (ship_at g.physical (root_of t)) k to ≡ false = ap (λ (b : Bool). has_out (cond b (Some (port_from g.physical t).ship) None) k to) no_edge in
      absurd (let clash : true ≡ false = sym receiver.1 ∙ bad in cc)

  pub stuck_is_done : AreDifferent (nodes g.physical.tree) → ((at : ℕ) → has at g.physical.tree ≡ true → StandsAt g w h (subtree_of at g.physical.tree)) → IsStuck g.physical depth w → AreDone g.physical w
  stuck_is_done different instances stuck =
      let tree = g.physical.tree in
      let at = all_below (StandsAt g w h) tree different instances in
      let there = within (λ m. has m tree ≡ true) tree (λ m t. t) in
      let idles = idle_all tree stuck there (read tree different) in
      let done = drained tree at idles (fed_whole tree (edges tree different)) (root_putless tree refl (all_below-root (StandsAt g w h) tree at)) in
      λ m k has_m below. each_below (λ n. (j : ℕ) → j < g.physical.workers → want (w.instance n j) ≡ Done) tree done m has_m k below
