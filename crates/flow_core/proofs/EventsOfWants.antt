-- What an instance can do, by what it wants.
use Rattle.std.proofs.Common.{◌≡◌, ◌+◌, ◌<◌, ◌&&◌, ◌==◌, inl, inr, ℕ, zero, suc, Bool, true, false, if◌then◌else◌, IfNone, IfSome, Option, Some, None, [], length, slice_get, nat_lt, refl, ap, subst, sym, ◌∙◌, arith}
use Rattle.std.proofs.lemmas.Bool.{and_parts, cases_Bool, cases_eq, eq-eqb, eqb-true, false_from_ne_true, lt-ltb, ltb-true}
use Rattle.std.proofs.lemmas.Option.{none-some, same_Some}
use Rattle.plan_trees.specs.Distinct.{AreDifferent}
use Rattle.plan_trees.specs.Physicals.{IsPhysical, PhysicalData}
use Rattle.plan_trees.specs.Plans.{PlanTree, leaf, over, both, has, input_of, node_limit, nodes, root_input_of, root_of, subtree_of}
use Rattle.plan_trees.proofs.SubtreesOfPlans.{root_of-subtree}
use Rattle.tac_syntax.specs.declared.declarations.OpKind.TheVariants.{Source}
use Rattle.flow_instance.specs.declared.notes.Event.{Event}
use Rattle.flow_instance.specs.declared.notes.Event.TheVariants as events
use Rattle.flow_instance.specs.declared.notes.PipeId.{PipeId}
use Rattle.flow_instance.specs.declared.notes.Want.{Want}
use Rattle.flow_instance.specs.declared.notes.Want.TheVariants.{Done, End, Put, Take}
use Rattle.flow_instance.specs.Instances.{want}
use Rattle.flow_instance.specs.Spots.{Port, Setting, ports_of}
use Rattle.flow_instance.specs.Worlds.{IsStuck, World, can_take, does_want, enabled, reader_of}
use Rattle.flow_instance.proofs.Events.{wants_end, wants_put, wants_take}
use Rattle.flow_instance.proofs.Readers.{IsFound, found}
use Rattle.plan_trees.proofs.EverySubtree.{all_below-at}
use Rattle.flow_instance.proofs.Trees.{Reads, read}
use Rattle.flow_core.specs.Idle.{IsIdle, IsOf}
use Rattle.flow_core.specs.PlanTables.{input_in}
use Rattle.plan_trees.proofs.Ships.{below_limit}

-- ---- readers and what they read

found_at : (f : ℕ → Option (ℕ × ℕ)) (n port place m e : ℕ) → f m ≡ Some (n, place) → port ≡ place → ◌≡◌ {A = Option ℕ} (Some m) (Some e) → f e ≡ Some (n, port)
found_at f n port place m e r is i = ap f (sym (same_Some m e i)) ∙ r ∙ ap (λ (k : ℕ). Some (n, k)) (sym is)

input_read : (f : ℕ → Option (ℕ × ℕ)) (t : PlanTree) (port e : ℕ) → Reads f t → root_input_of port t ≡ Some e → f e ≡ Some (root_of t, port)
input_read f (leaf n) port e r i = absurd (none-some e i)
input_read f (over n t) port e r i = elim (cases_Bool (port == 0)) as (λ _. f e ≡ Some (n, port)) [
  | inl z ↦ found_at f n port 0 (root_of t) e r (eqb-true port 0 z) (sym (rw z refl) ∙ i)
  | inr z ↦ absurd (none-some e (sym (rw z refl) ∙ i))
]
input_read f (both n t u) port e r i = elim (cases_Bool (port == 0)) as (λ _. f e ≡ Some (n, port)) [
  | inl z ↦ found_at f n port 0 (root_of t) e r.0 (eqb-true port 0 z) (sym (rw z refl) ∙ i)
  | inr z ↦ elim (cases_Bool (port == 1)) as (λ _. f e ≡ Some (n, port)) [
    | inl y ↦ found_at f n port 1 (root_of u) e r.1 (eqb-true port 1 y) (sym (rw (z, y) refl) ∙ i)
    | inr y ↦ absurd (none-some e (sym (rw (z, y) refl) ∙ i))
  ]
]

-- an operator reads what its port says
pub input_is_read : (tree : PlanTree) (at port e : ℕ) → AreDifferent (nodes tree) → has at tree ≡ true → input_of at port tree ≡ Some e → reader_of e tree ≡ Some (at, port)
input_is_read tree at port e d there i =
    input_read (λ x. reader_of x tree) (subtree_of at tree) port e (all_below-at (Reads (λ x. reader_of x tree)) at tree (read tree d) there) i ∙ ap (λ (n : ℕ). Some (n, port)) (root_of-subtree at tree there)

-- and its port says what it reads
abbrev edge_in : Option Port → Option ℕ
edge_in None = None
edge_in (Some q) = Some q.edge

port_says : (p : PhysicalData) (t : PlanTree) (port : ℕ) (q : Port) → slice_get (ports_of p t) port ≡ Some q → root_input_of port t ≡ Some q.edge
port_says p (leaf n) port q e = absurd (let none : None ≡ Some q = e in cc)
port_says p (over n t) zero q e = ap (λ (o : Option Port). edge_in o) e
port_says p (over n t) (suc port) q e = absurd (let none : None ≡ Some q = e in cc)
port_says p (both n t u) zero q e = ap (λ (o : Option Port). edge_in o) e
port_says p (both n t u) (suc zero) q e = ap (λ (o : Option Port). edge_in o) e
port_says p (both n t u) (suc (suc port)) q e = absurd (let none : None ≡ Some q = e in cc)

-- a setting in which nothing is done, for statements about plans only
pub blank : PhysicalData → Setting
blank p = record {
  ops = record { nulls = false; kind = λ n. Source; rows = λ n. []; of_record = λ n row. []; of_pair = λ n l r. []; of_group = λ n key g. []; of_groups = λ n key l r. []; left_keys = λ n. []; right_keys = λ n. [] };
  fields = 0;
  physical = p;
}

pub is_found : (p : PhysicalData) (e at port : ℕ) → IsPhysical p → reader_of e p.tree ≡ Some (at, port) → IsFound (blank p) p.tree e at port
is_found p e at port k r = found (blank p) e at port p.tree k.plan.different r

pub reads_input : (p : PhysicalData) (e at port : ℕ) → IsPhysical p → reader_of e p.tree ≡ Some (at, port) → input_in p.tree at port ≡ Some e
unfolding blank
reads_input p e at port k r =
    let f = is_found p e at port k r in
    rw f.has_reader (port_says p (subtree_of at p.tree) port _ f.port_is)

pub input_reads : (p : PhysicalData) (at port e : ℕ) → IsPhysical p → input_in p.tree at port ≡ Some e → reader_of e p.tree ≡ Some (at, port)
input_reads p at port e k i = elim (cases_Bool (has at p.tree)) as (λ _. reader_of e p.tree ≡ Some (at, port)) [
  | inl there ↦ input_is_read p.tree at port e k.plan.different there (sym (rw there refl) ∙ i)
  | inr absent ↦ absurd (none-some e (sym (rw absent refl) ∙ i))
]

-- an answer that is None only if a test failed
pub none_if : {X P : Type 0} (b : Bool) (x : X) (o : Option X) → o ≡ (if b then Some x else None) → (b ≡ false → P) → IfNone o P
none_if {X} {P} true x o e h = subst (λ (y : Option X). IfNone y P) (sym e) tt
none_if {X} {P} false x o e h = subst (λ (y : Option X). IfNone y P) (sym e) (h refl)

-- what passed the test
pub some_if : {X : Type 0} (f : X → Bool) (x : X) (o : Option X) → o ≡ (if f x then Some x else None) → IfSome o (λ y. f y ≡ true)
some_if {X} f x o e = by_test (f x) refl e
  where
    by_test : (b : Bool) → f x ≡ b → o ≡ (if b then Some x else None) → IfSome o (λ y. f y ≡ true)
    by_test true on is = subst (λ (p : Option X). IfSome p (λ y. f y ≡ true)) (sym is) on
    by_test false off is = subst (λ (p : Option X). IfSome p (λ y. f y ≡ true)) (sym is) tt

-- ---- consequences of enabled events

module _ (p : PhysicalData) (depth : ℕ) (w : World) where
  pub told_put : (q : PipeId) → enabled p depth w (events.Put q) ≡ true → want (w.instance q.edge q.from) ≡ Put q.to
  told_put q on =
      let parts = and_parts (has q.edge p.tree && nat_lt q.from p.workers) _ on in
      wants_put (want (w.instance q.edge q.from)) q.to (and_parts (does_want (want (w.instance q.edge q.from)) (Put q.to)) _ parts.1).0

  pub record ToldTake (q : PipeId) (at port : ℕ) : Type 0 where
    pub wanted : want (w.instance at q.to) ≡ Take port
    pub some : 0 < length (w.queue q.edge q.from q.to)
    pub from : q.from < p.workers
    pub to : q.to < p.workers

  pub told_take : (q : PipeId) (at port : ℕ) → reader_of q.edge p.tree ≡ Some (at, port) → enabled p depth w (events.Take q) ≡ true → ToldTake q at port
  told_take q at port r on =
      let parts = and_parts (nat_lt q.from p.workers && nat_lt q.to p.workers) _ on in
      let below = and_parts (nat_lt q.from p.workers) (nat_lt q.to p.workers) parts.0 in
      let can = subst (λ (o : Option (ℕ × ℕ)). can_take w q o ≡ true) r parts.1 in
      let both = and_parts (does_want (want (w.instance at q.to)) (Take port)) (nat_lt 0 (length (w.queue q.edge q.from q.to))) can in
      record {
        wanted = wants_take (want (w.instance at q.to)) port both.0;
        some = ltb-true 0 (length (w.queue q.edge q.from q.to)) both.1;
        from = ltb-true q.from p.workers below.0;
        to = ltb-true q.to p.workers below.1;
      }

  can_be_taken : (q : PipeId) (at port : ℕ) → reader_of q.edge p.tree ≡ Some (at, port) → ToldTake q at port → enabled p depth w (events.Take q) ≡ true
  can_be_taken q at port r t =
      let from = lt-ltb q.from p.workers t.from in
      let to = lt-ltb q.to p.workers t.to in
      let wanted : does_want (want (w.instance at q.to)) (Take port) ≡ true = ap (λ (x : Want). does_want x (Take port)) t.wanted ∙ eq-eqb port port refl in
      let some = lt-ltb 0 (length (w.queue q.edge q.from q.to)) t.some in
      rw (from, to, r, wanted, some) refl

  pub told_end : (at worker : ℕ) → enabled p depth w (events.End at worker) ≡ true → want (w.instance at worker) ≡ End
  told_end at worker on = wants_end (want (w.instance at worker)) (and_parts (has at p.tree && nat_lt worker p.workers) _ on).1

  pub place_put : (q : PipeId) → enabled p depth w (events.Put q) ≡ true → (has q.edge p.tree ≡ true) × (q.from < p.workers)
  place_put q on =
      let place = and_parts (has q.edge p.tree) (nat_lt q.from p.workers) (and_parts (has q.edge p.tree && nat_lt q.from p.workers) _ on).0 in
      (place.0, ltb-true q.from p.workers place.1)

  pub place_end : (at worker : ℕ) → enabled p depth w (events.End at worker) ≡ true → (has at p.tree ≡ true) × (worker < p.workers)
  place_end at worker on =
      let place = and_parts (has at p.tree) (nat_lt worker p.workers) (and_parts (has at p.tree && nat_lt worker p.workers) _ on).0 in
      (place.0, ltb-true worker p.workers place.1)

  -- an instance that does an enabled event wants it
  abbrev Wanted : (at worker : ℕ) → Event → Want → Type 0
  Wanted at worker (events.Put q) x = (x ≡ Put q.to) × (q.edge ≡ at) × (q.from ≡ worker)
  Wanted at worker (events.Take q) x = (port : ℕ) × (reader_of q.edge p.tree ≡ Some (at, port)) × (q.to ≡ worker) × (x ≡ Take port)
  Wanted at worker (events.End a b) x = (x ≡ End) × (a ≡ at) × (b ≡ worker)

  wanted_by : (at worker : ℕ) (e : Event) → IsOf p.tree at worker e → enabled p depth w e ≡ true → Wanted at worker e (want (w.instance at worker))
  wanted_by at worker (events.Put q) o on = ((λ i. want (w.instance (sym o.0 i) (sym o.1 i))) ∙ told_put q on, o.0, o.1)
  wanted_by at worker (events.Take q) o on = (o.0.0, o.0.1, o.1, ap (λ (k : ℕ). want (w.instance at k)) (sym o.1) ∙ (told_take q at o.0.0 o.0.1 on).wanted)
  wanted_by at worker (events.End a b) o on = ((λ i. want (w.instance (sym o.0 i) (sym o.1 i))) ∙ told_end a b on, o.0, o.1)

  idle_if : (at worker : ℕ) → ((e : Event) → Wanted at worker e (want (w.instance at worker)) → enabled p depth w e ≡ true → ⊥) → IsIdle p depth w at worker
  idle_if at worker h e o = false_from_ne_true (enabled p depth w e) (λ (on : enabled p depth w e ≡ true). h e (wanted_by at worker e o on) on)

  no_put : (at worker to : ℕ) → enabled p depth w (events.Put (record { edge = at; from = worker; to = to })) ≡ false → (e : Event) → Wanted at worker e (Put to) → enabled p depth w e ≡ true → ⊥
  no_put at worker to off (events.Put q) x on =
      let same : to ≡ q.to = (let both : Put to ≡ Put q.to = x.0 in cc) in
      let is : q ≡ record { edge = at; from = worker; to = to } = λ i. record { edge = x.1 i; from = x.2 i; to = sym same i } in
      let clash : true ≡ false = sym on ∙ ap (λ (r : PipeId). enabled p depth w (events.Put r)) is ∙ off in
      cc
  no_put at worker to off (events.Take q) x on = let bad : Put to ≡ Take x.0 = x.3 in cc
  no_put at worker to off (events.End a b) x on = let bad : Put to ≡ End = x.0 in cc

  pub idle_put : (at worker to : ℕ) → want (w.instance at worker) ≡ Put to → enabled p depth w (events.Put (record { edge = at; from = worker; to = to })) ≡ false → IsIdle p depth w at worker
  idle_put at worker to wanted off = idle_if at worker (λ e x on. no_put at worker to off e (subst (Wanted at worker e) wanted x) on)

  no_end : (at worker : ℕ) → enabled p depth w (events.End at worker) ≡ false → (e : Event) → Wanted at worker e End → enabled p depth w e ≡ true → ⊥
  no_end at worker off (events.Put q) x on = let bad : End ≡ Put q.to = x.0 in cc
  no_end at worker off (events.Take q) x on = let bad : End ≡ Take x.0 = x.3 in cc
  no_end at worker off (events.End a b) x on =
      let clash : true ≡ false = sym on ∙ (λ i. enabled p depth w (events.End (x.1 i) (x.2 i))) ∙ off in
      cc

  pub idle_end : (at worker : ℕ) → want (w.instance at worker) ≡ End → enabled p depth w (events.End at worker) ≡ false → IsIdle p depth w at worker
  idle_end at worker wanted off = idle_if at worker (λ e x on. no_end at worker off e (subst (Wanted at worker e) wanted x) on)

  nothing : (at worker : ℕ) (e : Event) → Wanted at worker e Done → ⊥
  nothing at worker (events.Put q) x = let bad : Done ≡ Put q.to = x.0 in cc
  nothing at worker (events.Take q) x = let bad : Done ≡ Take x.0 = x.3 in cc
  nothing at worker (events.End a b) x = let bad : Done ≡ End = x.0 in cc

  pub idle_done : (at worker : ℕ) → want (w.instance at worker) ≡ Done → IsIdle p depth w at worker
  idle_done at worker wanted = idle_if at worker (λ e x on. nothing at worker e (subst (Wanted at worker e) wanted x))

  no_take : (at worker port : ℕ) → ((q : PipeId) → q.to ≡ worker → reader_of q.edge p.tree ≡ Some (at, port) → enabled p depth w (events.Take q) ≡ true → ⊥)
      → (e : Event) → Wanted at worker e (Take port) → enabled p depth w e ≡ true → ⊥
  no_take at worker port h (events.Put q) x on = let bad : Take port ≡ Put q.to = x.0 in cc
  no_take at worker port h (events.Take q) x on =
      let same : port ≡ x.0 = (let both : Take port ≡ Take x.0 = x.3 in cc) in
      h q x.2 (x.1 ∙ ap (λ (n : ℕ). Some (at, n)) (sym same)) on
  no_take at worker port h (events.End a b) x on = let bad : Take port ≡ End = x.0 in cc

  pub idle_take : (at worker port : ℕ) → want (w.instance at worker) ≡ Take port
      → ((q : PipeId) → q.to ≡ worker → reader_of q.edge p.tree ≡ Some (at, port) → enabled p depth w (events.Take q) ≡ true → ⊥) → IsIdle p depth w at worker
  idle_take at worker port wanted h = idle_if at worker (λ e x on. no_take at worker port h e (subst (Wanted at worker e) wanted x) on)

  -- at a port with no input, or without a waiting note
  pub idle_unread : IsPhysical p → (at worker port : ℕ) → want (w.instance at worker) ≡ Take port → input_in p.tree at port ≡ None → IsIdle p depth w at worker
  idle_unread k at worker port wanted none = idle_take at worker port wanted (λ q to r on. none-some q.edge (sym none ∙ reads_input p q.edge at port k r))

  pub idle_starved : IsPhysical p → (at worker port edge : ℕ) → want (w.instance at worker) ≡ Take port → input_in p.tree at port ≡ Some edge
      → ((from : ℕ) → from < p.workers → length (w.queue edge from worker) ≡ 0) → IsIdle p depth w at worker
  idle_starved k at worker port edge wanted is empty = idle_take at worker port wanted (λ q to r on.
      let t = told_take q at port r on in
      let same : q.edge ≡ edge = same_Some q.edge edge (sym (reads_input p q.edge at port k r) ∙ is) in
      let none : length (w.queue q.edge q.from q.to) ≡ 0 = (λ i. length (w.queue (same i) q.from (to i))) ∙ empty q.from t.from in
      omega (arith, t.some, none))

  -- a note waits, and still can't be taken
  pub idle_beside : (at worker port edge from : ℕ) → want (w.instance at worker) ≡ Take port → reader_of edge p.tree ≡ Some (at, port) → from < p.workers → 0 < length (w.queue edge from worker)
      → enabled p depth w (events.Take (record { edge = edge; from = from; to = worker })) ≡ false → IsIdle p depth w at worker
  idle_beside at worker port edge from wanted reads below some off = idle_take at worker port wanted (λ q to r on.
      let t = told_take q at port r on in
      let on_too = can_be_taken (record { edge = edge; from = from; to = worker }) at port reads (record { wanted = wanted; some = some; from = below; to = subst (λ (n : ℕ). n < p.workers) to t.to }) in
      let clash : true ≡ false = sym on_too ∙ off in
      cc)

  -- ---- all instances

  -- of one number more
  pub idle_next : (n : ℕ) → ((at worker : ℕ) → at < n → worker < p.workers → IsIdle p depth w at worker) → ((worker : ℕ) → worker < p.workers → IsIdle p depth w n worker)
      → (at worker : ℕ) → at < n + 1 → worker < p.workers → IsIdle p depth w at worker
  idle_next n before here at worker below within = elim (cases_eq at n) as (λ _. IsIdle p depth w at worker) [
    | inl e ↦ subst (λ (k : ℕ). IsIdle p depth w k worker) (sym e) (here worker within)
    | inr other ↦ before at worker (omega (arith, below, other)) within
  ]

  stuck_take : IsPhysical p → ((at worker : ℕ) → at < node_limit → worker < p.workers → IsIdle p depth w at worker) → (q : PipeId) (o : Option (ℕ × ℕ)) → reader_of q.edge p.tree ≡ o
      → enabled p depth w (events.Take q) ≡ true → ⊥
  stuck_take k h q None r on =
      let can = subst (λ (o : Option (ℕ × ℕ)). can_take w q o ≡ true) r (and_parts (nat_lt q.from p.workers && nat_lt q.to p.workers) _ on).1 in
      cc
  stuck_take k h q (Some x) r on =
      let t = told_take q x.0 x.1 r on in
      let f = is_found p q.edge x.0 x.1 k r in
      let off = h x.0 q.to (below_limit x.0 p.tree k.plan f.has_reader) t.to (events.Take q) ((x.1, r), refl) in
      let clash : true ≡ false = sym on ∙ off in
      cc

  stuck_at : IsPhysical p → ((at worker : ℕ) → at < node_limit → worker < p.workers → IsIdle p depth w at worker) → (e : Event) → enabled p depth w e ≡ true → ⊥
  stuck_at k h (events.Put q) on =
      let place = and_parts (has q.edge p.tree) (nat_lt q.from p.workers) (and_parts (has q.edge p.tree && nat_lt q.from p.workers) _ on).0 in
      let off = h q.edge q.from (below_limit q.edge p.tree k.plan place.0) (ltb-true q.from p.workers place.1) (events.Put q) (refl, refl) in
      let clash : true ≡ false = sym on ∙ off in
      cc
  stuck_at k h (events.End at worker) on =
      let place = and_parts (has at p.tree) (nat_lt worker p.workers) (and_parts (has at p.tree && nat_lt worker p.workers) _ on).0 in
      let off = h at worker (below_limit at p.tree k.plan place.0) (ltb-true worker p.workers place.1) (events.End at worker) (refl, refl) in
      let clash : true ≡ false = sym on ∙ off in
      cc
  stuck_at k h (events.Take q) on = stuck_take k h q (reader_of q.edge p.tree) refl on

  pub all_idle : IsPhysical p → ((at worker : ℕ) → at < node_limit → worker < p.workers → IsIdle p depth w at worker) → IsStuck p depth w
  all_idle k h e = false_from_ne_true (enabled p depth w e) (λ (on : enabled p depth w e ≡ true). stuck_at k h e on)
