-- The records that an instance of a plan has given at its start, and the notes that it owes.
use Rattle.std.proofs.Common.{◌≡◌, ◌<◌, ◌≤◌, ◌+◌, ◌&&◌, ◌||◌, not, ℕ, zero, suc, Bool, true, false, Option, Some, None, List, [], ◌∷◌, length, map, slice_get, refl, ap, sym, ◌∙◌, subst, arith}
use Rattle.std.proofs.Math.Path.{transport}
use Rattle.std.proofs.lemmas.Bool.{and_left, and_parts, and_right, eq-eqb}
use Rattle.std.proofs.lemmas.List.{length-map}
use Rattle.std.proofs.lemmas.List.Sorted.{IsPermutation-refl}
use Rattle.flow_instance.proofs.Bags.{is_same}
use Rattle.plan_trees.proofs.NumbersBelow.{all_below_from, all_below_none}
use Rattle.flow_instance.specs.Instances.{all_ended, ended_at, kept_at, port_ended}
use Rattle.flow_instance.specs.Local.{Calls, Gave, IsGiven, IsPartOf, KeepsRows, Placed, sender_ended, is_pipelined}
use Rattle.flow_instance.specs.Spots.{Port as PortData, Spot, is_edge, ports_of, setting, spot}
use Rattle.flow_instance.specs.Steps.{Carry, Mark, Started}
use Rattle.pact_operators.specs.Allowed.{Bag, count_of}
use Rattle.pact_operators.specs.PlanOps.{PlanOps, body_at, is_source_kind, kind_at, left_keys_in, plan_ops, right_keys_in}
use Rattle.pact_operators.specs.Programs.{HasArity, HasKeyLists, IsKindFor, ProgramData, takes, is_pair_kind}
use Rattle.pact_operators.specs.declared.operators.Op.{Op}
use Rattle.pact_operators.proofs.SourceKinds.{takes_at}
use Rattle.pact_record.specs.Widths.{AreBelow, AreWide}
use Rattle.plan_trees.proofs.SubtreesOfPlans.{root_of-subtree}
use Rattle.plan_trees.specs.Physicals.{PhysicalData, ship_at}
use Rattle.plan_trees.specs.Plans.{PlanTree, leaf, over, both, has, root_of, subtree_of}
use Rattle.plan_trees.specs.Sending.{has_pipe, share_from}
use Rattle.plan_trees.specs.declared.physicals.Ship.{Ship}
use Rattle.plan_trees.specs.declared.physicals.Ship.TheVariants.{Forward, Partition, Broadcast}
use Rattle.tac_syntax.specs.Call.{Out, of_group, of_groups, of_pair, of_record}
use Rattle.tac_syntax.specs.Valid.{WithFields}
use Rattle.tac_syntax.specs.declared.declarations.OpKind.{OpKind}
use Rattle.tac_syntax.specs.declared.declarations.OpKind.TheVariants.{Source, Map, Reduce, Match, Cross, CoGroup}
use Rattle.flow_instance.specs.Starting.{IsCalledAt, IsPartAt, IsShareOf}
use Rattle.flow_instance.specs.States.{AreOrderly, HasBegun, IsFresh, IsOperator, IsSound, IsWhole, body_in, part_of, port_of, seen, spot_of}
use Rattle.flow_instance.specs.Sending.{batches_in, marks_in}
use Rattle.flow_instance.specs.declared.parts.Part.{Part}
use Rattle.flow_instance.specs.declared.states.State.{State}
use Rattle.flow_instance.proofs.PartsOfPlans.{arity_at}
use Rattle.flow_instance.proofs.SoundInstances.{at_root, count_twice}
use Rattle.flow_instance.proofs.InstancesOfPlans.{same_spot}
use Rattle.flow_instance.proofs.TakenNotes.{each_wide}

-- ---- the part

module _ (p : ProgramData) (physical : PhysicalData) (at worker batch : ℕ) (part : Part) (h : IsPartAt p physical at worker batch part) (here : has at physical.tree ≡ true) where
  root : at ≡ root_of (subtree_of at physical.tree)
  root = sym (root_of-subtree at physical.tree here)

  calls_by : (inputs : List Bag) (kind : OpKind) (called : Option WithFields) → kind ≡ kind_at p.ops at → IsCalledAt p at called → Calls (spot (setting p inputs physical) (subtree_of at physical.tree)) kind p.fields (body_in called)
  calls_by inputs Source called k c = tt
  calls_by inputs Map None k c = absurd (let clash : Map ≡ Source = k ∙ c in cc)
  calls_by inputs Reduce None k c = absurd (let clash : Reduce ≡ Source = k ∙ c in cc)
  calls_by inputs Match None k c = absurd (let clash : Match ≡ Source = k ∙ c in cc)
  calls_by inputs Cross None k c = absurd (let clash : Cross ≡ Source = k ∙ c in cc)
  calls_by inputs CoGroup None k c = absurd (let clash : CoGroup ≡ Source = k ∙ c in cc)
  calls_by inputs Map (Some f) k c = λ row i. Out p.fields ((ap (body_at p) (sym root) ∙ sym c.body) i) (of_record row)
  calls_by inputs Reduce (Some f) k c = λ key group i. Out p.fields ((ap (body_at p) (sym root) ∙ sym c.body) i) (of_group key group)
  calls_by inputs Match (Some f) k c = λ l r i. Out p.fields ((ap (body_at p) (sym root) ∙ sym c.body) i) (of_pair l r)
  calls_by inputs Cross (Some f) k c = λ l r i. Out p.fields ((ap (body_at p) (sym root) ∙ sym c.body) i) (of_pair l r)
  calls_by inputs CoGroup (Some f) k c = λ key l r i. Out p.fields ((ap (body_at p) (sym root) ∙ sym c.body) i) (of_groups key l r)

  pub part_is : (inputs : List Bag) → IsPartOf (spot (setting p inputs physical) (subtree_of at physical.tree)) worker (part_of part)
  part_is inputs = record {
    at = h.at ∙ root;
    kind = h.kind ∙ ap (kind_at p.ops) root;
    calls = subst (λ (n : ℕ). Calls (spot (setting p inputs physical) (subtree_of at physical.tree)) part.kind n (body_in part.called)) (sym h.fields) (calls_by inputs part.kind part.called h.kind h.called);
    left_keys = h.left_keys ∙ ap (λ (n : ℕ). left_keys_in (slice_get p.ops n)) root;
    right_keys = h.right_keys ∙ ap (λ (n : ℕ). right_keys_in (slice_get p.ops n)) root;
    nulls = h.nulls;
    fields = h.fields;
    worker = h.worker;
    workers = h.workers;
    ports = h.ports;
    out = h.out ∙ ap (ship_at physical) root;
  }

  -- the kind of an operator isn't Source
  operator_by : (called : Option WithFields) → part.called ≡ called → IsCalledAt p at called → (kind_at p.ops at ≡ Source → ⊥) → takes part.kind ≡ length part.ports.items → IsOperator part
  operator_by None e c operator arity = absurd (operator c)
  operator_by (Some f) e c operator arity = record {
    function = f;
    called = e;
    fields = c.fields ∙ sym h.fields;
    kind = subst (λ (k : OpKind). IsKindFor k f.function.kind) (sym h.kind) c.kind;
    keys = transport (λ i. HasKeyLists (sym h.kind i) f.function.keys (sym h.left_keys i) (sym h.right_keys i)) c.keys;
    left_below = subst (λ (n : ℕ). AreBelow n part.left_keys) (sym h.fields) (subst (AreBelow p.fields) (sym h.left_keys) c.left_below);
    right_below = subst (λ (n : ℕ). AreBelow n part.right_keys) (sym h.fields) (subst (AreBelow p.fields) (sym h.right_keys) c.right_below);
    arity = arity;
  }

-- ---- the kind and the ports

arity_of : (ops : List Op) (physical : PhysicalData) (u : PlanTree) → HasArity ops u → takes (kind_at ops (root_of u)) ≡ length (ports_of physical u)
arity_of ops physical (leaf n) h = takes_at ops n 0 h
arity_of ops physical (over n t) h = takes_at ops n 1 h.0
arity_of ops physical (both n t u) h = takes_at ops n 2 h.0

no_third : (physical : PhysicalData) (u : PlanTree) (port : ℕ) → slice_get (ports_of physical u) (suc (suc port)) ≡ None
no_third physical (leaf n) port = refl
no_third physical (over n t) port = refl
no_third physical (both n t u) port = refl

own_pipe : (ship : Ship) (worker : ℕ) → has_pipe ship worker worker ≡ true
own_pipe Forward worker = eq-eqb worker worker refl
own_pipe (Partition keys) worker = refl
own_pipe Broadcast worker = refl

-- ---- the records given at the start

gives_by : (s : Spot) (kind : OpKind) (ports : List PortData) (worker : ℕ) (all : Bool) (out : Bag) → takes kind ≡ length ports → (kind ≡ Source → out ≡ share_from 0 s.workers worker (s.ops.rows s.at)) → (is_source_kind kind ≡ false → out ≡ [])
    → (is_source_kind kind ≡ false → all ≡ false) → Gave (is_pipelined kind || all) (IsGiven s kind ports worker (λ port. [])) out
gives_by s Source [] worker all out a share none some = record { left = []; right = []; out = out; of_left = IsPermutation-refl []; of_right = IsPermutation-refl []; may = share refl; permuted = IsPermutation-refl out }
gives_by s Map (p ∷ []) worker all out a share none some = record { left = []; right = []; out = []; of_left = IsPermutation-refl []; of_right = IsPermutation-refl []; may = refl; permuted = is_same (sym (none refl)) }
gives_by s Reduce ports worker all out a share none some = subst (λ (b : Bool). Gave b (IsGiven s Reduce ports worker (λ port. [])) out) (sym (some refl)) (none refl)
gives_by s Match (p ∷ q ∷ []) worker all out a share none some = record { left = []; right = []; out = []; of_left = IsPermutation-refl []; of_right = IsPermutation-refl []; may = refl; permuted = is_same (sym (none refl)) }
gives_by s Cross (p ∷ q ∷ []) worker all out a share none some = record { left = []; right = []; out = []; of_left = IsPermutation-refl []; of_right = IsPermutation-refl []; may = refl; permuted = is_same (sym (none refl)) }
gives_by s CoGroup ports worker all out a share none some = subst (λ (b : Bool). Gave b (IsGiven s CoGroup ports worker (λ port. [])) out) (sym (some refl)) (none refl)
gives_by s kind ports worker all out a share none some = absurd (omega (arith, a))

none_kept : (s : Spot) (kind : OpKind) (kept : ℕ → Bag) → kept 0 ≡ [] → kept 1 ≡ [] → KeepsRows s kind (λ port. []) kept
none_kept s Source kept e f = tt
none_kept s Map kept e f = tt
none_kept s Reduce kept e f = is_same (sym e)
none_kept s Match kept e f = is_same (sym e)
none_kept s Cross kept e f = is_same (sym e)
none_kept s CoGroup kept e f = (is_same (sym e), is_same (sym f))

-- if a port exists, it waits for the sender on the same worker
first_port : (ports : List PortData) (worker : ℕ) → 0 < length ports → is_edge (slice_get ports 0) worker worker ≡ true
first_port [] worker h = absurd (omega (arith, h))
first_port (p ∷ ports) worker h = own_pipe p.ship worker

some_port : (kind : OpKind) (n : ℕ) → takes kind ≡ n → is_source_kind kind ≡ false → 0 < n
some_port Source n t e = absurd (cc)
some_port kind n t e = omega (arith, t)

-- ---- an instance at its start

module _ {L : Type 0} (rows : L → Bag) (keys : L → List ℕ) (is_sealed : L → Bool) (p : ProgramData) (physical : PhysicalData) (at worker batch : ℕ) (part : Part) (s t : State L) (out : Bag) (h : IsPartAt p physical at worker batch part)
    (here : has at physical.tree ≡ true) (arity : HasArity p.ops physical.tree) (below : worker < physical.workers) (f : IsFresh rows keys is_sealed part s) (b : HasBegun rows s out t) where
  below_own : part.worker < part.workers
  below_own = omega (arith, below, h.worker, h.workers)

  ports_fit : takes part.kind ≡ length (map port_of part.ports.items)
  ports_fit =
      ap takes (h.kind ∙ ap (kind_at p.ops) (sym (root_of-subtree at physical.tree here))) ∙ arity_of p.ops physical (subtree_of at physical.tree) (arity_at p.ops at physical.tree arity) ∙ ap length (sym h.ports)

  first_waits : is_source_kind part.kind ≡ false → port_ended (seen rows s) 0 ≡ false
  first_waits operator =
      let edge = first_port (map port_of part.ports.items) part.worker (some_port part.kind (length (map port_of part.ports.items)) ports_fit operator) in
      all_below_none s.part.workers part.worker (ended_at (seen rows s) 0) (subst (λ (q : Part). part.worker < q.workers) (sym f.part) below_own) (f.left_ended part.worker below_own ∙ ap not edge)

  waits : is_source_kind part.kind ≡ false → all_ended (seen rows t) ≡ false
  waits operator = ap (λ (u : State L). all_ended (seen rows u)) b.same ∙ and_left (port_ended (seen rows s) 0) (port_ended (seen rows s) 1) (first_waits operator)

  -- ---- what is always true

  without_ports : (ports : List PortData) → length ports ≡ 0 → (from : ℕ) → not (is_edge (slice_get ports 0) from part.worker) && not (is_edge (slice_get ports 1) from part.worker) ≡ true
  without_ports [] e from = refl
  without_ports (q ∷ ports) e from = absurd (omega (arith, e))

  operates : (source : Bool) → is_source_kind part.kind ≡ source → all_ended (seen rows t) ≡ false → is_source_kind part.kind ≡ false
  operates false e not_yet = e
  operates true e not_yet =
      let none : length (map port_of part.ports.items) ≡ 0 = sym ports_fit ∙ source_takes part.kind e in
      let n = s.part.workers in
      let within : (from : ℕ) → from < n → from < part.workers = λ from lt. subst (λ (q : Part). from < q.workers) f.part lt in
      let first = all_below_from n (ended_at (seen rows s) 0) (λ from lt. f.left_ended from (within from lt) ∙ (and_parts (not (is_edge (slice_get (map port_of part.ports.items) 0) from part.worker)) _ (without_ports (map port_of part.ports.items) none from)).0) in
      let second = all_below_from n (ended_at (seen rows s) 1) (λ from lt. f.right_ended from (within from lt) ∙ (and_parts (not (is_edge (slice_get (map port_of part.ports.items) 0) from part.worker)) _ (without_ports (map port_of part.ports.items) none from)).1) in
      absurd (let clash : true ≡ false = sym ((λ i. first i && second i)) ∙ (ap (λ (u : State L). all_ended (seen rows u)) (sym b.same) ∙ not_yet) in cc)
    where
      source_takes : (kind : OpKind) → is_source_kind kind ≡ true → takes kind ≡ 0
      source_takes Source k = refl
      source_takes kind k = absurd (cc)

  sound : 1 ≤ batch → is_source_kind part.kind ≡ false → IsSound rows keys is_sealed t
  sound some operator =
      let not_source : kind_at p.ops at ≡ Source → ⊥ = λ e. let clash : true ≡ false = ap is_source_kind (sym (h.kind ∙ e)) ∙ operator in cc in
      let called = operator_by p physical at worker batch part h here part.called refl h.called not_source (ports_fit ∙ length-map part.ports.items port_of) in
      subst (IsSound rows keys is_sealed) (sym b.same) (record {
        batch = subst (λ (q : Part). 1 ≤ q.batch) (sym f.part) (let own : 1 ≤ part.batch = omega (arith, some, h.batch) in own);
        worker = subst (λ (q : Part). q.worker < q.workers) (sym f.part) below_own;
        operator = subst IsOperator (sym f.part) called;
        left_flags = f.left_flags ∙ ap (λ (q : Part). q.workers) (sym f.part);
        right_flags = f.right_flags ∙ ap (λ (q : Part). q.workers) (sym f.part);
        left_wide = subst (AreWide s.part.fields) (sym f.left_none) tt;
        right_wide = subst (AreWide s.part.fields) (sym f.right_none) tt;
        left_keys = f.left_keys ∙ ap (λ (q : Part). q.left_keys) (sym f.part);
        right_keys = f.right_keys ∙ ap (λ (q : Part). q.right_keys) (sym f.part);
        left_sealed = f.left_sealed ∙ sym (and_right (is_pair_kind s.part.kind) (port_ended (seen rows s) 0) (first_waits operator));
        right_sealed = f.right_sealed;
        placed_wide = b.wide;
        placed_at_root = at_root s.part.out out t.placed b.places;
        counted = count_twice t.given (s.given + length out) b.counted;
      })

  pub whole : 1 ≤ batch → IsWhole rows keys is_sealed t
  whole some =
      let left : length t.left_ended ≡ t.part.workers = ap (λ (u : State L). length u.left_ended) b.same ∙ f.left_flags ∙ ap (λ (q : Part). q.workers) (sym f.part) ∙ ap (λ (u : State L). u.part.workers) (sym b.same) in
      let right : length t.right_ended ≡ t.part.workers = ap (λ (u : State L). length u.right_ended) b.same ∙ f.right_flags ∙ ap (λ (q : Part). q.workers) (sym f.part) ∙ ap (λ (u : State L). u.part.workers) (sym b.same) in
      let receiver : t.receiver ≡ t.part.workers = ap (λ (u : State L). u.receiver) b.same ∙ f.receiver ∙ ap (λ (q : Part). q.workers) (sym f.part) ∙ ap (λ (u : State L). u.part.workers) (sym b.same) in
      record {
        taking = λ not_yet. sound some (operates (is_source_kind part.kind) refl not_yet);
        flags = record { left = omega (arith, left); right = omega (arith, right) };
        orderly = subst (λ (n : ℕ). AreOrderly n t.queue.items) (ap (λ (u : State L). u.part.workers) (sym b.same)) b.orderly;
        room = λ less. absurd (omega (arith, less, receiver));
      }

  -- ---- the notes that it owes

  pub part_of_started : part_of t.part ≡ part_of part
  part_of_started = ap (λ (u : State L). part_of u.part) b.same ∙ ap part_of f.part

  ended_third : (port from : ℕ) → true ≡ sender_ended (slice_get (map port_of part.ports.items) (suc (suc port))) from part.worker []
  ended_third port from = λ i. sender_ended ((sym (no_third physical (subtree_of at physical.tree) port) ∙ ap (λ (ps : List PortData). slice_get ps (suc (suc port))) (sym h.ports)) i) from part.worker []

  plain : (x : Bool) → not x ≡ (not x || false)
  plain true = refl
  plain false = refl

  ended_each : (port from : ℕ) → from < part.workers → ended_at (seen rows t) port from ≡ sender_ended (slice_get (map port_of part.ports.items) port) from part.worker []
  ended_each zero from lt = ap (λ (u : State L). ended_at (seen rows u) 0 from) b.same ∙ f.left_ended from lt ∙ plain (is_edge (slice_get (map port_of part.ports.items) 0) from part.worker)
  ended_each (suc zero) from lt = ap (λ (u : State L). ended_at (seen rows u) 1 from) b.same ∙ f.right_ended from lt ∙ plain (is_edge (slice_get (map port_of part.ports.items) 1) from part.worker)
  ended_each (suc (suc port)) from lt = ended_third port from

  module _ (inputs : List Bag) (share : IsShareOf p inputs at physical.workers worker out) (none : is_source_kind (kind_at p.ops at) ≡ false → out ≡ []) where
    ops : PlanOps
    ops = plan_ops p inputs

    own_spot : Spot
    own_spot = spot_of (part_of part) (plan_ops p inputs)

    own_share : part.kind ≡ Source → out ≡ share_from 0 part.workers part.worker ((plan_ops p inputs).rows part.at)
    own_share k = share (sym h.kind ∙ k) ∙ (λ i. share_from 0 (sym h.workers i) (sym h.worker i) ((plan_ops p inputs).rows (sym h.at i)))

    pub started_own : Started (spot_of (part_of part) (plan_ops p inputs)) part.worker (seen rows t)
    started_own =
        let kind_none : is_source_kind part.kind ≡ false → out ≡ [] = λ e. none (ap is_source_kind (sym h.kind) ∙ e) in
        let left : rows t.left ≡ [] = ap (λ (u : State L). rows u.left) b.same ∙ f.left_none in
        let right : rows t.right ≡ [] = ap (λ (u : State L). rows u.right) b.same ∙ f.right_none in
        record {
          out = out;
          gives = gives_by (spot_of (part_of part) (plan_ops p inputs)) part.kind (map port_of part.ports.items) part.worker (all_ended (seen rows t)) out ports_fit own_share kind_none waits;
          part = subst (IsPartOf (spot_of (part_of part) (plan_ops p inputs)) part.worker) (sym part_of_started) own_part;
          ended = ended_each;
          kept = none_kept (spot_of (part_of part) (plan_ops p inputs)) part.kind (kept_at (seen rows t)) left right;
          kept_wide = each_wide part.fields (seen rows t) (subst (AreWide part.fields) (sym left) tt) (subst (AreWide part.fields) (sym right) tt);
          carries = subst (λ (q : Part). Carry (spot_of (part_of q) (plan_ops p inputs)) q.worker out (batches_in t.queue.items)) f.part (b.carries (plan_ops p inputs));
          marks = subst (λ (q : Part). Mark (spot_of (part_of q) (plan_ops p inputs)) q.worker (all_ended (seen rows t)) (marks_in t.queue.items)) f.part (b.marks (plan_ops p inputs));
          placed = subst (λ (q : Part). Placed q.out out t.placed) f.part b.places;
          placed_wide = subst (λ (q : Part). AreWide q.fields t.placed) f.part b.wide;
          given = b.counted ∙ ap (λ (n : ℕ). count_of (n + length out)) f.given ∙ ap count_of (zero_more (length out));
          finished = ap (λ (u : State L). u.finished) b.same ∙ f.finished;
        }
      where
        zero_more : (n : ℕ) → 0 + n ≡ n
        zero_more n = omega arith

        own_part : IsPartOf (spot_of (part_of part) (plan_ops p inputs)) part.worker (part_of part)
        own_part =
            let is = part_is p physical at worker batch part h here inputs in
            let same = same_spot (spot (setting p inputs physical) (subtree_of at physical.tree)) worker (part_of part) is in
            transport (λ i. IsPartOf (sym same i) (sym is.worker i) (part_of part)) is

    pub started : Started (spot (setting p inputs physical) (subtree_of at physical.tree)) worker (seen rows t)
    started =
        let is = part_is p physical at worker batch part h here inputs in
        transport (λ i. Started (same_spot (spot (setting p inputs physical) (subtree_of at physical.tree)) worker (part_of part) is i) (is.worker i) (seen rows t)) started_own
