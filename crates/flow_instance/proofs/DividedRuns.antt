-- The output of a finished run is divided among its instances.
use Rattle.std.proofs.Common.{◌≡◌, ◌<◌, ◌+◌, ◌||◌, inl, inr, ℕ, zero, suc, Bool, true, false, Option, Some, None, List, [], ◌++◌, fold, length, map, slice_get, sum, refl, ap, sym, ◌∙◌, subst, append-nil, arith}
use Rattle.std.proofs.lemmas.Bool.{and_from, and_parts, and_right, cases_Bool, cases_lt, or_right, eq-eqb}
use Rattle.std.specs.List.Sorted.{IsPermutation}
use Rattle.tac_syntax.specs.declared.declarations.OpKind.TheVariants.{Source}
use Rattle.plan_trees.specs.declared.physicals.Ship.{Ship}
use Rattle.plan_trees.specs.Distinct.{AreDifferent}
use Rattle.plan_trees.specs.Physicals.{IsPhysical, PhysicalData, has_edge, ship_at, ship_of}
use Rattle.plan_trees.specs.Plans.{PlanTree, leaf, over, both, has, nodes, root_of, subtree_of}
use Rattle.plan_trees.specs.Sending.{all_of, workers_below}
use Rattle.pact_record.proofs.Permutations.{from_permutation, to_permutation}
use Rattle.plan_trees.proofs.EachWorker.{perm_each}
use Rattle.plan_trees.proofs.SubtreesOfPlans.{has-root, root_of-subtree, subtree_of-root}
use Rattle.pact_operators.specs.Allowed.{Bag, count_of}
use Rattle.pact_operators.specs.Divided.{GaveShare, IsDivided, IsReceived, Shares, count_given}
use Rattle.pact_operators.specs.PlanOps.{PlanOps, plan_ops}
use Rattle.pact_operators.specs.Programs.{HasArity, IsPlanOf, ProgramData}
use Rattle.pact_operators.proofs.SourceKinds.{is_source}
use Rattle.flow_instance.specs.declared.notes.Note.{Note}
use Rattle.flow_instance.specs.declared.notes.Want.TheVariants.{Done}
use Rattle.flow_instance.specs.Instances.{Instance, all_ended, port_ended, want}
use Rattle.flow_instance.specs.Local.{Gave, IsGiven, IsLocal, Placed, rows_for, taken_rows, is_pipelined}
use Rattle.flow_instance.specs.Notes.{rows_of}
use Rattle.flow_instance.specs.Spots.{Setting, Spot, ports_of, sent, setting, spot}
use Rattle.flow_instance.specs.Spread.{Spread, given_in, sum_below}
use Rattle.flow_instance.specs.Worlds.{lists_at}
use Rattle.flow_instance.proofs.Bags.{is_same, joined, turned}
use Rattle.flow_instance.proofs.EndMarksAndWants.{finished_by}
use Rattle.plan_trees.proofs.EverySubtree.{AllBelow, all_below-at, all_below-root}
use Rattle.flow_instance.proofs.Trees.{HasEdge, Inside, edges, inside_of}

-- ---- saturating counts

-- the saturating count of a sum is the saturating sum of the counts, starting from a
counted_from : (a n : ℕ) (f h : ℕ → ℕ) → ((k : ℕ) → k < n → f k ≡ count_of (h k)) → count_of (a + sum_below n f) ≡ count_of (fold (λ s x. s + x) a (map h (workers_below n)))
counted_from a zero f h e = ap count_of (omega arith)
counted_from a (suc n) f h e = omega (arith, e n (omega arith), counted_from (a + h n) n f h (λ k less. e k (omega arith)))

same_counts : (n : ℕ) (f h : ℕ → ℕ) → ((k : ℕ) → k < n → f k ≡ count_of (h k)) → count_of (sum_below n f) ≡ count_of (sum (map h (workers_below n)))
same_counts n f h e = omega (arith, counted_from 0 n f h e)

-- ---- the bags of all workers

moved_each : (f h : ℕ → Bag) (n : ℕ) → ((k : ℕ) → k < n → IsPermutation (f k) (h k)) → IsPermutation (all_of n f) (all_of n h)
moved_each f h n e = to_permutation (perm_each f h n (λ k below. from_permutation (f k) (h k) (e k below)))

-- ---- the inputs of each subtree

-- a property of each input of a tree
abbrev Inputs : (PlanTree → Type 0) → PlanTree → Type 0
Inputs P (leaf n) = Unit {0}
Inputs P (over n t) = P t
Inputs P (both n t u) = P t × P u

inputs_below : (P : PlanTree → Type 0) (t : PlanTree) → Inside P t → AllBelow (Inputs P) t
inputs_below P (leaf n) h = tt
inputs_below P (over n t) h = (all_below-root P t h, inputs_below P t (inside_of P t h))
inputs_below P (both n t u) h = ((all_below-root P t h.0, all_below-root P u h.1), inputs_below P t (inside_of P t h.0), inputs_below P u (inside_of P u h.1))

-- ---- an instance that is done

-- A done instance gave records that follow from all notes taken. All of these records were put or placed.
record Told (s : Spot) (worker : ℕ) (i : Instance) (taken : ℕ → ℕ → List Note) (put : ℕ → List Note) (given : Bag) : Type 0 where
  pub gave : IsGiven s s.kind s.ports worker (taken_rows s.workers taken) given
  pub put_all : (to : ℕ) → to < s.workers → IsPermutation (sent s.out s.workers worker to given) (rows_of (put to))
  pub placed : Placed s.out given i.placed
  pub counted : i.given ≡ count_of (length given)

told : (s : Spot) (worker : ℕ) (i : Instance) (taken : ℕ → ℕ → List Note) (put : ℕ → List Note) (l : IsLocal s worker i taken put) → want i ≡ Done → Told s worker i taken put l.given
told s worker i taken put l done =
    let fin = finished_by i.waiting i.marks (port_ended i 0) (port_ended i 1) i.finished done in
    let ended : all_ended i ≡ true = and_from (port_ended i 0) (port_ended i 1) fin.first fin.second in
    let all : (is_pipelined s.kind || all_ended i) ≡ true = or_right (is_pipelined s.kind) (all_ended i) ended in
    record {
      gave = subst (λ (b : Bool). Gave b (IsGiven s s.kind s.ports worker (taken_rows s.workers taken)) l.given) all l.gave;
      put_all = λ to less. joined (l.sent_on to less) (is_same (ap (λ (ws : List (ℕ × Bag)). rows_of (put to) ++ rows_for to ws) fin.waiting ∙ append-nil (rows_of (put to))));
      placed = l.placed;
      counted = l.counted;
    }

-- ---- the run

-- a tree without inputs is a source
abbrev pub LeafIsSource : PlanOps → PlanTree → Type 0
LeafIsSource o (leaf n) = o.kind n ≡ Source
LeafIsSource o (over n t) = Unit {0}
LeafIsSource o (both n t u) = Unit {0}

module _ (g : Setting) (rows : Bag) (counts : List ℕ) (run : Spread g rows counts) where
  -- the facts about the instance with this number on a worker
  abbrev ToldAt : (at worker : ℕ) → Bag → Type 0
  ToldAt at worker given =
      let t = subtree_of at g.physical.tree in
      Told (spot g t) worker (run.world.instance at worker) (λ port from. lists_at run.notes (slice_get (ports_of g.physical t) port) from worker) (λ to. run.notes at worker to) given

  abbrev Chosen : ℕ → ℕ → Type 0
  Chosen at worker = (given : Bag) × (has at g.physical.tree ≡ true → worker < g.physical.workers → ToldAt at worker given)

  -- the records that the instance gave, or no records if there is no such instance
  chosen : (at worker : ℕ) → Chosen at worker
  chosen at worker = elim (cases_Bool (has at g.physical.tree)) as (λ _. Chosen at worker) [
    | inr none ↦ ([], λ there. absurd (let clash : true ≡ false = sym there ∙ none in cc))
    | inl there ↦ elim (cases_lt worker g.physical.workers) as (λ _. Chosen at worker) [
      | inr out ↦ ([], λ _ below. absurd (omega arith))
      | inl below ↦
          let t = subtree_of at g.physical.tree in
          let l = run.each at worker there below in
          (l.given, λ _ _. told (spot g t) worker (run.world.instance at worker) (λ port from. lists_at run.notes (slice_get (ports_of g.physical t) port) from worker) (λ to. run.notes at worker to) l (run.done at worker there below))
    ]
  ]

  gave : Shares
  gave at worker = (chosen at worker).0

  told_at : (at worker : ℕ) → has at g.physical.tree ≡ true → worker < g.physical.workers → ToldAt at worker (gave at worker)
  unfolding gave
  told_at at worker there below = (chosen at worker).1 there below

  -- If the tree has an edge, the records that the instances put for a worker are the records that go there.
  received : (t : PlanTree) → HasEdge g.physical.tree t → (worker : ℕ) → worker < g.physical.workers → (given : Bag)
      → IsPermutation (all_of g.physical.workers (λ from. rows_of (run.notes (root_of t) from worker))) given → IsReceived g.physical gave t worker given
  received t edge worker below given e =
      let there : has (root_of t) g.physical.tree ≡ true = (and_parts (has (root_of t) g.physical.tree) _ edge).0 in
      let root = root_of-subtree (root_of t) g.physical.tree there in
      let ship : ship_at g.physical (root_of t) ≡ Some (ship_of g.physical t) = rw edge refl in
      let out : (spot g (subtree_of (root_of t) g.physical.tree)).out ≡ Some (ship_of g.physical t) = ap (ship_at g.physical) root ∙ ship in
      joined (moved_each (λ from. sent (Some (ship_of g.physical t)) g.physical.workers from worker (gave (root_of t) from)) (λ from. rows_of (run.notes (root_of t) from worker)) g.physical.workers (λ from less.
      subst (λ (o : Option Ship). IsPermutation (sent o g.physical.workers from worker (gave (root_of t) from)) (rows_of (run.notes (root_of t) from worker))) out
      ((told_at (root_of t) from there less).put_all worker below))) e

  -- the instance's share of its operator's output
  share : (t : PlanTree) (worker : ℕ) (given : Bag) → worker < g.physical.workers → Inputs (HasEdge g.physical.tree) t → LeafIsSource g.ops t
      → IsGiven (spot g t) (spot g t).kind (spot g t).ports worker (taken_rows g.physical.workers (λ port from. lists_at run.notes (slice_get (ports_of g.physical t) port) from worker)) given
      → given ≡ gave (root_of t) worker → GaveShare g.ops g.physical gave t worker
  share (leaf n) worker given below edge source e same = (source, subst (IsPermutation _) same (joined (is_same (sym e.may)) e.permuted))
  share (over n t) worker given below edge source e same = record {
    rows = e.left;
    out = e.out;
    below = received t edge worker below e.left e.of_left;
    given = e.may;
    permuted = subst (IsPermutation e.out) same e.permuted;
  }
  share (both n t u) worker given below edge source e same = record {
    left_rows = e.left;
    right_rows = e.right;
    out = e.out;
    left_below = received t edge.0 worker below e.left e.of_left;
    right_below = received u edge.1 worker below e.right e.of_right;
    given = e.may;
    permuted = subst (IsPermutation e.out) same e.permuted;
  }

  -- the root's instances placed what they gave
  placed_at_root : (worker : ℕ) → worker < g.physical.workers → IsPermutation (gave (root_of g.physical.tree) worker) (run.world.instance (root_of g.physical.tree) worker).placed
  placed_at_root worker below =
      let tree = g.physical.tree in
      let none : has_edge (root_of tree) tree ≡ false = rw (eq-eqb (root_of tree) (root_of tree) refl) (and_right (has (root_of tree) tree) false refl) in
      let out : (spot g (subtree_of (root_of tree) tree)).out ≡ None = ap (λ (t : PlanTree). ship_at g.physical (root_of t)) (subtree_of-root tree) ∙ rw none refl in
      subst (λ (o : Option Ship). Placed o (gave (root_of tree) worker) (run.world.instance (root_of tree) worker).placed) out (told_at (root_of tree) worker (has-root tree) below).placed

  same_given : (at : ℕ) → has at g.physical.tree ≡ true → given_in g run.world at ≡ count_of (count_given g.physical.workers gave at)
  same_given at there =
      same_counts g.physical.workers (λ worker. (run.world.instance at worker).given) (λ worker. length (gave at worker)) (λ worker below. (told_at at worker there below).counted)

  pub divided_run : AreDifferent (nodes g.physical.tree) → AllBelow (LeafIsSource g.ops) g.physical.tree → IsDivided g.ops g.physical rows counts
  divided_run different sources =
      let tree = g.physical.tree in
      let inputs = inputs_below (HasEdge tree) tree (edges tree different) in
      record {
        gave = gave;
        shares = λ at there worker below.
            share (subtree_of at tree) worker (gave at worker) below (all_below-at (Inputs (HasEdge tree)) at tree inputs there) (all_below-at (LeafIsSource g.ops) at tree sources there)
            (told_at at worker there below).gave (ap (λ (n : ℕ). gave n worker) (sym (root_of-subtree at tree there)));
        placed = joined (moved_each (gave (root_of tree)) (λ worker. (run.world.instance (root_of tree) worker).placed) g.physical.workers placed_at_root) (turned run.rows_are);
        counted = λ at there. run.counts_are at there ∙ ap Some (same_given at there);
      }

-- ---- runs of a program

source_leaves : (p : ProgramData) (inputs : List Bag) (t : PlanTree) → HasArity p.ops t → AllBelow (LeafIsSource (plan_ops p inputs)) t
source_leaves p inputs (leaf n) h = is_source p.ops n h
source_leaves p inputs (over n t) h = (tt, source_leaves p inputs t h.1)
source_leaves p inputs (both n t u) h = (tt, source_leaves p inputs t h.1, source_leaves p inputs u h.2)

pub divided : (p : ProgramData) (inputs : List Bag) (physical : PhysicalData) (rows : Bag) (counts : List ℕ)
    → IsPhysical physical → IsPlanOf p.functions p.ops physical.tree → Spread (setting p inputs physical) rows counts → IsDivided (plan_ops p inputs) physical rows counts
divided p inputs physical rows counts k plan run = divided_run (setting p inputs physical) rows counts run k.plan.different (source_leaves p inputs physical.tree plan.arity)
