-- By the notes of a run, each instance of an inserted operator put one record for each key value that it took.
use Rattle.std.proofs.Common.{◌≡◌, ◌<◌, ◌≤◌, ◌==◌, ◌||◌, ◌++◌, ℕ, zero, suc, Bool, true, false, cond, List, [], ◌∷◌, Option, Some, length, map, slice_get, refl, sym, ap, subst, ◌∙◌, append-nil, arith}
use Rattle.std.specs.List.{AllByRecursion}
use Rattle.std.proofs.lemmas.Bool.{and_from, eqb-true, or_right}
use Rattle.std.proofs.lemmas.List.{length-map}
use Rattle.pact_record.specs.declared.values.Value.{Value}
use Rattle.pact_record.specs.Hash.{target}
use Rattle.pact_record.specs.Record.{key_of}
use Rattle.pact_record.proofs.Lists.{AllByRecursion-both, AllByRecursion-weaker}
use Rattle.pact_record.proofs.Permutations.{Perm, chains, each_perm, filter_perm, from_permutation, is_same, keeps, length-perm, map_perm, to_permutation, turned}
use Rattle.pact_bag.specs.Groups.{is_same_key}
use Rattle.pact_bag.proofs.KeyLists.{AreOnce-distinct_keys, HasAll, same_members}
use Rattle.pact_bag.proofs.KeysOfBags.{keys_alone}
use Rattle.tac_syntax.specs.declared.declarations.OpKind.{OpKind}
use Rattle.plan_trees.specs.declared.physicals.Ship.{Ship}
use Rattle.plan_trees.specs.declared.physicals.Ship.TheVariants.{Partition}
use Rattle.plan_trees.specs.Physicals.{IsPhysical, ship_at}
use Rattle.plan_trees.specs.Plans.{PlanTree, has, over, root_of, subtree_of}
use Rattle.plan_trees.specs.Sending.{all_of}
use Rattle.plan_trees.proofs.EachWorker.{all_of-one_more, none_each, perm_each}
use Rattle.plan_trees.proofs.SubtreesOfPlans.{root_of-subtree}
use Rattle.pact_operators.specs.Allowed.{Bag, Gives, Grouped, count_of, keys_in}
use Rattle.pact_operators.specs.PlanOps.{plan_ops}
use Rattle.pact_operators.specs.Programs.{IsPlanOf, IsProgram}
use Rattle.ship_strategy.proofs.Arrivals.{target_below}
use Rattle.flow_instance.specs.declared.notes.Note.{Note}
use Rattle.flow_instance.specs.declared.notes.Want.TheVariants.{Done}
use Rattle.flow_instance.specs.Instances.{Instance, all_ended, port_ended, want}
use Rattle.flow_instance.specs.Local.{Gave, IsGiven, IsLocal, rows_for, taken_rows, is_pipelined}
use Rattle.flow_instance.specs.Notes.{rows_of}
use Rattle.flow_instance.specs.Spots.{Setting, Spot, ports_of, sent, setting, spot}
use Rattle.flow_instance.specs.Spread.{Spread, sum_below}
use Rattle.flow_instance.specs.Worlds.{lists_at}
use Rattle.flow_instance.proofs.EndMarksAndWants.{finished_by}
use Rattle.combine_rule.specs.CombinedPrograms.{IsCombinedPlan, Planned}
use Rattle.combine_rule.specs.CombinedRuns.{AllPutOnePerKey, PutsOnePerKey, put_by, taken_from}
use Rattle.combine_rule.proofs.AllCombined.{all_program}
use Rattle.combine_rule.proofs.CombinedPhysicals.{all_physical}
use Rattle.combine_rule.proofs.InsertedEdges.{IsPartitionedTo, all_partitioned, is_there, partition_at}
use Rattle.combine_rule.proofs.OneEdge.{keys_in_are, one_for_each}
use Rattle.combine_rule.proofs.SentOnce.{IsSenderAt, all_senders, over_reduce}

-- ---- key values and counts

-- a bag in another order has the same key values
has_all : (keys : List ℕ) {xs ys : Bag} → Perm xs ys → HasAll (keys_in keys xs) (keys_in keys ys)
has_all keys {xs} {ys} p k e =
    let some = ((keys_alone keys ys).occur k).0 e in
    ((keys_alone keys xs).occur k).1 (omega (arith, some, length-perm (filter_perm (λ r. is_same_key (key_of keys r) k) p)))

keys_perm : (keys : List ℕ) {xs ys : Bag} → Perm xs ys → Perm (keys_in keys xs) (keys_in keys ys)
keys_perm keys {xs} {ys} p =
    same_members (keys_in keys xs) (keys_in keys ys) (AreOnce-distinct_keys (map (key_of keys) xs)) (AreOnce-distinct_keys (map (key_of keys) ys)) (has_all keys p) (has_all keys (turned p))

same_counts : (n : ℕ) (f h : ℕ → ℕ) → ((k : ℕ) → k < n → f k ≡ count_of (h k)) → count_of (sum_below n f) ≡ count_of (sum_below n h)
same_counts zero f h e = refl
same_counts (suc n) f h e = omega (arith, e n (omega arith), same_counts n f h (λ k less. e k (omega (arith, less))))

-- ---- along a Partition

module _ (W : ℕ) (some : 1 ≤ W) (fields : List ℕ) (worker : ℕ) where
  abbrev for_worker : ℕ → Bag → Bag
  for_worker to rows = sent (Some (Partition fields)) W worker to rows

  abbrev place : List Value → ℕ
  place row = target W (key_of fields row)

  -- each record goes to one worker
  put_together : (rows : Bag) → Perm rows (all_of W (λ to. for_worker to rows))
  put_together [] = is_same (sym (none_each (λ to. []) W (λ w b. refl)))
  put_together (row ∷ rows) = chains (keeps (put_together rows)) (all_of-one_more (place row) row (λ to. for_worker to rows) W (target_below W some (key_of fields row)))

  -- that worker is the one that the record's fields name
  all_named : (to : ℕ) (rows : Bag) → AllByRecursion (λ row. place row ≡ to) (for_worker to rows)
  all_named to [] = tt
  all_named to (row ∷ rows) = by (place row == to) refl (all_named to rows) where
    by : (b : Bool) → (place row == to) ≡ b → AllByRecursion (λ r. place r ≡ to) (for_worker to rows) → AllByRecursion (λ r. place r ≡ to) (cond b (row ∷ for_worker to rows) (for_worker to rows))
    by true e rest = (eqb-true (place row) to e, rest)
    by false e rest = rest

-- ---- an instance that is done

module _ (s : Spot) (worker : ℕ) (i : Instance) (taken : ℕ → ℕ → List Note) (put : ℕ → List Note) (l : IsLocal s worker i taken put) (done : want i ≡ Done) where
  -- the records that it gave follow from all that it took
  given_for_all : IsGiven s s.kind s.ports worker (taken_rows s.workers taken) l.given
  given_for_all =
      let fin = finished_by i.waiting i.marks (port_ended i 0) (port_ended i 1) i.finished done in
      let ended : all_ended i ≡ true = and_from (port_ended i 0) (port_ended i 1) fin.first fin.second in
      let now : (is_pipelined s.kind || all_ended i) ≡ true = or_right (is_pipelined s.kind) (all_ended i) ended in
      subst (λ (b : Bool). Gave b (IsGiven s s.kind s.ports worker (taken_rows s.workers taken)) l.given) now l.gave

  -- all records that it gave were put
  all_put : (to : ℕ) → to < s.workers → Perm (sent s.out s.workers worker to l.given) (rows_of (put to))
  all_put to less =
      let fin = finished_by i.waiting i.marks (port_ended i 0) (port_ended i 1) i.finished done in
      chains (from_permutation (sent s.out s.workers worker to l.given) (rows_of (put to) ++ rows_for to i.waiting) (l.sent_on to less))
      (is_same (ap (λ (ws : List (ℕ × Bag)). rows_of (put to) ++ rows_for to ws) fin.waiting ∙ append-nil (rows_of (put to))))

-- ---- a sender's instance in a run

module _ (g : Setting) (some : 1 ≤ g.physical.workers) (rows : Bag) (counts : List ℕ) (run : Spread g rows counts) (n : ℕ) (there : has n g.physical.tree ≡ true)
    (input : PlanTree) (reads : subtree_of n g.physical.tree ≡ over n input) (fields : List ℕ) (ship : ship_at g.physical n ≡ Some (Partition fields)) (is : IsSenderAt g.ops n) where
  abbrev W : ℕ
  W = g.physical.workers

  abbrev K : List ℕ
  K = g.ops.left_keys n

  abbrev tree : PlanTree
  tree = subtree_of n g.physical.tree

  abbrev taken_by : PlanTree → ℕ → ℕ → ℕ → List Note
  taken_by t worker port from = lists_at run.notes (slice_get (ports_of g.physical t) port) from worker

  module _ (worker : ℕ) (below : worker < W) where
    abbrev given : Bag
    given = (run.each n worker there below).given

    follows : IsGiven (spot g (over n input)) (spot g (over n input)).kind (spot g (over n input)).ports worker (taken_rows W (taken_by (over n input) worker)) given
    follows =
        subst (λ (t : PlanTree). IsGiven (spot g t) (spot g t).kind (spot g t).ports worker (taken_rows W (taken_by t worker)) given) reads
        (given_for_all (spot g tree) worker (run.world.instance n worker) (taken_by tree worker) (λ to. run.notes n worker to) (run.each n worker there below) (run.done n worker there below))

    one_each : Perm (map (key_of K) given) (keys_in K (taken_from W run.notes (root_of input) worker))
    one_each =
        let e = follows in
        let grouped : Grouped (g.ops.of_group n) K e.left (keys_in K e.left) e.out = subst (λ (k : OpKind). Gives g.ops k n e.left e.out) is.kind e.may in
        chains (turned (map_perm (key_of K) (from_permutation e.out given e.permuted)))
        (chains (is_same (one_for_each K is.whole (g.ops.of_group n) is.merger is.split e.left (keys_in K e.left) (keys_in_are K is.whole (g.ops.of_group n) is.merger is.split e.left) e.out grouped))
        (keys_perm K (turned (from_permutation (taken_from W run.notes (root_of input) worker) e.left e.of_left))))

    put_for : (to : ℕ) → to < W → Perm (sent (Some (Partition fields)) W worker to given) (rows_of (run.notes n worker to))
    put_for to less =
        let out : (spot g tree).out ≡ Some (Partition fields) = ap (ship_at g.physical) (root_of-subtree n g.physical.tree there) ∙ ship in
        subst (λ (o : Option Ship). Perm (sent o W worker to given) (rows_of (run.notes n worker to))) out
        (all_put (spot g tree) worker (run.world.instance n worker) (taken_by tree worker) (λ to. run.notes n worker to) (run.each n worker there below) (run.done n worker there below) to less)

    given_is_put : Perm given (put_by W run.notes n worker)
    given_is_put = chains (put_together W some fields worker given) (perm_each (λ to. sent (Some (Partition fields)) W worker to given) (λ to. rows_of (run.notes n worker to)) W put_for)

    once : Perm (map (key_of K) (put_by W run.notes n worker)) (keys_in K (taken_from W run.notes (root_of input) worker))
    once = chains (map_perm (key_of K) (turned given_is_put)) one_each

    to_its_worker : (to : ℕ) → to < W → AllByRecursion (λ row. target W (key_of fields row) ≡ to) (rows_of (run.notes n worker to))
    to_its_worker to less = each_perm (λ row. target W (key_of fields row) ≡ to) (put_for to less) (all_named W some fields worker to given)

    counted_each : (run.world.instance n worker).given ≡ count_of (length (keys_in K (taken_from W run.notes (root_of input) worker)))
    counted_each = (run.each n worker there below).counted ∙ ap count_of (sym (length-map given (key_of K)) ∙ length-perm one_each)

  counted : slice_get counts n ≡ Some (count_of (sum_below W (λ worker. length (keys_in K (taken_from W run.notes (root_of input) worker)))))
  counted = run.counts_are n there ∙ ap Some (same_counts W (λ worker. (run.world.instance n worker).given) (λ worker. length (keys_in K (taken_from W run.notes (root_of input) worker))) counted_each)

-- ---- all inserted operators

pub put_one_per_key : (s end : Planned) (of : List (ℕ × ℕ)) → IsCombinedPlan s end of → IsProgram s.program → IsPhysical s.physical
    → IsPlanOf s.program.functions s.program.ops s.physical.tree → AllPutOnePerKey end of
put_one_per_key s end of h program physical plan inputs rows counts run =
    let o = plan_ops end.program inputs in
    let g = setting end.program inputs end.physical in
    let end_plan = (all_program inputs end (length s.program.ops) 0 s of h program plan).1 in
    let some = (all_physical inputs end (length s.program.ops) 0 s of h program plan physical).some_worker in
    let one : (pair : ℕ × ℕ) → IsSenderAt o pair.0 × ((fields : List ℕ) × IsPartitionedTo end pair.0 pair.1 fields) → PutsOnePerKey end.program inputs end.physical rows counts run pair.0 =
    λ pair both.
    let n = pair.0 in
    let is = both.0 in
    let fields = both.1.0 in
    let there = is_there end n pair.1 fields both.1.1 in
    let reads = over_reduce end.program.ops end.physical.tree n end_plan.arity there is.kind in
    let ship = partition_at end n pair.1 fields end_plan.different both.1.1 in
    record {
      there = there;
      input = reads.0;
      reads = reads.1;
      fields = fields;
      ship = ship;
      once = λ worker below. to_permutation (once g some rows counts run n there reads.0 reads.1 fields ship is worker below);
      all_given = λ worker below. to_permutation (given_is_put g some rows counts run n there reads.0 reads.1 fields ship is worker below);
      to_its_worker = λ worker to below less. to_its_worker g some rows counts run n there reads.0 reads.1 fields ship is worker below to less;
      counted = counted g some rows counts run n there reads.0 reads.1 fields ship is;
    } in
    AllByRecursion-weaker (λ (pair : ℕ × ℕ). IsSenderAt o pair.0 × ((fields : List ℕ) × IsPartitionedTo end pair.0 pair.1 fields)) (λ (pair : ℕ × ℕ). PutsOnePerKey end.program inputs end.physical rows counts run pair.0) of one
    (AllByRecursion-both (λ (pair : ℕ × ℕ). IsSenderAt o pair.0) (λ (pair : ℕ × ℕ). (fields : List ℕ) × IsPartitionedTo end pair.0 pair.1 fields) of
    (all_senders inputs end (length s.program.ops) 0 s of h program plan (omega arith)) (all_partitioned inputs end (length s.program.ops) 0 s of h program plan physical))
