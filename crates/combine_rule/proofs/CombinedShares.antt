-- Without the senders, the output of the instances of a combined plan is one that the instances of the plan may give.
use Rattle.std.proofs.Common.{◌≡◌, ◌≢◌, ◌<◌, ◌==◌, ◌||◌, ℕ, Bool, true, false, cond, inl, inr, if◌then◌else◌, List, [], ◌∷◌, Some, get_or, slice_get, map, refl, sym, ap, subst, ◌∙◌}
use Rattle.std.specs.Prelude.{filter, flat_map}
use Rattle.std.specs.List.{AllByRecursion}
use Rattle.std.specs.List.Sorted.{IsPermutation}
use Rattle.std.proofs.lemmas.Bool.{both_ways, eq-eqb, ne_eqb, or_left, or_parts}
use Rattle.std.proofs.lemmas.Bool.Decides.{eqb_tells}
use Rattle.pact_record.specs.declared.values.Value.{Value}
use Rattle.pact_record.specs.declared.values.Value.TheVariants.{Null}
use Rattle.pact_record.specs.Hash.{target}
use Rattle.pact_record.specs.Keys.{is_listed}
use Rattle.pact_record.specs.Record.{at_field, key_of}
use Rattle.pact_record.proofs.Permutations.{Perm, chains, same, turned, is_same, from_permutation, to_permutation}
use Rattle.tac_syntax.specs.declared.declarations.OpKind.{OpKind}
use Rattle.tac_syntax.specs.declared.declarations.OpKind.TheVariants.{Source, Map, Reduce, Match, Cross, CoGroup}
use Rattle.plan_trees.specs.declared.physicals.Ship.TheVariants.{Forward, Partition}
use Rattle.plan_trees.specs.Distinct.{AreDifferent}
use Rattle.plan_trees.specs.Physicals.{PhysicalData, ship_of}
use Rattle.plan_trees.specs.Plans.{PlanTree, leaf, over, both, has, nodes, root_of}
use Rattle.plan_trees.specs.Sending.{all_of, arriving, sent, share_from}
use Rattle.plan_trees.proofs.EachWorker.{only_one, same_each}
use Rattle.plan_trees.proofs.EverySubtree.{AllBelow, all_below, all_below-at, all_below-root}
use Rattle.pact_operators.specs.Allowed.{Bag, Gives, GivesBoth, Grouped, CoGrouped, count_of, keys_in, keys_in_either}
use Rattle.pact_bag.specs.Pairs.{crossed, matched}
use Rattle.pact_operators.specs.Divided.{IsDivided, Shares, IsReceived, GaveShare, count_given}
use Rattle.pact_operators.specs.PlanOps.{PlanOps}
use Rattle.plan_trees.specs.Inserted.{wrapped, inserted}
use Rattle.plan_trees.proofs.InsertedPlaces.{core, has-inserted, inserted-core, root-core, root-inserted, wrapped-so}
use Rattle.combine_rule.specs.Combined.{IsSameAt, IsReadBy, IsCombinedAt}
use Rattle.combine_rule.proofs.OneEdge.{AllInParts, all_in_parts, permuted_in_parts, sent_in_parts, share_in_parts, merged}

-- ---- the worker that a record's key leads to

-- the value of a field, looked up among the key values
looked_up : List ℕ → List Value → ℕ → Value
looked_up [] values k = Null
looked_up (j ∷ keys) [] k = Null
looked_up (j ∷ keys) (v ∷ values) k = cond (k == j) v (looked_up keys values k)

later_listed : (u v : Bool) → u ≡ false → (u || v) ≡ true → v ≡ true
later_listed true v e q = cc
later_listed false v e q = q

looked_up-key : (keys : List ℕ) (r : List Value) (k : ℕ) → is_listed keys k ≡ true → looked_up keys (key_of keys r) k ≡ at_field r k
unfolding looked_up
looked_up-key [] r k h = absurd (both_ways false refl h)
looked_up-key (j ∷ keys) r k h = elim (eqb_tells k j) as (λ _. looked_up (j ∷ keys) (key_of (j ∷ keys) r) k ≡ at_field r k) [
  | inl e ↦ ap (λ (b : Bool). cond b (at_field r j) (looked_up keys (key_of keys r) k)) e.0 ∙ ap (at_field r) (sym e.1)
  | inr e ↦ ap (λ (b : Bool). cond b (at_field r j) (looked_up keys (key_of keys r) k)) e.0 ∙ looked_up-key keys r k (later_listed (k == j) (is_listed keys k) e.0 h)
]

key_of-looked_up : (keys fields : List ℕ) (r : List Value) → AllByRecursion (λ k. is_listed keys k ≡ true) fields
    → key_of fields r ≡ map (looked_up keys (key_of keys r)) fields
key_of-looked_up keys [] r h = refl
key_of-looked_up keys (k ∷ fields) r h = λ i. sym (looked_up-key keys r k h.0) i ∷ key_of-looked_up keys fields r h.1 i

place_of : ℕ → List ℕ → List ℕ → List Value → ℕ
place_of W keys fields k = target W (map (looked_up keys k) fields)

goes_by_key : (W : ℕ) (keys fields : List ℕ) → AllByRecursion (λ k. is_listed keys k ≡ true) fields → (from to : ℕ) (rows : Bag)
    → sent (Partition fields) W from to rows ≡ filter (λ row. place_of W keys fields (key_of keys row) == to) rows
unfolding place_of
goes_by_key W keys fields h from to rows = λ i. filter (λ row. target W (key_of-looked_up keys fields row h i) == to) rows

-- ---- forwarded

filter_all : {A : Type 0} (b : Bool) (xs : List A) → b ≡ true → filter (λ x. b) xs ≡ xs
filter_all true [] e = refl
filter_all true (x ∷ xs) e = ap (λ (l : List _). x ∷ l) (filter_all true xs refl)
filter_all false xs e = cc

filter_none : {A : Type 0} (b : Bool) (xs : List A) → b ≡ false → filter (λ x. b) xs ≡ []
filter_none false [] e = refl
filter_none false (x ∷ xs) e = filter_none false xs refl
filter_none true xs e = cc

pub forward_stays : (W : ℕ) (gave : ℕ → Bag) (w : ℕ) → w < W → arriving Forward W gave w ≡ gave w
forward_stays W gave w b =
    only_one (λ from. sent Forward W from w (gave from)) W w b (λ from c ne. filter_none (from == w) (gave from) (ne_eqb from w ne))
    ∙ filter_all (w == w) (gave w) (eq-eqb w w refl)

-- ---- operators that didn't change

gives-same : (o u : PlanOps) (n : ℕ) → IsSameAt o u n → (k : OpKind) → o.kind n ≡ k → (ls out : Bag) → Gives u k n ls out → Gives o k n ls out
gives-same o u n e Map is ls out h = subst (λ (f : List Value → Bag). out ≡ flat_map f ls) (e.calls (λ s. map_no_source (sym s ∙ is))).of_record h where
  map_no_source : Source ≡ Map → ⊥
  map_no_source z = cc
gives-same o u n e Reduce is ls out h =
    subst (λ (f : List Value → Bag → Bag). Grouped f (o.left_keys n) ls (keys_in (o.left_keys n) ls) out) (e.calls (λ s. reduce_no_source (sym s ∙ is))).of_group
    (subst (λ (ks : List ℕ). Grouped (u.of_group n) ks ls (keys_in ks ls) out) e.left_keys h) where
      reduce_no_source : Source ≡ Reduce → ⊥
      reduce_no_source z = cc
gives-same o u n e k is ls out h = absurd h

gives_both-same : (o u : PlanOps) (n : ℕ) → IsSameAt o u n → (k : OpKind) → o.kind n ≡ k → (ls rs out : Bag) → GivesBoth u k n ls rs out → GivesBoth o k n ls rs out
gives_both-same o u n e Match is ls rs out h = h ∙ (λ i. crossed (matched (e.nulls i) ((e.calls (λ s. no_source (sym s ∙ is))).of_pair i) (e.left_keys i) (e.right_keys i)) ls rs) where
  no_source : Source ≡ Match → ⊥
  no_source z = cc
gives_both-same o u n e Cross is ls rs out h = h ∙ (λ i. crossed ((e.calls (λ s. no_source (sym s ∙ is))).of_pair i) ls rs) where
  no_source : Source ≡ Cross → ⊥
  no_source z = cc
gives_both-same o u n e CoGroup is ls rs out h =
    subst (λ (f : List Value → Bag → Bag → Bag). CoGrouped f (o.left_keys n) (o.right_keys n) ls rs (keys_in_either (o.left_keys n) (o.right_keys n) ls rs) out) (e.calls (λ s. no_source (sym s ∙ is))).of_groups
    (subst (λ (ks : List ℕ). CoGrouped (u.of_groups n) (o.left_keys n) ks ls rs (keys_in_either (o.left_keys n) ks ls rs) out) e.right_keys
    (subst (λ (ks : List ℕ). CoGrouped (u.of_groups n) ks (u.right_keys n) ls rs (keys_in_either ks (u.right_keys n) ls rs) out) e.left_keys h)) where
      no_source : Source ≡ CoGroup → ⊥
      no_source z = cc
gives_both-same o u n e k is ls rs out h = absurd h

-- ---- trees

-- a property of all trees below an inserted operator holds for all trees below the tree that it wraps
unwrapped : (P : PlanTree → Type 0) (below new n : ℕ) (t : PlanTree) → AllBelow P (wrapped below new n t) → AllBelow P t
unwrapped P below new n t h = at (below == n) h where
  at : (b : Bool) → AllBelow P (if b then over new t else t) → AllBelow P t
  at true g = g.1
  at false g = g

-- ---- one combined edge

module _ (o u : PlanOps) (p q : PhysicalData) (below new reduce : ℕ) (fields : List ℕ) (c : IsCombinedAt o u p q below new reduce fields) (gave : Shares) where
  abbrev W : ℕ
  W = p.workers

  abbrev K : List ℕ
  K = o.left_keys reduce

  -- each instance of a tree's root gave its share, in the combined plan and in the plan
  abbrev pub Combined : PlanTree → Type 0
  Combined t = (w : ℕ) → w < p.workers → GaveShare u q gave t w

  abbrev pub Plain : PlanTree → Type 0
  Plain t = (w : ℕ) → w < p.workers → GaveShare o p gave t w

  -- ---- the records received

  ship_same : (t : PlanTree) → root_of t ≢ below → root_of t ≢ new → ship_of q (inserted below new t) ≡ ship_of p t
  ship_same t nb nn = ap (λ (n : ℕ). get_or q.ships n Forward) (root-inserted below new t nb) ∙ c.other_ships (root_of t) nb nn

  received_same : (t : PlanTree) → root_of t ≢ below → root_of t ≢ new → (w : ℕ) (rows : Bag) → IsReceived q gave (inserted below new t) w rows
      → IsReceived p gave t w rows
  received_same t nb nn w rows h =
      subst (λ (l : Bag). IsPermutation l rows) (λ i. arriving (ship_same t nb nn i) (c.workers i) (gave (root-inserted below new t nb i)) w) h

  -- ---- the Reduce that was combined

  senders : (x : PlanTree) → root_of x ≡ below → Combined (over new x) → (w : ℕ) → w < W
      → AllInParts K (o.of_group reduce) (u.of_group new) (u.of_group reduce) c.split (gave below w) (gave new w)
  senders x root h w b =
      let g = h w b in
      let given : Grouped (u.of_group new) K g.rows (keys_in K g.rows) g.out =
      subst (λ (ks : List ℕ). Grouped (u.of_group new) ks g.rows (keys_in ks g.rows) g.out) c.sender_keys (subst (λ (k : OpKind). Gives u k new g.rows g.out) c.sender_kind g.given) in
      let taken : Perm (gave below w) g.rows =
      chains (is_same (sym ((λ i. arriving ((ap (λ (n : ℕ). get_or q.ships n Forward) root ∙ c.fed) i) (c.workers i) (gave (root i)) w) ∙ forward_stays W (gave below) w b)))
      (from_permutation _ g.rows g.below) in
      permuted_in_parts K (o.of_group reduce) (u.of_group new) (u.of_group reduce) c.split (turned taken) (from_permutation g.out (gave new w) g.permuted)
      (share_in_parts K (o.of_group reduce) (u.of_group new) (u.of_group reduce) c.split g.rows g.out given)

  arrived_in_parts : (x : PlanTree) → root_of x ≡ below → Combined (over new x) → (w : ℕ) → w < W
      → AllInParts K (o.of_group reduce) (u.of_group new) (u.of_group reduce) c.split (arriving (Partition fields) W (gave below) w) (arriving (Partition fields) W (gave new) w)
  arrived_in_parts x root h w b =
      let f = o.of_group reduce in
      let s = u.of_group new in
      let m = u.of_group reduce in
      let here = λ (n : ℕ) (from : ℕ). filter (λ row. place_of W K fields (key_of K row) == w) (gave n from) in
      let moved = λ (n : ℕ). same_each (λ from. sent (Partition fields) W from w (gave n from)) (here n) W (λ from l. goes_by_key W K fields c.inside from w (gave n from)) in
      permuted_in_parts K f s m c.split (is_same (sym (moved below))) (is_same (sym (moved new)))
      (all_in_parts K f s m c.split W (here below) (here new) (λ from l. sent_in_parts K f s m c.split (place_of W K fields) w (gave below from) (gave new from) (senders x root h from l)))

  combined_reduce : (t x : PlanTree) → root_of t ≡ below → root_of x ≡ below → Combined (over new x) → Combined (over reduce (over new x)) → Plain (over reduce t)
  combined_reduce t x root root_x sending merging w b =
      let f = o.of_group reduce in
      let s = u.of_group new in
      let m = u.of_group reduce in
      let g = merging w b in
      let given : Grouped m K g.rows (keys_in K g.rows) g.out =
      subst (λ (ks : List ℕ). Grouped m ks g.rows (keys_in ks g.rows) g.out) c.merger_keys (subst (λ (k : OpKind). Gives u k reduce g.rows g.out) c.merger_kind g.given) in
      let rows = arriving (Partition fields) W (gave below) w in
      let taken : Perm (arriving (Partition fields) W (gave new) w) g.rows =
      chains (is_same (sym (λ i. arriving (c.kept i) (c.workers i) (gave new) w))) (from_permutation _ g.rows g.below) in
      let parts = permuted_in_parts K f s m c.split (same rows) taken (arrived_in_parts x root_x sending w b) in
      let now = merged K f s m c.split rows g.rows parts g.out given in
      record {
        rows = rows;
        out = now.0;
        below = to_permutation (is_same (λ i. arriving ((ap (λ (n : ℕ). get_or p.ships n Forward) root ∙ c.ship) i) W (gave (root i)) w));
        given = subst (λ (k : OpKind). Gives o k reduce rows now.0) (sym c.kind) now.1;
        permuted = to_permutation (chains (turned now.2) (from_permutation g.out (gave reduce w) g.permuted));
      }

  -- ---- the other operators

  plain_leaf : (n : ℕ) → n ≢ reduce → n ≢ new → Combined (leaf n) → Plain (leaf n)
  plain_leaf n nr nn h w b =
      let e = c.same n nr nn in
      let g = h w b in
      (sym e.kind ∙ g.0, subst (λ (l : Bag). IsPermutation l (gave n w)) (λ i. share_from 0 (c.workers i) w (e.rows i)) g.1)

  plain_over : (n : ℕ) (t : PlanTree) → n ≢ reduce → n ≢ new → root_of t ≢ below → root_of t ≢ new → Combined (over n (inserted below new t)) → Plain (over n t)
  plain_over n t nr nn nb nt h w b =
      let e = c.same n nr nn in
      let g = h w b in
      record {
        rows = g.rows;
        out = g.out;
        below = received_same t nb nt w g.rows g.below;
        given = gives-same o u n e (o.kind n) refl g.rows g.out (subst (λ (k : OpKind). Gives u k n g.rows g.out) e.kind g.given);
        permuted = g.permuted;
      }

  plain_both : (n : ℕ) (t v : PlanTree) → n ≢ reduce → n ≢ new → root_of t ≢ below → root_of t ≢ new → root_of v ≢ below → root_of v ≢ new
      → Combined (both n (inserted below new t) (inserted below new v)) → Plain (both n t v)
  plain_both n t v nr nn nb nt mb mt h w b =
      let e = c.same n nr nn in
      let g = h w b in
      record {
        left_rows = g.left_rows;
        right_rows = g.right_rows;
        out = g.out;
        left_below = received_same t nb nt w g.left_rows g.left_below;
        right_below = received_same v mb mt w g.right_rows g.right_below;
        given = gives_both-same o u n e (o.kind n) refl g.left_rows g.right_rows g.out (subst (λ (k : OpKind). GivesBoth u k n g.left_rows g.right_rows g.out) e.kind g.given);
        permuted = g.permuted;
      }

  -- ---- all subtrees of a tree

  not_new : (n : ℕ) (t : PlanTree) → (has new t ≡ false) → has n t ≡ true → n ≢ new
  not_new n t h g e = both_ways (has new t) h (subst (λ (k : ℕ). has k t ≡ true) e g)

  root_there : (t : PlanTree) → has (root_of t) t ≡ true
  root_there (leaf n) = eq-eqb n n refl
  root_there (over n t) = or_left (n == n) (has n t) (eq-eqb n n refl)
  root_there (both n t v) = or_left (n == n) (has n t || has n v) (eq-eqb n n refl)

  plain_all : (t : PlanTree) → IsReadBy below reduce t → has new t ≡ false → AllBelow Combined (inserted below new t) → AllBelow Plain t
  plain_all (leaf n) r absent h = plain_leaf n r (not_new n (leaf n) absent (root_there (leaf n))) (unwrapped Combined below new n (leaf n) h)
  plain_all (over n t) r absent h =
      let g = unwrapped Combined below new n (over n (inserted below new t)) h in
      let parts = or_parts (new == n) (has new t) absent in
      let nn = not_new n (over n t) absent (root_there (over n t)) in
      let nt = not_new (root_of t) t parts.1 (root_there t) in (
        elim (eqb_tells n reduce) as (λ _. Plain (over n t)) [
          | inl e ↦
              let root = r.1 e.1 in
              let x = core below new t in
              let is : inserted below new t ≡ over new x = inserted-core below new t ∙ wrapped-so below new (root_of t) x root in
              subst (λ (k : ℕ). Plain (over k t)) (sym e.1)
              (combined_reduce t x root (root-core below new t ∙ root) (subst Combined is (all_below-root Combined (inserted below new t) g.1))
              (subst (λ (y : PlanTree). Combined (over reduce y)) is (subst (λ (k : ℕ). Combined (over k (inserted below new t))) e.1 g.0)))
          | inr e ↦ plain_over n t e.1 nn (λ z. e.1 (r.0 z)) nt g.0
        ],
        plain_all t r.2 parts.1 g.1,
      )
  plain_all (both n t v) r absent h =
      let g = unwrapped Combined below new n (both n (inserted below new t) (inserted below new v)) h in
      let parts = or_parts (new == n) (has new t || has new v) absent in
      let sides = or_parts (has new t) (has new v) parts.1 in (
        plain_both n t v r.0 (not_new n (both n t v) absent (root_there (both n t v))) r.1 (not_new (root_of t) t sides.0 (root_there t)) r.2 (not_new (root_of v) v sides.1 (root_there v)) g.0,
        plain_all t r.3 sides.0 g.1,
        plain_all v r.4 sides.1 g.2,
      )

-- ---- the run

-- If the output is divided among the instances of the combined plan, it is divided among those of the plan, with the
-- same rows and counts.
pub plain_divided : (o u : PlanOps) (p q : PhysicalData) (below new reduce : ℕ) (fields : List ℕ) → IsCombinedAt o u p q below new reduce fields
    → IsReadBy below reduce p.tree → root_of p.tree ≢ below
    → has new p.tree ≡ false → AreDifferent (nodes q.tree) → (rows : Bag) (counts : List ℕ) → IsDivided u q rows counts → IsDivided o p rows counts
plain_divided o u p q below new reduce fields c r top absent different rows counts d =
    let gave = d.gave in
    let all : AllBelow (Combined o u p q below new reduce fields c gave) (inserted below new p.tree) =
    subst (AllBelow (Combined o u p q below new reduce fields c gave)) c.tree
    (all_below (Combined o u p q below new reduce fields c gave) q.tree different (λ at there w b. d.shares at there w (subst (λ (n : ℕ). w < n) (sym c.workers) b))) in
    let plain = plain_all o u p q below new reduce fields c gave p.tree r absent all in
    record {
      gave = gave;
      shares = λ at there w b. all_below-at (Plain o u p q below new reduce fields c gave) at p.tree plain there w b;
      placed = subst (λ (l : Bag). IsPermutation l rows) (λ i. all_of (c.workers i) (gave ((ap root_of c.tree ∙ root-inserted below new p.tree top) i))) d.placed;
      counted = λ at there.
          subst (λ (W : ℕ). slice_get counts at ≡ Some (count_of (count_given W gave at))) c.workers
          (d.counted at (subst (λ (t : PlanTree). has at t ≡ true) (sym c.tree) (has-inserted at below new p.tree there)));
    }
