-- The events of a run are at most `most`.
use Rattle.std.proofs.Common.{◌≡◌, ◌<◌, ◌≤◌, inl, inr, ◌||◌, ◌+◌, ◌*◌, ℕ, Bool, true, false, Option, Some, None, List, [], ◌∷◌, ◌++◌, length, slice_get, refl, ap, sym, ◌∙◌, subst, arith, length-append}
use Rattle.std.proofs.Math.Nat.{mul-le-mul, le_refl, mul-zero}
use Rattle.std.proofs.lemmas.Bool.{cases_lt}
use Rattle.std.specs.List.Sorted.{IsPermutation}
use Rattle.std.proofs.lemmas.List.Sorted.{length_permutation}
use Rattle.tac_syntax.specs.declared.declarations.OpKind.{OpKind}
use Rattle.tac_syntax.specs.declared.declarations.OpKind.TheVariants.{Source, Map, Reduce, Match, Cross, CoGroup}
use Rattle.pact_record.specs.declared.values.Value.{Value}
use Rattle.pact_operators.specs.Allowed.{Bag}
use Rattle.pact_bag.specs.Pairs.{crossed, matched}
use Rattle.plan_trees.specs.Plans.{PlanTree, leaf, over, both, root_of}
use Rattle.flow_instance.specs.declared.notes.Want.TheVariants.{Done}
use Rattle.flow_instance.specs.Instances.{all_ended, want}
use Rattle.flow_instance.specs.Local.{Gave, IsGiven, one_if, rows_for, taken_rows, is_pipelined}
use Rattle.flow_instance.specs.Most.{AreCallsBounded, done_at, events_at, most_below, most_given, most_of, most_of_one, most_of_two, notes_on, own_most, tree_sum}
use Rattle.plan_trees.specs.declared.physicals.Ship.{Ship}
use Rattle.flow_instance.specs.Notes.{rows_of}
use Rattle.plan_trees.specs.Sending.{all_of, goes, share_from, has_out}
use Rattle.flow_instance.specs.Spots.{Port, Setting, Spot, port_from, ports_of, sent, spot}
use Rattle.flow_instance.specs.Spread.{sum_below}
use Rattle.flow_instance.specs.Worlds.{History, World, does_want, lists_at}
use Rattle.flow_instance.proofs.Bags.{rows_of-append}
use Rattle.flow_instance.proofs.StandsAfterEvents.{nothing_put}
use Rattle.flow_instance.proofs.Stuck.{StandsAt}
use Rattle.flow_instance.proofs.Sums.{at_most, cogroup_length, crossed_length, distributes, few_notes, flat_length, kept-le, length-all_of, matched_length, reduce_length, shares, sum-const, sum-le, sum-plus, sum-times}
use Rattle.plan_trees.proofs.EverySubtree.{AllBelow, all_below-root}

-- ---- the records of one instance

three : (a b x y c : ℕ) → a ≤ x → b ≤ y → a * (b * c) ≤ (x * y) * c
three a b x y c h k =
    let inner : b * c ≤ y * c = mul-le-mul k (le_refl c) in
    let outer : a * (b * c) ≤ x * (y * c) = mul-le-mul h inner in
    let same : x * (y * c) ≡ (x * y) * c = grind arith in
    subst (λ (n : ℕ). a * (b * c) ≤ n) same outer

abbrev one_bound : OpKind → ℕ → (ℕ → ℕ) → ℕ
one_bound Map x turn = x * turn 0
one_bound Reduce x turn = x * turn x
one_bound Source x turn = 0
one_bound Match x turn = 0
one_bound Cross x turn = 0
one_bound CoGroup x turn = 0

abbrev two_bound : OpKind → ℕ → ℕ → (ℕ → ℕ) → ℕ
two_bound Match x y turn = (x * y) * turn 0
two_bound Cross x y turn = (x * y) * turn 0
two_bound CoGroup x y turn = (x + y) * turn (x + y)
two_bound Source x y turn = 0
two_bound Map x y turn = 0
two_bound Reduce x y turn = 0

one_is : (kind : OpKind) (n x : ℕ) (turn : ℕ → ℕ) → n * one_bound kind x turn ≡ most_of_one kind n x turn
one_is Map n x turn = refl
one_is Reduce n x turn = refl
one_is Source n x turn = omega arith
one_is Match n x turn = omega arith
one_is Cross n x turn = omega arith
one_is CoGroup n x turn = omega arith

two_is : (kind : OpKind) (n x y : ℕ) (turn : ℕ → ℕ) → n * two_bound kind x y turn ≡ most_of_two kind n x y turn
two_is Match n x y turn = refl
two_is Cross n x y turn = refl
two_is CoGroup n x y turn = refl
two_is Source n x y turn = omega arith
two_is Map n x y turn = omega arith
two_is Reduce n x y turn = omega arith

sent-le : (o : Option Ship) (workers from to : ℕ) (rows : Bag) → length (sent o workers from to rows) ≤ length rows
sent-le None workers from to rows = omega arith
sent-le (Some ship) workers from to rows = kept-le (goes ship workers from to) rows

-- an operator with one input that has at most x records
one_gives : (turns : ℕ → ℕ → ℕ) (s : Spot) (kind : OpKind) (p : Port) (worker : ℕ) (rows : ℕ → Bag) (b : Bool) (given : Bag) (x : ℕ) → AreCallsBounded s.ops turns → length (rows 0) ≤ x
    → Gave b (IsGiven s kind (p ∷ []) worker rows) given → length given ≤ one_bound kind x (turns s.at)
one_gives turns s kind p worker rows false given x bounded small e = omega (arith, ap length e)
one_gives turns s Map p worker rows true given x bounded small e =
    let left : length e.left ≤ x = omega (arith, length_permutation (rows 0) e.left e.of_left) in
    omega (arith, length_permutation e.out given e.permuted, ap length e.may, flat_length (s.ops.of_record s.at) (turns s.at 0) e.left (bounded.of_record s.at), mul-le-mul left (le_refl (turns s.at 0)))
one_gives turns s Reduce p worker rows true given x bounded small e =
    let left : length e.left ≤ x = omega (arith, length_permutation (rows 0) e.left e.of_left) in
    omega (
      arith,
      length_permutation e.out given e.permuted,
      reduce_length (s.ops.of_group s.at) (s.ops.left_keys s.at) (turns s.at x) e.left e.out (λ key group h. bounded.of_group s.at x key group (omega arith)) e.may,
      mul-le-mul left (le_refl (turns s.at x)),
    )
one_gives turns s Source p worker rows true given x bounded small e = absurd e.may
one_gives turns s Match p worker rows true given x bounded small e = absurd e.may
one_gives turns s Cross p worker rows true given x bounded small e = absurd e.may
one_gives turns s CoGroup p worker rows true given x bounded small e = absurd e.may

-- calls for pairs of records
pairs_give : (f : List Value → List Value → Bag) (turn x y : ℕ) (rows : ℕ → Bag) (ls rs out given : Bag) → length (rows 0) ≤ x → length (rows 1) ≤ y → IsPermutation (rows 0) ls → IsPermutation (rows 1) rs
    → out ≡ crossed f ls rs → IsPermutation out given → ((l r : List Value) → length (f l r) ≤ turn) → length given ≤ (x * y) * turn
pairs_give f turn x y rows ls rs out given small few of_left of_right e permuted bounded =
    let left : length ls ≤ x = omega (arith, length_permutation (rows 0) ls of_left) in
    let right : length rs ≤ y = omega (arith, length_permutation (rows 1) rs of_right) in
    omega (arith, length_permutation out given permuted, ap length e, crossed_length f turn ls rs bounded, three (length ls) (length rs) x y turn left right)

two_give : (turns : ℕ → ℕ → ℕ) (s : Spot) (kind : OpKind) (p q : Port) (worker : ℕ) (rows : ℕ → Bag) (b : Bool) (given : Bag) (x y : ℕ) → AreCallsBounded s.ops turns → length (rows 0) ≤ x → length (rows 1) ≤ y
    → Gave b (IsGiven s kind (p ∷ q ∷ []) worker rows) given → length given ≤ two_bound kind x y (turns s.at)
two_give turns s kind p q worker rows false given x y bounded small few e = omega (arith, ap length e)
two_give turns s Match p q worker rows true given x y bounded small few e =
    pairs_give (matched s.ops.nulls (s.ops.of_pair s.at) (s.ops.left_keys s.at) (s.ops.right_keys s.at)) (turns s.at 0) x y rows e.left e.right e.out given small few e.of_left e.of_right e.may e.permuted
    (λ l t. matched_length s.ops.nulls (s.ops.of_pair s.at) (s.ops.left_keys s.at) (s.ops.right_keys s.at) (turns s.at 0) l t (bounded.of_pair s.at l t))
two_give turns s Cross p q worker rows true given x y bounded small few e =
    pairs_give (s.ops.of_pair s.at) (turns s.at 0) x y rows e.left e.right e.out given small few e.of_left e.of_right e.may e.permuted (bounded.of_pair s.at)
two_give turns s CoGroup p q worker rows true given x y bounded small few e =
    let left : length e.left ≤ x = omega (arith, length_permutation (rows 0) e.left e.of_left) in
    let right : length e.right ≤ y = omega (arith, length_permutation (rows 1) e.right e.of_right) in
    let all : length e.left + length e.right ≤ x + y = omega arith in
    omega (
      arith,
      length_permutation e.out given e.permuted,
      cogroup_length (s.ops.of_groups s.at) (s.ops.left_keys s.at) (s.ops.right_keys s.at) (turns s.at (x + y)) e.left e.right e.out
          (λ key l t h k. bounded.of_groups s.at (x + y) key l t (omega arith) (omega arith)) e.may,
      mul-le-mul all (le_refl (turns s.at (x + y))),
    )
two_give turns s Source p q worker rows true given x y bounded small few e = absurd e.may
two_give turns s Map p q worker rows true given x y bounded small few e = absurd e.may
two_give turns s Reduce p q worker rows true given x y bounded small few e = absurd e.may

source_gives : (s : Spot) (kind : OpKind) (worker : ℕ) (rows : ℕ → Bag) (b : Bool) (given : Bag) → Gave b (IsGiven s kind [] worker rows) given → length given ≤ length (share_from 0 s.workers worker (s.ops.rows s.at))
source_gives s kind worker rows false given e = omega (arith, ap length e)
source_gives s kind worker rows true given e = omega (arith, length_permutation e.out given e.permuted, ap length e.may)

module _ (g : Setting) (turns : ℕ → ℕ → ℕ) (w : World) (h : History) (bounded : AreCallsBounded g.ops turns) (pipes : (edge from to : ℕ) → h.put edge from to ≡ h.taken edge from to ++ w.queue edge from to) where
  -- the facts about an instance's records
  pub record Told (t : PlanTree) (k : ℕ) (given : Bag) : Type 0 where
    pub gave : Gave (is_pipelined (spot g t).kind || all_ended (w.instance (root_of t) k))
        (IsGiven (spot g t) (spot g t).kind (spot g t).ports k (taken_rows g.physical.workers (λ port from. lists_at h.taken (slice_get (ports_of g.physical t) port) from k))) given
    pub notes : (to : ℕ) → to < g.physical.workers → length (h.put (root_of t) k to) ≤ length given + 1
    pub rows : (to : ℕ) → to < g.physical.workers → length (rows_of (h.put (root_of t) k to)) ≤ length given

  abbrev Chosen : PlanTree → ℕ → Type 0
  Chosen t k = (given : Bag) × (k < g.physical.workers → Told t k given)

  -- the records that the instance gave
  chosen : (t : PlanTree) → StandsAt g w h t → (k : ℕ) → Chosen t k
  chosen t at k = elim (cases_lt k g.physical.workers) as (λ _. Chosen t k) [
    | inr out ↦ ([], λ below. absurd (omega arith))
    | inl below ↦
        let l = at k below in
        let rows : (to : ℕ) → to < g.physical.workers → length (rows_of (h.put (root_of t) k to)) ≤ length l.given = λ to less. omega (
          arith,
          length_permutation (sent (spot g t).out g.physical.workers k to l.given) (rows_of (h.put (root_of t) k to) ++ rows_for to (w.instance (root_of t) k).waiting) (l.sent_on to less),
          length-append (rows_of (h.put (root_of t) k to)) (rows_for to (w.instance (root_of t) k).waiting),
          sent-le (spot g t).out g.physical.workers k to l.given,
        ) in (
          l.given,
          λ _. record {
            gave = l.gave;
            notes = λ to less. omega (arith, few_notes g.fields (h.put (root_of t) k to) (l.put_notes to), rows to less);
            rows = rows;
          },
        )
  ]

  given : (t : PlanTree) → StandsAt g w h t → ℕ → ℕ
  given t at k = length (chosen t at k).0

  -- if the instances of an input gave at most x records, the reader took at most x of them
  taken_few : (t : PlanTree) (at : StandsAt g w h t) (k x : ℕ) → k < g.physical.workers → sum_below g.physical.workers (given t at) ≤ x
      → length (all_of g.physical.workers (λ from. rows_of (h.taken (root_of t) from k))) ≤ x
  unfolding given
  taken_few t at k x below few =
      let each : sum_below g.physical.workers (λ from. length (rows_of (h.taken (root_of t) from k))) ≤ sum_below g.physical.workers (given t at) =
      sum-le g.physical.workers (λ from. length (rows_of (h.taken (root_of t) from k))) (given t at) (λ from less. omega (
        arith,
        ap length (ap rows_of (pipes (root_of t) from k) ∙ rows_of-append (h.taken (root_of t) from k) (w.queue (root_of t) from k)),
        length-append (rows_of (h.taken (root_of t) from k)) (rows_of (w.queue (root_of t) from k)),
        ((chosen t at from).1 less).rows k below,
      )) in
      omega (arith, length-all_of g.physical.workers (λ from. rows_of (h.taken (root_of t) from k)), each)

  -- the instances of an operator give no more than `most_given`
  sound : (t : PlanTree) (at : AllBelow (StandsAt g w h) t) → sum_below g.physical.workers (given t (all_below-root (StandsAt g w h) t at)) ≤ most_given g turns t
  unfolding given
  sound (leaf n) at =
      let each : sum_below g.physical.workers (given (leaf n) at) ≤ sum_below g.physical.workers (λ k. length (share_from 0 g.physical.workers k (g.ops.rows n))) =
      sum-le g.physical.workers (given (leaf n) at) (λ k. length (share_from 0 g.physical.workers k (g.ops.rows n))) (λ k less.
      source_gives (spot g (leaf n)) (g.ops.kind n) k (taken_rows g.physical.workers (λ port from. lists_at h.taken (slice_get (ports_of g.physical (leaf n)) port) from k))
      (is_pipelined (g.ops.kind n) || all_ended (w.instance n k)) (chosen (leaf n) at k).0 ((chosen (leaf n) at k).1 less).gave) in
      let all : sum_below g.physical.workers (given (leaf n) at) ≤ length (g.ops.rows n) = omega (arith, each, shares 0 g.physical.workers g.physical.workers (g.ops.rows n)) in
      all
  sound (over n t) at =
      let below = sound t at.1 in
      let at_t = all_below-root (StandsAt g w h) t at.1 in
      let x = most_given g turns t in
      let each : sum_below g.physical.workers (given (over n t) at.0) ≤ g.physical.workers * one_bound (g.ops.kind n) x (turns n) =
      sum-const g.physical.workers (one_bound (g.ops.kind n) x (turns n)) (given (over n t) at.0) (λ k less.
      one_gives turns (spot g (over n t)) (g.ops.kind n) (port_from g.physical t) k (taken_rows g.physical.workers (λ port from. lists_at h.taken (slice_get (ports_of g.physical (over n t)) port) from k))
      (is_pipelined (g.ops.kind n) || all_ended (w.instance n k)) (chosen (over n t) at.0 k).0 x bounded (taken_few t at_t k x less below) ((chosen (over n t) at.0 k).1 less).gave) in
      let all : sum_below g.physical.workers (given (over n t) at.0) ≤ most_of_one (g.ops.kind n) g.physical.workers x (turns n) = omega (arith, each, one_is (g.ops.kind n) g.physical.workers x (turns n)) in
      all
  sound (both n t u) at =
      let below_t = sound t at.1 in
      let below_u = sound u at.2 in
      let at_t = all_below-root (StandsAt g w h) t at.1 in
      let at_u = all_below-root (StandsAt g w h) u at.2 in
      let x = most_given g turns t in
      let y = most_given g turns u in
      let each : sum_below g.physical.workers (given (both n t u) at.0) ≤ g.physical.workers * two_bound (g.ops.kind n) x y (turns n) =
      sum-const g.physical.workers (two_bound (g.ops.kind n) x y (turns n)) (given (both n t u) at.0) (λ k less.
      two_give turns (spot g (both n t u)) (g.ops.kind n) (port_from g.physical t) (port_from g.physical u) k (taken_rows g.physical.workers (λ port from. lists_at h.taken (slice_get (ports_of g.physical (both n t u)) port) from k))
      (is_pipelined (g.ops.kind n) || all_ended (w.instance n k)) (chosen (both n t u) at.0 k).0 x y bounded (taken_few t at_t k x less below_t) (taken_few u at_u k y less below_u)
      ((chosen (both n t u) at.0 k).1 less).gave) in
      let all : sum_below g.physical.workers (given (both n t u) at.0) ≤ most_of_two (g.ops.kind n) g.physical.workers x y (turns n) = omega (arith, each, two_is (g.ops.kind n) g.physical.workers x y (turns n)) in
      all

  -- ---- the notes

  few_done : (n : ℕ) → done_at g w n ≤ g.physical.workers
  few_done n = omega (arith, sum-const g.physical.workers 1 (λ k. one_if (does_want (want (w.instance n k)) Done)) (λ k less. at_most (does_want (want (w.instance n k)) Done)))

  few_put : (t : PlanTree) (at : AllBelow (StandsAt g w h) t) → notes_on g h.put (root_of t) ≤ g.physical.workers * most_given g turns t + g.physical.workers * g.physical.workers
  unfolding given
  few_put t at =
      let top = all_below-root (StandsAt g w h) t at in
      let n = g.physical.workers in
      let each : notes_on g h.put (root_of t) ≤ sum_below n (λ f. n * (given t top f + 1)) =
      sum-le n (λ f. sum_below n (λ to. length (h.put (root_of t) f to))) (λ f. n * (given t top f + 1)) (λ f less.
      sum-const n (given t top f + 1) (λ to. length (h.put (root_of t) f to)) (λ to below. ((chosen t top f).1 less).notes to below)) in
      let ones : sum_below n (λ f. 1) ≤ n * 1 = sum-const n 1 (λ f. 1) (λ f less. omega arith) in
      let all : sum_below n (λ f. n * (given t top f + 1)) ≤ n * (most_given g turns t + n) =
      subst (λ (x : ℕ). x ≤ n * (most_given g turns t + n)) (sym (sum-times n n (λ f. given t top f + 1)))
      (mul-le-mul (le_refl n) (omega (arith, sum-plus n (given t top) (λ f. 1), ones, sound t at))) in
      omega (arith, each, all, distributes n (most_given g turns t) n)

  few_taken : (n : ℕ) → notes_on g h.taken n ≤ notes_on g h.put n
  few_taken n = sum-le g.physical.workers (λ f. sum_below g.physical.workers (λ t. length (h.taken n f t))) (λ f. sum_below g.physical.workers (λ t. length (h.put n f t))) (λ f less.
      sum-le g.physical.workers (λ t. length (h.taken n f t)) (λ t. length (h.put n f t)) (λ t below.
      omega (arith, ap length (pipes n f t), length-append (h.taken n f t) (w.queue n f t))))

  own_few : (t : PlanTree) (at : AllBelow (StandsAt g w h) t) → events_at g w h (root_of t) ≤ own_most g turns t
  own_few t at = omega (arith, few_done (root_of t), few_put t at, few_taken (root_of t))

  below_few : (t : PlanTree) (at : AllBelow (StandsAt g w h) t) → tree_sum (events_at g w h) t ≤ most_below g turns t
  below_few (leaf n) at = own_few (leaf n) at
  below_few (over n t) at = omega (arith, own_few (over n t) at, below_few t at.1)
  below_few (both n t u) at = omega (arith, own_few (both n t u) at, below_few t at.1, below_few u at.2)

  -- nothing is put at the root
  root_few : (t : PlanTree) (at : StandsAt g w h t) → ((k to : ℕ) → has_out (spot g t).out k to ≡ false) → events_at g w h (root_of t) ≤ g.physical.workers
  root_few t at none =
      let n = g.physical.workers in
      let empty : notes_on g h.put (root_of t) ≤ n * 0 = sum-const n 0 (λ f. sum_below n (λ to. length (h.put (root_of t) f to))) (λ f less.
      let inner : sum_below n (λ to. length (h.put (root_of t) f to)) ≤ n * 0 = sum-const n 0 (λ to. length (h.put (root_of t) f to)) (λ to below.
      omega (arith, ap length (nothing_put (spot g t) f (w.instance (root_of t) f) (λ port from. lists_at h.taken (slice_get (ports_of g.physical t) port) from f) (λ x. h.put (root_of t) f x) to (at f less) below (none f to)))) in
      omega (arith, inner, mul-zero n)) in
      omega (arith, few_done (root_of t), few_taken (root_of t), empty, mul-zero n)

  pub all_few : (t : PlanTree) (at : AllBelow (StandsAt g w h) t) → ((k to : ℕ) → has_out (spot g t).out k to ≡ false) → tree_sum (events_at g w h) t ≤ most_of g turns t
  all_few (leaf n) at none = root_few (leaf n) at none
  all_few (over n t) at none = omega (arith, root_few (over n t) at.0 none, below_few t at.1)
  all_few (both n t u) at none = omega (arith, root_few (both n t u) at.0 none, below_few t at.1, below_few u at.2)
