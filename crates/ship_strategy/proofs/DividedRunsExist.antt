-- Every physical plan of a program has a divided run, whether its ships are legal or not.
use Rattle.std.proofs.Common.{◌≡◌, ◌<◌, ◌+◌, ◌∙◌, ℕ, zero, suc, Some, List, [], ◌∷◌, slice_get, refl, sym, ap, subst, arith}
use Rattle.std.specs.Prelude.{IsPermutation, flat_map}
use Rattle.std.proofs.lemmas.List.Sorted.{IsPermutation-refl}
use Rattle.pact_bag.specs.Groups.{group_of_key}
use Rattle.tac_syntax.specs.declared.declarations.OpKind.{OpKind}
use Rattle.tac_syntax.specs.declared.declarations.OpKind.TheVariants.{Source, Map, Reduce, Match, Cross, CoGroup}
use Rattle.plan_trees.specs.Physicals.{PhysicalData, ship_of}
use Rattle.plan_trees.specs.Plans.{IsPlan, PlanTree, leaf, over, both, node_limit, root_of, subtree_of}
use Rattle.plan_trees.specs.Sending.{all_of, arriving, share_from}
use Rattle.plan_trees.proofs.Ships.{below_limit}
use Rattle.plan_trees.proofs.SubtreesOfPlans.{root_of-subtree}
use Rattle.pact_operators.specs.Allowed.{Bag, Gives, GivesBoth, count_of, keys_in, keys_in_either}
use Rattle.pact_bag.specs.Pairs.{crossed, matched}
use Rattle.pact_operators.specs.Divided.{GaveShare, IsDivided, IsReceived, Shares, count_given}
use Rattle.pact_operators.specs.PlanOps.{PlanOps, plan_ops}
use Rattle.pact_operators.specs.Programs.{HasArity, IsPlanOf, ProgramData, takes}
use Rattle.pact_operators.proofs.CallsForKeys.{cogrouped, grouped}
use Rattle.pact_operators.proofs.SourceKinds.{is_source, takes_at}
use Rattle.plan_trees.proofs.EverySubtree.{AllBelow, all_below, all_below-at, all_below-root}

-- ---- something that an operator may emit

-- nothing for a kind that takes another number of inputs
given_over : PlanOps → ℕ → OpKind → Bag → Bag
given_over o n Map rows = flat_map (o.of_record n) rows
given_over o n Reduce rows = flat_map (λ k. o.of_group n k (group_of_key (o.left_keys n) rows k)) (keys_in (o.left_keys n) rows)
given_over o n kind rows = []

given_over-Gives : (o : PlanOps) (n : ℕ) (kind : OpKind) → takes kind ≡ 1 → (rows : Bag) → Gives o kind n rows (given_over o n kind rows)
unfolding given_over
given_over-Gives o n Map e rows = refl
given_over-Gives o n Reduce e rows = grouped (o.of_group n) (o.left_keys n) rows (keys_in (o.left_keys n) rows) (given_over o n Reduce rows) refl
given_over-Gives o n kind e rows = absurd (omega (arith, e))

given_both : PlanOps → ℕ → OpKind → Bag → Bag → Bag
given_both o n Match ls rs = crossed (matched o.nulls (o.of_pair n) (o.left_keys n) (o.right_keys n)) ls rs
given_both o n Cross ls rs = crossed (o.of_pair n) ls rs
given_both o n CoGroup ls rs =
    flat_map (λ k. o.of_groups n k (group_of_key (o.left_keys n) ls k) (group_of_key (o.right_keys n) rs k)) (keys_in_either (o.left_keys n) (o.right_keys n) ls rs)
given_both o n kind ls rs = []

given_both-GivesBoth : (o : PlanOps) (n : ℕ) (kind : OpKind) → takes kind ≡ 2 → (ls rs : Bag) → GivesBoth o kind n ls rs (given_both o n kind ls rs)
unfolding given_both
given_both-GivesBoth o n Source e ls rs = absurd (omega (arith, e))
given_both-GivesBoth o n Map e ls rs = absurd (omega (arith, e))
given_both-GivesBoth o n Reduce e ls rs = absurd (omega (arith, e))
given_both-GivesBoth o n Match e ls rs = refl
given_both-GivesBoth o n Cross e ls rs = refl
given_both-GivesBoth o n CoGroup e ls rs =
    cogrouped (o.of_groups n) (o.left_keys n) (o.right_keys n) ls rs (keys_in_either (o.left_keys n) (o.right_keys n) ls rs) (given_both o n CoGroup ls rs) refl

-- ---- a list of counts

counts_from : ℕ → ℕ → (ℕ → ℕ) → List ℕ
counts_from at zero f = []
counts_from at (suc n) f = f at ∷ counts_from (suc at) n f

slice_get-counts_from : (at n k : ℕ) (f : ℕ → ℕ) → k < n → slice_get (counts_from at n f) k ≡ Some (f (at + k))
unfolding counts_from
slice_get-counts_from at zero k f b = absurd (omega (arith, b))
slice_get-counts_from at (suc n) zero f b = ap (λ (m : ℕ). Some (f m)) (omega arith)
slice_get-counts_from at (suc n) (suc k) f b = slice_get-counts_from (suc at) n k f (omega (arith, b)) ∙ ap (λ (m : ℕ). Some (f m)) (omega arith)

-- ---- what each instance emits

gives : PlanOps → PhysicalData → PlanTree → ℕ → Bag
gives o q (leaf n) w = share_from 0 q.workers w (o.rows n)
gives o q (over n t) w = given_over o n (o.kind n) (arriving (ship_of q t) q.workers (gives o q t) w)
gives o q (both n t u) w = given_both o n (o.kind n) (arriving (ship_of q t) q.workers (gives o q t) w) (arriving (ship_of q u) q.workers (gives o q u) w)

module _ (p : ProgramData) (inputs : List Bag) (q : PhysicalData) (gave : Shares) where
  abbrev O : PlanOps
  O = plan_ops p inputs

  abbrev IsGiven : PlanTree → Type 0
  IsGiven t = gave (root_of t) ≡ gives O q t

  is_received : (t : PlanTree) → IsGiven t → (w : ℕ) → IsReceived q gave t w (arriving (ship_of q t) q.workers (gives O q t) w)
  is_received t e w =
      subst (λ (g : ℕ → Bag). IsPermutation (arriving (ship_of q t) q.workers g w) (arriving (ship_of q t) q.workers (gives O q t) w)) (sym e) (IsPermutation-refl _)

  same_out : (n w : ℕ) (g : ℕ → Bag) → gave n ≡ g → IsPermutation (g w) (gave n w)
  same_out n w g e = subst (λ (h : ℕ → Bag). IsPermutation (g w) (h w)) (sym e) (IsPermutation-refl _)

  all_shares : (t : PlanTree) → HasArity p.ops t → AllBelow IsGiven t → AllBelow (λ s. (w : ℕ) → w < q.workers → GaveShare O q gave s w) t
  unfolding gives
  all_shares (leaf n) a h = λ w b. (is_source p.ops n a, same_out n w (gives O q (leaf n)) h)
  all_shares (over n t) a h = (
    λ w b. record {
      rows = arriving (ship_of q t) q.workers (gives O q t) w;
      out = gives O q (over n t) w;
      below = is_received t (all_below-root IsGiven t h.1) w;
      given = given_over-Gives O n (O.kind n) (takes_at p.ops n 1 a.0) (arriving (ship_of q t) q.workers (gives O q t) w);
      permuted = same_out n w (gives O q (over n t)) h.0;
    },
    all_shares t a.1 h.1,
  )
  all_shares (both n t u) a h = (
    λ w b. record {
      left_rows = arriving (ship_of q t) q.workers (gives O q t) w;
      right_rows = arriving (ship_of q u) q.workers (gives O q u) w;
      out = gives O q (both n t u) w;
      left_below = is_received t (all_below-root IsGiven t h.1) w;
      right_below = is_received u (all_below-root IsGiven u h.2) w;
      given = given_both-GivesBoth O n (O.kind n) (takes_at p.ops n 2 a.0) (arriving (ship_of q t) q.workers (gives O q t) w) (arriving (ship_of q u) q.workers (gives O q u) w);
      permuted = same_out n w (gives O q (both n t u)) h.0;
    },
    all_shares t a.1 h.1,
    all_shares u a.2 h.2,
  )

-- ---- a run

pub divided_exists : (p : ProgramData) (inputs : List Bag) (q : PhysicalData) → IsPlan q.tree → IsPlanOf p.functions p.ops q.tree
    → (rows : Bag) × (counts : List ℕ) × IsDivided (plan_ops p inputs) q rows counts
divided_exists p inputs q is_plan plan =
    let told = λ (n : ℕ). count_of (count_given q.workers gave n) in (
      all_of q.workers (gave (root_of q.tree)),
      counts_from 0 node_limit told,
      record {
        gave = gave;
        shares = λ at there w b. all_below-at (λ s. (w : ℕ) → w < q.workers → GaveShare (plan_ops p inputs) q gave s w) at q.tree (all_shares p inputs q gave q.tree plan.arity given) there w b;
        placed = IsPermutation-refl _;
        counted = λ at there. slice_get-counts_from 0 node_limit at told (below_limit at q.tree is_plan there) ∙ ap (λ (m : ℕ). Some (told m)) (omega arith);
      },
    )
  where
    gave : Shares
    gave at w = gives (plan_ops p inputs) q (subtree_of at q.tree) w

    given : AllBelow (λ t. gave (root_of t) ≡ gives (plan_ops p inputs) q t) q.tree
    given =
        all_below (λ t. gave (root_of t) ≡ gives (plan_ops p inputs) q t) q.tree plan.different
        (λ at there. ap (λ (m : ℕ). gives (plan_ops p inputs) q (subtree_of m q.tree)) (root_of-subtree at q.tree there))
