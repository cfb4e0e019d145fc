-- If ships are legal and every instance emitted its share, the shares of each subtree are one evaluation of it, and are
-- where their placement says.
use Rattle.std.proofs.Common.{◌≡◌, ◌<◌, ◌≤◌, ℕ, List, [], length, Bool, sym, subst, arith}
use Rattle.std.specs.Prelude.{IsPermutation}
use Rattle.std.specs.List.{AllByRecursion}
use Rattle.pact_record.proofs.Permutations.{Perm, chains, from_permutation, to_permutation, turned}
use Rattle.tac_syntax.specs.Forms.{IsWithin}
use Rattle.plan_trees.specs.Physicals.{PhysicalData, ship_of}
use Rattle.plan_trees.specs.Plans.{PlanTree, leaf, over, both, root_of}
use Rattle.plan_trees.specs.Sending.{all_of, share_from}
use Rattle.pact_operators.specs.Allowed.{Bag, Evaluates, Gives, GivesBoth}
use Rattle.pact_operators.specs.Divided.{GaveShare, IsReceived, Shares}
use Rattle.pact_operators.specs.Inputs.{AreInputsOf}
use Rattle.pact_operators.specs.PlanOps.{PlanOps, plan_ops}
use Rattle.pact_operators.specs.Programs.{AreSidesApart, HasAttribute, IsProgram, ProgramData}
use Rattle.pact_operators.specs.SoundOps.{AreOpsOf}
use Rattle.plan_trees.proofs.EverySubtree.{AllBelow, all_below-root}
use Rattle.pact_operators.proofs.LawfulBags.{lawful_bags}
use Rattle.pact_operators.proofs.PermutedEvaluations.{evaluates_allowed, evaluates_permuted}
use Rattle.pact_operators.proofs.SoundPrograms.{are_ops}
use Rattle.ship_strategy.specs.Facts.{Facts, NodeFacts}
use Rattle.ship_strategy.specs.PlanFacts.{facts_at}
use Rattle.ship_strategy.specs.Ships.{AllowsBoth, AllowsOver, IsLegal, is_broadcast, placed_both, placed_over, placement}
use Rattle.ship_strategy.proofs.Arrivals.{LieBy, all_of-share_from}
use Rattle.plan_trees.proofs.EachWorker.{perm_each, picked}
use Rattle.ship_strategy.proofs.GivenByAll.{HaveSide, both_give, only_edge_stays, over_gives}
use Rattle.ship_strategy.proofs.KeptPlacements.{both_lie, over_lie}
use Rattle.ship_strategy.proofs.PlanAttributes.{left_true, right_true}
use Rattle.ship_strategy.proofs.ReceivedRecords.{AreReceived, IsSide, LieAsPlaced, edge_above, lie_permuted, received_lie, side_of}
use Rattle.ship_strategy.proofs.SoundFacts.{known_form}

module _ (p : ProgramData) (program : IsProgram p) (inputs : List Bag) (of_inputs : AreInputsOf p inputs) (q : PhysicalData) (some : 1 ≤ q.workers) (f : Facts) (gave : Shares) (Told : ℕ → ℕ → Type 0) where
  abbrev O : PlanOps
  O = plan_ops p inputs

  abbrev W : ℕ
  W = q.workers

  abbrev Attributes : PlanTree → ℕ → Type 0
  Attributes t = HasAttribute p.functions p.ops t

  -- ---- what a tree emits

  abbrev pub HaveShares : PlanTree → Type 0
  HaveShares t = (w : ℕ) → w < W → GaveShare O q gave t w

  abbrev pub IsTrueFinding : PlanTree → Type 0
  IsTrueFinding t = Told (root_of t) (length (all_of W (gave (root_of t))))

  abbrev pub HasFacts : PlanTree → Type 0
  HasFacts t = f (root_of t) ≡ facts_at p t

  -- ---- what is shown of it

  abbrev pub IsWhole : PlanTree → Type 0
  IsWhole t = Evaluates Told O t (all_of W (gave (root_of t))) × LieAsPlaced f q gave t

  good : AreOpsOf p.fields p.functions p.ops O
  good = are_ops p inputs program of_inputs

  all_given : (n : ℕ) (out : ℕ → Bag) (now : Bag) → Perm (all_of W out) now → ((w : ℕ) → w < W → IsPermutation (out w) (gave n w)) → IsPermutation now (all_of W (gave n))
  all_given n out now p h = to_permutation (chains (turned p) (perm_each out (gave n) W (λ w b. from_permutation (out w) (gave n w) (h w b))))

  -- ---- what was received from it

  module _ (t : PlanTree) (rows : ℕ → Bag) (received : AreReceived q gave t rows) (whole : IsWhole t) where
    pub side_whole : (bag : Bag) → IsSide q gave t rows received bag → Evaluates Told O t bag
    side_whole bag side = evaluates_permuted Told O t (all_of W (gave (root_of t))) bag side.same whole.0

    pub side_fits : (bag : Bag) → IsSide q gave t rows received bag → (w : ℕ) → w < W → AllByRecursion (IsWithin p.fields (Attributes t)) (rows w)
    side_fits bag side =
        side.each (IsWithin p.fields (Attributes t)) (lawful_bags p.fields p.functions p.ops O good t bag (evaluates_allowed Told O t bag (side_whole bag side)))

  -- ---- a source

  whole_leaf : (n : ℕ) → HaveShares (leaf n) → IsTrueFinding (leaf n) → IsWhole (leaf n)
  whole_leaf n shares told = (
    (
      record {
        source = (shares 0 (omega (arith, some))).0;
        permuted = to_permutation (chains (all_of-share_from W some 0 (O.rows n))
            (perm_each (λ w. share_from 0 W w (O.rows n)) (gave n) W (λ w b. from_permutation (share_from 0 W w (O.rows n)) (gave n w) (shares w b).1)));
      },
      told,
    ),
    λ w b. tt,
  )

  -- ---- an operator of one input

  -- what an instance received and emitted
  abbrev OneAt : ℕ → PlanTree → ℕ → Bag × Bag → Type 0
  OneAt n t w x = IsReceived q gave t w x.0 × Gives O (O.kind n) n x.0 x.1 × IsPermutation x.1 (gave n w)

  whole_over : (n : ℕ) (t : PlanTree) → HaveShares (over n t) → IsTrueFinding (over n t) → HasFacts (over n t) → AllowsOver (f n) (ship_of q t) (placement f q t) → IsWhole t → IsWhole (over n t)
  whole_over n t shares told is legal whole =
      let x = picked W (OneAt n t) ([], []) (λ w b. let d = shares w b in ((d.rows, d.out), (d.below, d.given, d.permuted))) in
      let rows = λ (w : ℕ). (x.0 w).0 in
      let out = λ (w : ℕ). (x.0 w).1 in
      let received : AreReceived q gave t rows = λ w b. (x.1 w b).0 in
      let s = side_of q gave t rows received some in
      let lie = received_lie q gave t rows received f whole.1 in
      let X = facts_at p (over n t) in
      let allowed : AllowsOver X (ship_of q t) (placement f q t) = subst (λ (y : NodeFacts). AllowsOver y (ship_of q t) (placement f q t)) is legal in
      let given = over_gives O n W some (O.kind n) (is_broadcast (ship_of q t)) (edge_above f q t) allowed rows out lie (λ w b. (x.1 w b).1) in
      let together : s.0 ≡ all_of W rows =
      subst (λ (b : Bool). HaveSide W b rows s.0) (only_edge_stays (O.kind n) (O.left_keys n) (ship_of q t) (placement f q t) allowed) s.1.side in (
        (
          record {
            rows = s.0;
            out = given.0;
            below = side_whole t rows received whole s.0 s.1;
            given = subst (λ (z : Bag). Gives O (O.kind n) n z given.0) (sym together) given.1;
            permuted = all_given n out given.0 given.2 (λ w b. (x.1 w b).2);
          },
          told,
        ),
        λ w b. subst (λ (y : NodeFacts). LieBy W (placed_over y (ship_of q t) (placement f q t)) w (gave n w)) (sym is)
            (lie_permuted W (placed_over X (ship_of q t) (placement f q t)) w (out w) (gave n w) (from_permutation (out w) (gave n w) (x.1 w b).2)
            (over_lie p.fields O n W w (Attributes t) (λ k. ⊥) (λ k l r. r) X (rows w) (out w) (side_fits t rows received whole s.0 s.1 w b) (O.kind n)
            (known_form p program inputs (over n t) (Attributes t) (λ k. ⊥) (left_true p (over n t)) (right_true p (over n t))) (edge_above f q t) (lie w b) (x.1 w b).1)),
      )

  -- ---- an operator of two

  abbrev TwoAt : ℕ → PlanTree → PlanTree → ℕ → Bag × Bag × Bag → Type 0
  TwoAt n t u w x = IsReceived q gave t w x.0 × IsReceived q gave u w x.1 × GivesBoth O (O.kind n) n x.0 x.1 x.2 × IsPermutation x.2 (gave n w)

  whole_both : (n : ℕ) (t u : PlanTree) → HaveShares (both n t u) → IsTrueFinding (both n t u) → HasFacts (both n t u)
      → AllowsBoth (f n) (ship_of q t) (ship_of q u) (placement f q t) (placement f q u) → ((k : ℕ) → Attributes t k → Attributes u k → ⊥) → IsWhole t → IsWhole u → IsWhole (both n t u)
  whole_both n t u shares told is legal apart left_whole right_whole =
      let x = picked W (TwoAt n t u) ([], [], []) (λ w b. let d = shares w b in ((d.left_rows, d.right_rows, d.out), (d.left_below, d.right_below, d.given, d.permuted))) in
      let ls = λ (w : ℕ). (x.0 w).0 in
      let rs = λ (w : ℕ). (x.0 w).1 in
      let out = λ (w : ℕ). (x.0 w).2 in
      let received_left : AreReceived q gave t ls = λ w b. (x.1 w b).0 in
      let received_right : AreReceived q gave u rs = λ w b. (x.1 w b).1 in
      let l = side_of q gave t ls received_left some in
      let r = side_of q gave u rs received_right some in
      let left_lie = received_lie q gave t ls received_left f left_whole.1 in
      let right_lie = received_lie q gave u rs received_right f right_whole.1 in
      let X = facts_at p (both n t u) in
      let allowed : AllowsBoth X (ship_of q t) (ship_of q u) (placement f q t) (placement f q u) =
      subst (λ (y : NodeFacts). AllowsBoth y (ship_of q t) (ship_of q u) (placement f q t) (placement f q u)) is legal in
      let given = both_give O n W some (ship_of q t) (ship_of q u) (placement f q t) (placement f q u) ls rs l.0 r.0 l.1.side r.1.side left_lie right_lie out (O.kind n) allowed (λ w b. (x.1 w b).2) in (
        (
          record {
            left_rows = l.0;
            right_rows = r.0;
            out = given.0;
            left_below = side_whole t ls received_left left_whole l.0 l.1;
            right_below = side_whole u rs received_right right_whole r.0 r.1;
            given = given.1;
            permuted = all_given n out given.0 given.2 (λ w b. (x.1 w b).3);
          },
          told,
        ),
        λ w b. subst (λ (y : NodeFacts). LieBy W (placed_both y (ship_of q t) (ship_of q u) (placement f q t) (placement f q u)) w (gave n w)) (sym is)
            (lie_permuted W (placed_both X (ship_of q t) (ship_of q u) (placement f q t) (placement f q u)) w (out w) (gave n w) (from_permutation (out w) (gave n w) (x.1 w b).3)
            (both_lie p.fields O n W w (Attributes t) (Attributes u) apart X (ls w) (rs w) (out w)
            (side_fits t ls received_left left_whole l.0 l.1 w b) (side_fits u rs received_right right_whole r.0 r.1 w b)
            (λ k has. (left_true p (both n t u) k).1 has) (λ k has. (right_true p (both n t u) k).1 has) (O.kind n)
            (known_form p program inputs (both n t u) (Attributes t) (Attributes u) (left_true p (both n t u)) (right_true p (both n t u)))
            (is_broadcast (ship_of q t)) (is_broadcast (ship_of q u)) (edge_above f q t) (edge_above f q u) allowed (left_lie w b) (right_lie w b) (x.1 w b).2)),
      )

  -- ---- the whole tree

  pub all_whole : (t : PlanTree) → AllBelow HaveShares t → AllBelow IsTrueFinding t → AllBelow HasFacts t → IsLegal f q t → AreSidesApart p.functions p.ops t → AllBelow IsWhole t
  all_whole (leaf n) shares told facts legal apart = whole_leaf n shares told
  all_whole (over n t) shares told facts legal apart =
      let below = all_whole t shares.1 told.1 facts.1 legal.1 apart in
      (whole_over n t shares.0 told.0 facts.0 legal.0 (all_below-root IsWhole t below), below)
  all_whole (both n t u) shares told facts legal apart =
      let left = all_whole t shares.1 told.1 facts.1 legal.1 apart.1 in
      let right = all_whole u shares.2 told.2 facts.2 legal.2 apart.2 in
      (whole_both n t u shares.0 told.0 facts.0 legal.0 apart.0 (all_below-root IsWhole t left) (all_below-root IsWhole u right), left, right)
