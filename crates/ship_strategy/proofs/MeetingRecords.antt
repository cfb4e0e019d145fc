-- Records that are shipped legally meet.
use Rattle.std.proofs.Common.{◌<◌, ◌≤◌, ◌∙◌, inl, inr, ℕ, true, Bool, cond, List, [], ◌∷◌, sym, subst}
use Rattle.pact_bag.specs.Groups.{do_match}
use Rattle.pact_bag.proofs.KeyLists.{Key}
use Rattle.pact_record.specs.declared.values.Value.{Value}
use Rattle.pact_record.specs.Hash.{target}
use Rattle.pact_record.proofs.Permutations.{Perm, chains, is_same, to_permutation, turned}
use Rattle.tac_syntax.specs.declared.declarations.OpKind.{OpKind}
use Rattle.tac_syntax.specs.declared.declarations.OpKind.TheVariants.{Source, Map, Reduce, Match, Cross, CoGroup}
use Rattle.plan_trees.specs.Physicals.{PhysicalData, ship_of}
use Rattle.plan_trees.specs.Plans.{PlanTree, root_of}
use Rattle.plan_trees.specs.Sending.{all_of}
use Rattle.pact_operators.specs.Allowed.{Bag}
use Rattle.pact_operators.specs.Divided.{Shares}
use Rattle.pact_operators.proofs.PermutedPairs.{pairs_perm}
use Rattle.ship_strategy.specs.Facts.{Facts}
use Rattle.ship_strategy.specs.Meets.{LieTogether, MeetBoth, MeetOver}
use Rattle.ship_strategy.specs.Ships.{AreByKey, GoesEverywhere, IsLegalBoth, IsLegalOver, Placement, is_broadcast, placement}
use Rattle.ship_strategy.proofs.Arrivals.{LieBy}
use Rattle.ship_strategy.proofs.GivenByAll.{edge_stays, lie_inside, only_edge_stays, pairs_together, place_inside}
use Rattle.ship_strategy.proofs.GroupsAtWorkers.{LieAt, either_place, one_place}
use Rattle.ship_strategy.proofs.PairsAtWorkers.{equal_pairs-all, where_equal}
use Rattle.ship_strategy.proofs.ReceivedRecords.{AreReceived, LieAsPlaced, edge_above, received_lie, received_once, side_of}

-- the pair itself
abbrev as_pair : List Value → List Value → List (List Value × List Value)
as_pair l r = (l, r) ∷ []

module _ (f : Facts) (q : PhysicalData) (some : 1 ≤ q.workers) (gave : Shares) where
  abbrev W : ℕ
  W = q.workers

  -- what all instances of a tree's root emitted
  abbrev Given : PlanTree → Bag
  Given t = all_of W (gave (root_of t))

  pub meet_over : (t : PlanTree) (kind : OpKind) (keys : List ℕ) → IsLegalOver kind keys (is_broadcast (ship_of q t)) (edge_above f q t) → LieAsPlaced f q gave t
      → (rows : ℕ → Bag) → AreReceived q gave t rows → MeetOver kind keys W rows (Given t)
  meet_over t Map keys legal h rows received = to_permutation (received_once q gave t rows received some legal)
  meet_over t Reduce keys legal h rows received = (
    to_permutation (received_once q gave t rows received some (only_edge_stays Reduce keys (ship_of q t) (placement f q t) legal)),
    λ k w v b c x y. sym (one_place place keys W rows lie w b k x) ∙ one_place place keys W rows lie v c k y,
  ) where
    place : Key → ℕ
    place = place_inside W keys legal.0

    lie : (w : ℕ) → w < W → LieAt (place_inside W keys legal.0) keys w (rows w)
    lie w b = lie_inside W w keys legal.0 legal.2 (rows w) (subst (λ (e : Placement). LieBy W e w (rows w)) legal.1 (received_lie q gave t rows received f h w b))
  meet_over t kind keys legal h rows received = absurd legal

  module _ (t u : PlanTree) (h : LieAsPlaced f q gave t) (g : LieAsPlaced f q gave u) (left right : ℕ → Bag) (received_left : AreReceived q gave t left) (received_right : AreReceived q gave u right)
      (keys others : List ℕ) where
    -- both sides by key
    module _ (by_key : AreByKey keys others (edge_above f q t) (edge_above f q u)) where
      lie_left : (w : ℕ) → w < W → LieAt (target W) keys w (left w)
      lie_left w b = subst (λ (e : Placement). LieBy W e w (left w)) by_key.0 (received_lie q gave t left received_left f h w b)

      lie_right : (w : ℕ) → w < W → LieAt (target W) others w (right w)
      lie_right w b = subst (λ (e : Placement). LieBy W e w (right w)) by_key.1 (received_lie q gave u right received_right f g w b)

      once_left : Perm (Given t) (all_of W left)
      once_left = received_once q gave t left received_left some (edge_stays (ship_of q t) (placement f q t) keys by_key.0)

      once_right : Perm (Given u) (all_of W right)
      once_right = received_once q gave u right received_right some (edge_stays (ship_of q u) (placement f q u) others by_key.1)

      groups_meet : MeetBoth CoGroup keys others W left right (Given t) (Given u)
      groups_meet = (
        to_permutation once_left,
        to_permutation once_right,
        λ k w v b c x y. sym (either_place (target W) keys others W left right lie_left lie_right w b k x) ∙ either_place (target W) keys others W left right lie_left lie_right v c k y,
      )

      equal_pairs_meet : LieTogether W (do_match keys others) left right (Given t) (Given u)
      equal_pairs_meet =
          to_permutation (chains (pairs_perm (where_equal as_pair keys others) once_left once_right)
          (is_same (equal_pairs-all as_pair (target W) keys others W left right lie_left lie_right)))

    -- one side goes everywhere
    pairs_meet : (test : List Value → List Value → Bool) → GoesEverywhere (is_broadcast (ship_of q t)) (is_broadcast (ship_of q u)) → LieTogether W test left right (Given t) (Given u)
    pairs_meet test legal =
        let pair = λ (l r : List Value). cond (test l r) ((l, r) ∷ []) [] in
        let a = side_of q gave t left received_left some in
        let b = side_of q gave u right received_right some in
        to_permutation (chains (pairs_perm pair a.1.same b.1.same)
        (turned (pairs_together W pair (is_broadcast (ship_of q t)) (is_broadcast (ship_of q u)) legal left right a.0 b.0 a.1.side b.1.side)))

    pub meet_both : (kind : OpKind) → IsLegalBoth kind keys others (is_broadcast (ship_of q t)) (is_broadcast (ship_of q u)) (edge_above f q t) (edge_above f q u)
        → MeetBoth kind keys others W left right (Given t) (Given u)
    meet_both Source legal = absurd legal
    meet_both Map legal = absurd legal
    meet_both Reduce legal = absurd legal
    meet_both Match legal = elim legal as (λ _. MeetBoth Match keys others W left right (Given t) (Given u)) [
      | inl by_key ↦ equal_pairs_meet by_key
      | inr all ↦ pairs_meet (do_match keys others) all
    ]
    meet_both Cross legal = pairs_meet (λ l r. true) legal
    meet_both CoGroup legal = groups_meet legal
