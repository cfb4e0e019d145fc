-- What the workers received from an input: where it is, and that it is all that the input's instances emitted, together
-- or at each worker.
use Rattle.std.proofs.Common.{◌≡◌, ◌<◌, ◌≤◌, inl, inr, ℕ, true, false, Bool, Some, None, List, refl, sym, subst}
use Rattle.std.specs.List.{AllByRecursion}
use Rattle.std.proofs.lemmas.Bool.{cases_Bool}
use Rattle.pact_record.specs.declared.values.Value.{Value}
use Rattle.pact_record.proofs.Permutations.{Perm, chains, each_perm, from_permutation, is_same, same, turned}
use Rattle.plan_trees.specs.Physicals.{PhysicalData, ship_of}
use Rattle.plan_trees.specs.Plans.{PlanTree, root_of}
use Rattle.plan_trees.specs.Sending.{all_of, arriving}
use Rattle.pact_operators.specs.Allowed.{Bag}
use Rattle.pact_operators.specs.Divided.{IsReceived, Shares}
use Rattle.ship_strategy.specs.Facts.{Facts}
use Rattle.ship_strategy.specs.Ships.{Placement, edge_placement, is_broadcast, placement}
use Rattle.ship_strategy.proofs.Arrivals.{LieBy, all_of-arriving, arriving-broadcast, arriving-lie}
use Rattle.plan_trees.proofs.EachWorker.{each_of_all, perm_each}
use Rattle.ship_strategy.proofs.GivenByAll.{HaveSide}

-- the placement of the edge above a tree
abbrev pub edge_above : Facts → PhysicalData → PlanTree → Placement
edge_above f q t = edge_placement (ship_of q t) (placement f q t)

-- what the instances of a tree's root emitted is where its placement says
abbrev pub LieAsPlaced : Facts → PhysicalData → Shares → PlanTree → Type 0
LieAsPlaced f q gave t = (w : ℕ) → w < q.workers → LieBy q.workers (placement f q t) w (gave (root_of t) w)

-- what the workers received from it
abbrev pub AreReceived : PhysicalData → Shares → PlanTree → (ℕ → Bag) → Type 0
AreReceived q gave t rows = (w : ℕ) → w < q.workers → IsReceived q gave t w (rows w)

pub lie_permuted : (W : ℕ) (e : Placement) (w : ℕ) (xs ys : Bag) → Perm xs ys → LieBy W e w xs → LieBy W e w ys
lie_permuted W None w xs ys p h = tt
lie_permuted W (Some keys) w xs ys p h = each_perm _ p h

module _ (q : PhysicalData) (gave : Shares) (t : PlanTree) (rows : ℕ → Bag) (received : AreReceived q gave t rows) where
  abbrev W : ℕ
  W = q.workers

  abbrev Given : ℕ → Bag
  Given = gave (root_of t)

  arrived : (w : ℕ) → w < W → Perm (arriving (ship_of q t) W Given w) (rows w)
  arrived w b = from_permutation (arriving (ship_of q t) W Given w) (rows w) (received w b)

  pub received_lie : (f : Facts) → LieAsPlaced f q gave t → (w : ℕ) → w < W → LieBy W (edge_above f q t) w (rows w)
  received_lie f h w b = lie_permuted W (edge_above f q t) w (arriving (ship_of q t) W Given w) (rows w) (arrived w b) (arriving-lie W (ship_of q t) (placement f q t) Given h w)

  pub received_once : 1 ≤ W → is_broadcast (ship_of q t) ≡ false → Perm (all_of W Given) (all_of W rows)
  received_once some e = chains (all_of-arriving W some (ship_of q t) e Given) (perm_each (arriving (ship_of q t) W Given) rows W arrived)

  received_each : is_broadcast (ship_of q t) ≡ true → (w : ℕ) → w < W → Perm (rows w) (all_of W Given)
  received_each e w b = chains (turned (arrived w b)) (is_same (arriving-broadcast W (ship_of q t) e Given w))

  -- a bag of all that was emitted, which the workers received together or each
  pub record IsSide (bag : Bag) : Type 1 where
    pub same : Perm (all_of W Given) bag
    pub side : HaveSide W (is_broadcast (ship_of q t)) rows bag
    pub each : (P : List Value → Type 0) → AllByRecursion P bag → (w : ℕ) → w < W → AllByRecursion P (rows w)

  pub side_of : 1 ≤ W → (bag : Bag) × IsSide bag
  side_of some = elim (cases_Bool (is_broadcast (ship_of q t))) as (λ _. (bag : Bag) × IsSide bag) [
    | inl e ↦ (
      all_of W Given,
      record {
        same = same (all_of W Given);
        side = subst (λ (b : Bool). HaveSide W b rows (all_of W Given)) (sym e) (received_each e);
        each = λ P h w b. each_perm P (turned (received_each e w b)) h;
      },
    )
    | inr e ↦ (
      all_of W rows,
      record {
        same = received_once some e;
        side = subst (λ (b : Bool). HaveSide W b rows (all_of W rows)) (sym e) refl;
        each = λ P h w b. each_of_all P rows W w b h;
      },
    )
  ]
