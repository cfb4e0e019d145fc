-- Which records of an operator's inputs are together.
use Rattle.std.specs.Prelude.{◌≡◌, ◌<◌, ◌+◌, ℕ, Bool, true, cond, flat_map, length, List, [], ◌∷◌}
use Rattle.std.specs.List.Sorted.{IsPermutation}
use Rattle.pact_bag.specs.Groups.{do_match, group_of_key}
use Rattle.pact_record.specs.declared.values.Value.{Value}
use Rattle.tac_syntax.specs.declared.declarations.OpKind.{OpKind}
use Rattle.tac_syntax.specs.declared.declarations.OpKind.TheVariants.{Map, Reduce, Match, Cross, CoGroup}
use Rattle.plan_trees.specs.Physicals.{PhysicalData}
use Rattle.plan_trees.specs.Plans.{PlanTree, leaf, over, both, has, root_of, subtree_of}
use Rattle.plan_trees.specs.Sending.{all_of}
use Rattle.pact_operators.specs.Allowed.{Bag}
use Rattle.pact_operators.specs.Divided.{GaveShare, IsReceived, Shares}
use Rattle.pact_operators.specs.PlanOps.{PlanOps}

-- each of the records is at exactly one worker
abbrev pub LieOnce : ℕ → (ℕ → Bag) → Bag → Type 0
LieOnce workers received rows = IsPermutation rows (all_of workers received)

-- no two workers have records of the same key; `count` is the number of records that a worker has of a key
abbrev pub AtOneWorker : ℕ → (ℕ → List Value → ℕ) → Type 0
AtOneWorker workers count = (key : List Value) (w v : ℕ) → w < workers → v < workers → 0 < count w key → 0 < count v key → w ≡ v

-- the pairs that pass a test
abbrev pub pairs : (List Value → List Value → Bool) → Bag → Bag → List (List Value × List Value)
pairs test ls rs = flat_map (λ l. flat_map (λ r. cond (test l r) ((l, r) ∷ []) []) rs) ls

-- each of the pairs is together at exactly one worker
abbrev pub LieTogether : ℕ → (List Value → List Value → Bool) → (left right : ℕ → Bag) → (ls rs : Bag) → Type 0
LieTogether workers test left right ls rs = IsPermutation (pairs test ls rs) (all_of workers (λ w. pairs test (left w) (right w)))

-- Each record of a Map's input is at exactly one worker. So is each of a Reduce's, and records with equal keys are at
-- the same worker.
abbrev pub MeetOver : OpKind → List ℕ → ℕ → (ℕ → Bag) → Bag → Type 0
MeetOver Map keys workers received rows = LieOnce workers received rows
MeetOver Reduce keys workers received rows = LieOnce workers received rows × AtOneWorker workers (λ w key. length (group_of_key keys (received w) key))
MeetOver kind keys workers received rows = ⊥

-- Each pair of a Match with equal keys, and each pair of a Cross, is together at exactly one worker. Each record of a
-- CoGroup is at exactly one worker, and records of both sides with equal keys are at the same one.
abbrev pub MeetBoth : OpKind → (left_keys right_keys : List ℕ) → ℕ → (left right : ℕ → Bag) → (ls rs : Bag) → Type 0
MeetBoth Match left_keys right_keys workers left right ls rs = LieTogether workers (do_match left_keys right_keys) left right ls rs
MeetBoth Cross left_keys right_keys workers left right ls rs = LieTogether workers (λ l r. true) left right ls rs
MeetBoth CoGroup left_keys right_keys workers left right ls rs =
    LieOnce workers left ls × LieOnce workers right rs
    × AtOneWorker workers (λ w key. length (group_of_key left_keys (left w) key) + length (group_of_key right_keys (right w) key))
MeetBoth kind left_keys right_keys workers left right ls rs = ⊥

-- The records of the inputs of a tree's root meet, in any order in which the workers received them from the inputs'
-- instances.
abbrev pub Meets : PlanOps → PhysicalData → Shares → PlanTree → Type 0
Meets o p gave (leaf n) = Unit {0}
Meets o p gave (over n t) =
    (received : ℕ → Bag) → ((w : ℕ) → w < p.workers → IsReceived p gave t w (received w)) → MeetOver (o.kind n) (o.left_keys n) p.workers received (all_of p.workers (gave (root_of t)))
Meets o p gave (both n t u) =
    (left right : ℕ → Bag) → ((w : ℕ) → w < p.workers → IsReceived p gave t w (left w)) → ((w : ℕ) → w < p.workers → IsReceived p gave u w (right w))
    → MeetBoth (o.kind n) (o.left_keys n) (o.right_keys n) p.workers left right (all_of p.workers (gave (root_of t))) (all_of p.workers (gave (root_of u)))

-- ---- a whole plan

-- every instance emitted its share
abbrev pub AllGaveShares : PlanOps → PhysicalData → Shares → Type 0
AllGaveShares o p gave = (at : ℕ) → has at p.tree ≡ true → (worker : ℕ) → worker < p.workers → GaveShare o p gave (subtree_of at p.tree) worker

-- at every operator the records meet
abbrev pub AllMeet : PlanOps → PhysicalData → Shares → Type 0
AllMeet o p gave = (at : ℕ) → has at p.tree ≡ true → Meets o p gave (subtree_of at p.tree)
