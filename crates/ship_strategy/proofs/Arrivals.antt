-- What reaches the workers over an edge: each record reaches one worker, or all of them each worker, and it is where
-- the ship says.
use Rattle.std.proofs.Common.{◌≡◌, ◌<◌, ◌≤◌, ◌==◌, ◌%◌, ℕ, zero, suc, Bool, true, false, cond, filter, Some, None, List, [], ◌∷◌, ◌++◌, refl, sym, ap, ◌∙◌, arith}
use Rattle.std.specs.List.{AllByRecursion}
use Rattle.std.proofs.lemmas.Bool.{eqb-true}
use Rattle.std.proofs.lemmas.Nat.{mod_below}
use Rattle.pact_record.specs.declared.values.Value.{Value}
use Rattle.pact_record.specs.Hash.{key_hash, target}
use Rattle.pact_record.specs.Record.{key_of}
use Rattle.pact_record.proofs.Permutations.{Perm, keeps, chains, turn, is_same}
use Rattle.plan_trees.specs.declared.physicals.Ship.{Ship}
use Rattle.plan_trees.specs.declared.physicals.Ship.TheVariants.{Forward, Partition, Broadcast}
use Rattle.plan_trees.specs.Sending.{all_of, arriving, goes, sent, share_from, workers_below}
use Rattle.pact_operators.specs.Allowed.{Bag}
use Rattle.ship_strategy.specs.Ships.{Placement, edge_placement, is_broadcast}
use Rattle.plan_trees.proofs.EachWorker.{all_each, all_of-one_more, none_each, perm_each}

-- a worker's records are where the placement says
abbrev pub LieBy : ℕ → Placement → ℕ → Bag → Type 0
LieBy workers None worker rows = Unit {0}
LieBy workers (Some keys) worker rows = AllByRecursion (λ r. target workers (key_of keys r) ≡ worker) rows

pub target_below : (W : ℕ) → 1 ≤ W → (values : List Value) → target W values < W
unfolding target
target_below W some values = mod_below (key_hash values) W (omega (arith, some))

-- ---- each record of a source is at one worker

pub all_of-share_from : (W : ℕ) → 1 ≤ W → (n : ℕ) (rows : Bag) → Perm rows (all_of W (λ w. share_from n W w rows))
all_of-share_from W some n [] = is_same (sym (none_each (λ w. []) W (λ w b. refl)))
all_of-share_from W some n (r ∷ rows) =
    chains (keeps (all_of-share_from W some (suc n) rows)) (all_of-one_more (n % W) r (λ w. share_from (suc n) W w rows) W (mod_below n W (omega (arith, some))))

-- ---- each record of an edge that isn't Broadcast arrives once

filter_all : {A : Type 0} (test : A → Bool) → ((x : A) → test x ≡ true) → (xs : List A) → filter test xs ≡ xs
filter_all test h [] = refl
filter_all test h (x ∷ xs) = ap (λ (b : Bool). cond b (x ∷ filter test xs) (filter test xs)) (h x) ∙ ap (λ (l : List _). x ∷ l) (filter_all test h xs)

-- if each record goes to one worker
to_one : (W : ℕ) (place : List Value → ℕ) → ((r : List Value) → place r < W) → (rows : Bag) → Perm rows (all_of W (λ to. filter (λ r. place r == to) rows))
to_one W place below [] = is_same (sym (none_each (λ to. []) W (λ w b. refl)))
to_one W place below (r ∷ rows) = chains (keeps (to_one W place below rows)) (all_of-one_more (place r) r (λ to. filter (λ q. place q == to) rows) W (below r))

all_sent : (W : ℕ) → 1 ≤ W → (ship : Ship) → is_broadcast ship ≡ false → (from : ℕ) → from < W → (rows : Bag) → Perm rows (all_of W (λ to. sent ship W from to rows))
all_sent W some Forward e from b rows = to_one W (λ r. from) (λ r. b) rows
all_sent W some (Partition keys) e from b rows = to_one W (λ r. target W (key_of keys r)) (λ r. target_below W some (key_of keys r)) rows
all_sent W some Broadcast e from b rows = cc

pub all_of-arriving : (W : ℕ) → 1 ≤ W → (ship : Ship) → is_broadcast ship ≡ false → (gave : ℕ → Bag) → Perm (all_of W gave) (all_of W (arriving ship W gave))
all_of-arriving W some ship e gave =
    chains (perm_each gave (λ from. all_of W (λ to. sent ship W from to (gave from))) W (λ from b. all_sent W some ship e from b (gave from)))
    (turn (λ from to. sent ship W from to (gave from)) (workers_below W) (workers_below W))

-- over a Broadcast edge all records arrive at each worker
all_given : (W n : ℕ) (gave : ℕ → Bag) (w : ℕ) → all_of n (λ from. sent Broadcast W from w (gave from)) ≡ all_of n gave
all_given W zero gave w = refl
all_given W (suc n) gave w = λ i. filter_all (goes Broadcast W n w) (λ r. refl) (gave n) i ++ all_given W n gave w i

pub arriving-broadcast : (W : ℕ) (ship : Ship) → is_broadcast ship ≡ true → (gave : ℕ → Bag) (w : ℕ) → arriving ship W gave w ≡ all_of W gave
arriving-broadcast W Forward e gave w = cc
arriving-broadcast W (Partition keys) e gave w = cc
arriving-broadcast W Broadcast e gave w = all_given W W gave w

-- ---- where the records are then

kept_so : (P Q : List Value → Type 0) (test : List Value → Bool) → ((r : List Value) → P r → test r ≡ true → Q r) → (rows : Bag) → AllByRecursion P rows → AllByRecursion Q (filter test rows)
kept_so P Q test f [] h = tt
kept_so P Q test f (r ∷ rows) h = by (test r) refl (kept_so P Q test f rows h.1)
  where
    by : (b : Bool) → test r ≡ b → AllByRecursion Q (filter test rows) → AllByRecursion Q (cond b (r ∷ filter test rows) (filter test rows))
    by true e rest = (f r h.0 e, rest)
    by false e rest = rest

any_so : (rows : Bag) → AllByRecursion (λ r. Unit {0}) rows
any_so [] = tt
any_so (r ∷ rows) = (tt, any_so rows)

pub arriving-lie : (W : ℕ) (ship : Ship) (p : Placement) (gave : ℕ → Bag) → ((w : ℕ) → w < W → LieBy W p w (gave w)) → (to : ℕ) → LieBy W (edge_placement ship p) to (arriving ship W gave to)
arriving-lie W Forward None gave h to = tt
arriving-lie W Forward (Some keys) gave h to =
    all_each (λ r. target W (key_of keys r) ≡ to) (λ from. sent Forward W from to (gave from)) W
    (λ from b. kept_so (λ r. target W (key_of keys r) ≡ from) (λ r. target W (key_of keys r) ≡ to) (goes Forward W from to) (λ r at e. at ∙ eqb-true from to e) (gave from) (h from b))
arriving-lie W (Partition keys) p gave h to =
    all_each (λ r. target W (key_of keys r) ≡ to) (λ from. sent (Partition keys) W from to (gave from)) W
    (λ from b. kept_so (λ r. Unit {0}) (λ r. target W (key_of keys r) ≡ to) (goes (Partition keys) W from to) (λ r any e. eqb-true (target W (key_of keys r)) to e) (gave from) (any_so (gave from)))
arriving-lie W Broadcast p gave h to = tt
