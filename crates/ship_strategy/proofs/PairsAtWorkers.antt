-- The pairs of records over all workers, if one side goes everywhere, or both go by key.
use Rattle.std.proofs.Common.{◌≡◌, ◌<◌, ℕ, Bool, cond, List, [], ◌∷◌, ◌++◌, refl, sym, ap, ◌∙◌}
use Rattle.std.specs.Prelude.{flat_map}
use Rattle.std.proofs.lemmas.Bool.{false_from_ne_true}
use Rattle.pact_bag.specs.Groups.{do_match, is_same_key}
use Rattle.pact_bag.proofs.KeyGroups.{same_keys}
use Rattle.pact_bag.proofs.KeyLists.{Key}
use Rattle.pact_record.specs.declared.values.Value.{Value}
use Rattle.pact_record.specs.Record.{key_of}
use Rattle.pact_record.proofs.Permutations.{Perm, chains, turn, is_same, flat_map_flat_map}
use Rattle.plan_trees.specs.Sending.{all_of, workers_below}
use Rattle.pact_operators.specs.Allowed.{Bag}
use Rattle.plan_trees.proofs.EachWorker.{same_each, only_one}
use Rattle.ship_strategy.proofs.GroupsAtWorkers.{LieAt}

pub flat_map-all : (f : List Value → Bag) (rows : ℕ → Bag) (W : ℕ) → flat_map f (all_of W rows) ≡ all_of W (λ w. flat_map f (rows w))
flat_map-all f rows W = flat_map_flat_map f rows (workers_below W)

-- ---- one side goes everywhere

-- what a function emits for each pair
abbrev pub over_pairs : {B : Type 0} → (List Value → List Value → List B) → Bag → Bag → List B
over_pairs f ls rs = flat_map (λ l. flat_map (f l) rs) ls

-- what it emits for pairs with equal keys only
abbrev pub where_equal : {B : Type 0} → (List Value → List Value → List B) → List ℕ → List ℕ → List Value → List Value → List B
where_equal f keys others l r = cond (do_match keys others l r) (f l r) []

module _ {B : Type 0} (f : List Value → List Value → List B) where
  all_over : (l : List Value) (rs : ℕ → Bag) (W : ℕ) → flat_map (f l) (all_of W rs) ≡ all_of W (λ w. flat_map (f l) (rs w))
  all_over l rs W = flat_map_flat_map (f l) rs (workers_below W)

  -- the records of a list, one after another
  same_lists : (g h : List Value → List B) (ls : Bag) → ((l : List Value) → g l ≡ h l) → flat_map g ls ≡ flat_map h ls
  same_lists g h [] e = refl
  same_lists g h (l ∷ ls) e = λ i. e l i ++ same_lists g h ls e i

  pub left_everywhere : (ls : Bag) (rs : ℕ → Bag) (W : ℕ) → Perm (over_pairs f ls (all_of W rs)) (all_of W (λ w. over_pairs f ls (rs w)))
  left_everywhere ls rs W =
      chains (is_same (same_lists (λ l. flat_map (f l) (all_of W rs)) (λ l. all_of W (λ w. flat_map (f l) (rs w))) ls (λ l. all_over l rs W)))
      (turn (λ l w. flat_map (f l) (rs w)) ls (workers_below W))

  pub right_everywhere : (ls : ℕ → Bag) (rs : Bag) (W : ℕ) → over_pairs f (all_of W ls) rs ≡ all_of W (λ w. over_pairs f (ls w) rs)
  right_everywhere ls rs W = flat_map_flat_map (λ l. flat_map (f l) rs) ls (workers_below W)

-- ---- by key on both sides

module _ {B : Type 0} (f : List Value → List Value → List B) (place : Key → ℕ) (keys others : List ℕ) (W : ℕ) (ls rs : ℕ → Bag)
    (left : (w : ℕ) → w < W → LieAt place keys w (ls w)) (right : (w : ℕ) → w < W → LieAt place others w (rs w)) where
  abbrev M : List Value → List Value → List B
  M = where_equal f keys others

  no_pair : (w v : ℕ) (l : List Value) → place (key_of keys l) ≡ w → (v ≡ w → ⊥) → (rest : Bag) → LieAt place others v rest → flat_map (M l) rest ≡ []
  no_pair w v l here ne [] h = refl
  no_pair w v l here ne (r ∷ rest) h = λ i. none i ++ no_pair w v l here ne rest h.1 i
    where
      none : cond (is_same_key (key_of keys l) (key_of others r)) (f l r) [] ≡ []
      none = ap (λ (b : Bool). cond b (f l r) []) (false_from_ne_true (is_same_key (key_of keys l) (key_of others r))
          (λ e. ne (sym h.0 ∙ ap place (sym (same_keys (key_of keys l) (key_of others r) e)) ∙ here)))

  pairs_here : (w : ℕ) → w < W → (rows : Bag) → LieAt place keys w rows → over_pairs M rows (all_of W rs) ≡ over_pairs M rows (rs w)
  pairs_here w b [] h = refl
  pairs_here w b (l ∷ rows) h =
      λ i. (all_over M l rs W ∙ only_one (λ v. flat_map (M l) (rs v)) W w b (λ v c ne. no_pair w v l h.0 ne (rs v) (right v c))) i ++ pairs_here w b rows h.1 i

  pub equal_pairs-all : over_pairs M (all_of W ls) (all_of W rs) ≡ all_of W (λ w. over_pairs M (ls w) (rs w))
  equal_pairs-all =
      right_everywhere M ls (all_of W rs) W ∙ same_each (λ w. over_pairs M (ls w) (all_of W rs)) (λ w. over_pairs M (ls w) (rs w)) W (λ w b. pairs_here w b (ls w) (left w b))
