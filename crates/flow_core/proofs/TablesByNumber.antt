-- Tables by number.
use Rattle.std.proofs.Common.{◌≡◌, ◌<◌, ◌≤◌, ◌+◌, inl, inr, ℕ, false, true, None, List, get_or, length, set, refl, subst, sym, ◌∙◌, arith}
use Rattle.std.proofs.lemmas.Bool.{cases_eq, cases_lt, false_from_ne_true}
use Rattle.std.proofs.lemmas.List.{get_or-set_other, get_or-set_same, get_or_past}
use Rattle.plan_trees.specs.Plans.{IsPlan, PlanTree, has, node_limit}
use Rattle.plan_trees.proofs.Ships.{below_limit}
use Rattle.flow_instance.specs.Worlds.{reader_of}
use Rattle.flow_instance.proofs.Trees.{no_reader}
use Rattle.flow_core.specs.PlanTables.{input_in}

-- the first entries are those of a function, and so is the next one
pub set_next : {X : Type 0} (d : X) (f : ℕ → X) (xs : List X) (n : ℕ) (y : X) → n < length xs → ((k : ℕ) → k < n → get_or xs k d ≡ f k) → y ≡ f n
    → (k : ℕ) → k < n + 1 → get_or (set xs n y) k d ≡ f k
set_next d f xs n y less h e k below = elim (cases_eq k n) as (λ _. get_or (set xs n y) k d ≡ f k) [
  | inl same ↦ subst (λ (m : ℕ). get_or (set xs n y) m d ≡ f m) (sym same) (get_or-set_same xs n y d less ∙ e)
  | inr other ↦ get_or-set_other xs n k y d other ∙ h k (omega (arith, below, other))
]

-- a whole table of a function that returns the default beyond the table
pub all_set : {X : Type 0} (d : X) (f : ℕ → X) (xs : List X) (n limit : ℕ) → limit ≤ n → length xs ≡ limit → ((k : ℕ) → k < n → get_or xs k d ≡ f k)
    → ((k : ℕ) → limit ≤ k → f k ≡ d) → (k : ℕ) → get_or xs k d ≡ f k
all_set d f xs n limit enough long h beyond k = elim (cases_lt k limit) as (λ _. get_or xs k d ≡ f k) [
  | inl less ↦ h k (omega (arith, less, enough))
  | inr more ↦ get_or_past xs k d (omega (arith, long, more)) ∙ sym (beyond k more)
]

-- ---- numbers that no plan has

pub beyond : (tree : PlanTree) (at : ℕ) → IsPlan tree → node_limit ≤ at → has at tree ≡ false
beyond tree at plan more = false_from_ne_true (has at tree) (λ (there : has at tree ≡ true). omega (arith, more, below_limit at tree plan there))

pub no_reader_beyond : (tree : PlanTree) → IsPlan tree → (edge : ℕ) → node_limit ≤ edge → reader_of edge tree ≡ None
no_reader_beyond tree plan edge more = no_reader edge tree (beyond tree edge plan more)

pub no_input_beyond : (tree : PlanTree) (port : ℕ) → IsPlan tree → (at : ℕ) → node_limit ≤ at → input_in tree at port ≡ None
no_input_beyond tree port plan at more = rw (beyond tree at plan more) refl
