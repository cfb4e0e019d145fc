-- The list of plans: the plan as written, and then, again and again, what the first exchange yields whose plan isn't
-- listed.
use Rattle.std.specs.Prelude.{◌≡◌, ◌<◌, ◌≤◌, ◌⊎◌, ℕ, zero, suc, Bool, true, false, List, [], ◌∷◌, ◌++◌, length, map, slice_get, Some, None}
use Rattle.plan_trees.specs.Plans.{PlanTree}
use Rattle.pact_operators.specs.Programs.{ProgramData}
use Rattle.reorder_pair.specs.declared.legality.Condition.{Condition}
use Rattle.reorder_pair.specs.declared.rules.Rule.{Rule}
use Rattle.reorder_pair.specs.Rules.{all_rules}
use Rattle.plan_enumerate.specs.declared.entries.Entry.{Entry}
use Rattle.reorder_pair.specs.ToldExchanges.{IsLegalIn, after}

-- a list of entries, and whether no plan is left out
pub record ListedPlans : Type 0 where
  pub entries : List Entry
  pub complete : Bool

abbrev pub plans_of : List Entry → List PlanTree
plans_of es = map (λ e. e.plan) es

abbrev pub IsAt : List Entry → ℕ → PlanTree → Type 0
IsAt es i t = slice_get (plans_of es) i ≡ Some t

abbrev pub IsListed : PlanTree → List Entry → Type 0
IsListed t es = (i : ℕ) × IsAt es i t

-- the greatest length of a list
abbrev pub entry_limit : ℕ
entry_limit = 1000

-- The first entry comes from no exchange, each later one from an exchange of an earlier one.
abbrev pub ComesFrom : ℕ → Entry → Type 0
ComesFrom zero e = e.by ≡ None
ComesFrom (suc n) e = ((c : Condition) × (e.by ≡ Some c)) × (e.from < suc n)

-- what holds for every list of entries
pub record AreEntries (es : List Entry) : Type 0 where
  pub some : 1 ≤ length es
  pub few : length es ≤ entry_limit
  pub each : (n : ℕ) (e : Entry) → slice_get es n ≡ Some e → ComesFrom n e

abbrev pub first_entry : PlanTree → Entry
first_entry start = record { plan = start; from = 0; by = None }

-- ---- the order of exchanges

-- the rule's place among the rules
abbrev pub IsRuleAt : ℕ → Rule → Type 0
IsRuleAt n rule = slice_get all_rules n ≡ Some rule

-- Exchanges are ordered by the entry, then by the number of the upper operator, then by the rule. This says that one of
-- entry `i` comes before the one of entry `entry` at operator `at` by the rule at place `n`.
abbrev pub IsBefore : ℕ → Condition → (entry at n : ℕ) → Type 0
IsBefore i c entry at n = (i < entry) ⊎ ((i ≡ entry) × ((c.at < at) ⊎ ((c.at ≡ at) × ((m : ℕ) × (m < n) × IsRuleAt m c.rule))))

-- ---- the list

-- a legal exchange of entry `i` yields the plan
abbrev pub Gives : ProgramData → List Entry → ℕ → Condition → PlanTree → Type 0
Gives p es i c u = (t : PlanTree) × IsAt es i t × IsLegalIn p t c × (u ≡ after c t)

-- ... which isn't listed
abbrev pub GivesNew : ProgramData → List Entry → ℕ → Condition → PlanTree → Type 0
GivesNew p es i c u = Gives p es i c u × (IsListed u es → ⊥)

-- what the exchanges before a place yield is listed
abbrev pub AreListedBefore : ProgramData → List Entry → (entry at n : ℕ) → Type 0
AreListedBefore p es entry at n = (i : ℕ) (c : Condition) (u : PlanTree) → IsBefore i c entry at n → Gives p es i c u → IsListed u es

-- the entry is what the first exchange yields whose plan isn't listed
pub record IsNext (p : ProgramData) (es : List Entry) (e : Entry) : Type 0 where
  pub by : Condition
  pub is_by : e.by ≡ Some by
  pub place : ℕ
  pub is_place : IsRuleAt place by.rule
  pub gives : GivesNew p es e.from by e.plan
  pub first : AreListedBefore p es e.from by.at place

-- the plan as written, and then each next one while there is room
pub data Grows (p : ProgramData) (limit : ℕ) : List Entry → Type 0 where
  begins : Grows p limit (first_entry p.plan ∷ [])
  goes_on : (es : List Entry) (e : Entry) → Grows p limit es → length es < limit → IsNext p es e → Grows p limit (es ++ e ∷ [])

-- every legal exchange of a listed plan yields a listed one
abbrev pub IsClosed : ProgramData → List Entry → Type 0
IsClosed p es = (i : ℕ) (c : Condition) (u : PlanTree) → Gives p es i c u → IsListed u es

-- some legal exchange of a listed plan yields a plan that isn't listed
abbrev pub IsOpen : ProgramData → List Entry → Type 0
IsOpen p es = (i : ℕ) × (c : Condition) × (u : PlanTree) × GivesNew p es i c u

-- The list is complete if no plan is left out; otherwise it is full and some plan is left out.
abbrev pub Ends : ProgramData → ℕ → List Entry → Bool → Type 0
Ends p limit es true = IsClosed p es
Ends p limit es false = (length es ≡ limit) × IsOpen p es

pub record IsListing (p : ProgramData) (limit : ℕ) (l : ListedPlans) : Type 0 where
  pub grows : Grows p limit l.entries
  pub ends : Ends p limit l.entries l.complete
