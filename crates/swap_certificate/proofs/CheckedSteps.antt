-- The conditions of a step, in terms of the values in the code.
use Rattle.std.proofs.Common.{◌≡◌, ◌≤◌, inl, inr, ℕ, List, length, IfNone, IfSome, None, Option, Some, Result, Ok, Err, sym, subst, ◌∙◌, arith}
use Rattle.std.proofs.lemmas.Bool.{cases_lt}
use Rattle.plan_trees.specs.Plans.{PlanTree, IsPlan, node_limit}
use Rattle.plan_trees.proofs.Ships.{below_limit}
use Rattle.pact_operators.specs.declared.operators.Op.{Op}
use Rattle.pact_operators.specs.Programs.{IsPlanOf, NamesDiffer, ProgramData}
use Rattle.tac_syntax.specs.Valid.{WithFields}
use Rattle.reorder_pair.specs.declared.finding.Found.{Found}
use Rattle.reorder_pair.specs.declared.legality.Condition.{Condition}
use Rattle.reorder_pair.specs.declared.rules.Rule.{Rule}
use Rattle.reorder_pair.specs.Legal.{IsConditionOf, IsFoundAt, IsLegalFor}
use Rattle.reorder_pair.specs.Places.{IsPlace}
use Rattle.reorder_pair.specs.Reach.{Reach, exchanged}
use Rattle.reorder_pair.specs.Rules.{word_of}
use Rattle.reorder_pair.proofs.OneFinding.{found_one}
use Rattle.swap_certificate.specs.declared.certificates.CertFault.{CertFault}
use Rattle.swap_certificate.specs.declared.certificates.CertFault.TheVariants.{C1}
use Rattle.swap_certificate.specs.declared.certificates.Step.{Step}
use Rattle.swap_certificate.specs.Checks.{Asks, StepTo, is_legal, no_place, no_rule, not_legal, other_sets}
use Rattle.swap_certificate.specs.PlanLines.{IsNamed}
use Rattle.swap_certificate.proofs.OneResult.{both_ok, named_one, ok_or_err}

-- a plan has each operator of its program, so a program has at most `node_limit` operators
pub few_operators : (valids : List WithFields) (ops shown : List Op) (t : PlanTree) → shown ≡ ops → IsPlanOf valids ops t → IsPlan t → length shown ≤ node_limit
few_operators valids ops shown t same of plan = subst (λ (xs : List Op). length xs ≤ node_limit) (sym same) (elim (cases_lt node_limit (length ops)) as (λ _. length ops ≤ node_limit) [
  | inl more ↦ (let too_small = below_limit node_limit t plan (of.all node_limit more) in absurd (omega (arith, too_small)))
  | inr few ↦ few
])

-- `IsNamed` carries over from the operators and the name in the code to equal ones in the program
named_in : (ops shown : List Op) (name word : List ℕ) (at : ℕ) → shown ≡ ops → word ≡ name → IsNamed shown word at → IsNamed ops name at
named_in ops shown name word at same same_word h = subst (λ (xs : List Op). IsNamed xs name at) same (subst (λ (w : List ℕ). IsNamed shown w at) same_word h)

pub shown-Asks : (p : ProgramData) (s : Step) (rule : Rule) (at : ℕ) (shown : List Op) (word name : List ℕ) → shown ≡ p.ops → word ≡ s.rule → name ≡ s.at → word_of rule ≡ word → IsNamed shown name at
    → Asks p s rule at
shown-Asks p s rule at shown word name same same_word same_name is named = record { rule_is = is ∙ same_word; at_is = named_in p.ops shown s.at name at same same_name named }

module _ (p : ProgramData) (t : PlanTree) (s : Step) (rule : Rule) where
  -- no operator has the name
  pub no_operator-StepTo : (n : ℕ) (shown : List Op) (word : List ℕ) → word_of rule ≡ s.rule → shown ≡ p.ops → word ≡ s.at → ((at : ℕ) → IsNamed shown word at → ⊥) → StepTo p n t s (Err (C1 n))
  no_operator-StepTo n shown word of_rule same same_word none = no_place rule of_rule (λ at named place. none at (named_in shown p.ops word s.at at (sym same) (sym same_word) named))

  module _ (at : ℕ) where
    -- the rule has no place at the operator with the name
    pub nowhere-StepTo : (n : ℕ) → NamesDiffer p.ops → Asks p s rule at → (IsPlace p t at rule → ⊥) → StepTo p n t s (Err (C1 n))
    nowhere-StepTo n differ asks none =
        no_place rule asks.rule_is (λ there named place. none (subst (λ (m : ℕ). IsPlace p t m rule) (named_one p.ops s.at there at differ named asks.at_is) place))

    -- the two operators' sets that a table returned
    pub told-IsFoundAt : (told : Option (Found × Found)) (upper lower : Found) → told ≡ Some (upper, lower) → IfSome told (λ both. IsFoundAt p t at rule both.0 both.1) → IsFoundAt p t at rule upper lower
    told-IsFoundAt told upper lower e h = subst (λ (x : Option (Found × Found)). IfSome x (λ both. IsFoundAt p t at rule both.0 both.1)) e h

    -- the stated sets are the ones found, and the exchange is legal for them
    pub stated-IsFoundAt : (upper lower : Found) → IsFoundAt p t at rule upper lower → (upper ≡ s.upper) × (lower ≡ s.lower) → IsFoundAt p t at rule s.upper s.lower
    stated-IsFoundAt upper lower h same = subst (λ (u : Found). IsFoundAt p t at rule u s.lower) same.0 (subst (λ (l : Found). IsFoundAt p t at rule upper l) same.1 h)

    pub stated-IsLegalFor : (c : Condition) → IsConditionOf p t at rule c → IsFoundAt p t at rule s.upper s.lower → IsLegalFor p t at rule s.upper s.lower
    stated-IsLegalFor c h found =
        let same = found_one p t at rule c.upper c.lower s.upper s.lower h.legal.found found in
        subst (λ (u : Found). IsLegalFor p t at rule u s.lower) same.0 (subst (λ (l : Found). IsLegalFor p t at rule c.upper l) same.1 h.legal)

-- the consequence of a table that has no sets for the operators
pub told-none : (told : Option (Found × Found)) (A : Type 0) → told ≡ None → IfNone told A → A
told-none told A e h = subst (λ (x : Option (Found × Found)). IfNone x A) e h

-- a step leads to a plan in reach
pub step-Reach : (p : ProgramData) (n : ℕ) (t u : PlanTree) (s : Step) (q : Result PlanTree CertFault) → q ≡ Ok u → StepTo p n t s q → Reach p t → Reach p u
step-Reach p n t u s _ e (no_rule none) r = absurd (ok_or_err (sym e))
step-Reach p n t u s _ e (no_place rule word none) r = absurd (ok_or_err (sym e))
step-Reach p n t u s _ e (other_sets rule at upper lower asks h apart) r = absurd (ok_or_err (sym e))
step-Reach p n t u s _ e (not_legal rule at why asks h refused) r = absurd (ok_or_err (sym e))
step-Reach p n t u s _ e (is_legal rule at asks h) r = subst (Reach p) (both_ok e) (exchanged t at rule r (s.upper, s.lower, h))
