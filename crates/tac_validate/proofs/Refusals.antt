-- The rules in the order of their codes, and refusals.
use Rattle.std.proofs.Common.{◌≡◌, ◌<◌, ◌≤◌, ◌+◌, ℕ, zero, suc, List, [], ◌∷◌, get_or, Some, refl, subst, arith}
use Rattle.pact_record.specs.declared.records.TheConstants.{MAX_FIELDS}
use Rattle.tac_syntax.specs.declared.functions.Function.{Function}
use Rattle.tac_syntax.specs.declared.rules.Rule.{Rule}
use Rattle.tac_syntax.specs.declared.rules.Rule.TheVariants.{Registers, Operands, Fields, KeyPositions, NestedIfs, NestedLoops, Statements, Repeats}
use Rattle.tac_syntax.specs.Rules.{code_of_rule}
use Rattle.tac_syntax.specs.Valid.{first_break, Keeps, IsValid, IsRefusal}

abbrev pub in_order : List Rule
in_order = Registers ∷ Operands ∷ Fields ∷ KeyPositions ∷ NestedIfs ∷ NestedLoops ∷ Statements ∷ Repeats ∷ []

-- a rule by its place in the list
abbrev pub rule_at : ℕ → Rule
rule_at n = get_or in_order n Registers

code_of_rule-at : (n : ℕ) → n < 8 → code_of_rule (rule_at n) ≡ n + 1
code_of_rule-at zero h = refl
code_of_rule-at (suc zero) h = refl
code_of_rule-at (suc (suc zero)) h = refl
code_of_rule-at (suc (suc (suc zero))) h = refl
code_of_rule-at (suc (suc (suc (suc zero)))) h = refl
code_of_rule-at (suc (suc (suc (suc (suc zero))))) h = refl
code_of_rule-at (suc (suc (suc (suc (suc (suc zero)))))) h = refl
code_of_rule-at (suc (suc (suc (suc (suc (suc (suc zero))))))) h = refl
code_of_rule-at (suc (suc (suc (suc (suc (suc (suc (suc n)))))))) h = absurd (omega arith)

place_of_rule : (rule : Rule) → (n : ℕ) × (n + 1 ≡ code_of_rule rule) × (n < 8) × (rule_at n ≡ rule)
place_of_rule Registers = (0, refl, omega arith, refl)
place_of_rule Operands = (1, refl, omega arith, refl)
place_of_rule Fields = (2, refl, omega arith, refl)
place_of_rule KeyPositions = (3, refl, omega arith, refl)
place_of_rule NestedIfs = (4, refl, omega arith, refl)
place_of_rule NestedLoops = (5, refl, omega arith, refl)
place_of_rule Statements = (6, refl, omega arith, refl)
place_of_rule Repeats = (7, refl, omega arith, refl)

-- The rules before a place in the list are kept.
pub record KeepsBefore (f : Function) (fields n : ℕ) : Type 0 where
  pub keeps : (k : ℕ) → k < n → Keeps (rule_at k) f fields

pub keeps_all : (f : Function) (fields n : ℕ) → 8 ≤ n → 1 ≤ fields → fields ≤ MAX_FIELDS → KeepsBefore f fields n → IsValid f fields
keeps_all f fields n all some few h = record {
  some_field = some;
  few_fields = few;
  keeps = λ rule. let p = place_of_rule rule in subst (λ (r : Rule). Keeps r f fields) p.3 (h.keeps p.0 (omega (arith, p.2)));
}

pub refusal_at : (f : Function) (fields n at code : ℕ) → n < 8 → first_break (rule_at n) f fields ≡ Some at → code ≡ code_of_rule (rule_at n)
    → KeepsBefore f fields n → IsRefusal f fields code at
refusal_at f fields n at code below first e h = record {
  rule = rule_at n;
  code_is = e;
  first = first;
  least = λ other less. let p = place_of_rule other in
      subst (λ (r : Rule). Keeps r f fields) p.3 (h.keeps p.0 (omega (arith, p.1, less, e, code_of_rule-at n below)));
}

-- A function that has a refusal isn't valid.
pub refusal_excludes_validity : (f : Function) (fields code at : ℕ) → IsRefusal f fields code at → IsValid f fields → ⊥
refusal_excludes_validity f fields code at refusal valid =
    let none = valid.keeps refusal.rule in
    let some = refusal.first in
    cc
