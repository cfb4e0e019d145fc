-- The functions of a drill are valid, its draft follows every rule, and its program is what the draft declares.
use Rattle.std.proofs.Common.{◌≡◌, ◌<◌, ◌⊎◌, inl, inr, ℕ, zero, suc, true, false, [], length, refl, subst, arith}
use Rattle.std.proofs.lemmas.Bool.{both_ways}
use Rattle.tac_syntax.specs.declared.declarations.Decl.{Decl}
use Rattle.tac_syntax.specs.declared.functions.Function.{Function}
use Rattle.tac_syntax.specs.declared.rules.Rule.{Rule}
use Rattle.tac_syntax.specs.declared.rules.Rule.TheVariants.{Registers, Operands, Fields, KeyPositions, NestedIfs, NestedLoops, Statements, Repeats}
use Rattle.tac_syntax.specs.Valid.{IsValid}
use Rattle.tac_syntax.specs.Valid as valid
use Rattle.plan_trees.specs.Plans.{PlanTree, has}
use Rattle.program_check.specs.declared.program_rules.ProgramRule.{ProgramRule}
use Rattle.program_check.specs.declared.program_rules.ProgramRule.TheVariants.{Undeclared, DeclaredTwice, NoSingleSink, TooMany, NotATree, OtherKind, OtherKeyCount, WrongField, NoAttribute, SharedAttribute}
use Rattle.pact_operators.specs.Programs.{AreValidated, IsProgramOf, IsWrittenPlan}
use Rattle.program_check.specs.ProgramRules.{Breaks, Keeps, LacksAttribute, NoneBreaks, SharesAttribute}
use Rattle.pact_operators.specs.Resolved.{node_names}
use Rattle.pact_operators.proofs.OnePlan.{same_plan}
use Rattle.drill_program.specs.Drill.{drill_draft, drill_functions, drill_map, drill_plan, drill_program, drill_reduce, low, total}

-- ---- the functions

total_keeps : (rule : Rule) → valid.Keeps rule total 4
total_keeps Registers = refl
total_keeps Operands = refl
total_keeps Fields = refl
total_keeps KeyPositions = refl
total_keeps NestedIfs = refl
total_keeps NestedLoops = refl
total_keeps Statements = refl
total_keeps Repeats = refl

low_keeps : (rule : Rule) → valid.Keeps rule low 4
low_keeps Registers = refl
low_keeps Operands = refl
low_keeps Fields = refl
low_keeps KeyPositions = refl
low_keeps NestedIfs = refl
low_keeps NestedLoops = refl
low_keeps Statements = refl
low_keeps Repeats = refl

valid_in_four : (f : Function) → ((rule : Rule) → valid.Keeps rule f 4) → IsValid f 4
valid_in_four f k = record { some_field = omega arith; few_fields = omega arith; keeps = k }

pub are_validated : AreValidated drill_draft drill_functions
are_validated = record {
  functions = refl;
  fields = (refl, (refl, tt));
  valid = (valid_in_four total total_keeps, (valid_in_four low low_keeps, tt));
}

-- ---- the plan

all_there : (n : ℕ) → n < length (node_names drill_draft.decls) → has n drill_plan ≡ true
all_there zero h = refl
all_there (suc zero) h = refl
all_there (suc (suc zero)) h = refl
all_there (suc (suc (suc n))) h = absurd (omega (arith, h))

pub is_written : IsWrittenPlan drill_draft drill_plan
is_written = record { root = refl; follows = (refl, (refl, refl)); different = ((λ e. absurd (omega (arith, e)), (λ e. absurd (omega (arith, e)), tt)), ((λ e. absurd (omega (arith, e)), tt), (tt, tt))); all = all_there }

pub is_program : IsProgramOf drill_draft drill_functions drill_program
is_program = record { version = refl; fields = refl; functions = refl; ops = refl; plan = is_written; sink = refl }

-- ---- the rules

not_true : false ≡ true → ⊥
not_true = both_ways false refl

-- the two rules on attributes are about the plan as written, of which there is only one
no_attribute_lacks : (decl : Decl) → (LacksAttribute drill_draft drill_functions drill_plan decl → ⊥) → Breaks NoAttribute drill_draft drill_functions [] decl → ⊥
no_attribute_lacks decl none b = none (subst (λ (t : PlanTree). LacksAttribute drill_draft drill_functions t decl) (same_plan drill_draft b.0 drill_plan b.1 is_written) b.2)

none_shared : (decl : Decl) → (SharesAttribute drill_draft drill_functions drill_plan decl → ⊥) → Breaks SharedAttribute drill_draft drill_functions [] decl → ⊥
none_shared decl none b = none (subst (λ (t : PlanTree). SharesAttribute drill_draft drill_functions t decl) (same_plan drill_draft b.0 drill_plan b.1 is_written) b.2)

-- the key is among the attributes
lacks_none : (X : Type 0) → X → ((X → ⊥) ⊎ ⊥) → ⊥
lacks_none X x (inl none) = none x
lacks_none X x (inr other) = other

none_breaks : (rule : ProgramRule) → NoneBreaks rule drill_draft drill_functions [] drill_draft.decls
none_breaks Undeclared = (not_true, (not_true, (not_true, (not_true, (not_true, (not_true, tt))))))
none_breaks DeclaredTwice = (not_true, (not_true, (not_true, (not_true, (not_true, (not_true, tt))))))
none_breaks NoSingleSink = (λ h. h, (λ h. h, (λ h. h, (λ h. h, (λ h. h, (λ h. h, tt))))))
none_breaks TooMany = (not_true, (not_true, (not_true, (not_true, (not_true, (not_true, tt))))))
none_breaks NotATree = (not_true, (not_true, (not_true, (not_true, (not_true, (not_true, tt))))))
none_breaks OtherKind = (not_true, (not_true, (not_true, (not_true, (not_true, (not_true, tt))))))
none_breaks OtherKeyCount = (not_true, (not_true, (not_true, (not_true, (not_true, (not_true, tt))))))
none_breaks WrongField = (not_true, (not_true, (not_true, (not_true, (not_true, (not_true, tt))))))
none_breaks NoAttribute = (λ h. h.2, (λ h. h.2, (λ h. h.2, (no_attribute_lacks drill_reduce (λ l. lacks_none _ (inl refl) l), (no_attribute_lacks drill_map (λ l. l), (λ h. h.2, tt))))))
none_breaks SharedAttribute = (λ h. h.2, (λ h. h.2, (λ h. h.2, (none_shared drill_reduce (λ s. s), (none_shared drill_map (λ s. s), (λ h. h.2, tt))))))

pub drill_keeps : (rule : ProgramRule) → Keeps rule drill_draft drill_functions
drill_keeps rule = (none_breaks rule, λ e. refl)
