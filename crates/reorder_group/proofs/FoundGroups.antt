-- If the findings bind a Map to keys, it keeps their groups, in all that its input may hold in either of two trees.
use Rattle.std.proofs.Common.{◌≡◌, ℕ, List, sym, ap, subst, ◌∙◌}
use Rattle.pact_record.specs.FieldSets.{has_field}
use Rattle.pact_record.specs.Keys.{is_listed}
use Rattle.tac_syntax.specs.Call.{Out}
use Rattle.tac_syntax.specs.Code.{Code}
use Rattle.tac_syntax.specs.Contexts.{IsContextOf, ports_of}
use Rattle.tac_syntax.specs.EmitBounds.{least_emits}
use Rattle.tac_syntax.specs.Forms.{KeepsGroups}
use Rattle.tac_flow.specs.Results.{IsBoundToKeys}
use Rattle.tac_flow.specs.Views.{found_of}
use Rattle.tac_flow.proofs.FoundSets.{answered_groups}
use Rattle.tac_syntax.specs.declared.declarations.OpKind.TheVariants.{Map}
use Rattle.plan_trees.specs.Plans.{PlanTree}
use Rattle.pact_operators.specs.Allowed.{Bag}
use Rattle.pact_operators.specs.PlanOps.{kind_at, plan_ops}
use Rattle.pact_operators.specs.Programs.{IsProgram, ProgramData}
use Rattle.pact_operators.specs.SoundOps.{called, function_kind}
use Rattle.pact_operators.proofs.CalledFunctions.{called_function, called_kind}
use Rattle.pact_operators.proofs.SmallerContexts.{groups_in_smaller, groups_of_ops}
use Rattle.reorder_pair.specs.declared.finding.Found.{Found}
use Rattle.reorder_pair.specs.declared.rules.Role.TheVariants.{Mapping}
use Rattle.reorder_pair.specs.Conditions.{IsBoundTo, uses_of}
use Rattle.reorder_pair.proofs.FoundOperators.{IsFoundIn, of_fields, smaller}
use Rattle.reorder_pair.proofs.PermittedExchanges.{joint}
use Rattle.reorder_pair.proofs.PlacesOfRules.{plays-operator}

pub groups_found : (p : ProgramData) → IsProgram p → (n : ℕ) (one other : PlanTree) (s : Found) → IsFoundIn p n one other s → (inputs : List Bag) (keys : List ℕ) → kind_at p.ops n ≡ Map → IsBoundTo (uses_of s) keys
    → KeepsGroups p.fields (joint p.functions p.ops (plan_ops p inputs) n one other) (is_listed keys) (called (plan_ops p inputs) n)
groups_found p program n one other s h inputs keys map bound =
    let f = h.function in
    let operator = plays-operator Mapping (kind_at p.ops n) map in
    let found = called_function p program n f operator h.function_is in
    let c = found.1 in
    let D = ports_of h.context in
    let set = is_listed keys in
    let control = has_field s.sets.control in
    let fields = subst (λ (k : ℕ). IsContextOf k h.context) (sym c.fields) (of_fields p program n one other s h operator) in
    let of_body = subst (λ (k : ℕ). IsBoundToKeys (least_emits f.function.body) k control set) h.most (subst (λ (k : ℕ). IsBoundToKeys k s.hi control set) h.least bound) in
    let groups = answered_groups f c.valid h.context fields (found_of s.sets) h.sets (called_kind p n found.0 f c ∙ ap function_kind map) set of_body in
    let of_program = subst (λ (k : ℕ). KeepsGroups k D set (Out k f.function.body)) c.fields groups in
    groups_in_smaller p.fields (joint p.functions p.ops (plan_ops p inputs) n one other) D set (called (plan_ops p inputs) n) (smaller p program n one other s h inputs)
    (groups_of_ops p inputs n D set (subst (λ (b : Code). KeepsGroups p.fields D set (Out p.fields b)) c.body of_program))
