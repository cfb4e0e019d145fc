use Rattle.std.proofs.Common.{◌≡◌, ◌≤◌, ℕ, List, ap, length, map, subst, sym, ◌∙◌}
use Rattle.std.specs.List.{AllByRecursion}
use Rattle.program_check.specs.Candidates.{CandidateData}
use Rattle.program_check.specs.declared.program_rules.ProgramRule.{ProgramRule}
use Rattle.program_check.specs.ProgramRules.{Keeps}
use Rattle.pact_operators.specs.Programs.{AreValidated, IsProgram, IsProgramOf, function_limit}
use Rattle.pact_operators.specs.Resolved.{ops_of, sink_fields}
use Rattle.program_check.specs.WrittenOps.{HasFewKeys, small_ops, with_small_keys}
use Rattle.program_check.proofs.ProgramsFromRules.{attributes-known, few-keys_of, few-names, is-program, is-program_of, keeps-all, program}
use Rattle.program_check.proofs.checking.resolve.Goals as goal

pub small_ops-requires-clause-functions : goal.small_ops-requires-clause-functions
small_ops-requires-clause-functions c =
    subst (λ (names : List (List ℕ)). length names ≤ function_limit) (sym c.functions.ensures)
    (few-names c.in_ok-candidate.candidate c.in_ok-check_declarations.ensures.kept c.decls.ensures.spelled)

pub small_ops-requires-clause-keys : goal.small_ops-requires-clause-keys
small_ops-requires-clause-keys c =
    subst (AllByRecursion HasFewKeys) (sym c.decls.ensures.decls) (few-keys_of c.in_ok-candidate.candidate.draft c.decls.ensures.spelled)

pub check_attributes-requires-clause-known : goal.check_attributes-requires-clause-known
check_attributes-requires-clause-known c =
    let ops : c.in_ok-ops.ops.items ≡ small_ops c.in_ok-candidate.candidate.draft =
    c.in_ok-ops.ensures ∙ (λ i. map with_small_keys (ops_of (c.functions.ensures i) (c.decls.ensures.decls i))) in
    attributes-known c.in_ok-candidate.candidate c.deref.result.now c.in_ok-check_declarations.ensures.kept c.decls.ensures.spelled (c.deref.ensures.value ∙ ops)

pub check_attributes-requires-2-clause-known : goal.check_attributes-requires-2-clause-known
check_attributes-requires-2-clause-known c =
    let ops : c.in_ok-ops.ops.items ≡ small_ops c.in_ok-candidate.candidate.draft =
    c.in_ok-ops.ensures ∙ (λ i. map with_small_keys (ops_of (c.functions.ensures i) (c.decls.ensures.decls i))) in
    attributes-known c.in_ok-candidate.candidate c.deref-2.result.now c.in_ok-check_declarations.ensures.kept c.decls.ensures.spelled (c.deref-2.ensures.value ∙ ops)

pub returns-clause-program : goal.returns-clause-program
returns-clause-program c =
    let k = c.in_ok-candidate.candidate in
    let ops : c.in_ok-ops.ops.items ≡ small_ops k.draft = c.in_ok-ops.ensures ∙ (λ i. map with_small_keys (ops_of (c.functions.ensures i) (c.decls.ensures.decls i))) in
    let valid : AreValidated k.draft k.valids = subst (λ (x : CandidateData). AreValidated x.draft x.valids) (sym c.in_ok-candidate.ensures) c.requires in
    let sink = c.in_ok-sink.ensures ∙ ap sink_fields c.decls-2.ensures.decls in
    let told = is-program_of k c.in_ok-ops.ops.items c.in_ok-plan.plan c.in_ok-sink.sink.items c.in_ok-check_attributes-2.ensures.kept c.decls.ensures.spelled valid ops c.in_ok-plan.ensures sink in
    subst (λ (x : CandidateData). IsProgramOf x.draft x.valids (program x c.in_ok-ops.ops.items c.in_ok-plan.plan c.in_ok-sink.sink.items)) c.in_ok-candidate.ensures told

pub returns-clause-whole : goal.returns-clause-whole
returns-clause-whole c =
    let k = c.in_ok-candidate.candidate in
    let ops : c.in_ok-ops.ops.items ≡ small_ops k.draft = c.in_ok-ops.ensures ∙ (λ i. map with_small_keys (ops_of (c.functions.ensures i) (c.decls.ensures.decls i))) in
    let valid : AreValidated k.draft k.valids = subst (λ (x : CandidateData). AreValidated x.draft x.valids) (sym c.in_ok-candidate.ensures) c.requires in
    let sink = c.in_ok-sink.ensures ∙ ap sink_fields c.decls-2.ensures.decls in
    let kept = c.in_ok-check_attributes-2.ensures.kept in
    let told = is-program_of k c.in_ok-ops.ops.items c.in_ok-plan.plan c.in_ok-sink.sink.items kept c.decls.ensures.spelled valid ops c.in_ok-plan.ensures sink in
    let whole = is-program k (program k c.in_ok-ops.ops.items c.in_ok-plan.plan c.in_ok-sink.sink.items) (keeps-all k kept) c.decls.ensures.spelled valid told in
    subst (λ (x : CandidateData). IsProgram (program x c.in_ok-ops.ops.items c.in_ok-plan.plan c.in_ok-sink.sink.items)) c.in_ok-candidate.ensures whole

pub returns-clause-kept : goal.returns-clause-kept
returns-clause-kept c =
    let kept = keeps-all c.in_ok-candidate.candidate c.in_ok-check_attributes-2.ensures.kept in
    subst (λ (x : CandidateData). (rule : ProgramRule) → Keeps rule x.draft x.valids) c.in_ok-candidate.ensures kept
