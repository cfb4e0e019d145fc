-- A draft that keeps every rule makes a program, and isn't refused.
use Rattle.std.proofs.Common.{◌≡◌, ◌≤◌, ◌<◌, ◌+◌, nat_lt, inl, inr, ℕ, zero, suc, true, Some, List, [], ◌∷◌, length, map, slice_get, refl, ap, subst, sym, ◌∙◌, arith}
use Rattle.std.specs.List.{AllByRecursion}
use Rattle.std.proofs.lemmas.Bool.{eqb-true, lt-ltb, not-false}
use Rattle.std.proofs.lemmas.List.{length-map}
use Rattle.pact_record.specs.declared.records.TheConstants.{MAX_FIELDS}
use Rattle.pact_record.proofs.Lists.{AllByRecursion-slice_get}
use Rattle.tac_syntax.specs.declared.functions.Function.{Function}
use Rattle.tac_syntax.specs.Valid.{WithFields}
use Rattle.tac_syntax.specs.declared.declarations.OpKind.TheVariants.{Source as SourceKind}
use Rattle.tac_syntax.specs.declared.declarations.Decl.{Decl}
use Rattle.tac_syntax.specs.declared.declarations.Decl.TheVariants.{Source, Function as FunctionDecl, Op as OpDecl, Sink}
use Rattle.pact_operators.specs.declared.operators.Op.{Op}
use Rattle.program_check.specs.declared.program_rules.ProgramRule.{ProgramRule}
use Rattle.program_check.specs.declared.program_rules.ProgramRule.TheVariants.{Undeclared, DeclaredTwice, NoSingleSink, TooMany, NotATree, OtherKind, OtherKeyCount, WrongField, NoAttribute, SharedAttribute}
use Rattle.tac_syntax.proofs.FieldLimits.{wide_limit}
use Rattle.program_check.specs.AttributeTests.{AreAttributesKnown}
use Rattle.program_check.specs.Candidates.{CandidateData}
use Rattle.program_check.specs.Checks.{KeepsBefore}
use Rattle.plan_trees.specs.Distinct.{AreDifferent}
use Rattle.tac_syntax.specs.Drafts.{DraftData, IsSpelledDraft}
use Rattle.plan_trees.specs.Plans.{PlanTree}
use Rattle.program_check.specs.ProgramRules.{Keeps, NoneBreaks, order_of}
use Rattle.pact_operators.specs.Programs.{AreValidated, IsOpOf, IsOperatorOf, IsProgram, IsProgramOf, IsWrittenPlan, ProgramData, function_limit, source_fields}
use Rattle.pact_operators.specs.Resolved.{function_names, ops_of, place_among, sink_fields, sink_inputs}
use Rattle.program_check.specs.WrittenOps.{HasFewKeys, small_keys, small_ops, with_small_keys}
use Rattle.program_check.proofs.PlanOfProgram.{plan-of}
use Rattle.program_check.proofs.ColumnRules.{columns-below, columns-different, sink-is, source_fields-ops_of, source_fields-small}
use Rattle.program_check.proofs.FewDeclarations.{few-functions, few-operators, few-pairs}
use Rattle.program_check.proofs.EachDecl.{IsSpelledIn, few-keys, spelled}
use Rattle.program_check.proofs.OperatorsOfKind.{KeepsOpRules, operator-is}

-- After the last rule, every rule is kept.
pub keeps-all : (c : CandidateData) → KeepsBefore (order_of SharedAttribute + 1) c → (rule : ProgramRule) → Keeps rule c.draft c.valids
keeps-all c h Undeclared = h Undeclared (omega arith)
keeps-all c h DeclaredTwice = h DeclaredTwice (omega arith)
keeps-all c h NoSingleSink = h NoSingleSink (omega arith)
keeps-all c h TooMany = h TooMany (omega arith)
keeps-all c h NotATree = h NotATree (omega arith)
keeps-all c h OtherKind = h OtherKind (omega arith)
keeps-all c h OtherKeyCount = h OtherKeyCount (omega arith)
keeps-all c h WrongField = h WrongField (omega arith)
keeps-all c h NoAttribute = h NoAttribute (omega arith)
keeps-all c h SharedAttribute = h SharedAttribute (omega arith)

-- ---- before the attributes are computed

pub few-names : (c : CandidateData) → KeepsBefore (order_of NoAttribute) c → IsSpelledDraft c.draft → length (function_names c.draft.functions) ≤ function_limit
few-names c h s =
    omega (arith, few-functions c.draft c.valids s.declared (h TooMany (omega arith)).0, length-map c.draft.functions (λ (f : Function). f.name))

pub few-keys_of : (d : DraftData) → IsSpelledDraft d → AllByRecursion HasFewKeys d.decls
few-keys_of d s = few-keys d.version d.decls (spelled d.version 0 (length d.functions) d.decls s.declared)

columns_below : (c : CandidateData) → NoneBreaks WrongField c.draft c.valids [] c.draft.decls → AllByRecursion (λ k. k < c.draft.fields) (source_fields (ops_of (function_names c.draft.functions) c.draft.decls))
columns_below c h =
    subst (λ (fields : List ℕ). AllByRecursion (λ k. k < c.draft.fields) fields) (sym (source_fields-ops_of (function_names c.draft.functions) c.draft.decls)) (columns-below c.draft c.valids [] c.draft.decls h)

wider : (m n : ℕ) (ks : List ℕ) → m ≤ n → AllByRecursion (λ k. k < m) ks → AllByRecursion (λ k. k < n) ks
wider m n [] le h = tt
wider m n (k ∷ ks) le h = (omega (arith, le, h.0), wider m n ks le h.1)

-- A program has no more fields than a set can have.
few_in : (d : DraftData) → IsSpelledDraft d → d.fields ≤ MAX_FIELDS
few_in d s = omega (arith, s.few_fields, wide_limit d.version)

pub attributes-known : (c : CandidateData) (ops : List Op) → KeepsBefore (order_of NoAttribute) c → IsSpelledDraft c.draft → ops ≡ small_ops c.draft → AreAttributesKnown c ops
attributes-known c ops h s e =
    let below = columns_below c (h WrongField (omega arith)).0 in
    let same : source_fields (ops_of (function_names c.draft.functions) c.draft.decls) ≡ source_fields ops =
    sym (source_fields-small (ops_of (function_names c.draft.functions) c.draft.decls)) ∙ ap source_fields (sym e) in
    record {
      same = e;
      below = subst (λ (fields : List ℕ). AllByRecursion (λ k. k < MAX_FIELDS) fields) same
          (wider c.draft.fields MAX_FIELDS (source_fields (ops_of (function_names c.draft.functions) c.draft.decls)) (few_in c.draft s) below);
    }

-- ---- operators

abbrev IsOpDecl : DraftData → List WithFields → Decl → Type 0
IsOpDecl d v (Source name file columns) = Unit {0}
IsOpDecl d v (FunctionDecl number) = Unit {0}
IsOpDecl d v (OpDecl name kind function left right left_keys right_keys) =
    IsOperatorOf d.fields v (record { name = name; kind = kind; function = place_among function (function_names d.functions); left_keys = left_keys; right_keys = right_keys; file = []; columns = [] })
IsOpDecl d v (Sink input fields) = Unit {0}

op_rules : (d : DraftData) (v : List WithFields) → ((rule : ProgramRule) → Keeps rule d v) → KeepsOpRules d v
op_rules d v h = record {
  declared = (h Undeclared).0;
  once = (h DeclaredTwice).0;
  kinds_are = (h OtherKind).0;
  counts_are = (h OtherKeyCount).0;
  attributes = (h NoAttribute).0;
}

op_is : (c : CandidateData) (tree : PlanTree) (m : ℕ) (decl : Decl) → ((rule : ProgramRule) → Keeps rule c.draft c.valids) → IsWrittenPlan c.draft tree → AreValidated c.draft c.valids
    → IsSpelledIn c.draft.version decl → slice_get c.draft.decls m ≡ Some decl → IsOpDecl c.draft c.valids decl
op_is c tree m (Source name file columns) h w valid s at = tt
op_is c tree m (FunctionDecl number) h w valid s at = tt
op_is c tree m (OpDecl name kind function left right left_keys right_keys) h w valid s at =
    operator-is c.draft c.valids tree m name kind function left right left_keys right_keys (op_rules c.draft c.valids h) w valid (columns_below c (h WrongField).0) s.3 at
op_is c tree m (Sink input fields) h w valid s at = tt

all_from : {X : Type 0} (P : X → Type 0) (xs : List X) → ((m : ℕ) (x : X) → slice_get xs m ≡ Some x → P x) → AllByRecursion P xs
all_from P [] h = tt
all_from P (x ∷ xs) h = (h zero x refl, all_from P xs (λ m y e. h (suc m) y e))

op_decls : (c : CandidateData) (tree : PlanTree) → ((rule : ProgramRule) → Keeps rule c.draft c.valids) → IsWrittenPlan c.draft tree → AreValidated c.draft c.valids → IsSpelledDraft c.draft
    → AllByRecursion (IsOpDecl c.draft c.valids) c.draft.decls
op_decls c tree h w valid s =
    all_from (IsOpDecl c.draft c.valids) c.draft.decls
    (λ m decl at. op_is c tree m decl h w valid (AllByRecursion-slice_get (IsSpelledIn c.draft.version) c.draft.decls m decl (spelled c.draft.version 0 (length c.draft.functions) c.draft.decls s.declared) at) at)

ops_are : (d : DraftData) (v : List WithFields) (decls : List Decl) → AllByRecursion (IsOpDecl d v) decls → AllByRecursion (IsOpOf d.fields v) (ops_of (function_names d.functions) decls)
ops_are d v [] h = tt
ops_are d v (Source name file columns ∷ decls) h = (inl refl, ops_are d v decls h.1)
ops_are d v (FunctionDecl number ∷ decls) h = ops_are d v decls h.1
ops_are d v (OpDecl name kind function left right left_keys right_keys ∷ decls) h = (inr h.0, ops_are d v decls h.1)
ops_are d v (Sink input fields ∷ decls) h = ops_are d v decls h.1

small_is : (bound : ℕ) (keys : List ℕ) → bound ≤ MAX_FIELDS → AllByRecursion (λ k. k < bound) keys → small_keys keys ≡ keys
small_is bound [] le h = refl
small_is bound (k ∷ keys) le h =
    let small : nat_lt k MAX_FIELDS ≡ true = lt-ltb k MAX_FIELDS (omega (arith, le, h.0)) in
    let first : small_keys (k ∷ keys) ≡ k ∷ small_keys keys = rw small refl in
    first ∙ ap (λ (ks : List ℕ). k ∷ ks) (small_is bound keys le h.1)

small_same : (d : DraftData) (v : List WithFields) (decls : List Decl) → d.fields ≤ MAX_FIELDS → AllByRecursion (IsOpDecl d v) decls
    → map with_small_keys (ops_of (function_names d.functions) decls) ≡ ops_of (function_names d.functions) decls
small_same d v [] le h = refl
small_same d v (Source name file columns ∷ decls) le h =
    let source : Op = record { name = name; kind = SourceKind; function = 0; left_keys = []; right_keys = []; file = file; columns = columns } in
    ap (λ (ops : List Op). source ∷ ops) (small_same d v decls le h.1)
small_same d v (FunctionDecl number ∷ decls) le h = small_same d v decls le h.1
small_same d v (OpDecl name kind function left right left_keys right_keys ∷ decls) le h =
    let rest = small_same d v decls le h.1 in
    let first = small_is d.fields left_keys le h.0.left_below in
    let second = small_is d.fields right_keys le h.0.right_below in
    λ i. record { name = name; kind = kind; function = place_among function (function_names d.functions); left_keys = first i; right_keys = second i; file = []; columns = [] } ∷ rest i
small_same d v (Sink input fields ∷ decls) le h = small_same d v decls le h.1

-- ---- the program

abbrev pub program : CandidateData → List Op → PlanTree → List ℕ → ProgramData
program c ops tree sink = record { version = c.draft.version; fields = c.draft.fields; functions = c.valids; ops = ops; plan = tree; sink = sink }

pub is-program_of : (c : CandidateData) (ops : List Op) (tree : PlanTree) (sink : List ℕ) → KeepsBefore (order_of SharedAttribute + 1) c → IsSpelledDraft c.draft → AreValidated c.draft c.valids
    → ops ≡ small_ops c.draft → IsWrittenPlan c.draft tree → sink ≡ sink_fields c.draft.decls → IsProgramOf c.draft c.valids (program c ops tree sink)
is-program_of c ops tree sink h s valid e w told = record {
  version = refl;
  fields = refl;
  functions = refl;
  ops = e ∙ small_same c.draft c.valids c.draft.decls (few_in c.draft s) (op_decls c tree (keeps-all c h) w valid s);
  plan = w;
  sink = told;
}

made : (c : CandidateData) (tree : PlanTree) → ((rule : ProgramRule) → Keeps rule c.draft c.valids) → IsSpelledDraft c.draft → AreValidated c.draft c.valids → IsWrittenPlan c.draft tree
    → IsProgram (program c (ops_of (function_names c.draft.functions) c.draft.decls) tree (sink_fields c.draft.decls))
made c tree h s valid w =
    let d = c.draft in
    let v = c.valids in
    let columns = source_fields-ops_of (function_names d.functions) d.decls in
    let sinks = eqb-true (length (sink_inputs d.decls)) 1 (not-false _ ((h NoSingleSink).1 refl)) in
    record {
      few_functions = omega (arith, few-functions d v s.declared (h TooMany).0, ap length valid.functions, length-map v (λ (w : WithFields). w.function));
      few_operators = few-operators d v (function_names d.functions) (h TooMany).0;
      few_pairs = few-pairs d v (function_names d.functions) (h TooMany).0;
      version = s.version;
      some_field = s.some_field;
      few_fields = s.few_fields;
      functions = valid.fields;
      valid = valid.valid;
      ops = ops_are d v d.decls (op_decls c tree h w valid s);
      plan = plan-of d v tree w (h DeclaredTwice).0 (h SharedAttribute).0;
      columns_different = subst AreDifferent (sym columns) (columns-different d v (h WrongField).0);
      columns_below = columns_below c (h WrongField).0;
      sink = sink-is d v 0 (length d.functions) [] d.decls s.declared (h WrongField).0 (omega (arith, sinks));
    }

pub is-program : (c : CandidateData) (p : ProgramData) → ((rule : ProgramRule) → Keeps rule c.draft c.valids) → IsSpelledDraft c.draft → AreValidated c.draft c.valids → IsProgramOf c.draft c.valids p → IsProgram p
is-program c p h s valid is =
    let same : program c (ops_of (function_names c.draft.functions) c.draft.decls) p.plan (sink_fields c.draft.decls) ≡ p =
    λ i. record { version = sym is.version i; fields = sym is.fields i; functions = sym is.functions i; ops = sym is.ops i; plan = p.plan; sink = sym is.sink i } in
    subst IsProgram same (made c p.plan h s valid is.plan)
