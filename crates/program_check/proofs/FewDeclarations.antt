-- The declarations of each sort, and the sources and operators that they declare, don't exceed their limits.
use Rattle.std.proofs.Common.{◌≡◌, ◌≤◌, ◌+◌, ◌++◌, ◌||◌, ◌&&◌, nat_le, inl, inr, ℕ, suc, Bool, false, List, [], ◌∷◌, length, ap, refl, subst, sym, arith, append_assoc, append-nil}
use Rattle.std.proofs.lemmas.Bool.{cases_Bool, and_cases, false_from_ne_true, leb-false, or_parts}
use Rattle.tac_syntax.specs.Valid.{WithFields}
use Rattle.tac_syntax.specs.declared.declarations.OpKind.TheVariants.{Source as SourceKind, Map, Reduce, Match, Cross, CoGroup}
use Rattle.tac_syntax.specs.declared.declarations.Decl.{Decl}
use Rattle.tac_syntax.specs.declared.declarations.Decl.TheVariants.{Source, Function as FunctionDecl, Op as OpDecl, Sink}
use Rattle.pact_operators.specs.declared.operators.Op.{Op}
use Rattle.program_check.specs.declared.program_rules.ProgramRule.TheVariants.{TooMany}
use Rattle.tac_syntax.specs.Drafts.{AreDeclared, DraftData}
use Rattle.program_check.specs.ProgramRules.{NoneBreaks, is_function, is_one_too_many, is_operator, is_pair, times_so}
use Rattle.pact_operators.specs.Programs.{function_limit, is_operator_kind, is_pair_kind, operator_limit, pair_limit, times_of_kind}
use Rattle.pact_operators.specs.Resolved.{node_names, ops_of, place_among}
use Rattle.program_check.proofs.FirstBreaks.{times-push}

-- ---- declarations

times-one : (test : Decl → Bool) (decl : Decl) → times_so test (decl ∷ []) ≤ 1
times-one test decl = elim (cases_Bool (test decl)) as (λ _. times_so test (decl ∷ []) ≤ 1) [
  | inl e ↦ rw e (omega arith)
  | inr e ↦ rw e (omega arith)
]

times-none : (test : Decl → Bool) (decl : Decl) → test decl ≡ false → times_so test (decl ∷ []) ≡ 0
times-none test decl e = rw e refl

one_more : (test : Decl → Bool) (limit : ℕ) (front : List Decl) (decl : Decl) → (test decl && nat_le limit (times_so test front)) ≡ false → times_so test front ≤ limit
    → times_so test (front ++ decl ∷ []) ≤ limit
one_more test limit front decl h le = elim (and_cases (test decl) (nat_le limit (times_so test front)) h) as (λ _. times_so test (front ++ decl ∷ []) ≤ limit) [
  | inl other ↦ omega (arith, le, times-push test front decl, times-none test decl other)
  | inr room ↦ omega (arith, leb-false limit (times_so test front) room, times-push test front decl, times-one test decl)
]

few_so : (test : Decl → Bool) (limit : ℕ) (d : DraftData) (v : List WithFields) (front decls : List Decl)
    → ((before : List Decl) (decl : Decl) → is_one_too_many before decl ≡ false → (test decl && nat_le limit (times_so test before)) ≡ false)
    → NoneBreaks TooMany d v front decls → times_so test front ≤ limit → times_so test (front ++ decls) ≤ limit
few_so test limit d v front [] only h le = subst (λ (ds : List Decl). times_so test ds ≤ limit) (sym (append-nil front)) le
few_so test limit d v front (decl ∷ decls) only h le =
    subst (λ (ds : List Decl). times_so test ds ≤ limit) (append_assoc front (decl ∷ []) decls)
    (few_so test limit d v (front ++ decl ∷ []) decls only h.1 (one_more test limit front decl (only front decl (false_from_ne_true _ h.0)) le))

-- the three tests of a declaration that isn't one too many
not_too_many : (before : List Decl) (decl : Decl) → is_one_too_many before decl ≡ false
    → ((is_function decl && nat_le function_limit (times_so is_function before)) ≡ false) × ((is_operator decl && nat_le operator_limit (times_so is_operator before)) ≡ false)
    × ((is_pair decl && nat_le pair_limit (times_so is_pair before)) ≡ false)
not_too_many before decl h =
    let function = is_function decl && nat_le function_limit (times_so is_function before) in
    let operator = is_operator decl && nat_le operator_limit (times_so is_operator before) in
    let pair = is_pair decl && nat_le pair_limit (times_so is_pair before) in
    let parts = or_parts (function || operator) pair h in
    let first = or_parts function operator parts.0 in (first.0, first.1, parts.1)

pub declared-operators : (d : DraftData) (v : List WithFields) → NoneBreaks TooMany d v [] d.decls → times_so is_operator d.decls ≤ operator_limit
declared-operators d v h = few_so is_operator operator_limit d v [] d.decls (λ before decl one. (not_too_many before decl one).1) h (omega arith)

functions_in : (version n count : ℕ) (decls : List Decl) → AreDeclared version n count decls → n + times_so is_function decls ≡ count
functions_in version n count [] h = omega (arith, h)
functions_in version n count (Source name file columns ∷ decls) h = functions_in version n count decls h.1
functions_in version n count (FunctionDecl number ∷ decls) h = omega (arith, functions_in version (n + 1) count decls h.1)
functions_in version n count (OpDecl name kind function left right left_keys right_keys ∷ decls) h = functions_in version n count decls h.1
functions_in version n count (Sink input fields ∷ decls) h = functions_in version n count decls h.1

pub few-functions : (d : DraftData) (v : List WithFields) → AreDeclared d.version 0 (length d.functions) d.decls → NoneBreaks TooMany d v [] d.decls → length d.functions ≤ function_limit
few-functions d v declared h =
    omega (arith, functions_in d.version 0 (length d.functions) d.decls declared, few_so is_function function_limit d v [] d.decls (λ before decl one. (not_too_many before decl one).0) h (omega arith))

-- ---- sources and operators

one_of_kind : (op : Op) (ops : List Op) → times_of_kind is_operator_kind (op ∷ ops) ≤ times_of_kind is_operator_kind ops + 1
one_of_kind op ops = elim (cases_Bool (is_operator_kind op.kind)) as (λ _. times_of_kind is_operator_kind (op ∷ ops) ≤ times_of_kind is_operator_kind ops + 1) [
  | inl t ↦ rw t (omega arith)
  | inr f ↦ rw f (omega arith)
]

operators_in : (functions : List (List ℕ)) (decls : List Decl) → times_of_kind is_operator_kind (ops_of functions decls) ≤ times_so is_operator decls
operators_in functions [] = omega arith
operators_in functions (Source name file columns ∷ decls) = operators_in functions decls
operators_in functions (FunctionDecl number ∷ decls) = operators_in functions decls
operators_in functions (OpDecl name kind function left right left_keys right_keys ∷ decls) =
    let op : Op = record { name = name; kind = kind; function = place_among function functions; left_keys = left_keys; right_keys = right_keys; file = []; columns = [] } in
    omega (arith, operators_in functions decls, one_of_kind op (ops_of functions decls))
operators_in functions (Sink input fields ∷ decls) = operators_in functions decls

pairs_in : (functions : List (List ℕ)) (decls : List Decl) → times_of_kind is_pair_kind (ops_of functions decls) ≡ times_so is_pair decls
pairs_in functions [] = refl
pairs_in functions (Source name file columns ∷ decls) = pairs_in functions decls
pairs_in functions (FunctionDecl number ∷ decls) = pairs_in functions decls
pairs_in functions (OpDecl name SourceKind function left right left_keys right_keys ∷ decls) = pairs_in functions decls
pairs_in functions (OpDecl name Map function left right left_keys right_keys ∷ decls) = pairs_in functions decls
pairs_in functions (OpDecl name Reduce function left right left_keys right_keys ∷ decls) = pairs_in functions decls
pairs_in functions (OpDecl name Match function left right left_keys right_keys ∷ decls) = ap suc (pairs_in functions decls)
pairs_in functions (OpDecl name Cross function left right left_keys right_keys ∷ decls) = ap suc (pairs_in functions decls)
pairs_in functions (OpDecl name CoGroup function left right left_keys right_keys ∷ decls) = pairs_in functions decls
pairs_in functions (Sink input fields ∷ decls) = pairs_in functions decls

pub few-operators : (d : DraftData) (v : List WithFields) (functions : List (List ℕ)) → NoneBreaks TooMany d v [] d.decls → times_of_kind is_operator_kind (ops_of functions d.decls) ≤ operator_limit
few-operators d v functions h = omega (arith, operators_in functions d.decls, declared-operators d v h)

pub few-pairs : (d : DraftData) (v : List WithFields) (functions : List (List ℕ)) → NoneBreaks TooMany d v [] d.decls → times_of_kind is_pair_kind (ops_of functions d.decls) ≤ pair_limit
few-pairs d v functions h = omega (arith, pairs_in functions d.decls, few_so is_pair pair_limit d v [] d.decls (λ before decl one. (not_too_many before decl one).2) h (omega arith))

pub length-ops_of : (functions : List (List ℕ)) (decls : List Decl) → length (ops_of functions decls) ≡ length (node_names decls)
length-ops_of functions [] = refl
length-ops_of functions (Source name file columns ∷ decls) = ap suc (length-ops_of functions decls)
length-ops_of functions (FunctionDecl number ∷ decls) = length-ops_of functions decls
length-ops_of functions (OpDecl name kind function left right left_keys right_keys ∷ decls) = ap suc (length-ops_of functions decls)
length-ops_of functions (Sink input fields ∷ decls) = length-ops_of functions decls
