-- Each file that the work opens is the program's, or has the name of a file.
use Rattle.std.proofs.Common.{◌≡◌, ◌+◌, ◌⊎◌, inl, inr, ℕ, true, false, Bool, List, [], ◌∷◌, length, cond, Option, IsTrue, sym, subst, refl}
use Rattle.std.specs.List.{AllByRecursion}
use Rattle.tac_syntax.specs.declared.declarations.Decl.{Decl}
use Rattle.tac_syntax.specs.declared.declarations.Decl.TheVariants.{Source, Function, Op as OpDecl, Sink}
use Rattle.tac_syntax.specs.declared.declarations.OpKind.{OpKind}
use Rattle.tac_syntax.specs.declared.declarations.OpKind.TheVariants.{Source as SourceKind}
use Rattle.pact_operators.specs.declared.operators.Op.{Op}
use Rattle.tac_syntax.specs.Declarations.{HasInputs}
use Rattle.tac_syntax.specs.Drafts.{AreDeclared}
use Rattle.pact_operators.specs.PlanOps.{is_source_kind, sources_of}
use Rattle.pact_operators.specs.Programs.{ProgramData}
use Rattle.pact_operators.specs.Resolved.{function_names, ops_of}
use Rattle.pact_operators.proofs.SourceKinds.{source_kind}
use Rattle.pact_outside.specs.declared.files.NamedFile.{NamedFile}
use Rattle.pact_words.specs.Words.{Asked, IsAsked, to_certify, to_check, to_drill, to_generate, to_iterate, to_plan, to_run, to_tell_sets}
use Rattle.tac_syntax.specs.declared.functions.Function.{Function as FunctionValue}
use Rattle.tac_syntax.specs.Names.{is_file_name}
use Rattle.pact_top.specs.Refusal.{IsNamed, Names}
use Rattle.pact_load.specs.Stages.{CanEnd, each, gives, Reading}
use Rattle.pact_load.specs.Loading.{file, loaded, program_file, program_limit, source_file, source_limit, sources, valid}
use Rattle.pact_top.specs.Work.{certificate_limit, ready_for, repeated, work}
use Rattle.pact_load.proofs.MadePrograms.{program_made}
use Rattle.pact_load.proofs.StageLaws.{FailsSo, fails_plain, fails_then}

-- a source's file has a name that a program can give it
abbrev HasFileName : Op → Type 0
HasFileName op = op.kind ≡ SourceKind → IsTrue (is_file_name op.file)

no_source : (kind : OpKind) (right left_keys right_keys : List ℕ) → HasInputs kind right left_keys right_keys → kind ≡ SourceKind → ⊥
no_source kind right left_keys right_keys h e = subst (λ (k : OpKind). HasInputs k right left_keys right_keys) e h

names_in : (version : ℕ) (functions : List (List ℕ)) (n count : ℕ) (decls : List Decl) → AreDeclared version n count decls → AllByRecursion HasFileName (ops_of functions decls)
names_in version functions n count [] h = tt
names_in version functions n count (Source name file columns ∷ decls) h = ((λ _. h.0.1), names_in version functions n count decls h.1)
names_in version functions n count (Function number ∷ decls) h = names_in version functions (n + 1) count decls h.1
names_in version functions n count (OpDecl name kind function left right left_keys right_keys ∷ decls) h =
    ((λ e. absurd (no_source kind right left_keys right_keys h.0.3 e)), names_in version functions n count decls h.1)
names_in version functions n count (Sink input fields ∷ decls) h = names_in version functions n count decls h.1

sources_named : (ops : List Op) → AllByRecursion HasFileName ops → AllByRecursion (λ s. IsTrue (is_file_name s.file)) (sources_of ops)
sources_named [] h = tt
sources_named (op ∷ ops) h = one (is_source_kind op.kind) op (sources_of ops) (λ e. h.0 (source_kind op.kind e)) (sources_named ops h.1)
  where
    one : (b : Bool) (op : Op) (rest : List Op) → (b ≡ true → IsTrue (is_file_name op.file)) → AllByRecursion (λ s. IsTrue (is_file_name s.file)) rest → AllByRecursion (λ s. IsTrue (is_file_name s.file)) (cond b (op ∷ rest) rest)
    one true op rest h g = (h refl, g)
    one false op rest h g = g

file_sources_named : (files : Option (List NamedFile)) (name : List ℕ) (p : ProgramData) (r : List Reading) → (program_file files name).Ends r (gives p) → AllByRecursion HasFileName p.ops
file_sources_named files name p r h =
    let m = program_made files name p r h in
    let d = m.drafted in
    subst (AllByRecursion HasFileName) (sym m.from.program.ops) (names_in d.version (function_names d.functions) 0 (length d.functions) d.decls m.spelled.writable.spelled.declared)

-- ---- the names of the files that can't be read

file_fails : (P : List ℕ → Type 0) (files : Option (List NamedFile)) (name : List ℕ) (limit : ℕ) → P name → FailsSo P (file files name limit)
file_fails P files name limit h = record { so = λ other p e. subst P (sym e.1) h }

each_valid_fails : (P : List ℕ → Type 0) (fields : ℕ) (functions : List FunctionValue) → FailsSo P (each (valid fields) functions)
each_valid_fails P fields [] = fails_plain P _ _
each_valid_fails P fields (f ∷ functions) = fails_then P _ (fails_plain P _ _) (λ v _. fails_then P _ (each_valid_fails P fields functions) (λ vs _. fails_plain P _ _))

program_file_fails : (P : List ℕ → Type 0) (files : Option (List NamedFile)) (name : List ℕ) → P name → FailsSo P (program_file files name)
program_file_fails P files name h =
    fails_then P _ (file_fails P files name program_limit h)
    (λ text _. fails_then P _ (fails_plain P _ _) (λ d _. fails_then P _ (each_valid_fails P d.fields d.functions) (λ vs _. fails_plain P _ _)))

sources_fail : (P : List ℕ → Type 0) (fields : ℕ) (files : Option (List NamedFile)) (ops : List Op) → AllByRecursion (λ s. P s.file) ops → FailsSo P (each (source_file fields files) ops)
sources_fail P fields files [] h = fails_plain P _ _
sources_fail P fields files (s ∷ ops) h =
    fails_then P _ (fails_then P _ (file_fails P files s.file source_limit h.0) (λ bytes _. fails_plain P _ _))
    (λ rows _. fails_then P _ (sources_fail P fields files ops h.1) (λ all _. fails_plain P _ _))

-- the command names it, or it is a name that a program can have
abbrev NamedFor : Asked → List ℕ → Type 0
NamedFor asked name = Names asked name ⊎ IsTrue (is_file_name name)

may_name : (asked : Asked) (sources : List Op) → AllByRecursion (λ s. IsTrue (is_file_name s.file)) sources → AllByRecursion (λ s. NamedFor asked s.file) sources
may_name asked [] h = tt
may_name asked (s ∷ sources) h = (inr h.0, may_name asked sources h.1)

-- the sources of a file's program
own_sources_fail : (asked : Asked) (files : Option (List NamedFile)) (name : List ℕ) (p : ProgramData) → CanEnd (program_file files name) (gives p) → FailsSo (NamedFor asked) (sources p files)
own_sources_fail asked files name p given =
    sources_fail (NamedFor asked) p.fields files (sources_of p.ops) (may_name asked (sources_of p.ops) (sources_named p.ops (file_sources_named files name p given.readings given.ends)))

loaded_fails : (asked : Asked) (files : Option (List NamedFile)) (name : List ℕ) → NamedFor asked name → FailsSo (NamedFor asked) (loaded files name)
loaded_fails asked files name named =
    fails_then (NamedFor asked) _ (program_file_fails (NamedFor asked) files name named)
    (λ p given. fails_then (NamedFor asked) _ (own_sources_fail asked files name p given) (λ inputs _. fails_plain (NamedFor asked) _ _))

repeated_fails : (asked : Asked) (files : Option (List NamedFile)) (name source : List ℕ) → NamedFor asked name → FailsSo (NamedFor asked) (repeated files name source)
repeated_fails asked files name source named =
    fails_then (NamedFor asked) _ (program_file_fails (NamedFor asked) files name named)
    (λ p given. fails_then (NamedFor asked) _ (fails_plain (NamedFor asked) _ _)
    (λ at _. fails_then (NamedFor asked) _ (own_sources_fail asked files name p given) (λ inputs _. fails_plain (NamedFor asked) _ _)))

ready_for_fails : (files : Option (List NamedFile)) (asked : Asked) → FailsSo (NamedFor asked) (ready_for files asked)
ready_for_fails files (to_run name options rewrites counts) = fails_then (NamedFor (to_run name options rewrites counts)) _ (loaded_fails (to_run name options rewrites counts) files name (inl refl)) (λ l _. fails_plain (NamedFor (to_run name options rewrites counts)) _ _)
ready_for_fails files (to_plan name workers plans) = fails_then (NamedFor (to_plan name workers plans)) _ (loaded_fails (to_plan name workers plans) files name (inl refl)) (λ l _. fails_plain (NamedFor (to_plan name workers plans)) _ _)
ready_for_fails files (to_certify name workers plans) = fails_then (NamedFor (to_certify name workers plans)) _ (loaded_fails (to_certify name workers plans) files name (inl refl)) (λ l _. fails_plain (NamedFor (to_certify name workers plans)) _ _)
ready_for_fails files (to_tell_sets name) =
    fails_then (NamedFor (to_tell_sets name)) _ (program_file_fails (NamedFor (to_tell_sets name)) files name (inl refl)) (λ p _. fails_plain (NamedFor (to_tell_sets name)) _ _)
ready_for_fails files (to_check name other) =
    fails_then (NamedFor (to_check name other)) _
    (fails_then (NamedFor (to_check name other)) _ (program_file_fails (NamedFor (to_check name other)) files name (inl (inl refl)))
    (λ p _. fails_then (NamedFor (to_check name other)) _
    (fails_then (NamedFor (to_check name other)) _ (file_fails (NamedFor (to_check name other)) files other certificate_limit (inl (inr refl))) (λ text _. fails_plain (NamedFor (to_check name other)) _ _))
    (λ c _. fails_then (NamedFor (to_check name other)) _ (fails_plain (NamedFor (to_check name other)) _ _) (λ plan _. fails_plain (NamedFor (to_check name other)) _ _))))
    (λ a _. fails_plain (NamedFor (to_check name other)) _ _)
ready_for_fails files (to_generate seed rows) = fails_plain (NamedFor (to_generate seed rows)) _ _
ready_for_fails files (to_drill seed rows o rewrites) = fails_plain (NamedFor (to_drill seed rows o rewrites)) _ _
ready_for_fails files (to_iterate name source rounds o stable) =
    let asked = to_iterate name source rounds o stable in
    fails_then (NamedFor asked) _ (repeated_fails asked files name source (inl refl)) (λ r _. fails_plain (NamedFor asked) _ _)

pub work_fails : (words : List (List ℕ)) (files : Option (List NamedFile)) → FailsSo (IsNamed words) (work words files)
work_fails words files =
    fails_then (IsNamed words) _ (fails_plain (IsNamed words) _ _)
    (λ c asked. fails_then (IsNamed words) _ (record { so = λ name p e. named words c name asked.ends.1 ((ready_for_fails files c).so name p e) }) (λ r _. fails_plain (IsNamed words) _ _))
  where
    named : (words : List (List ℕ)) (c : Asked) (name : List ℕ) → IsAsked words c → NamedFor c name → IsNamed words name
    named words c name h (inl e) = inl (c, h, e)
    named words c name h (inr f) = inr f
