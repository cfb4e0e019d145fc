-- The fields of columns and of the sink, if no declaration has a wrong one.
use Rattle.std.proofs.Common.{◌≡◌, ◌≤◌, ◌<◌, ◌+◌, ◌++◌, ◌==◌, nat_le, inl, inr, ℕ, true, false, List, [], ◌∷◌, length, map, refl, ap, arith}
use Rattle.std.specs.List.{AllByRecursion, list_any}
use Rattle.std.proofs.lemmas.Bool.{cases_Bool, eqb-false, eq-eqb, false_from_ne_true, leb-false, or_parts}
use Rattle.pact_record.proofs.Lists.{AllByRecursion-append}
use Rattle.tac_syntax.specs.Valid.{WithFields}
use Rattle.tac_syntax.specs.declared.declarations.Decl.{Decl}
use Rattle.tac_syntax.specs.declared.declarations.Decl.TheVariants.{Source, Function as FunctionDecl, Op as OpDecl, Sink}
use Rattle.pact_operators.specs.declared.operators.Op.{Op}
use Rattle.program_check.specs.declared.program_rules.ProgramRule.TheVariants.{WrongField}
use Rattle.plan_trees.specs.Distinct.{AreDifferent, IsAbsent}
use Rattle.tac_syntax.specs.Drafts.{AreDeclared, DraftData}
use Rattle.tac_syntax.specs.Versions.{field_limit}
use Rattle.program_check.specs.ProgramRules.{NoneBreaks, all_columns, column_fields, some_too_large, times_in}
use Rattle.pact_operators.specs.Programs.{IsFieldList, fields_of, source_fields}
use Rattle.pact_operators.specs.Resolved.{ops_of, sink_fields, sink_inputs}
use Rattle.program_check.specs.WrittenOps.{with_small_keys}

-- ---- the same columns

pub source_fields-ops_of : (functions : List (List ℕ)) (decls : List Decl) → source_fields (ops_of functions decls) ≡ all_columns decls
source_fields-ops_of functions [] = refl
source_fields-ops_of functions (Source name file columns ∷ decls) = ap (λ (fields : List ℕ). column_fields columns ++ fields) (source_fields-ops_of functions decls)
source_fields-ops_of functions (FunctionDecl number ∷ decls) = source_fields-ops_of functions decls
source_fields-ops_of functions (OpDecl name kind function left right left_keys right_keys ∷ decls) = source_fields-ops_of functions decls
source_fields-ops_of functions (Sink input fields ∷ decls) = source_fields-ops_of functions decls

pub source_fields-small : (ops : List Op) → source_fields (map with_small_keys ops) ≡ source_fields ops
source_fields-small [] = refl
source_fields-small (op ∷ ops) = ap (λ (fields : List ℕ). fields_of op.columns ++ fields) (source_fields-small ops)

-- ---- they are fields of the program

all_below : (bound : ℕ) (fields : List ℕ) → some_too_large bound fields ≡ false → AllByRecursion (λ k. k < bound) fields
all_below bound [] h = tt
all_below bound (k ∷ fields) h =
    let parts = or_parts (nat_le bound k) (some_too_large bound fields) h in
    (leb-false bound k parts.0, all_below bound fields parts.1)

pub columns-below : (d : DraftData) (v : List WithFields) (front decls : List Decl) → NoneBreaks WrongField d v front decls → AllByRecursion (λ k. k < d.fields) (all_columns decls)
columns-below d v front [] h = tt
columns-below d v front (Source name file columns ∷ decls) h =
    let parts = or_parts (list_any (λ k. nat_le 2 (times_in k (all_columns d.decls))) (column_fields columns)) (some_too_large d.fields (column_fields columns)) (false_from_ne_true _ h.0) in
    AllByRecursion-append (λ k. k < d.fields) (column_fields columns) (all_columns decls) (all_below d.fields (column_fields columns) parts.1) (columns-below d v (front ++ Source name file columns ∷ []) decls h.1)
columns-below d v front (FunctionDecl number ∷ decls) h = columns-below d v (front ++ FunctionDecl number ∷ []) decls h.1
columns-below d v front (OpDecl name kind function left right left_keys right_keys ∷ decls) h =
    columns-below d v (front ++ OpDecl name kind function left right left_keys right_keys ∷ []) decls h.1
columns-below d v front (Sink input fields ∷ decls) h = columns-below d v (front ++ Sink input fields ∷ []) decls h.1

-- ---- no two of them are one field

each_once : (all fields : List ℕ) → list_any (λ k. nat_le 2 (times_in k all)) fields ≡ false → AllByRecursion (λ k. times_in k all ≤ 1) fields
each_once all [] h = tt
each_once all (k ∷ fields) h =
    let parts = or_parts (nat_le 2 (times_in k all)) (list_any (λ k. nat_le 2 (times_in k all)) fields) h in
    let few = leb-false 2 (times_in k all) parts.0 in
    (omega arith, each_once all fields parts.1)

columns-once : (d : DraftData) (v : List WithFields) (front decls : List Decl) → NoneBreaks WrongField d v front decls → AllByRecursion (λ k. times_in k (all_columns d.decls) ≤ 1) (all_columns decls)
columns-once d v front [] h = tt
columns-once d v front (Source name file columns ∷ decls) h =
    let parts = or_parts (list_any (λ k. nat_le 2 (times_in k (all_columns d.decls))) (column_fields columns)) (some_too_large d.fields (column_fields columns)) (false_from_ne_true _ h.0) in
    AllByRecursion-append (λ k. times_in k (all_columns d.decls) ≤ 1) (column_fields columns) (all_columns decls) (each_once (all_columns d.decls) (column_fields columns) parts.0)
    (columns-once d v (front ++ Source name file columns ∷ []) decls h.1)
columns-once d v front (FunctionDecl number ∷ decls) h = columns-once d v (front ++ FunctionDecl number ∷ []) decls h.1
columns-once d v front (OpDecl name kind function left right left_keys right_keys ∷ decls) h =
    columns-once d v (front ++ OpDecl name kind function left right left_keys right_keys ∷ []) decls h.1
columns-once d v front (Sink input fields ∷ decls) h = columns-once d v (front ++ Sink input fields ∷ []) decls h.1

times_here : (k j : ℕ) (js : List ℕ) → (k == j) ≡ true → times_in k (j ∷ js) ≡ times_in k js + 1
times_here k j js e = rw e refl

times_later : (k j : ℕ) (js : List ℕ) → (k == j) ≡ false → times_in k (j ∷ js) ≡ times_in k js
times_later k j js e = rw e refl

times_grows : (k j : ℕ) (js : List ℕ) → times_in k js ≤ times_in k (j ∷ js)
times_grows k j js = elim (cases_Bool (k == j)) as (λ _. times_in k js ≤ times_in k (j ∷ js)) [
  | inl e ↦ omega (arith, times_here k j js e)
  | inr e ↦ omega (arith, times_later k j js e)
]

absent : (k : ℕ) (js : List ℕ) → times_in k js ≤ 0 → IsAbsent k js
absent k [] h = tt
absent k (j ∷ js) h = elim (cases_Bool (k == j)) as (λ _. IsAbsent k (j ∷ js)) [
  | inl e ↦ absurd (omega (arith, h, times_here k j js e))
  | inr e ↦ (eqb-false k j e, absent k js (omega (arith, h, times_later k j js e)))
]

different : (all js : List ℕ) → ((k : ℕ) → times_in k js ≤ times_in k all) → AllByRecursion (λ k. times_in k all ≤ 1) js → AreDifferent js
different all [] sub h = tt
different all (j ∷ js) sub h = (
  absent j js (omega (arith, h.0, sub j, times_here j j js (eq-eqb j j refl))),
  different all js (λ k. omega (arith, sub k, times_grows k j js)) h.1,
)

pub columns-different : (d : DraftData) (v : List WithFields) → NoneBreaks WrongField d v [] d.decls → AreDifferent (all_columns d.decls)
columns-different d v h = different (all_columns d.decls) (all_columns d.decls) (λ k. omega arith) (columns-once d v [] d.decls h)

-- ---- the sink

pub sink-is : (d : DraftData) (v : List WithFields) (n count : ℕ) (front decls : List Decl) → AreDeclared d.version n count decls → NoneBreaks WrongField d v front decls → 1 ≤ length (sink_inputs decls)
    → IsFieldList (field_limit d.version) d.fields (sink_fields decls)
sink-is d v n count front [] s h some = absurd (omega (arith, some))
sink-is d v n count front (Source name file columns ∷ decls) s h some = sink-is d v n count (front ++ Source name file columns ∷ []) decls s.1 h.1 some
sink-is d v n count front (FunctionDecl number ∷ decls) s h some = sink-is d v (n + 1) count (front ++ FunctionDecl number ∷ []) decls s.1 h.1 some
sink-is d v n count front (OpDecl name kind function left right left_keys right_keys ∷ decls) s h some =
    sink-is d v n count (front ++ OpDecl name kind function left right left_keys right_keys ∷ []) decls s.1 h.1 some
sink-is d v n count front (Sink input fields ∷ decls) s h some =
    let list = s.0.1 in
    record { some = list.some; few = list.few; below = all_below d.fields fields (false_from_ne_true _ h.0) }
