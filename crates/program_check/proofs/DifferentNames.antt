-- In a program no two sources or operators have the same name, and a text can spell each name.
use Rattle.std.proofs.Common.{◌≡◌, ◌≤◌, ◌<◌, ◌+◌, inl, inr, ℕ, zero, suc, true, List, [], ◌∷◌, map, length, slice_get, Some, IsTrue, nat_le, bytes_eq, refl, ap, sym, subst, ◌∙◌, arith}
use Rattle.std.proofs.lemmas.Bool.{cases_Bool, cases_lt}
use Rattle.std.proofs.lemmas.Bool.Decides.{nat_tests}
use Rattle.std.proofs.lemmas.Option.{same_Some}
use Rattle.std.specs.List.{AllByRecursion}
use Rattle.pact_record.proofs.Lists.{AllByRecursion-slice_get}
use Rattle.tac_syntax.specs.Names.{is_name}
use Rattle.tac_syntax.specs.declared.declarations.Decl.{Decl}
use Rattle.tac_syntax.specs.declared.declarations.Decl.TheVariants.{Source, Function as FunctionDecl, Op as OpDecl, Sink}
use Rattle.tac_syntax.specs.Drafts.{AreDeclared, DraftData, IsSpelledDraft}
use Rattle.tac_syntax.specs.Valid.{WithFields}
use Rattle.pact_operators.specs.declared.operators.Op.{Op}
use Rattle.program_check.specs.declared.program_rules.ProgramRule.TheVariants.{DeclaredTwice}
use Rattle.program_check.specs.ProgramRules.{Keeps, NoneBreaks}
use Rattle.pact_operators.specs.Programs.{AreNames, IsProgramOf, NamesDiffer, ProgramData}
use Rattle.pact_operators.specs.Resolved.{function_names, node_names, ops_of, times_among}
use Rattle.program_check.proofs.NamedInputs.{same_name, times_here, times_later}

-- ---- a name at two places occurs twice

never_less : (name n : List ℕ) (names : List (List ℕ)) → times_among name names ≤ times_among name (n ∷ names)
never_less name n names = elim (cases_Bool (bytes_eq name n)) as (λ _. times_among name names ≤ times_among name (n ∷ names)) [
  | inl e ↦ let t = times_here name n names e in omega (arith, t)
  | inr e ↦ let t = times_later name n names e in omega (arith, t)
]

first_counts : (name n : List ℕ) (names : List (List ℕ)) → n ≡ name → times_among name (n ∷ names) ≡ suc (times_among name names)
first_counts name n names e = times_here name n names (ap (bytes_eq name) e ∙ same_name name)

once : (names : List (List ℕ)) (i : ℕ) (name : List ℕ) → slice_get names i ≡ Some name → 1 ≤ times_among name names
once [] i name h = absurd (cc)
once (n ∷ names) zero name h = let t = first_counts name n names (same_Some n name h) in omega (arith, t)
once (n ∷ names) (suc i) name h = let later = once names i name h in let more = never_less name n names in omega (arith, later, more)

twice : (names : List (List ℕ)) (i j : ℕ) (name : List ℕ) → i < j → slice_get names i ≡ Some name → slice_get names j ≡ Some name → 2 ≤ times_among name names
twice [] i j name less h g = absurd (cc)
twice (n ∷ names) i zero name less h g = absurd (omega (arith, less))
twice (n ∷ names) zero (suc j) name less h g = let t = first_counts name n names (same_Some n name h) in let later = once names j name g in omega (arith, t, later)
twice (n ∷ names) (suc i) (suc j) name less h g =
    let later = twice names i j name (omega (arith, less)) h g in let more = never_less name n names in omega (arith, later, more)

-- ---- a declared name occurs once

module _ (d : DraftData) (v : List WithFields) where
  declared_once : (decls front : List Decl) → NoneBreaks DeclaredTwice d v front decls → (i : ℕ) (name : List ℕ) → slice_get (node_names decls) i ≡ Some name
      → nat_le 2 (times_among name (node_names d.decls)) ≡ true → ⊥
  declared_once [] front h i name e twice = cc
  declared_once (Source n file columns ∷ decls) front h zero name e twice =
      h.0 (ap (λ (x : List ℕ). nat_le 2 (times_among x (node_names d.decls))) (same_Some n name e) ∙ twice)
  declared_once (Source n file columns ∷ decls) front h (suc i) name e twice = declared_once decls _ h.1 i name e twice
  declared_once (FunctionDecl number ∷ decls) front h i name e twice = declared_once decls _ h.1 i name e twice
  declared_once (OpDecl n kind function left right left_keys right_keys ∷ decls) front h zero name e twice =
      h.0 (ap (λ (x : List ℕ). nat_le 2 (times_among x (node_names d.decls))) (same_Some n name e) ∙ twice)
  declared_once (OpDecl n kind function left right left_keys right_keys ∷ decls) front h (suc i) name e twice = declared_once decls _ h.1 i name e twice
  declared_once (Sink input fields ∷ decls) front h i name e twice = declared_once decls _ h.1 i name e twice

  one_place : Keeps DeclaredTwice d v → (i j : ℕ) (name : List ℕ) → slice_get (node_names d.decls) i ≡ Some name → slice_get (node_names d.decls) j ≡ Some name → i < j → ⊥
  one_place kept i j name h g less =
      let two = twice (node_names d.decls) i j name less h g in
      declared_once d.decls [] kept.0 i name h (grind (arith, nat_tests))

-- ---- those of the program

op_names : (functions : List (List ℕ)) (decls : List Decl) → map (λ (op : Op). op.name) (ops_of functions decls) ≡ node_names decls
op_names functions [] = refl
op_names functions (Source name file columns ∷ decls) = ap (λ names. name ∷ names) (op_names functions decls)
op_names functions (FunctionDecl number ∷ decls) = op_names functions decls
op_names functions (OpDecl name kind function left right left_keys right_keys ∷ decls) = ap (λ names. name ∷ names) (op_names functions decls)
op_names functions (Sink input fields ∷ decls) = op_names functions decls

named_at : (ops : List Op) (i : ℕ) (op : Op) → slice_get ops i ≡ Some op → slice_get (map (λ (o : Op). o.name) ops) i ≡ Some op.name
named_at [] i op h = absurd (cc)
named_at (o ∷ ops) zero op h = ap (λ (x : Op). Some x.name) (same_Some o op h)
named_at (o ∷ ops) (suc i) op h = named_at ops i op h

pub kept-NamesDiffer : (d : DraftData) (v : List WithFields) (p : ProgramData) → IsProgramOf d v p → Keeps DeclaredTwice d v → NamesDiffer p.ops
kept-NamesDiffer d v p program kept m n a b at_m at_n same =
    let names : map (λ (op : Op). op.name) p.ops ≡ node_names d.decls = ap (map (λ (op : Op). op.name)) program.ops ∙ op_names (function_names d.functions) d.decls in
    let first : slice_get (node_names d.decls) m ≡ Some a.name = subst (λ (ns : List (List ℕ)). slice_get ns m ≡ Some a.name) names (named_at p.ops m a at_m) in
    let second : slice_get (node_names d.decls) n ≡ Some a.name = subst (λ (ns : List (List ℕ)). slice_get ns n ≡ Some a.name) names (named_at p.ops n b at_n ∙ ap Some (sym same)) in
    elim (cases_lt m n) as (λ _. m ≡ n) [
      | inl less ↦ absurd (one_place d v kept m n a.name first second less)
      | inr most ↦ elim (cases_lt n m) as (λ _. m ≡ n) [
        | inl less ↦ absurd (one_place d v kept n m a.name second first less)
        | inr least ↦ omega (arith, most, least)
      ]
    ]

-- ---- their bytes

names_spelled : (version : ℕ) (functions : List (List ℕ)) (n count : ℕ) (decls : List Decl) → AreDeclared version n count decls → AllByRecursion (λ op. IsTrue (is_name op.name)) (ops_of functions decls)
names_spelled version functions n count [] h = tt
names_spelled version functions n count (Source name file columns ∷ decls) h = (h.0.0, names_spelled version functions n count decls h.1)
names_spelled version functions n count (FunctionDecl number ∷ decls) h = names_spelled version functions (n + 1) count decls h.1
names_spelled version functions n count (OpDecl name kind function left right left_keys right_keys ∷ decls) h = (h.0.0, names_spelled version functions n count decls h.1)
names_spelled version functions n count (Sink input fields ∷ decls) h = names_spelled version functions n count decls h.1

pub spelled-AreNames : (d : DraftData) (v : List WithFields) (p : ProgramData) → IsProgramOf d v p → IsSpelledDraft d → AreNames p.ops
spelled-AreNames d v p program h n op at_n =
    AllByRecursion-slice_get (λ o. IsTrue (is_name o.name)) (ops_of (function_names d.functions) d.decls) n op (names_spelled d.version (function_names d.functions) 0 (length d.functions) d.decls h.declared)
    (subst (λ (ops : List Op). slice_get ops n ≡ Some op) program.ops at_n)
