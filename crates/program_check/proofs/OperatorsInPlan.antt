-- Operators in the plan as written, and the rules about it.
use Rattle.std.proofs.Common.{◌≡◌, ◌≤◌, ◌<◌, ℕ, zero, suc, true, Some, None, List, [], ◌∷◌, get_or, length, slice_get, bytes_eq, refl, subst, sym, arith}
use Rattle.std.proofs.lemmas.Bool.{or_left, or_right}
use Rattle.std.proofs.lemmas.Option.{slice_get_read, slice_get_within}
use Rattle.tac_syntax.specs.declared.declarations.OpKind.{OpKind}
use Rattle.tac_syntax.specs.declared.declarations.Decl.{Decl}
use Rattle.tac_syntax.specs.declared.declarations.Decl.TheVariants.{Source, Function as FunctionDecl, Op as OpDecl, Sink}
use Rattle.program_check.specs.declared.program_rules.ProgramRule.{ProgramRule}
use Rattle.program_check.specs.declared.program_rules.ProgramRule.TheVariants.{NoAttribute, SharedAttribute}
use Rattle.program_check.specs.AttributeTests.{BreaksIn, HasPlace}
use Rattle.program_check.specs.Candidates.{CandidateData}
use Rattle.tac_syntax.specs.Drafts.{DraftData}
use Rattle.plan_trees.specs.Plans.{PlanTree}
use Rattle.program_check.specs.ProgramRules.{Breaks, LacksAttribute, SharesAttribute, order_of}
use Rattle.pact_operators.specs.Programs.{IsWrittenPlan}
use Rattle.pact_operators.specs.Resolved.{is_among, node_names, place_among}
use Rattle.pact_operators.proofs.OnePlan.{same_plan}
use Rattle.program_check.proofs.NamedInputs.{placed, same_name}

-- ---- an operator is in it

pub op_named : (decls : List Decl) (n : ℕ) (name : List ℕ) (kind : OpKind) (function left right left_keys right_keys : List ℕ)
    → slice_get decls n ≡ Some (OpDecl name kind function left right left_keys right_keys) → is_among name (node_names decls) ≡ true
op_named [] n name kind function left right left_keys right_keys e = let bad : None ≡ Some (OpDecl name kind function left right left_keys right_keys) = e in absurd cc
op_named (Source own file columns ∷ decls) zero name kind function left right left_keys right_keys e =
    let bad : Some (Source own file columns) ≡ Some (OpDecl name kind function left right left_keys right_keys) = e in absurd cc
op_named (Source own file columns ∷ decls) (suc n) name kind function left right left_keys right_keys e = or_right _ _ (op_named decls n name kind function left right left_keys right_keys e)
op_named (FunctionDecl number ∷ decls) zero name kind function left right left_keys right_keys e =
    let bad : Some (FunctionDecl number) ≡ Some (OpDecl name kind function left right left_keys right_keys) = e in absurd cc
op_named (FunctionDecl number ∷ decls) (suc n) name kind function left right left_keys right_keys e = op_named decls n name kind function left right left_keys right_keys e
op_named (OpDecl own k f l r lk rk ∷ decls) zero name kind function left right left_keys right_keys e =
    let here : Some (OpDecl own k f l r lk rk) ≡ Some (OpDecl name kind function left right left_keys right_keys) = e in
    let same : own ≡ name = cc in
    or_left _ _ (subst (λ (x : List ℕ). bytes_eq name x ≡ true) (sym same) (same_name name))
op_named (OpDecl own k f l r lk rk ∷ decls) (suc n) name kind function left right left_keys right_keys e = or_right _ _ (op_named decls n name kind function left right left_keys right_keys e)
op_named (Sink input fields ∷ decls) zero name kind function left right left_keys right_keys e =
    let bad : Some (Sink input fields) ≡ Some (OpDecl name kind function left right left_keys right_keys) = e in absurd cc
op_named (Sink input fields ∷ decls) (suc n) name kind function left right left_keys right_keys e = op_named decls n name kind function left right left_keys right_keys e

place_of : (d : DraftData) (tree : PlanTree) (n : ℕ) (decl : Decl) → IsWrittenPlan d tree → slice_get d.decls n ≡ Some decl → HasPlace d tree decl
place_of d tree n (Source name file columns) h e = tt
place_of d tree n (FunctionDecl number) h e = tt
place_of d tree n (OpDecl name kind function left right left_keys right_keys) h e =
    let there = placed name (node_names d.decls) (op_named d.decls n name kind function left right left_keys right_keys e) in
    h.all (place_among name (node_names d.decls)) (slice_get_within (node_names d.decls) (place_among name (node_names d.decls)) name there)
place_of d tree n (Sink input fields) h e = tt

pub has_place : (d : DraftData) (tree : PlanTree) (decls : List Decl) (n : ℕ) (decl : Decl) → IsWrittenPlan d tree → n < length decls → decl ≡ get_or decls n decl → decls ≡ d.decls → HasPlace d tree decl
has_place d tree decls n decl h lt e same =
    let there : slice_get decls n ≡ Some decl = slice_get_read decls (length decls) n decl refl lt e in
    place_of d tree n decl h (subst (λ (ds : List Decl). slice_get ds n ≡ Some decl) same there)

-- ---- the rules about it

pub broken-in : (rule : ProgramRule) (c : CandidateData) (tree : PlanTree) (front : List Decl) (decl : Decl) → IsWrittenPlan c.draft tree → BreaksIn rule c tree decl → Breaks rule c.draft c.valids front decl
broken-in NoAttribute c tree front decl h b = (tree, h, b)
broken-in SharedAttribute c tree front decl h b = (tree, h, b)
broken-in rule c tree front decl h b = absurd b

pub kept-in : (rule : ProgramRule) (c : CandidateData) (tree : PlanTree) (front : List Decl) (decl : Decl) → order_of NoAttribute ≤ order_of rule → IsWrittenPlan c.draft tree → ¬ BreaksIn rule c tree decl
    → ¬ Breaks rule c.draft c.valids front decl
kept-in NoAttribute c tree front decl late h k b = k (subst (λ (t : PlanTree). LacksAttribute c.draft c.valids t decl) (same_plan c.draft b.0 tree b.1 h) b.2)
kept-in SharedAttribute c tree front decl late h k b = k (subst (λ (t : PlanTree). SharesAttribute c.draft c.valids t decl) (same_plan c.draft b.0 tree b.1 h) b.2)
kept-in rule c tree front decl late h k b = omega (arith, late)
