-- A plan with Maps that keep the needed fields has the same attributes as before, at each input.
use Rattle.std.proofs.Common.{◌≡◌, ◌<◌, ◌↔◌, inl, inr, ℕ, zero, suc, true, Option, Some, None, List, [], ◌∷◌, ◌++◌, length, slice_get, refl, ◌∙◌, arith}
use Rattle.std.proofs.lemmas.Bool.{false_from_ne_true}
use Rattle.std.proofs.lemmas.Option.{slice_get_within}
use Rattle.pact_record.proofs.Lists.{AllByRecursion-slice_get}
use Rattle.pact_record.proofs.Members.{same_tests}
use Rattle.tac_syntax.specs.declared.declarations.OpKind.{OpKind}
use Rattle.tac_syntax.specs.declared.declarations.OpKind.TheVariants.{Source, Map, Reduce, Match, Cross, CoGroup}
use Rattle.tac_syntax.specs.Contexts.{FieldSet, Has, IsBelow}
use Rattle.tac_syntax.specs.Valid.{WithFields}
use Rattle.plan_trees.specs.Plans.{PlanTree, leaf, over, both, root_of}
use Rattle.pact_operators.specs.declared.operators.Op.{Op}
use Rattle.pact_operators.specs.Programs.{FunctionNames, HasArity, HasAttribute, IsOpOf, IsProgram, Owns, OwnsBy, ProgramData}
use Rattle.pact_operators.proofs.BelowFields.{attribute-below}
use Rattle.pact_operators.proofs.OwnFields.{names_of-some, owned_at}
use Rattle.pact_operators.proofs.SourceKinds.{no_source}
use Rattle.ship_strategy.specs.PlanFacts.{attribute}
use Rattle.ship_strategy.proofs.PlanAttributes.{left_true}
use Rattle.prune_fields.specs.Insertions.{Cuts, capped, cuts_from, grown, keep_functions, keep_op, with_keeps}
use Rattle.prune_fields.specs.KeepFunctions.{keep_function}
use Rattle.prune_fields.proofs.KeepFunctions.{keep_names}
use Rattle.prune_fields.proofs.MoreOps.{new_at, same_op}
use Rattle.prune_fields.proofs.NeedsByEdge.{AreNeeds, IsNeededAt, is_attribute}

-- ---- attributes

pub attribute_has : (p : ProgramData) (t : PlanTree) (k : ℕ) → Has (attribute p t) k ↔ HasAttribute p.functions p.ops t k
attribute_has p t k = left_true p (over 0 t) k

pub attribute_below : (p : ProgramData) → IsProgram p → (t : PlanTree) → IsBelow p.fields (attribute p t)
attribute_below p program t k past =
    false_from_ne_true (attribute p t k) (λ e.
    let lt =
    attribute-below p.fields p.functions p.ops t k (record { same = program.functions; valid = program.valid }) program.columns_below
    ((attribute_has p t k).0 e) in absurd (omega (arith, past, lt)))

-- ---- functions that are appended to the program's

names_front : (v w : List WithFields) (n k : ℕ) → n < length v → FunctionNames (v ++ w) n k ↔ FunctionNames v n k
names_front [] w n k lt = absurd (omega (arith, lt))
names_front (x ∷ v) w zero k lt = (λ h. h, λ h. h)
names_front (x ∷ v) w (suc n) k lt = names_front v w n k (omega (arith, lt))

owns_front : (kind : OpKind) (v w : List WithFields) (op : Op) (k : ℕ) → ((kind ≡ Source → ⊥) → op.function < length v)
    → OwnsBy kind (v ++ w) op k ↔ OwnsBy kind v op k
owns_front Source v w op k lt = (λ h. h, λ h. h)
owns_front Map v w op k lt = names_front v w op.function k (lt (no_source Map refl))
owns_front Reduce v w op k lt = names_front v w op.function k (lt (no_source Reduce refl))
owns_front Match v w op k lt = names_front v w op.function k (lt (no_source Match refl))
owns_front Cross v w op k lt = names_front v w op.function k (lt (no_source Cross refl))
owns_front CoGroup v w op k lt = names_front v w op.function k (lt (no_source CoGroup refl))

-- ---- a program, and the program with the Maps

module _ (p : ProgramData) (program : IsProgram p) (tree : PlanTree) (needs : ℕ → FieldSet) (ns : List ℕ) where
  abbrev Q : ProgramData
  Q = with_keeps p tree needs ns

  abbrev Cut : Cuts
  Cut = cuts_from (length p.ops) ns

  function_below : (n : ℕ) (op : Op) → slice_get p.ops n ≡ Some op → (op.kind ≡ Source → ⊥) → op.function < length p.functions
  function_below n op e operator =
      elim (AllByRecursion-slice_get (IsOpOf p.fields p.functions) p.ops n op program.ops e) as (λ _. op.function < length p.functions) [
        | inl source ↦ absurd (operator source)
        | inr a ↦ slice_get_within p.functions op.function a.called a.function
      ]

  -- each number of the program owns the same attributes as before
  owned : (n k : ℕ) (op : Op) → slice_get p.ops n ≡ Some op → Owns Q.functions Q.ops n k ↔ Owns p.functions p.ops n k
  owned n k op e =
      let there = same_op p program [] tree needs ns n (slice_get_within p.ops n op e) ∙ e in
      let old = owned_at p.functions p.ops n k op e in
      let now = owned_at Q.functions Q.ops n k op there in
      let by = owns_front op.kind p.functions (keep_functions (length p.ops) p.fields needs ns) op k (function_below n op e) in (
        (λ h. old.1 (by.0 (now.0 h))),
        (λ h. now.1 (by.1 (old.0 h))),
      )

  new_owned : (n m k : ℕ) → Cut n ≡ Some m → Owns Q.functions Q.ops m k → needs n k ≡ true
  new_owned n m k e h =
      let a = new_at p program [] tree needs ns n m e in
      let f = keep_function m p.fields (needs n) in
      keep_names p.fields (needs n) k
      ((names_of-some Q.functions a.0 k f a.1.function).0 ((owned_at Q.functions Q.ops m k (keep_op m a.0) a.1.op).0 h))

  pub onto_has : (whole t : PlanTree) (k : ℕ) → IsNeededAt p needs whole t
      → (HasAttribute Q.functions Q.ops (grown Cut t) k → HasAttribute p.functions p.ops t k) → (c : Option ℕ) → Cut (root_of t) ≡ c
      → HasAttribute Q.functions Q.ops (capped c (grown Cut t)) k → HasAttribute p.functions p.ops t k
  onto_has whole t k needed below None e h = below h
  onto_has whole t k needed below (Some m) e h = elim h as (λ _. HasAttribute p.functions p.ops t k) [
    | inl own ↦ (attribute_has p t k).0 (is_attribute p needs whole t k needed (new_owned (root_of t) m k e own))
    | inr other ↦ below other
  ]

  pub grown_has : (t : PlanTree) → HasArity p.ops t → AreNeeds p needs t → (k : ℕ) → HasAttribute Q.functions Q.ops (grown Cut t) k
      → HasAttribute p.functions p.ops t k
  grown_has (leaf n) a d k h = (owned n k a.0 a.1).0 h
  grown_has (over n t) a d k h = elim h as (λ _. HasAttribute p.functions p.ops (over n t) k) [
    | inl own ↦ inl ((owned n k a.0.0 a.0.1).0 own)
    | inr in_t ↦ inr (onto_has (over n t) t k d.0 (grown_has t a.1 d.1 k) (Cut (root_of t)) refl in_t)
  ]
  grown_has (both n t u) a d k h = elim h as (λ _. HasAttribute p.functions p.ops (both n t u) k) [
    | inl own ↦ inl ((owned n k a.0.0 a.0.1).0 own)
    | inr (inl in_t) ↦ inr (inl (onto_has (both n t u) t k d.0 (grown_has t a.1 d.2 k) (Cut (root_of t)) refl in_t))
    | inr (inr in_u) ↦ inr (inr (onto_has (both n t u) u k d.1 (grown_has u a.2 d.3 k) (Cut (root_of u)) refl in_u))
  ]

  onto_keeps : (s : PlanTree) (k : ℕ) (c : Option ℕ) → HasAttribute Q.functions Q.ops s k → HasAttribute Q.functions Q.ops (capped c s) k
  onto_keeps s k None h = h
  onto_keeps s k (Some m) h = inr h

  grown_keeps : (t : PlanTree) → HasArity p.ops t → (k : ℕ) → HasAttribute p.functions p.ops t k → HasAttribute Q.functions Q.ops (grown Cut t) k
  grown_keeps (leaf n) a k h = (owned n k a.0 a.1).1 h
  grown_keeps (over n t) a k h = elim h as (λ _. HasAttribute Q.functions Q.ops (grown Cut (over n t)) k) [
    | inl own ↦ inl ((owned n k a.0.0 a.0.1).1 own)
    | inr in_t ↦ inr (onto_keeps (grown Cut t) k (Cut (root_of t)) (grown_keeps t a.1 k in_t))
  ]
  grown_keeps (both n t u) a k h = elim h as (λ _. HasAttribute Q.functions Q.ops (grown Cut (both n t u)) k) [
    | inl own ↦ inl ((owned n k a.0.0 a.0.1).1 own)
    | inr (inl in_t) ↦ inr (inl (onto_keeps (grown Cut t) k (Cut (root_of t)) (grown_keeps t a.1 k in_t)))
    | inr (inr in_u) ↦ inr (inr (onto_keeps (grown Cut u) k (Cut (root_of u)) (grown_keeps u a.2 k in_u)))
  ]

  -- an input has the same attributes as before
  pub onto_attribute : (whole t : PlanTree) → HasArity p.ops t → AreNeeds p needs t → IsNeededAt p needs whole t
      → attribute Q (capped (Cut (root_of t)) (grown Cut t)) ≡ attribute p t
  onto_attribute whole t a d needed =
      λ i k. same_tests (attribute Q (capped (Cut (root_of t)) (grown Cut t)) k) (attribute p t k)
      (λ e. (attribute_has p t k).1 (onto_has whole t k needed (grown_has t a d k) (Cut (root_of t)) refl
      ((attribute_has Q (capped (Cut (root_of t)) (grown Cut t)) k).0 e)))
      (λ e. (attribute_has Q (capped (Cut (root_of t)) (grown Cut t)) k).1
      (onto_keeps (grown Cut t) k (Cut (root_of t)) (grown_keeps t a k ((attribute_has p t k).0 e)))) i
