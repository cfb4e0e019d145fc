-- Attributes of the inputs of operators, for sources and operators whose keys may still be too large.
use Rattle.std.proofs.Common.{◌≡◌, ◌⊎◌, ◌↔◌, ◌&&◌, not, Option, Some, None, inl, inr, ℕ, zero, suc, Bool, true, false, IsTrue, List, [], ◌∷◌, map, refl, subst, sym, ◌∙◌}
use Rattle.std.specs.List.{list_any}
use Rattle.std.specs.Option.{IfNone, IfSome, is_some}
use Rattle.std.proofs.lemmas.Bool.{cases_Bool, or_cases, or_left, or_right, both_ways, and_from, and_parts, not-true, not_from_false}
use Rattle.pact_record.specs.FieldSets.{has_field, IsEmpty, IsLeast}
use Rattle.tac_syntax.specs.Valid.{WithFields}
use Rattle.tac_syntax.specs.declared.declarations.OpKind.{OpKind}
use Rattle.tac_syntax.specs.declared.declarations.OpKind.TheVariants.{Source, Map, Reduce, Match, Cross, CoGroup}
use Rattle.pact_operators.specs.declared.operators.Op.{Op}
use Rattle.plan_trees.specs.declared.plans.Parts.{Parts}
use Rattle.plan_trees.specs.declared.plans.Parts.TheVariants.{OverOne, OverTwo}
use Rattle.tac_syntax.specs.Drafts.{DraftData}
use Rattle.plan_trees.specs.PlanParts.{parts_of}
use Rattle.plan_trees.specs.Plans.{PlanTree, leaf, over, both}
use Rattle.program_check.specs.ProgramRules.{LacksKey, SidesLackKey, SidesShare}
use Rattle.pact_operators.specs.Programs.{HasAttribute, Owns, OwnsBy}
use Rattle.pact_operators.specs.Resolved.{function_names, ops_of}
use Rattle.program_check.specs.WrittenOps.{small_ops, with_small_keys}
use Rattle.plan_trees.proofs.RootParts.{is_both, is_over}

-- ---- attributes don't depend on keys

own_same : (kind : OpKind) (v : List WithFields) (op : Op) (k : ℕ) → OwnsBy kind v (with_small_keys op) k ↔ OwnsBy kind v op k
own_same Source v op k = (λ h. h, λ h. h)
own_same Map v op k = (λ h. h, λ h. h)
own_same Reduce v op k = (λ h. h, λ h. h)
own_same Match v op k = (λ h. h, λ h. h)
own_same Cross v op k = (λ h. h, λ h. h)
own_same CoGroup v op k = (λ h. h, λ h. h)

owns_same : (v : List WithFields) (ops : List Op) (n k : ℕ) → Owns v (map with_small_keys ops) n k ↔ Owns v ops n k
owns_same v [] n k = (λ h. h, λ h. h)
owns_same v (op ∷ ops) zero k = own_same op.kind v op k
owns_same v (op ∷ ops) (suc n) k = owns_same v ops n k

pub has_same : (v : List WithFields) (ops : List Op) (tree : PlanTree) (k : ℕ) → HasAttribute v (map with_small_keys ops) tree k ↔ HasAttribute v ops tree k
has_same v ops (leaf n) k = owns_same v ops n k
has_same v ops (over n t) k =
    let here = owns_same v ops n k in
    let below = has_same v ops t k in (
      λ h. elim h as (λ _. Owns v ops n k ⊎ HasAttribute v ops t k) [
        | inl o ↦ inl (here.0 o)
        | inr b ↦ inr (below.0 b)
      ],
      λ h. elim h as (λ _. Owns v (map with_small_keys ops) n k ⊎ HasAttribute v (map with_small_keys ops) t k) [
        | inl o ↦ inl (here.1 o)
        | inr b ↦ inr (below.1 b)
      ],
    )
has_same v ops (both n t u) k =
    let here = owns_same v ops n k in
    let left = has_same v ops t k in
    let right = has_same v ops u k in (
      λ h. elim h as (λ _. Owns v ops n k ⊎ HasAttribute v ops t k ⊎ HasAttribute v ops u k) [
        | inl o ↦ inl (here.0 o)
        | inr (inl b) ↦ inr (inl (left.0 b))
        | inr (inr b) ↦ inr (inr (right.0 b))
      ],
      λ h. elim h as (λ _. Owns v (map with_small_keys ops) n k ⊎ HasAttribute v (map with_small_keys ops) t k ⊎ HasAttribute v (map with_small_keys ops) u k) [
        | inl o ↦ inl (here.1 o)
        | inr (inl b) ↦ inr (inl (left.1 b))
        | inr (inr b) ↦ inr (inr (right.1 b))
      ],
    )

-- ---- sets of attributes

-- the set has the fields that are attributes of the tree
abbrev pub Attributes : DraftData → List WithFields → PlanTree → ℕ → Type 0
Attributes d v tree set = (k : ℕ) → IsTrue (has_field set k) ↔ HasAttribute v (ops_of (function_names d.functions) d.decls) tree k

pub attributes_by : (d : DraftData) (v : List WithFields) (valids : List WithFields) (ops : List Op) (tree : PlanTree) (set : ℕ) → valids ≡ v → ops ≡ small_ops d
    → ((k : ℕ) → IsTrue (has_field set k) ↔ HasAttribute valids ops tree k) → Attributes d v tree set
attributes_by d v valids ops tree set e f h k =
    let same = has_same v (ops_of (function_names d.functions) d.decls) tree k in
    let told : IsTrue (has_field set k) ↔ HasAttribute v (small_ops d) tree k =
    subst (λ (os : List Op). IsTrue (has_field set k) ↔ HasAttribute v os tree k) f (subst (λ (vs : List WithFields). IsTrue (has_field set k) ↔ HasAttribute vs ops tree k) e (h k)) in
    (λ t. same.0 (told.0 t), λ t. told.1 (same.1 t))

-- a key is absent from the set
lacks : (d : DraftData) (v : List WithFields) (tree : PlanTree) (set : ℕ) (keys : List ℕ) → Attributes d v tree set → list_any (λ k. not (has_field set k)) keys ≡ true → LacksKey d v tree keys
lacks d v tree set [] h e = both_ways false refl e
lacks d v tree set (k ∷ keys) h e = elim (or_cases (not (has_field set k)) (list_any (λ k. not (has_field set k)) keys) e) as (λ _. LacksKey d v tree (k ∷ keys)) [
  | inl absent ↦ inl (λ a. both_ways (has_field set k) (not-true (has_field set k) absent) ((h k).1 a))
  | inr later ↦ inr (lacks d v tree set keys h later)
]

lacked : (d : DraftData) (v : List WithFields) (tree : PlanTree) (set : ℕ) (keys : List ℕ) → Attributes d v tree set → LacksKey d v tree keys → list_any (λ k. not (has_field set k)) keys ≡ true
lacked d v tree set [] h l = absurd l
lacked d v tree set (k ∷ keys) h (inl absent) = elim (cases_Bool (has_field set k)) as (λ _. list_any (λ k. not (has_field set k)) (k ∷ keys) ≡ true) [
  | inl there ↦ absurd (absent ((h k).0 there))
  | inr none ↦ or_left (not (has_field set k)) _ (not_from_false (has_field set k) none)
]
lacked d v tree set (k ∷ keys) h (inr later) = or_right (not (has_field set k)) _ (lacked d v tree set keys h later)

-- ---- the inputs of a plan

pub one_side : (d : DraftData) (v : List WithFields) (s t : PlanTree) (n set : ℕ) (p : Parts) (left_keys right_keys : List ℕ) (r : Bool) → p ≡ parts_of s → p ≡ OverOne n t → Attributes d v t set
    → r ≡ list_any (λ k. not (has_field set k)) left_keys → IsTrue r ↔ SidesLackKey d v s left_keys right_keys
one_side d v s t n set p left_keys right_keys r e f h told =
    subst (λ (x : PlanTree). IsTrue r ↔ SidesLackKey d v x left_keys right_keys) (sym (is_over s t n (sym f ∙ e)))
    (λ i. lacks d v t set left_keys h (sym told ∙ i), λ l. told ∙ lacked d v t set left_keys h l)

pub left_side : (d : DraftData) (v : List WithFields) (s t u : PlanTree) (n set : ℕ) (p : Parts) (left_keys right_keys : List ℕ) (r : Bool) → p ≡ parts_of s → p ≡ OverTwo n t u → Attributes d v t set
    → r ≡ list_any (λ k. not (has_field set k)) left_keys → r ≡ true → SidesLackKey d v s left_keys right_keys
left_side d v s t u n set p left_keys right_keys r e f h told i =
    subst (λ (x : PlanTree). SidesLackKey d v x left_keys right_keys) (sym (is_both s t u n (sym f ∙ e))) (inl (lacks d v t set left_keys h (sym told ∙ i)))

pub right_side : (d : DraftData) (v : List WithFields) (s t u : PlanTree) (n set other : ℕ) (p : Parts) (left_keys right_keys : List ℕ) (q r : Bool) → p ≡ parts_of s → p ≡ OverTwo n t u
    → Attributes d v t set → Attributes d v u other → q ≡ list_any (λ k. not (has_field set k)) left_keys → q ≡ false → r ≡ list_any (λ k. not (has_field other k)) right_keys
    → IsTrue r ↔ SidesLackKey d v s left_keys right_keys
right_side d v s t u n set other p left_keys right_keys q r e f h g left none right =
    subst (λ (x : PlanTree). IsTrue r ↔ SidesLackKey d v x left_keys right_keys) (sym (is_both s t u n (sym f ∙ e))) (
      λ i. inr (lacks d v u other right_keys g (sym right ∙ i)),
      λ l. elim l as (λ _. r ≡ true) [
        | inl first ↦ absurd (both_ways q none (left ∙ lacked d v t set left_keys h first))
        | inr second ↦ right ∙ lacked d v u other right_keys g second
      ],
    )

-- ---- fields of both sides

share_by : (d : DraftData) (v : List WithFields) (t u : PlanTree) (n set other all : ℕ) (o : Option ℕ) → Attributes d v t set → Attributes d v u other
    → ((k : ℕ) → has_field all k ≡ (has_field set k && has_field other k)) → IfSome o (λ k. IsLeast all k) → IfNone o (IsEmpty all)
    → IsTrue (is_some o) ↔ SidesShare v (ops_of (function_names d.functions) d.decls) (both n t u)
share_by d v t u n set other all None h g meet least none = (
  λ i. absurd (both_ways false refl i),
  λ s. absurd (both_ways (has_field all s.0) (none s.0) (meet s.0 ∙ and_from (has_field set s.0) (has_field other s.0) ((h s.0).1 s.1) ((g s.0).1 s.2))),
)
share_by d v t u n set other all (Some k) h g meet least none =
    let parts = and_parts (has_field set k) (has_field other k) (sym (meet k) ∙ least.has) in
    (λ i. (k, (h k).0 parts.0, (g k).0 parts.1), λ s. refl)

pub shared_by : (d : DraftData) (v : List WithFields) (s t u : PlanTree) (n set other all : ℕ) (p : Parts) (o : Option ℕ) (r : Bool) → p ≡ parts_of s → p ≡ OverTwo n t u
    → Attributes d v t set → Attributes d v u other → ((k : ℕ) → has_field all k ≡ (has_field set k && has_field other k)) → IfSome o (λ k. IsLeast all k) → IfNone o (IsEmpty all)
    → r ≡ is_some o → IsTrue r ↔ SidesShare v (ops_of (function_names d.functions) d.decls) s
shared_by d v s t u n set other all p o r e f h g meet least none told =
    let there = share_by d v t u n set other all o h g meet least none in
    subst (λ (x : PlanTree). IsTrue r ↔ SidesShare v (ops_of (function_names d.functions) d.decls) x) (sym (is_both s t u n (sym f ∙ e))) (λ i. there.0 (sym told ∙ i), λ i. told ∙ there.1 i)
