-- The ports of an operator, its function, and the parts of these that an instance keeps.
use Rattle.std.proofs.Common.{◌≡◌, ◌<◌, ◌==◌, ◌||◌, ℕ, Bool, true, Option, Some, List, length, get_or, slice_get, refl, ap, sym, ◌∙◌, subst}
use Rattle.std.proofs.lemmas.Bool.{or_right}
use Rattle.std.proofs.lemmas.Option.{slice_get_read, slice_get_within}
use Rattle.pact_operators.specs.PlanOps.{kind_at, kind_in, left_keys_in, right_keys_in}
use Rattle.pact_operators.specs.Programs.{HasArity, HasKeyLists, IsKindFor, IsProgram, ProgramData, Takes}
use Rattle.pact_operators.proofs.CalledFunctions.{is_called}
use Rattle.pact_record.specs.Widths.{AreBelow}
use Rattle.plan_trees.proofs.InPlace.{GoesDown, down}
use Rattle.plan_trees.proofs.RootParts.{is_both, is_over}
use Rattle.plan_trees.proofs.SubtreesOfPlans.{has-root, root_of-subtree}
use Rattle.plan_trees.specs.PlanParts.{parts_of}
use Rattle.plan_trees.specs.Plans.{PlanTree, leaf, over, both, has, root_of, subtree_of}
use Rattle.plan_trees.specs.declared.plans.Parts.TheVariants.{OverOne, OverTwo}
use Rattle.tac_syntax.specs.Valid.{WithFields}
use Rattle.tac_syntax.specs.declared.declarations.OpKind.{OpKind}
use Rattle.tac_syntax.specs.declared.declarations.OpKind.TheVariants.{Source}
use Rattle.pact_operators.specs.declared.operators.Op.{Op}
use Rattle.flow_instance.specs.Starting.{IsFunctionAt}

-- ---- ports

-- every number of a subtree is a number of the tree
inside : (t : PlanTree) → GoesDown (λ u. (m : ℕ) → has m u ≡ true → has m t ≡ true)
inside t = record {
  of_one = λ n u h m e. h m (or_right (m == n) (has m u) e);
  of_left = λ n u v h m e. h m (or_right (m == n) (has m u || has m v) (ap (λ (b : Bool). b || has m v) e));
  of_right = λ n u v h m e. h m (or_right (m == n) (has m u || has m v) (or_right (has m u) (has m v) e));
}

pub has-below : (at m : ℕ) (t : PlanTree) → has m (subtree_of at t) ≡ true → has m t ≡ true
has-below at m t h = down (λ u. (k : ℕ) → has k u ≡ true → has k t ≡ true) (inside t) at t (λ k e. e) m h

pub has_input : (at n : ℕ) (t s u : PlanTree) → s ≡ subtree_of at t → OverOne n u ≡ parts_of s → has (root_of u) t ≡ true
has_input at n t s u e o =
    has-below at (root_of u) t (ap (has (root_of u)) (sym e ∙ is_over s u n o) ∙ or_right (root_of u == n) (has (root_of u) u) (has-root u))

pub has_left : (at n : ℕ) (t s u v : PlanTree) → s ≡ subtree_of at t → OverTwo n u v ≡ parts_of s → has (root_of u) t ≡ true
has_left at n t s u v e o =
    has-below at (root_of u) t (ap (has (root_of u)) (sym e ∙ is_both s u v n o) ∙ or_right (root_of u == n) (has (root_of u) u || has (root_of u) v) (ap (λ (b : Bool). b || has (root_of u) v) (has-root u)))

pub has_right : (at n : ℕ) (t s u v : PlanTree) → s ≡ subtree_of at t → OverTwo n u v ≡ parts_of s → has (root_of v) t ≡ true
has_right at n t s u v e o =
    has-below at (root_of v) t (ap (has (root_of v)) (sym e ∙ is_both s u v n o) ∙ or_right (root_of v == n) (has (root_of v) u || has (root_of v) v) (or_right (has (root_of v) u) (has (root_of v) v) (has-root v)))

-- ---- the number of an operator

takes_below : (ops : List Op) (t : PlanTree) → HasArity ops t → (count : ℕ) × Takes ops (root_of t) count
takes_below ops (leaf n) h = (0, h)
takes_below ops (over n t) h = (1, h.0)
takes_below ops (both n t u) h = (2, h.0)

arity_down : (ops : List Op) → GoesDown (HasArity ops)
arity_down ops = record { of_one = λ n t h. h.1; of_left = λ n t u h. h.1; of_right = λ n t u h. h.2 }

pub arity_at : (ops : List Op) (at : ℕ) (t : PlanTree) → HasArity ops t → HasArity ops (subtree_of at t)
arity_at ops at t h = down (HasArity ops) (arity_down ops) at t h

pub number_below : (ops : List Op) (at : ℕ) (t : PlanTree) → has at t ≡ true → HasArity ops t → at < length ops
number_below ops at t h a =
    let takes = takes_below ops (subtree_of at t) (arity_at ops at t a) in
    subst (λ (n : ℕ). n < length ops) (root_of-subtree at t h) (slice_get_within ops (root_of (subtree_of at t)) takes.1.0 takes.1.1)

-- ---- its function

pub read_op : (p : ProgramData) (at : ℕ) (ops : List Op) (op : Op) → ops ≡ p.ops → at < length p.ops → op ≡ get_or ops at op → slice_get p.ops at ≡ Some op
read_op p at ops op e lt is = slice_get_read p.ops (length p.ops) at op refl lt (subst (λ (l : List Op). op ≡ get_or l at op) e is)

pub function_of : (p : ProgramData) (at : ℕ) (ops : List Op) (functions : List WithFields) (op : Op) (v copy : WithFields) → IsProgram p → ops ≡ p.ops → functions ≡ p.functions → at < length p.ops → op ≡ get_or ops at op → (op.kind ≡ Source → ⊥)
    → v ≡ get_or functions op.function v → copy ≡ v → IsFunctionAt p at copy
function_of p at ops functions op v copy program o f lt is operator function same =
    let found = read_op p at ops op o lt is in
    let kind : kind_at p.ops at ≡ op.kind = ap kind_in found in
    let called = is_called p program at op (λ source. operator (sym kind ∙ source)) (subst (λ (l : List Op). op ≡ get_or l at op) o is) v (subst (λ (l : List WithFields). v ≡ get_or l op.function v) f function) in
    subst (IsFunctionAt p at) (sym same) (record {
      fields = called.fields;
      body = called.body;
      kind = subst (λ (k : OpKind). IsKindFor k v.function.kind) (sym kind) called.kind;
      keys = subst (λ (o : Option Op). HasKeyLists (kind_in o) v.function.keys (left_keys_in o) (right_keys_in o)) (sym found) called.keys;
      left_below = subst (λ (o : Option Op). AreBelow p.fields (left_keys_in o)) (sym found) (subst (λ (n : ℕ). AreBelow n op.left_keys) called.fields called.left_below);
      right_below = subst (λ (o : Option Op). AreBelow p.fields (right_keys_in o)) (sym found) (subst (λ (n : ℕ). AreBelow n op.right_keys) called.fields called.right_below);
    })
