-- The findings about an operator are true of its calls, in all that its inputs may hold in either of two trees.
use Rattle.std.proofs.Common.{◌≡◌, ◌<◌, ◌↔◌, ◌⊎◌, inl, inr, ℕ, zero, suc, List, [], ◌∷◌, Some, slice_get, refl, sym, subst}
use Rattle.std.specs.List.{AllByRecursion}
use Rattle.pact_record.specs.FieldSets.{has_field}
use Rattle.tac_syntax.specs.declared.contexts.Context.{Context}
use Rattle.tac_syntax.specs.declared.contexts.Side.{Side}
use Rattle.tac_syntax.specs.declared.functions.Kind.{Kind}
use Rattle.tac_syntax.specs.Call.{Out}
use Rattle.tac_syntax.specs.Code.{Code}
use Rattle.tac_syntax.specs.Contexts.{Has, IsContextOf, ports_of}
use Rattle.tac_syntax.specs.EmitBounds.{least_emits, most_emits}
use Rattle.tac_syntax.specs.Forms.{HasForm}
use Rattle.tac_syntax.specs.Valid.{WithFields}
use Rattle.tac_flow.specs.Results.{IsAnchoredOn, IsTouched}
use Rattle.tac_flow.specs.Views.{found_of, sets_in}
use Rattle.tac_flow.proofs.FoundSets.{answered_form, answered_left_keys, answered_right_keys}
use Rattle.tac_syntax.specs.declared.declarations.OpKind.{OpKind}
use Rattle.tac_syntax.specs.declared.declarations.OpKind.TheVariants.{Source, Map, Reduce, Match, Cross, CoGroup}
use Rattle.plan_trees.specs.Plans.{PlanTree, subtree_of}
use Rattle.pact_operators.specs.declared.operators.Op.{Op}
use Rattle.pact_operators.specs.Allowed.{Bag}
use Rattle.pact_operators.specs.PlanOps.{function_in, kind_at, left_keys_in, plan_ops, right_keys_in}
use Rattle.pact_operators.specs.Programs.{FunctionNames, HasLeftAttribute, HasRightAttribute, IsProgram, Owns, OwnsBy, ProgramData}
use Rattle.pact_operators.specs.SoundOps.{called, function_kind}
use Rattle.pact_operators.proofs.BelowFields.{AreOf}
use Rattle.pact_operators.proofs.PlanContexts.{keys-below, left-below, right-below, set-below}
use Rattle.pact_operators.proofs.SmallerContexts.{IsSmaller, form_in_smaller, form_of_ops}
use Rattle.pact_operators.proofs.CalledFunctions.{called_function, called_kind}
use Rattle.pact_operators.proofs.OwnFields.{names_of-some}
use Rattle.reorder_pair.specs.declared.finding.Found.{Found}
use Rattle.reorder_pair.specs.Places.{IsFound}
use Rattle.reorder_pair.proofs.PermittedExchanges.{AreSetsOf, UsedFields, joint}

-- the fields that an operator owns are named by its function
owned_is_named : (v : List WithFields) (ops : List Op) (n k : ℕ) → (kind_at ops n ≡ Source → ⊥) → Owns v ops n k → FunctionNames v (function_in (slice_get ops n)) k
owned_is_named v [] n k operator h = absurd h
owned_is_named v (op ∷ ops) zero k operator h = by op.kind refl h where
  by : (q : OpKind) → op.kind ≡ q → OwnsBy q v op k → FunctionNames v op.function k
  by Source e g = absurd (operator e)
  by Map e g = g
  by Reduce e g = g
  by Match e g = g
  by Cross e g = g
  by CoGroup e g = g
owned_is_named v (op ∷ ops) (suc n) k operator h = owned_is_named v ops n k operator h

-- ---- the findings, by the trees whose root is the operator

pub record IsFoundIn (p : ProgramData) (n : ℕ) (one other : PlanTree) (s : Found) : Type 0 where
  pub context : Context
  pub left : (k : ℕ) → Has (has_field context.left) k ↔ (HasLeftAttribute p.functions p.ops one k ⊎ HasLeftAttribute p.functions p.ops other k)
  pub right : (k : ℕ) → Has (has_field context.right) k ↔ (HasRightAttribute p.functions p.ops one k ⊎ HasRightAttribute p.functions p.ops other k)
  pub left_keys : context.left_keys ≡ left_keys_in (slice_get p.ops n)
  pub right_keys : context.right_keys ≡ right_keys_in (slice_get p.ops n)
  pub function : WithFields
  pub function_is : slice_get p.functions (function_in (slice_get p.ops n)) ≡ Some function
  pub sets : found_of s.sets ≡ sets_in function context
  pub touched : (k : ℕ) → Has (has_field s.sets.touched) k ↔ IsTouched (found_of s.sets) function.fields function.function.body k
  pub least : s.lo ≡ least_emits function.function.body
  pub most : s.hi ≡ most_emits function.function.body

abbrev AreEither : (ℕ → Type 0) → (ℕ → Type 0) → (ℕ → Type 0) → Type 0
AreEither s t u = (k : ℕ) → s k ↔ (t k ⊎ u k)

pub found_in : (p : ProgramData) (n : ℕ) (before after one other : PlanTree) (s : Found) → subtree_of n before ≡ one → subtree_of n after ≡ other → IsFound p n before after s → IsFoundIn p n one other s
found_in p n before after one other s e g h = record {
  context = h.context;
  left = subst (λ (t : PlanTree). AreEither (Has (has_field h.context.left)) (HasLeftAttribute p.functions p.ops one) (HasLeftAttribute p.functions p.ops t)) g
      (subst (λ (t : PlanTree). AreEither (Has (has_field h.context.left)) (HasLeftAttribute p.functions p.ops t) (HasLeftAttribute p.functions p.ops (subtree_of n after))) e h.union.left);
  right = subst (λ (t : PlanTree). AreEither (Has (has_field h.context.right)) (HasRightAttribute p.functions p.ops one) (HasRightAttribute p.functions p.ops t)) g
      (subst (λ (t : PlanTree). AreEither (Has (has_field h.context.right)) (HasRightAttribute p.functions p.ops t) (HasRightAttribute p.functions p.ops (subtree_of n after))) e h.union.right);
  left_keys = h.union.left_keys;
  right_keys = h.union.right_keys;
  function = h.found.called;
  function_is = h.found.function;
  sets = h.found.sets;
  touched = h.found.touched;
  least = h.found.least;
  most = h.found.most;
}

crossed : {A B : Type 0} → A ⊎ B → B ⊎ A
crossed (inl a) = inr a
crossed (inr b) = inl b

pub found_turned : (p : ProgramData) (n : ℕ) (one other : PlanTree) (s : Found) → IsFoundIn p n one other s → IsFoundIn p n other one s
found_turned p n one other s h = record {
  context = h.context;
  left = λ k. ((λ a. crossed ((h.left k).0 a)), (λ a. (h.left k).1 (crossed a)));
  right = λ k. ((λ a. crossed ((h.right k).0 a)), (λ a. (h.right k).1 (crossed a)));
  left_keys = h.left_keys;
  right_keys = h.right_keys;
  function = h.function;
  function_is = h.function_is;
  sets = h.sets;
  touched = h.touched;
  least = h.least;
  most = h.most;
}

abbrev pub used_in : Found → UsedFields
used_in s = record { reads = has_field s.sets.reads; writes = has_field s.sets.writes; touched = has_field s.sets.touched }

module _ (p : ProgramData) (program : IsProgram p) (n : ℕ) (one other : PlanTree) (s : Found) (h : IsFoundIn p n one other s) where
  pub smaller : (inputs : List Bag) → IsSmaller (joint p.functions p.ops (plan_ops p inputs) n one other) (ports_of h.context)
  smaller inputs = record {
    left = λ k out a. out ((h.left k).1 a);
    right = λ k out a. out ((h.right k).1 a);
    left_keys = sym h.left_keys;
    right_keys = sym h.right_keys;
    apart = λ apart k l r. apart k ((h.left k).0 l) ((h.right k).0 r);
  }

  pub of_fields : (kind_at p.ops n ≡ Source → ⊥) → IsContextOf p.fields h.context
  of_fields operator =
      let valid : AreOf p.fields p.functions = record { same = program.functions; valid = program.valid } in
      let keys = keys-below p.fields p.functions p.ops n program.ops operator in
      record {
        left = set-below p.fields h.context.left (λ k e. elim ((h.left k).0 e) as (λ _. k < p.fields) [
          | inl a ↦ left-below p.fields p.functions p.ops one k valid program.columns_below a
          | inr a ↦ left-below p.fields p.functions p.ops other k valid program.columns_below a
        ]);
        right = set-below p.fields h.context.right (λ k e. elim ((h.right k).0 e) as (λ _. k < p.fields) [
          | inl a ↦ right-below p.fields p.functions p.ops one k valid program.columns_below a
          | inr a ↦ right-below p.fields p.functions p.ops other k valid program.columns_below a
        ]);
        left_keys = subst (AllByRecursion (λ k. k < p.fields)) (sym h.left_keys) keys.0;
        right_keys = subst (AllByRecursion (λ k. k < p.fields)) (sym h.right_keys) keys.1;
      }

  pub owned_touched : (kind_at p.ops n ≡ Source → ⊥) → (k : ℕ) → Owns p.functions p.ops n k → Has (has_field s.sets.touched) k
  owned_touched operator k own =
      (h.touched k).1 (inr (inr ((names_of-some p.functions (function_in (slice_get p.ops n)) k h.function h.function_is).0 (owned_is_named p.functions p.ops n k operator own))))

  pub sets_found : (inputs : List Bag) (side : Side) → (kind_at p.ops n ≡ Source → ⊥) → IsAnchoredOn (function_kind (kind_at p.ops n)) side (found_of s.sets)
      → AreSetsOf p.fields p.functions p.ops (plan_ops p inputs) n (joint p.functions p.ops (plan_ops p inputs) n one other) side (used_in s)
  sets_found inputs side operator on =
      let f = h.function in
      let found = called_function p program n f operator h.function_is in
      let c = found.1 in
      let is_kind = called_kind p n found.0 f c in
      let kind = function_kind (kind_at p.ops n) in
      let D = ports_of h.context in
      let reads = has_field s.sets.reads in
      let writes = has_field s.sets.writes in
      let fields = subst (λ (k : ℕ). IsContextOf k h.context) (sym c.fields) (of_fields operator) in
      let form = answered_form f c.valid h.context fields (found_of s.sets) h.sets side (subst (λ (k : Kind). IsAnchoredOn k side (found_of s.sets)) (sym is_kind) on) in
      let of_kind = subst (λ (k : Kind). HasForm k f.fields D reads writes side (Out f.fields f.function.body)) is_kind form in
      let of_program = subst (λ (k : ℕ). HasForm kind k D reads writes side (Out k f.function.body)) c.fields of_kind in
      let of_body = subst (λ (b : Code). HasForm kind p.fields D reads writes side (Out p.fields b)) c.body of_program in
      record {
        form = form_in_smaller kind p.fields (joint p.functions p.ops (plan_ops p inputs) n one other) D reads writes side (called (plan_ops p inputs) n) (smaller inputs)
            (form_of_ops p inputs n kind D reads writes side of_body);
        left_keys = subst (AllByRecursion (Has reads)) h.left_keys (answered_left_keys f c.valid h.context fields (found_of s.sets) h.sets);
        right_keys = subst (AllByRecursion (Has reads)) h.right_keys (answered_right_keys f c.valid h.context fields (found_of s.sets) h.sets);
        reads = λ k is. (h.touched k).1 (inl is);
        writes = λ k is. (h.touched k).1 (inr (inl is));
        owned = owned_touched operator;
      }
