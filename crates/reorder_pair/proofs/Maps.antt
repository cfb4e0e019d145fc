-- The calls of a Map, and the bags that a plan with a Map at its root allows.
use Rattle.std.proofs.Common.{◌≡◌, ◌⊎◌, inl, inr, ℕ, List, refl, sym, subst}
use Rattle.std.specs.Prelude.{flat_map}
use Rattle.pact_record.proofs.Permutations.{Perm, from_permutation, to_permutation}
use Rattle.tac_syntax.specs.declared.contexts.Side.{Side}
use Rattle.tac_syntax.specs.declared.contexts.Side.TheVariants.{Left as on_left}
use Rattle.tac_syntax.specs.declared.functions.Kind.TheVariants as kinds
use Rattle.tac_syntax.specs.Call.{of_record}
use Rattle.tac_syntax.specs.Contexts.{FieldSet, Ports}
use Rattle.tac_syntax.specs.Forms.{AreApart, HasForm, IsLawful, IsWithin}
use Rattle.tac_syntax.specs.Valid.{WithFields}
use Rattle.tac_syntax.specs.declared.declarations.OpKind.{OpKind}
use Rattle.tac_syntax.specs.declared.declarations.OpKind.TheVariants.{Map}
use Rattle.plan_trees.specs.Plans.{PlanTree, over}
use Rattle.pact_operators.specs.declared.operators.Op.{Op}
use Rattle.pact_operators.specs.Allowed.{Bag, Allows, Gives}
use Rattle.pact_operators.specs.PlanOps.{PlanOps}
use Rattle.pact_operators.specs.Programs.{Owns}
use Rattle.pact_operators.specs.SoundOps.{AreOpsOf, called, function_kind}
use Rattle.pact_operators.proofs.LawfulBags.{all_wide, map_fits}
use Rattle.reorder_pair.proofs.FunctionForms.{OneForm, Row, one_anchor}
use Rattle.reorder_pair.proofs.PermittedExchanges.{AreSetsOf, UsedFields, joint}

pub IsLawful-record : (fields : ℕ) (c : Ports) (r : Row) → AreApart c.left c.right → IsWithin fields c.left r → IsLawful kinds.Map fields c (of_record r)
IsLawful-record fields c r apart h = record { apart = apart; called = tt; some = tt; keyed = tt; left = (h, tt); right = tt }

module _ (fields : ℕ) (v : List WithFields) (ops : List Op) (o : PlanOps) (good : AreOpsOf fields v ops o) where
  pub map_form : (n : ℕ) (c : Ports) (side : Side) (R W : FieldSet) → o.kind n ≡ Map → AreApart c.left c.right → HasForm (function_kind (o.kind n)) fields c R W side (called o n)
      → OneForm fields c.left R W (o.of_record n)
  map_form n c side R W e apart h =
      let form = subst (λ (k : OpKind). HasForm (function_kind k) fields c R W side (called o n)) e h in
      record {
        outputs = λ x y fx fy agree.
            let r = form (of_record x) (of_record y) (IsLawful-record fields c x apart fx) (IsLawful-record fields c y apart fy) (record { left = (agree, tt); right = tt }) in
            one_anchor W x y r.0 (o.of_record n x) (o.of_record n y) r.1;
        wide = λ x fx. all_wide fields (λ k. Owns v ops n k ⊎ c.left k) (o.of_record n x) (map_fits fields v ops o good n c.left e x fx);
      }

  -- for the roots of two trees
  pub map_form_in : (n : ℕ) (t u : PlanTree) (s : UsedFields) → o.kind n ≡ Map → AreSetsOf fields v ops o n (joint v ops o n (over n t) (over n u)) on_left s
      → OneForm fields (joint v ops o n (over n t) (over n u)).left s.reads s.writes (o.of_record n)
  map_form_in n t u s e h = map_form n (joint v ops o n (over n t) (over n u)) on_left s.reads s.writes e (λ k l r. elim r as (λ _. ⊥) [ inl a ↦ a | inr b ↦ b ]) h.form

-- ---- plans

module _ (o : PlanOps) where
  as_map : (n : ℕ) (ls out : Bag) → o.kind n ≡ Map → Gives o (o.kind n) n ls out → out ≡ flat_map (o.of_record n) ls
  as_map n ls out e h = subst (λ (k : OpKind). Gives o k n ls out) e h

  to_map : (n : ℕ) (ls : Bag) → o.kind n ≡ Map → Gives o (o.kind n) n ls (flat_map (o.of_record n) ls)
  to_map n ls e = subst (λ (k : OpKind). Gives o k n ls (flat_map (o.of_record n) ls)) (sym e) refl

  -- what a Map emits for what its input allows
  pub record MapBag (n : ℕ) (t : PlanTree) (bag : Bag) : Type 0 where
    pub rows : Bag
    pub below : Allows o t rows
    pub perm : Perm (flat_map (o.of_record n) rows) bag

  pub map_bag : (n : ℕ) (t : PlanTree) (bag : Bag) → o.kind n ≡ Map → Allows o (over n t) bag → MapBag n t bag
  map_bag n t bag e h =
      let a = h.0 in
      record { rows = a.rows; below = a.below; perm = subst (λ (z : Bag). Perm z bag) (as_map n a.rows a.out e a.given) (from_permutation a.out bag a.permuted) }

  pub bag_of_map : (n : ℕ) (t : PlanTree) (rows bag : Bag) → o.kind n ≡ Map → Allows o t rows → Perm (flat_map (o.of_record n) rows) bag → Allows o (over n t) bag
  bag_of_map n t rows bag e h p =
      (record { rows = rows; out = flat_map (o.of_record n) rows; below = h; given = to_map n rows e; permuted = to_permutation p }, tt)
