-- The calls of a pair operator, and the bags that a plan with one at its root allows.
use Rattle.std.proofs.Common.{◌≡◌, ◌||◌, not, inl, inr, ℕ, List, [], refl, sym, subst}
use Rattle.std.specs.List.{AllByRecursion}
use Rattle.pact_record.specs.Record.{joined_record, key_of}
use Rattle.pact_record.proofs.Lists.{AllByRecursion-cond}
use Rattle.pact_record.proofs.Permutations.{Perm, from_permutation, to_permutation}
use Rattle.pact_bag.specs.Groups.{is_same_key}
use Rattle.tac_syntax.specs.declared.contexts.Side.TheVariants.{Left as on_left}
use Rattle.tac_syntax.specs.Call.{of_pair}
use Rattle.tac_syntax.specs.CallInputs.{IsInputOf}
use Rattle.tac_syntax.specs.Contexts.{FieldSet, Ports}
use Rattle.tac_syntax.specs.Forms.{AreApart, HasForm, IsLawful, IsWithin}
use Rattle.tac_syntax.specs.Valid.{WithFields}
use Rattle.tac_syntax.specs.declared.declarations.OpKind.{OpKind}
use Rattle.tac_syntax.specs.declared.declarations.OpKind.TheVariants.{Match, Cross}
use Rattle.plan_trees.specs.Plans.{PlanTree, both}
use Rattle.pact_operators.specs.declared.operators.Op.{Op}
use Rattle.pact_operators.specs.Allowed.{Bag, Allows, GivesBoth}
use Rattle.pact_bag.specs.Pairs.{crossed, has_null, matched, unless_null}
use Rattle.pact_operators.specs.PlanOps.{PlanOps}
use Rattle.pact_operators.specs.SoundOps.{AreOpsOf, called, function_kind}
use Rattle.pact_operators.proofs.LawfulBags.{OverBoth, all_wide, cross_fits, match_fits}
use Rattle.reorder_pair.proofs.FunctionForms.{PairForm, Row, matched_form, one_anchor}
use Rattle.reorder_pair.proofs.PermittedExchanges.{AreSetsOf, IsPair, UsedFields}

-- what a pair operator emits for a pair
abbrev pub pair_of : PlanOps → OpKind → ℕ → Row → Row → Bag
pair_of o Match n = matched o.nulls (o.of_pair n) (o.left_keys n) (o.right_keys n)
pair_of o Cross n = o.of_pair n
pair_of o kind n = λ l r. []

-- ---- plans

module _ (o : PlanOps) where
  -- what a pair operator emits for what its inputs allow
  pub record PairBag (n : ℕ) (t u : PlanTree) (bag : Bag) : Type 0 where
    pub left_rows : Bag
    pub right_rows : Bag
    pub left_below : Allows o t left_rows
    pub right_below : Allows o u right_rows
    pub perm : Perm (crossed (pair_of o (o.kind n) n) left_rows right_rows) bag

  as_pair : (n : ℕ) (ls rs out : Bag) → IsPair (o.kind n) → GivesBoth o (o.kind n) n ls rs out → out ≡ crossed (pair_of o (o.kind n) n) ls rs
  as_pair n ls rs out (inl e) h = subst (λ (k : OpKind). GivesBoth o k n ls rs out → out ≡ crossed (pair_of o k n) ls rs) (sym e) (λ g. g) h
  as_pair n ls rs out (inr e) h = subst (λ (k : OpKind). GivesBoth o k n ls rs out → out ≡ crossed (pair_of o k n) ls rs) (sym e) (λ g. g) h

  to_pair : (n : ℕ) (ls rs : Bag) → IsPair (o.kind n) → GivesBoth o (o.kind n) n ls rs (crossed (pair_of o (o.kind n) n) ls rs)
  to_pair n ls rs (inl e) = subst (λ (k : OpKind). GivesBoth o k n ls rs (crossed (pair_of o k n) ls rs)) (sym e) refl
  to_pair n ls rs (inr e) = subst (λ (k : OpKind). GivesBoth o k n ls rs (crossed (pair_of o k n) ls rs)) (sym e) refl

  pub pair_bag : (n : ℕ) (t u : PlanTree) (bag : Bag) → IsPair (o.kind n) → Allows o (both n t u) bag → PairBag n t u bag
  pair_bag n t u bag e h =
      let a = h.0 in
      record {
        left_rows = a.left_rows;
        right_rows = a.right_rows;
        left_below = a.left_below;
        right_below = a.right_below;
        perm = subst (λ (z : Bag). Perm z bag) (as_pair n a.left_rows a.right_rows a.out e a.given) (from_permutation a.out bag a.permuted);
      }

  pub bag_of_pair : (n : ℕ) (t u : PlanTree) (ls rs bag : Bag) → IsPair (o.kind n) → Allows o t ls → Allows o u rs → Perm (crossed (pair_of o (o.kind n) n) ls rs) bag → Allows o (both n t u) bag
  bag_of_pair n t u ls rs bag e h k p =
      (record { left_rows = ls; right_rows = rs; out = crossed (pair_of o (o.kind n) n) ls rs; left_below = h; right_below = k; given = to_pair n ls rs e; permuted = to_permutation p }, tt)

-- ---- calls

is_input : (kind : OpKind) (l r : Row) → IsPair kind → IsInputOf (function_kind kind) (of_pair l r)
is_input kind l r (inl e) = subst (λ (k : OpKind). IsInputOf (function_kind k) (of_pair l r)) (sym e) tt
is_input kind l r (inr e) = subst (λ (k : OpKind). IsInputOf (function_kind k) (of_pair l r)) (sym e) tt

IsLawful-pair : (fields : ℕ) (kind : OpKind) (c : Ports) (l r : Row) → IsPair kind → AreApart c.left c.right → IsWithin fields c.left l → IsWithin fields c.right r → IsLawful (function_kind kind) fields c (of_pair l r)
IsLawful-pair fields kind c l r pair apart fl fr = record { apart = apart; called = is_input kind l r pair; some = tt; keyed = tt; left = (fl, tt); right = (fr, tt) }

module _ (fields : ℕ) (v : List WithFields) (ops : List Op) (o : PlanOps) (good : AreOpsOf fields v ops o) where
  called_fits : (n : ℕ) (s t : ℕ → Type 0) → IsPair (o.kind n) → (l r : Row) → IsWithin fields s l → IsWithin fields t r → AllByRecursion (IsWithin fields (OverBoth v ops n s t)) (o.of_pair n l r)
  called_fits n s t (inl e) l r h j = match_fits fields v ops o good n s t e l r h j
  called_fits n s t (inr e) l r h j = cross_fits fields v ops o good n s t e l r h j

  pub pair_fits : (n : ℕ) (s t : ℕ → Type 0) → IsPair (o.kind n) → (l r : Row) → IsWithin fields s l → IsWithin fields t r
      → AllByRecursion (IsWithin fields (OverBoth v ops n s t)) (pair_of o (o.kind n) n l r)
  pair_fits n s t (inl e) l r h j =
      subst (λ (k : OpKind). AllByRecursion (IsWithin fields (OverBoth v ops n s t)) (pair_of o k n l r)) (sym e)
      (AllByRecursion-cond (IsWithin fields (OverBoth v ops n s t)) (is_same_key (key_of (o.left_keys n) l) (key_of (o.right_keys n) r)) (unless_null o.nulls (o.of_pair n) (o.left_keys n) l r) []
      (AllByRecursion-cond (IsWithin fields (OverBoth v ops n s t)) (o.nulls || not (has_null (key_of (o.left_keys n) l))) (o.of_pair n l r) [] (called_fits n s t (inl e) l r h j) tt) tt)
  pair_fits n s t (inr e) l r h j = subst (λ (k : OpKind). AllByRecursion (IsWithin fields (OverBoth v ops n s t)) (pair_of o k n l r)) (sym e) (called_fits n s t (inr e) l r h j)

  called_form : (n : ℕ) (c : Ports) (R W : FieldSet) → IsPair (o.kind n) → AreApart c.left c.right → HasForm (function_kind (o.kind n)) fields c R W on_left (called o n) → PairForm fields c.left c.right R W (o.of_pair n)
  called_form n c R W pair apart form = record {
    outputs = λ l m r s fl fm fr fs al ar.
        let q = form (of_pair l r) (of_pair m s) (IsLawful-pair fields (o.kind n) c l r pair apart fl fr) (IsLawful-pair fields (o.kind n) c m s pair apart fm fs) (record { left = (al, tt); right = (ar, tt) }) in
        one_anchor W (joined_record l r) (joined_record m s) q.0 (o.of_pair n l r) (o.of_pair n m s) q.1;
    wide = λ l r fl fr. all_wide fields (OverBoth v ops n c.left c.right) (o.of_pair n l r) (called_fits n c.left c.right pair l r fl fr);
  }

  pub pair_form : (n : ℕ) (c : Ports) (s : UsedFields) → IsPair (o.kind n) → AreApart c.left c.right → AreSetsOf fields v ops o n c on_left s
      → PairForm fields c.left c.right s.reads s.writes (pair_of o (o.kind n) n)
  pair_form n c s (inl e) apart h =
      subst (λ (k : OpKind). PairForm fields c.left c.right s.reads s.writes (pair_of o k n)) (sym e)
      (matched_form fields c.left c.right s.reads s.writes o.nulls (o.of_pair n) (o.left_keys n) (o.right_keys n) h.left_keys h.right_keys (called_form n c s.reads s.writes (inl e) apart h.form))
  pair_form n c s (inr e) apart h =
      subst (λ (k : OpKind). PairForm fields c.left c.right s.reads s.writes (pair_of o k n)) (sym e) (called_form n c s.reads s.writes (inr e) apart h.form)
