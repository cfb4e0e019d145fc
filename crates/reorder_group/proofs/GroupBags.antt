-- The bags that a plan with a Reduce or a CoGroup at its root allows, as what is chosen for keys.
use Rattle.std.proofs.Common.{◌≡◌, ℕ, List, [], sym, subst}
use Rattle.pact_record.proofs.Permutations.{Perm, from_permutation, to_permutation}
use Rattle.pact_bag.proofs.KeyLists.{Key}
use Rattle.tac_syntax.specs.declared.declarations.OpKind.{OpKind}
use Rattle.tac_syntax.specs.declared.declarations.OpKind.TheVariants.{Reduce, CoGroup}
use Rattle.plan_trees.specs.Plans.{PlanTree, over, both}
use Rattle.pact_operators.specs.Allowed.{Allows, Bag, Gives, GivesBoth, keys_in, keys_in_either}
use Rattle.pact_operators.specs.PlanOps.{PlanOps}
use Rattle.pact_operators.proofs.ChosenForKeys.{AreChosen, AreChosen-weaker, IsGivenFor, chosen-CoGrouped, chosen-Grouped, cogrouped-AreChosen, grouped-AreChosen, of_one_side}
use Rattle.reorder_pair.proofs.FunctionForms.{Row}

-- a function of two groups with the sides swapped
abbrev pub turned_groups : (Row → Bag → Bag → Bag) → Row → Bag → Bag → Bag
turned_groups f k xs zs = f k zs xs

-- what is chosen, with the sides swapped
pub AreChosen-turned : (f : Row → Bag → Bag → Bag) (keys others : List ℕ) (ls rs : Bag) (ks : List Key) (out : Bag) → AreChosen (IsGivenFor f keys others ls rs) ks out
    → AreChosen (IsGivenFor (turned_groups f) others keys rs ls) ks out
AreChosen-turned f keys others ls rs ks out h =
    AreChosen-weaker (IsGivenFor f keys others ls rs) (IsGivenFor (turned_groups f) others keys rs ls) (λ k l c. (c.1, c.0, c.3, c.2, c.4)) ks out h

pub AreChosen-turned_back : (f : Row → Bag → Bag → Bag) (keys others : List ℕ) (ls rs : Bag) (ks : List Key) (out : Bag) → AreChosen (IsGivenFor (turned_groups f) others keys rs ls) ks out
    → AreChosen (IsGivenFor f keys others ls rs) ks out
AreChosen-turned_back f keys others ls rs ks out h =
    AreChosen-weaker (IsGivenFor (turned_groups f) others keys rs ls) (IsGivenFor f keys others ls rs) (λ k l c. (c.1, c.0, c.3, c.2, c.4)) ks out h

-- ---- plans

module _ (o : PlanOps) (n : ℕ) where
  abbrev pub ChosenByReduce : Bag → Bag → Type 0
  ChosenByReduce rows out = AreChosen (IsGivenFor (of_one_side (o.of_group n)) (o.left_keys n) [] rows []) (keys_in (o.left_keys n) rows) out

  abbrev pub ChosenByCoGroup : Bag → Bag → Bag → Type 0
  ChosenByCoGroup ls rs out = AreChosen (IsGivenFor (o.of_groups n) (o.left_keys n) (o.right_keys n) ls rs) (keys_in_either (o.left_keys n) (o.right_keys n) ls rs) out

  -- what a Reduce emits for what its input allows
  pub record ReduceBag (t : PlanTree) (bag : Bag) : Type 0 where
    pub rows : Bag
    pub out : Bag
    pub below : Allows o t rows
    pub given : ChosenByReduce rows out
    pub perm : Perm out bag

  pub reduce_bag : (t : PlanTree) (bag : Bag) → o.kind n ≡ Reduce → Allows o (over n t) bag → ReduceBag t bag
  reduce_bag t bag e h =
      let a = h.0 in
      let keys = o.left_keys n in
      record {
        rows = a.rows;
        out = a.out;
        below = a.below;
        given = grouped-AreChosen (o.of_group n) keys a.rows (keys_in keys a.rows) a.out (subst (λ (k : OpKind). Gives o k n a.rows a.out) e a.given);
        perm = from_permutation a.out bag a.permuted;
      }

  pub bag_of_reduce : (t : PlanTree) (rows out bag : Bag) → o.kind n ≡ Reduce → Allows o t rows → ChosenByReduce rows out → Perm out bag → Allows o (over n t) bag
  bag_of_reduce t rows out bag e h given p =
      let keys = o.left_keys n in
      let grouped = chosen-Grouped (o.of_group n) keys rows (keys_in keys rows) out given in
      (record { rows = rows; out = out; below = h; given = subst (λ (k : OpKind). Gives o k n rows out) (sym e) grouped; permuted = to_permutation p }, tt)

  -- what a CoGroup emits for what its inputs allow
  pub record CoGroupBag (t u : PlanTree) (bag : Bag) : Type 0 where
    pub left_rows : Bag
    pub right_rows : Bag
    pub out : Bag
    pub left_below : Allows o t left_rows
    pub right_below : Allows o u right_rows
    pub given : ChosenByCoGroup left_rows right_rows out
    pub perm : Perm out bag

  pub cogroup_bag : (t u : PlanTree) (bag : Bag) → o.kind n ≡ CoGroup → Allows o (both n t u) bag → CoGroupBag t u bag
  cogroup_bag t u bag e h =
      let a = h.0 in
      let ls = a.left_rows in
      let rs = a.right_rows in
      let keys = o.left_keys n in
      let others = o.right_keys n in
      record {
        left_rows = ls;
        right_rows = rs;
        out = a.out;
        left_below = a.left_below;
        right_below = a.right_below;
        given = cogrouped-AreChosen (o.of_groups n) keys others ls rs (keys_in_either keys others ls rs) a.out (subst (λ (k : OpKind). GivesBoth o k n ls rs a.out) e a.given);
        perm = from_permutation a.out bag a.permuted;
      }

  pub bag_of_cogroup : (t u : PlanTree) (ls rs out bag : Bag) → o.kind n ≡ CoGroup → Allows o t ls → Allows o u rs → ChosenByCoGroup ls rs out → Perm out bag → Allows o (both n t u) bag
  bag_of_cogroup t u ls rs out bag e h k given p =
      let keys = o.left_keys n in
      let others = o.right_keys n in
      let grouped = chosen-CoGrouped (o.of_groups n) keys others ls rs (keys_in_either keys others ls rs) out given in (
        record { left_rows = ls; right_rows = rs; out = out; left_below = h; right_below = k; given = subst (λ (q : OpKind). GivesBoth o q n ls rs out) (sym e) grouped; permuted = to_permutation p },
        tt,
      )
