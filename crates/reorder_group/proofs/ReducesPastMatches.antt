-- A Reduce over a Match with one unique side allows the same bags as the same Reduce under the Match's other side.
use Rattle.std.proofs.Common.{◌≡◌, ◌≤◌, inl, inr, ℕ, List, [], length, refl, sym, subst, ◌∙◌, arith}
use Rattle.std.specs.Prelude.{flat_map}
use Rattle.std.specs.List.{AllByRecursion}
use Rattle.pact_record.specs.Keys.{is_listed}
use Rattle.pact_record.proofs.Lists.{AllByRecursion-flat_map}
use Rattle.pact_record.proofs.Permutations.{Perm, chains, same, turn, turned}
use Rattle.pact_bag.specs.Groups.{is_same_key}
use Rattle.pact_bag.proofs.KeyGroups.{same_keys}
use Rattle.pact_bag.proofs.KeysOfBags.{keys_alone}
use Rattle.tac_syntax.specs.Contexts.{Has, Ports}
use Rattle.tac_syntax.specs.declared.contexts.Side.TheVariants.{Left as on_left}
use Rattle.tac_syntax.specs.Forms.{AreApart, IsWithin}
use Rattle.tac_syntax.specs.Valid.{WithFields}
use Rattle.tac_syntax.specs.declared.declarations.OpKind.{OpKind}
use Rattle.tac_syntax.specs.declared.declarations.OpKind.TheVariants.{Match, Reduce}
use Rattle.plan_trees.specs.Plans.{PlanTree, over, both}
use Rattle.pact_operators.specs.declared.operators.Op.{Op}
use Rattle.pact_operators.specs.Allowed.{AllowSame, Allows, Bag, keys_in}
use Rattle.pact_bag.specs.Pairs.{crossed, matched, unless_null}
use Rattle.pact_operators.specs.PlanOps.{PlanOps}
use Rattle.pact_operators.specs.Programs.{HasAttribute, Owns}
use Rattle.pact_operators.specs.SoundOps.{AreOpsOf}
use Rattle.pact_operators.proofs.LawfulBags.{lawful_bags}
use Rattle.pact_operators.proofs.WithinFields.{all_within_larger, same_key_of}
use Rattle.reorder_pair.proofs.FunctionForms.{PairForm, Row, flip_form, turned_pair}
use Rattle.reorder_pair.proofs.Pairs.{bag_of_pair, pair_bag, pair_fits, pair_form, pair_of}
use Rattle.reorder_pair.proofs.PairLaws.{ShareNone}
use Rattle.reorder_pair.proofs.PermittedExchanges.{AreFound, AvoidsTree, UsedFields, joint, used_touched}
use Rattle.reorder_pair.proofs.SidesApart.{apart_turned, apart_with}
use Rattle.reorder_group.proofs.GroupBags.{bag_of_reduce, reduce_bag}
use Rattle.reorder_group.proofs.SideLaws.{given_above, side_moved, side_moved_back}
use Rattle.reorder_group.specs.UniqueRows.{HaveEachOnce}
use Rattle.reorder_group.proofs.FewPartners.{few_meet, few_unless, same_meet, same_unless}
use Rattle.reorder_group.proofs.Partners.{with_rows}
use Rattle.reorder_group.proofs.ReduceMoves.{IsReduceMove, move, reduce_move}

-- Reduce f over Match g(t, u), and g(f(t), u)
pub record PermitsReduceLeft (fields : ℕ) (v : List WithFields) (ops : List Op) (o : PlanOps) (f g : ℕ) (t u : PlanTree) : Type 0 where
  pub upper_kind : o.kind f ≡ Reduce
  pub lower_kind : o.kind g ≡ Match
  pub upper : UsedFields
  pub lower : UsedFields
  pub found : AreFound fields v ops o f (over f (both g t u)) (over f t) g (both g t u) (both g (over f t) u) on_left upper lower
  pub side : AvoidsTree v ops upper.touched u
  pub match_keys : AllByRecursion (Has (is_listed (o.left_keys f))) (o.left_keys g)
  pub unique : (rows : Bag) → Allows o u rows → HaveEachOnce (o.right_keys g) rows
  pub one : (l r : Row) → length (o.of_pair g l r) ≡ 1

-- Reduce f over Match g(t, u), and g(t, f(u))
pub record PermitsReduceRight (fields : ℕ) (v : List WithFields) (ops : List Op) (o : PlanOps) (f g : ℕ) (t u : PlanTree) : Type 0 where
  pub upper_kind : o.kind f ≡ Reduce
  pub lower_kind : o.kind g ≡ Match
  pub upper : UsedFields
  pub lower : UsedFields
  pub found : AreFound fields v ops o f (over f (both g t u)) (over f u) g (both g t u) (both g t (over f u)) on_left upper lower
  pub side : AvoidsTree v ops upper.touched t
  pub match_keys : AllByRecursion (Has (is_listed (o.left_keys f))) (o.right_keys g)
  pub unique : (rows : Bag) → Allows o t rows → HaveEachOnce (o.left_keys g) rows
  pub one : (l r : Row) → length (o.of_pair g l r) ≡ 1

module _ (fields : ℕ) (v : List WithFields) (ops : List Op) (o : PlanOps) (good : AreOpsOf fields v ops o) where
  -- ---- to the left

  module _ (f g : ℕ) (t u : PlanTree) (x : PermitsReduceLeft fields v ops o f g t u) (apart : ShareNone fields v ops o good t u) where
    -- the contexts that the two may be called in, before and after
    abbrev cf : Ports
    cf = joint v ops o f (over f (both g t u)) (over f t)

    abbrev cg : Ports
    cg = joint v ops o g (both g t u) (both g (over f t) u)

    abbrev A : ℕ → Type 0
    A = HasAttribute v ops t

    abbrev B : ℕ → Type 0
    B = HasAttribute v ops u

    -- what g emits for a pair
    abbrev gs : Row → Row → Bag
    gs = matched o.nulls (o.of_pair g) (o.left_keys g) (o.right_keys g)

    -- what it emits for a pair with equal keys
    abbrev called : Row → Row → Bag
    called = unless_null o.nulls (o.of_pair g) (o.left_keys g)

    few_called : (l r : Row) → length (called l r) ≤ 1
    few_called l r = few_unless o.nulls (o.of_pair g) (o.left_keys g) l r (let e = x.one l r in omega (arith, e))

    left_sides : AreApart cg.left cg.right
    left_sides = apart_with (Owns v ops f) A B apart (λ k own b. x.side k (x.found.upper_sets.owned k own) b)

    left_form : PairForm fields cg.left cg.right x.lower.reads x.lower.writes gs
    left_form =
        subst (λ (q : OpKind). PairForm fields cg.left cg.right x.lower.reads x.lower.writes (pair_of o q g)) x.lower_kind
        (pair_form fields v ops o good g cg x.lower (inl x.lower_kind) left_sides x.found.lower_sets)

    left_fits : (l r : Row) → IsWithin fields A l → IsWithin fields B r → AllByRecursion (IsWithin fields (HasAttribute v ops (both g t u))) (gs l r)
    left_fits l r fl fr =
        subst (λ (q : OpKind). AllByRecursion (IsWithin fields (HasAttribute v ops (both g t u))) (pair_of o q g l r)) x.lower_kind (pair_fits fields v ops o good g A B (inl x.lower_kind) l r fl fr)

    left_move : (rs : Bag) → Allows o u rs → IsReduceMove fields v ops o f cf A cg.left B cg.right x.upper x.lower gs rs
    left_move rs h =
        let fit = lawful_bags fields v ops o good u rs h in
        record {
          kind = x.upper_kind;
          no_right = λ k r. elim r as (λ _. ⊥) [ inl a ↦ a | inr b ↦ b ];
          keyed = refl;
          sets = x.found.upper_sets;
          partners = record {
            form = left_form;
            no_conflict = x.found.no_conflict;
            side = λ i used b. x.side i (used_touched x.found.upper_sets i used) b;
            covered = λ k out b. out (inl b);
            fit = fit;
            few = λ l fl. few_meet is_same_key same_keys called (o.left_keys g) (o.right_keys g) (IsWithin fields B) l (λ r fr. few_called l r) rs fit (x.unique rs h);
            same = λ l m fl fm agree r fr.
                let e = same_key_of (is_listed (o.left_keys f)) (o.left_keys g) l m x.match_keys agree in
                same_meet is_same_key same_keys called (o.left_keys g) (o.right_keys g) l m r e (same_unless o.nulls (o.of_pair g) (o.left_keys g) l m r r e (x.one l r ∙ sym (x.one m r)));
          };
          below_each = λ k out a. out (inl a);
          below_group = λ k out a. out (inr a);
          out_each = λ r fr.
              AllByRecursion-flat_map (IsWithin fields B) (IsWithin fields cf.left) (gs r) rs fit
              (λ w fw. all_within_larger fields (HasAttribute v ops (both g t u)) cf.left (gs r w) (λ k out a. out (inl a)) (left_fits r w fr fw));
          out_group = λ k out a. out (inr a);
        }

    left_pairs : (ls rs bag : Bag) → Perm (crossed (pair_of o (o.kind g) g) ls rs) bag → Perm (flat_map (with_rows gs rs) ls) bag
    left_pairs ls rs bag p = subst (λ (q : OpKind). Perm (crossed (pair_of o q g) ls rs) bag) x.lower_kind p

    pairs_left : (ls rs bag : Bag) → Perm (flat_map (with_rows gs rs) ls) bag → Perm (crossed (pair_of o (o.kind g) g) ls rs) bag
    pairs_left ls rs bag p = subst (λ (q : OpKind). Perm (crossed (pair_of o q g) ls rs) bag) (sym x.lower_kind) p

    pub reduce_left : (bag : Bag) → Allows o (over f (both g t u)) bag → Allows o (both g (over f t) u) bag
    reduce_left bag h =
        let a = reduce_bag o f (both g t u) bag x.upper_kind h in
        let n = pair_bag o g t u a.rows (inl x.lower_kind) a.below in
        let ls = n.left_rows in
        let rs = n.right_rows in
        let keys = o.left_keys f in
        let moving = left_move rs n.right_below in
        let m = move fields v ops o good f cf A cg.left B cg.right x.upper x.lower gs rs moving in
        let is = reduce_move fields v ops o good f cf A cg.left B cg.right x.upper x.lower gs rs moving in
        let moved = side_moved_back fields m is ls a.rows [] (lawful_bags fields v ops o good t ls n.left_below) tt (left_pairs ls rs a.rows n.perm) (keys_in keys ls) (keys_in keys a.rows)
        (keys_alone keys ls) (keys_alone keys a.rows) a.out a.given in
        bag_of_pair o g (over f t) u moved.0 rs bag (inl x.lower_kind) (bag_of_reduce o f t ls moved.0 moved.0 x.upper_kind n.left_below moved.1 (same moved.0)) n.right_below
        (pairs_left moved.0 rs bag (chains {xs = flat_map (with_rows gs rs) moved.0} moved.2 a.perm))

    pub reduce_left_up : (bag : Bag) → Allows o (both g (over f t) u) bag → Allows o (over f (both g t u)) bag
    reduce_left_up bag h =
        let n = pair_bag o g (over f t) u bag (inl x.lower_kind) h in
        let rs = n.right_rows in
        let a = reduce_bag o f t n.left_rows x.upper_kind n.left_below in
        let each = with_rows gs rs in
        let now = flat_map each a.rows in
        let keys = o.left_keys f in
        let moving = left_move rs n.right_below in
        let m = move fields v ops o good f cf A cg.left B cg.right x.upper x.lower gs rs moving in
        let is = reduce_move fields v ops o good f cf A cg.left B cg.right x.upper x.lower gs rs moving in
        let moved = side_moved fields m is a.rows now [] (lawful_bags fields v ops o good t a.rows a.below) tt (same now) (keys_in keys a.rows) (keys_in keys now)
        (keys_alone keys a.rows) (keys_alone keys now) a.out a.given in
        bag_of_reduce o f (both g t u) now moved.0 bag x.upper_kind (bag_of_pair o g t u a.rows rs now (inl x.lower_kind) a.below n.right_below (pairs_left a.rows rs now (same now))) moved.1
        (given_above each a.out n.left_rows moved.0 bag moved.2 a.perm (left_pairs n.left_rows rs bag n.perm))

  -- ---- to the right

  module _ (f g : ℕ) (t u : PlanTree) (x : PermitsReduceRight fields v ops o f g t u) (apart : ShareNone fields v ops o good t u) where
    -- the contexts that the two may be called in, before and after
    abbrev df : Ports
    df = joint v ops o f (over f (both g t u)) (over f u)

    abbrev dg : Ports
    dg = joint v ops o g (both g t u) (both g t (over f u))

    abbrev L : ℕ → Type 0
    L = HasAttribute v ops t

    abbrev R : ℕ → Type 0
    R = HasAttribute v ops u

    -- what g emits for a pair
    abbrev hs : Row → Row → Bag
    hs = matched o.nulls (o.of_pair g) (o.left_keys g) (o.right_keys g)

    -- what it emits for a pair with equal keys
    abbrev met : Row → Row → Bag
    met = unless_null o.nulls (o.of_pair g) (o.left_keys g)

    few_met : (l r : Row) → length (met l r) ≤ 1
    few_met l r = few_unless o.nulls (o.of_pair g) (o.left_keys g) l r (let e = x.one l r in omega (arith, e))

    right_sides : AreApart dg.left dg.right
    right_sides = apart_turned dg.right dg.left (apart_with (Owns v ops f) R L (apart_turned L R apart) (λ k own a. x.side k (x.found.upper_sets.owned k own) a))

    right_form : PairForm fields dg.right dg.left x.lower.reads x.lower.writes (turned_pair hs)
    right_form =
        flip_form fields dg.left dg.right x.lower.reads x.lower.writes hs right_sides
        (subst (λ (q : OpKind). PairForm fields dg.left dg.right x.lower.reads x.lower.writes (pair_of o q g)) x.lower_kind
        (pair_form fields v ops o good g dg x.lower (inl x.lower_kind) right_sides x.found.lower_sets))

    right_fits : (l r : Row) → IsWithin fields L l → IsWithin fields R r → AllByRecursion (IsWithin fields (HasAttribute v ops (both g t u))) (hs l r)
    right_fits l r fl fr =
        subst (λ (q : OpKind). AllByRecursion (IsWithin fields (HasAttribute v ops (both g t u))) (pair_of o q g l r)) x.lower_kind (pair_fits fields v ops o good g L R (inl x.lower_kind) l r fl fr)

    right_move : (ls : Bag) → Allows o t ls → IsReduceMove fields v ops o f df R dg.right L dg.left x.upper x.lower (turned_pair hs) ls
    right_move ls h =
        let fit = lawful_bags fields v ops o good t ls h in
        record {
          kind = x.upper_kind;
          no_right = λ k r. elim r as (λ _. ⊥) [ inl a ↦ a | inr b ↦ b ];
          keyed = refl;
          sets = x.found.upper_sets;
          partners = record {
            form = right_form;
            no_conflict = x.found.no_conflict;
            side = λ i used b. x.side i (used_touched x.found.upper_sets i used) b;
            covered = λ k out b. out (inl b);
            fit = fit;
            few = λ r fr.
                few_meet (λ a b. is_same_key b a) (λ a b is. sym (same_keys b a is)) (turned_pair met) (o.right_keys g) (o.left_keys g) (IsWithin fields L) r
                (λ l fl. few_met l r) ls fit (x.unique ls h);
            same = λ r m fr fm agree l fl.
                same_meet (λ a b. is_same_key b a) (λ a b is. sym (same_keys b a is)) (turned_pair met) (o.right_keys g) (o.left_keys g) r m l
                (same_key_of (is_listed (o.left_keys f)) (o.right_keys g) r m x.match_keys agree)
                (same_unless o.nulls (o.of_pair g) (o.left_keys g) l l r m refl (x.one l r ∙ sym (x.one l m)));
          };
          below_each = λ k out a. out (inl a);
          below_group = λ k out a. out (inr a);
          out_each = λ r fr.
              AllByRecursion-flat_map (IsWithin fields L) (IsWithin fields df.left) (turned_pair hs r) ls fit
              (λ w fw. all_within_larger fields (HasAttribute v ops (both g t u)) df.left (hs w r) (λ k out a. out (inl a)) (right_fits w r fw fr));
          out_group = λ k out a. out (inr a);
        }

    -- the pairs, by the records of the right side
    right_pairs : (ls rs bag : Bag) → Perm (crossed (pair_of o (o.kind g) g) ls rs) bag → Perm (flat_map (with_rows (turned_pair hs) ls) rs) bag
    right_pairs ls rs bag p = chains (turned (turn hs ls rs)) (subst (λ (q : OpKind). Perm (crossed (pair_of o q g) ls rs) bag) x.lower_kind p)

    pairs_right : (ls rs bag : Bag) → Perm (flat_map (with_rows (turned_pair hs) ls) rs) bag → Perm (crossed (pair_of o (o.kind g) g) ls rs) bag
    pairs_right ls rs bag p = subst (λ (q : OpKind). Perm (crossed (pair_of o q g) ls rs) bag) (sym x.lower_kind) (chains (turn hs ls rs) p)

    pub reduce_right : (bag : Bag) → Allows o (over f (both g t u)) bag → Allows o (both g t (over f u)) bag
    reduce_right bag h =
        let a = reduce_bag o f (both g t u) bag x.upper_kind h in
        let n = pair_bag o g t u a.rows (inl x.lower_kind) a.below in
        let ls = n.left_rows in
        let rs = n.right_rows in
        let keys = o.left_keys f in
        let moving = right_move ls n.left_below in
        let m = move fields v ops o good f df R dg.right L dg.left x.upper x.lower (turned_pair hs) ls moving in
        let is = reduce_move fields v ops o good f df R dg.right L dg.left x.upper x.lower (turned_pair hs) ls moving in
        let moved = side_moved_back fields m is rs a.rows [] (lawful_bags fields v ops o good u rs n.right_below) tt (right_pairs ls rs a.rows n.perm) (keys_in keys rs) (keys_in keys a.rows)
        (keys_alone keys rs) (keys_alone keys a.rows) a.out a.given in
        bag_of_pair o g t (over f u) ls moved.0 bag (inl x.lower_kind) n.left_below (bag_of_reduce o f u rs moved.0 moved.0 x.upper_kind n.right_below moved.1 (same moved.0))
        (pairs_right ls moved.0 bag (chains {xs = flat_map (with_rows (turned_pair hs) ls) moved.0} moved.2 a.perm))

    pub reduce_right_up : (bag : Bag) → Allows o (both g t (over f u)) bag → Allows o (over f (both g t u)) bag
    reduce_right_up bag h =
        let n = pair_bag o g t (over f u) bag (inl x.lower_kind) h in
        let ls = n.left_rows in
        let a = reduce_bag o f u n.right_rows x.upper_kind n.right_below in
        let each = with_rows (turned_pair hs) ls in
        let now = flat_map each a.rows in
        let keys = o.left_keys f in
        let moving = right_move ls n.left_below in
        let m = move fields v ops o good f df R dg.right L dg.left x.upper x.lower (turned_pair hs) ls moving in
        let is = reduce_move fields v ops o good f df R dg.right L dg.left x.upper x.lower (turned_pair hs) ls moving in
        let moved = side_moved fields m is a.rows now [] (lawful_bags fields v ops o good u a.rows a.below) tt (same now) (keys_in keys a.rows) (keys_in keys now)
        (keys_alone keys a.rows) (keys_alone keys now) a.out a.given in
        bag_of_reduce o f (both g t u) now moved.0 bag x.upper_kind (bag_of_pair o g t u ls a.rows now (inl x.lower_kind) n.left_below a.below (pairs_right ls a.rows now (same now))) moved.1
        (given_above each a.out n.right_rows moved.0 bag moved.2 a.perm (right_pairs ls n.right_rows bag n.perm))

  pub reduce_left_same : (f g : ℕ) (t u : PlanTree) → PermitsReduceLeft fields v ops o f g t u → ShareNone fields v ops o good t u → AllowSame o (over f (both g t u)) (both g (over f t) u)
  reduce_left_same f g t u x apart bag = (reduce_left f g t u x apart bag, reduce_left_up f g t u x apart bag)

  pub reduce_right_same : (f g : ℕ) (t u : PlanTree) → PermitsReduceRight fields v ops o f g t u → ShareNone fields v ops o good t u → AllowSame o (over f (both g t u)) (both g t (over f u))
  reduce_right_same f g t u x apart bag = (reduce_right f g t u x apart bag, reduce_right_up f g t u x apart bag)
