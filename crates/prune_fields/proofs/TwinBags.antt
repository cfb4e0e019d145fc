-- Two bags whose records agree, place by place, on the fields that an operator needs. For each output that the operator
-- may give for one bag there is one for the other whose records agree on the fields that are needed above.
use Rattle.std.proofs.Common.{◌≡◌, ◌∙◌, ◌<◌, ◌+◌, ◌⊎◌, inl, inr, ℕ, Bool, true, false, not, cond, ◌||◌, List, [], ◌∷◌, ◌++◌, length, map, refl, sym, ap, subst, arith}
use Rattle.std.specs.Prelude.{flat_map}
use Rattle.std.specs.List.{AllByRecursion, AllZip}
use Rattle.std.proofs.lemmas.Bool.{and_from, true≢false}
use Rattle.pact_record.specs.declared.values.Value.{Value}
use Rattle.pact_record.specs.Record.{Agree, at_field, key_of}
use Rattle.pact_record.proofs.Permutations.{Perm, each_perm, from_permutation, length-perm, to_permutation}
use Rattle.pact_record.proofs.Lists.{AllByRecursion-weaker}
use Rattle.pact_record.proofs.SideBySide.{AllZip-cond, AllZip-permuted, AllZip-weaker}
use Rattle.pact_bag.specs.Groups.{distinct_keys, do_match, group_of_key, is_same_key}
use Rattle.pact_bag.proofs.KeyGroups.{distinct_keys_have_either, distinct_keys_have_groups, group_keys}
use Rattle.tac_syntax.specs.declared.declarations.OpKind.{OpKind}
use Rattle.tac_syntax.specs.declared.declarations.OpKind.TheVariants.{Map, Reduce, Match, Cross, CoGroup}
use Rattle.tac_syntax.specs.declared.functions.Kind.{Kind}
use Rattle.tac_syntax.specs.declared.functions.Kind.TheVariants as kinds
use Rattle.tac_syntax.specs.CallInputs.{IsInputOf}
use Rattle.tac_syntax.specs.Call.{of_record, of_pair, of_group, of_groups}
use Rattle.tac_syntax.specs.Contexts.{FieldSet, Has, Ports, ports}
use Rattle.tac_syntax.specs.Forms.{AreApart, HasFormAlone, HaveKey, IsLawful, IsWithin}
use Rattle.pact_operators.specs.Allowed.{Bag, CoGrouped, Gives, GivesBoth, Grouped, keys_in, keys_in_either}
use Rattle.pact_bag.specs.Pairs.{crossed, has_null, matched, unless_null}
use Rattle.pact_operators.specs.PlanOps.{PlanOps}
use Rattle.pact_operators.specs.SoundOps.{called, function_kind}
use Rattle.pact_operators.proofs.WithinFields.{same_key_of}
use Rattle.prune_fields.specs.Needs.{within}
use Rattle.prune_fields.proofs.BesideLists.{AllZip-append, AllZip-filter, AllZip-flat_map, AllZip-length}

-- ---- records that agree on the needed fields

-- Records of an input that agree on a set. Outside the input's own fields both are Null.
pub record AreTwins (fields : ℕ) (own want : FieldSet) (a b : List Value) : Type 0 where
  pub first : IsWithin fields (Has own) a
  pub second : IsWithin fields (Has own) b
  pub agree : Agree want a b

agree_at : (fields : ℕ) (own : FieldSet) (k : ℕ) (a b : List Value) (o : Bool) → own k ≡ o → IsWithin fields (Has own) a → IsWithin fields (Has own) b
    → (o ≡ true → at_field a k ≡ at_field b k) → at_field a k ≡ at_field b k
agree_at fields own k a b true e f g h = h refl
agree_at fields own k a b false e f g h = f.null k (λ t. true≢false (sym t ∙ e)) ∙ sym (g.null k (λ t. true≢false (sym t ∙ e)))

-- it is enough to agree on the fields of the set that the input has
pub are_twins : (fields : ℕ) (own want : FieldSet) (a b : List Value) → IsWithin fields (Has own) a → IsWithin fields (Has own) b
    → Agree (within want own) a b → AreTwins fields own want a b
are_twins fields own want a b f g h =
    record { first = f; second = g; agree = λ k m. agree_at fields own k a b (own k) refl f g (λ e. h k (and_from (want k) (own k) m e)) }

pub all_twins : (fields : ℕ) (own want : FieldSet) (xs ys : Bag) → AllByRecursion (IsWithin fields (Has own)) xs
    → AllByRecursion (IsWithin fields (Has own)) ys → AllZip (Agree (within want own)) xs ys
    → AllZip (AreTwins fields own want) xs ys
all_twins fields own want [] [] f g h = tt
all_twins fields own want [] (y ∷ ys) f g h = absurd h
all_twins fields own want (x ∷ xs) [] f g h = absurd h
all_twins fields own want (x ∷ xs) (y ∷ ys) f g h = (are_twins fields own want x y f.0 g.0 h.0, all_twins fields own want xs ys f.1 g.1 h.1)

module _ (fields : ℕ) (own want : FieldSet) where
  abbrev Twins : Bag → Bag → Type 0
  Twins xs ys = AllZip (AreTwins fields own want) xs ys

  firsts : (xs ys : Bag) → Twins xs ys → AllByRecursion (IsWithin fields (Has own)) xs
  firsts [] [] h = tt
  firsts [] (y ∷ ys) h = absurd h
  firsts (x ∷ xs) [] h = absurd h
  firsts (x ∷ xs) (y ∷ ys) h = (h.0.first, firsts xs ys h.1)

  seconds : (xs ys : Bag) → Twins xs ys → AllByRecursion (IsWithin fields (Has own)) ys
  seconds [] [] h = tt
  seconds [] (y ∷ ys) h = absurd h
  seconds (x ∷ xs) [] h = absurd h
  seconds (x ∷ xs) (y ∷ ys) h = (h.0.second, seconds xs ys h.1)

  agreed : (xs ys : Bag) → Twins xs ys → AllZip (Agree want) xs ys
  agreed xs ys h = AllZip-weaker (AreTwins fields own want) (Agree want) xs ys (λ x y t. t.agree) h

  module _ (keys : List ℕ) (read : AllByRecursion (Has want) keys) where
    twin_key : (x y : List Value) → AreTwins fields own want x y → key_of keys x ≡ key_of keys y
    twin_key x y t = same_key_of want keys x y read t.agree

    twin_keys : (xs ys : Bag) → Twins xs ys → map (key_of keys) xs ≡ map (key_of keys) ys
    twin_keys [] [] h = refl
    twin_keys [] (y ∷ ys) h = absurd h
    twin_keys (x ∷ xs) [] h = absurd h
    twin_keys (x ∷ xs) (y ∷ ys) h = λ i. twin_key x y h.0 i ∷ twin_keys xs ys h.1 i

    twin_groups : (xs ys : Bag) (k : List Value) → Twins xs ys → Twins (group_of_key keys xs k) (group_of_key keys ys k)
    twin_groups xs ys k h =
        AllZip-filter (AreTwins fields own want) (λ r. is_same_key (key_of keys r) k) (λ r. is_same_key (key_of keys r) k) xs ys
        (λ x y t. ap (λ (j : List Value). is_same_key j k) (twin_key x y t)) h

    -- a group in any order has a twin in some order
    twin_group : (xs ys : Bag) (k : List Value) (group : Bag) → Twins xs ys → Perm (group_of_key keys xs k) group
        → (other : Bag) × Perm (group_of_key keys ys k) other × Twins group other
    twin_group xs ys k group h p = AllZip-permuted (AreTwins fields own want) p (group_of_key keys ys k) (twin_groups xs ys k h)

    keyed : (xs : Bag) (k : List Value) (group : Bag) → Perm (group_of_key keys xs k) group → HaveKey keys k group
    keyed xs k group p = each_perm (λ r. key_of keys r ≡ k) p (group_keys keys xs k)

-- ---- the output of an operator

-- for each key that either input has, at least one of its groups has a record
either_some : (keys others : List ℕ) (ls rs : Bag)
    → AllByRecursion (λ k. 0 < length (group_of_key keys ls k) + length (group_of_key others rs k)) (keys_in_either keys others ls rs)
either_some keys others ls rs =
    AllByRecursion-weaker (λ k. (0 < length (group_of_key keys ls k)) ⊎ (0 < length (group_of_key others rs k)))
    (λ k. 0 < length (group_of_key keys ls k) + length (group_of_key others rs k)) (keys_in_either keys others ls rs)
    (λ k some. elim some as (λ _. 0 < length (group_of_key keys ls k) + length (group_of_key others rs k)) [
      | inl l ↦ omega (arith, l)
      | inr r ↦ omega (arith, r)
    ]) (distinct_keys_have_either keys others ls rs)

-- An operator whose calls agree on the fields that are needed above if their inputs agree on the fields that it needs.
-- Its keys are among these.
module _ (o : PlanOps) (fields n : ℕ) (left right want above : FieldSet) (apart : AreApart (Has left) (Has right)) where
  abbrev InPorts : Ports
  InPorts = ports left right (o.left_keys n) (o.right_keys n)

  abbrev pub HasTwinCalls : Kind → Type 0
  HasTwinCalls kind = HasFormAlone kind fields InPorts want above (called o n)

  -- ---- operators with one input

  lawful_record : (x : List Value) → IsWithin fields (Has left) x → IsLawful kinds.Map fields InPorts (of_record x)
  lawful_record x h = record { apart = apart; called = tt; some = tt; keyed = tt; left = (h, tt); right = tt }

  map_twins : HasTwinCalls kinds.Map → (xs ys : Bag) → Twins fields left want xs ys
      → AllZip (Agree above) (flat_map (o.of_record n) xs) (flat_map (o.of_record n) ys)
  map_twins form xs ys h =
      AllZip-flat_map (AreTwins fields left want) (Agree above) (o.of_record n) (o.of_record n) xs ys
      (λ x y t. form (of_record x) (of_record y) (lawful_record x t.first) (lawful_record y t.second) (record { left = (t.agree, tt); right = tt })) h

  module _ (read : AllByRecursion (Has want) (o.left_keys n)) where
    lawful_group : (k : List Value) (group : Bag) → 0 < length group → HaveKey (o.left_keys n) k group
        → AllByRecursion (IsWithin fields (Has left)) group → IsLawful kinds.Reduce fields InPorts (of_group k group)
    lawful_group k group some key h = record { apart = apart; called = tt; some = some; keyed = key; left = h; right = tt }

    grouped_twins : HasTwinCalls kinds.Reduce → (xs ys : Bag) → Twins fields left want xs ys → (ks : List (List Value))
        → AllByRecursion (λ k. 0 < length (group_of_key (o.left_keys n) xs k)) ks
        → (out : Bag) → Grouped (o.of_group n) (o.left_keys n) xs ks out
        → (now : Bag) × Grouped (o.of_group n) (o.left_keys n) ys ks now × AllZip (Agree above) out now
    grouped_twins form xs ys h [] some out p = ([], refl, subst (λ (l : Bag). AllZip (Agree above) l []) (sym p) tt)
    grouped_twins form xs ys h (k ∷ ks) some out p =
        let keys = o.left_keys n in
        let f = o.of_group n in
        let perm = from_permutation (group_of_key keys xs k) p.0 p.2 in
        let g = twin_group fields left want keys read xs ys k p.0 h perm in
        let r = grouped_twins form xs ys h ks some.1 p.1 p.4 in
        let long : 0 < length p.0 = omega (arith, some.0, length-perm perm) in
        let here = form (of_group k p.0) (of_group k g.0)
        (lawful_group k p.0 long (keyed fields left want keys read xs k p.0 perm) (firsts fields left want p.0 g.0 g.2))
        (lawful_group k g.0 (omega (arith, long, AllZip-length (AreTwins fields left want) p.0 g.0 g.2))
        (keyed fields left want keys read ys k g.0 g.1) (seconds fields left want p.0 g.0 g.2))
        (record { left = agreed fields left want p.0 g.0 g.2; right = tt }) in (
          f k g.0 ++ r.0,
          (g.0, r.0, to_permutation g.1, refl, r.1),
          subst (λ (l : Bag). AllZip (Agree above) l (f k g.0 ++ r.0)) (sym p.3) (AllZip-append (Agree above) (f k p.0) (f k g.0) p.1 r.0 here r.2),
        )

    pub gives_twins : (kind : OpKind) → HasTwinCalls (function_kind kind) → (xs ys out : Bag) → Twins fields left want xs ys → Gives o kind n xs out
        → (now : Bag) × Gives o kind n ys now × AllZip (Agree above) out now
    gives_twins Map form xs ys out h p = (
      flat_map (o.of_record n) ys,
      refl,
      subst (λ (l : Bag). AllZip (Agree above) l (flat_map (o.of_record n) ys)) (sym p) (map_twins form xs ys h),
    )
    gives_twins Reduce form xs ys out h p =
        let keys = o.left_keys n in
        let r = grouped_twins form xs ys h (keys_in keys xs) (distinct_keys_have_groups keys xs) out p in (
          r.0,
          subst (λ (ks : List (List Value)). Grouped (o.of_group n) keys ys (distinct_keys ks) r.0)
              (twin_keys fields left want keys read xs ys h) r.1,
          r.2,
        )
    gives_twins kind form xs ys out h p = absurd p

    -- ---- operators with two inputs

    module _ (right_read : AllByRecursion (Has want) (o.right_keys n)) where
      pair_twins : (kind : Kind) → ((l r : List Value) → IsInputOf kind (of_pair l r)) → HasTwinCalls kind → (l m r s : List Value)
          → AreTwins fields left want l m → AreTwins fields right want r s
          → AllZip (Agree above) (o.of_pair n l r) (o.of_pair n m s)
      pair_twins kind fits form l m r s t u =
          form (of_pair l r) (of_pair m s)
          (record { apart = apart; called = fits l r; some = tt; keyed = tt; left = (t.first, tt); right = (u.first, tt) })
          (record { apart = apart; called = fits m s; some = tt; keyed = tt; left = (t.second, tt); right = (u.second, tt) })
          (record { left = (t.agree, tt); right = (u.agree, tt) })

      crossed_twins : (f : List Value → List Value → Bag)
          → ((l m r s : List Value) → AreTwins fields left want l m → AreTwins fields right want r s → AllZip (Agree above) (f l r) (f m s))
          → (ls ms rs ss : Bag)
          → Twins fields left want ls ms → Twins fields right want rs ss → AllZip (Agree above) (crossed f ls rs) (crossed f ms ss)
      crossed_twins f e ls ms rs ss h j =
          AllZip-flat_map (AreTwins fields left want) (Agree above) (λ l. flat_map (f l) rs) (λ m. flat_map (f m) ss) ls ms
          (λ l m t. AllZip-flat_map (AreTwins fields right want) (Agree above) (f l) (f m) rs ss (λ r s u. e l m r s t u) j) h

      unless_null_twins : HasTwinCalls kinds.Match → (l m r s : List Value) → AreTwins fields left want l m → AreTwins fields right want r s
          → AllZip (Agree above) (unless_null o.nulls (o.of_pair n) (o.left_keys n) l r) (unless_null o.nulls (o.of_pair n) (o.left_keys n) m s)
      unless_null_twins form l m r s t u =
          subst (λ (key : List Value). AllZip (Agree above) (unless_null o.nulls (o.of_pair n) (o.left_keys n) l r)
          (cond (o.nulls || not (has_null key)) (o.of_pair n m s) []))
          (twin_key fields left want (o.left_keys n) read l m t)
          (AllZip-cond (Agree above) (o.nulls || not (has_null (key_of (o.left_keys n) l))) (o.of_pair n l r) (o.of_pair n m s)
          (pair_twins kinds.Match (λ a b. tt) form l m r s t u))

      matched_twins : HasTwinCalls kinds.Match → (l m r s : List Value) → AreTwins fields left want l m → AreTwins fields right want r s
          → AllZip (Agree above) (matched o.nulls (o.of_pair n) (o.left_keys n) (o.right_keys n) l r)
          (matched o.nulls (o.of_pair n) (o.left_keys n) (o.right_keys n) m s)
      matched_twins form l m r s t u =
          let same : do_match (o.left_keys n) (o.right_keys n) l r ≡ do_match (o.left_keys n) (o.right_keys n) m s =
          λ i. is_same_key (twin_key fields left want (o.left_keys n) read l m t i)
          (twin_key fields right want (o.right_keys n) right_read r s u i) in
          subst (λ (b : Bool). AllZip (Agree above) (matched o.nulls (o.of_pair n) (o.left_keys n) (o.right_keys n) l r)
          (cond b (unless_null o.nulls (o.of_pair n) (o.left_keys n) m s) [])) same
          (AllZip-cond (Agree above) (do_match (o.left_keys n) (o.right_keys n) l r) (unless_null o.nulls (o.of_pair n) (o.left_keys n) l r)
          (unless_null o.nulls (o.of_pair n) (o.left_keys n) m s)
          (unless_null_twins form l m r s t u))

      lawful_groups : (k : List Value) (l r : Bag) → 0 < length l + length r → HaveKey (o.left_keys n) k l → HaveKey (o.right_keys n) k r
          → AllByRecursion (IsWithin fields (Has left)) l
          → AllByRecursion (IsWithin fields (Has right)) r → IsLawful kinds.CoGroup fields InPorts (of_groups k l r)
      lawful_groups k l r some key other h j = record { apart = apart; called = tt; some = some; keyed = (key, other); left = h; right = j }

      cogrouped_twins : HasTwinCalls kinds.CoGroup → (ls ms rs ss : Bag) → Twins fields left want ls ms → Twins fields right want rs ss
          → (ks : List (List Value))
          → AllByRecursion (λ k. 0 < length (group_of_key (o.left_keys n) ls k) + length (group_of_key (o.right_keys n) rs k)) ks → (out : Bag)
          → CoGrouped (o.of_groups n) (o.left_keys n) (o.right_keys n) ls rs ks out
          → (now : Bag) × CoGrouped (o.of_groups n) (o.left_keys n) (o.right_keys n) ms ss ks now × AllZip (Agree above) out now
      cogrouped_twins form ls ms rs ss h j [] some out p = ([], refl, subst (λ (l : Bag). AllZip (Agree above) l []) (sym p) tt)
      cogrouped_twins form ls ms rs ss h j (k ∷ ks) some out p =
          let keys = o.left_keys n in
          let others = o.right_keys n in
          let f = o.of_groups n in
          let lp = from_permutation (group_of_key keys ls k) p.0 p.3 in
          let rp = from_permutation (group_of_key others rs k) p.1 p.4 in
          let g = twin_group fields left want keys read ls ms k p.0 h lp in
          let e = twin_group fields right want others right_read rs ss k p.1 j rp in
          let rest = cogrouped_twins form ls ms rs ss h j ks some.1 p.2 p.6 in
          let long : 0 < length p.0 + length p.1 = omega (arith, some.0, length-perm lp, length-perm rp) in
          let here = form (of_groups k p.0 p.1) (of_groups k g.0 e.0)
          (lawful_groups k p.0 p.1 long (keyed fields left want keys read ls k p.0 lp) (keyed fields right want others right_read rs k p.1 rp)
          (firsts fields left want p.0 g.0 g.2) (firsts fields right want p.1 e.0 e.2))
          (lawful_groups k g.0 e.0 (omega
          (arith, long, AllZip-length (AreTwins fields left want) p.0 g.0 g.2, AllZip-length (AreTwins fields right want) p.1 e.0 e.2))
          (keyed fields left want keys read ms k g.0 g.1) (keyed fields right want others right_read ss k e.0 e.1)
          (seconds fields left want p.0 g.0 g.2) (seconds fields right want p.1 e.0 e.2))
          (record { left = agreed fields left want p.0 g.0 g.2; right = agreed fields right want p.1 e.0 e.2 }) in (
            f k g.0 e.0 ++ rest.0,
            (g.0, e.0, rest.0, to_permutation g.1, to_permutation e.1, refl, rest.1),
            subst (λ (l : Bag). AllZip (Agree above) l (f k g.0 e.0 ++ rest.0)) (sym p.5)
                (AllZip-append (Agree above) (f k p.0 p.1) (f k g.0 e.0) p.2 rest.0 here rest.2),
          )

      pub gives_both_twins : (kind : OpKind) → HasTwinCalls (function_kind kind) → (ls ms rs ss out : Bag) → Twins fields left want ls ms
          → Twins fields right want rs ss → GivesBoth o kind n ls rs out
          → (now : Bag) × GivesBoth o kind n ms ss now × AllZip (Agree above) out now
      gives_both_twins Match form ls ms rs ss out h j p =
          let f = matched o.nulls (o.of_pair n) (o.left_keys n) (o.right_keys n) in (
            crossed f ms ss,
            refl,
            subst (λ (l : Bag). AllZip (Agree above) l (crossed f ms ss)) (sym p) (crossed_twins f (matched_twins form) ls ms rs ss h j),
          )
      gives_both_twins Cross form ls ms rs ss out h j p =
          let f = o.of_pair n in (
            crossed f ms ss,
            refl,
            subst (λ (l : Bag). AllZip (Agree above) l (crossed f ms ss)) (sym p)
                (crossed_twins f (pair_twins kinds.Cross (λ a b. tt) form) ls ms rs ss h j),
          )
      gives_both_twins CoGroup form ls ms rs ss out h j p =
          let keys = o.left_keys n in
          let others = o.right_keys n in
          let r = cogrouped_twins form ls ms rs ss h j (keys_in_either keys others ls rs) (either_some keys others ls rs) out p in
          let same : keys_in_either keys others ls rs ≡ keys_in_either keys others ms ss =
          λ i. distinct_keys (twin_keys fields left want keys read ls ms h i ++ twin_keys fields right want others right_read rs ss j i) in
          (r.0, subst (λ (ks : List (List Value)). CoGrouped (o.of_groups n) keys others ms ss ks r.0) same r.1, r.2)
      gives_both_twins kind form ls ms rs ss out h j p = absurd p
