-- A Map over what a grouping function emits for all keys, and under it.
use Rattle.std.proofs.Common.{◌≡◌, ◌<◌, ◌≤◌, ◌+◌, ◌⊎◌, inl, inr, ℕ, zero, suc, Bool, true, false, cond, List, [], ◌∷◌, ◌++◌, length, refl, sym, ap, subst, ◌∙◌, arith}
use Rattle.std.proofs.lemmas.List.{nil_from_length}
use Rattle.std.specs.Prelude.{flat_map}
use Rattle.std.specs.List.{AllByRecursion}
use Rattle.std.proofs.lemmas.Bool.{both_ways}
use Rattle.std.proofs.lemmas.List.Elements.{filter-append}
use Rattle.std.proofs.lemmas.Slice.Zip.{AllZip-long}
use Rattle.pact_record.specs.Record.{key_of}
use Rattle.pact_record.proofs.Lists.{AllByRecursion-filter}
use Rattle.pact_record.proofs.Permutations.{Perm, chains, each_perm, filter_perm, flat_map_perm, is_same, length-perm, same, turned}
use Rattle.pact_record.proofs.SideBySide.{AllZip-permuted, AllZip-turned}
use Rattle.pact_bag.specs.Groups.{group_of_key, is_same_key}
use Rattle.pact_bag.proofs.KeyGroups.{group_keys, occurs}
use Rattle.pact_bag.proofs.KeyLists.{Key}
use Rattle.pact_bag.proofs.KeysOfBags.{AreKeysOf}
use Rattle.tac_syntax.specs.Forms.{IsWithin}
use Rattle.pact_operators.specs.Allowed.{Bag}
use Rattle.pact_operators.proofs.ChosenForKeys.{AreChosen, IsGivenFor}
use Rattle.reorder_pair.proofs.FunctionForms.{Row}
use Rattle.reorder_group.proofs.FunctionsOverChosen.{Carries, carried, carried_back}
use Rattle.reorder_group.proofs.SideGroups.{IsCall, IsMove, Move, flat_map-nones, flat_map-ones, group_of_nones, group_of_ones, group_of_others, one_keyed, one_record, settled}

-- what is emitted with the Map above, and with the Map below, up to order
pub given_above : (f : Row → Bag) (out rows now bag : Bag) → Perm (flat_map f out) now → Perm out rows → Perm (flat_map f rows) bag → Perm now bag
given_above f out rows now bag moved below above = chains (turned moved) (chains (flat_map_perm f below) above)

none_left : (n : ℕ) → (0 < n → ⊥) → n ≡ 0
none_left zero h = refl
none_left (suc n) h = absurd (h (omega arith))

at_most_one : (n : ℕ) → n ≤ 1 → (n ≡ 0) ⊎ (n ≡ 1)
at_most_one zero h = inl refl
at_most_one (suc n) h = inr (omega (arith, h))

module _ (fields : ℕ) (m : Move) (x : IsMove fields m) where
  -- ---- the groups of what the Map emits

  group_of_none : (k : Key) (l : Bag) (b : Bool) → l ≡ [] → group_of_key m.keys l k ≡ cond b l []
  group_of_none k l true e = ap (λ (z : Bag). group_of_key m.keys z k) e ∙ sym e
  group_of_none k l false e = ap (λ (z : Bag). group_of_key m.keys z k) e

  group_of_one : (k : Key) (s : Row) (l : Bag) (b : Bool) → l ≡ s ∷ [] → is_same_key (key_of m.keys s) k ≡ b → group_of_key m.keys l k ≡ cond b l []
  group_of_one k s l b e is = ap (λ (z : Bag). group_of_key m.keys z k) e ∙ ap (λ (t : Bool). cond t (s ∷ []) []) is ∙ ap (λ (z : Bag). cond b z []) (sym e)

  group_of_each : (k : Key) (r : Row) → IsWithin fields m.below r → group_of_key m.keys (m.each r) k ≡ cond (is_same_key (key_of m.keys r) k) (m.each r) []
  group_of_each k r fit =
      let b = is_same_key (key_of m.keys r) k in
      elim (at_most_one (length (m.each r)) (x.keeps.few r (x.below_each r fit))) as (λ _. group_of_key m.keys (m.each r) k ≡ cond b (m.each r) []) [
        | inl e ↦ group_of_none k (m.each r) b (nil_from_length (m.each r) e)
        | inr e ↦
            let one = one_record (m.each r) e in
            group_of_one k one.0 (m.each r) b one.1 (ap (λ (j : Key). is_same_key j k) (sym (one_keyed fields m x r one.0 (x.below_each r fit) one.1)))
      ]

  flat_map-kept : (b : Bool) (r : Row) (group : Bag) → cond b (m.each r) [] ++ flat_map m.each group ≡ flat_map m.each (cond b (r ∷ group) group)
  flat_map-kept true r group = refl
  flat_map-kept false r group = refl

  group_of_flat_map : (k : Key) (ls : Bag) → AllByRecursion (IsWithin fields m.below) ls → group_of_key m.keys (flat_map m.each ls) k ≡ flat_map m.each (group_of_key m.keys ls k)
  group_of_flat_map k [] fit = refl
  group_of_flat_map k (r ∷ ls) fit =
      filter-append (λ s. is_same_key (key_of m.keys s) k) (m.each r) (flat_map m.each ls) ∙ (λ i. group_of_each k r fit.0 i ++ group_of_flat_map k ls fit.1 i)
      ∙ flat_map-kept (is_same_key (key_of m.keys r) k) r (group_of_key m.keys ls k)

  no_rows : {rows : Bag} → Perm [] rows → rows ≡ []
  no_rows {rows} p = nil_from_length rows (sym (length-perm p))

  more_before : (xs zs : Bag) → 0 < length (flat_map m.each xs) + length zs → 0 < length xs + length zs
  more_before [] zs h = h
  more_before (r ∷ xs) zs h = omega arith

  module _ (ls now rs : Bag) (fit : AllByRecursion (IsWithin fields m.below) ls) (fit_others : AllByRecursion m.other rs) (moved : Perm (flat_map m.each ls) now) where
    abbrev Before : Key → Bag → Type 0
    Before k out = IsGivenFor m.group m.keys m.other_keys ls rs k out

    abbrev Now : Key → Bag → Type 0
    Now k out = IsGivenFor m.group m.keys m.other_keys now rs k out

    group_now : (k : Key) → Perm (flat_map m.each (group_of_key m.keys ls k)) (group_of_key m.keys now k)
    group_now k = chains (is_same (sym (group_of_flat_map k ls fit))) (filter_perm (λ r. is_same_key (key_of m.keys r) k) moved)

    group_fit : (k : Key) → AllByRecursion (IsWithin fields m.below) (group_of_key m.keys ls k)
    group_fit k = AllByRecursion-filter (IsWithin fields m.below) (λ r. is_same_key (key_of m.keys r) k) ls fit

    -- a call for the groups of both sides, in any order
    call_of : (k : Key) (xs zs : Bag) → Perm (group_of_key m.keys ls k) xs → Perm (group_of_key m.other_keys rs k) zs → 0 < length xs + length zs → IsCall fields m m.below k xs zs
    call_of k xs zs p q some = record {
      some = some;
      fit = each_perm (IsWithin fields m.below) p (group_fit k);
      fit_others = each_perm m.other q (AllByRecursion-filter m.other (λ r. is_same_key (key_of m.other_keys r) k) rs fit_others);
      keyed = each_perm (λ r. key_of m.keys r ≡ k) p (group_keys m.keys ls k);
      keyed_others = each_perm (λ r. key_of m.other_keys r ≡ k) q (group_keys m.other_keys rs k);
    }

    -- if records are left on either side
    call_moved : (k : Key) (xs zs : Bag) → Perm (group_of_key m.keys ls k) xs → Perm (group_of_key m.other_keys rs k) zs → 0 < length (flat_map m.each xs) + length zs
        → flat_map m.each (m.group k xs zs) ≡ m.group k (flat_map m.each xs) zs
    call_moved k xs zs p q left =
        let c = call_of k xs zs p q (more_before xs zs left) in
        elim (settled fields m x k xs c.fit c.keyed) as (λ _. flat_map m.each (m.group k xs zs) ≡ m.group k (flat_map m.each xs) zs) [
          | inl ones ↦ group_of_ones fields m x k xs ones.0 zs c ones.1 ∙ ap (λ (l : Bag). m.group k l zs) (sym (flat_map-ones fields m x xs ones.0 ones.1))
          | inr nones ↦
              let e = flat_map-nones fields m x xs nones in
              let some : 0 < length zs = omega (arith, left, ap length e) in
              let alone : IsCall fields m m.below k [] zs = record { some = omega (arith, some); fit = tt; fit_others = c.fit_others; keyed = tt; keyed_others = c.keyed_others } in
              group_of_nones fields m x k xs zs c nones ∙ sym (ap (λ (l : Bag). m.group k l zs) e ∙ group_of_others fields m x k zs alone)
        ]

    -- if none is left
    call_gone : (k : Key) (xs zs : Bag) → IsCall fields m m.below k xs zs → length (flat_map m.each xs) + length zs ≡ 0 → flat_map m.each (m.group k xs zs) ≡ []
    call_gone k xs zs c e = elim (settled fields m x k xs c.fit c.keyed) as (λ _. flat_map m.each (m.group k xs zs) ≡ []) [
      | inl ones ↦ absurd (omega (arith, c.some, e, AllZip-long (λ r s. m.each r ≡ s ∷ []) xs ones.0 ones.1, ap length (flat_map-ones fields m x xs ones.0 ones.1)))
      | inr nones ↦ group_of_nones fields m x k xs zs c nones
    ]

    -- records of a key for which the Map emits these, in this order
    unmapped : (k : Key) (ys : Bag) → Perm (flat_map m.each (group_of_key m.keys ls k)) ys → (xs : Bag) × Perm (group_of_key m.keys ls k) xs × (flat_map m.each xs ≡ ys)
    unmapped k ys p =
        let G = group_of_key m.keys ls k in
        let One = λ (r s : Row). m.each r ≡ s ∷ [] in
        elim (settled fields m x k G (group_fit k) (group_keys m.keys ls k)) as (λ _. (xs : Bag) × Perm G xs × (flat_map m.each xs ≡ ys)) [
          | inl ones ↦
              let to_ys = subst (λ (z : Bag). Perm z ys) (flat_map-ones fields m x G ones.0 ones.1) p in
              let back = AllZip-permuted (λ s r. m.each r ≡ s ∷ []) to_ys G (AllZip-turned One G ones.0 ones.1) in
              (back.0, back.1, flat_map-ones fields m x back.0 ys (AllZip-turned (λ s r. m.each r ≡ s ∷ []) ys back.0 back.2))
          | inr nones ↦ let e = flat_map-nones fields m x G nones in (G, same G, e ∙ sym (no_rows (subst (λ (z : Bag). Perm z ys) e p)))
        ]

    module _ (ks js : List Key) (of_ks : AreKeysOf m.keys m.other_keys ls rs ks) (of_js : AreKeysOf m.keys m.other_keys now rs js) where
      -- a key in the list has records
      some_of : (k : Key) → occurs k ks ≡ true → (xs zs : Bag) → Perm (group_of_key m.keys ls k) xs → Perm (group_of_key m.other_keys rs k) zs → 0 < length xs + length zs
      some_of k o xs zs p q = omega (arith, (of_ks.occur k).0 o, length-perm p, length-perm q)

      left_of : (k : Key) → occurs k js ≡ true → (xs zs : Bag) → Perm (group_of_key m.keys ls k) xs → Perm (group_of_key m.other_keys rs k) zs → 0 < length (flat_map m.each xs) + length zs
      left_of k o xs zs p q = omega (arith, (of_js.occur k).0 o, length-perm (group_now k), length-perm (flat_map_perm m.each p), length-perm q)

      -- a key that is only in the list before has none left
      none_of : (k : Key) → occurs k js ≡ false → (xs zs : Bag) → Perm (group_of_key m.keys ls k) xs → Perm (group_of_key m.other_keys rs k) zs → length (flat_map m.each xs) + length zs ≡ 0
      none_of k o xs zs p q =
          none_left (length (flat_map m.each xs) + length zs)
          (λ some. both_ways (occurs k js) o ((of_js.occur k).1 (omega (arith, some, length-perm (group_now k), length-perm (flat_map_perm m.each p), length-perm q))))

      carries : Carries m.each Before Now ks js
      carries = record {
        forth = λ k o out h.
            (flat_map m.each h.0, h.1, chains (turned (group_now k)) (flat_map_perm m.each h.2), h.3, ap (flat_map m.each) h.4 ∙ call_moved k h.0 h.1 h.2 h.3 (left_of k o h.0 h.1 h.2 h.3));
        back = λ k o out h.
            let u = unmapped k h.0 (chains (group_now k) h.2) in
            (m.group k u.0 h.1, (u.0, h.1, u.1, h.3, refl), call_moved k u.0 h.1 u.1 h.3 (left_of k o u.0 h.1 u.1 h.3) ∙ ap (λ (l : Bag). m.group k l h.1) u.2 ∙ sym h.4);
        others_nothing = λ k o off out h.
            ap (flat_map m.each) h.4 ∙ call_gone k h.0 h.1 (call_of k h.0 h.1 h.2 h.3 (some_of k o h.0 h.1 h.2 h.3)) (none_of k off h.0 h.1 h.2 h.3);
        others_some = λ k o off.
            let G = group_of_key m.keys ls k in
            let H = group_of_key m.other_keys rs k in
            (m.group k G H, (G, H, same G, same H, refl));
        once = of_ks.once;
        once_now = of_js.once;
        has_all = λ k o.
            let G = group_of_key m.keys ls k in
            let H = group_of_key m.other_keys rs k in
            (of_ks.occur k).1 (more_before G H (left_of k o G H (same G) (same H)));
      }

      pub side_moved : (out : Bag) → AreChosen Before ks out → (after : Bag) × AreChosen Now js after × Perm (flat_map m.each out) after
      side_moved out h = carried m.each Before Now ks js carries out h

      pub side_moved_back : (after : Bag) → AreChosen Now js after → (out : Bag) × AreChosen Before ks out × Perm (flat_map m.each out) after
      side_moved_back after h = carried_back m.each Before Now ks js carries after h
