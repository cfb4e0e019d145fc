-- The records of a bag that a plan allows are Null outside the plan's attributes.
use Rattle.std.proofs.Common.{◌≡◌, ◌<◌, ◌+◌, ◌⊎◌, ◌||◌, not, inl, inr, ℕ, List, [], ◌∷◌, length, refl, sym, subst}
use Rattle.std.specs.List.{AllByRecursion}
use Rattle.pact_bag.specs.Groups.{is_same_key}
use Rattle.pact_record.specs.Widths.{AreWide}
use Rattle.pact_record.specs.declared.values.Value.{Value}
use Rattle.pact_record.specs.Record.{key_of}
use Rattle.pact_record.proofs.Lists.{AllByRecursion-cond, AllByRecursion-flat_map, AllByRecursion-weaker}
use Rattle.pact_record.proofs.Permutations.{from_permutation, each_perm}
use Rattle.tac_syntax.specs.Bounded.{SomeHasValue, InputHasValue}
use Rattle.tac_syntax.specs.Call.{CallInput, of_record, of_pair, of_group, of_groups}
use Rattle.tac_syntax.specs.Forms.{IsWithin, left_records, right_records, HaveKey}
use Rattle.tac_syntax.specs.Valid.{WithFields}
use Rattle.tac_syntax.specs.declared.declarations.OpKind.{OpKind}
use Rattle.tac_syntax.specs.declared.declarations.OpKind.TheVariants.{Source, Map, Reduce, Match, Cross, CoGroup}
use Rattle.plan_trees.specs.Plans.{PlanTree, leaf, over, both}
use Rattle.pact_operators.specs.declared.operators.Op.{Op}
use Rattle.pact_operators.specs.Allowed.{Bag, Allows, Gives, GivesBoth}
use Rattle.pact_bag.specs.Pairs.{has_null, matched, unless_null}
use Rattle.pact_operators.specs.PlanOps.{PlanOps}
use Rattle.pact_operators.specs.Programs.{HasAttribute, Owns}
use Rattle.pact_operators.specs.SoundOps.{AreOpsOf, IsCallOf, called}
use Rattle.pact_operators.proofs.SourceKinds.{no_source}
use Rattle.pact_operators.proofs.EachOfGroups.{cogrouped_each, crossed_each, grouped_each}
use Rattle.pact_operators.proofs.WithinFields.{all_within_larger}

pub all_wide : (fields : ℕ) (s : ℕ → Type 0) (rows : Bag) → AllByRecursion (IsWithin fields s) rows → AreWide fields rows
all_wide fields s rows h = AllByRecursion-weaker (IsWithin fields s) (λ row. length row ≡ fields) rows (λ row w. w.width) h

none_has : (fields : ℕ) (s : ℕ → Type 0) (k : ℕ) → (s k → ⊥) → (rows : Bag) → AllByRecursion (IsWithin fields s) rows → SomeHasValue k rows → ⊥
none_has fields s k out [] h v = v
none_has fields s k out (row ∷ rows) h v = elim v as (λ _. ⊥) [ inl here ↦ here (h.0.null k out) | inr there ↦ none_has fields s k out rows h.1 there ]

input_has_none : (fields : ℕ) (s t : ℕ → Type 0) (k : ℕ) → (s k → ⊥) → (t k → ⊥) → (x : CallInput) → AllByRecursion (IsWithin fields s) (left_records x) → AllByRecursion (IsWithin fields t) (right_records x)
    → InputHasValue k x → ⊥
input_has_none fields s t k out off (of_record row) h j v = v (h.0.null k out)
input_has_none fields s t k out off (of_pair l r) h j v = elim v as (λ _. ⊥) [ inl a ↦ a (h.0.null k out) | inr b ↦ b (j.0.null k off) ]
input_has_none fields s t k out off (of_group key group) h j v = none_has fields s k out group h v
input_has_none fields s t k out off (of_groups key l r) h j v = elim v as (λ _. ⊥) [ inl a ↦ none_has fields s k out l h a | inr b ↦ none_has fields t k off r j b ]

-- ---- the inputs that each kind of operator is called for

pub IsCallOf-record : (kind : OpKind) (ks js : List ℕ) (row : List Value) → kind ≡ Map → IsCallOf kind ks js (of_record row)
IsCallOf-record kind ks js row e = subst (λ (q : OpKind). IsCallOf q ks js (of_record row)) (sym e) (record { operator = no_source Map refl; called = tt; some = tt; keyed = tt })

pub IsCallOf-match : (kind : OpKind) (ks js : List ℕ) (l r : List Value) → kind ≡ Match → IsCallOf kind ks js (of_pair l r)
IsCallOf-match kind ks js l r e = subst (λ (q : OpKind). IsCallOf q ks js (of_pair l r)) (sym e) (record { operator = no_source Match refl; called = tt; some = tt; keyed = tt })

pub IsCallOf-cross : (kind : OpKind) (ks js : List ℕ) (l r : List Value) → kind ≡ Cross → IsCallOf kind ks js (of_pair l r)
IsCallOf-cross kind ks js l r e = subst (λ (q : OpKind). IsCallOf q ks js (of_pair l r)) (sym e) (record { operator = no_source Cross refl; called = tt; some = tt; keyed = tt })

pub IsCallOf-group : (kind : OpKind) (ks js : List ℕ) (key : List Value) (group : Bag) → kind ≡ Reduce → 0 < length group → HaveKey ks key group → IsCallOf kind ks js (of_group key group)
IsCallOf-group kind ks js key group e some h =
    subst (λ (q : OpKind). IsCallOf q ks js (of_group key group)) (sym e) (record { operator = no_source Reduce refl; called = tt; some = some; keyed = h })

pub IsCallOf-groups : (kind : OpKind) (ks js : List ℕ) (key : List Value) (l r : Bag) → kind ≡ CoGroup → 0 < length l + length r → HaveKey ks key l → HaveKey js key r → IsCallOf kind ks js (of_groups key l r)
IsCallOf-groups kind ks js key l r e some h j =
    subst (λ (q : OpKind). IsCallOf q ks js (of_groups key l r)) (sym e) (record { operator = no_source CoGroup refl; called = tt; some = some; keyed = (h, j) })

-- the fields of an operator, and those of its one or two inputs
abbrev pub Over : List WithFields → List Op → ℕ → (ℕ → Type 0) → ℕ → Type 0
Over v ops n s k = Owns v ops n k ⊎ s k

abbrev pub OverBoth : List WithFields → List Op → ℕ → (ℕ → Type 0) → (ℕ → Type 0) → ℕ → Type 0
OverBoth v ops n s t k = Owns v ops n k ⊎ s k ⊎ t k

module _ (fields : ℕ) (v : List WithFields) (ops : List Op) (o : PlanOps) (good : AreOpsOf fields v ops o) where
  pub call_fits : (n : ℕ) (s t : ℕ → Type 0) (x : CallInput) → IsCallOf (o.kind n) (o.left_keys n) (o.right_keys n) x → AllByRecursion (IsWithin fields s) (left_records x)
      → AllByRecursion (IsWithin fields t) (right_records x) → AllByRecursion (IsWithin fields (OverBoth v ops n s t)) (called o n x)
  call_fits n s t x c h j =
      all_within_larger fields (λ k. InputHasValue k x ⊎ Owns v ops n k) (OverBoth v ops n s t) (called o n x)
      (λ k out p. elim p as (λ _. ⊥) [
        | inl has ↦ input_has_none fields s t k (λ a. out (inr (inl a))) (λ b. out (inr (inr b))) x h j has
        | inr own ↦ out (inl own)
      ])
      (good.calls n x c (all_wide fields s (left_records x) h) (all_wide fields t (right_records x) j))

  -- with one input
  pub call_fits_one : (n : ℕ) (s : ℕ → Type 0) (x : CallInput) → IsCallOf (o.kind n) (o.left_keys n) (o.right_keys n) x → AllByRecursion (IsWithin fields s) (left_records x)
      → AllByRecursion (IsWithin fields (λ k. ⊥)) (right_records x) → AllByRecursion (IsWithin fields (Over v ops n s)) (called o n x)
  call_fits_one n s x c h j =
      all_within_larger fields (OverBoth v ops n s (λ k. ⊥)) (Over v ops n s) (called o n x)
      (λ k out p. elim p as (λ _. ⊥) [ inl own ↦ out (inl own) | inr q ↦ elim q as (λ _. ⊥) [ inl a ↦ out (inr a) | inr b ↦ b ] ])
      (call_fits n s (λ k. ⊥) x c h j)

  pub map_fits : (n : ℕ) (s : ℕ → Type 0) → o.kind n ≡ Map → (row : List Value) → IsWithin fields s row → AllByRecursion (IsWithin fields (Over v ops n s)) (o.of_record n row)
  map_fits n s e row h = call_fits_one n s (of_record row) (IsCallOf-record (o.kind n) (o.left_keys n) (o.right_keys n) row e) (h, tt) tt

  pub match_fits : (n : ℕ) (s t : ℕ → Type 0) → o.kind n ≡ Match → (l r : List Value) → IsWithin fields s l → IsWithin fields t r → AllByRecursion (IsWithin fields (OverBoth v ops n s t)) (o.of_pair n l r)
  match_fits n s t e l r h j = call_fits n s t (of_pair l r) (IsCallOf-match (o.kind n) (o.left_keys n) (o.right_keys n) l r e) (h, tt) (j, tt)

  pub cross_fits : (n : ℕ) (s t : ℕ → Type 0) → o.kind n ≡ Cross → (l r : List Value) → IsWithin fields s l → IsWithin fields t r → AllByRecursion (IsWithin fields (OverBoth v ops n s t)) (o.of_pair n l r)
  cross_fits n s t e l r h j = call_fits n s t (of_pair l r) (IsCallOf-cross (o.kind n) (o.left_keys n) (o.right_keys n) l r e) (h, tt) (j, tt)

  -- ---- what an operator emits

  gives_fits : (n : ℕ) (s : ℕ → Type 0) (kind : OpKind) → o.kind n ≡ kind → (ls out : Bag) → AllByRecursion (IsWithin fields s) ls → Gives o kind n ls out → AllByRecursion (IsWithin fields (Over v ops n s)) out
  gives_fits n s Map e ls out h p =
      subst (AllByRecursion (IsWithin fields (Over v ops n s))) (sym p) (AllByRecursion-flat_map (IsWithin fields s) (IsWithin fields (Over v ops n s)) (o.of_record n) ls h (λ r fr. map_fits n s e r fr))
  gives_fits n s Reduce e ls out h p =
      grouped_each (IsWithin fields s) (IsWithin fields (Over v ops n s)) (o.left_keys n) (o.of_group n) ls h
      (λ k group fg kg some. call_fits_one n s (of_group k group) (IsCallOf-group (o.kind n) (o.left_keys n) (o.right_keys n) k group e some kg) fg tt) out p
  gives_fits n s kind e ls out h p = absurd p

  both_fits : (n : ℕ) (s t : ℕ → Type 0) (kind : OpKind) → o.kind n ≡ kind → (ls rs out : Bag) → AllByRecursion (IsWithin fields s) ls → AllByRecursion (IsWithin fields t) rs → GivesBoth o kind n ls rs out
      → AllByRecursion (IsWithin fields (OverBoth v ops n s t)) out
  both_fits n s t Source e ls rs out h j p = absurd p
  both_fits n s t Map e ls rs out h j p = absurd p
  both_fits n s t Reduce e ls rs out h j p = absurd p
  both_fits n s t Match e ls rs out h j p =
      subst (AllByRecursion (IsWithin fields (OverBoth v ops n s t))) (sym p) (crossed_each (IsWithin fields s) (IsWithin fields t) (IsWithin fields (OverBoth v ops n s t)) (matched o.nulls (o.of_pair n) (o.left_keys n) (o.right_keys n)) ls rs h j
      (λ l r fl fr. AllByRecursion-cond (IsWithin fields (OverBoth v ops n s t)) (is_same_key (key_of (o.left_keys n) l) (key_of (o.right_keys n) r)) (unless_null o.nulls (o.of_pair n) (o.left_keys n) l r) []
      (AllByRecursion-cond (IsWithin fields (OverBoth v ops n s t)) (o.nulls || not (has_null (key_of (o.left_keys n) l))) (o.of_pair n l r) [] (match_fits n s t e l r fl fr) tt) tt))
  both_fits n s t Cross e ls rs out h j p =
      subst (AllByRecursion (IsWithin fields (OverBoth v ops n s t))) (sym p) (crossed_each (IsWithin fields s) (IsWithin fields t) (IsWithin fields (OverBoth v ops n s t)) (o.of_pair n) ls rs h j (λ l r fl fr. cross_fits n s t e l r fl fr))
  both_fits n s t CoGroup e ls rs out h j p =
      cogrouped_each (IsWithin fields s) (IsWithin fields t) (IsWithin fields (OverBoth v ops n s t)) (o.left_keys n) (o.right_keys n) (o.of_groups n) ls rs h j
      (λ k left right fl fr kl kr some. call_fits n s t (of_groups k left right) (IsCallOf-groups (o.kind n) (o.left_keys n) (o.right_keys n) k left right e some kl kr) fl fr) out p

  pub lawful_bags : (t : PlanTree) (bag : Bag) → Allows o t bag → AllByRecursion (IsWithin fields (HasAttribute v ops t)) bag
  lawful_bags (leaf n) bag h = each_perm (IsWithin fields (Owns v ops n)) (from_permutation (o.rows n) bag h.0.permuted) (good.rows n h.0.source)
  lawful_bags (over n t) bag h =
      let e = h.0 in
      each_perm (IsWithin fields (HasAttribute v ops (over n t))) (from_permutation e.out bag e.permuted)
      (gives_fits n (HasAttribute v ops t) (o.kind n) refl e.rows e.out (lawful_bags t e.rows e.below) e.given)
  lawful_bags (both n t u) bag h =
      let e = h.0 in
      each_perm (IsWithin fields (HasAttribute v ops (both n t u))) (from_permutation e.out bag e.permuted)
      (both_fits n (HasAttribute v ops t) (HasAttribute v ops u) (o.kind n) refl e.left_rows e.right_rows e.out
      (lawful_bags t e.left_rows e.left_below) (lawful_bags u e.right_rows e.right_below) e.given)
