-- Operators of two programs that do the same.
use Rattle.std.proofs.Common.{◌≡◌, ℕ, Bool, List, sym, subst}
use Rattle.std.specs.Prelude.{flat_map}
use Rattle.pact_record.specs.declared.values.Value.{Value}
use Rattle.tac_syntax.specs.declared.declarations.OpKind.{OpKind}
use Rattle.tac_syntax.specs.declared.declarations.OpKind.TheVariants.{Map, Reduce, Match, Cross, CoGroup}
use Rattle.pact_operators.specs.Allowed.{Bag, CoGrouped, Gives, GivesBoth, Grouped, keys_in, keys_in_either}
use Rattle.pact_bag.specs.Pairs.{crossed, matched}
use Rattle.pact_operators.specs.PlanOps.{PlanOps}

pub record DoSame (o p : PlanOps) (n : ℕ) : Type 0 where
  pub nulls : o.nulls ≡ p.nulls
  pub kind : o.kind n ≡ p.kind n
  pub of_record : o.of_record n ≡ p.of_record n
  pub of_pair : o.of_pair n ≡ p.of_pair n
  pub of_group : o.of_group n ≡ p.of_group n
  pub of_groups : o.of_groups n ≡ p.of_groups n
  pub left_keys : o.left_keys n ≡ p.left_keys n
  pub right_keys : o.right_keys n ≡ p.right_keys n

pub same_turned : (o p : PlanOps) (n : ℕ) → DoSame o p n → DoSame p o n
same_turned o p n s = record {
  nulls = sym s.nulls;
  kind = sym s.kind;
  of_record = sym s.of_record;
  of_pair = sym s.of_pair;
  of_group = sym s.of_group;
  of_groups = sym s.of_groups;
  left_keys = sym s.left_keys;
  right_keys = sym s.right_keys;
}

module _ (o p : PlanOps) (n : ℕ) (s : DoSame o p n) where
  gives_for : (kind : OpKind) (ls out : Bag) → Gives o kind n ls out → Gives p kind n ls out
  gives_for Map ls out h = subst (λ (f : List Value → Bag). out ≡ flat_map f ls) s.of_record h
  gives_for Reduce ls out h =
      subst (λ (f : List Value → Bag → Bag). Grouped f (p.left_keys n) ls (keys_in (p.left_keys n) ls) out) s.of_group
      (subst (λ (ks : List ℕ). Grouped (o.of_group n) ks ls (keys_in ks ls) out) s.left_keys h)
  gives_for kind ls out h = absurd h

  gives_both_for : (kind : OpKind) (ls rs out : Bag) → GivesBoth o kind n ls rs out → GivesBoth p kind n ls rs out
  gives_both_for Match ls rs out h =
      subst (λ (b : Bool). out ≡ crossed (matched b (p.of_pair n) (p.left_keys n) (p.right_keys n)) ls rs) s.nulls
      (subst (λ (f : List Value → List Value → Bag). out ≡ crossed (matched o.nulls f (p.left_keys n) (p.right_keys n)) ls rs) s.of_pair
      (subst (λ (ks : List ℕ). out ≡ crossed (matched o.nulls (o.of_pair n) (p.left_keys n) ks) ls rs) s.right_keys
      (subst (λ (ks : List ℕ). out ≡ crossed (matched o.nulls (o.of_pair n) ks (o.right_keys n)) ls rs) s.left_keys h)))
  gives_both_for Cross ls rs out h = subst (λ (f : List Value → List Value → Bag). out ≡ crossed f ls rs) s.of_pair h
  gives_both_for CoGroup ls rs out h =
      subst (λ (f : List Value → Bag → Bag → Bag). CoGrouped f (p.left_keys n) (p.right_keys n) ls rs
      (keys_in_either (p.left_keys n) (p.right_keys n) ls rs) out) s.of_groups
      (subst (λ (ks : List ℕ). CoGrouped (o.of_groups n) (p.left_keys n) ks ls rs (keys_in_either (p.left_keys n) ks ls rs) out) s.right_keys
      (subst (λ (ks : List ℕ). CoGrouped (o.of_groups n) ks (o.right_keys n) ls rs (keys_in_either ks (o.right_keys n) ls rs) out) s.left_keys h))
  gives_both_for kind ls rs out h = absurd h

  pub gives_same : (ls out : Bag) → Gives o (o.kind n) n ls out → Gives p (p.kind n) n ls out
  gives_same ls out h = subst (λ (k : OpKind). Gives p k n ls out) s.kind (gives_for (o.kind n) ls out h)

  pub gives_both_same : (ls rs out : Bag) → GivesBoth o (o.kind n) n ls rs out → GivesBoth p (p.kind n) n ls rs out
  gives_both_same ls rs out h = subst (λ (k : OpKind). GivesBoth p k n ls rs out) s.kind (gives_both_for (o.kind n) ls rs out h)
