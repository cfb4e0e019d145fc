-- An operator's function may be called for kept groups, and for pairs of a kept record and one that came.
use Rattle.std.proofs.Common.{◌≡◌, ◌&&◌, ℕ, Bool, true, false, Some, List, [], ◌⊎◌, inl, inr, length, refl, sym, ap, ◌∙◌, subst, arith}
use Rattle.std.specs.Option.{IsSome}
use Rattle.std.specs.List.Sorted.{IsPermutation}
use Rattle.flow_instance.specs.Instances.{port_ended}
use Rattle.flow_instance.specs.Local.{is_pipelined}
use Rattle.pact_operators.specs.Programs.{HasKeyLists, IsKindFor, is_pair_kind}
use Rattle.pact_operators.specs.Allowed.{Bag}
use Rattle.pact_record.specs.Widths.{AreBelow, AreWide}
use Rattle.tac_syntax.specs.Valid.{WithFields}
use Rattle.tac_syntax.specs.declared.declarations.OpKind.{OpKind}
use Rattle.tac_syntax.specs.declared.declarations.OpKind.TheVariants.{Source, Map, Reduce, Match, Cross, CoGroup}
use Rattle.tac_syntax.specs.declared.functions.Kind.{Kind}
use Rattle.tac_syntax.specs.declared.functions.Kind.TheVariants as kinds
use Rattle.flow_instance.specs.Grouping.{AreSides}
use Rattle.flow_instance.specs.States.{IsOperator, IsReady, IsSound, is_built, is_cross, is_reduce, seen}
use Rattle.flow_instance.specs.declared.parts.Part.{Part}
use Rattle.flow_instance.specs.declared.states.State.{State}
use Rattle.flow_instance.proofs.KeptRecords.{wide_permuted}
use Rattle.flow_instance.proofs.TakenNotes.{its_fields, its_function}

pub has_function : (p : Part) → IsOperator p → IsSome p.called
has_function p h = subst IsSome (sym h.called) refl

-- ---- by kind

groups_open : (kind : OpKind) (ended : Bool) → is_pipelined kind ≡ false → is_built kind ended ≡ false
groups_open Source ended w = refl
groups_open Map ended w = refl
groups_open Reduce ended w = refl
groups_open Match ended w = absurd (cc)
groups_open Cross ended w = absurd (cc)
groups_open CoGroup ended w = refl

reduce_kind : (kind : OpKind) (called : Kind) (n : ℕ) (ks js : List ℕ) → is_reduce kind ≡ true → IsKindFor kind called → HasKeyLists kind n ks js → (called ≡ kinds.Reduce) × (length ks ≡ n)
reduce_kind Source called n ks js k h l = absurd (cc)
reduce_kind Map called n ks js k h l = absurd (cc)
reduce_kind Reduce called n ks js k h l = (h, l.0)
reduce_kind Match called n ks js k h l = absurd (cc)
reduce_kind Cross called n ks js k h l = absurd (cc)
reduce_kind CoGroup called n ks js k h l = absurd (cc)

cogroup_kind : (kind : OpKind) (called : Kind) (n : ℕ) (ks js : List ℕ) → is_pipelined kind ≡ false → is_reduce kind ≡ false → IsKindFor kind called → HasKeyLists kind n ks js → (called ≡ kinds.CoGroup) × ((length ks ≡ n) × (length js ≡ n))
cogroup_kind Source called n ks js w k h l = absurd (cc)
cogroup_kind Map called n ks js w k h l = absurd (cc)
cogroup_kind Reduce called n ks js w k h l = absurd (cc)
cogroup_kind Match called n ks js w k h l = absurd (cc)
cogroup_kind Cross called n ks js w k h l = absurd (cc)
cogroup_kind CoGroup called n ks js w k h l = (h, l)

pair_kind : (kind : OpKind) (called : Kind) (n : ℕ) (ks js : List ℕ) → is_pair_kind kind ≡ true → IsKindFor kind called → HasKeyLists kind n ks js → ((called ≡ kinds.Match) ⊎ (called ≡ kinds.Cross)) × (length js ≡ length ks)
pair_kind Source called n ks js k h l = absurd (cc)
pair_kind Map called n ks js k h l = absurd (cc)
pair_kind Reduce called n ks js k h l = absurd (cc)
pair_kind Match called n ks js k h l = (inl h, sym l.1)
pair_kind Cross called n ks js k h l = (inr h, ap length l.1 ∙ sym (ap length l.0))
pair_kind CoGroup called n ks js k h l = absurd (cc)

cross_kind : (kind : OpKind) (called : Kind) (n : ℕ) (ks js : List ℕ) → is_cross kind ≡ true → IsKindFor kind called → HasKeyLists kind n ks js → (called ≡ kinds.Cross) × (ks ≡ [])
cross_kind Source called n ks js k h l = absurd (cc)
cross_kind Map called n ks js k h l = absurd (cc)
cross_kind Reduce called n ks js k h l = absurd (cc)
cross_kind Match called n ks js k h l = absurd (cc)
cross_kind Cross called n ks js k h l = (h, l.0)
cross_kind CoGroup called n ks js k h l = absurd (cc)

-- ---- of an instance

module _ {L : Type 0} (rows : L → Bag) (keys : L → List ℕ) (is_sealed : L → Bool) (s : State L) (sound : IsSound rows keys is_sealed s) where
  pub left_open : is_pipelined s.part.kind ≡ false → is_sealed s.left ≡ false
  left_open w = sound.left_sealed ∙ groups_open s.part.kind (port_ended (seen rows s) 0) w

  own_reduce : is_reduce s.part.kind ≡ true → (sound.operator.function.function.kind ≡ kinds.Reduce) × (length s.part.left_keys ≡ sound.operator.function.function.keys)
  own_reduce k = reduce_kind s.part.kind sound.operator.function.function.kind sound.operator.function.function.keys s.part.left_keys s.part.right_keys k sound.operator.kind sound.operator.keys

  pub of_reduce : (f : WithFields) → is_reduce s.part.kind ≡ true → s.part.called ≡ Some f → (f.function.kind ≡ kinds.Reduce) × (length s.part.left_keys ≡ f.function.keys)
  of_reduce f k e = subst (λ (h : WithFields). (h.function.kind ≡ kinds.Reduce) × (length s.part.left_keys ≡ h.function.keys)) (its_function s.part f sound.operator e) (own_reduce k)

  pub kept_wide : (f : WithFields) (kept : Bag) → s.part.called ≡ Some f → IsPermutation (rows s.left) kept → AreWide f.fields kept
  kept_wide f kept e p =
      subst (λ (h : WithFields). AreWide h.fields kept) (its_function s.part f sound.operator e)
      (subst (λ (n : ℕ). AreWide n kept) (sym sound.operator.fields) (wide_permuted s.part.fields (rows s.left) kept p sound.left_wide))

  -- records that have the program's number of fields have the function's
  pub fields_of : (f : WithFields) (some : Bag) → s.part.called ≡ Some f → AreWide s.part.fields some → AreWide f.fields some
  fields_of f some e wide = subst (λ (n : ℕ). AreWide n some) (sym (its_fields s.part f sound.operator e)) wide

  pub right_below_of : (f : WithFields) → s.part.called ≡ Some f → AreBelow f.fields s.part.right_keys
  right_below_of f e = subst (λ (n : ℕ). AreBelow n s.part.right_keys) (sym (its_fields s.part f sound.operator e)) sound.operator.right_below

  pub of_pairs : (f : WithFields) → is_pair_kind s.part.kind ≡ true → s.part.called ≡ Some f → ((f.function.kind ≡ kinds.Match) ⊎ (f.function.kind ≡ kinds.Cross)) × (length s.part.right_keys ≡ length (keys s.left))
  of_pairs f k e =
      let o = sound.operator in
      let own = pair_kind s.part.kind o.function.function.kind o.function.function.keys s.part.left_keys s.part.right_keys k o.kind o.keys in
      (subst (λ (h : WithFields). (h.function.kind ≡ kinds.Match) ⊎ (h.function.kind ≡ kinds.Cross)) (its_function s.part f o e) own.0, own.1 ∙ sym (ap length sound.left_keys))

  pub of_cross : (f : WithFields) → is_cross s.part.kind ≡ true → s.part.called ≡ Some f → (f.function.kind ≡ kinds.Cross) × (keys s.left ≡ [])
  of_cross f k e =
      let o = sound.operator in
      let own = cross_kind s.part.kind o.function.function.kind o.function.function.keys s.part.left_keys s.part.right_keys k o.kind o.keys in
      (subst (λ (h : WithFields). h.function.kind ≡ kinds.Cross) (its_function s.part f o e) own.0, sound.left_keys ∙ own.1)

  module _ (l r : L) (w : is_pipelined s.part.kind ≡ false) (k : is_reduce s.part.kind ≡ false) (p : IsPermutation (rows s.left) (rows l)) (q : IsPermutation (rows s.right) (rows r)) (i : keys l ≡ keys s.left) (j : keys r ≡ keys s.right) where
    own_sides : AreSides sound.operator.function s.part.left_keys s.part.right_keys (keys l) (keys r) (rows l) (rows r)
    own_sides =
        let o = sound.operator in
        let both = cogroup_kind s.part.kind o.function.function.kind o.function.function.keys s.part.left_keys s.part.right_keys w k o.kind o.keys in
        record {
          kind = both.0;
          left_count = both.1.0;
          right_count = both.1.1;
          left_below = subst (λ (n : ℕ). AreBelow n s.part.left_keys) (sym o.fields) o.left_below;
          right_below = subst (λ (n : ℕ). AreBelow n s.part.right_keys) (sym o.fields) o.right_below;
          left_same = i ∙ sound.left_keys;
          right_same = j ∙ sound.right_keys;
          left_wide = subst (λ (n : ℕ). AreWide n (rows l)) (sym o.fields) (wide_permuted s.part.fields (rows s.left) (rows l) p sound.left_wide);
          right_wide = subst (λ (n : ℕ). AreWide n (rows r)) (sym o.fields) (wide_permuted s.part.fields (rows s.right) (rows r) q sound.right_wide);
        }

    pub sides_of : (f : WithFields) → s.part.called ≡ Some f → AreSides f s.part.left_keys s.part.right_keys (keys l) (keys r) (rows l) (rows r)
    sides_of f e = subst (λ (h : WithFields). AreSides h s.part.left_keys s.part.right_keys (keys l) (keys r) (rows l) (rows r)) (its_function s.part f sound.operator e) own_sides

-- the left records that are kept for pairs are sealed when the instance takes at port 1
pub left_built : {L : Type 0} (rows : L → Bag) (keys : L → List ℕ) (is_sealed : L → Bool) (s : State L) → IsReady rows keys is_sealed s 1 → is_pair_kind s.part.kind ≡ true → is_sealed s.left ≡ true
left_built rows keys is_sealed s ready k =
    let ended : port_ended (seen rows s) 0 ≡ true = elim ready.which as (λ _. port_ended (seen rows s) 0 ≡ true) [ inl zero ↦ absurd (omega (arith, zero)) | inr one ↦ one.1 ] in
    ready.sound.left_sealed ∙ (λ i. k i && ended i)
