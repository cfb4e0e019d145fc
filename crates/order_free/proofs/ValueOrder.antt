-- The smaller and the greater of two values. Values may be compared in any order.
use Rattle.std.proofs.Common.{◌≡◌, inl, inr, Bool, true, false, if◌then◌else◌, refl, sym, ap, ◌∙◌}
use Rattle.std.proofs.lemmas.Bool.{cases_Bool}
use Rattle.std.proofs.lemmas.Cmp.{back_total, upto}
use Rattle.std.specs.Cmp.{IsTotalOrder}
use Rattle.std.specs.Ordering.{flip_args, is_gt, is_lt, ordering_reverse}
use Rattle.std.specs.declared.cmp.Ordering.{Ordering}
use Rattle.std.specs.declared.cmp.Ordering.TheVariants.{Less, Equal, Greater}
use Rattle.pact_record.specs.declared.values.Value.{Value}
use Rattle.pact_record.specs.Operations.{smaller_of, greater_of}
use Rattle.pact_record.specs.Order.{values_total}
use Rattle.pact_record.specs.Value.{value_cmp}
use Rattle.pact_record.proofs.EqualValues.{equal_values}

is_gt-reverse : (o : Ordering) → is_gt (ordering_reverse o) ≡ is_lt o
is_gt-reverse Less = refl
is_gt-reverse Equal = refl
is_gt-reverse Greater = refl

not_above : (o : Ordering) → is_gt o ≡ true → is_gt (ordering_reverse o) ≡ false
not_above Less h = cc
not_above Equal h = cc
not_above Greater h = refl

neither_above : (o : Ordering) → is_gt o ≡ false → is_gt (ordering_reverse o) ≡ false → o ≡ Equal
neither_above Less h k = cc
neither_above Equal h k = refl
neither_above Greater h k = cc

-- ---- any total order in which equal elements are identical

abbrev lesser : {A : Type 0} → (A → A → Ordering) → A → A → A
lesser cmp a b = if is_gt (cmp a b) then b else a

module _ {A : Type 0} (cmp : A → A → Ordering) (total : IsTotalOrder cmp) (same : (a b : A) → cmp a b ≡ Equal → a ≡ b) where
  above_back : (a b : A) → is_gt (cmp a b) ≡ true → is_gt (cmp b a) ≡ false
  above_back a b h = ap is_gt (total.antisymm b a) ∙ not_above (cmp a b) h

  above_through : (x a b : A) → is_gt (cmp x a) ≡ true → is_gt (cmp a b) ≡ true → is_gt (cmp x b) ≡ true
  above_through x a b h k = elim (cases_Bool (is_gt (cmp x b))) as (λ _. is_gt (cmp x b) ≡ true) [
    | inl e ↦ e
    | inr e ↦ absurd (clash (is_gt (cmp a b)) k (upto total a x b (above_back x a h) e))
  ] where
    clash : (t : Bool) → t ≡ true → t ≡ false → ⊥
    clash t p q = cc

  lesser_comm : (a b : A) → lesser cmp a b ≡ lesser cmp b a
  lesser_comm a b = elim (cases_Bool (is_gt (cmp a b))) as (λ _. lesser cmp a b ≡ lesser cmp b a) [
    | inl e ↦ rw (e, above_back a b e) refl
    | inr e ↦ elim (cases_Bool (is_gt (cmp b a))) as (λ _. lesser cmp a b ≡ lesser cmp b a) [
      | inl f ↦ rw (e, f) refl
      | inr f ↦ rw (e, f) (same a b (neither_above (cmp a b) e (ap is_gt (sym (total.antisymm b a)) ∙ f)))
    ]
  ]

  lesser_assoc : (x a b : A) → lesser cmp (lesser cmp x a) b ≡ lesser cmp x (lesser cmp a b)
  lesser_assoc x a b = elim (cases_Bool (is_gt (cmp x a))) as (λ _. lesser cmp (lesser cmp x a) b ≡ lesser cmp x (lesser cmp a b)) [
    | inl e ↦ elim (cases_Bool (is_gt (cmp a b))) as (λ _. lesser cmp (lesser cmp x a) b ≡ lesser cmp x (lesser cmp a b)) [
      | inl f ↦ rw (e, f, above_through x a b e f) refl
      | inr f ↦ rw (e, f, e) refl
    ]
    | inr e ↦ elim (cases_Bool (is_gt (cmp a b))) as (λ _. lesser cmp (lesser cmp x a) b ≡ lesser cmp x (lesser cmp a b)) [
      | inl f ↦ rw (e, f) refl
      | inr f ↦ rw (e, f, upto total x a b e f, e) refl
    ]
  ]

  -- either of two operands may come first
  pub lesser_swap : (x a b : A) → lesser cmp (lesser cmp x a) b ≡ lesser cmp (lesser cmp x b) a
  lesser_swap x a b = lesser_assoc x a b ∙ ap (lesser cmp x) (lesser_comm a b) ∙ sym (lesser_assoc x b a)

-- ---- values

pub smaller_swap : (x a b : Value) → smaller_of (smaller_of x a) b ≡ smaller_of (smaller_of x b) a
smaller_swap x a b = lesser_swap value_cmp values_total equal_values x a b

-- the greater of two values is the smaller one in the reversed order
greater_of-turned : (a b : Value) → greater_of a b ≡ lesser (flip_args value_cmp) a b
greater_of-turned a b = ap (λ (t : Bool). if t then b else a) (sym (is_gt-reverse (value_cmp a b)) ∙ ap is_gt (sym (values_total.antisymm b a)))

pub greater_swap : (x a b : Value) → greater_of (greater_of x a) b ≡ greater_of (greater_of x b) a
greater_swap x a b =
    ap (λ (v : Value). greater_of v b) (greater_of-turned x a) ∙ greater_of-turned _ b
    ∙ lesser_swap (flip_args value_cmp) (back_total values_total) (λ x y h. sym (equal_values y x h)) x a b
    ∙ sym (ap (λ (v : Value). greater_of v a) (greater_of-turned x b) ∙ greater_of-turned _ a)
