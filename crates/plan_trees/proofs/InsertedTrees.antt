-- A tree with a further number inserted on an edge: its numbers are different, and it has all of them.
use Rattle.std.proofs.Common.{◌≡◌, ◌==◌, ◌||◌, ◌⊎◌, ℕ, Bool, true, false, inl, inr, if◌then◌else◌, [], ◌∷◌, ◌++◌, refl, sym, subst, ◌∙◌}
use Rattle.std.proofs.lemmas.Bool.{or_cases, or_left, or_right, eq-eqb, eqb-true}
use Rattle.plan_trees.specs.Distinct.{AreDifferent}
use Rattle.plan_trees.specs.Plans.{PlanTree, leaf, over, both, has, nodes}
use Rattle.plan_trees.proofs.DifferentNumbers.{IsIn, IsIn-left, IsIn-right, IsIn-parts, IsAbsent-from, IsAbsent-not, AreDifferent-append, AreDifferent-parts}
use Rattle.plan_trees.specs.Inserted.{wrapped, inserted}

module _ (below new : ℕ) where
  -- ---- the numbers in it

  in_wrapped : (m n : ℕ) (t : PlanTree) → IsIn m (nodes (wrapped below new n t)) → IsIn m (nodes t) ⊎ ((m ≡ new) × (n ≡ below))
  in_wrapped m n t h = by (below == n) refl h where
    by : (b : Bool) → (below == n) ≡ b → IsIn m (nodes (if b then over new t else t)) → IsIn m (nodes t) ⊎ ((m ≡ new) × (n ≡ below))
    by true e (inl is) = inr (is, sym (eqb-true below n e))
    by true e (inr i) = inl i
    by false e i = inl i

  pub in_inserted : (m : ℕ) (t : PlanTree) → IsIn m (nodes (inserted below new t)) → IsIn m (nodes t) ⊎ ((m ≡ new) × IsIn below (nodes t))
  in_inserted m (leaf n) h = elim (in_wrapped m n (leaf n) h) as (λ _. IsIn m (n ∷ []) ⊎ ((m ≡ new) × IsIn below (n ∷ []))) [
    | inl i ↦ inl i
    | inr e ↦ inr (e.0, inl (sym e.1))
  ]
  in_inserted m (over n t) h = elim (in_wrapped m n (over n (inserted below new t)) h) as (λ _. IsIn m (n ∷ nodes t) ⊎ ((m ≡ new) × IsIn below (n ∷ nodes t))) [
    | inl i ↦ elim i as (λ _. IsIn m (n ∷ nodes t) ⊎ ((m ≡ new) × IsIn below (n ∷ nodes t))) [
      | inl e ↦ inl (inl e)
      | inr j ↦ elim (in_inserted m t j) as (λ _. IsIn m (n ∷ nodes t) ⊎ ((m ≡ new) × IsIn below (n ∷ nodes t))) [
        | inl k ↦ inl (inr k)
        | inr k ↦ inr (k.0, inr k.1)
      ]
    ]
    | inr e ↦ inr (e.0, inl (sym e.1))
  ]
  in_inserted m (both n t u) h = elim (in_wrapped m n (both n (inserted below new t) (inserted below new u)) h) as (λ _. IsIn m (n ∷ (nodes t ++ nodes u)) ⊎ ((m ≡ new) × IsIn below (n ∷ (nodes t ++ nodes u)))) [
    | inl i ↦ elim i as (λ _. IsIn m (n ∷ (nodes t ++ nodes u)) ⊎ ((m ≡ new) × IsIn below (n ∷ (nodes t ++ nodes u)))) [
      | inl e ↦ inl (inl e)
      | inr j ↦ elim (IsIn-parts m (nodes (inserted below new t)) (nodes (inserted below new u)) j) as (λ _. IsIn m (n ∷ (nodes t ++ nodes u)) ⊎ ((m ≡ new) × IsIn below (n ∷ (nodes t ++ nodes u)))) [
        | inl l ↦ elim (in_inserted m t l) as (λ _. IsIn m (n ∷ (nodes t ++ nodes u)) ⊎ ((m ≡ new) × IsIn below (n ∷ (nodes t ++ nodes u)))) [
          | inl k ↦ inl (inr (IsIn-left m (nodes t) (nodes u) k))
          | inr k ↦ inr (k.0, inr (IsIn-left below (nodes t) (nodes u) k.1))
        ]
        | inr r ↦ elim (in_inserted m u r) as (λ _. IsIn m (n ∷ (nodes t ++ nodes u)) ⊎ ((m ≡ new) × IsIn below (n ∷ (nodes t ++ nodes u)))) [
          | inl k ↦ inl (inr (IsIn-right m (nodes t) (nodes u) k))
          | inr k ↦ inr (k.0, inr (IsIn-right below (nodes t) (nodes u) k.1))
        ]
      ]
    ]
    | inr e ↦ inr (e.0, inl (sym e.1))
  ]

  -- ---- different numbers

  different_wrapped : (n : ℕ) (t : PlanTree) → (n ≡ below → IsIn new (nodes t) → ⊥) → AreDifferent (nodes t) → AreDifferent (nodes (wrapped below new n t))
  different_wrapped n t absent d = by (below == n) refl where
    by : (b : Bool) → (below == n) ≡ b → AreDifferent (nodes (if b then over new t else t))
    by true e = (IsAbsent-from new (nodes t) (λ m i q. absent (sym (eqb-true below n e)) (subst (λ (k : ℕ). IsIn k (nodes t)) q i)), d)
    by false e = d

  pub different_inserted : (t : PlanTree) → AreDifferent (nodes t) → (IsIn new (nodes t) → ⊥) → AreDifferent (nodes (inserted below new t))
  different_inserted (leaf n) d out = different_wrapped n (leaf n) (λ e i. out i) d
  different_inserted (over n t) d out =
      let T = inserted below new t in
      let no_new = λ (e : n ≡ new). out (inl (sym e)) in
      let own = IsAbsent-from n (nodes T) (λ m i e. elim (in_inserted m t i) as (λ _. ⊥) [
        | inl k ↦ IsAbsent-not n (nodes t) d.0 (subst (λ (j : ℕ). IsIn j (nodes t)) e k)
        | inr k ↦ no_new (sym e ∙ k.0)
      ]) in
      different_wrapped n (over n T) (λ e i. elim i as (λ _. ⊥) [
        | inl q ↦ no_new (sym q)
        | inr j ↦ elim (in_inserted new t j) as (λ _. ⊥) [
          | inl k ↦ out (inr k)
          | inr k ↦ IsAbsent-not n (nodes t) d.0 (subst (λ (j2 : ℕ). IsIn j2 (nodes t)) (sym e) k.1)
        ]
      ]) (own, different_inserted t d.1 (λ i. out (inr i)))
  different_inserted (both n t u) d out =
      let T = inserted below new t in
      let U = inserted below new u in
      let parts = AreDifferent-parts (nodes t) (nodes u) d.1 in
      let no_new = λ (e : n ≡ new). out (inl (sym e)) in
      let out_left = λ (i : IsIn new (nodes t)). out (inr (IsIn-left new (nodes t) (nodes u) i)) in
      let out_right = λ (i : IsIn new (nodes u)). out (inr (IsIn-right new (nodes t) (nodes u) i)) in
      let within : (m : ℕ) → IsIn m (nodes T ++ nodes U) → IsIn m (nodes t ++ nodes u) ⊎ ((m ≡ new) × IsIn below (nodes t ++ nodes u)) =
      λ m i. elim (IsIn-parts m (nodes T) (nodes U) i) as (λ _. IsIn m (nodes t ++ nodes u) ⊎ ((m ≡ new) × IsIn below (nodes t ++ nodes u))) [
        | inl l ↦ elim (in_inserted m t l) as (λ _. IsIn m (nodes t ++ nodes u) ⊎ ((m ≡ new) × IsIn below (nodes t ++ nodes u))) [
          | inl k ↦ inl (IsIn-left m (nodes t) (nodes u) k)
          | inr k ↦ inr (k.0, IsIn-left below (nodes t) (nodes u) k.1)
        ]
        | inr r ↦ elim (in_inserted m u r) as (λ _. IsIn m (nodes t ++ nodes u) ⊎ ((m ≡ new) × IsIn below (nodes t ++ nodes u))) [
          | inl k ↦ inl (IsIn-right m (nodes t) (nodes u) k)
          | inr k ↦ inr (k.0, IsIn-right below (nodes t) (nodes u) k.1)
        ]
      ] in
      let own = IsAbsent-from n (nodes T ++ nodes U) (λ m i e. elim (within m i) as (λ _. ⊥) [
        | inl k ↦ IsAbsent-not n (nodes t ++ nodes u) d.0 (subst (λ (j : ℕ). IsIn j (nodes t ++ nodes u)) e k)
        | inr k ↦ no_new (sym e ∙ k.0)
      ]) in
      different_wrapped n (both n T U) (λ e i. elim i as (λ _. ⊥) [
        | inl q ↦ no_new (sym q)
        | inr j ↦ elim (within new j) as (λ _. ⊥) [
          | inl k ↦ out (inr k)
          | inr k ↦ IsAbsent-not n (nodes t ++ nodes u) d.0 (subst (λ (j2 : ℕ). IsIn j2 (nodes t ++ nodes u)) (sym e) k.1)
        ]
      ]) (
        own,
        AreDifferent-append (nodes T) (nodes U) (different_inserted t parts.0 out_left) (different_inserted u parts.1 out_right) (λ m i j.
            elim (in_inserted m t i) as (λ _. ⊥) [
              | inl k ↦ elim (in_inserted m u j) as (λ _. ⊥) [
                | inl l ↦ parts.2 m k l
                | inr l ↦ out_left (subst (λ (x : ℕ). IsIn x (nodes t)) l.0 k)
              ]
              | inr k ↦ elim (in_inserted m u j) as (λ _. ⊥) [
                | inl l ↦ out_right (subst (λ (x : ℕ). IsIn x (nodes u)) k.0 l)
                | inr l ↦ parts.2 below k.1 l.1
              ]
            ]),
      )

  -- ---- the new number

  new_wrapped : (n : ℕ) (t : PlanTree) → (below == n) ≡ true → has new (wrapped below new n t) ≡ true
  new_wrapped n t e = by (below == n) e where
    by : (b : Bool) → b ≡ true → has new (if b then over new t else t) ≡ true
    by true e = or_left (new == new) (has new t) (eq-eqb new new refl)
    by false e = cc

  kept_wrapped : (m n : ℕ) (t : PlanTree) → has m t ≡ true → has m (wrapped below new n t) ≡ true
  kept_wrapped m n t h = by (below == n) where
    by : (b : Bool) → has m (if b then over new t else t) ≡ true
    by true = or_right (m == new) (has m t) h
    by false = h

  pub has_new : (t : PlanTree) → has below t ≡ true → has new (inserted below new t) ≡ true
  has_new (leaf n) h = new_wrapped n (leaf n) h
  has_new (over n t) h = elim (or_cases (below == n) (has below t) h) as (λ _. has new (inserted below new (over n t)) ≡ true) [
    | inl e ↦ new_wrapped n (over n (inserted below new t)) e
    | inr i ↦ kept_wrapped new n (over n (inserted below new t)) (or_right (new == n) (has new (inserted below new t)) (has_new t i))
  ]
  has_new (both n t u) h =
      let T = inserted below new t in
      let U = inserted below new u in
      elim (or_cases (below == n) (has below t || has below u) h) as (λ _. has new (inserted below new (both n t u)) ≡ true) [
        | inl e ↦ new_wrapped n (both n T U) e
        | inr i ↦ kept_wrapped new n (both n T U) (or_right (new == n) (has new T || has new U) (elim (or_cases (has below t) (has below u) i) as (λ _. (has new T || has new U) ≡ true) [
          | inl l ↦ or_left (has new T) (has new U) (has_new t l)
          | inr r ↦ or_right (has new T) (has new U) (has_new u r)
        ]))
      ]
