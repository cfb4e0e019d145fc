-- A list of entries with one more at its end: every earlier place has its old entry, and the last place has the new
-- one.
use Rattle.std.proofs.Common.{◌≡◌, ◌<◌, ◌+◌, ◌⊎◌, inl, inr, ℕ, zero, suc, List, [], ◌∷◌, ◌++◌, length, slice_get, Some, option_map, refl, sym, ap, subst, ◌∙◌, arith, length-append}
use Rattle.std.proofs.lemmas.List.{length-map, map-append}
use Rattle.std.proofs.lemmas.Option.{same_Some, slice_get-map, slice_get_within}
use Rattle.plan_trees.specs.Plans.{PlanTree}
use Rattle.plan_enumerate.specs.declared.entries.Entry.{Entry}
use Rattle.plan_enumerate.specs.Listing.{IsAt, IsListed, plans_of}

slice_get-front : {A : Type 0} (xs ys : List A) (i : ℕ) → i < length xs → slice_get (xs ++ ys) i ≡ slice_get xs i
slice_get-front [] ys i h = absurd (omega (arith, h))
slice_get-front (x ∷ xs) ys zero h = refl
slice_get-front (x ∷ xs) ys (suc i) h = slice_get-front xs ys i (omega (arith, h))

slice_get-last : {A : Type 0} (xs : List A) (y : A) → slice_get (xs ++ y ∷ []) (length xs) ≡ Some y
slice_get-last [] y = refl
slice_get-last (x ∷ xs) y = slice_get-last xs y

pub front_or_last : {A : Type 0} (xs : List A) (y : A) (i : ℕ) (x : A) → slice_get (xs ++ y ∷ []) i ≡ Some x → (slice_get xs i ≡ Some x) ⊎ ((i ≡ length xs) × (x ≡ y))
front_or_last [] y zero x h = inr (refl, sym (same_Some y x h))
front_or_last [] y (suc i) x h = absurd (cc)
front_or_last (z ∷ xs) y zero x h = inl h
front_or_last (z ∷ xs) y (suc i) x h = elim (front_or_last xs y i x h) as (λ _. (slice_get (z ∷ xs) (suc i) ≡ Some x) ⊎ ((suc i ≡ length (z ∷ xs)) × (x ≡ y))) [
  | inl front ↦ inl front
  | inr last ↦ inr (ap suc last.0, last.1)
]

-- ---- the plans of entries

pub length-one_more : (es : List Entry) (e : Entry) → length (es ++ e ∷ []) ≡ length es + 1
length-one_more es e = length-append es (e ∷ [])

plans_of-one_more : (es : List Entry) (e : Entry) → plans_of (es ++ e ∷ []) ≡ plans_of es ++ e.plan ∷ []
plans_of-one_more es e = map-append (λ (x : Entry). x.plan) es (e ∷ [])

length-plans_of : (es : List Entry) → length (plans_of es) ≡ length es
length-plans_of es = length-map es (λ (x : Entry). x.plan)

pub one_plan : (es : List Entry) (i : ℕ) (t u : PlanTree) → IsAt es i t → IsAt es i u → t ≡ u
one_plan es i t u h k = same_Some t u (sym h ∙ k)

pub IsAt-within : (es : List Entry) (i : ℕ) (t : PlanTree) → IsAt es i t → i < length es
IsAt-within es i t h = subst (λ n. i < n) (length-plans_of es) (slice_get_within (plans_of es) i t h)

pub IsAt-entry : (es : List Entry) (i : ℕ) (e : Entry) → slice_get es i ≡ Some e → IsAt es i e.plan
IsAt-entry es i e h = slice_get-map (λ (x : Entry). x.plan) es i ∙ ap (option_map (λ (x : Entry). x.plan)) h

-- ---- the old entries, and the new one

pub plan_stays : (es : List Entry) (e : Entry) (i : ℕ) → i < length es → slice_get (plans_of (es ++ e ∷ [])) i ≡ slice_get (plans_of es) i
plan_stays es e i h =
    ap (λ (ps : List PlanTree). slice_get ps i) (plans_of-one_more es e) ∙ slice_get-front (plans_of es) (e.plan ∷ []) i (subst (λ n. i < n) (sym (length-plans_of es)) h)

pub IsAt-one_more : (es : List Entry) (e : Entry) (i : ℕ) (t : PlanTree) → IsAt es i t → IsAt (es ++ e ∷ []) i t
IsAt-one_more es e i t h = plan_stays es e i (IsAt-within es i t h) ∙ h

pub IsListed-one_more : (es : List Entry) (e : Entry) (t : PlanTree) → IsListed t es → IsListed t (es ++ e ∷ [])
IsListed-one_more es e t h = (h.0, IsAt-one_more es e h.0 t h.1)

pub IsListed-last : (es : List Entry) (e : Entry) → IsListed e.plan (es ++ e ∷ [])
IsListed-last es e = (length (plans_of es), ap (λ (ps : List PlanTree). slice_get ps (length (plans_of es))) (plans_of-one_more es e) ∙ slice_get-last (plans_of es) e.plan)

pub old_or_last_plan : (es : List Entry) (e : Entry) (i : ℕ) (t : PlanTree) → IsAt (es ++ e ∷ []) i t → IsAt es i t ⊎ ((i ≡ length es) × (t ≡ e.plan))
old_or_last_plan es e i t h = elim (front_or_last (plans_of es) e.plan i t (sym (ap (λ (ps : List PlanTree). slice_get ps i) (plans_of-one_more es e)) ∙ h)) as (λ _. IsAt es i t ⊎ ((i ≡ length es) × (t ≡ e.plan))) [
  | inl old ↦ inl old
  | inr last ↦ inr (last.0 ∙ length-plans_of es, last.1)
]

pub old_or_last_entry : (es : List Entry) (e : Entry) (i : ℕ) (d : Entry) → slice_get (es ++ e ∷ []) i ≡ Some d → (slice_get es i ≡ Some d) ⊎ ((i ≡ length es) × (d ≡ e))
old_or_last_entry es e i d h = front_or_last es e i d h
