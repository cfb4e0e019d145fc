-- What a table of plans knows about the entries that it keeps: a plan is found exactly if it is listed, and a new one
-- goes after the others.
use Rattle.std.proofs.Common.{◌≡◌, inl, inr, zero, suc, true, List, [], ◌∷◌, ◌++◌, Some, is_some, refl, sym, ap, subst}
use Rattle.std.proofs.lemmas.Bool.{cases_Bool}
use Rattle.std.proofs.lemmas.Option.{same_Some}
use Rattle.std.specs.Map.{lookup}
use Rattle.indexmap.specs.IndexMap.{insert_entry}
use Rattle.plan_trees.specs.Plans.{PlanTree}
use Rattle.plan_trees.specs.PlanEquality.{same_plan, same_plan_laws}
use Rattle.plan_trees.proofs.SamePlans.{plan_decides}
use Rattle.plan_enumerate.specs.declared.entries.Entry.{Entry}
use Rattle.plan_enumerate.specs.declared.entries.Origin.{Origin}
use Rattle.plan_enumerate.specs.EntryTable.{entries_of, entry_of}
use Rattle.plan_enumerate.specs.Listing.{IsListed}

listed_behind : (e : Entry) (es : List Entry) (t : PlanTree) → IsListed t es → IsListed t (e ∷ es)
listed_behind e es t h = (suc h.0, h.1)

listed_first : (row : PlanTree × Origin) (rows : List (PlanTree × Origin)) (t : PlanTree) → same_plan t row.0 ≡ true → IsListed t (entries_of (row ∷ rows))
listed_first row rows t same = (zero, ap Some (sym ((plan_decides t row.0).0 same)))

pub found-IsListed : (rows : List (PlanTree × Origin)) (t : PlanTree) → is_some (lookup (same_plan t) rows) ≡ true → IsListed t (entries_of rows)
found-IsListed [] t h = absurd (cc)
found-IsListed (row ∷ rows) t h = elim (cases_Bool (same_plan t row.0)) as (λ _. IsListed t (entries_of (row ∷ rows))) [
  | inl same ↦ listed_first row rows t same
  | inr other ↦ listed_behind (entry_of row) (entries_of rows) t (found-IsListed rows t (simp other at h))
]

pub IsListed-found : (rows : List (PlanTree × Origin)) (t : PlanTree) → IsListed t (entries_of rows) → is_some (lookup (same_plan t) rows) ≡ true
IsListed-found [] t h = absurd (let e = h.1 in cc)
IsListed-found (row ∷ rows) t (zero, h) =
    let same : same_plan t row.0 ≡ true = subst (λ (u : PlanTree). same_plan t u ≡ true) (sym (same_Some row.0 t h)) (same_plan_laws.refl t) in
    rw same refl
IsListed-found (row ∷ rows) t (suc i, h) = elim (cases_Bool (same_plan t row.0)) as (λ _. is_some (lookup (same_plan t) (row ∷ rows)) ≡ true) [
  | inl same ↦ rw same refl
  | inr other ↦ rw other (IsListed-found rows t (i, h))
]

pub entries_of-insert_entry : (rows : List (PlanTree × Origin)) (t : PlanTree) (o : Origin) → (IsListed t (entries_of rows) → ⊥)
    → entries_of (insert_entry same_plan rows t o) ≡ entries_of rows ++ entry_of (t, o) ∷ []
entries_of-insert_entry [] t o absent = refl
entries_of-insert_entry (row ∷ rows) t o absent = elim (cases_Bool (same_plan t row.0)) as (λ _. entries_of (insert_entry same_plan (row ∷ rows) t o) ≡ entries_of (row ∷ rows) ++ entry_of (t, o) ∷ []) [
  | inl same ↦ absurd (absent (listed_first row rows t same))
  | inr other ↦ rw other (ap (λ (rest : List Entry). entry_of row ∷ rest) (entries_of-insert_entry rows t o (λ h. absent (listed_behind (entry_of row) (entries_of rows) t h))))
]
