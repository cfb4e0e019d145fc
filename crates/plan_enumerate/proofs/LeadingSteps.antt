-- The steps to an entry lead there from the plan as written, each legal where it is made. They are found by going back
-- from entry to entry.
use Rattle.std.proofs.Common.{◌≡◌, ◌<◌, inl, inr, ℕ, zero, suc, List, [], ◌∷◌, ◌++◌, slice_get, Some, None, reverse, refl, sym, ap, subst, ◌∙◌, append_assoc}
use Rattle.std.proofs.lemmas.List.{reverse-append}
use Rattle.std.proofs.lemmas.Option.{none-some, same_Some}
use Rattle.plan_trees.specs.Plans.{PlanTree}
use Rattle.pact_operators.specs.Programs.{ProgramData}
use Rattle.reorder_pair.specs.declared.legality.Condition.{Condition}
use Rattle.plan_enumerate.specs.declared.entries.Entry.{Entry}
use Rattle.plan_enumerate.specs.Listing.{AreEntries, Grows, IsAt, begins, first_entry, goes_on}
use Rattle.reorder_pair.specs.ToldExchanges.{IsLegalIn, Lead, after}
use Rattle.reorder_group.proofs.PlansInReach.{lead_on}
use Rattle.plan_enumerate.specs.Steps.{AreStepsTo, behind, none}
use Rattle.plan_enumerate.proofs.LongerLists.{IsAt-entry, IsAt-one_more, old_or_last_entry}

-- ---- where the steps lead

module _ (p : ProgramData) (limit : ℕ) where
  none_led_first : (n : ℕ) (e : Entry) (c : Condition) → slice_get (first_entry p.plan ∷ []) n ≡ Some e → e.by ≡ Some c → ⊥
  none_led_first zero e c h by = none-some c (ap (λ (x : Entry). x.by) (same_Some (first_entry p.plan) e h) ∙ by)
  none_led_first (suc n) e c h by = cc

  -- the exchange of an entry is legal in the plan that it comes from, and yields the entry's plan
  came_by : (es : List Entry) → Grows p limit es → (n : ℕ) (e : Entry) (c : Condition) → slice_get es n ≡ Some e → e.by ≡ Some c
      → (t : PlanTree) × IsAt es e.from t × IsLegalIn p t c × (e.plan ≡ after c t)
  came_by _ begins n e c h by = absurd (none_led_first n e c h by)
  came_by _ (goes_on es d g room next) n e c h by = elim (old_or_last_entry es d n e h) as (λ _. (t : PlanTree) × IsAt (es ++ d ∷ []) e.from t × IsLegalIn p t c × (e.plan ≡ after c t)) [
    | inl old ↦ let k = came_by es g n e c old by in (k.0, IsAt-one_more es d e.from k.0 k.1, k.2, k.3)
    | inr last ↦
        let new = next.gives.0 in
        let same : next.by ≡ c = same_Some next.by c (sym next.is_by ∙ sym (ap (λ (x : Entry). x.by) last.1) ∙ by) in (
          new.0,
          IsAt-one_more es d e.from new.0 (subst (λ (x : Entry). IsAt es x.from new.0) (sym last.1) new.1),
          subst (IsLegalIn p new.0) same new.2,
          ap (λ (x : Entry). x.plan) last.1 ∙ new.3 ∙ ap (λ (x : Condition). after x new.0) same,
        )
  ]

  first_plan : (es : List Entry) → Grows p limit es → IsAt es 0 p.plan
  first_plan _ begins = refl
  first_plan _ (goes_on es e g room next) = IsAt-one_more es e 0 p.plan (first_plan es g)

  pub steps-Lead : (es : List Entry) → Grows p limit es → (n : ℕ) (cs : List Condition) → AreStepsTo es n cs → (t : PlanTree) → IsAt es n t → Lead p p.plan cs t
  steps-Lead es g _ _ none t h = same_Some p.plan t (sym (first_plan es g) ∙ h)
  steps-Lead es g _ _ (behind n e c cs there by rest) t h =
      let k = came_by es g n e c there by in
      let reached : t ≡ after c k.0 = same_Some t e.plan (sym h ∙ IsAt-entry es n e there) ∙ k.3 in
      subst (Lead p p.plan (cs ++ c ∷ [])) (sym reached) (lead_on p p.plan k.0 cs c (steps-Lead es g e.from cs rest k.0 k.1) k.2)

-- ---- on the way back

-- The exchanges met on the way back from an entry to a place, reversed, are the steps from that place on.
abbrev pub LeadsOn : List Entry → ℕ → ℕ → List Condition → Type 0
LeadsOn es at entry held = (cs : List Condition) → AreStepsTo es at cs → AreStepsTo es entry (cs ++ reverse held)

pub one_back : (es : List Entry) (at entry : ℕ) (e : Entry) (c : Condition) (held : List Condition) → slice_get es at ≡ Some e → e.by ≡ Some c → LeadsOn es at entry held
    → LeadsOn es e.from entry (held ++ c ∷ [])
one_back es at entry e c held there by h cs steps =
    let turned : reverse (held ++ c ∷ []) ≡ c ∷ reverse held = reverse-append held (c ∷ []) in
    subst (λ (xs : List Condition). AreStepsTo es entry (cs ++ xs)) (sym turned)
    (subst (AreStepsTo es entry) (append_assoc cs (c ∷ []) (reverse held)) (h (cs ++ c ∷ []) (behind at e c cs there by steps)))

-- an entry to which no exchange led is the first
pub none_led-first : (es : List Entry) (at : ℕ) (e : Entry) → AreEntries es → slice_get es at ≡ Some e → e.by ≡ None → at ≡ 0
none_led-first es zero e h there alone = refl
none_led-first es (suc n) e h there alone = let from = h.each (suc n) e there in absurd (none-some from.0.0 (sym alone ∙ from.0.1))

-- an entry to which an exchange led comes from an earlier one
pub led-earlier : (es : List Entry) (at : ℕ) (e : Entry) (c : Condition) → AreEntries es → slice_get es at ≡ Some e → e.by ≡ Some c → e.from < at
led-earlier es zero e c h there by = absurd (none-some c (sym (h.each zero e there) ∙ by))
led-earlier es (suc n) e c h there by = (h.each (suc n) e there).1

-- an entry that is read twice has the same exchange both times
pub read_again : (es read : List Entry) (at : ℕ) (d e : Entry) (c : Condition) → read ≡ es → slice_get read at ≡ Some d → slice_get read at ≡ Some e → d.by ≡ Some c
    → (slice_get es at ≡ Some e) × (e.by ≡ Some c)
read_again es read at d e c same once again by =
    (subst (λ (xs : List Entry). slice_get xs at ≡ Some e) same again, ap (λ (x : Entry). x.by) (same_Some e d (sym again ∙ once)) ∙ by)

-- if the way back has come to the first entry, the exchanges met are all of the steps
pub all_back : (es : List Entry) (at entry : ℕ) (e : Entry) (held : List Condition) → AreEntries es → slice_get es at ≡ Some e → e.by ≡ None → LeadsOn es at entry held → AreStepsTo es entry (reverse held)
all_back es at entry e held h there alone leads = leads [] (subst (λ n. AreStepsTo es n []) (sym (none_led-first es at e h there alone)) none)
