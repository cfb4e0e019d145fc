-- The listed plans are plans in reach, and if none is left out they are all of them.
use Rattle.std.proofs.Common.{◌≡◌, ◌<◌, ◌≤◌, ◌↔◌, inl, inr, ℕ, zero, suc, Bool, true, false, List, [], ◌∷◌, length, slice_get, Some, refl, sym, subst, ◌∙◌, arith}
use Rattle.std.proofs.lemmas.Option.{same_Some}
use Rattle.plan_trees.specs.Plans.{PlanTree}
use Rattle.pact_operators.specs.Programs.{ProgramData}
use Rattle.reorder_pair.specs.declared.legality.Condition.{Condition}
use Rattle.plan_enumerate.specs.declared.entries.Entry.{Entry}
use Rattle.plan_enumerate.specs.Listing.{AreEntries, ComesFrom, Ends, Grows, IsClosed, IsListed, IsListing, IsOpen, ListedPlans, begins, entry_limit, first_entry, goes_on}
use Rattle.reorder_pair.specs.Reach.{Reach, as_written, exchanged}
use Rattle.reorder_pair.specs.ToldExchanges.{after}
use Rattle.plan_enumerate.specs.Walks.{GoesTo, IsFull, IsWalked}
use Rattle.plan_enumerate.proofs.LongerLists.{IsAt-within, IsListed-one_more, length-one_more, old_or_last_entry, old_or_last_plan}
use Rattle.plan_enumerate.proofs.PastExchanges.{past_entries}

-- ---- listed plans

module _ (p : ProgramData) (limit : ℕ) where
  only_first : (n : ℕ) (e : Entry) → slice_get (first_entry p.plan ∷ []) n ≡ Some e → (n ≡ 0) × (first_entry p.plan ≡ e)
  only_first zero e h = (refl, same_Some (first_entry p.plan) e h)
  only_first (suc n) e h = absurd (cc)

  as_written_listed : (es : List Entry) → Grows p limit es → IsListed p.plan es
  as_written_listed _ begins = (zero, refl)
  as_written_listed _ (goes_on es e g room next) = IsListed-one_more es e p.plan (as_written_listed es g)

  pub listed-Reach : (es : List Entry) → Grows p limit es → (t : PlanTree) → IsListed t es → Reach p t
  listed-Reach _ begins t (i, h) = first i h where
    first : (i : ℕ) → slice_get (p.plan ∷ []) i ≡ Some t → Reach p t
    first zero k = subst (Reach p) (same_Some p.plan t k) as_written
    first (suc i) k = absurd (cc)
  listed-Reach _ (goes_on es e g room next) t (i, h) = elim (old_or_last_plan es e i t h) as (λ _. Reach p t) [
    | inl old ↦ listed-Reach es g t (i, old)
    | inr last ↦
        let new = next.gives.0 in
        subst (Reach p) (sym (last.1 ∙ new.3)) (exchanged new.0 next.by.at next.by.rule (listed-Reach es g new.0 (e.from, new.1)) (next.by.upper, next.by.lower, new.2))
  ]

  reached-IsListed : (es : List Entry) → Grows p limit es → IsClosed p es → (t : PlanTree) → Reach p t → IsListed t es
  reached-IsListed es g closed _ as_written = as_written_listed es g
  reached-IsListed es g closed _ (exchanged t at rule r legal) =
      let place = reached-IsListed es g closed t r in
      let c : Condition = record { rule = rule; at = at; upper = legal.0; lower = legal.1 } in
      closed place.0 c (after c t) (t, place.1, legal.2, refl)

  pub complete-Reach : (l : ListedPlans) → IsListing p limit l → l.complete ≡ true → (t : PlanTree) → IsListed t l.entries ↔ Reach p t
  complete-Reach l h all t = (listed-Reach l.entries h.grows t, reached-IsListed l.entries h.grows (subst (Ends p limit l.entries) all h.ends) t)

  pub incomplete-IsOpen : (l : ListedPlans) → IsListing p limit l → (l.complete ≡ false) ↔ ((length l.entries ≡ limit) × IsOpen p l.entries)
  incomplete-IsOpen l h = (λ e. subst (Ends p limit l.entries) e h.ends, λ full. by l.complete refl full.1) where
    by : (b : Bool) → l.complete ≡ b → IsOpen p l.entries → l.complete ≡ false
    by true e open_at = absurd (open_at.3.1 (subst (Ends p limit l.entries) e h.ends open_at.0 open_at.1 open_at.2 open_at.3.0))
    by false e open_at = e

  -- ---- what holds for every list of entries

  pub some_entry : (es : List Entry) → Grows p limit es → 1 ≤ length es
  some_entry _ begins = omega arith
  some_entry _ (goes_on es e g room next) = let more = length-one_more es e in omega (arith, more)

  pub few_entries : (es : List Entry) → 1 ≤ limit → Grows p limit es → length es ≤ limit
  few_entries _ some begins = some
  few_entries _ some (goes_on es e g room next) = let more = length-one_more es e in omega (arith, more, room)

  each_from : (es : List Entry) → Grows p limit es → (n : ℕ) (e : Entry) → slice_get es n ≡ Some e → ComesFrom n e
  each_from _ begins n e h = let only = only_first n e h in subst (λ m. ComesFrom m e) (sym only.0) (subst (ComesFrom 0) only.1 refl)
  each_from _ (goes_on es d g room next) n e h = elim (old_or_last_entry es d n e h) as (λ _. ComesFrom n e) [
    | inl old ↦ each_from es g n e old
    | inr is ↦ subst (λ m. ComesFrom m e) (sym is.0)
        (subst (ComesFrom (length es)) (sym is.1) (last (length es) (some_entry es g) (IsAt-within es d.from next.gives.0.0 next.gives.0.1)))
  ] where
    last : (n : ℕ) → 1 ≤ n → d.from < n → ComesFrom n d
    last zero some below = absurd (omega (arith, some))
    last (suc n) some below = ((next.by, next.is_by), below)

  pub grown-AreEntries : (es : List Entry) → 1 ≤ limit → limit ≤ entry_limit → Grows p limit es → AreEntries es
  grown-AreEntries es some few g = record {
    some = some_entry es g;
    few = (let h = few_entries es some g in omega (arith, h, few));
    each = each_from es g;
  }

  -- ---- where the walk ends

  pub full-IsListing : (l : ListedPlans) (es : List Entry) → l ≡ record { entries = es; complete = false } → IsFull p limit es → IsListing p limit l
  full-IsListing l es is h = subst (IsListing p limit) (sym is) (record { grows = h.grows; ends = (h.full, h.left_out) })

  pub walked-IsListing : (l : ListedPlans) (es : List Entry) (n : ℕ) → l ≡ record { entries = es; complete = true } → length es ≤ n → IsWalked p limit es n 0 0 → IsListing p limit l
  walked-IsListing l es n is all h = subst (IsListing p limit) (sym is) (record { grows = h.grows; ends = past_entries p limit es n all h })

  -- by the result of the walk
  pub GoesTo-Grows : (es : List Entry) (complete : Bool) → GoesTo p limit es (length es) 0 0 complete → Grows p limit es
  GoesTo-Grows es true h = h.grows
  GoesTo-Grows es false h = h.grows

  pub GoesTo-IsListing : (l : ListedPlans) (es : List Entry) (complete : Bool) → l ≡ record { entries = es; complete = complete } → GoesTo p limit es (length es) 0 0 complete → IsListing p limit l
  GoesTo-IsListing l es true is h = walked-IsListing l es (length es) is (omega arith) h
  GoesTo-IsListing l es false is h = full-IsListing l es is h
