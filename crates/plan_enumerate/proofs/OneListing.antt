-- There is one list of plans for a program and a limit, since there is one condition for each operator and rule.
use Rattle.std.proofs.Common.{◌≡◌, ◌<◌, ◌≤◌, ◌⊎◌, inl, inr, ℕ, Bool, true, false, List, [], ◌∷◌, ◌++◌, length, Some, refl, sym, ap, subst, ◌∙◌, arith}
use Rattle.std.proofs.lemmas.Bool.{cases_order}
use Rattle.plan_trees.specs.Plans.{PlanTree}
use Rattle.pact_operators.specs.Programs.{ProgramData}
use Rattle.reorder_pair.specs.declared.legality.Condition.{Condition}
use Rattle.reorder_pair.specs.declared.rules.Rule.{Rule}
use Rattle.reorder_pair.specs.Legal.{IsLegalFor}
use Rattle.reorder_pair.proofs.OneFinding.{one_condition}
use Rattle.plan_enumerate.specs.declared.entries.Entry.{Entry}
use Rattle.plan_enumerate.specs.Listing.{Ends, Grows, IsAt, IsBefore, IsListing, IsNext, IsRuleAt, ListedPlans, begins, goes_on}
use Rattle.reorder_pair.specs.ToldExchanges.{IsLegalIn, after}
use Rattle.plan_enumerate.proofs.LongerLists.{length-one_more, one_plan}
use Rattle.plan_enumerate.proofs.PastExchanges.{one_rule}
use Rattle.plan_enumerate.proofs.ReachedPlans.{some_entry}

-- exchanges of the same entry by the same rule at the same operator
abbrev AreAlike : ℕ → Condition → ℕ → Condition → Type 0
AreAlike i c j d = (i ≡ j) × (c.at ≡ d.at) × (c.rule ≡ d.rule)

-- of two exchanges one comes before the other, or they are alike
abbrev Order : ℕ → Condition → ℕ → ℕ → Condition → ℕ → Type 0
Order i c m j d n = IsBefore i c j d.at n ⊎ (IsBefore j d i c.at m ⊎ AreAlike i c j d)

order : (i : ℕ) (c : Condition) (m j : ℕ) (d : Condition) (n : ℕ) → IsRuleAt m c.rule → IsRuleAt n d.rule → Order i c m j d n
order i c m j d n h k = elim (cases_order i j) as (λ _. Order i c m j d n) [
  | inl e ↦ elim (cases_order c.at d.at) as (λ _. Order i c m j d n) [
    | inl f ↦ elim (cases_order m n) as (λ _. Order i c m j d n) [
      | inl same ↦ inr (inr (e, f, one_rule n c.rule d.rule (subst (λ q. IsRuleAt q c.rule) same h) k))
      | inr (inl less) ↦ inl (inr (e, inr (f, (m, less, h))))
      | inr (inr more) ↦ inr (inl (inr (sym e, inr (sym f, (n, more, k)))))
    ]
    | inr (inl less) ↦ inl (inr (e, inl less))
    | inr (inr more) ↦ inr (inl (inr (sym e, inl more)))
  ]
  | inr (inl less) ↦ inl (inl less)
  | inr (inr more) ↦ inr (inl (inl more))
]

module _ (p : ProgramData) where
  told_as_one : (t : PlanTree) (c d : Condition) → IsLegalIn p t c → IsLegalIn p t d → c.at ≡ d.at → c.rule ≡ d.rule → c ≡ d
  told_as_one t c d h k place same_rule =
      one_condition p t d.at d.rule c d
      (record {
        same_rule = same_rule;
        place = place;
        legal = subst (λ (r : Rule). IsLegalFor p t d.at r c.upper c.lower) same_rule (subst (λ n. IsLegalFor p t n c.rule c.upper c.lower) place h);
      })
      (record { same_rule = refl; place = refl; legal = k })

  one_next : (es : List Entry) (e f : Entry) → IsNext p es e → IsNext p es f → e ≡ f
  one_next es e f h k = elim (order e.from h.by h.place f.from k.by k.place h.is_place k.is_place) as (λ _. e ≡ f) [
    | inl less ↦ absurd (h.gives.1 (k.first e.from h.by e.plan less h.gives.0))
    | inr (inl more) ↦ absurd (k.gives.1 (h.first f.from k.by f.plan more k.gives.0))
    | inr (inr alike) ↦
        let plan : h.gives.0.0 ≡ k.gives.0.0 = one_plan es e.from h.gives.0.0 k.gives.0.0 h.gives.0.1 (subst (λ n. IsAt es n k.gives.0.0) (sym alike.0) k.gives.0.1) in
        let condition : h.by ≡ k.by = told_as_one k.gives.0.0 h.by k.by (subst (λ (t : PlanTree). IsLegalIn p t h.by) plan h.gives.0.2) k.gives.0.2 alike.1 alike.2 in
        let same_plan : e.plan ≡ f.plan = h.gives.0.3 ∙ (λ i. after (condition i) (plan i)) ∙ sym k.gives.0.3 in
        let same_by = h.is_by ∙ ap (λ (c : Condition). Some c) condition ∙ sym k.is_by in
        (λ i. record { plan = same_plan i; from = alike.0 i; by = same_by i })
  ]

module _ (p : ProgramData) (limit : ℕ) where
  one_list : (es fs : List Entry) → Grows p limit es → Grows p limit fs → length es ≡ length fs → es ≡ fs
  one_list _ _ begins begins same = refl
  one_list _ _ begins (goes_on fs f k room next) same = let more = length-one_more fs f in let some = some_entry p limit fs k in absurd (omega (arith, more, some, same))
  one_list _ _ (goes_on es e g room next) begins same = let more = length-one_more es e in let some = some_entry p limit es g in absurd (omega (arith, more, some, same))
  one_list _ _ (goes_on es e g room next) (goes_on fs f k space last) same =
      let left = length-one_more es e in
      let right = length-one_more fs f in
      let front : es ≡ fs = one_list es fs g k (omega (arith, left, right, same)) in
      let end : e ≡ f = one_next p fs e f (subst (λ (xs : List Entry). IsNext p xs e) front next) last in
      (λ i. front i ++ end i ∷ [])

  -- a list of `n` entries that is shorter than the limit and has a next entry
  abbrev HasFront : ℕ → Type 0
  HasFront n = (es : List Entry) × Grows p limit es × (length es ≡ n) × (n < limit) × ((e : Entry) × IsNext p es e)

  front_of : (fs : List Entry) → Grows p limit fs → (n : ℕ) → 1 ≤ n → n < length fs → HasFront n
  front_of _ begins n some less = absurd (omega (arith, some, less))
  front_of _ (goes_on fs f k room next) n some less = elim (cases_order n (length fs)) as (λ _. HasFront n) [
    | inl e ↦ (fs, k, sym e, subst (λ m. m < limit) (sym e) room, (f, next))
    | inr (inl l) ↦ front_of fs k n some l
    | inr (inr l) ↦ let more = length-one_more fs f in absurd (omega (arith, more, less, l))
  ]

  -- a listing isn't a prefix of a longer list
  not_longer : (l m : ListedPlans) → IsListing p limit l → IsListing p limit m → length l.entries < length m.entries → ⊥
  not_longer l m h k less =
      let x = front_of m.entries k.grows (length l.entries) (some_entry p limit l.entries h.grows) less in
      let same : x.0 ≡ l.entries = one_list x.0 l.entries x.1 h.grows x.2 in
      by l.complete h.ends x.3 x.4.0 (subst (λ (es : List Entry). IsNext p es x.4.0) same x.4.1) where
        by : (b : Bool) → Ends p limit l.entries b → length l.entries < limit → (e : Entry) → IsNext p l.entries e → ⊥
        by true closed room e next = next.gives.1 (closed e.from next.by e.plan next.gives.0)
        by false full room e next = let all = full.0 in omega (arith, all, room)

  one_end : (es : List Entry) (a b : Bool) → Ends p limit es a → Ends p limit es b → a ≡ b
  one_end es true true h k = refl
  one_end es false false h k = refl
  one_end es true false h k = let new = k.1 in absurd (new.3.1 (h new.0 new.1 new.2 new.3.0))
  one_end es false true h k = let new = h.1 in absurd (new.3.1 (k new.0 new.1 new.2 new.3.0))

  pub listing_is_one : (l m : ListedPlans) → IsListing p limit l → IsListing p limit m → l ≡ m
  listing_is_one l m h k = elim (cases_order (length l.entries) (length m.entries)) as (λ _. l ≡ m) [
    | inl e ↦
        let entries : l.entries ≡ m.entries = one_list l.entries m.entries h.grows k.grows e in
        let complete : l.complete ≡ m.complete = one_end m.entries l.complete m.complete (subst (λ (es : List Entry). Ends p limit es l.complete) entries h.ends) k.ends in
        (λ i. record { entries = entries i; complete = complete i })
    | inr (inl less) ↦ absurd (not_longer l m h k less)
    | inr (inr less) ↦ absurd (not_longer m l k h less)
  ]
