-- The walk goes past an exchange that isn't legal, one whose plan is listed, and one whose plan is added; then past all
-- of an operator, of an entry, and of all entries.
use Rattle.std.proofs.Common.{◌≡◌, ◌<◌, ◌≤◌, ◌+◌, ◌⊎◌, inl, inr, ℕ, Bool, true, false, List, [], ◌∷◌, ◌++◌, length, get_or, Option, Some, None, IfNone, sym, ap, subst, ◌∙◌, arith}
use Rattle.std.proofs.lemmas.Bool.{cases_lt}
use Rattle.std.proofs.lemmas.Option.{same_Some, slice_get-get_or, slice_get_within}
use Rattle.plan_trees.specs.Plans.{PlanTree, IsPlan, has, node_limit}
use Rattle.plan_trees.proofs.Ships.{below_limit}
use Rattle.pact_operators.specs.Programs.{ProgramData}
use Rattle.reorder_pair.specs.declared.legality.Condition.{Condition}
use Rattle.reorder_pair.specs.declared.rules.Rule.{Rule}
use Rattle.reorder_pair.specs.Legal.{IsConditionOf, IsLegal, IsLegalFor}
use Rattle.reorder_pair.specs.Rules.{all_rules, swapped}
use Rattle.reorder_pair.proofs.WordsOfRules.{all_rules-place_of, place_of}
use Rattle.plan_enumerate.specs.declared.entries.Entry.{Entry}
use Rattle.plan_enumerate.specs.Listing.{AreListedBefore, Gives, IsAt, IsBefore, IsClosed, IsListed, IsNext, IsOpen, IsRuleAt, begins, first_entry, goes_on}
use Rattle.reorder_pair.specs.ToldExchanges.{IsLegalIn}
use Rattle.plan_enumerate.specs.Walks.{Adds, GoesTo, IsFull, IsNeighbour, IsWalked}
use Rattle.plan_enumerate.proofs.LongerLists.{IsAt-one_more, IsAt-within, IsListed-last, IsListed-one_more, one_plan, plan_stays}

-- ---- rules and conditions

pub one_rule : (n : ℕ) (r s : Rule) → IsRuleAt n r → IsRuleAt n s → r ≡ s
one_rule n r s h k = same_Some r s (sym h ∙ k)

pub IsRuleAt-get_or : (rules : List Rule) (n : ℕ) (d : Rule) → rules ≡ all_rules → n < length all_rules → IsRuleAt n (get_or rules n d)
IsRuleAt-get_or rules n d same within = subst (λ (rs : List Rule). IsRuleAt n (get_or rs n d)) (sym same) (slice_get-get_or all_rules n d within)

place_of-within : (rule : Rule) → place_of rule < length all_rules
place_of-within rule = slice_get_within all_rules (place_of rule) rule (all_rules-place_of rule)

pub IfNone-here : {A : Type 0} (o : Option A) (P : Type 0) → o ≡ None → IfNone o P → P
IfNone-here None P e h = h
IfNone-here (Some a) P e h = absurd (cc)

module _ (p : ProgramData) where
  -- the condition of a legal exchange is legal
  told_as : (t : PlanTree) (at : ℕ) (rule : Rule) (c : Condition) → IsConditionOf p t at rule c → IsLegalIn p t c
  told_as t at rule c h =
      subst (λ (r : Rule). IsLegalFor p t c.at r c.upper c.lower) (sym h.same_rule) (subst (λ n. IsLegalFor p t n rule c.upper c.lower) (sym h.place) h.legal)

  -- if a condition is legal, its rule has a legal exchange
  legal_there : (s t : PlanTree) (at : ℕ) (rule : Rule) (c : Condition) → s ≡ t → c.at ≡ at → c.rule ≡ rule → IsLegalIn p s c → IsLegal p t at rule
  legal_there s t at rule c same place of_rule h = (
    c.upper,
    c.lower,
    subst (λ (r : Rule). IsLegalFor p t at r c.upper c.lower) of_rule
        (subst (λ n. IsLegalFor p t n c.rule c.upper c.lower) place (subst (λ (u : PlanTree). IsLegalFor p u c.at c.rule c.upper c.lower) same h)),
  )

-- ---- from place to place

module _ (p : ProgramData) where
  -- what was listed before a place still is, in a longer list
  still_before : (es : List Entry) (e : Entry) (i at n : ℕ) → i < length es → AreListedBefore p es i at n → AreListedBefore p (es ++ e ∷ []) i at n
  still_before es e i at n within h j c u before g =
      let earlier : j ≤ i = elim before as (λ _. j ≤ i) [ inl l ↦ omega (arith, l) | inr k ↦ let same = k.0 in omega (arith, same) ] in
      let inside : j < length es = omega (arith, earlier, within) in
      IsListed-one_more es e u (h j c u before (g.0, sym (plan_stays es e j inside) ∙ g.1, g.2, g.3))

  -- past the rule at a place, if what it yields is listed
  past_rule : (es : List Entry) (i at n : ℕ) → AreListedBefore p es i at n → ((d : Condition) (u : PlanTree) → d.at ≡ at → IsRuleAt n d.rule → Gives p es i d u → IsListed u es)
      → AreListedBefore p es i at (n + 1)
  past_rule es i at n h here j d u (inl before) g = h j d u (inl before) g
  past_rule es i at n h here j d u (inr (same, inl before)) g = h j d u (inr (same, inl before)) g
  past_rule es i at n h here j d u (inr (same, inr (place, (m, below, is)))) g = elim (cases_lt m n) as (λ _. IsListed u es) [
    | inl less ↦ h j d u (inr (same, inr (place, (m, less, is)))) g
    | inr more ↦
        let last : m ≡ n = omega (arith, below, more) in
        here d u place (subst (λ k. IsRuleAt k d.rule) last is) (subst (λ k. Gives p es k d u) same g)
  ]

  -- an exchange of the place yields the plan after it
  given : (es : List Entry) (i at n : ℕ) (rule : Rule) (t : PlanTree) → IsAt es i t → IsRuleAt n rule → (d : Condition) (u : PlanTree) → d.at ≡ at → IsRuleAt n d.rule → Gives p es i d u
      → u ≡ swapped rule at t
  given es i at n rule t h k d u place is g = g.3 ∙ (λ q. swapped (one_rule n d.rule rule is k q) (place q) (one_plan es i g.0 t g.1 h q))

  -- the upper operator of a legal exchange has a small number
  pub small_operators : (es : List Entry) (i : ℕ) (t : PlanTree) → IsAt es i t → IsPlan t → (c : Condition) (u : PlanTree) → Gives p es i c u → c.at < node_limit
  small_operators es i t h plan c u g =
      below_limit c.at t plan (subst (λ (s : PlanTree). has c.at s ≡ true) (one_plan es i g.0 t g.1 h) g.2.found.place.node)

-- ---- past one exchange

module _ (limit : ℕ) where
  pub IsAt-added : (es new : List Entry) (i : ℕ) (t : PlanTree) (e : Entry) (b : Bool) → Adds limit e es new b → IsAt es i t → IsAt new i t
  IsAt-added es new i t e true (inl (listed, same)) h = subst (λ (xs : List Entry). IsAt xs i t) (sym same) h
  IsAt-added es new i t e true (inr (absent, room, added)) h = subst (λ (xs : List Entry). IsAt xs i t) (sym added) (IsAt-one_more es e i t h)
  IsAt-added es new i t e false (absent, full, same) h = subst (λ (xs : List Entry). IsAt xs i t) (sym same) h

module _ (p : ProgramData) (limit : ℕ) where
  pub past_illegal : (es : List Entry) (i at n : ℕ) (rule : Rule) (t : PlanTree) → IsAt es i t → IsRuleAt n rule → (IsLegal p t at rule → ⊥)
      → IsWalked p limit es i at n → IsWalked p limit es i at (n + 1)
  past_illegal es i at n rule t h k none w = record {
    grows = w.grows;
    before = past_rule p es i at n w.before
        (λ d u place is g. absurd (none (legal_there p g.0 t at rule d (one_plan es i g.0 t g.1 h) place (one_rule n d.rule rule is k) g.2)));
  }

  past_listed : (es : List Entry) (i at n : ℕ) (rule : Rule) (t : PlanTree) → IsAt es i t → IsRuleAt n rule → IsListed (swapped rule at t) es
      → IsWalked p limit es i at n → IsWalked p limit es i at (n + 1)
  past_listed es i at n rule t h k listed w = record {
    grows = w.grows;
    before = past_rule p es i at n w.before (λ d u place is g. subst (λ (s : PlanTree). IsListed s es) (sym (given p es i at n rule t h k d u place is g)) listed);
  }

  -- a legal exchange yields the swapped plan
  gives_swapped : (es : List Entry) (i at : ℕ) (rule : Rule) (t : PlanTree) (c : Condition) → IsAt es i t → IsConditionOf p t at rule c → Gives p es i c (swapped rule at t)
  gives_swapped es i at rule t c h legal = (t, h, told_as p t at rule c legal, λ q. swapped (sym legal.same_rule q) (sym legal.place q) t)

  past_added : (es : List Entry) (i at n : ℕ) (rule : Rule) (t : PlanTree) (e : Entry) → IsAt es i t → IsRuleAt n rule → IsNeighbour p t i at rule e
      → (IsListed e.plan es → ⊥) → length es < limit → IsWalked p limit es i at n → IsWalked p limit (es ++ e ∷ []) i at (n + 1)
  past_added es i at n rule t e h k neighbour absent room w =
      let c = neighbour.by in
      let legal = neighbour.legal in
      let longer = es ++ e ∷ [] in
      let within = IsAt-within es i t h in
      let plan : e.plan ≡ swapped rule at t = ap (λ (x : Entry). x.plan) neighbour.is in
      let from : e.from ≡ i = ap (λ (x : Entry). x.from) neighbour.is in
      let gives : Gives p es e.from c e.plan = subst (λ j. Gives p es j c e.plan) (sym from) (subst (Gives p es i c) (sym plan) (gives_swapped es i at rule t c h legal)) in
      let next : IsNext p es e = record {
        by = c;
        is_by = ap (λ (x : Entry). x.by) neighbour.is;
        place = n;
        is_place = subst (IsRuleAt n) (sym legal.same_rule) k;
        gives = (gives, absent);
        first = subst (λ j. AreListedBefore p es j c.at n) (sym from) (subst (λ m. AreListedBefore p es i m n) (sym legal.place) w.before);
      } in
      record {
        grows = goes_on es e w.grows room next;
        before = past_rule p longer i at n (still_before p es e i at n within w.before)
            (λ d u place is g. subst (λ (s : PlanTree). IsListed s longer) (plan ∙ sym (given p longer i at n rule t (IsAt-one_more es e i t h) k d u place is g)) (IsListed-last es e));
      }

  left_out : (es : List Entry) (i at : ℕ) (rule : Rule) (t : PlanTree) (e : Entry) → IsAt es i t → IsNeighbour p t i at rule e → (IsListed e.plan es → ⊥) → IsOpen p es
  left_out es i at rule t e h neighbour absent =
      let plan : e.plan ≡ swapped rule at t = ap (λ (x : Entry). x.plan) neighbour.is in
      (i, neighbour.by, swapped rule at t, (gives_swapped es i at rule t neighbour.by h neighbour.legal, subst (λ (s : PlanTree). IsListed s es → ⊥) plan absent))

  pub past_legal : (es new : List Entry) (i at n : ℕ) (rule : Rule) (t : PlanTree) (e : Entry) (b : Bool) → IsAt es i t → IsRuleAt n rule → IsNeighbour p t i at rule e
      → Adds limit e es new b → IsWalked p limit es i at n → GoesTo p limit new i at (n + 1) b
  past_legal es new i at n rule t e true h k neighbour (inl (listed, same)) w =
      let plan : e.plan ≡ swapped rule at t = ap (λ (x : Entry). x.plan) neighbour.is in
      subst (λ (xs : List Entry). IsWalked p limit xs i at (n + 1)) (sym same) (past_listed es i at n rule t h k (subst (λ (s : PlanTree). IsListed s es) plan listed) w)
  past_legal es new i at n rule t e true h k neighbour (inr (absent, room, added)) w =
      subst (λ (xs : List Entry). IsWalked p limit xs i at (n + 1)) (sym added) (past_added es i at n rule t e h k neighbour absent room w)
  past_legal es new i at n rule t e false h k neighbour (absent, full, same) w =
      subst (IsFull p limit) (sym same) (record { grows = w.grows; full = full; left_out = left_out es i at rule t e h neighbour absent })

-- ---- past all exchanges of an operator, of an entry, and of all entries

module _ (p : ProgramData) (limit : ℕ) where
  none_below : (n : ℕ) → n < 0 → ⊥
  none_below n l = omega (arith, l)

  pub past_rules : (es : List Entry) (i at : ℕ) → IsWalked p limit es i at (length all_rules) → IsWalked p limit es i (at + 1) 0
  past_rules es i at w = record { grows = w.grows; before = λ j d u before g. w.before j d u (there j d before) g } where
    there : (j : ℕ) (d : Condition) → IsBefore j d i (at + 1) 0 → IsBefore j d i at (length all_rules)
    there j d (inl before) = inl before
    there j d (inr (same, inl less)) = inr (
      same,
      elim (cases_lt d.at at) as (λ _. (d.at < at) ⊎ ((d.at ≡ at) × ((m : ℕ) × (m < length all_rules) × IsRuleAt m d.rule))) [
        | inl before ↦ inl before
        | inr more ↦ inr (omega (arith, less, more), (place_of d.rule, place_of-within d.rule, all_rules-place_of d.rule))
      ],
    )
    there j d (inr (same, inr (place, (m, below, is)))) = absurd (none_below m below)

  pub past_operators : (es : List Entry) (i n : ℕ) → ((c : Condition) (u : PlanTree) → Gives p es i c u → c.at < n) → IsWalked p limit es i n 0 → IsWalked p limit es (i + 1) 0 0
  past_operators es i n small w = record { grows = w.grows; before = λ j d u before g. w.before j d u (there j d u g before) g } where
    there : (j : ℕ) (d : Condition) (u : PlanTree) → Gives p es j d u → IsBefore j d (i + 1) 0 0 → IsBefore j d i n 0
    there j d u g (inl less) = elim (cases_lt j i) as (λ _. IsBefore j d i n 0) [
      | inl before ↦ inl before
      | inr more ↦ let same : j ≡ i = omega (arith, less, more) in inr (same, inl (small d u (subst (λ k. Gives p es k d u) same g)))
    ]
    there j d u g (inr (same, inl less)) = absurd (none_below d.at less)
    there j d u g (inr (same, inr (place, (m, below, is)))) = absurd (none_below m below)

  pub walk_begins : IsWalked p limit (first_entry p.plan ∷ []) 0 0 0
  walk_begins = record { grows = begins; before = λ j d u before g. absurd (none j d before) } where
    none : (j : ℕ) (d : Condition) → IsBefore j d 0 0 0 → ⊥
    none j d (inl l) = none_below j l
    none j d (inr (same, inl l)) = none_below d.at l
    none j d (inr (same, inr (place, (m, below, is)))) = none_below m below

  pub past_entries : (es : List Entry) (n : ℕ) → length es ≤ n → IsWalked p limit es n 0 0 → IsClosed p es
  past_entries es n all w i c u g = let within = IsAt-within es i g.0 g.1 in w.before i c u (inl (omega (arith, within, all))) g
