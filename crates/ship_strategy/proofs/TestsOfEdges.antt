-- The test of legal edges decides whether they are legal.
use Rattle.std.proofs.Common.{◌≡◌, inl, inr, ℕ, true, false, Bool, List, refl, ap, sym, ◌∙◌, ◌||◌, ◌&&◌}
use Rattle.std.specs.Prelude.{◌⊎◌}
use Rattle.std.proofs.lemmas.Bool.{or_cases, or_left, or_right, and_parts, and_from, true≢false, not_from_false, not-true}
use Rattle.pact_record.specs.Keys.{is_listed}
use Rattle.tac_syntax.specs.declared.declarations.OpKind.{OpKind}
use Rattle.tac_syntax.specs.declared.declarations.OpKind.TheVariants.{Source, Map, Reduce, Match, Cross, CoGroup}
use Rattle.plan_trees.specs.Physicals.{PhysicalData, ship_of}
use Rattle.plan_trees.specs.Plans.{PlanTree, leaf, over, both}
use Rattle.ship_strategy.specs.Facts.{Facts}
use Rattle.ship_strategy.specs.Ships.{Placement, placement, is_within, is_exactly, IsLegalOver, IsLegalBoth, AreByKey, GoesEverywhere, IsLegal, legal_over, legal_both, are_by_key, goes_everywhere, is_legal, allows_over, allows_both}
use Rattle.ship_strategy.proofs.TestsOfKeys.{listed_all, exactly, exactly_self, within}

over_says : (kind : OpKind) (keys : List ℕ) (all : Bool) (edge : Placement) → legal_over kind keys all edge ≡ true → IsLegalOver kind keys all edge
over_says Source keys all edge e = absurd (true≢false (sym e))
over_says Map keys all edge e = not-true all e
over_says Reduce keys all edge e = within keys edge e
over_says Match keys all edge e = absurd (true≢false (sym e))
over_says Cross keys all edge e = absurd (true≢false (sym e))
over_says CoGroup keys all edge e = absurd (true≢false (sym e))

over_tests : (kind : OpKind) (keys : List ℕ) (all : Bool) (edge : Placement) → IsLegalOver kind keys all edge → legal_over kind keys all edge ≡ true
over_tests Map keys all edge h = not_from_false all h
over_tests Reduce keys all edge h = ap (is_within keys) h.1 ∙ listed_all (is_listed keys) h.0 h.2
over_tests kind keys all edge h = absurd h

everywhere_says : (l r : Bool) → goes_everywhere l r ≡ true → GoesEverywhere l r
everywhere_says true r e = inl (refl, not-true r e)
everywhere_says false r e = inr (refl, e)

everywhere_tests : (l r : Bool) → GoesEverywhere l r → goes_everywhere l r ≡ true
everywhere_tests l r (inl h) = ap (λ (x : Bool). goes_everywhere x r) h.0 ∙ not_from_false r h.1
everywhere_tests l r (inr h) = ap (λ (x : Bool). goes_everywhere x r) h.0 ∙ h.1

keys_say : (lk rk : List ℕ) (left right : Placement) → are_by_key lk rk left right ≡ true → AreByKey lk rk left right
keys_say lk rk left right e = let p = and_parts (is_exactly lk left) (is_exactly rk right) e in (exactly lk left p.0, exactly rk right p.1)

keys_test : (lk rk : List ℕ) (left right : Placement) → AreByKey lk rk left right → are_by_key lk rk left right ≡ true
keys_test lk rk left right h = and_from _ _ (exactly_self lk left h.0) (exactly_self rk right h.1)

both_says : (kind : OpKind) (lk rk : List ℕ) (l r : Bool) (left right : Placement) → legal_both kind lk rk l r left right ≡ true → IsLegalBoth kind lk rk l r left right
both_says Source lk rk l r left right e = absurd (true≢false (sym e))
both_says Map lk rk l r left right e = absurd (true≢false (sym e))
both_says Reduce lk rk l r left right e = absurd (true≢false (sym e))
both_says Match lk rk l r left right e = elim (or_cases (are_by_key lk rk left right) (goes_everywhere l r) e) as (λ _. IsLegalBoth Match lk rk l r left right) [
  | inl k ↦ inl (keys_say lk rk left right k)
  | inr k ↦ inr (everywhere_says l r k)
]
both_says Cross lk rk l r left right e = everywhere_says l r e
both_says CoGroup lk rk l r left right e = keys_say lk rk left right e

match_tests : (lk rk : List ℕ) (l r : Bool) (left right : Placement) → AreByKey lk rk left right ⊎ GoesEverywhere l r → (are_by_key lk rk left right || goes_everywhere l r) ≡ true
match_tests lk rk l r left right (inl h) = or_left _ (goes_everywhere l r) (keys_test lk rk left right h)
match_tests lk rk l r left right (inr h) = or_right (are_by_key lk rk left right) _ (everywhere_tests l r h)

both_tests : (kind : OpKind) (lk rk : List ℕ) (l r : Bool) (left right : Placement) → IsLegalBoth kind lk rk l r left right → legal_both kind lk rk l r left right ≡ true
both_tests Source lk rk l r left right h = absurd h
both_tests Map lk rk l r left right h = absurd h
both_tests Reduce lk rk l r left right h = absurd h
both_tests Match lk rk l r left right h = match_tests lk rk l r left right h
both_tests Cross lk rk l r left right h = everywhere_tests l r h
both_tests CoGroup lk rk l r left right h = keys_test lk rk left right h

pub legal_says : (f : Facts) (p : PhysicalData) (t : PlanTree) → is_legal f p t ≡ true → IsLegal f p t
legal_says f p (leaf n) e = tt
legal_says f p (over n t) e =
    let k = and_parts (allows_over (f n) (ship_of p t) (placement f p t)) (is_legal f p t) e in
    (over_says (f n).kind (f n).left_keys _ _ k.0, legal_says f p t k.1)
legal_says f p (both n t u) e =
    let k = and_parts (allows_both (f n) (ship_of p t) (ship_of p u) (placement f p t) (placement f p u)) (is_legal f p t && is_legal f p u) e in
    let m = and_parts (is_legal f p t) (is_legal f p u) k.1 in
    (both_says (f n).kind (f n).left_keys (f n).right_keys _ _ _ _ k.0, legal_says f p t m.0, legal_says f p u m.1)

pub legal_tests : (f : Facts) (p : PhysicalData) (t : PlanTree) → IsLegal f p t → is_legal f p t ≡ true
legal_tests f p (leaf n) h = refl
legal_tests f p (over n t) h = and_from _ _ (over_tests (f n).kind (f n).left_keys _ _ h.0) (legal_tests f p t h.1)
legal_tests f p (both n t u) h =
    and_from _ _ (both_tests (f n).kind (f n).left_keys (f n).right_keys _ _ _ _ h.0) (and_from _ _ (legal_tests f p t h.1) (legal_tests f p u h.2))
