-- A certificate has only one result if no two operators have the same name.
use Rattle.std.proofs.Common.{◌≡◌, ◌+◌, ◌⊎◌, inl, inr, ℕ, List, [], ◌∷◌, Result, Ok, Err, refl, sym, subst, ◌∙◌}
use Rattle.plan_trees.specs.Plans.{PlanTree}
use Rattle.pact_operators.specs.declared.operators.Op.{Op}
use Rattle.pact_operators.specs.Programs.{NamesDiffer, ProgramData}
use Rattle.reorder_pair.specs.declared.finding.Found.{Found}
use Rattle.reorder_pair.specs.declared.legality.NotLegal.{NotLegal}
use Rattle.reorder_pair.specs.declared.rules.Rule.{Rule}
use Rattle.reorder_pair.specs.Legal.{IsFoundAt, IsLegalFor, IsRefusal}
use Rattle.reorder_pair.specs.Places.{IsPlace}
use Rattle.reorder_pair.specs.Rules.{swapped, word_of}
use Rattle.reorder_pair.proofs.OneFinding.{found_one, legal_or_refused}
use Rattle.swap_certificate.specs.declared.certificates.CertFault.{CertFault}
use Rattle.swap_certificate.specs.declared.certificates.CertFault.TheVariants.{C1, C2, C3, C4, C5, C6, Memory}
use Rattle.swap_certificate.specs.declared.certificates.Certificate.{Certificate}
use Rattle.swap_certificate.specs.declared.certificates.Step.{Step}
use Rattle.swap_certificate.specs.Checks.{Asks, Checks, EndsAt, Follow, StepTo, is_legal, no_place, no_rule, not_legal, other_line, other_sets, same_line}
use Rattle.swap_certificate.specs.PlanLines.{IsNamed}
use Rattle.swap_certificate.proofs.OneRefusal.{refusal_one}
use Rattle.swap_certificate.proofs.RuleWords.{rule_one}

-- a name belongs to one operator
pub named_one : (ops : List Op) (name : List ℕ) (m n : ℕ) → NamesDiffer ops → IsNamed ops name m → IsNamed ops name n → m ≡ n
named_one ops name m n differ h g = differ m n h.0 g.0 h.1 g.1 (h.3 ∙ sym g.3)

pub both_ok : {A B : Type 0} {x y : A} → ◌≡◌ {A = Result A B} (Ok x) (Ok y) → x ≡ y
both_ok e = cc

pub ok_or_err : {A B : Type 0} {x : A} {y : B} → Ok x ≡ Err y → ⊥
ok_or_err e = cc

module _ (p : ProgramData) (differ : NamesDiffer p.ops) where
  module _ (n : ℕ) (t : PlanTree) (s : Step) where
    -- a step asks for one rule at one place
    module _ (rule other : Rule) (at there : ℕ) (asks : Asks p s rule at) (asks_too : Asks p s other there) where
      same_rule : other ≡ rule
      same_rule = rule_one other rule (asks_too.rule_is ∙ sym asks.rule_is)

      same_place : there ≡ at
      same_place = named_one p.ops s.at there at differ asks_too.at_is asks.at_is

      found_here : (u l : Found) → IsFoundAt p t there other u l → IsFoundAt p t at rule u l
      found_here u l h = subst (λ (m : ℕ). IsFoundAt p t m rule u l) same_place (subst (λ (r : Rule). IsFoundAt p t there r u l) same_rule h)

      legal_here : (u l : Found) → IsLegalFor p t there other u l → IsLegalFor p t at rule u l
      legal_here u l h = subst (λ (m : ℕ). IsLegalFor p t m rule u l) same_place (subst (λ (r : Rule). IsLegalFor p t there r u l) same_rule h)

      refused_here : (why : NotLegal) → IsRefusal p t there other why → IsRefusal p t at rule why
      refused_here why h = subst (λ (m : ℕ). IsRefusal p t m rule why) same_place (subst (λ (r : Rule). IsRefusal p t there r why) same_rule h)

      -- a step can't state both the sets that are found and other sets
      sets_apart : (u l : Found) → IsFoundAt p t at rule u l → ((u ≡ s.upper) × (l ≡ s.lower) → ⊥) → IsFoundAt p t there other s.upper s.lower → ⊥
      sets_apart u l h apart g = apart (found_one p t at rule u l s.upper s.lower h (found_here s.upper s.lower g))

      fault_one : (u l v m : Found) → IsFoundAt p t at rule u l → IsFoundAt p t there other v m → ◌≡◌ {A = Result PlanTree CertFault} (Err (C3 n u l)) (Err (C3 n v m))
      fault_one u l v m h g = let same = found_one p t at rule u l v m h (found_here v m g) in λ i. Err (C3 n (same.0 i) (same.1 i))

      why_one : (why because : NotLegal) → IsRefusal p t at rule why → IsRefusal p t there other because → ◌≡◌ {A = Result PlanTree CertFault} (Err (C4 n why)) (Err (C4 n because))
      why_one why because h g = let same = refusal_one p t at rule why because h (refused_here because g) in λ i. Err (C4 n (same i))

      refused_or_legal : (why : NotLegal) (u l : Found) → IsRefusal p t at rule why → IsLegalFor p t there other u l → ⊥
      refused_or_legal why u l h g = legal_or_refused p t at rule why (u, l, legal_here u l g) h

      plan_one : ◌≡◌ {A = Result PlanTree CertFault} (Ok (swapped rule at t)) (Ok (swapped other there t))
      plan_one = λ i. Ok (swapped (sym same_rule i) (sym same_place i) t)

    -- if the rule has no place at any operator with the name, it has none at this one
    no_place_there : (rule other : Rule) (there : ℕ) → word_of rule ≡ s.rule → ((at : ℕ) → IsNamed p.ops s.at at → IsPlace p t at rule → ⊥) → Asks p s other there → IsPlace p t there other → ⊥
    no_place_there rule other there word none asks place =
        none there asks.at_is (subst (λ (r : Rule). IsPlace p t there r) (rule_one other rule (asks.rule_is ∙ sym word)) place)

    pub step_one : (q r : Result PlanTree CertFault) → StepTo p n t s q → StepTo p n t s r → q ≡ r
    step_one _ _ (no_rule none) (no_rule none_too) = refl
    step_one _ _ (no_rule none) (no_place rule word h) = absurd (none rule word)
    step_one _ _ (no_rule none) (other_sets rule at u l asks h apart) = absurd (none rule asks.rule_is)
    step_one _ _ (no_rule none) (not_legal rule at why asks h refused) = absurd (none rule asks.rule_is)
    step_one _ _ (no_rule none) (is_legal rule at asks h) = absurd (none rule asks.rule_is)
    step_one _ _ (no_place rule word h) (no_rule none) = absurd (none rule word)
    step_one _ _ (no_place rule word h) (no_place other word_too g) = refl
    step_one _ _ (no_place rule word h) (other_sets other at u l asks g apart) = absurd (no_place_there rule other at word h asks g.place)
    step_one _ _ (no_place rule word h) (not_legal other at why asks g refused) = absurd (no_place_there rule other at word h asks g.place)
    step_one _ _ (no_place rule word h) (is_legal other at asks g) = absurd (no_place_there rule other at word h asks g.found.place)
    step_one _ _ (other_sets rule at u l asks h apart) (no_rule none) = absurd (none rule asks.rule_is)
    step_one _ _ (other_sets rule at u l asks h apart) (no_place other word g) = absurd (no_place_there other rule at word g asks h.place)
    step_one _ _ (other_sets rule at u l asks h apart) (other_sets other there v m asks_too g apart_too) = fault_one rule other at there asks asks_too u l v m h g
    step_one _ _ (other_sets rule at u l asks h apart) (not_legal other there why asks_too g refused) = absurd (sets_apart rule other at there asks asks_too u l h apart g)
    step_one _ _ (other_sets rule at u l asks h apart) (is_legal other there asks_too g) = absurd (sets_apart rule other at there asks asks_too u l h apart g.found)
    step_one _ _ (not_legal rule at why asks h refused) (no_rule none) = absurd (none rule asks.rule_is)
    step_one _ _ (not_legal rule at why asks h refused) (no_place other word g) = absurd (no_place_there other rule at word g asks h.place)
    step_one _ _ (not_legal rule at why asks h refused) (other_sets other there v m asks_too g apart) = absurd (sets_apart other rule there at asks_too asks v m g apart h)
    step_one _ _ (not_legal rule at why asks h refused) (not_legal other there because asks_too g refused_too) = why_one rule other at there asks asks_too why because refused refused_too
    step_one _ _ (not_legal rule at why asks h refused) (is_legal other there asks_too g) = absurd (refused_or_legal rule other at there asks asks_too why s.upper s.lower refused g)
    step_one _ _ (is_legal rule at asks h) (no_rule none) = absurd (none rule asks.rule_is)
    step_one _ _ (is_legal rule at asks h) (no_place other word g) = absurd (no_place_there other rule at word g asks h.found.place)
    step_one _ _ (is_legal rule at asks h) (other_sets other there v m asks_too g apart) = absurd (sets_apart other rule there at asks_too asks v m g apart h.found)
    step_one _ _ (is_legal rule at asks h) (not_legal other there why asks_too g refused) = absurd (refused_or_legal other rule there at asks_too asks why s.upper s.lower refused h)
    step_one _ _ (is_legal rule at asks h) (is_legal other there asks_too g) = plan_one rule other at there asks asks_too

  ends_one : (line : List ℕ) (t : PlanTree) (q r : Result PlanTree CertFault) → EndsAt p line t q → EndsAt p line t r → q ≡ r
  ends_one line t _ _ (same_line h) (same_line g) = refl
  ends_one line t _ _ (same_line h) (other_line g) = absurd (g h)
  ends_one line t _ _ (other_line h) (same_line g) = absurd (h g)
  ends_one line t _ _ (other_line h) (other_line g) = refl

  follow_one : (line : List ℕ) (n : ℕ) (t : PlanTree) (steps : List Step) (q r : Result PlanTree CertFault) → Follow p line n t steps q → Follow p line n t steps r → q ≡ r
  follow_one line n t [] q r h g = ends_one line t q r h g
  follow_one line n t (s ∷ steps) q r (inl h) (inl g) = h.2 ∙ step_one n t s (Err h.0) (Err g.0) h.1 g.1 ∙ sym g.2
  follow_one line n t (s ∷ steps) q r (inl h) (inr g) = absurd (ok_or_err (step_one n t s (Ok g.0) (Err h.0) g.1 h.1))
  follow_one line n t (s ∷ steps) q r (inr h) (inl g) = absurd (ok_or_err (step_one n t s (Ok h.0) (Err g.0) h.1 g.1))
  follow_one line n t (s ∷ steps) q r (inr h) (inr g) =
      let same : h.0 ≡ g.0 = both_ok (step_one n t s (Ok h.0) (Ok g.0) h.1 g.1) in
      follow_one line (n + 1) g.0 steps q r (subst (λ (u : PlanTree). Follow p line (n + 1) u steps q) same h.2) g.2

-- ---- whole certificates

pub checks-one : (p : ProgramData) → NamesDiffer p.ops → (c : Certificate) (q r : Result PlanTree CertFault) → Checks p c q → Checks p c r → q ≡ r
checks-one p names c q r (inl h) (inl k) = h.1 ∙ sym k.1
checks-one p names c q r (inl h) (inr k) = absurd (h.0 k.0)
checks-one p names c q r (inr h) (inl k) = absurd (k.0 h.0)
checks-one p names c q r (inr h) (inr k) = follow_one p names c.plan 1 p.plan c.steps q r h.1 k.1

-- A call's result is the result of the check, unless it is out of memory.
pub checked-one : (p : ProgramData) → NamesDiffer p.ops → (c : Certificate) (result other : Result PlanTree CertFault) → ((result ≡ Err Memory → ⊥) → Checks p c result) → Checks p c other
    → (result ≡ other) ⊎ (result ≡ Err Memory)
checked-one p names c (Ok t) other h k = inl (checks-one p names c (Ok t) other (h (λ e. cc)) k)
checked-one p names c (Err (C1 n)) other h k = inl (checks-one p names c (Err (C1 n)) other (h (λ e. cc)) k)
checked-one p names c (Err (C2 n)) other h k = inl (checks-one p names c (Err (C2 n)) other (h (λ e. cc)) k)
checked-one p names c (Err (C3 n upper lower)) other h k = inl (checks-one p names c (Err (C3 n upper lower)) other (h (λ e. cc)) k)
checked-one p names c (Err (C4 n why)) other h k = inl (checks-one p names c (Err (C4 n why)) other (h (λ e. cc)) k)
checked-one p names c (Err (C5 found)) other h k = inl (checks-one p names c (Err (C5 found)) other (h (λ e. cc)) k)
checked-one p names c (Err (C6 stated found)) other h k = inl (checks-one p names c (Err (C6 stated found)) other (h (λ e. cc)) k)
checked-one p names c (Err Memory) other h k = inr refl
