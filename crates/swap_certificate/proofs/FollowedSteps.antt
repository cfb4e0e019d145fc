-- Steps that are followed one after another.
use Rattle.std.proofs.Common.{◌≡◌, ◌+◌, ◌<◌, ◌≤◌, inl, inr, ℕ, List, [], ◌∷◌, length, drop, get_or, Result, Ok, Err, refl, sym, ap, subst, ◌∙◌}
use Rattle.std.proofs.lemmas.List.{drop_all, drop_more}
use Rattle.plan_trees.specs.Plans.{PlanTree}
use Rattle.pact_operators.specs.Programs.{ProgramData}
use Rattle.reorder_pair.specs.Reach.{Reach, as_written}
use Rattle.swap_certificate.specs.declared.certificates.CertFault.{CertFault}
use Rattle.swap_certificate.specs.declared.certificates.CertFault.TheVariants.{C5}
use Rattle.swap_certificate.specs.declared.certificates.Certificate.{Certificate}
use Rattle.swap_certificate.specs.declared.certificates.Step.{Step}
use Rattle.swap_certificate.specs.Checks.{EndsAt, Follow, Follows, StepTo, other_line}
use Rattle.swap_certificate.specs.PlanLines.{line_of}
use Rattle.swap_certificate.proofs.CheckedSteps.{step-Reach}

-- the remaining steps begin with the next step
rest_of : (steps shown : List Step) (i : ℕ) (s : Step) → s ≡ get_or shown i s → shown ≡ steps → i < length shown → drop i steps ≡ s ∷ drop (i + 1) steps
rest_of steps shown i s is same within =
    let all : drop i shown ≡ get_or shown i s ∷ drop (i + 1) shown = drop_more shown i s within in
    ap (drop i) (sym same) ∙ all ∙ (λ k. sym is k ∷ drop (i + 1) (same k))

-- no step remains after the last
none_left : (steps shown : List Step) (i : ℕ) → shown ≡ steps → length shown ≤ i → drop i steps ≡ []
none_left steps shown i same past = drop_all i steps (subst (λ (xs : List Step). length xs ≤ i) same past)

module _ (p : ProgramData) (c : Certificate) where
  -- `done` steps led to the plan, which is in reach. The result of the remaining steps from there is the certificate's
  -- result.
  pub record IsFollowed (done n : ℕ) (t : PlanTree) : Type 0 where
    pub number : n ≡ done + 1
    pub reached : Reach p t
    pub comes_to : (r : Result PlanTree CertFault) → Follow p c.plan n t (drop done c.steps) r → Follows p c r

  pub followed-start : (t : PlanTree) → t ≡ p.plan → IsFollowed 0 1 t
  followed-start t e = record {
    number = refl;
    reached = subst (Reach p) (sym e) as_written;
    comes_to = λ r h. subst (λ (u : PlanTree). Follow p c.plan 1 u c.steps r) e h;
  }

  module _ (shown : List Step) (same : shown ≡ c.steps) (i n : ℕ) (t : PlanTree) (followed : IsFollowed i n t) where
    module _ (s : Step) (is : s ≡ get_or shown i s) (within : i < length shown) where
      pub followed-next : (u : PlanTree) → StepTo p n t s (Ok u) → IsFollowed (i + 1) (n + 1) u
      followed-next u h = record {
        number = ap (λ (m : ℕ). m + 1) followed.number;
        reached = step-Reach p n t u s (Ok u) refl h followed.reached;
        comes_to = λ r g. followed.comes_to r (subst (λ (xs : List Step). Follow p c.plan n t xs r) (sym (rest_of c.steps shown i s is same within)) (inr (u, h, g)));
      }

      pub followed-fault : (fault : CertFault) → StepTo p n t s (Err fault) → Follows p c (Err fault)
      followed-fault fault h =
          followed.comes_to (Err fault) (subst (λ (xs : List Step). Follow p c.plan n t xs (Err fault)) (sym (rest_of c.steps shown i s is same within)) (inl (fault, h, refl)))

    pub followed-end : (r : Result PlanTree CertFault) → length shown ≤ i → EndsAt p c.plan t r → Follows p c r
    followed-end r past h = followed.comes_to r (subst (λ (xs : List Step). Follow p c.plan n t xs r) (sym (none_left c.steps shown i same past)) h)

  -- the line of the reached plan isn't the stated one
  pub found-EndsAt : (t : PlanTree) (found : List ℕ) → found ≡ line_of p.ops t → (c.plan ≡ found → ⊥) → EndsAt p c.plan t (Err (C5 found))
  found-EndsAt t found e other = subst (λ (line : List ℕ). EndsAt p c.plan t (Err (C5 line))) (sym e) (other_line (λ same. other (same ∙ sym e)))
