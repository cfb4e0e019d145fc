-- The fields that two joined bodies name.
use Rattle.std.proofs.Common.{◌⊎◌, ℕ, inl, inr}
use Rattle.tac_syntax.specs.Bounded.{Names}
use Rattle.tac_syntax.specs.Code.{Code, stop, plain, branch, again, each, joined}

module _ (fields k : ℕ) where
  pub names-joined : (c d : Code) → Names fields k (joined c d) → Names fields k c ⊎ Names fields k d
  names-joined stop d h = inr h
  names-joined (plain a next) d (inl h) = inl (inl h)
  names-joined (plain a next) d (inr h) = elim (names-joined next d h) as (λ _. Names fields k (plain a next) ⊎ Names fields k d) [ inl l ↦ inl (inr l) | inr r ↦ inr r ]
  names-joined (branch on body other next) d (inl h) = inl (inl h)
  names-joined (branch on body other next) d (inr (inl h)) = inl (inr (inl h))
  names-joined (branch on body other next) d (inr (inr h)) = elim (names-joined next d h) as (λ _. Names fields k (branch on body other next) ⊎ Names fields k d) [ inl l ↦ inl (inr (inr l)) | inr r ↦ inr r ]
  names-joined (again count body next) d (inl h) = inl (inl h)
  names-joined (again count body next) d (inr h) = elim (names-joined next d h) as (λ _. Names fields k (again count body next) ⊎ Names fields k d) [ inl l ↦ inl (inr l) | inr r ↦ inr r ]
  names-joined (each name list body next) d (inl h) = inl (inl h)
  names-joined (each name list body next) d (inr h) = elim (names-joined next d h) as (λ _. Names fields k (each name list body next) ⊎ Names fields k d) [ inl l ↦ inl (inr l) | inr r ↦ inr r ]

  pub joined-names : (c d : Code) → Names fields k c ⊎ Names fields k d → Names fields k (joined c d)
  joined-names stop d (inl h) = absurd h
  joined-names stop d (inr h) = h
  joined-names (plain a next) d (inl (inl h)) = inl h
  joined-names (plain a next) d (inl (inr h)) = inr (joined-names next d (inl h))
  joined-names (plain a next) d (inr h) = inr (joined-names next d (inr h))
  joined-names (branch on body other next) d (inl (inl h)) = inl h
  joined-names (branch on body other next) d (inl (inr (inl h))) = inr (inl h)
  joined-names (branch on body other next) d (inl (inr (inr h))) = inr (inr (joined-names next d (inl h)))
  joined-names (branch on body other next) d (inr h) = inr (inr (joined-names next d (inr h)))
  joined-names (again count body next) d (inl (inl h)) = inl h
  joined-names (again count body next) d (inl (inr h)) = inr (joined-names next d (inl h))
  joined-names (again count body next) d (inr h) = inr (joined-names next d (inr h))
  joined-names (each name list body next) d (inl (inl h)) = inl h
  joined-names (each name list body next) d (inl (inr h)) = inr (joined-names next d (inl h))
  joined-names (each name list body next) d (inr h) = inr (joined-names next d (inr h))
