-- Instances that were started on threads.
use Rattle.std.proofs.Common.{◌≡◌, ◌<◌, ◌∷◌, ◌++◌, ℕ, suc, List, [], length, map, ap, arith, refl}
use Rattle.std.specs.Prelude.{IfOk, Ok, Result, slice_index_or}
use Rattle.flow_instance.specs.Instances.{Instance}
use Rattle.flow_instance.specs.declared.before_start.Unstarted.{Unstarted}
use Rattle.flow_instance.specs.Starting.{IsStartedFrom}
use Rattle.flow_core.specs.Starting.{StartFrom}

module _ {E : Type 0} where
  abbrev pub oks : List Instance → List (Result Instance E)
  oks own = map Ok own

  pub oks_last : (own : List Instance) (i : Instance) → oks (own ++ i ∷ []) ≡ oks own ++ Ok i ∷ []
  oks_last [] i = refl
  oks_last (x ∷ own) i = ap (λ (l : List (Result Instance E)). Ok x ∷ l) (oks_last own i)

  abbrev EachFrom : List Unstarted → List (Result Instance E) → Type 0
  EachFrom row results = (k : ℕ) (u : Unstarted) (r : Result Instance E) → k < length row → u ≡ slice_index_or row k u → IfOk (slice_index_or results k r) (IsStartedFrom u)

  -- from single results to all of them
  pub all_from : (row : List Unstarted) (own : List Instance) → length (oks own) ≡ length row → EachFrom row (oks own) → StartFrom row own
  all_from [] [] long each = tt
  all_from (u ∷ row) [] long each = absurd (omega (arith, long))
  all_from [] (i ∷ own) long each = absurd (omega (arith, long))
  all_from (u ∷ row) (i ∷ own) long each = (each 0 u (Ok i) (omega arith) refl, all_from row own (omega (arith, long)) (λ k v r less at. each (suc k) v r (omega (arith, less)) at))
