-- One stage for each of some items, as a loop goes over them.
use Rattle.std.proofs.Common.{◌≡◌, ◌<◌, ◌+◌, ◌++◌, ℕ, zero, suc, List, [], ◌∷◌, length, take, get_or, Err, ap, subst, sym, ◌∙◌, arith}
use Rattle.std.proofs.lemmas.List.{take_more}
use Rattle.pact_load.specs.declared.refusals.Refusal.{Refusal}
use Rattle.pact_load.specs.Answers.{Decides}
use Rattle.pact_load.specs.Stages.{Stage, each, gives}
use Rattle.pact_load.proofs.AnswersOfStages.{decides_stop}
use Rattle.pact_load.proofs.StageLaws.{each_more}

-- the items after an item
split_at : {A : Type 0} (items : List A) (n : ℕ) (a : A) → n < length items → a ≡ get_or items n a → (later : List A) × (items ≡ take n items ++ a ∷ later)
split_at [] n a l e = absurd (omega arith)
split_at (x ∷ items) zero a l e = (items, ap (λ y. y ∷ items) (sym e))
split_at (x ∷ items) (suc n) a l e = let rest = split_at items n a (omega arith) e in (rest.0, ap (λ r. x ∷ r) rest.1)

pub each_next : {A B : Type 0} (k : A → Stage B) (items : List A) (n : ℕ) (a : A) (bs : List B) (b : B) → n < length items → a ≡ get_or items n a → (each k (take n items)).Ends [] (gives bs) → (k a).Ends [] (gives b)
    → (each k (take (n + 1) items)).Ends [] (gives (bs ++ b ∷ []))
each_next k items n a bs b l e h g =
    subst (λ (x : List _). (each k x).Ends [] (gives (bs ++ b ∷ []))) (sym (take_more items n a l ∙ ap (λ x. take n items ++ x ∷ []) (sym e))) (each_more k (take n items) a [] [] bs b h g)

pub decides_stop_at : {A B : Type 0} (k : A → Stage B) (items : List A) (n : ℕ) (a : A) (bs : List B) (r : Refusal) → n < length items → a ≡ get_or items n a → (each k (take n items)).Ends [] (gives bs) → Decides (k a) (Err r)
    → Decides (each k items) (Err r)
decides_stop_at k items n a bs r l e h g =
    let split = split_at items n a l e in
    subst (λ (x : List _). Decides (each k x) (Err r)) (sym split.1) (decides_stop k (take n items) a split.0 bs r h g)
