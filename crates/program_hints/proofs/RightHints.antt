-- Lists of hints that are right.
use Rattle.std.proofs.Common.{◌≡◌, ◌++◌, ◌↔◌, ℕ, Bool, List, [], ◌∷◌, IsTrue, true, false, true≢false, sym, ◌∙◌}
use Rattle.std.specs.List.{AllByRecursion}
use Rattle.pact_record.specs.FieldSets.{has_field}

pub all_and_last : {A : Type 0} (P : A → Type 0) (xs : List A) (x : A) → AllByRecursion P xs → P x → AllByRecursion P (xs ++ x ∷ [])
all_and_last P [] x h k = (k, tt)
all_and_last P (y ∷ xs) x h k = (h.0, all_and_last P xs x h.1 k)

-- a field that a set doesn't have isn't what the set's members are
pub lacks : (b : Bool) (X : Type 0) → (IsTrue b ↔ X) → b ≡ false → X → ⊥
lacks b X h e x = true≢false (sym (h.1 x) ∙ e)
