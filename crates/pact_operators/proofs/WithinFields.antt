-- Records that are Null outside a set of fields are Null outside a larger one, and records that agree on their keys
-- have the same key values.
use Rattle.std.proofs.Common.{◌≡◌, ℕ, List, [], ◌∷◌, refl}
use Rattle.std.specs.List.{AllByRecursion, AllZip}
use Rattle.pact_record.proofs.Lists.{AllByRecursion-weaker}
use Rattle.pact_record.specs.declared.values.Value.{Value}
use Rattle.pact_record.specs.Record.{Agree, key_of}
use Rattle.tac_syntax.specs.Contexts.{FieldSet, Has}
use Rattle.tac_syntax.specs.Forms.{IsWithin}

-- what isn't in the second set isn't in the first
abbrev pub IsCovered : (ℕ → Type 0) → (ℕ → Type 0) → Type 0
IsCovered s t = (k : ℕ) → (t k → ⊥) → s k → ⊥

pub within_larger : (fields : ℕ) (s t : ℕ → Type 0) (row : List Value) → IsCovered s t → IsWithin fields s row → IsWithin fields t row
within_larger fields s t row covered h = record { width = h.width; null = λ k out. h.null k (covered k out) }

pub all_within_larger : (fields : ℕ) (s t : ℕ → Type 0) (rows : List (List Value)) → IsCovered s t → AllByRecursion (IsWithin fields s) rows → AllByRecursion (IsWithin fields t) rows
all_within_larger fields s t rows covered h = AllByRecursion-weaker (IsWithin fields s) (IsWithin fields t) rows (λ row w. within_larger fields s t row covered w) h

-- ---- records that agree

pub same_key_of : (set : FieldSet) (keys : List ℕ) (a b : List Value) → AllByRecursion (Has set) keys → Agree set a b → key_of keys a ≡ key_of keys b
same_key_of set [] a b h agree = refl
same_key_of set (k ∷ keys) a b h agree = λ i. agree k h.0 i ∷ same_key_of set keys a b h.1 agree i

pub agree_self : (set : FieldSet) (rows : List (List Value)) → AllZip (Agree set) rows rows
agree_self set [] = tt
agree_self set (row ∷ rows) = ((λ k is. refl), agree_self set rows)
