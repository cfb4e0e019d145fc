-- What trying a word says, and lists of what is expected.
use Rattle.std.proofs.Common.{◌≡◌, ◌++◌, ◌∷◌, [], ℕ, List, Bool, true, Option, Some, codes, inr, ap, subst, ◌∙◌}
use Rattle.std.specs.List.{AllByRecursion}
use Rattle.pact_record.proofs.Lists.{AllByRecursion-append}
use Rattle.text_marks.specs.Marks.{HasFirst, TellsAccepted, IsAccepted, IsExpected, IsFixedItem, has_one_sample, is_beyond}
use Rattle.text_marks.specs.Samples.{sample_of}
use Rattle.text_marks.specs.TextParts.{cut_with, line_number}
use Rattle.text_marks.specs.declared.trials.Fault.{Fault}
use Rattle.text_marks.specs.declared.expected.Expected.{Expected}
use Rattle.text_marks.specs.declared.expected.Expected.TheVariants.{Word, ValueRegister, RecordRegister, Loop, Number, Signed, Literal, Name, FileName, Column, FieldRegister, LineEnd}

-- The word alone has fault 12, and with a number after it the text was read again.
pub tried_again : (from to : ℕ) (word words text : List ℕ) (number : ℕ) (fault completed : Option Fault) (accepted : Bool)
    → HasFirst (cut_with from to word text) fault
    → fault ≡ Some (record { line = number; what = 12 })
    → number ≡ line_number from text
    → words ≡ word ++ codes " 1"
    → HasFirst (cut_with from to words text) completed
    → accepted ≡ is_beyond number completed
    → TellsAccepted from to word text accepted
tried_again from to word words text number fault completed accepted h e n w k a = (
  completed,
  inr (
    subst (λ (f : Option Fault). HasFirst (cut_with from to word text) f) (e ∙ ap (λ (l : ℕ). Some (record { line = l; what = 12 })) n) h,
    subst (λ (ws : List ℕ). HasFirst (cut_with from to ws text) completed) w k,
  ),
  a ∙ ap (λ (l : ℕ). is_beyond l completed) n,
)

pub one_expected : (from to : ℕ) (text : List ℕ) (item : Expected) → has_one_sample item ≡ true → IsFixedItem item → IsAccepted from to (sample_of item) text → IsExpected from to text item
one_expected from to text (Word word) h f k = (f, k)
one_expected from to text ValueRegister h f k = k
one_expected from to text RecordRegister h f k = k
one_expected from to text (Loop number) h f k = k
one_expected from to text (Number low high) h f k = let no : ⊥ = cc in absurd no
one_expected from to text Signed h f k = k
one_expected from to text Literal h f k = k
one_expected from to text Name h f k = k
one_expected from to text FileName h f k = k
one_expected from to text Column h f k = k
one_expected from to text FieldRegister h f k = k
one_expected from to text LineEnd h f k = let no : ⊥ = cc in absurd no

pub and_one : {X : Type 0} (P : X → Type 0) (xs : List X) (x : X) → AllByRecursion P xs → P x → AllByRecursion P (xs ++ x ∷ [])
and_one P xs x a k = AllByRecursion-append P xs (x ∷ []) a (k, tt)
