-- The words that fill slots: the operands that are read from them, and the values of words without a fault, slot by
-- slot.
use Rattle.std.proofs.Common.{◌≡◌, ◌≤◌, ◌<◌, ◌^◌, ◌==◌, ◌++◌, ◌⊎◌, inr, Bool, false, ℕ, take, drop, zero, suc, if◌then◌else◌, ◌-◌, ℤ, pos, negsuc, true, List, [], ◌∷◌, None, FitsSigned, w64, codes, bytes_eq, decimal, take-append-drop, refl, ap, sym, ◌∙◌, arith, ◌≢◌, ◌+◌, ◌-ℤ◌, to_z, of_z, to_z-of_z, Some, IsTrue, Option}
use Rattle.std.specs.Fmt.{signed_decimal}
use Rattle.std.specs.Str.Parse.{AllDigits, digits_value}
use Rattle.std.proofs.lemmas.Bool.{and_parts, eq-eqb, eqb-true}
use Rattle.std.proofs.lemmas.Bool.Decides.{nat_tests}
use Rattle.std.proofs.lemmas.Fmt.{decimal_is_IsNumeral}
use Rattle.std.proofs.lemmas.Str.Parse.{digit_from_value}
use Rattle.tac_syntax.specs.declared.statements.Rec.{Rec}
use Rattle.tac_syntax.specs.declared.statements.Rec.TheVariants.{Reg, Loop, Input, Left, Right, Join, First}
use Rattle.tac_syntax.specs.declared.statements.LoopList.{LoopList}
use Rattle.tac_syntax.specs.declared.statements.LoopList.TheVariants.{Group, Left as LeftGroup, Right as RightGroup}
use Rattle.tac_syntax.specs.Grammar.{IsNumber, IsLoopName, IsSpelledRecord, IsLiteral}
use Rattle.pact_record.specs.declared.columns.Column.{Column}
use Rattle.text_lines.specs.OperandWords.{IsSpelledField, column_text, field_text, record_word, list_word}
use Rattle.text_lines.specs.declared.operands.FieldWord.{FieldWord}
use Rattle.text_lines.specs.declared.operands.FieldWord.TheVariants.{Number, Register}
use Rattle.text_lines.specs.Slots.{begins_with, column_fault, field_fault, numbered_fault, register_fault, is_fixed_record, operand_fault, name_fault, is_list_word, Slot, fixed, register, operand, number, which_field, signed, text, loop, list, identifier, file_name, column, slot_fault, nothing_left, fault_then, first_fault}
use Rattle.text_lines.specs.Digits.{is_in_form, is_in_range, is_signed_word, told_unless}
use Rattle.text_lines.proofs.Faultless.{by_cases, named, same_word, told_unless-none, or_else-none}
use Rattle.text_lines.proofs.DigitWords.{are_digits-decimal, is_in_range-decimal, number_read, number_spelled, is_signed_word-signed_decimal}
use Rattle.std.proofs.lemmas.Int.{to_z_pos}
use Rattle.std.specs.List.{AllByRecursion}
use Rattle.std.proofs.lemmas.Slice.Eq.{bytes_eq-Decides}
use Rattle.tac_syntax.specs.Names.{is_file_name, is_name}
use Rattle.text_lines.specs.CanonicalLines.{AreLineWords, IsLineWord}
use Rattle.text_lines.specs.LineGrammar.{LineWord, plain_word, literal_word}
use Rattle.text_lines.proofs.CanonicalLines.{IsFine, are_fine-word, fine_decimal, fine_file_name, fine_name, fine_numbered, fine_signed, is_fine, is_fine_word, is_fine_word-append}

-- ---- words that aren't numbers

-- A digit isn't a byte outside the digits' range.
pub digit_other : (b k : ℕ) (bs : List ℕ) → AllDigits 10 (b ∷ bs) → (k < 48) ⊎ (57 < k) → (b == k) ≡ false
digit_other b k bs h apart = let d = digit_from_value b h.0 in grind (arith, nat_tests)

-- Digits aren't a word that begins with a byte outside the digits' range.
bytes_eq-digits : (w : List ℕ) (k : ℕ) (v : List ℕ) → AllDigits 10 w → (k < 48) ⊎ (57 < k) → bytes_eq w (k ∷ v) ≡ false
bytes_eq-digits [] k v h apart = refl
bytes_eq-digits (b ∷ bs) k v h apart = let e = digit_other b k bs h apart in rw e refl

pub bytes_eq-decimal : (n k : ℕ) (v : List ℕ) → n < 2 ^ 64 → (k < 48) ⊎ (57 < k) → bytes_eq (decimal n) (k ∷ v) ≡ false
bytes_eq-decimal n k v h apart = bytes_eq-digits (decimal n) k v (decimal_is_IsNumeral n h).0.1 apart

-- ---- what fills a slot has no fault

pub number_fits : (n : ℕ) → IsNumber n → is_in_range 0 255 (decimal n) ≡ true
number_fits n h = is_in_range-decimal 0 255 n (omega arith) h (omega (arith, h))

pub register_fault-letter : (letter n : ℕ) → (letter == letter) ≡ true → IsNumber n → register_fault letter (letter ∷ decimal n) ≡ None
register_fault-letter letter n same h =
    rw (number_fits n h, same, are_digits-decimal n (omega (arith, h))) refl

pub operand_fault-record_word : (from : Rec) → IsSpelledRecord from → operand_fault (record_word from) ≡ None
operand_fault-record_word (Reg k) h =
    let other = bytes_eq-decimal k 105 (codes "ght") (omega (arith, h)) (inr (omega arith)) in
    rw (other, number_fits k h, are_digits-decimal k (omega (arith, h))) refl
operand_fault-record_word (Loop name) h =
    rw (is_in_range-decimal 1 64 name h.0 h.1 (omega (arith, h.1)), are_digits-decimal name (omega (arith, h.1))) refl
operand_fault-record_word Input h = refl
operand_fault-record_word Left h = refl
operand_fault-record_word Right h = refl
operand_fault-record_word Join h = refl
operand_fault-record_word First h = refl

pub column_fault-column_text : (field : ℕ) (text : Bool) → IsNumber field → column_fault (column_text (record { field = field; text = text })) ≡ None
column_fault-column_text field true h = rw (number_fits field h) refl
column_fault-column_text field false h = rw (number_fits field h) refl

pub no_digit_at : (w : List ℕ) → AllDigits 10 w → begins_with (codes "@") w ≡ false
no_digit_at [] h = refl
no_digit_at (b ∷ bs) h = let e = digit_other b 64 bs h (inr (omega arith)) in rw e refl

pub field_fault-field_text : (registers : Bool) (x : FieldWord) → IsSpelledField registers x → field_fault registers (field_text x) ≡ None
field_fault-field_text registers (Number n) h = let other = no_digit_at (decimal n) (decimal_is_IsNumeral n (omega (arith, h))).0.1 in rw (other, number_fits n h) refl
field_fault-field_text registers (Register n) h = rw (h.1, register_fault-letter 118 n refl h.0) refl

pub is_list_word-list_word : (l : LoopList) → is_list_word (list_word l) ≡ true
is_list_word-list_word Group = refl
is_list_word-list_word LeftGroup = refl
is_list_word-list_word RightGroup = refl

pub name_fault-loop_name : (n : ℕ) → IsLoopName n → name_fault n (120 ∷ decimal n) ≡ None
name_fault-loop_name n h =
    let small : n < 2 ^ 64 = omega (arith, h.1) in
    rw (is_in_range-decimal 1 64 n h.0 h.1 small, are_digits-decimal n small, (decimal_is_IsNumeral n small).1, eq-eqb n n refl) refl

-- ---- what has no fault fills its slot

-- a letter and a number
abbrev pub Numbered : (letter low high : ℕ) → List ℕ → Type 0
Numbered letter low high word = (n : ℕ) × (word ≡ letter ∷ decimal n) × (low ≤ n) × (n ≤ high)

numbered_spelled : (letter low high : ℕ) (word : List ℕ) → high < 2 ^ 64 → is_in_form letter word ≡ true → numbered_fault low high word ≡ None → Numbered letter low high word
numbered_spelled letter low high [] small form h = absurd cc
numbered_spelled letter low high (b ∷ bytes) small form h =
    let same = eqb-true b letter (and_parts (b == letter) _ form).0 in
    let n = number_spelled low high bytes small (told_unless-none _ _ h) in
    (n.0, (λ i. same i ∷ n.1 i), n.2, n.3)

pub register_spelled : (letter : ℕ) (word : List ℕ) → register_fault letter word ≡ None → Numbered letter 0 255 word
register_spelled letter word h = by_cases (is_in_form letter word) _ _
    (λ form rest. numbered_spelled letter 0 255 word (omega arith) form rest) (λ _ e. absurd cc) h

pub operand_spelled : (word : List ℕ) → operand_fault word ≡ None → (from : Rec) × (word ≡ record_word from) × IsSpelledRecord from
operand_spelled word h = by_cases (is_fixed_record word) _ _ (λ e _. named record_word IsSpelledRecord (Input ∷ Left ∷ Right ∷ Join ∷ First ∷ []) word (tt, (tt, (tt, (tt, (tt, tt))))) e)
    (λ _ next. by_cases (is_in_form 114 word) _ _ (λ form rest. let n = numbered_spelled 114 0 255 word (omega arith) form rest in (Reg n.0, n.1, n.3))
    (λ _ last. by_cases (is_in_form 120 word) _ _ (λ form rest. let n = numbered_spelled 120 1 64 word (omega arith) form rest in (Loop n.0, n.1, (n.2, n.3)))
    (λ _ e. absurd cc) last) next) h

minus_spelled : (word : List ℕ) (n : ℕ) → 1 ≤ n → n ≤ 2 ^ 63 → word ≡ 45 ∷ decimal n → (z : ℤ) × (word ≡ signed_decimal z) × FitsSigned w64 z
minus_spelled word zero above below e = absurd (omega (arith, above))
minus_spelled word (suc n) above below e = (negsuc n, e, omega (arith, below))

pub signed_spelled : (word : List ℕ) → is_signed_word word ≡ true → (z : ℤ) × (word ≡ signed_decimal z) × FitsSigned w64 z
signed_spelled [] h = absurd cc
signed_spelled (b ∷ bytes) h = by_cases (b == 45) _ _
    (λ minus rest.
    let sign = eqb-true b 45 minus in
    let n = number_spelled 1 (2 ^ 63) bytes (omega arith) rest in
    minus_spelled (b ∷ bytes) n.0 n.2 n.3 (λ i. sign i ∷ n.1 i))
    (λ _ rest. let n = number_spelled 0 (2 ^ 63 - 1) (b ∷ bytes) (omega arith) rest in (pos n.0, n.1, omega (arith, n.3))) h

pub list_spelled : (word : List ℕ) → is_list_word word ≡ true → (list : LoopList) × (word ≡ list_word list) × Unit {0}
list_spelled word h = named list_word (λ _. Unit {0}) (Group ∷ LeftGroup ∷ RightGroup ∷ []) word (tt, (tt, (tt, tt))) h

pub name_spelled : (name : ℕ) (word : List ℕ) → name_fault name word ≡ None → IsLoopName name × (word ≡ 120 ∷ decimal name)
name_spelled name [] h = absurd cc
name_spelled name (b ∷ bytes) h = by_cases (is_in_form 120 (b ∷ bytes)) _ _
    (λ form rest. by_cases (is_in_range 1 64 bytes) _ _
    (λ fits last.
    let letter = eqb-true b 120 (and_parts (b == 120) _ form).0 in
    let told = eqb-true (digits_value 10 bytes) name (told_unless-none _ _ last) in
    let n = number_read 1 64 name bytes (omega arith) (sym told) fits in
    ((n.1, n.2), λ i. letter i ∷ n.0 i))
    (λ _ e. absurd cc) rest)
    (λ _ e. absurd cc) h

-- A word that begins with a prefix is that prefix and the bytes after it.
split_at : (front word : List ℕ) (n : ℕ) → bytes_eq (take n word) front ≡ true → word ≡ front ++ drop n word
split_at front word n h = sym (take-append-drop n word) ∙ ap (λ (x : List ℕ). x ++ drop n word) (same_word (take n word) front h)

column_behind : (front word : List ℕ) (n : ℕ) (is_text : Bool) → (if is_text then codes "text:" else codes "int:") ≡ front → bytes_eq (take n word) front ≡ true → told_unless (is_in_range 0 255 (drop n word)) 7 ≡ None
    → (c : Column) × (word ≡ column_text c) × IsNumber c.field
column_behind front word n is_text kind begins told =
    let s = number_spelled 0 255 (drop n word) (omega arith) (told_unless-none _ _ told) in
    (record { field = s.0; text = is_text }, split_at front word n begins ∙ (λ i. sym kind i ++ s.1 i), s.3)

pub column_spelled : (word : List ℕ) → column_fault word ≡ None → (c : Column) × (word ≡ column_text c) × IsNumber c.field
column_spelled word h = by_cases (begins_with (codes "text:") word) _ _ (λ begins told. column_behind (codes "text:") word 5 true refl begins told)
    (λ _ other. by_cases (begins_with (codes "int:") word) _ _ (λ begins told. column_behind (codes "int:") word 4 false refl begins told) (λ _ e. absurd cc) other) h

pub field_spelled : (registers : Bool) (word : List ℕ) → field_fault registers word ≡ None → (x : FieldWord) × (word ≡ field_text x) × IsSpelledField registers x
field_spelled registers word h = by_cases (begins_with (codes "@") word) _ _
    (λ begins told. by_cases registers _ _
    (λ may rest. let s = register_spelled 118 (drop 1 word) rest in (Register s.0, split_at (codes "@") word 1 begins ∙ ap (λ (w : List ℕ). 64 ∷ w) s.1, (s.3, may)))
    (λ _ e. absurd cc) told)
    (λ _ rest. let n = number_spelled 0 255 word (omega arith) (told_unless-none _ _ rest) in (Number n.0, n.1, n.3)) h

-- ---- numbers with a sign

below_minus_one : (n : ℕ) → negsuc 0 -ℤ pos n ≡ negsuc n
below_minus_one zero = refl
below_minus_one (suc n) = let same : 0 + n ≡ n = omega arith in ap (λ (m : ℕ). negsuc (suc m)) same

-- The size minus one fits 63 bits.
minus : (n : ℕ) → 1 ≤ n → n ≤ 2 ^ 63 → to_z w64 (of_z w64 (negsuc 0 -ℤ to_z w64 (n - 1))) ≡ negsuc (n - 1)
minus n some high =
    let fits : FitsSigned w64 (negsuc (n - 1)) = omega (arith, some, high) in
    let size : to_z w64 (n - 1) ≡ pos (n - 1) = to_z_pos w64 (n - 1) (omega (arith, some, high)) in
    ap (λ (z : ℤ). to_z w64 (of_z w64 (negsuc 0 -ℤ z))) size
    ∙ ap (λ (z : ℤ). to_z w64 (of_z w64 z)) (below_minus_one (n - 1))
    ∙ to_z-of_z {w = w64} fits

pub signed_minus : (word digits : List ℕ) (n : ℕ) → word ≡ 45 ∷ digits → digits ≡ decimal n → 1 ≤ n → n ≤ 2 ^ 63 → is_in_range 1 (2 ^ 63) digits ≡ true
    → (word ≡ signed_decimal (to_z w64 (of_z w64 (negsuc 0 -ℤ to_z w64 (n - 1))))) × FitsSigned w64 (to_z w64 (of_z w64 (negsuc 0 -ℤ to_z w64 (n - 1)))) × (told_unless (is_signed_word word) 7 ≡ None)
signed_minus word digits n e d some high h =
    let size : n ≡ suc (n - 1) = omega (arith, some) in
    rw (minus n some high) (e ∙ ap (λ (x : List ℕ). 45 ∷ x) (d ∙ ap decimal size), omega (arith, some, high), rw (e, h) refl)

pub signed_bare : (word : List ℕ) (n : ℕ) → word ≡ decimal n → n ≤ 2 ^ 63 - 1 → (word ≡ signed_decimal (to_z w64 n)) × FitsSigned w64 (to_z w64 n) × (told_unless (is_signed_word word) 7 ≡ None)
signed_bare word n e high =
    let fits : FitsSigned w64 (pos n) = omega (arith, high) in
    rw (to_z_pos w64 n (omega (arith, high))) (e, fits, rw (e, is_signed_word-signed_decimal (pos n) fits) refl)

-- ---- names of loops

pub name_reads : (name n : ℕ) (word : List ℕ) → word ≡ 120 ∷ decimal n → n ≡ name → 1 ≤ n → n ≤ 64 → name_fault name word ≡ None
name_reads name n word e same low high = rw (e, ← same) (name_fault-loop_name n (low, high))

pub name_told : (name n : ℕ) (word : List ℕ) → word ≡ 120 ∷ decimal n → n ≢ name → 1 ≤ n → n ≤ 64 → name_fault name word ≡ Some 11
name_told name n word e other low high =
    let small : n < 2 ^ 64 = omega (arith, high) in
    let differ : (n == name) ≡ false = grind (arith, nat_tests) in
    rw (e, is_in_range-decimal 1 64 n low high small, are_digits-decimal n small, (decimal_is_IsNumeral n small).1, differ) refl

-- ---- one slot

-- the value of a slot
abbrev pub Value : Slot → Type 0
Value (register letter) = ℕ
Value operand = Rec
Value (number low high) = ℕ
Value (which_field registers) = FieldWord
Value signed = ℤ
Value text = List ℕ
Value list = LoopList
Value identifier = List ℕ
Value file_name = List ℕ
Value column = Column
Value slot = Unit {0}

abbrev pub word_of : (slot : Slot) → Value slot → LineWord
word_of (fixed word) x = plain_word word
word_of (register letter) n = plain_word (letter ∷ decimal n)
word_of operand from = plain_word (record_word from)
word_of (number low high) n = plain_word (decimal n)
word_of (which_field registers) x = plain_word (field_text x)
word_of signed z = plain_word (signed_decimal z)
word_of text bytes = literal_word bytes
word_of (loop name) x = plain_word (120 ∷ decimal name)
word_of list items = plain_word (list_word items)
word_of identifier name = plain_word name
word_of file_name name = plain_word name
word_of column c = plain_word (column_text c)

abbrev pub Fits : (slot : Slot) → Value slot → Type 0
Fits (register letter) n = IsNumber n
Fits operand from = IsSpelledRecord from
Fits (number low high) n = (low ≤ n) × (n ≤ high)
Fits (which_field registers) x = IsSpelledField registers x
Fits signed z = FitsSigned w64 z
Fits text bytes = IsLiteral bytes
Fits (loop name) x = IsLoopName name
Fits identifier name = IsTrue (is_name name)
Fits file_name name = IsTrue (is_file_name name)
Fits column c = IsNumber c.field
Fits slot x = Unit {0}

-- slots with numbers that the code can hold, and with words that can occur in lines
abbrev pub IsUsual : Slot → Type 0
IsUsual (fixed word) = is_fine_word word ≡ true
IsUsual (register letter) = is_fine letter ≡ true
IsUsual (number low high) = high < 2 ^ 64
IsUsual slot = Unit {0}

pub fits_slot : (slot : Slot) (x : Value slot) → IsUsual slot → Fits slot x → slot_fault slot (word_of slot x) ≡ None
fits_slot (fixed word) x usual h = rw ((bytes_eq-Decides word word).1 refl) refl
fits_slot (register letter) n usual h = register_fault-letter letter n (eq-eqb letter letter refl) h
fits_slot operand from usual h = operand_fault-record_word from h
fits_slot (number low high) n usual h = rw (is_in_range-decimal low high n h.0 h.1 (omega (arith, usual, h.1))) refl
fits_slot (which_field registers) x usual h = field_fault-field_text registers x h
fits_slot signed z usual h = rw (is_signed_word-signed_decimal z h) refl
fits_slot text bytes usual h = refl
fits_slot (loop name) x usual h = name_fault-loop_name name h
fits_slot list items usual h = rw (is_list_word-list_word items) refl
fits_slot identifier name usual h = rw h refl
fits_slot file_name name usual h = rw h refl
fits_slot column c usual h = column_fault-column_text c.field c.text h

pub fills : (slot : Slot) (word : LineWord) → IsUsual slot → IsLineWord word → slot_fault slot word ≡ None → (x : Value slot) × (word ≡ word_of slot x) × Fits slot x
fills (fixed v) (plain_word w) usual good h = (tt, ap plain_word (same_word w v (told_unless-none _ _ h)), tt)
fills (register letter) (plain_word w) usual good h = let s = register_spelled letter w h in (s.0, ap plain_word s.1, s.3)
fills operand (plain_word w) usual good h = let s = operand_spelled w h in (s.0, ap plain_word s.1, s.2)
fills (number low high) (plain_word w) usual good h = let s = number_spelled low high w usual (told_unless-none _ _ h) in (s.0, ap plain_word s.1, (s.2, s.3))
fills (which_field registers) (plain_word w) usual good h = let s = field_spelled registers w h in (s.0, ap plain_word s.1, s.2)
fills signed (plain_word w) usual good h = let s = signed_spelled w (told_unless-none _ _ h) in (s.0, ap plain_word s.1, s.2)
fills text (literal_word w) usual good h = (w, refl, good)
fills (loop name) (plain_word w) usual good h = let s = name_spelled name w h in (tt, ap plain_word s.1, s.0)
fills list (plain_word w) usual good h = let s = list_spelled w (told_unless-none _ _ h) in (s.0, ap plain_word s.1, tt)
fills identifier (plain_word w) usual good h = (w, refl, told_unless-none _ _ h)
fills file_name (plain_word w) usual good h = (w, refl, told_unless-none _ _ h)
fills column (plain_word w) usual good h = let s = column_spelled w h in (s.0, ap plain_word s.1, s.2)
fills slot word usual good h = absurd cc

fine_record : (from : Rec) → IsSpelledRecord from → is_fine_word (record_word from) ≡ true
fine_record (Reg k) h = fine_numbered 114 k refl (omega (arith, h))
fine_record (Loop name) h = fine_numbered 120 name refl (omega (arith, h.1))
fine_record Input h = refl
fine_record Left h = refl
fine_record Right h = refl
fine_record Join h = refl
fine_record First h = refl

fine_list : (items : LoopList) → is_fine_word (list_word items) ≡ true
fine_list Group = refl
fine_list LeftGroup = refl
fine_list RightGroup = refl

fine_column : (field : ℕ) (is_text : Bool) → IsNumber field → is_fine_word (column_text (record { field = field; text = is_text })) ≡ true
fine_column field true h = is_fine_word-append (codes "text:") (decimal field) refl (are_fine-word (decimal field) (fine_decimal field (omega (arith, h))))
fine_column field false h = is_fine_word-append (codes "int:") (decimal field) refl (are_fine-word (decimal field) (fine_decimal field (omega (arith, h))))

fine_field : (registers : Bool) (x : FieldWord) → IsSpelledField registers x → is_fine_word (field_text x) ≡ true
fine_field registers (Number n) h = fine_decimal n (omega (arith, h))
fine_field registers (Register n) h = is_fine_word-append (codes "@v") (decimal n) refl (are_fine-word (decimal n) (fine_decimal n (omega (arith, h.0))))

pub fine_slot : (slot : Slot) (x : Value slot) → IsUsual slot → Fits slot x → IsFine (word_of slot x)
fine_slot (fixed word) x usual h = usual
fine_slot (register letter) n usual h = fine_numbered letter n usual (omega (arith, h))
fine_slot operand from usual h = fine_record from h
fine_slot (number low high) n usual h = fine_decimal n (omega (arith, usual, h.1))
fine_slot (which_field registers) x usual h = fine_field registers x h
fine_slot signed z usual h = fine_signed z h
fine_slot text bytes usual h = h
fine_slot (loop name) x usual h = fine_numbered 120 name refl (omega (arith, h.1))
fine_slot list items usual h = fine_list items
fine_slot identifier name usual h = fine_name name h
fine_slot file_name name usual h = fine_file_name name h
fine_slot column c usual h = fine_column c.field c.text h

-- ---- the slots of a line, and the words after them

abbrev pub Values : List Slot → Type 0
Values [] = Unit {0}
Values (slot ∷ slots) = Value slot × Values slots

abbrev pub words_then : (slots : List Slot) → Values slots → List LineWord → List LineWord
words_then [] xs more = more
words_then (slot ∷ slots) xs more = word_of slot xs.0 ∷ words_then slots xs.1 more

abbrev pub AllFit : (slots : List Slot) → Values slots → Type 0
AllFit [] xs = Unit {0}
AllFit (slot ∷ slots) xs = Fits slot xs.0 × AllFit slots xs.1

abbrev pub AreUsual : List Slot → Type 0
AreUsual slots = AllByRecursion IsUsual slots

pub record Filled (behind : List LineWord → Option ℕ) (slots : List Slot) (words : List LineWord) : Type 0 where
  pub values : Values slots
  pub more : List LineWord
  pub parts : words ≡ words_then slots values more
  pub fit : AllFit slots values
  pub good : AreLineWords more
  pub faultless : behind more ≡ None

pub filled : (behind : List LineWord → Option ℕ) (slots : List Slot) (words : List LineWord) → AreUsual slots → AreLineWords words → fault_then behind slots words ≡ None → Filled behind slots words
filled behind [] words usual good h = record { values = tt; more = words; parts = refl; fit = tt; good = good; faultless = h }
filled behind (slot ∷ slots) [] usual good h = absurd cc
filled behind (slot ∷ slots) (word ∷ words) usual good h =
    let both = or_else-none (slot_fault slot word) (fault_then behind slots words) h in
    let first = fills slot word usual.0 good.0 both.0 in
    let rest = filled behind slots words usual.1 good.1 both.1 in
    record { values = (first.0, rest.values); more = rest.more; parts = λ i. first.1 i ∷ rest.parts i; fit = (first.2, rest.fit); good = rest.good; faultless = rest.faultless }

pub none_left : (words : List LineWord) → nothing_left words ≡ None → words ≡ []
none_left [] h = refl
none_left (word ∷ words) h = absurd cc

pub filled_line : (slots : List Slot) (words : List LineWord) → AreUsual slots → AreLineWords words → first_fault slots words ≡ None → (xs : Values slots) × (words ≡ words_then slots xs []) × AllFit slots xs
filled_line slots words usual good h =
    let f = filled nothing_left slots words usual good h in
    (f.values, f.parts ∙ ap (words_then slots f.values) (none_left f.more f.faultless), f.fit)
