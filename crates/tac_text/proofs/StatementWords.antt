-- Words without a fault are those of the allowed lines. Some line of a text has them, and no two allowed lines have the
-- same words.
use Rattle.std.specs.List.{AllByRecursion}
use Rattle.pact_record.specs.declared.operations.Op1.{Op1}
use Rattle.pact_record.specs.declared.operations.Op1.TheVariants.{Not, IsNull, Len}
use Rattle.pact_record.specs.declared.operations.Op2.{Op2}
use Rattle.pact_record.specs.declared.operations.Op2.TheVariants.{Add, Sub, Mul, Div, Rem, AddW, Min, Max, Lt, Le, Eq, And, Or, Cat}
use Rattle.tac_text.specs.declared.operation_words.TheConstants.{OPS1, OPS2}
use Rattle.std.proofs.Common.{◌≡◌, ◌<◌, ◌^◌, ◌==◌, inr, inl, ℕ, suc, Bool, ℤ, pos, negsuc, neg_ℤ, if◌then◌else◌, Option, None, unwrap_or, FitsSigned, List, [], ◌∷◌, ◌++◌, map, length, drop, get_or, nat_lt, codes, bytes_eq, decimal, refl, ap, ◌∙◌, arith, w64, ◌≢◌, ◌+◌, true, false, Some, Result, Ok, Err, sym, subst}
use Rattle.std.specs.Fmt.{signed_decimal}
use Rattle.std.specs.Str.Parse.{AllDigits}
use Rattle.std.proofs.lemmas.Fmt.{decimal_is_IsNumeral}
use Rattle.tac_syntax.specs.declared.statements.Rec.{Rec}
use Rattle.tac_syntax.specs.declared.statements.Rec.TheVariants.{Reg, Loop, Input, Left, Right, Join, First}
use Rattle.tac_syntax.specs.declared.statements.LoopList.{LoopList}
use Rattle.tac_syntax.specs.declared.statements.LoopList.TheVariants.{Group, Left as LeftGroup, Right as RightGroup}
use Rattle.tac_syntax.specs.Code.{Simple, load_int, load_text, load_null, move_value, get_field, get_at, get_key, apply_one, apply_two, new_record, copy_record, set_field, set_at, emit_record, Line, simple, test, turns, over, otherwise, close}
use Rattle.tac_syntax.specs.Grammar.{IsSpelledRecord, IsSpelledSimple, IsSpelledLine, IsNumber, IsLoopName}
use Rattle.text_lines.specs.declared.line_words.LineWord.{LineWord}
use Rattle.text_lines.specs.declared.line_words.LineWord.TheVariants.{Plain as plain_word, Literal as literal_word}
use Rattle.text_lines.specs.declared.operands.FieldWord.TheVariants.{Number as by_number, Register as by_register}
use Rattle.text_lines.specs.OperandWords.{fixed_record, list_word, named_in, record_word, value_register, record_register}
use Rattle.text_lines.proofs.DigitWords.{number_back, number_in, number_in-decimal, are_digits-decimal, is_in_range-decimal, is_signed_word-signed_decimal}
use Rattle.text_lines.proofs.FilledSlots.{bytes_eq-decimal, no_digit_at, field_fault-field_text, digit_other, register_fault-letter, number_fits, operand_fault-record_word, is_list_word-list_word, name_fault-loop_name, fine_slot}
use Rattle.tac_text.specs.StatementSpelling.{op1_word, op2_word, words_of_line}
use Rattle.std.proofs.lemmas.Bool.{lt-ltb}
use Rattle.tac_syntax.specs.Limits.{nesting_limit}
use Rattle.tac_text.specs.StatementLines.{LinePlace, MayStand, MayStandSimple}
use Rattle.text_lines.specs.LineReading.{TellsFault}
use Rattle.text_lines.specs.declared.faults.NotRead.{NotRead}
use Rattle.text_lines.specs.declared.faults.NotRead.TheVariants.{Fault, Memory}
use Rattle.tac_text.specs.declared.lines.BodyLine.{BodyLine}
use Rattle.tac_text.specs.StatementAnswers.{said, GivesLine, IsLineAt, ReadsLine}
use Rattle.tac_text.specs.StatementFaults.{is_target, to_value, wanted_by, statement_fault}
use Rattle.text_lines.specs.Slots.{begins_with, which_field, register, name_fault, register_fault, list as list_slot, loop, number, operand, signed}
use Rattle.text_lines.proofs.CanonicalLines.{AreFine, IsFine}

-- ---- what holds of each operation, by the tables of their words

pub each_op1 : (P : Op1 → Type 0) → AllByRecursion P OPS1 → (op : Op1) → P op
each_op1 P h Not = h.0
each_op1 P h IsNull = h.1.0
each_op1 P h Len = h.1.1.0

pub each_op2 : (P : Op2 → Type 0) → AllByRecursion P OPS2 → (op : Op2) → P op
each_op2 P h Add = h.0
each_op2 P h Sub = h.1.0
each_op2 P h Mul = h.1.1.0
each_op2 P h Div = h.1.1.1.0
each_op2 P h Rem = h.1.1.1.1.0
each_op2 P h AddW = h.1.1.1.1.1.0
each_op2 P h Min = h.1.1.1.1.1.1.0
each_op2 P h Max = h.1.1.1.1.1.1.1.0
each_op2 P h Lt = h.1.1.1.1.1.1.1.1.0
each_op2 P h Le = h.1.1.1.1.1.1.1.1.1.0
each_op2 P h Eq = h.1.1.1.1.1.1.1.1.1.1.0
each_op2 P h And = h.1.1.1.1.1.1.1.1.1.1.1.0
each_op2 P h Or = h.1.1.1.1.1.1.1.1.1.1.1.1.0
each_op2 P h Cat = h.1.1.1.1.1.1.1.1.1.1.1.1.1.0

-- ---- lines from their words

-- the bytes of a word; for a literal, those that it denotes
abbrev pub word_bytes : LineWord → List ℕ
word_bytes (plain_word bytes) = bytes
word_bytes (literal_word bytes) = bytes

abbrev pub line_texts : Line → List (List ℕ)
line_texts l = map word_bytes (words_of_line l)

-- ---- what words mean

abbrev word_in : List (List ℕ) → ℕ → List ℕ
word_in words n = get_or words n []

abbrev signed_in : List ℕ → ℤ
signed_in [] = pos 0
signed_in (b ∷ bs) = if b == 45 then neg_ℤ (pos (number_in bs)) else pos (number_in (b ∷ bs))

-- the number after a register's letter
abbrev register_in : List ℕ → ℕ
register_in word = number_in (drop 1 word)

abbrev numbered_record : List ℕ → Rec
numbered_record word = if get_or word 0 0 == 114 then Reg (register_in word) else Loop (register_in word)

abbrev record_in : List ℕ → Rec
record_in word = unwrap_or (fixed_record word) (numbered_record word)

abbrev list_in : List ℕ → LoopList
list_in word = if bytes_eq word (codes "left") then LeftGroup else (if bytes_eq word (codes "right") then RightGroup else Group)

-- the field that is read or set, by its number or by a register
abbrev get_said : (to : ℕ) → (from : Rec) → List ℕ → Line
get_said to from word = if begins_with (codes "@") word then simple (get_at to from (register_in (drop 1 word))) else simple (get_field to from (number_in word))

abbrev set_said : (to : ℕ) → List ℕ → (value : ℕ) → Line
set_said to word value = if begins_with (codes "@") word then simple (set_at to (register_in (drop 1 word)) value) else simple (set_field to (number_in word) value)

-- the line of a target, the form after its `=`, and the words after the form
abbrev assigned_line : (target form : List ℕ) → List (List ℕ) → Line
assigned_line target form words =
    if bytes_eq form (codes "int") then simple (load_int (register_in target) (signed_in (word_in words 0)))
    else (if bytes_eq form (codes "text") then simple (load_text (register_in target) (word_in words 0))
    else (if bytes_eq form (codes "null") then simple (load_null (register_in target))
    else (if bytes_eq form (codes "mov") then simple (move_value (register_in target) (register_in (word_in words 0)))
    else (if bytes_eq form (codes "get") then get_said (register_in target) (record_in (word_in words 0)) (word_in words 1)
    else (if bytes_eq form (codes "key") then simple (get_key (register_in target) (number_in (word_in words 0)))
    else (if bytes_eq form (codes "new") then simple (new_record (register_in target))
    else (if bytes_eq form (codes "copy") then simple (copy_record (register_in target) (record_in (word_in words 0)))
    else (if nat_lt 1 (length words) then simple (apply_two (register_in target) (unwrap_or (named_in op2_word OPS2 form) Add) (register_in (word_in words 0)) (register_in (word_in words 1)))
    else simple (apply_one (register_in target) (unwrap_or (named_in op1_word OPS1 form) Not) (register_in (word_in words 0)))))))))))

-- the line of another first word, and the words after it
abbrev other_line : List ℕ → List (List ℕ) → Line
other_line first words =
    if bytes_eq first (codes "set") then set_said (register_in (word_in words 0)) (word_in words 1) (register_in (word_in words 2))
    else (if bytes_eq first (codes "emit") then simple (emit_record (register_in (word_in words 0)))
    else (if bytes_eq first (codes "if") then test (register_in (word_in words 0))
    else (if bytes_eq first (codes "repeat") then turns (number_in (word_in words 0))
    else (if bytes_eq first (codes "each") then over (register_in (word_in words 0)) (list_in (word_in words 2))
    else (if bytes_eq first (codes "else") then otherwise else close)))))

abbrev pub line_in : List (List ℕ) → Line
line_in words = if bytes_eq (word_in words 1) (codes "=") then assigned_line (word_in words 0) (word_in words 2) (drop 3 words) else other_line (word_in words 0) (drop 1 words)

-- ---- a word means what it was made from

signed_in-digits : (w : List ℕ) → AllDigits 10 w → signed_in w ≡ pos (number_in w)
signed_in-digits [] h = refl
signed_in-digits (b ∷ bs) h = let e = digit_other b 45 bs h (inl (omega arith)) in rw e refl

signed_in-signed_decimal : (z : ℤ) → FitsSigned w64 z → signed_in (signed_decimal z) ≡ z
signed_in-signed_decimal (pos n) h =
    let small : n < 2 ^ 64 = omega (arith, h) in
    signed_in-digits (decimal n) (decimal_is_IsNumeral n small).0.1 ∙ ap pos (number_in-decimal n small)
signed_in-signed_decimal (negsuc n) h = ap (λ (m : ℕ). neg_ℤ (pos m)) (number_in-decimal (suc n) (omega (arith, h)))

list_in-list_word : (list : LoopList) → list_in (list_word list) ≡ list
list_in-list_word Group = refl
list_in-list_word LeftGroup = refl
list_in-list_word RightGroup = refl

fixed_record-register : (k : ℕ) → k < 2 ^ 64 → fixed_record (codes "r" ++ decimal k) ≡ None
fixed_record-register k h = let e = bytes_eq-decimal k 105 (codes "ght") h (inr (omega arith)) in rw e refl

record_in-record_word : (from : Rec) → IsSpelledRecord from → record_in (record_word from) ≡ from
record_in-record_word (Reg k) h =
    let small : k < 2 ^ 64 = omega (arith, h) in
    ap (λ (found : Option Rec). unwrap_or found (numbered_record (record_word (Reg k)))) (fixed_record-register k small) ∙ ap Reg (number_in-decimal k small)
record_in-record_word (Loop name) h = ap Loop (number_in-decimal name (omega (arith, h.1)))
record_in-record_word Input h = refl
record_in-record_word Left h = refl
record_in-record_word Right h = refl
record_in-record_word Join h = refl
record_in-record_word First h = refl

assigned_line-op1_word : (target a : List ℕ) (op : Op1) → assigned_line target (op1_word op) (a ∷ []) ≡ simple (apply_one (register_in target) op (register_in a))
assigned_line-op1_word target a = each_op1 (λ op. assigned_line target (op1_word op) (a ∷ []) ≡ simple (apply_one (register_in target) op (register_in a))) (refl, (refl, (refl, tt)))

assigned_line-op2_word : (target a b : List ℕ) (op : Op2) → assigned_line target (op2_word op) (a ∷ b ∷ []) ≡ simple (apply_two (register_in target) op (register_in a) (register_in b))
assigned_line-op2_word target a b =
    each_op2 (λ op. assigned_line target (op2_word op) (a ∷ b ∷ []) ≡ simple (apply_two (register_in target) op (register_in a) (register_in b)))
    (refl, (refl, (refl, (refl, (refl, (refl, (refl, (refl, (refl, (refl, (refl, (refl, (refl, (refl, tt))))))))))))))

-- ---- the line

pub line_in-line_texts : (lists : ℕ) (l : Line) → IsSpelledLine lists l → line_in (line_texts l) ≡ l
line_in-line_texts lists (simple (load_int to value)) h = rw (number_back to h.0, signed_in-signed_decimal value h.1) refl
line_in-line_texts lists (simple (load_text to bytes)) h = rw (number_back to h.0) refl
line_in-line_texts lists (simple (load_null to)) h = rw (number_back to h) refl
line_in-line_texts lists (simple (move_value to from)) h = let x = number_back to h.0 in let y = number_back from h.1 in λ i. simple (move_value (x i) (y i))
line_in-line_texts lists (simple (get_field to from field)) h =
    let other = no_digit_at (decimal field) (decimal_is_IsNumeral field (omega (arith, h.2))).0.1 in
    let x = number_back to h.0 in let y = record_in-record_word from h.1 in let z = number_in-decimal field (omega (arith, h.2)) in
    rw other (λ i. simple (get_field (x i) (y i) (z i)))
line_in-line_texts lists (simple (get_at to from at)) h =
    let x = number_back to h.0 in let y = record_in-record_word from h.1 in let z = number_back at h.2 in λ i. simple (get_at (x i) (y i) (z i))
line_in-line_texts lists (simple (get_key to at)) h = let x = number_back to h.0 in let y = number_back at h.1 in λ i. simple (get_key (x i) (y i))
line_in-line_texts lists (simple (apply_one to op a)) h =
    let x = number_back to h.0 in let z = number_back a h.1 in assigned_line-op1_word (value_register to) (value_register a) op ∙ (λ i. simple (apply_one (x i) op (z i)))
line_in-line_texts lists (simple (apply_two to op a b)) h =
    let x = number_back to h.0 in let z = number_back a h.1 in let u = number_back b h.2 in
    assigned_line-op2_word (value_register to) (value_register a) (value_register b) op ∙ (λ i. simple (apply_two (x i) op (z i) (u i)))
line_in-line_texts lists (simple (new_record to)) h = let x = number_back to h in λ i. simple (new_record (x i))
line_in-line_texts lists (simple (copy_record to from)) h = let x = number_back to h.0 in let y = record_in-record_word from h.1 in λ i. simple (copy_record (x i) (y i))
line_in-line_texts lists (simple (set_field to field value)) h =
    let other = no_digit_at (decimal field) (decimal_is_IsNumeral field (omega (arith, h.1))).0.1 in
    rw (other, number_back to h.0, number_back field h.1, number_back value h.2) refl
line_in-line_texts lists (simple (set_at to at value)) h = rw (number_back to h.0, number_back at h.1, number_back value h.2) refl
line_in-line_texts lists (simple (emit_record from)) h = rw (number_back from h) refl
line_in-line_texts lists (test on) h = rw (number_back on h) refl
line_in-line_texts lists (turns count) h =
    let small : count < 2 ^ 64 = omega (arith, h.1) in
    let other = bytes_eq-decimal count 61 [] small (inr (omega arith)) in
    rw other (ap turns (number_in-decimal count small))
line_in-line_texts lists (over name list) h = rw (number_in-decimal name (omega (arith, h.1.1)), list_in-list_word list) refl
line_in-line_texts lists otherwise h = refl
line_in-line_texts lists close h = refl

-- ---- an allowed line has no fault

is_target-value : (n : ℕ) → IsNumber n → is_target (value_register n) ≡ true
is_target-value n h = rw (are_digits-decimal n (omega (arith, h))) refl

is_target-record : (n : ℕ) → IsNumber n → is_target (record_register n) ≡ true
is_target-record n h = rw (are_digits-decimal n (omega (arith, h))) refl

other_word : (n : ℕ) → IsNumber n → bytes_eq (record_register n) (codes "repeat") ≡ false
other_word n h = let other = bytes_eq-decimal n 101 (codes "peat") (omega (arith, h)) (inr (omega arith)) in rw other refl

value_target : (n : ℕ) → IsNumber n → register_fault 118 (value_register n) ≡ None
value_target n h = register_fault-letter 118 n refl h

record_target : (n : ℕ) → IsNumber n → register_fault 114 (record_register n) ≡ None
record_target n h = register_fault-letter 114 n refl h

wanted_by-op1_word : (registers : Bool) (op : Op1) → wanted_by registers (op1_word op) ≡ to_value (register 118 ∷ [])
wanted_by-op1_word registers = each_op1 (λ op. wanted_by registers (op1_word op) ≡ to_value (register 118 ∷ [])) (refl, (refl, (refl, tt)))

wanted_by-op2_word : (registers : Bool) (op : Op2) → wanted_by registers (op2_word op) ≡ to_value (register 118 ∷ register 118 ∷ [])
wanted_by-op2_word registers = each_op2 (λ op. wanted_by registers (op2_word op) ≡ to_value (register 118 ∷ register 118 ∷ [])) (refl, (refl, (refl, (refl, (refl, (refl, (refl, (refl, (refl, (refl, (refl, (refl, (refl, (refl, tt))))))))))))))

each_name : (wanted name : ℕ) → name ≡ wanted → IsLoopName name → name_fault wanted (120 ∷ decimal name) ≡ None
each_name wanted name e h = subst (λ (k : ℕ). name_fault k (120 ∷ decimal name) ≡ None) e (name_fault-loop_name name h)

pub statement_fault-words_of_line : (p : LinePlace) (l : Line) → MayStand p l → statement_fault p (words_of_line l) ≡ None
statement_fault-words_of_line p (simple (load_int to value)) h = rw (is_target-value to h.0, value_target to h.0, is_signed_word-signed_decimal value h.1) refl
statement_fault-words_of_line p (simple (load_text to bytes)) h = rw (is_target-value to h.0, value_target to h.0) refl
statement_fault-words_of_line p (simple (load_null to)) h = rw (is_target-value to h, value_target to h) refl
statement_fault-words_of_line p (simple (move_value to from)) h = rw (is_target-value to h.0, value_target to h.0, value_target from h.1) refl
statement_fault-words_of_line p (simple (get_field to from field)) h = rw (is_target-value to h.0, value_target to h.0, operand_fault-record_word from h.1, field_fault-field_text p.registers (by_number field) h.2) refl
statement_fault-words_of_line p (simple (get_at to from at)) h =
    rw (is_target-value to h.0.0, value_target to h.0.0, operand_fault-record_word from h.0.1, field_fault-field_text p.registers (by_register at) (h.0.2, h.1)) refl
statement_fault-words_of_line p (simple (get_key to at)) h = rw (is_target-value to h.0, value_target to h.0, number_fits at h.1) refl
statement_fault-words_of_line p (simple (apply_one to op a)) h = rw (is_target-value to h.0, wanted_by-op1_word p.registers op, value_target to h.0, value_target a h.1) refl
statement_fault-words_of_line p (simple (apply_two to op a b)) h = rw (is_target-value to h.0, wanted_by-op2_word p.registers op, value_target to h.0, value_target a h.1, value_target b h.2) refl
statement_fault-words_of_line p (simple (new_record to)) h = rw (other_word to h, record_target to h, is_target-record to h) refl
statement_fault-words_of_line p (simple (copy_record to from)) h = rw (other_word to h.0, record_target to h.0, is_target-record to h.0, operand_fault-record_word from h.1) refl
statement_fault-words_of_line p (simple (set_field to field value)) h = rw (record_target to h.0, field_fault-field_text p.registers (by_number field) h.1, value_target value h.2) refl
statement_fault-words_of_line p (simple (set_at to at value)) h = rw (record_target to h.0.0, field_fault-field_text p.registers (by_register at) (h.0.1, h.1), value_target value h.0.2) refl
statement_fault-words_of_line p (simple (emit_record from)) h = rw (record_target from h) refl
statement_fault-words_of_line p (test on) h = rw (lt-ltb p.blocks nesting_limit h.0, value_target on h.1) refl
statement_fault-words_of_line p (turns count) h = rw (lt-ltb p.blocks nesting_limit h.0, is_in_range-decimal 1 1000 count h.1.0 h.1.1 (omega (arith, h.1.1))) refl
statement_fault-words_of_line p (over name items) h = rw (lt-ltb p.blocks nesting_limit h.0, each_name (p.lists + 1) name h.1.0 h.1.1, is_list_word-list_word items) refl
statement_fault-words_of_line p otherwise h = rw h refl
statement_fault-words_of_line p close h = refl

-- ---- words are those of one line

spelled_simple : (registers : Bool) (s : Simple) → MayStandSimple registers s → IsSpelledSimple s
spelled_simple registers (load_int to value) h = h
spelled_simple registers (load_text to bytes) h = h
spelled_simple registers (load_null to) h = h
spelled_simple registers (move_value to from) h = h
spelled_simple registers (get_field to from field) h = h
spelled_simple registers (get_at to from at) h = h.0
spelled_simple registers (get_key to at) h = h
spelled_simple registers (apply_one to op a) h = h
spelled_simple registers (apply_two to op a b) h = h
spelled_simple registers (new_record to) h = h
spelled_simple registers (copy_record to from) h = h
spelled_simple registers (set_field to field value) h = h
spelled_simple registers (set_at to at value) h = h.0
spelled_simple registers (emit_record from) h = h

pub IsSpelledLine-MayStand : (p : LinePlace) (l : Line) → MayStand p l → IsSpelledLine p.lists l
IsSpelledLine-MayStand p (simple s) h = spelled_simple p.registers s h
IsSpelledLine-MayStand p (test on) h = h.1
IsSpelledLine-MayStand p (turns count) h = h.1
IsSpelledLine-MayStand p (over name items) h = h.1
IsSpelledLine-MayStand p otherwise h = tt
IsSpelledLine-MayStand p close h = tt

-- the line that these words mean
abbrev pub line_of : List LineWord → Line
line_of words = line_in (map word_bytes words)

pub line_of-words_of_line : (p : LinePlace) (l : Line) → MayStand p l → line_of (words_of_line l) ≡ l
line_of-words_of_line p l h = line_in-line_texts p.lists l (IsSpelledLine-MayStand p l h)

pub words_of_one_line : (p q : LinePlace) (l m : Line) → MayStand p l → MayStand q m → words_of_line l ≡ words_of_line m → l ≡ m
words_of_one_line p q l m h k e = sym (line_of-words_of_line p l h) ∙ ap line_of e ∙ line_of-words_of_line q m k

-- each line has words
pub words_of_line-some : (lists : ℕ) (l : Line) → IsSpelledLine lists l → words_of_line l ≢ []
words_of_line-some lists l h e =
    let same : l ≡ line_of [] = sym (line_in-line_texts lists l h) ∙ ap line_of e in
    let none : words_of_line (line_of []) ≡ [] = subst (λ (m : Line). words_of_line m ≡ []) same e in
    cc

-- ---- the results of a line's reader

gives_line : (p : LinePlace) (said : Option Line) (words : List LineWord) → IsLineAt p said words → (l : Line) → MayStand p l → words ≡ words_of_line l → said ≡ Some l
gives_line p None words read l may e = absurd read
gives_line p (Some m) words read l may e = ap Some (words_of_one_line p p m l read.1 may (sym read.0 ∙ e))

no_fault : (p : LinePlace) (said : Option Line) (words : List LineWord) → IsLineAt p said words → statement_fault p words ≡ None
no_fault p None words read = absurd read
no_fault p (Some l) words read = ap (statement_fault p) read.0 ∙ statement_fault-words_of_line p l read.1

pub GivesLine-read : (p : LinePlace) (r : Result BodyLine NotRead) (words : List LineWord) → ReadsLine p r words → (l : Line) → MayStand p l → words ≡ words_of_line l → GivesLine r l
GivesLine-read p (Ok line) words read l may e = gives_line p (said line) words read l may e
GivesLine-read p (Err (Fault what)) words read l may e = let none = ap (statement_fault p) e ∙ statement_fault-words_of_line p l may in absurd cc
GivesLine-read p (Err Memory) words read l may e = tt

pub TellsFault-read : (p : LinePlace) (r : Result BodyLine NotRead) (words : List LineWord) → ReadsLine p r words → (what : ℕ) → statement_fault p words ≡ Some what → TellsFault r what
TellsFault-read p (Ok line) words read what h = let none = no_fault p (said line) words read in absurd cc
TellsFault-read p (Err (Fault told)) words read what h = cc
TellsFault-read p (Err Memory) words read what h = tt

-- ---- words that some line has

number_word : (n : ℕ) → IsNumber n → IsFine (plain_word (decimal n))
number_word n h = fine_slot (number 0 255) n (omega arith) (omega arith, h)

value_word : (n : ℕ) → IsNumber n → IsFine (plain_word (118 ∷ decimal n))
value_word n h = fine_slot (register 118) n refl h

register_word : (n : ℕ) → IsNumber n → IsFine (plain_word (114 ∷ decimal n))
register_word n h = fine_slot (register 114) n refl h

fine_op1 : (op : Op1) → IsFine (plain_word (op1_word op))
fine_op1 = each_op1 (λ op. IsFine (plain_word (op1_word op))) (refl, (refl, (refl, tt)))

fine_op2 : (op : Op2) → IsFine (plain_word (op2_word op))
fine_op2 = each_op2 (λ op. IsFine (plain_word (op2_word op))) (refl, (refl, (refl, (refl, (refl, (refl, (refl, (refl, (refl, (refl, (refl, (refl, (refl, (refl, tt))))))))))))))

pub AreFine-words_of_line : (lists : ℕ) (l : Line) → IsSpelledLine lists l → AreFine (words_of_line l)
AreFine-words_of_line lists (simple (load_int to value)) h = (value_word to h.0, (refl, (refl, (fine_slot signed value tt h.1, tt))))
AreFine-words_of_line lists (simple (load_text to bytes)) h = (value_word to h.0, (refl, (refl, (h.1, tt))))
AreFine-words_of_line lists (simple (load_null to)) h = (value_word to h, (refl, (refl, tt)))
AreFine-words_of_line lists (simple (move_value to from)) h = (value_word to h.0, (refl, (refl, (value_word from h.1, tt))))
AreFine-words_of_line lists (simple (get_field to from field)) h = (value_word to h.0, (refl, (refl, (fine_slot operand from tt h.1, (number_word field h.2, tt)))))
AreFine-words_of_line lists (simple (get_at to from at)) h = (value_word to h.0, (refl, (refl, (fine_slot operand from tt h.1, (fine_slot (which_field true) (by_register at) tt (h.2, refl), tt)))))
AreFine-words_of_line lists (simple (get_key to at)) h = (value_word to h.0, (refl, (refl, (number_word at h.1, tt))))
AreFine-words_of_line lists (simple (apply_one to op a)) h = (value_word to h.0, (refl, (fine_op1 op, (value_word a h.1, tt))))
AreFine-words_of_line lists (simple (apply_two to op a b)) h = (value_word to h.0, (refl, (fine_op2 op, (value_word a h.1, (value_word b h.2, tt)))))
AreFine-words_of_line lists (simple (new_record to)) h = (register_word to h, (refl, (refl, tt)))
AreFine-words_of_line lists (simple (copy_record to from)) h = (register_word to h.0, (refl, (refl, (fine_slot operand from tt h.1, tt))))
AreFine-words_of_line lists (simple (set_field to field value)) h = (refl, (register_word to h.0, (number_word field h.1, (value_word value h.2, tt))))
AreFine-words_of_line lists (simple (set_at to at value)) h = (refl, (register_word to h.0, (fine_slot (which_field true) (by_register at) tt (h.1, refl), (value_word value h.2, tt))))
AreFine-words_of_line lists (simple (emit_record from)) h = (refl, (register_word from h, tt))
AreFine-words_of_line lists (test on) h = (refl, (value_word on h, tt))
AreFine-words_of_line lists (turns count) h = (refl, (fine_slot (number 1 1000) count (omega arith) h, tt))
AreFine-words_of_line lists (over name list) h = (refl, (fine_slot (loop name) tt tt h.1, (refl, (fine_slot list_slot list tt tt, tt))))
AreFine-words_of_line lists otherwise h = (refl, tt)
AreFine-words_of_line lists close h = (refl, tt)
