-- Words without a fault are the words of a line.
use Rattle.std.proofs.Common.{◌≡◌, length, ◌<◌, ◌+◌, ℕ, Bool, true, map, nat_lt, List, [], ◌∷◌, Option, Some, None, codes, bytes_eq, decimal, refl, sym, ◌∙◌, arith}
use Rattle.std.proofs.lemmas.Bool.{ltb-true}
use Rattle.std.specs.List.{AllByRecursion}
use Rattle.pact_record.specs.declared.operations.Op2.{Op2}
use Rattle.tac_syntax.specs.Code.{Simple, load_int, load_text, load_null, move_value, get_field, get_at, get_key, apply_one, apply_two, new_record, copy_record, set_field, set_at, emit_record, Line, simple, test, turns, over, otherwise, close}
use Rattle.tac_syntax.specs.Limits.{nesting_limit}
use Rattle.text_lines.specs.CanonicalLines.{AreLineWords}
use Rattle.text_lines.specs.declared.line_words.LineWord.{LineWord}
use Rattle.text_lines.specs.declared.line_words.LineWord.TheVariants.{Plain as plain_word, Literal as literal_word}
use Rattle.tac_syntax.specs.Grammar.{IsNumber, IsSpelledRecord}
use Rattle.tac_syntax.specs.declared.statements.Rec.{Rec}
use Rattle.text_lines.specs.OperandWords.{IsSpelledField, field_text, record_register, record_word, value_register}
use Rattle.text_lines.specs.declared.operands.FieldWord.{FieldWord}
use Rattle.text_lines.specs.declared.operands.FieldWord.TheVariants.{Number as by_number, Register as by_register}
use Rattle.text_lines.specs.LineGrammar.{is_plain}
use Rattle.text_lines.specs.Slots.{Slot, fixed, register, operand, number, which_field, signed, text, loop, list, first_fault}
use Rattle.text_lines.specs.Digits.{or_else}
use Rattle.text_lines.proofs.Faultless.{by_cases, by_cases_of, named, or_else-none, same_word, is_plain-same}
use Rattle.text_lines.proofs.FilledSlots.{AllFit, AreUsual, Values, filled_line, words_then}
use Rattle.tac_text.specs.StatementSpelling.{assigned, op1_word, op2_word, words_of_line}
use Rattle.tac_text.specs.StatementLines.{LinePlace, MayStand, MayStandSimple}
use Rattle.tac_text.specs.StatementFaults.{is_target, Wanted, wanted_by, form_fault, is_op1, is_op2, target_alone, assignment_fault, block_fault, word_fault, statement_fault}
use Rattle.tac_text.specs.declared.operation_words.TheConstants.{OPS1, OPS2}

-- an allowed line with these words
abbrev pub LineFor : LinePlace → List LineWord → Type 0
LineFor p words = (l : Line) × (words ≡ words_of_line l) × MayStand p l

-- ---- lines that aren't assignments

-- a line of a first word and the words of slots, whose values make it
line_of_slots : (p : LinePlace) (word name : List ℕ) (words : List LineWord) (slots : List Slot) → AreUsual slots → (line : Values slots → Line)
    → ((xs : Values slots) → words_of_line (line xs) ≡ plain_word name ∷ words_then slots xs []) → ((xs : Values slots) → AllFit slots xs → MayStand p (line xs))
    → AreLineWords words → word ≡ name → first_fault slots words ≡ None → LineFor p (plain_word word ∷ words)
line_of_slots p word name words slots usual line spelled may good is h =
    let f = filled_line slots words usual good h in
    let all : plain_word word ∷ words ≡ plain_word name ∷ words_then slots f.0 [] = λ i. plain_word (is i) ∷ f.1 i in
    (line f.0, all ∙ sym (spelled f.0), may f.0 f.2)

-- there is room for a block, and its words have no fault
block_parts : (p : LinePlace) (slots : List Slot) (words : List LineWord) → block_fault p slots words ≡ None → (p.blocks < nesting_limit) × (first_fault slots words ≡ None)
block_parts p slots words h = by_cases (nat_lt p.blocks nesting_limit) _ _ (λ room rest. (ltb-true p.blocks nesting_limit room, rest)) (λ _ e. absurd cc) h

-- `line_of_slots`, for the first line of a block
line_of_block : (p : LinePlace) (word name : List ℕ) (words : List LineWord) (slots : List Slot) → AreUsual slots → (line : Values slots → Line)
    → ((xs : Values slots) → words_of_line (line xs) ≡ plain_word name ∷ words_then slots xs []) → (p.blocks < nesting_limit → (xs : Values slots) → AllFit slots xs → MayStand p (line xs))
    → AreLineWords words → word ≡ name → block_fault p slots words ≡ None → LineFor p (plain_word word ∷ words)
line_of_block p word name words slots usual line spelled may good is h =
    let b = block_parts p slots words h in line_of_slots p word name words slots usual line spelled (may b.0) good is b.1

-- ---- fields by number or by register

abbrev get_by : (to : ℕ) → Rec → FieldWord → Simple
get_by to from (by_number field) = get_field to from field
get_by to from (by_register at) = get_at to from at

get_by-words : (to : ℕ) (from : Rec) (x : FieldWord) → words_of_line (simple (get_by to from x)) ≡ assigned (value_register to) (codes "get") (plain_word (record_word from) ∷ plain_word (field_text x) ∷ [])
get_by-words to from (by_number field) = refl
get_by-words to from (by_register at) = refl

get_by-may : (registers : Bool) (to : ℕ) (from : Rec) (x : FieldWord) → IsNumber to → IsSpelledRecord from → IsSpelledField registers x → MayStandSimple registers (get_by to from x)
get_by-may registers to from (by_number field) a b c = (a, b, c)
get_by-may registers to from (by_register at) a b c = ((a, b, c.0), c.1)

abbrev set_by : (to : ℕ) → FieldWord → (value : ℕ) → Simple
set_by to (by_number field) value = set_field to field value
set_by to (by_register at) value = set_at to at value

set_by-words : (to : ℕ) (x : FieldWord) (value : ℕ) → words_of_line (simple (set_by to x value)) ≡ map plain_word (codes "set" ∷ record_register to ∷ field_text x ∷ value_register value ∷ [])
set_by-words to (by_number field) value = refl
set_by-words to (by_register at) value = refl

set_by-may : (registers : Bool) (to : ℕ) (x : FieldWord) (value : ℕ) → IsNumber to → IsSpelledField registers x → IsNumber value → MayStandSimple registers (set_by to x value)
set_by-may registers to (by_number field) value a b c = (a, b, c)
set_by-may registers to (by_register at) value a b c = ((a, b.0, c), b.1)

-- ---- assignments

some_fault : (a : Option ℕ) (what : ℕ) → or_else a (Some what) ≡ None → ⊥
some_fault None what h = absurd cc
some_fault (Some told) what h = absurd cc

abbrev AssignmentFor : LinePlace → List ℕ → LineWord → List ℕ → List LineWord → Type 0
AssignmentFor p target equals form words = LineFor p (plain_word target ∷ equals ∷ plain_word form ∷ words)

-- a target, `=`, a form and the words of slots; the target fills the first slot
line_of_form : (p : LinePlace) (target : List ℕ) (equals : LineWord) (form name : List ℕ) (words : List LineWord) (letter : ℕ) (slots : List Slot) → AreUsual (register letter ∷ slots)
    → (line : Values (register letter ∷ slots) → Line)
    → ((xs : Values (register letter ∷ slots)) → words_of_line (line xs) ≡ plain_word (letter ∷ decimal xs.0) ∷ plain_word (codes "=") ∷ plain_word name ∷ words_then slots xs.1 [])
    → ((xs : Values (register letter ∷ slots)) → AllFit (register letter ∷ slots) xs → MayStand p (line xs))
    → AreLineWords (plain_word target ∷ words) → equals ≡ plain_word (codes "=") → form ≡ name → first_fault (register letter ∷ slots) (plain_word target ∷ words) ≡ None → AssignmentFor p target equals form words
line_of_form p target equals form name words letter slots usual line spelled may good eq is h =
    let f = filled_line (register letter ∷ slots) (plain_word target ∷ words) usual good h in
    let first : plain_word target ≡ plain_word (letter ∷ decimal f.0.0) = let e = f.1 in cc in
    let rest : words ≡ words_then slots f.0.1 [] = let e = f.1 in cc in
    let all : plain_word target ∷ equals ∷ plain_word form ∷ words ≡ plain_word (letter ∷ decimal f.0.0) ∷ plain_word (codes "=") ∷ plain_word name ∷ words_then slots f.0.1 [] =
    λ i. first i ∷ eq i ∷ plain_word (is i) ∷ rest i in
    (line f.0, all ∙ sym (spelled f.0), may f.0 f.2)

op1_line : (p : LinePlace) (target : List ℕ) (equals : LineWord) (form : List ℕ) (words : List LineWord) → AreLineWords (plain_word target ∷ words) → equals ≡ plain_word (codes "=") → is_op1 form ≡ true
    → first_fault (register 118 ∷ register 118 ∷ []) (plain_word target ∷ words) ≡ None → AssignmentFor p target equals form words
op1_line p target equals form words good eq is h =
    let n = named op1_word (λ _. Unit {0}) OPS1 form (tt, (tt, (tt, tt))) is in
    line_of_form p target equals form (op1_word n.0) words 118 (register 118 ∷ []) (refl, (refl, tt)) (λ x. simple (apply_one x.0 n.0 x.1.0)) (λ x. refl) (λ x fit. (fit.0, fit.1.0)) good eq n.1 h

op2_line : (p : LinePlace) (target : List ℕ) (equals : LineWord) (form : List ℕ) (words : List LineWord) → AreLineWords (plain_word target ∷ words) → equals ≡ plain_word (codes "=") → is_op2 form ≡ true
    → first_fault (register 118 ∷ register 118 ∷ register 118 ∷ []) (plain_word target ∷ words) ≡ None → AssignmentFor p target equals form words
op2_line p target equals form words good eq is h =
    let all : AllByRecursion (λ (op : Op2). Unit {0}) OPS2 = (tt, (tt, (tt, (tt, (tt, (tt, (tt, (tt, (tt, (tt, (tt, (tt, (tt, (tt, tt)))))))))))))) in
    let n = named op2_word (λ _. Unit {0}) OPS2 form all is in
    line_of_form p target equals form (op2_word n.0) words 118 (register 118 ∷ register 118 ∷ []) (refl, (refl, (refl, tt)))
    (λ x. simple (apply_two x.0 n.0 x.1.0 x.1.1.0)) (λ x. refl) (λ x fit. (fit.0, fit.1.0, fit.1.1.0)) good eq n.1 h

form_line : (p : LinePlace) (target : List ℕ) (equals : LineWord) (form : List ℕ) (words : List LineWord) → AreLineWords (plain_word target ∷ words) → equals ≡ plain_word (codes "=")
    → form_fault target (wanted_by p.registers form) words ≡ None → AssignmentFor p target equals form words
form_line p target equals form words good eq h =
    let f : Option Wanted → Option ℕ = λ w. form_fault target w words in
    by_cases_of f (bytes_eq form (codes "int")) _ _ (λ e k. line_of_form p target equals form (codes "int") words 118 (signed ∷ []) (refl, (tt, tt)) (λ x. simple (load_int x.0 x.1.0)) (λ x. refl) (λ x fit. (fit.0, fit.1.0)) good eq (same_word form _ e) k) (λ _ h0.
    by_cases_of f (bytes_eq form (codes "text")) _ _ (λ e k. line_of_form p target equals form (codes "text") words 118 (text ∷ []) (refl, (tt, tt)) (λ x. simple (load_text x.0 x.1.0)) (λ x. refl) (λ x fit. (fit.0, fit.1.0)) good eq (same_word form _ e) k) (λ _ h1.
    by_cases_of f (bytes_eq form (codes "null")) _ _ (λ e k. line_of_form p target equals form (codes "null") words 118 [] (refl, tt) (λ x. simple (load_null x.0)) (λ x. refl) (λ x fit. fit.0) good eq (same_word form _ e) k) (λ _ h2.
    by_cases_of f (bytes_eq form (codes "mov")) _ _ (λ e k. line_of_form p target equals form (codes "mov") words 118 (register 118 ∷ []) (refl, (refl, tt)) (λ x. simple (move_value x.0 x.1.0)) (λ x. refl) (λ x fit. (fit.0, fit.1.0)) good eq (same_word form _ e) k) (λ _ h3.
    by_cases_of f (bytes_eq form (codes "get")) _ _ (λ e k. line_of_form p target equals form (codes "get") words 118 (operand ∷ which_field p.registers ∷ []) (refl, (tt, (tt, tt))) (λ x. simple (get_by x.0 x.1.0 x.1.1.0)) (λ x. get_by-words x.0 x.1.0 x.1.1.0) (λ x fit. get_by-may p.registers x.0 x.1.0 x.1.1.0 fit.0 fit.1.0 fit.1.1.0) good eq (same_word form _ e) k) (λ _ h4.
    by_cases_of f (bytes_eq form (codes "key")) _ _ (λ e k. line_of_form p target equals form (codes "key") words 118 (number 0 255 ∷ []) (refl, (omega arith, tt)) (λ x. simple (get_key x.0 x.1.0)) (λ x. refl) (λ x fit. (fit.0, fit.1.0.1)) good eq (same_word form _ e) k) (λ _ h5.
    by_cases_of f (bytes_eq form (codes "new")) _ _ (λ e k. line_of_form p target equals form (codes "new") words 114 [] (refl, tt) (λ x. simple (new_record x.0)) (λ x. refl) (λ x fit. fit.0) good eq (same_word form _ e) k) (λ _ h6.
    by_cases_of f (bytes_eq form (codes "copy")) _ _ (λ e k. line_of_form p target equals form (codes "copy") words 114 (operand ∷ []) (refl, (tt, tt)) (λ x. simple (copy_record x.0 x.1.0)) (λ x. refl) (λ x fit. (fit.0, fit.1.0)) good eq (same_word form _ e) k) (λ _ h7.
    by_cases_of f (is_op1 form) _ _ (λ e k. op1_line p target equals form words good eq e k) (λ _ h8.
    by_cases_of f (is_op2 form) _ _ (λ e k. op2_line p target equals form words good eq e k) (λ _ k. absurd (some_fault (target_alone target) 9 k)) h8) h7) h6) h5) h4) h3) h2) h1) h0) h

assignment_line : (p : LinePlace) (target : List ℕ) (words : List LineWord) → AreLineWords (plain_word target ∷ words) → assignment_fault p.registers target words ≡ None → LineFor p (plain_word target ∷ words)
assignment_line p target [] good h = absurd (some_fault (target_alone target) 4 h)
assignment_line p target (equals ∷ []) good h = by_cases (is_plain (codes "=") equals) _ _
    (λ _ e. absurd cc) (λ _ e. absurd cc) (or_else-none (target_alone target) _ h).1
assignment_line p target (equals ∷ plain_word form ∷ words) good h = by_cases (is_plain (codes "=") equals) _ _
    (λ e rest. form_line p target equals form words (good.0, good.1.1.1) (is_plain-same (codes "=") equals e) rest) (λ _ e. absurd (some_fault (target_alone target) 8 e)) h
assignment_line p target (equals ∷ literal_word form ∷ words) good h = by_cases (is_plain (codes "=") equals) _ _
    (λ _ e. absurd (some_fault (target_alone target) 9 e)) (λ _ e. absurd (some_fault (target_alone target) 8 e)) h

-- ---- all lines

word_line : (p : LinePlace) (word : List ℕ) (words : List LineWord) → AreLineWords (plain_word word ∷ words) → word_fault p word words ≡ None → LineFor p (plain_word word ∷ words)
word_line p word words good h =
    by_cases (bytes_eq word (codes "set")) _ _ (λ e k. line_of_slots p word (codes "set") words (register 114 ∷ which_field p.registers ∷ register 118 ∷ []) (refl, (tt, (refl, tt))) (λ x. simple (set_by x.0 x.1.0 x.1.1.0)) (λ x. set_by-words x.0 x.1.0 x.1.1.0) (λ x fit. set_by-may p.registers x.0 x.1.0 x.1.1.0 fit.0 fit.1.0 fit.1.1.0) good.1 (same_word word _ e) k) (λ _ h0.
    by_cases (bytes_eq word (codes "emit")) _ _ (λ e k. line_of_slots p word (codes "emit") words (register 114 ∷ []) (refl, tt) (λ x. simple (emit_record x.0)) (λ x. refl) (λ x fit. fit.0) good.1 (same_word word _ e) k) (λ _ h1.
    by_cases (bytes_eq word (codes "if")) _ _ (λ e k. line_of_block p word (codes "if") words (register 118 ∷ []) (refl, tt) (λ x. test x.0) (λ x. refl) (λ room x fit. (room, fit.0)) good.1 (same_word word _ e) k) (λ _ h2.
    by_cases (bytes_eq word (codes "repeat")) _ _ (λ e k. line_of_block p word (codes "repeat") words (number 1 1000 ∷ []) (omega arith, tt) (λ x. turns x.0) (λ x. refl) (λ room x fit. (room, fit.0)) good.1 (same_word word _ e) k) (λ _ h3.
    by_cases (bytes_eq word (codes "each")) _ _ (λ e k. line_of_block p word (codes "each") words (loop (p.lists + 1) ∷ fixed (codes "of") ∷ list ∷ []) (tt, (refl, (tt, tt))) (λ x. over (p.lists + 1) x.1.1.0) (λ x. refl) (λ room x fit. (room, (refl, fit.0))) good.1 (same_word word _ e) k) (λ _ h4.
    by_cases (bytes_eq word (codes "else")) _ _ (λ e k. by_cases p.may_part _ _ (λ parts rest. line_of_slots p word (codes "else") words [] tt (λ x. otherwise) (λ x. refl) (λ x fit. parts) good.1 (same_word word _ e) rest) (λ _ bad. absurd cc) k) (λ _ h5.
    by_cases (bytes_eq word (codes "end")) _ _ (λ e k. line_of_slots p word (codes "end") words [] tt (λ x. close) (λ x. refl) (λ x fit. tt) good.1 (same_word word _ e) k) (λ _ h6.
    by_cases (is_target word) _ _ (λ _ k. assignment_line p word words good k) (λ _ k. absurd cc) h6) h5) h4) h3) h2) h1) h0) h

pub line_of_words : (p : LinePlace) (words : List LineWord) → 0 < length words → AreLineWords words → statement_fault p words ≡ None → (l : Line) × (words ≡ words_of_line l) × MayStand p l
line_of_words p [] some good h = absurd (omega (arith, some))
line_of_words p (plain_word word ∷ words) some good h = word_line p word words good h
line_of_words p (literal_word bytes ∷ words) some good h = absurd cc
