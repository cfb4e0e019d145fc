-- The lines of a program outside its functions: the first two, and declarations. Each has words of its own, and those
-- words are the ones without a fault.
use Rattle.pact_record.specs.declared.columns.Column.{Column}
use Rattle.tac_syntax.specs.declared.declarations.OpKind.{OpKind}
use Rattle.tac_syntax.specs.declared.declarations.OpKind.TheVariants.{Map, Reduce, Match, Cross, CoGroup, Source as SourceKind}
use Rattle.tac_syntax.specs.declared.declarations.Decl.{Decl}
use Rattle.tac_syntax.specs.declared.declarations.Decl.TheVariants.{Source, Op, Sink, Function}
use Rattle.text_lines.specs.declared.line_words.LineWord.{LineWord}
use Rattle.text_lines.specs.declared.line_words.LineWord.TheVariants.{Plain as plain_word, Literal as literal_word}
use Rattle.text_lines.specs.LineGrammar.{is_plain}
use Rattle.text_lines.specs.Slots.{begins_with, ListEnd, column, equals_then, line_end, number, slot_fault, Slot, fault_then, file_name, fixed, identifier, nothing_left}
use Rattle.text_lines.proofs.DigitWords.{number_in, number_back, is_in_range-decimal}
use Rattle.program_text.specs.DeclarationWords.{has_right, column_word, key_pair_words, number_word, number_words, words_of_decl}
use Rattle.std.proofs.Common.{◌≡◌, ℕ, Bool, true, false, inl, inr, ◌≤◌, List, [], ◌∷◌, ◌++◌, map, None, codes, refl, ap, ◌∙◌, arith, if◌then◌else◌, get_or, drop, bytes_eq, ◌≢◌, Some, sym, subst, ◌||◌, Option, Result, Ok, Err, IfOk, IfErr}
use Rattle.std.specs.List.{AllByRecursion}
use Rattle.std.proofs.lemmas.Bool.{or_cases}
use Rattle.std.proofs.lemmas.Fmt.{decimal_digit}
use Rattle.tac_syntax.specs.Declarations.{AreColumns, AreNumbers, AreSinkFields, IsKeyList, IsSpelledDecl}
use Rattle.tac_syntax.specs.Functions.{key_limit}
use Rattle.tac_syntax.specs.Versions.{IsVersion, field_limit}
use Rattle.tac_syntax.proofs.FieldLimits.{wide_limit, some_limit}
use Rattle.tac_syntax.specs.Grammar.{IsNumber}
use Rattle.text_lines.specs.CanonicalLines.{AreLineWords}
use Rattle.text_lines.specs.OperandWords.{column_text}
use Rattle.text_lines.proofs.Faultless.{is_plain-same, by_cases, same_word, told_unless-none}
use Rattle.text_lines.proofs.FilledSlots.{fills, fits_slot, bytes_eq-decimal, fine_slot, AllFit, AreUsual, Values, filled, none_left, words_then, filled_line}
use Rattle.text_lines.proofs.ListSlots.{AreItems, IsEnded, line_fits, list_fits, spells_line, spells_list}
use Rattle.program_text.specs.DeclarationFaults.{columns_fault, key_pair_fault, numbers_fault, declaration_fault, word_fault}
use Rattle.text_lines.proofs.CanonicalLines.{AreFine, IsFine, fine_decimal, fine_file_name, fine_name}
use Rattle.pact_record.proofs.Lists.{AllByRecursion-append}
use Rattle.program_text.specs.FirstLines.{IsFieldCount, field_count_words, fields_fault, one_fault, said_version, version_fault, version_words}

-- ---- single words

-- the bytes of a plain word; none for a literal
abbrev pub plain_text : LineWord → List ℕ
plain_text (plain_word bytes) = bytes
plain_text (literal_word bytes) = []

-- a plain word by its place
abbrev pub plain_at : List LineWord → ℕ → List ℕ
plain_at words n = get_or (map plain_text words) n []

abbrev pub column_in : List ℕ → Column
column_in word =
    if begins_with (codes "text:") word then record { field = number_in (drop 5 word); text = true }
    else record { field = number_in (drop 4 word); text = false }

-- ---- lists

abbrev pub columns_in : List LineWord → List Column
columns_in words = map (λ w. column_in (plain_text w)) words

-- the numbers before a word `=`
abbrev pub numbers_in : List LineWord → List ℕ
numbers_in [] = []
numbers_in (word ∷ words) = if is_plain (codes "=") word then [] else number_in (plain_text word) ∷ numbers_in words

abbrev pub behind_equals : List LineWord → List LineWord
behind_equals [] = []
behind_equals (word ∷ words) = if is_plain (codes "=") word then words else behind_equals words

-- ---- declarations

abbrev pub kind_in : List ℕ → OpKind
kind_in word =
    if bytes_eq word (codes "map") then Map
    else (if bytes_eq word (codes "reduce") then Reduce
    else (if bytes_eq word (codes "match") then Match
    else (if bytes_eq word (codes "cross") then Cross else CoGroup)))

-- the place of the first key: after the last input and the word `by`
abbrev pub keys_at : OpKind → ℕ
keys_at kind = if has_right kind then 6 else 5

abbrev pub right_in : OpKind → List LineWord → List ℕ
right_in kind words = if has_right kind then plain_at words 4 else []

abbrev pub op_in : OpKind → List LineWord → Decl
op_in kind words =
    Op (plain_at words 1) kind (plain_at words 2) (plain_at words 3) (right_in kind words)
    (numbers_in (drop (keys_at kind) words)) (numbers_in (behind_equals (drop (keys_at kind) words)))

abbrev pub decl_in : List LineWord → Decl
decl_in words =
    if bytes_eq (plain_at words 0) (codes "source") then Source (plain_at words 1) (plain_at words 2) (columns_in (drop 3 words))
    else (if bytes_eq (plain_at words 0) (codes "sink") then Sink (plain_at words 1) (numbers_in (drop 2 words))
    else op_in (kind_in (plain_at words 0)) words)

-- ---- the items of lists

are_columns : AreItems column line_end column_word (λ c. IsNumber c.field)
are_columns = record {
  faultless = λ c h. fits_slot column c tt h;
  goes_on = λ c h. refl;
  fills = λ word line h. fills column word tt line h;
}

pub number_fits : (n : ℕ) → IsNumber n → slot_fault (number 0 255) (number_word n) ≡ None
number_fits n h = fits_slot (number 0 255) n (omega arith) (omega arith, h)

are_numbers : (e : ListEnd) → ((n : ℕ) → IsNumber n → e.ends (number_word n) ≡ false) → AreItems (number 0 255) e number_word IsNumber
are_numbers e on = record {
  faultless = number_fits;
  goes_on = on;
  fills = λ word line h. let f = fills (number 0 255) word (omega arith) line h in (f.0, f.1, f.2.1);
}

-- a number isn't spelled `=`
is_plain-number : (n : ℕ) → IsNumber n → is_plain (codes "=") (number_word n) ≡ false
is_plain-number n h = bytes_eq-decimal n 61 [] (omega (arith, h)) (inr (omega arith))

-- ---- lists of items have no fault

pub columns_fit : (most : ℕ) (cs : List Column) → AreColumns most cs → columns_fault most (map column_word cs) ≡ None
columns_fit most cs h = line_fits column column_word (λ c. IsNumber c.field) are_columns most cs h.some h.few h.numbers

pub fields_fit : (most : ℕ) (ns : List ℕ) → AreSinkFields most ns → numbers_fault most (number_words ns) ≡ None
fields_fit most ns h = line_fits (number 0 255) number_word IsNumber (are_numbers line_end (λ _ _. refl)) most ns h.some h.few h.numbers

pub keys_fit : (ns : List ℕ) → IsKeyList ns → numbers_fault key_limit (number_words ns) ≡ None
keys_fit ns h = line_fits (number 0 255) number_word IsNumber (are_numbers line_end (λ _ _. refl)) key_limit ns h.some h.few h.numbers

pub key_pair_fits : (left right : List ℕ) → IsKeyList left → IsKeyList right → key_pair_fault (key_pair_words left right) ≡ None
key_pair_fits left right h k =
    let e = equals_then (numbers_fault key_limit) in
    list_fits (number 0 255) e number_word IsNumber (are_numbers e is_plain-number) key_limit left (plain_word (codes "=") ∷ number_words right) h.some h.few h.numbers (refl, keys_fit right k)

-- ---- lists of items from words without a fault

pub spells_columns : (most : ℕ) (words : List LineWord) → 1 ≤ most → AreLineWords words → columns_fault most words ≡ None → (cs : List Column) × (words ≡ map column_word cs) × AreColumns most cs
spells_columns most words some line h =
    let s = spells_line column column_word (λ c. IsNumber c.field) are_columns most words some line h in
    (s.0, s.1, record { some = s.2; few = s.3; numbers = s.4 })

pub spells_fields : (most : ℕ) (words : List LineWord) → 1 ≤ most → AreLineWords words → numbers_fault most words ≡ None → (ns : List ℕ) × (words ≡ number_words ns) × AreSinkFields most ns
spells_fields most words some line h =
    let s = spells_line (number 0 255) number_word IsNumber (are_numbers line_end (λ _ _. refl)) most words some line h in
    (s.0, s.1, record { some = s.2; few = s.3; numbers = s.4 })

pub spells_keys : (words : List LineWord) → AreLineWords words → numbers_fault key_limit words ≡ None → (ns : List ℕ) × (words ≡ number_words ns) × IsKeyList ns
spells_keys words line h =
    let s = spells_line (number 0 255) number_word IsNumber (are_numbers line_end (λ _ _. refl)) key_limit words (omega arith) line h in
    (s.0, s.1, record { some = s.2; few = s.3; numbers = s.4 })

-- `=` and the keys after it
keys_behind_equals : (more : List LineWord) → AreLineWords more → IsEnded (equals_then (numbers_fault key_limit)) more → (ns : List ℕ) × (more ≡ plain_word (codes "=") ∷ number_words ns) × IsKeyList ns
keys_behind_equals [] line h = absurd cc
keys_behind_equals (word ∷ words) line h =
    let equals = is_plain-same (codes "=") word h.0 in
    let keys = spells_keys words line.1 h.1 in
    (keys.0, (λ i. equals i ∷ keys.1 i), keys.2)

pub spells_key_pair : (words : List LineWord) → AreLineWords words → key_pair_fault words ≡ None → (keys : List ℕ × List ℕ) × (words ≡ key_pair_words keys.0 keys.1) × (IsKeyList keys.0 × IsKeyList keys.1)
spells_key_pair words line h =
    let e = equals_then (numbers_fault key_limit) in
    let s = spells_list (number 0 255) e number_word IsNumber (are_numbers e is_plain-number) key_limit words (omega arith) line h in
    let right = keys_behind_equals s.more s.words_good s.ended in
    let all = s.parts ∙ ap (λ (more : List LineWord). number_words s.items ++ more) right.1 in
    ((s.items, right.0), all, (record { some = s.some; few = s.few; numbers = s.good }, right.2))

-- ---- what is read from words

column_in-of : (field : ℕ) (text : Bool) → IsNumber field → column_in (column_text (record { field = field; text = text })) ≡ record { field = field; text = text }
column_in-of field true h = ap (λ (n : ℕ). let c : Column = record { field = n; text = true } in c) (number_back field h)
column_in-of field false h = ap (λ (n : ℕ). let c : Column = record { field = n; text = false } in c) (number_back field h)

pub columns_in-words : (cs : List Column) → AllByRecursion (λ c. IsNumber c.field) cs → columns_in (map column_word cs) ≡ cs
columns_in-words [] h = refl
columns_in-words (c ∷ cs) h = λ i. column_in-of c.field c.text h.0 i ∷ columns_in-words cs h.1 i

pub numbers_in-words : (ns : List ℕ) → AreNumbers ns → numbers_in (number_words ns) ≡ ns
numbers_in-words [] h = refl
numbers_in-words (n ∷ ns) h = rw (is_plain-number n h.0, number_back n h.0, numbers_in-words ns h.1) refl

pub numbers_in-pair : (left right : List ℕ) → AreNumbers left → numbers_in (key_pair_words left right) ≡ left
numbers_in-pair [] right h = refl
numbers_in-pair (n ∷ left) right h = rw (is_plain-number n h.0, number_back n h.0, numbers_in-pair left right h.1) refl

pub behind_equals-words : (ns : List ℕ) → AreNumbers ns → behind_equals (number_words ns) ≡ []
behind_equals-words [] h = refl
behind_equals-words (n ∷ ns) h = rw (is_plain-number n h.0, behind_equals-words ns h.1) refl

pub behind_equals-pair : (left right : List ℕ) → AreNumbers left → behind_equals (key_pair_words left right) ≡ number_words right
behind_equals-pair [] right h = refl
behind_equals-pair (n ∷ left) right h = rw (is_plain-number n h.0, behind_equals-pair left right h.1) refl

-- ---- no fault

pub faultless : (v : ℕ) (d : Decl) → IsSpelledDecl v d → declaration_fault v (words_of_decl d) ≡ None
faultless v (Source name file columns) h = rw (h.0, h.1, columns_fit (field_limit v) columns h.2) refl
faultless v (Function n) h = absurd h
faultless v (Op name SourceKind function left right left_keys right_keys) h = absurd h.3
faultless v (Op name Map function left right left_keys right_keys) h = rw (h.0, h.1, h.2) refl
faultless v (Op name Reduce function left right left_keys right_keys) h = rw (h.0, h.1, h.2, keys_fit left_keys h.3.1) refl
faultless v (Op name Match function left right left_keys right_keys) h = rw (h.0, h.1, h.2, h.3.0, key_pair_fits left_keys right_keys h.3.1 h.3.2) refl
faultless v (Op name Cross function left right left_keys right_keys) h = rw (h.0, h.1, h.2, h.3.0) refl
faultless v (Op name CoGroup function left right left_keys right_keys) h = rw (h.0, h.1, h.2, h.3.0, key_pair_fits left_keys right_keys h.3.1 h.3.2) refl
faultless v (Sink input fields) h = rw (h.0, fields_fit (field_limit v) fields h.1) refl

-- ---- some words, and no other declaration's

-- The first word isn't `function`, as in every declaration except a function's.
abbrev pub OtherFirst : List LineWord → Type 0
OtherFirst (plain_word word ∷ words) = bytes_eq word (codes "function") ≡ false
OtherFirst words = ⊥

pub decl_first : (v : ℕ) (d : Decl) → IsSpelledDecl v d → OtherFirst (words_of_decl d)
decl_first v (Function n) h = absurd h
decl_first v (Op name SourceKind function left right left_keys right_keys) h = absurd h.3
decl_first v d h = refl

pub words_of_decl-some : (v : ℕ) (d : Decl) → IsSpelledDecl v d → words_of_decl d ≢ []
words_of_decl-some v d h e = subst OtherFirst e (decl_first v d h)

pub decl_in-words_of_decl : (v : ℕ) (d : Decl) → IsSpelledDecl v d → decl_in (words_of_decl d) ≡ d
decl_in-words_of_decl v (Source name file columns) h =
    λ i. Source name file (columns_in-words columns h.2.numbers i)
decl_in-words_of_decl v (Function n) h = absurd h
decl_in-words_of_decl v (Op name SourceKind function left right left_keys right_keys) h = absurd h.3
decl_in-words_of_decl v (Op name Map function left right left_keys right_keys) h =
    λ i. Op name Map function left (sym h.3.0 i) (sym h.3.1 i) (sym h.3.2 i)
decl_in-words_of_decl v (Op name Reduce function left right left_keys right_keys) h =
    let others = behind_equals-words left_keys h.3.1.numbers in
    let none = ap numbers_in others ∙ sym h.3.2 in
    λ i. Op name Reduce function left (sym h.3.0 i) (numbers_in-words left_keys h.3.1.numbers i) (none i)
decl_in-words_of_decl v (Op name Match function left right left_keys right_keys) h =
    let others = ap numbers_in (behind_equals-pair left_keys right_keys h.3.1.numbers) ∙ numbers_in-words right_keys h.3.2.numbers in
    λ i. Op name Match function left right (numbers_in-pair left_keys right_keys h.3.1.numbers i) (others i)
decl_in-words_of_decl v (Op name Cross function left right left_keys right_keys) h =
    λ i. Op name Cross function left right (sym h.3.1 i) (sym h.3.2 i)
decl_in-words_of_decl v (Op name CoGroup function left right left_keys right_keys) h =
    let others = ap numbers_in (behind_equals-pair left_keys right_keys h.3.1.numbers) ∙ numbers_in-words right_keys h.3.2.numbers in
    λ i. Op name CoGroup function left right (numbers_in-pair left_keys right_keys h.3.1.numbers i) (others i)
decl_in-words_of_decl v (Sink input fields) h = λ i. Sink input (numbers_in-words fields h.1.numbers i)

pub words_of_decl-unique : (v : ℕ) (d e : Decl) → IsSpelledDecl v d → IsSpelledDecl v e → words_of_decl d ≡ words_of_decl e → d ≡ e
words_of_decl-unique v d e h k same = sym (decl_in-words_of_decl v d h) ∙ ap decl_in same ∙ decl_in-words_of_decl v e k

-- ---- words that a line can have

numbers_line : (ns : List ℕ) → AreNumbers ns → AreFine (number_words ns)
numbers_line [] h = tt
numbers_line (n ∷ ns) h = (fine_decimal n (omega (arith, h.0)), numbers_line ns h.1)

columns_line : (cs : List Column) → AllByRecursion (λ c. IsNumber c.field) cs → AreFine (map column_word cs)
columns_line [] h = tt
columns_line (c ∷ cs) h = (fine_slot column c tt h.0, columns_line cs h.1)

pair_line : (left right : List ℕ) → AreNumbers left → AreNumbers right → AreFine (key_pair_words left right)
pair_line left right h k = AllByRecursion-append IsFine (number_words left) (plain_word (codes "=") ∷ number_words right) (numbers_line left h) (refl, numbers_line right k)

pub AreFine-words_of_decl : (v : ℕ) (d : Decl) → IsSpelledDecl v d → AreFine (words_of_decl d)
AreFine-words_of_decl v (Source name file columns) h =
    (refl, (fine_name name h.0, (fine_file_name file h.1, columns_line columns h.2.numbers)))
AreFine-words_of_decl v (Function n) h = absurd h
AreFine-words_of_decl v (Op name SourceKind function left right left_keys right_keys) h = absurd h.3
AreFine-words_of_decl v (Op name Map function left right left_keys right_keys) h =
    (refl, (fine_name name h.0, (fine_name function h.1, (fine_name left h.2, tt))))
AreFine-words_of_decl v (Op name Reduce function left right left_keys right_keys) h =
    (refl, (fine_name name h.0, (fine_name function h.1, (fine_name left h.2, (refl, numbers_line left_keys h.3.1.numbers)))))
AreFine-words_of_decl v (Op name Match function left right left_keys right_keys) h =
    (refl, (fine_name name h.0, (fine_name function h.1, (fine_name left h.2, (fine_name right h.3.0, (refl, pair_line left_keys right_keys h.3.1.numbers h.3.2.numbers))))))
AreFine-words_of_decl v (Op name Cross function left right left_keys right_keys) h =
    (refl, (fine_name name h.0, (fine_name function h.1, (fine_name left h.2, (fine_name right h.3.0, tt)))))
AreFine-words_of_decl v (Op name CoGroup function left right left_keys right_keys) h =
    (refl, (fine_name name h.0, (fine_name function h.1, (fine_name left h.2, (fine_name right h.3.0, (refl, pair_line left_keys right_keys h.3.1.numbers h.3.2.numbers))))))
AreFine-words_of_decl v (Sink input fields) h =
    (refl, (fine_name input h.0, numbers_line fields h.1.numbers))

-- ---- words without a fault are those of a declaration

-- the declaration whose words these are
abbrev pub DeclFor : ℕ → List LineWord → Type 0
DeclFor v words = (d : Decl) × (words ≡ words_of_decl d) × IsSpelledDecl v d

-- The end of a line: its words without a fault are those of good values.
abbrev EndsIn : {X : Type 0} → (List LineWord → Option ℕ) → (X → List LineWord) → (X → Type 0) → Type 0
EndsIn {X = X} behind spelled Good = (words : List LineWord) → AreLineWords words → behind words ≡ None → (x : X) × (words ≡ spelled x) × Good x

decl_of_slots : {X : Type 0} (v : ℕ) (word name : List ℕ) (words : List LineWord) (behind : List LineWord → Option ℕ) (spelled : X → List LineWord) (Good : X → Type 0) (slots : List Slot) (decl : Values slots → X → Decl)
    → EndsIn behind spelled Good → AreUsual slots
    → ((xs : Values slots) (x : X) → words_of_decl (decl xs x) ≡ plain_word name ∷ words_then slots xs (spelled x))
    → ((xs : Values slots) (x : X) → AllFit slots xs → Good x → IsSpelledDecl v (decl xs x))
    → AreLineWords words → word ≡ name → fault_then behind slots words ≡ None → DeclFor v (plain_word word ∷ words)
decl_of_slots v word name words behind spelled Good slots decl ends usual parts fits line is h =
    let f = filled behind slots words usual line h in
    let end = ends f.more f.good f.faultless in
    let more = ap (words_then slots f.values) end.1 in
    let e = f.parts ∙ more in
    let all : plain_word word ∷ words ≡ plain_word name ∷ words_then slots f.values (spelled end.0) = λ i. plain_word (is i) ∷ e i in
    (decl f.values end.0, all ∙ sym (parts f.values end.0), fits f.values end.0 f.fit end.2)

abbrev pair_words : List ℕ × List ℕ → List LineWord
pair_words keys = key_pair_words keys.0 keys.1

abbrev AreKeyLists : List ℕ × List ℕ → Type 0
AreKeyLists keys = IsKeyList keys.0 × IsKeyList keys.1

nothing : EndsIn nothing_left (λ (_ : Unit {0}). []) (λ _. Unit {0})
nothing words line h = (tt, none_left words h, tt)

word_line : (v : ℕ) (word : List ℕ) (words : List LineWord) → AreLineWords words → word_fault v word words ≡ None → DeclFor v (plain_word word ∷ words)
word_line v word words line h =
    by_cases (bytes_eq word (codes "source")) _ _ (λ is k. decl_of_slots v word (codes "source") words (columns_fault (field_limit v)) (map column_word) (AreColumns (field_limit v)) (identifier ∷ file_name ∷ []) (λ x y. Source x.0 x.1.0 y) (λ words. spells_columns (field_limit v) words (some_limit v)) (tt, (tt, tt)) (λ x y. refl) (λ x y f e. (f.0, f.1.0, e)) line (same_word word _ is) k) (λ _ h0.
    by_cases (bytes_eq word (codes "map")) _ _ (λ is k. decl_of_slots v word (codes "map") words nothing_left (λ _. []) (λ _. Unit {0}) (identifier ∷ identifier ∷ identifier ∷ []) (λ x y. Op x.0 Map x.1.0 x.1.1.0 [] [] []) nothing (tt, (tt, (tt, tt))) (λ x y. refl) (λ x y f e. (f.0, f.1.0, f.1.1.0, (refl, refl, refl))) line (same_word word _ is) k) (λ _ h1.
    by_cases (bytes_eq word (codes "reduce")) _ _ (λ is k. decl_of_slots v word (codes "reduce") words (numbers_fault key_limit) number_words IsKeyList (identifier ∷ identifier ∷ identifier ∷ fixed (codes "by") ∷ []) (λ x y. Op x.0 Reduce x.1.0 x.1.1.0 [] y []) spells_keys (tt, (tt, (tt, (refl, tt)))) (λ x y. refl) (λ x y f e. (f.0, f.1.0, f.1.1.0, (refl, e, refl))) line (same_word word _ is) k) (λ _ h2.
    by_cases (bytes_eq word (codes "match")) _ _ (λ is k. decl_of_slots v word (codes "match") words key_pair_fault pair_words AreKeyLists (identifier ∷ identifier ∷ identifier ∷ identifier ∷ fixed (codes "by") ∷ []) (λ x y. Op x.0 Match x.1.0 x.1.1.0 x.1.1.1.0 y.0 y.1) spells_key_pair (tt, (tt, (tt, (tt, (refl, tt))))) (λ x y. refl) (λ x y f e. (f.0, f.1.0, f.1.1.0, (f.1.1.1.0, e.0, e.1))) line (same_word word _ is) k) (λ _ h3.
    by_cases (bytes_eq word (codes "cross")) _ _ (λ is k. decl_of_slots v word (codes "cross") words nothing_left (λ _. []) (λ _. Unit {0}) (identifier ∷ identifier ∷ identifier ∷ identifier ∷ []) (λ x y. Op x.0 Cross x.1.0 x.1.1.0 x.1.1.1.0 [] []) nothing (tt, (tt, (tt, (tt, tt)))) (λ x y. refl) (λ x y f e. (f.0, f.1.0, f.1.1.0, (f.1.1.1.0, refl, refl))) line (same_word word _ is) k) (λ _ h4.
    by_cases (bytes_eq word (codes "cogroup")) _ _ (λ is k. decl_of_slots v word (codes "cogroup") words key_pair_fault pair_words AreKeyLists (identifier ∷ identifier ∷ identifier ∷ identifier ∷ fixed (codes "by") ∷ []) (λ x y. Op x.0 CoGroup x.1.0 x.1.1.0 x.1.1.1.0 y.0 y.1) spells_key_pair (tt, (tt, (tt, (tt, (refl, tt))))) (λ x y. refl) (λ x y f e. (f.0, f.1.0, f.1.1.0, (f.1.1.1.0, e.0, e.1))) line (same_word word _ is) k) (λ _ h5.
    by_cases (bytes_eq word (codes "sink")) _ _ (λ is k. decl_of_slots v word (codes "sink") words (numbers_fault (field_limit v)) number_words (AreSinkFields (field_limit v)) (identifier ∷ []) (λ x y. Sink x.0 y) (λ words. spells_fields (field_limit v) words (some_limit v)) (tt, tt) (λ x y. refl) (λ x y f e. (f.0, e)) line (same_word word _ is) k) (λ _ h6.
    by_cases (bytes_eq word (codes "else") || bytes_eq word (codes "end")) _ _ (λ _ e. absurd cc) (λ _ e. absurd cc) h6) h5) h4) h3) h2) h1) h0) h

pub decl_of_words : (v : ℕ) (words : List LineWord) → words ≢ [] → AreLineWords words → declaration_fault v words ≡ None → DeclFor v words
decl_of_words v [] some line h = absurd (some refl)
decl_of_words v (plain_word word ∷ words) some line h = word_line v word words line.1 h
decl_of_words v (literal_word bytes ∷ words) some line h = absurd cc

-- ---- the version

one_word : number_word 1 ≡ plain_word (codes "1")
one_word = ap plain_word (decimal_digit 1 (omega arith))

two_word : number_word 2 ≡ plain_word (codes "2")
two_word = ap plain_word (decimal_digit 2 (omega arith))

one_left : (words : List LineWord) → one_fault words ≡ None → (v : ℕ) × (words ≡ number_word v ∷ []) × IsVersion v
one_left [] h = absurd cc
one_left (word ∷ []) h = elim (or_cases (is_plain (codes "1") word) (is_plain (codes "2") word) (told_unless-none _ _ h)) as (λ _. (v : ℕ) × (word ∷ [] ≡ number_word v ∷ []) × IsVersion v) [
  | inl one ↦ let e = is_plain-same (codes "1") word one ∙ sym one_word in (1, (λ i. e i ∷ []), inl refl)
  | inr two ↦ let e = is_plain-same (codes "2") word two ∙ sym two_word in (2, (λ i. e i ∷ []), inr refl)
]
one_left (word ∷ other ∷ words) h = absurd cc

pub version_declared : (words : List LineWord) → words ≢ [] → version_fault words ≡ None → (v : ℕ) × (words ≡ version_words v) × IsVersion v
version_declared [] some h = absurd (some refl)
version_declared (word ∷ words) some h = by_cases (is_plain (codes "pact") word) _ _
    (λ named rest. let e = is_plain-same (codes "pact") word named in let one = one_left words rest in (one.0, (λ i. e i ∷ one.1 i), one.2)) (λ _ e. absurd cc) h

small_version : (v : ℕ) → IsVersion v → v ≤ 2
small_version v (inl e) = omega (arith, e)
small_version v (inr e) = omega (arith, e)

pub AreFine-version_words : (v : ℕ) → IsVersion v → AreFine (version_words v)
AreFine-version_words v h = (refl, (fine_decimal v (omega (arith, small_version v h)), tt))

pub version_faultless : (v : ℕ) → IsVersion v → version_fault (version_words v) ≡ None
version_faultless v (inl e) = ap (λ (n : ℕ). version_fault (version_words n)) e ∙ ap (λ (w : LineWord). version_fault (plain_word (codes "pact") ∷ w ∷ [])) one_word
version_faultless v (inr e) = ap (λ (n : ℕ). version_fault (version_words n)) e ∙ ap (λ (w : LineWord). version_fault (plain_word (codes "pact") ∷ w ∷ [])) two_word

number_in-version_words : (v : ℕ) → IsVersion v → number_in (plain_at (version_words v) 1) ≡ v
number_in-version_words v h = number_back v (omega (arith, small_version v h))

pub version_words-unique : (v w : ℕ) → IsVersion v → IsVersion w → version_words v ≡ version_words w → v ≡ w
version_words-unique v w h k e = sym (number_in-version_words v h) ∙ ap (λ (words : List LineWord). number_in (plain_at words 1)) e ∙ number_in-version_words w k

-- the results of the first line's reader
pub no_version_fault : (v what : ℕ) (words : List LineWord) → IsVersion v → words ≡ version_words v → version_fault words ≡ Some what → ⊥
no_version_fault v what words h e told = let none = ap version_fault e ∙ version_faultless v h in cc

said_is : (v : ℕ) → IsVersion v → said_version v ≡ version_words v
said_is v (inl e) = ap said_version e ∙ ap (λ (w : LineWord). plain_word (codes "pact") ∷ w ∷ []) (sym one_word) ∙ ap version_words (sym e)
said_is v (inr e) = ap said_version e ∙ ap (λ (w : LineWord). plain_word (codes "pact") ∷ w ∷ []) (sym two_word) ∙ ap version_words (sym e)

pub version_told : (r : Result ℕ ℕ) (words : List LineWord) → IfOk r IsVersion → IfOk r (λ v. words ≡ said_version v) → IfOk r (λ v. IsVersion v × (words ≡ version_words v))
version_told (Ok v) words h e = (h, e ∙ said_is v h)
version_told (Err what) words h e = tt

pub version_answer : (r : Result ℕ ℕ) (words : List LineWord) (v : ℕ) → IfOk r (λ w. IsVersion w × (words ≡ version_words w)) → IfErr r (λ what. version_fault words ≡ Some what)
    → IsVersion v → words ≡ version_words v → r ≡ Ok v
version_answer (Ok w) words v read fault h e = ap Ok (version_words-unique w v read.0 h (sym read.1 ∙ e))
version_answer (Err what) words v read fault h e = absurd (no_version_fault v what words h e fault)

pub version_fault_answer : (r : Result ℕ ℕ) (words : List LineWord) (what : ℕ) → IfOk r (λ w. IsVersion w × (words ≡ version_words w)) → IfErr r (λ told. version_fault words ≡ Some told)
    → version_fault words ≡ Some what → r ≡ Err what
version_fault_answer (Ok w) words what read fault e = absurd (no_version_fault w what words read.0 read.1 e)
version_fault_answer (Err told) words what read fault e = let same : told ≡ what = cc in ap Err same

-- ---- the number of fields

pub AreFine-field_count_words : (v count : ℕ) → IsFieldCount v count → AreFine (field_count_words count)
AreFine-field_count_words v count h = (refl, (fine_decimal count (omega (arith, h.1, wide_limit v)), tt))

number_in-field_count_words : (v count : ℕ) → IsFieldCount v count → number_in (plain_at (field_count_words count) 1) ≡ count
number_in-field_count_words v count h = number_back count (omega (arith, h.1, wide_limit v))

pub field_count_words-unique : (v m n : ℕ) → IsFieldCount v m → IsFieldCount v n → field_count_words m ≡ field_count_words n → m ≡ n
field_count_words-unique v m n h k e =
    sym (number_in-field_count_words v m h) ∙ ap (λ (words : List LineWord). number_in (plain_at words 1)) e ∙ number_in-field_count_words v n k

pub field_count_faultless : (v count : ℕ) → IsFieldCount v count → fields_fault v (field_count_words count) ≡ None
field_count_faultless v count h = rw (is_in_range-decimal 1 (field_limit v) count h.0 h.1 (omega (arith, h.1, wide_limit v))) refl

pub field_count_declared : (v : ℕ) (words : List LineWord) → words ≢ [] → AreLineWords words → fields_fault v words ≡ None → (count : ℕ) × (words ≡ field_count_words count) × IsFieldCount v count
field_count_declared v [] some good h = absurd (some refl)
field_count_declared v (word ∷ words) some good h = by_cases (is_plain (codes "fields") word) _ _
    (λ named rest.
    let e = is_plain-same (codes "fields") word named in
    let f = filled_line (number 1 (field_limit v) ∷ []) words (omega (arith, wide_limit v), tt) good.1 rest in
    (f.0.0, (λ i. e i ∷ f.1 i), f.2.0)) (λ _ e. absurd cc) h

-- ---- the results of the second line's reader

pub no_count_fault : (v count what : ℕ) (words : List LineWord) → IsFieldCount v count → words ≡ field_count_words count → fields_fault v words ≡ Some what → ⊥
no_count_fault v count what words h e told = let none = ap (fields_fault v) e ∙ field_count_faultless v count h in cc
