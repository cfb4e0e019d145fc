-- The results of reading lines and words: a reported fault is real, and out of memory says nothing. Then the steps by
-- which a line is read into words.
use Rattle.std.specs.Prelude.{◌≡◌, ℕ, List, Option, Some, Result, Ok, Err, false, None, [], ◌∷◌, ◌≢◌, ◌≤◌, Bool, true, ◌==◌, if◌then◌else◌, length, get_or}
use Rattle.text_lines.specs.LineGrammar.{LineWord, HasLineFault, plain_word, literal_word, is_plain, is_blank, ends_word, needs_escape, escaped_byte, SpellsWords, IsWordEnd}
use Rattle.text_lines.specs.declared.faults.NotRead.{NotRead}
use Rattle.text_lines.specs.declared.faults.NotRead.TheVariants.{Fault, Memory}
use Rattle.text_lines.specs.Slots.{Slot, slot_fault, first_fault}
use Rattle.pact_record.specs.Limits.{text_limit}

abbrev pub HasCause : NotRead → List ℕ → Type 0
HasCause (Fault what) line = HasLineFault what line
HasCause Memory line = Unit {0}

-- The result is good, or out of memory.
abbrev pub Gives : {A : Type 0} → (A → Type 0) → Result A NotRead → Type 0
Gives Good (Ok x) = Good x
Gives Good (Err (Fault what)) = ⊥
Gives Good (Err Memory) = Unit {0}

-- The result is these words, or out of memory.
abbrev pub GivesWords : Result (List LineWord) NotRead → List LineWord → Type 0
GivesWords r wanted = Gives (λ words. words ≡ wanted) r

-- The reported fault is the one there is.
abbrev pub IsFaultOf : NotRead → Option ℕ → Type 0
IsFaultOf (Fault what) fault = fault ≡ Some what
IsFaultOf Memory fault = Unit {0}

-- a fault, and not out of memory
abbrev pub IsTold : NotRead → Type 0
IsTold (Fault what) = Unit {0}
IsTold Memory = ⊥

-- The result is this fault, or out of memory.
abbrev pub TellsFault : {A : Type 0} → Result A NotRead → ℕ → Type 0
TellsFault (Ok x) what = ⊥
TellsFault (Err (Fault told)) what = told ≡ what
TellsFault (Err Memory) what = Unit {0}

-- The result isn't a fault.
abbrev pub TellsNoFault : {A : Type 0} → Result A NotRead → Type 0
TellsNoFault r = Gives (λ _. Unit {0}) r

-- ---- the words of a line, one after another

-- This plain word is read, or its fault is reported.
abbrev pub ReadsPlain : {T : Type 0} → Option ℕ → (T → Type 0) → (T → List ℕ) → Result T NotRead → List ℕ → Type 0
ReadsPlain fault Fits text (Ok x) read = (read ≡ text x) × Fits x × (fault ≡ None)
ReadsPlain fault Fits text (Err e) read = IsFaultOf e fault

-- No word is left, or the next one is a literal.
abbrev pub IsNoPlain : ℕ → NotRead → List LineWord → Type 0
IsNoPlain what e [] = e ≡ Fault 4
IsNoPlain what e (plain_word bytes ∷ words) = ⊥
IsNoPlain what e (literal_word bytes ∷ words) = e ≡ Fault what

-- The next word isn't `name`.
abbrev pub IsOther : List ℕ → List LineWord → Type 0
IsOther name [] = Unit {0}
IsOther name (word ∷ words) = is_plain name word ≡ false

-- No word is left where one is expected, or the next word has this fault.
abbrev pub FailsAt : Slot → NotRead → List LineWord → Type 0
FailsAt slot e [] = e ≡ Fault 4
FailsAt slot e (word ∷ words) = IsFaultOf e (slot_fault slot word)

-- The first of these words is read for a slot, or its fault is reported.
abbrev pub ReadsNext : {T : Type 0} → Slot → (T → Type 0) → (T → LineWord) → Result T NotRead → List LineWord → List LineWord → Type 0
ReadsNext slot Fits word (Ok x) old now = (old ≡ word x ∷ now) × Fits x × (slot_fault slot (word x) ≡ None)
ReadsNext slot Fits word (Err e) old now = FailsAt slot e old

-- No word is left, or the fault of the left-over word is reported.
abbrev pub ReadsEnd : {T : Type 0} → Result T NotRead → List LineWord → Type 0
ReadsEnd (Ok x) words = words ≡ []
ReadsEnd (Err e) words = IsFaultOf e (first_fault [] words)

-- ---- one thing after another

-- The items follow one another, from the line up to the rest.
abbrev pub Chain : {X : Type 0} → (List ℕ → X → List ℕ → Type 0) → List ℕ → List X → List ℕ → Type 0
Chain Next line [] rest = line ≡ rest
Chain Next line (x ∷ xs) rest = (behind : List ℕ) × Next line x behind × Chain Next behind xs rest

-- No item follows.
abbrev pub IsStuck : {X : Type 0} → (List ℕ → X → List ℕ → Type 0) → List ℕ → Type 0
IsStuck {X = X} Next line = (x : X) (rest : List ℕ) → ¬ Next line x rest

-- ---- bytes of a word

-- the next byte of a plain word, and what follows it; None where the word ends
abbrev pub plain_byte : List ℕ → Option (ℕ × List ℕ)
plain_byte [] = None
plain_byte (b ∷ rest) = if ends_word b then None else Some (b, rest)

-- a byte, if there is one, with what follows it
abbrev pub before : List ℕ → Option ℕ → Option (ℕ × List ℕ)
before rest None = None
before rest (Some b) = Some (b, rest)

-- the byte that an escape denotes, and what follows the escape, from after its backslash
abbrev pub escape_byte : List ℕ → Option (ℕ × List ℕ)
escape_byte [] = None
escape_byte (e ∷ rest) = before rest (escaped_byte e)

-- the next byte that a literal denotes, and what follows its spelling; None at a quotation mark, or where no byte is
-- spelled
abbrev pub literal_byte : List ℕ → Option (ℕ × List ℕ)
literal_byte [] = None
literal_byte (b ∷ rest) = if b == 92 then escape_byte rest else (if needs_escape b then None else Some (b, rest))

-- the next byte, and what follows it
abbrev pub byte_at : Bool → List ℕ → Option (ℕ × List ℕ)
byte_at is_literal line = if is_literal then literal_byte line else plain_byte line

abbrev pub IsByte : Bool → List ℕ → ℕ → List ℕ → Type 0
IsByte is_literal line b rest = byte_at is_literal line ≡ Some (b, rest)

-- ---- words

-- a word begins here
abbrev pub IsWordStart : List ℕ → Type 0
IsWordStart [] = ⊥
IsWordStart (b ∷ line) = ends_word b ≡ false

-- The line begins with this word, which is as long as it can be, and the rest follows.
abbrev pub IsWordAt : List ℕ → LineWord → List ℕ → Type 0
IsWordAt line (plain_word bytes) rest = IsWordStart line × (get_or line 0 0 ≢ 34) × Chain (IsByte false) line bytes rest × (plain_byte rest ≡ None)
IsWordAt line (literal_word bytes) rest =
    (inside : List ℕ) × (line ≡ 34 ∷ inside) × Chain (IsByte true) inside bytes (34 ∷ rest) × (length bytes ≤ text_limit) × IsWordEnd rest

-- the line after its leading blanks
abbrev pub behind_gap : List ℕ → List ℕ
behind_gap [] = []
behind_gap (b ∷ line) = if is_blank b then behind_gap line else b ∷ line

-- the next word after blanks, and what follows it
abbrev pub NextWord : List ℕ → LineWord → List ℕ → Type 0
NextWord line word rest = IsWordAt (behind_gap line) word rest

-- the words that spell a line, if any do
abbrev pub HasFound : Option (List LineWord) → List ℕ → Type 0
HasFound None line = (words : List LineWord) → ¬ SpellsWords line words
HasFound (Some words) line = SpellsWords line words
