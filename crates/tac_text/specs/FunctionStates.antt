-- Reading a function: what was read so far, the state that its lines have led to, the lines that may follow, and the
-- results of its reader, line by line and as a whole.
use Rattle.std.specs.Prelude.{◌≡◌, ℕ, Bool, true, false, List, [], Result, Ok, Err, refl, ◌∷◌, codes, Option, Some, None}
use Rattle.std.specs.Coded.{Coded, code_by, coded×, coded_list, coded_ℕ}
use Rattle.tac_syntax.specs.Code.{Line, close}
use Rattle.tac_syntax.specs.declared.functions.Function.{Function}
use Rattle.tac_syntax.specs.declared.functions.Kind.{Kind}
use Rattle.tac_syntax.specs.contracts.functions.Kind.{the_row}
use Rattle.text_lines.specs.declared.line_words.LineWord.{LineWord}
use Rattle.tac_text.specs.BuildCode.{coded_build}
use Rattle.tac_text.specs.Places.{Build, build_start, MayInside, built_on, place_of}
use Rattle.text_lines.specs.declared.faults.NotRead.{NotRead}
use Rattle.text_lines.specs.declared.faults.NotRead.TheVariants.{Fault, Memory}
use Rattle.tac_text.specs.StatementSpelling.{words_of_line}
use Rattle.tac_syntax.specs.Functions.{HasKeys}
use Rattle.text_lines.specs.declared.line_words.LineWord.TheVariants.{Plain as plain_word}
use Rattle.text_lines.specs.LineReading.{Gives, IsFaultOf}
use Rattle.text_lines.specs.Slots.{first_fault}
use Rattle.tac_text.specs.declared.headers.Header.{Header}
use Rattle.tac_text.specs.FunctionFaults.{header_fault, key_slots, kind_fault, named_fault, FunctionPlace, header_due, inside_body, function_ended, function_fault, function_missing}
use Rattle.tac_text.specs.FunctionLines.{IsHeader, header_words, key_words, kind_word, FunctionLine, header, inside, words_of_function_line, IsFunctionText}
use Rattle.text_lines.specs.Runs.{Runs}
use Rattle.text_lines.specs.TextLines.{HasWords}
use Rattle.tac_text.specs.declared.building.Block.{Block}
use Rattle.tac_text.specs.StatementLines.{MayStand}
use Rattle.text_lines.specs.FirstFaults.{TellsFirst}
use Rattle.text_lines.specs.declared.lines.TextFault.{TextFault}
use Rattle.text_lines.specs.declared.lines.TextFault.TheVariants.{At, Memory as NoMemory}

-- ---- a function as far as it was read

-- what its header says, and what the lines after it have built
pub record OpenData : Type 0 where
  pub name : List ℕ
  pub kind : Kind
  pub keys : ℕ
  pub build : Build

abbrev pub with_build : OpenData → Build → OpenData
with_build o build = record { name = o.name; kind = o.kind; keys = o.keys; build = build }

abbrev pub begun : List ℕ → Kind → ℕ → OpenData
begun name kind keys = record { name = name; kind = kind; keys = keys; build = build_start }

-- the function, once its `end` was read
abbrev pub function_of : OpenData → Function
function_of o = record { name = o.name; kind = o.kind; keys = o.keys; body = o.build.body }

-- how it is stored in the logic
abbrev pub coded_open : Coded OpenData
coded_open =
    code_by (List ℕ × (Kind × (ℕ × Build))) (coded× (coded_list coded_ℕ) (coded× the_row.coded (coded× coded_ℕ coded_build)))
    (λ o. (o.name, (o.kind, (o.keys, o.build)))) (λ p. record { name = p.0; kind = p.1.0; keys = p.1.1.0; build = p.1.1.1 }) (λ _. refl)

-- ---- results of lines

-- The result is this header with no line after it, or out of memory.
abbrev pub GivesHeader : Result OpenData NotRead → List ℕ → Kind → ℕ → Type 0
GivesHeader r name kind keys = Gives (λ o. o ≡ begun name kind keys) r

-- Whether these words were the function's own `end`. If they were, no block is open and nothing changes. Otherwise they
-- are a line of the body, which was taken.
abbrev pub TakesWords : (registers : Bool) → Bool → List LineWord → OpenData → OpenData → Type 0
TakesWords registers true words old now = (words ≡ words_of_line close) × (old.build.blocks ≡ []) × (now ≡ old)
TakesWords registers false words old now = (l : Line) × (words ≡ words_of_line l) × MayInside registers old.build l × (now ≡ with_build old (built_on old.build l))

-- A fault leaves the borrowed value unchanged; out of memory may change it.
abbrev pub IsUnchanged : {A : Type 0} → NotRead → A → A → Type 0
IsUnchanged (Fault what) old now = now ≡ old
IsUnchanged Memory old now = Unit {0}

-- ---- a header: each part, or the first fault from it on

abbrev pub ReadsFirst : {T : Type 0} → Result T NotRead → List LineWord → List LineWord → Type 0
ReadsFirst (Ok x) old now = (old ≡ plain_word (codes "function") ∷ now) × (header_fault old ≡ named_fault now)
ReadsFirst (Err e) old now = IsFaultOf e (header_fault old)

abbrev pub ReadsKind : Result Kind NotRead → List LineWord → List LineWord → Type 0
ReadsKind (Ok kind) old now = (old ≡ plain_word (kind_word kind) ∷ now) × (kind_fault old ≡ first_fault (key_slots kind) now)
ReadsKind (Err e) old now = IsFaultOf e (kind_fault old)

abbrev pub ReadsKeys : Kind → Result ℕ NotRead → List LineWord → Type 0
ReadsKeys kind (Ok keys) words = (words ≡ key_words kind keys) × HasKeys kind keys
ReadsKeys kind (Err e) words = IsFaultOf e (first_fault (key_slots kind) words)

abbrev pub ReadsHeader : Result Header NotRead → List LineWord → Type 0
ReadsHeader (Ok h) words = (words ≡ header_words h.name.now h.kind h.keys) × IsHeader h.name.now h.kind h.keys
ReadsHeader (Err e) words = IsFaultOf e (header_fault words)

-- before the header, after some lines of the function, and after its `end`
pub data FunctionState : Type 0 where
  waiting : FunctionState
  reading : (begun : OpenData) → FunctionState
  whole : (f : Function) → FunctionState

abbrev pub MayFollow : Bool → FunctionState → FunctionLine → Type 0
MayFollow registers waiting (header name kind keys) = IsHeader name kind keys
MayFollow registers (reading o) (inside l) = MayStand (place_of registers o.build) l
MayFollow registers state l = ⊥

-- An `end` with no block open ends the function.
abbrev pub after_inside : Line → List Block → OpenData → FunctionState
after_inside close [] o = whole (function_of o)
after_inside l blocks o = reading (with_build o (built_on o.build l))

-- A line that may not follow leaves the state as it is.
abbrev pub after : FunctionState → FunctionLine → FunctionState
after waiting (header name kind keys) = reading (begun name kind keys)
after waiting (inside l) = waiting
after (reading o) (header name kind keys) = reading o
after (reading o) (inside l) = after_inside l o.build.blocks o
after (whole f) l = whole f

abbrev pub place_at : Bool → FunctionState → FunctionPlace
place_at registers waiting = header_due
place_at registers (reading o) = inside_body (place_of registers o.build)
place_at registers (whole f) = function_ended

-- these lines of a text lead from one state to another
abbrev pub Leads : Bool → FunctionState → List (List ℕ) → FunctionState → Type 0
Leads registers s lines t = Runs words_of_function_line (MayFollow registers) after s lines t

-- ---- results of a function's lines

-- the state of a reader, by what it has read
abbrev pub state_of : Option OpenData → FunctionState
state_of None = waiting
state_of (Some o) = reading o

-- The function's own `end` leaves the reader as it was.
abbrev pub IsOwnEnd : List LineWord → Option OpenData → Option OpenData → Type 0
IsOwnEnd words old now = (o : OpenData) × (old ≡ Some o) × (o.build.blocks ≡ []) × (words ≡ words_of_line close) × (now ≡ old)

-- The words either were the function's own `end`, or lead to another state.
abbrev pub LeadsOn : (registers : Bool) → Bool → List LineWord → Option OpenData → Option OpenData → Type 0
LeadsOn registers true words old now = IsOwnEnd words old now
LeadsOn registers false words old now = (l : FunctionLine) × (words ≡ words_of_function_line l) × MayFollow registers (state_of old) l × (state_of now ≡ after (state_of old) l)

-- The line either was the function's own `end`, or leads to another state.
abbrev pub LeadsLine : (registers : Bool) → Bool → List ℕ → Option OpenData → Option OpenData → Type 0
LeadsLine registers true line old now = (words : List LineWord) × HasWords line words × IsOwnEnd words old now
LeadsLine registers false line old now = Leads registers (state_of old) (line ∷ []) (state_of now)

-- ---- the whole function

-- The result is this function up to this offset, or out of memory.
abbrev pub GivesFunction : Result (Function × ℕ) TextFault → Function → ℕ → Type 0
GivesFunction (Ok r) f behind = (r.0 ≡ f) × (r.1 ≡ behind)
GivesFunction (Err (At line what)) f behind = ⊥
GivesFunction (Err NoMemory) f behind = Unit {0}

-- the first fault of the lines; out of memory says nothing about them
abbrev pub IsFunctionFault : Bool → TextFault → List (List ℕ) → Type 0
IsFunctionFault registers e lines = TellsFirst (IsFunctionText registers) function_fault function_missing e lines
