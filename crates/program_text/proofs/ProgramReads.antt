-- The lines of a text lead a reader of programs on exactly where a program's text goes on. Each text of a program leads
-- it to the program's draft, and the reader's state is what was read.
use Rattle.std.proofs.Common.{◌≡◌, ◌≤◌, ◌+◌, ℕ, true, List, [], ◌∷◌, ◌++◌, map, length, refl, ap, sym, subst, ◌∙◌, append_assoc, append-nil, arith, length-append, ◌≢◌, Bool, false, bytes_eq, codes, Some, None, inl}
use Rattle.std.specs.List.{AllByRecursion}
use Rattle.std.proofs.lemmas.List.{map-append}
use Rattle.pact_record.proofs.Lists.{AllByRecursion-last}
use Rattle.tac_syntax.specs.declared.declarations.Decl.{Decl}
use Rattle.tac_syntax.specs.declared.declarations.Decl.TheVariants.{Function as FunctionDecl}
use Rattle.tac_syntax.specs.Declarations.{IsSpelledDecl}
use Rattle.tac_syntax.specs.Drafts.{AreDeclared, DraftData}
use Rattle.tac_syntax.specs.FieldRegisters.{Takes, has_registers}
use Rattle.tac_syntax.specs.Versions.{IsVersion}
use Rattle.tac_syntax.proofs.FieldLimits.{some_limit}
use Rattle.tac_syntax.proofs.SpelledDrafts.{IsSpelledDraft-decl, IsSpelledDraft-function}
use Rattle.tac_syntax.specs.declared.functions.Function.{Function}
use Rattle.tac_syntax.specs.Code.{Line, close, nesting}
use Rattle.tac_syntax.specs.Functions.{IsSpelledFunction}
use Rattle.tac_syntax.specs.Limits.{nesting_limit}
use Rattle.tac_text.specs.FunctionLines.{SpellsBody, FunctionLine, IsWritable, SpellsFunction, header_words, words_of_function_line, header, inside}
use Rattle.tac_text.specs.FunctionStates.{OpenData, FunctionState, waiting, reading, whole, MayFollow, after}
use Rattle.tac_text.specs.StatementSpelling.{words_of_line}
use Rattle.tac_text.proofs.FunctionReads.{LedBy, finished, function_steps, led_step, lines_of_function, words_of_inside, follow_words, function_faults, function_sayings}
use Rattle.text_lines.specs.declared.line_words.LineWord.{LineWord}
use Rattle.text_lines.specs.Runs.{Steps, AreSayings, TellsFaults}
use Rattle.text_lines.proofs.LineRuns.{Steps-append, Steps-kept, IsStart-run, Reads, Runs-said, said_by_run}
use Rattle.program_text.specs.DeclarationWords.{words_of_decl}
use Rattle.program_text.specs.FirstLines.{field_count_words, version_words}
use Rattle.program_text.specs.ProgramStates.{ProgramLine, version, field_count, declares, of_function, ProgramState, nothing_read, version_read, drafted, open_function, MaySay, in_program, said_on, with_decl, with_function, words_of_program_line, program_place, RunsTo, FitsVersion}
use Rattle.program_text.specs.ProgramTexts.{IsWritableDraft, SpellsDecls, SpellsProgram, IsProgramText, ProgramText, between_fault, program_fault}
use Rattle.tac_text.specs.FunctionFaults.{header_fault}
use Rattle.text_lines.specs.CanonicalLines.{AreLineWords}
use Rattle.text_lines.specs.FirstFaults.{IsStart}
use Rattle.text_lines.specs.declared.line_words.LineWord.TheVariants.{Plain as plain_word, Literal as literal_word}
use Rattle.program_text.specs.DeclarationFaults.{declaration_fault}
use Rattle.text_lines.proofs.CanonicalLines.{AreLineWords-fine}
use Rattle.program_text.proofs.ProgramLines.{AreFine-words_of_decl, OtherFirst, decl_first, faultless, words_of_decl-some, words_of_decl-unique, decl_of_words, AreFine-field_count_words, field_count_declared, field_count_faultless, field_count_words-unique, version_declared, version_faultless, version_words-unique, AreFine-version_words}

abbrev pub Leads : ProgramState → List ProgramLine → ProgramState → Type 0
Leads s lines t = Steps MaySay said_on s lines t

-- ---- the words of a program take the reader to it

function_leads : (d : DraftData) (s t : FunctionState) (lines : List FunctionLine) → Steps (MayFollow (has_registers d.version)) after s lines t → Leads (in_program d s) (map of_function lines) (in_program d t)
function_leads d s t [] h = ap (in_program d) h
function_leads d waiting t (line ∷ lines) h = (h.0, function_leads d (after waiting line) t lines h.1)
function_leads d (reading o) t (line ∷ lines) h = (h.0, function_leads d (after (reading o) line) t lines h.1)
function_leads d (whole f) t (line ∷ lines) h = absurd h.0

words_in_program : (lines : List FunctionLine) → map words_of_program_line (map of_function lines) ≡ map words_of_function_line lines
words_in_program [] = refl
words_in_program (line ∷ lines) = ap (λ (x : List (List LineWord)). words_of_function_line line ∷ x) (words_in_program lines)

abbrev function_in_program : Function → List Line → List ProgramLine
function_in_program f lines = map of_function (lines_of_function f.name f.kind f.keys lines)

function_words : (f : Function) (lines : List Line) (first : List (List LineWord)) → first ≡ header_words f.name f.kind f.keys ∷ (map words_of_line lines ++ words_of_line close ∷ [])
    → first ≡ map words_of_program_line (function_in_program f lines)
function_words f lines first e =
    e ∙ ap (λ (x : List (List LineWord)). header_words f.name f.kind f.keys ∷ x) (sym (words_of_inside lines)) ∙ sym (words_in_program (lines_of_function f.name f.kind f.keys lines))

abbrev appended : DraftData → List Function → List Decl → DraftData
appended d functions decls = record { version = d.version; fields = d.fields; functions = d.functions ++ functions; decls = d.decls ++ decls }

with_decl-appended : (d : DraftData) (decl : Decl) (functions : List Function) (decls : List Decl) → appended (with_decl d decl) functions decls ≡ appended d functions (decl ∷ decls)
with_decl-appended d decl functions decls = ap (λ (x : List Decl). record { version = d.version; fields = d.fields; functions = d.functions ++ functions; decls = x }) (append_assoc d.decls (decl ∷ []) decls)

with_function-appended : (d : DraftData) (f : Function) (number : ℕ) (functions : List Function) (decls : List Decl) → number ≡ length d.functions
    → appended (with_function d f) functions decls ≡ appended d (f ∷ functions) (FunctionDecl number ∷ decls)
with_function-appended d f number functions decls e =
    ap (λ (x : List Function). record { version = d.version; fields = d.fields; functions = x; decls = (d.decls ++ FunctionDecl (length d.functions) ∷ []) ++ decls }) (append_assoc d.functions (f ∷ []) functions)
    ∙ ap (λ (x : List Decl). record { version = d.version; fields = d.fields; functions = d.functions ++ f ∷ functions; decls = x }) (append_assoc d.decls (FunctionDecl (length d.functions) ∷ []) decls)
    ∙ ap (λ (n : ℕ). record { version = d.version; fields = d.fields; functions = d.functions ++ f ∷ functions; decls = d.decls ++ FunctionDecl n ∷ decls }) (sym e)

pub record Led (d : DraftData) (said : List (List LineWord)) (t : DraftData) : Type 0 where
  pub lines : List ProgramLine
  pub words : said ≡ map words_of_program_line lines
  pub leads : Leads (drafted d) lines (drafted t)

led_by : (d : DraftData) (decl : Decl) (said rest : List (List LineWord)) (t u : DraftData) → said ≡ words_of_decl decl ∷ rest → IsSpelledDecl d.version decl → Led (with_decl d decl) rest t → t ≡ u → Led d said u
led_by d decl said rest t u e s h same = record {
  lines = declares decl ∷ h.lines;
  words = e ∙ ap (λ (x : List (List LineWord)). words_of_decl decl ∷ x) h.words;
  leads = (s, subst (λ (x : DraftData). Leads (drafted (with_decl d decl)) h.lines (drafted x)) same h.leads);
}

decls_lead : (d : DraftData) (n count : ℕ) (functions : List Function) (decls : List Decl) (said : List (List LineWord)) → SpellsDecls functions decls said
    → AllByRecursion IsSpelledFunction functions → AllByRecursion (λ f. nesting f.body ≤ nesting_limit) functions
    → AllByRecursion (λ f. Takes (has_registers d.version) f.body) functions → AreDeclared d.version n count decls → n ≡ length d.functions
    → Led d said (appended d functions decls)
decls_lead d n count functions [] said h w k r a e =
    record { lines = []; words = h.0; leads = ap drafted (same (append-nil d.functions) (append-nil d.decls) (sym h.1)) }
  where
    same : d.functions ++ [] ≡ d.functions → d.decls ++ [] ≡ d.decls → [] ≡ functions → d ≡ appended d functions []
    same p q r =
        ap (λ (x : List Function). record { version = d.version; fields = d.fields; functions = x; decls = d.decls }) (sym p)
        ∙ ap (λ (x : List Decl). record { version = d.version; fields = d.fields; functions = d.functions ++ []; decls = x }) (sym q)
        ∙ ap (λ (x : List Function). record { version = d.version; fields = d.fields; functions = d.functions ++ x; decls = d.decls ++ [] }) r
decls_lead d n count [] (FunctionDecl number ∷ decls) said h w k r a e = absurd h
decls_lead d n count (f ∷ functions) (FunctionDecl number ∷ decls) said h w k r a e =
    let body = h.3 in
    let first = function_leads d waiting (whole f) (lines_of_function f.name f.kind f.keys body.0) (function_steps (has_registers d.version) f body.0 body.1 (w.0, k.0) r.0) in
    let more = decls_lead (with_function d f) (n + 1) count functions decls h.1 h.4 w.1 k.1 r.1 a.1 (omega (arith, e, length-append d.functions (f ∷ []))) in
    let lines = function_in_program f body.0 in
    let words = function_words f body.0 h.0 body.2 in
    record {
      lines = lines ++ more.lines;
      words = h.2 ∙ ap (λ (x : List (List LineWord)). x ++ h.1) words ∙ ap (λ (x : List (List LineWord)). map words_of_program_line lines ++ x) more.words ∙ sym (map-append words_of_program_line lines more.lines);
      leads = Steps-append MaySay said_on (drafted d) (drafted (with_function d f)) _ lines more.lines first
          (subst (λ (x : DraftData). Leads (drafted (with_function d f)) more.lines (drafted x)) (with_function-appended d f number functions decls (a.0 ∙ e)) more.leads);
    }
decls_lead d n count functions (decl ∷ decls) said h w k r a e =
    led_by d decl said h.0 _ _ h.1 a.0 (decls_lead (with_decl d decl) n count functions decls h.0 h.2 w k r a.1 e) (with_decl-appended d decl functions decls)

-- the words of a program's text, from the first line on
pub program_leads : (d : DraftData) (said : List (List LineWord)) → SpellsProgram d said → IsWritableDraft d → (lines : List ProgramLine) × (said ≡ map words_of_program_line lines) × Leads nothing_read lines (drafted d)
program_leads d said h w =
    let start : DraftData = record { version = d.version; fields = d.fields; functions = []; decls = [] } in
    let led = decls_lead start 0 (length d.functions) d.functions d.decls h.0 h.2 w.spelled.functions w.nested w.spelled.registers w.spelled.declared refl in (
      version d.version ∷ field_count d.fields ∷ led.lines,
      h.1 ∙ ap (λ (x : List (List LineWord)). version_words d.version ∷ field_count_words d.fields ∷ x) led.words,
      (w.spelled.version, ((w.spelled.some_field, w.spelled.few_fields), led.leads)),
    )

-- ---- the reader's state

pub record ReadSo (d : DraftData) (lines : List ProgramLine) : Type 0 where
  pub decls : List ProgramLine
  pub all : lines ≡ version d.version ∷ field_count d.fields ∷ decls
  pub spelled : SpellsDecls d.functions d.decls (map words_of_program_line decls)
  pub writable : IsWritableDraft d

pub record OpenSo (d : DraftData) (o : OpenData) (lines : List ProgramLine) : Type 0 where
  pub outer : List ProgramLine
  pub own : List FunctionLine
  pub all : lines ≡ outer ++ map of_function own
  pub read : ReadSo d outer
  pub led : LedBy (has_registers d.version) (reading o) own

abbrev pub StateFront : ProgramState → List ProgramLine → Type 0
StateFront nothing_read lines = lines ≡ []
StateFront (version_read v) lines = (lines ≡ version v ∷ []) × IsVersion v
StateFront (drafted d) lines = ReadSo d lines
StateFront (open_function d o) lines = OpenSo d o lines

SpellsDecls-append : (f g : List Function) (a b : List Decl) (x y : List (List LineWord)) → SpellsDecls f a x → SpellsDecls g b y → SpellsDecls (f ++ g) (a ++ b) (x ++ y)
SpellsDecls-append f g [] b x y h k = rw (h.0, h.1) k
SpellsDecls-append [] g (FunctionDecl number ∷ a) b x y h k = absurd h
SpellsDecls-append (e ∷ f) g (FunctionDecl number ∷ a) b x y h k =
    (h.0, h.1 ++ y, ap (λ (z : List (List LineWord)). z ++ y) h.2 ∙ append_assoc h.0 h.1 y, h.3, SpellsDecls-append f g a b h.1 y h.4 k)
SpellsDecls-append f g (decl ∷ a) b x y h k = (h.0 ++ y, ap (λ (z : List (List LineWord)). z ++ y) h.1, SpellsDecls-append f g a b h.0 y h.2 k)

SpellsDecls-one : (v : ℕ) (decl : Decl) → IsSpelledDecl v decl → SpellsDecls [] (decl ∷ []) (words_of_decl decl ∷ [])
SpellsDecls-one v (FunctionDecl number) h = absurd h
SpellsDecls-one v decl h = ([], refl, (refl, refl))

decl_read : (d : DraftData) (decl : Decl) (lines : List ProgramLine) → ReadSo d lines → IsSpelledDecl d.version decl → ReadSo (with_decl d decl) (lines ++ declares decl ∷ [])
decl_read d decl lines h s = record {
  decls = h.decls ++ declares decl ∷ [];
  all = ap (λ (x : List ProgramLine). x ++ declares decl ∷ []) h.all;
  spelled = subst (λ (x : List (List LineWord)). SpellsDecls d.functions (d.decls ++ decl ∷ []) x) (sym (map-append words_of_program_line h.decls (declares decl ∷ [])))
      (subst (λ (x : List Function). SpellsDecls x (d.decls ++ decl ∷ []) (map words_of_program_line h.decls ++ words_of_decl decl ∷ [])) (append-nil d.functions)
      (SpellsDecls-append d.functions [] d.decls (decl ∷ []) (map words_of_program_line h.decls) (words_of_decl decl ∷ []) h.spelled (SpellsDecls-one d.version decl s)));
  writable = record { spelled = IsSpelledDraft-decl d decl true s h.writable.spelled; nested = h.writable.nested };
}

ended_read : (d : DraftData) (f : Function) (lines : List ProgramLine) (inner : List Line) → ReadSo d lines → SpellsBody f.body inner → IsWritable f → Takes (has_registers d.version) f.body → ReadSo (with_function d f) (lines ++ function_in_program f inner)
ended_read d f lines inner h b w t =
    let own = function_in_program f inner in
    let spelled : SpellsFunction f (map words_of_program_line own) = (inner, b, sym (function_words f inner _ refl)) in
    let one : SpellsDecls (f ∷ []) (FunctionDecl (length d.functions) ∷ []) (map words_of_program_line own) = (map words_of_program_line own, [], sym (append-nil (map words_of_program_line own)), spelled, (refl, refl)) in
    record {
      decls = h.decls ++ own;
      all = ap (λ (x : List ProgramLine). x ++ own) h.all;
      spelled = subst (λ (x : List (List LineWord)). SpellsDecls (d.functions ++ f ∷ []) (d.decls ++ FunctionDecl (length d.functions) ∷ []) x) (sym (map-append words_of_program_line h.decls own))
          (SpellsDecls-append d.functions (f ∷ []) d.decls (FunctionDecl (length d.functions) ∷ []) (map words_of_program_line h.decls) (map words_of_program_line own) h.spelled one);
      writable = record {
        spelled = IsSpelledDraft-function d f w.0 t h.writable.spelled;
        nested = AllByRecursion-last (λ (g : Function). nesting g.body ≤ nesting_limit) d.functions f h.writable.nested w.1;
      };
    }

-- ---- one more line

function_read : (d : DraftData) (s : FunctionState) (outer : List ProgramLine) (own : List FunctionLine) → ReadSo d outer → LedBy (has_registers d.version) s own → StateFront (in_program d s) (outer ++ map of_function own)
function_read d waiting outer own read led = subst (ReadSo d) (sym (append-nil outer) ∙ ap (λ (x : List FunctionLine). outer ++ map of_function x) (sym led)) read
function_read d (reading o) outer own read led = record { outer = outer; own = own; all = refl; read = read; led = led }
function_read d (whole f) outer own read led =
    subst (λ (x : List FunctionLine). ReadSo (with_function d f) (outer ++ map of_function x)) (sym led.1) (ended_read d f outer led.0 read led.2 led.3 led.4)

inside_read : (d : DraftData) (o : OpenData) (lines : List ProgramLine) (next : FunctionLine) → OpenSo d o lines → MayFollow (has_registers d.version) (reading o) next
    → StateFront (said_on (open_function d o) (of_function next)) (lines ++ of_function next ∷ [])
inside_read d o lines next h may =
    let all : h.outer ++ map of_function (h.own ++ next ∷ []) ≡ lines ++ of_function next ∷ [] =
    ap (λ (x : List ProgramLine). h.outer ++ x) (map-append of_function h.own (next ∷ []))
    ∙ sym (append_assoc h.outer (map of_function h.own) (of_function next ∷ []))
    ∙ ap (λ (x : List ProgramLine). x ++ of_function next ∷ []) (sym h.all) in
    subst (StateFront (in_program d (after (reading o) next))) all (function_read d (after (reading o) next) h.outer (h.own ++ next ∷ []) h.read (led_step (has_registers d.version) (reading o) next h.own h.led may))

line_read : (s : ProgramState) (l : ProgramLine) (lines : List ProgramLine) → StateFront s lines → MaySay s l → StateFront (said_on s l) (lines ++ l ∷ [])
line_read nothing_read (version v) lines h m = (ap (λ (x : List ProgramLine). x ++ version v ∷ []) h, m)
line_read (version_read v) (field_count count) lines h m = record {
  decls = [];
  all = ap (λ (x : List ProgramLine). x ++ field_count count ∷ []) h.0;
  spelled = (refl, refl);
  writable = record { spelled = record { version = h.1; some_field = m.0; few_fields = m.1; functions = tt; registers = tt; declared = refl }; nested = tt };
}
line_read (drafted d) (declares decl) lines h m = decl_read d decl lines h m
line_read (drafted d) (of_function l) lines h m = function_read d (after waiting l) lines (l ∷ []) h (led_step (has_registers d.version) waiting l [] refl m)
line_read (open_function d o) (of_function l) lines h m = inside_read d o lines l h m
line_read s l lines h m = absurd m

pub lines_read : (t : ProgramState) (lines : List ProgramLine) → Leads nothing_read lines t → StateFront t lines
lines_read t lines h = Steps-kept MaySay said_on StateFront line_read nothing_read t [] lines refl h

-- What was read fits its version.
pub fits_version : (s : ProgramState) (lines : List ProgramLine) → StateFront s lines → FitsVersion s
fits_version nothing_read lines h = tt
fits_version (version_read v) lines h = h.1
fits_version (drafted d) lines h = tt
fits_version (open_function d o) lines h = h.led.4

-- ---- what was read can become whole

pub can_end : (s : ProgramState) (lines : List ProgramLine) → StateFront s lines → (more : List ProgramLine) × (d : DraftData) × Leads s more (drafted d)
can_end nothing_read lines h = (version 1 ∷ field_count 1 ∷ [], record { version = 1; fields = 1; functions = []; decls = [] }, (inl refl, ((omega arith, omega arith), refl)))
can_end (version_read v) lines h = (field_count 1 ∷ [], record { version = v; fields = 1; functions = []; decls = [] }, ((omega arith, some_limit v), refl))
can_end (drafted d) lines h = ([], d, refl)
can_end (open_function d o) lines h =
    let more = finished (has_registers d.version) (reading o) h.own h.led in
    (map of_function more.0, with_function d more.1, function_leads d (reading o) (whole more.1) more.0 more.2)

-- ---- declarations, and the first lines of functions

between-other : (v : ℕ) (words : List LineWord) → OtherFirst words → between_fault v words ≡ declaration_fault v words
between-other v (plain_word word ∷ words) h = rw h refl
between-other v words h = absurd h

between-header : (v : ℕ) (l : FunctionLine) → MayFollow (has_registers v) waiting l → between_fault v (words_of_function_line l) ≡ header_fault (words_of_function_line l)
between-header v (header name kind keys) h = refl
between-header v (inside l) h = absurd h

not_both : (v : ℕ) (d : Decl) (l : FunctionLine) → IsSpelledDecl v d → MayFollow (has_registers v) waiting l → words_of_decl d ≡ words_of_function_line l → ⊥
not_both v d (header name kind keys) h k e =
    let other : true ≡ false = subst OtherFirst e (decl_first v d h) in cc
not_both v d (inside l) h k e = k

-- ---- an allowed line has words of its own

some_said : (s : ProgramState) (l : ProgramLine) → MaySay s l → words_of_program_line l ≢ []
some_said nothing_read (version v) h = λ e. absurd cc
some_said (version_read v) (field_count count) h = λ e. absurd cc
some_said (drafted d) (declares decl) h = words_of_decl-some d.version decl h
some_said (drafted d) (of_function l) h = (function_sayings (has_registers d.version)).some waiting l h
some_said (open_function d o) (of_function l) h = (function_sayings (has_registers d.version)).some (reading o) l h
some_said s l h = absurd h

unique_said : (s : ProgramState) (l m : ProgramLine) → MaySay s l → MaySay s m → words_of_program_line l ≡ words_of_program_line m → l ≡ m
unique_said nothing_read (version v) (version w) h k e = ap version (version_words-unique v w h k e)
unique_said (version_read v) (field_count i) (field_count j) h k e = ap field_count (field_count_words-unique v i j h k e)
unique_said (drafted d) (declares a) (declares b) h k e = ap declares (words_of_decl-unique d.version a b h k e)
unique_said (drafted d) (declares a) (of_function l) h k e = absurd (not_both d.version a l h k e)
unique_said (drafted d) (of_function l) (declares b) h k e = absurd (not_both d.version b l k h (sym e))
unique_said (drafted d) (of_function l) (of_function m) h k e = ap of_function ((function_sayings (has_registers d.version)).unique waiting l m h k e)
unique_said (open_function d o) (of_function l) (of_function m) h k e = ap of_function ((function_sayings (has_registers d.version)).unique (reading o) l m h k e)
unique_said nothing_read (version v) m h k e = absurd k
unique_said (version_read v) (field_count i) m h k e = absurd k
unique_said (drafted d) (declares a) m h k e = absurd k
unique_said (drafted d) (of_function l) m h k e = absurd k
unique_said (open_function d o) (of_function l) m h k e = absurd k
unique_said s l m h k e = absurd h

pub program_sayings : AreSayings words_of_program_line MaySay
program_sayings = record { some = some_said; unique = unique_said }

-- ---- an allowed line has no fault

fault_none : (s : ProgramState) → program_fault (program_place s) [] ≡ None
fault_none nothing_read = refl
fault_none (version_read v) = refl
fault_none (drafted d) = refl
fault_none (open_function d o) = refl

fault_sound : (s : ProgramState) (l : ProgramLine) → MaySay s l → program_fault (program_place s) (words_of_program_line l) ≡ None
fault_sound nothing_read (version v) h = version_faultless v h
fault_sound (version_read v) (field_count count) h = field_count_faultless v count h
fault_sound (drafted d) (declares decl) h = between-other d.version (words_of_decl decl) (decl_first d.version decl h) ∙ faultless d.version decl h
fault_sound (drafted d) (of_function l) h = between-header d.version l h ∙ (function_faults (has_registers d.version)).sound waiting l h
fault_sound (open_function d o) (of_function l) h = (function_faults (has_registers d.version)).sound (reading o) l h
fault_sound s l h = absurd h

pub said_between : (d : DraftData) (ws : List LineWord) → ws ≢ [] → AreLineWords ws → between_fault d.version ws ≡ None → (l : ProgramLine) × (ws ≡ words_of_program_line l) × MaySay (drafted d) l
said_between d [] some good e = absurd (some refl)
said_between d (literal_word bytes ∷ words) some good e = let bad : Some 3 ≡ None = e in absurd cc
said_between d (plain_word word ∷ words) some good e = by_word (bytes_eq word (codes "function")) refl
  where
    by_word : (b : Bool) → bytes_eq word (codes "function") ≡ b → (l : ProgramLine) × (plain_word word ∷ words ≡ words_of_program_line l) × MaySay (drafted d) l
    by_word true w =
        let told : header_fault (plain_word word ∷ words) ≡ None = rw w (rw w at e) in
        let h = (function_faults (has_registers d.version)).complete waiting (plain_word word ∷ words) some good told in (of_function h.0, h.1, h.2)
    by_word false w =
        let told : declaration_fault d.version (plain_word word ∷ words) ≡ None = rw w at e in
        let h = decl_of_words d.version (plain_word word ∷ words) some good told in (declares h.0, h.1, h.2)

fault_complete : (s : ProgramState) (ws : List LineWord) → ws ≢ [] → AreLineWords ws → program_fault (program_place s) ws ≡ None → (l : ProgramLine) × (ws ≡ words_of_program_line l) × MaySay s l
fault_complete nothing_read ws some good e = let h = version_declared ws some e in (version h.0, h.1, h.2)
fault_complete (version_read v) ws some good e = let h = field_count_declared v ws some good e in (field_count h.0, h.1, h.2)
fault_complete (drafted d) ws some good e = said_between d ws some good e
fault_complete (open_function d o) ws some good e = let h = (function_faults (has_registers d.version)).complete (reading o) ws some good e in (of_function h.0, h.1, h.2)

pub program_faults : TellsFaults words_of_program_line MaySay (λ s. program_fault (program_place s))
program_faults = record { none = fault_none; sound = fault_sound; complete = fault_complete }

-- ---- an allowed line can be written

said_words : (s : ProgramState) (l : ProgramLine) → MaySay s l → AreLineWords (words_of_program_line l)
said_words nothing_read (version v) h = AreLineWords-fine (version_words v) (AreFine-version_words v h)
said_words (version_read v) (field_count count) h = AreLineWords-fine (field_count_words count) (AreFine-field_count_words v count h)
said_words (drafted d) (declares decl) h = AreLineWords-fine (words_of_decl decl) (AreFine-words_of_decl d.version decl h)
said_words (drafted d) (of_function l) h = follow_words (has_registers d.version) waiting l h
said_words (open_function d o) (of_function l) h = follow_words (has_registers d.version) (reading o) l h
said_words s l h = absurd h

-- ---- texts of programs

pub RunsTo-ProgramText : (d : DraftData) (text : List (List ℕ)) → ProgramText d text → RunsTo nothing_read text (drafted d)
RunsTo-ProgramText d text t =
    let led = program_leads d t.said t.spelled t.writable in
    Runs-said words_of_program_line MaySay said_on nothing_read (drafted d) text t.said led.0 t.says led.1 led.2

pub ProgramText-RunsTo : (d : DraftData) (text : List (List ℕ)) → RunsTo nothing_read text (drafted d) → ProgramText d text
ProgramText-RunsTo d text run =
    let said = said_by_run words_of_program_line MaySay said_on program_sayings nothing_read (drafted d) text run in
    let read : StateFront (drafted d) said.0 = lines_read (drafted d) said.0 said.2 in
    record {
      said = map words_of_program_line said.0;
      says = said.1;
      spelled = (map words_of_program_line read.decls, ap (map words_of_program_line) read.all, read.spelled);
      writable = read.writable;
    }

pub version_of_run : (s : ProgramState) (front : List (List ℕ)) → RunsTo nothing_read front s → FitsVersion s
version_of_run s front run =
    let said = said_by_run words_of_program_line MaySay said_on program_sayings nothing_read s front run in
    fits_version s said.0 (lines_read s said.0 said.2)

begins_whole : (front : List (List ℕ)) (s : ProgramState) → RunsTo nothing_read front s → IsStart IsProgramText front
begins_whole front s run = IsStart-run IsProgramText words_of_program_line MaySay said_on nothing_read program_sayings said_words (λ t ls steps.
    let rest = can_end t ls (lines_read t ls steps) in (rest.0, drafted rest.1, rest.2, λ text all. (rest.1, ProgramText-RunsTo rest.1 text all))) front s run

pub reads_programs : Reads IsProgramText words_of_program_line MaySay said_on nothing_read
reads_programs = record { whole = λ text w. (drafted w.0, RunsTo-ProgramText w.0 text w.1); begins = begins_whole }
