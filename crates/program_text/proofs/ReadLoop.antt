-- The state of the reader of programs after some lines.
use Rattle.std.proofs.Common.{◌≡◌, Bool, true, false, Result, Ok, Err, IfOk, List, ap, sym, subst, ◌∙◌, ◌<◌, ◌≤◌, ◌+◌, inl, inr, max, ℕ, [], ◌∷◌, ◌++◌, length, Some, None, IfErr, refl, append_assoc, append-nil, arith, length-append}
use Rattle.tac_syntax.specs.Code.{close}
use Rattle.tac_syntax.specs.Drafts.{DraftData}
use Rattle.tac_syntax.specs.FieldRegisters.{Takes, has_registers}
use Rattle.text_lines.specs.declared.faults.NotRead.{NotRead}
use Rattle.text_lines.specs.declared.line_words.LineWord.{LineWord}
use Rattle.tac_text.specs.FunctionStates.{OpenData, TakesWords, function_of}
use Rattle.tac_text.specs.FunctionLines.{inside}
use Rattle.tac_text.specs.Places.{FitsBuild}
use Rattle.tac_text.proofs.FunctionReads.{LeadsOn-TakesWords, at_own_end}
use Rattle.program_text.specs.declared.program_reading.State.{State}
use Rattle.program_text.specs.ProgramStates.{LeadsOn, state_of, EndsWith, GivesDraft, TellsFirstFault, of_function, in_program, drafted, open_function, with_function, MaySay, ProgramState, RunsTo, nothing_read, program_place, said_on, words_of_program_line}
use Rattle.text_lines.specs.declared.lines.TextFault.{TextFault}
use Rattle.text_lines.specs.FirstFaults.{IsFirstFault, IsLineFault, told_at}
use Rattle.text_lines.specs.TextLines.{lines_of}
use Rattle.text_lines.proofs.LineRuns.{EndsEarly-run, TellsFirst-line, Runs-append, Runs-unique}
use Rattle.program_text.specs.ProgramTexts.{IsProgramText, ProgramText, program_fault, program_missing}
use Rattle.program_text.proofs.ProgramReads.{ProgramText-RunsTo, RunsTo-ProgramText, program_faults, program_sayings, reads_programs}
use Rattle.text_lines.specs.declared.lines.TextFault.TheVariants as told

-- ---- one step inside a function

-- the function's own `end`
pub ended_words : (d : DraftData) (old now : OpenData) (said : List LineWord) (ended : Bool) (r : Result State NotRead) → ended ≡ true → TakesWords (has_registers d.version) ended said old now
    → IfOk r (λ t. state_of t ≡ drafted (with_function d (function_of now))) → IfOk r (λ t. LeadsOn (open_function d old) said (state_of t))
ended_words d old now said ended (Err e) is taken h = tt
ended_words d old now said ended (Ok t) is taken h =
    let own : TakesWords (has_registers d.version) true said old now = subst (λ (b : Bool). TakesWords (has_registers d.version) b said old now) is taken in (
      of_function (inside close),
      own.0,
      tt,
      h ∙ ap (λ (o : OpenData). drafted (with_function d (function_of o))) own.2 ∙ sym (ap (in_program d) (at_own_end old.build.blocks old own.1)),
    )

-- a line of its body
pub inner_words : (d : DraftData) (old now : OpenData) (said : List LineWord) (ended : Bool) → ended ≡ false → TakesWords (has_registers d.version) ended said old now → LeadsOn (open_function d old) said (open_function d now)
inner_words d old now said ended is taken =
    let on = LeadsOn-TakesWords (has_registers d.version) false said old now (subst (λ (b : Bool). TakesWords (has_registers d.version) b said old now) is taken) in
    (of_function on.0, on.1, on.2, ap (in_program d) on.3)

-- The finished function takes fields from registers only if the version allows it.
pub takes_whole : (d : DraftData) (o : OpenData) → FitsBuild (has_registers d.version) o.build → o.build.blocks ≡ [] → Takes (has_registers d.version) (function_of o).body
takes_whole d o h none = h.1.2

-- ---- after some lines

-- The first `lines` lines of the text led to this state, and the rest is left.
pub record Reached (text rest : List ℕ) (lines : ℕ) (s : ProgramState) : Type 0 where
  pub front : List (List ℕ)
  pub all : lines_of text ≡ front ++ lines_of rest
  pub counted : lines ≡ length front
  pub run : RunsTo nothing_read front s
  pub few : lines + length rest ≤ length text

pub reached_start : (text : List ℕ) → Reached text text 0 nothing_read
reached_start text = record { front = []; all = refl; counted = refl; run = refl; few = omega arith }

pub reached_on : (text rest behind line : List ℕ) (lines : ℕ) (s t : ProgramState) → Reached text rest lines s → lines_of rest ≡ line ∷ lines_of behind → length behind < length rest → RunsTo s (line ∷ []) t
    → Reached text behind (lines + 1) t
reached_on text rest behind line lines s t h e shorter run = record {
  front = h.front ++ line ∷ [];
  all = h.all ∙ ap (λ (x : List (List ℕ)). h.front ++ x) e ∙ sym (append_assoc h.front (line ∷ []) (lines_of behind));
  counted = omega (arith, h.counted, length-append h.front (line ∷ []));
  run = Runs-append words_of_program_line MaySay said_on nothing_read s t h.front (line ∷ []) h.run run;
  few = omega (arith, h.few, shorter);
}

pub told_fault : (text rest behind line : List ℕ) (lines : ℕ) (s : ProgramState) (why : NotRead) → Reached text rest lines s → lines_of rest ≡ line ∷ lines_of behind → IsLineFault (program_fault (program_place s)) why line
    → TellsFirstFault (told_at (lines + 1) why) (lines_of text)
told_fault text rest behind line lines s why h e fault =
    TellsFirst-line IsProgramText words_of_program_line MaySay said_on nothing_read program_place program_fault program_missing program_sayings program_faults reads_programs
    (lines_of text) h.front (lines_of behind) line (lines + 1) s why h.run (h.all ∙ ap (λ (x : List (List ℕ)). h.front ++ x) e) (omega (arith, h.counted)) fault

-- A text with a first fault isn't a program's.
pub faulty_is_none : (text : List (List ℕ)) (number what : ℕ) (d : DraftData) → IsFirstFault IsProgramText program_fault program_missing text number what → ProgramText d text → ⊥
faulty_is_none text number what d (inl h) t = h.no_longer (h.later, (d, subst (ProgramText d) (h.lines ∙ sym (append_assoc h.front (h.line ∷ []) h.later)) t))
faulty_is_none text number what d (inr h) t = h.not_whole (d, t)

pub not_given : (text : List (List ℕ)) (e : TextFault) (d : DraftData) → TellsFirstFault e text → ProgramText d text → GivesDraft (Err e) d
not_given text (told.At number what) d h t = absurd (faulty_is_none text number what d h t)
not_given text told.Memory d h t = tt

-- ---- the end

whole_run : (text rest : List ℕ) (lines : ℕ) (s : ProgramState) → Reached text rest lines s → rest ≡ [] → RunsTo nothing_read (lines_of text) s
whole_run text rest lines s h none =
    subst (λ (x : List (List ℕ)). RunsTo nothing_read x s) (sym (h.all ∙ ap (λ (x : List ℕ). h.front ++ lines_of x) none ∙ append-nil h.front)) h.run

pub same_draft : (d e : DraftData) (text : List (List ℕ)) → ProgramText d text → ProgramText e text → d ≡ e
same_draft d e text t u =
    let same : drafted d ≡ drafted e = Runs-unique words_of_program_line MaySay said_on program_sayings nothing_read (drafted d) (drafted e) text (RunsTo-ProgramText d text t) (RunsTo-ProgramText e text u) in
    cc

not_missing : (s : ProgramState) (what : ℕ) (d : DraftData) → s ≡ drafted d → program_missing (program_place s) ≡ Some what → ⊥
not_missing s what d e m =
    let none : None ≡ Some what = subst (λ (x : ProgramState). program_missing (program_place x) ≡ Some what) e m in
    cc

ends_early : (text rest : List ℕ) (lines number what : ℕ) (s : ProgramState) → Reached text rest lines s → rest ≡ [] → program_missing (program_place s) ≡ Some what → number ≡ max 1 lines
    → IsFirstFault IsProgramText program_fault program_missing (lines_of text) number what
ends_early text rest lines number what s h none missing numbered =
    let run = whole_run text rest lines s h none in
    let count : length (lines_of text) ≡ lines = ap length (h.all ∙ ap (λ (x : List ℕ). h.front ++ lines_of x) none ∙ append-nil h.front) ∙ sym h.counted in
    inr (EndsEarly-run IsProgramText words_of_program_line MaySay said_on nothing_read program_place program_fault program_missing program_sayings program_faults reads_programs
    (lines_of text) number what s run
    (λ whole. not_missing s what whole.0 (Runs-unique words_of_program_line MaySay said_on program_sayings nothing_read s (drafted whole.0) (lines_of text) run (RunsTo-ProgramText whole.0 (lines_of text) whole.1)) missing)
    (numbered ∙ ap (max 1) (sym count)) missing)

pub read_so : (text rest : List ℕ) (lines : ℕ) (s : ProgramState) (r : Result DraftData TextFault) → Reached text rest lines s → rest ≡ [] → EndsWith s lines r
    → IfOk r (λ d. ProgramText d (lines_of text)) × ((d : DraftData) → ProgramText d (lines_of text) → GivesDraft r d) × IfErr r (λ e. TellsFirstFault e (lines_of text))
read_so text rest lines s (Ok d) h none e =
    let t = ProgramText-RunsTo d (lines_of text) (subst (λ (x : ProgramState). RunsTo nothing_read (lines_of text) x) e (whole_run text rest lines s h none)) in
    (t, λ other u. same_draft d other (lines_of text) t u, tt)
read_so text rest lines s (Err (told.At number what)) h none e =
    let fault = ends_early text rest lines number what s h none e.0 e.1 in
    (tt, λ d t. faulty_is_none (lines_of text) number what d fault t, fault)
read_so text rest lines s (Err told.Memory) h none e = absurd e
