-- The results of reading the words of a line, and what a line that was read says.
use Rattle.std.specs.Prelude.{Bool, Option, Some, None, ◌≡◌, ℕ, List, ◌∷◌, Result, Ok, Err, codes}
use Rattle.tac_syntax.specs.Code.{Line, simple, test, turns, over, otherwise, close}
use Rattle.tac_syntax.specs.Trees.{Statement, one_line, statement_of}
use Rattle.tac_text.specs.declared.lines.BodyLine.{BodyLine}
use Rattle.tac_text.specs.declared.lines.BodyLine.TheVariants.{Plain, If, Repeat, Each, Else, End}
use Rattle.tac_syntax.specs.declared.statements.Stmt.{Stmt}
use Rattle.text_lines.specs.declared.line_words.LineWord.{LineWord}
use Rattle.text_lines.specs.declared.line_words.LineWord.TheVariants.{Plain as plain_word}
use Rattle.text_lines.specs.LineReading.{Gives, IsFaultOf}
use Rattle.text_lines.specs.declared.faults.NotRead.{NotRead}
use Rattle.tac_text.specs.StatementFaults.{wanted_by, form_fault, assignment_fault, statement_fault}
use Rattle.tac_text.specs.StatementLines.{LinePlace, MayStand, MayStandSimple}
use Rattle.tac_text.specs.StatementSpelling.{words_of_simple, words_of_line}

-- ---- what a line says

-- a statement that is one line
abbrev pub line_said : Statement → Option Line
line_said (one_line s) = Some (simple s)
line_said stmt = None

abbrev pub said : BodyLine → Option Line
said (Plain stmt) = line_said (statement_of stmt)
said (If on) = Some (test on)
said (Repeat count) = Some (turns count)
said (Each name list) = Some (over name list)
said Else = Some otherwise
said End = Some close

-- ---- one line

-- a statement of one line, whose words these are
abbrev pub HasWordsOf : Bool → Statement → List LineWord → Type 0
HasWordsOf registers (one_line s) words = (words ≡ words_of_simple s) × MayStandSimple registers s
HasWordsOf registers stmt words = ⊥

-- The words after a target, `=` and a form make this statement, or their fault is reported.
abbrev pub ReadsForm : (registers : Bool) → (form target : List ℕ) → Result Stmt NotRead → List LineWord → Type 0
ReadsForm registers form target (Ok stmt) words = HasWordsOf registers (statement_of stmt) (plain_word target ∷ plain_word (codes "=") ∷ plain_word form ∷ words)
ReadsForm registers form target (Err e) words = IsFaultOf e (form_fault target (wanted_by registers form) words)

-- The words after a target make this statement, or their fault is reported.
abbrev pub ReadsAssignment : Bool → List ℕ → Result Stmt NotRead → List LineWord → Type 0
ReadsAssignment registers target (Ok stmt) words = HasWordsOf registers (statement_of stmt) (plain_word target ∷ words)
ReadsAssignment registers target (Err e) words = IsFaultOf e (assignment_fault registers target words)

-- the line of these words at a place
abbrev pub IsLineAt : LinePlace → Option Line → List LineWord → Type 0
IsLineAt p None words = ⊥
IsLineAt p (Some l) words = (words ≡ words_of_line l) × MayStand p l

abbrev pub ReadsLine : LinePlace → Result BodyLine NotRead → List LineWord → Type 0
ReadsLine p (Ok line) words = IsLineAt p (said line) words
ReadsLine p (Err e) words = IsFaultOf e (statement_fault p words)

-- ---- the result for a line's own words

-- The result is this line, or out of memory.
abbrev pub GivesLine : Result BodyLine NotRead → Line → Type 0
GivesLine r l = Gives (λ b. said b ≡ Some l) r
