-- The arguments of the calls that make the program of a drill, and their results.
use Rattle.std.proofs.Common.{◌≡◌, ◌∙◌, ℕ, List, map, ap, sym, subst, arith}
use Rattle.tac_syntax.specs.declared.functions.Function.{Function}
use Rattle.tac_syntax.specs.Drafts.{DraftData}
use Rattle.tac_syntax.specs.Valid.{WithFields}
use Rattle.program_check.specs.declared.program_rules.ProgramRule.{ProgramRule}
use Rattle.program_check.specs.ProgramRules.{Keeps}
use Rattle.program_text.specs.ProgramTexts.{IsWritableDraft, ProgramText, program_spelling}
use Rattle.program_text.proofs.WrittenPrograms.{written_text}
use Rattle.text_lines.specs.TextLines.{lines_of}
use Rattle.drill_program.specs.Drill.{drill_draft, drill_functions, with_fields}
use Rattle.drill_program.proofs.DrillKept.{drill_keeps}
use Rattle.drill_program.proofs.DrillProgram.{is_spelled}

-- ---- the text

is_writable : IsWritableDraft drill_draft
is_writable = record { spelled = is_spelled; nested = (omega arith, (omega arith, tt)) }

pub text_is : (text : List ℕ) → text ≡ program_spelling drill_draft → ProgramText drill_draft (lines_of text)
text_is text e = written_text drill_draft text is_writable e

-- ---- the functions

pub functions_are : (d : DraftData) (functions : List Function) (fields : ℕ) (valids : List WithFields) → d ≡ drill_draft → functions ≡ d.functions → fields ≡ d.fields → valids ≡ map (with_fields fields) functions
    → valids ≡ drill_functions
functions_are d functions fields valids e f g h =
    let same : functions ≡ drill_draft.functions = f ∙ ap (λ (x : DraftData). x.functions) e in
    let four : fields ≡ 4 = g ∙ ap (λ (x : DraftData). x.fields) e in
    h ∙ (λ i. map (with_fields (four i)) (same i))

-- ---- the program

pub kept_in : (d : DraftData) (valids : List WithFields) → d ≡ drill_draft → valids ≡ drill_functions → (rule : ProgramRule) → Keeps rule d valids
kept_in d valids e f rule = subst (λ (x : DraftData). Keeps rule x valids) (sym e) (subst (Keeps rule drill_draft) (sym f) (drill_keeps rule))
