-- A program that a text or a file gives is made from the draft that its text spells, and its functions are valid.
use Rattle.std.proofs.Common.{ℕ, List, Option}
use Rattle.pact_operators.specs.Programs.{ProgramData}
use Rattle.pact_outside.specs.declared.files.NamedFile.{NamedFile}
use Rattle.program_text.specs.ProgramTexts.{ProgramText}
use Rattle.tac_syntax.specs.Drafts.{DraftData}
use Rattle.tac_syntax.specs.Valid.{WithFields}
use Rattle.text_lines.specs.TextLines.{lines_of}
use Rattle.pact_load.specs.Stages.{Reading, and_then, gives}
use Rattle.pact_load.specs.Loading.{IsProgramFrom, draft, file, program, program_file, program_limit, program_of, valids}
use Rattle.pact_load.proofs.StageLaws.{gave_then}

pub record IsMade (p : ProgramData) : Type 0 where
  pub text : List ℕ
  pub drafted : DraftData
  pub functions : List WithFields
  pub spelled : ProgramText drafted (lines_of text)
  pub from : IsProgramFrom drafted functions p

pub text_made : (name text : List ℕ) (p : ProgramData) (r : List Reading) → (program_of name text).Ends r (gives p) → IsMade p
text_made name text p r h =
    let spelled = gave_then (draft name text) (λ d. and_then (valids d) (program d)) r p h in
    let made = gave_then (valids spelled.value) (program spelled.value) spelled.later p spelled.next in
    record { text = text; drafted = spelled.value; functions = made.value; spelled = spelled.first.1; from = made.next.1 }

pub program_made : (files : Option (List NamedFile)) (name : List ℕ) (p : ProgramData) (r : List Reading) → (program_file files name).Ends r (gives p) → IsMade p
program_made files name p r h =
    let read = gave_then (file files name program_limit) (program_of name) r p h in
    text_made name read.value p read.later read.next
