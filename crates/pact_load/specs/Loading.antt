-- The stages of loading, one after another: the ends that reading a program's file and the files of its sources can
-- have.
use Rattle.std.specs.Prelude.{◌≡◌, ◌≤◌, ◌<◌, ℕ, List, length, Option}
use Rattle.csv_source.specs.CsvRows.{CsvRows, HasBadRow}
use Rattle.pact_operators.specs.declared.operators.Op.{Op}
use Rattle.program_check.specs.declared.program_rules.ProgramRule.{ProgramRule}
use Rattle.pact_operators.specs.Allowed.{Bag}
use Rattle.tac_syntax.specs.Drafts.{DraftData}
use Rattle.pact_operators.specs.PlanOps.{sources_of}
use Rattle.pact_operators.specs.Programs.{IsProgramOf, ProgramData}
use Rattle.program_check.specs.ProgramRules.{IsRefused, Keeps}
use Rattle.pact_outside.specs.declared.files.NamedFile.{NamedFile}
use Rattle.program_text.specs.ProgramTexts.{IsProgramText, ProgramText, program_fault, program_missing}
use Rattle.tac_syntax.specs.declared.functions.Function.{Function}
use Rattle.tac_syntax.specs.Valid.{IsRefusal, IsValid, WithFields}
use Rattle.text_lines.specs.FirstFaults.{IsFirstFault}
use Rattle.text_lines.specs.TextLines.{lines_of}
use Rattle.pact_load.specs.NamedSources.{IsSourceNamed, LacksSource}
use Rattle.pact_load.specs.declared.loaded.Loaded.{Loaded}
use Rattle.pact_load.specs.Readings.{Holds, Lacks, only}
use Rattle.pact_load.specs.RefusalLines.{function_line, long_line, program_line, source_line, text_line, unnamed_line}
use Rattle.pact_load.specs.Stages.{End, gives, stops, misses, fails, Stage, and_then, plain, give, each}

-- ---- files

abbrev pub FileEnds : Option (List NamedFile) → List ℕ → ℕ → End (List ℕ) → Type 0
FileEnds files name limit (gives bytes) = Holds files name bytes × (length bytes ≤ limit)
FileEnds files name limit (stops status line) = (bytes : List ℕ) × Holds files name bytes × (limit < length bytes) × (status ≡ 8) × (line ≡ long_line name limit)
FileEnds files name limit (misses other) = Lacks files name × (other ≡ name)
FileEnds files name limit (fails other) = other ≡ name

-- the bytes of the file of that name, if it has at most as many as the limit
abbrev pub file : Option (List NamedFile) → List ℕ → ℕ → Stage (List ℕ)
file files name limit = record { Ends = λ readings end. (readings ≡ only name limit) × FileEnds files name limit end }

-- the most bytes that a program file may have
abbrev pub program_limit : ℕ
program_limit = 1048576

-- the most bytes that a source's file may have
abbrev pub source_limit : ℕ
source_limit = 67108864

-- ---- programs

-- the draft that a text spells
abbrev pub draft : List ℕ → List ℕ → Stage DraftData
draft name text = plain (λ d. ProgramText d (lines_of text))
    (λ status line. (number what : ℕ) × IsFirstFault IsProgramText program_fault program_missing (lines_of text) number what × (status ≡ 5) × (line ≡ text_line name number what))

-- the function, valid in a program with `fields` fields
pub record IsValidOf (fields : ℕ) (f : Function) (v : WithFields) : Type 0 where
  pub function : v.function ≡ f
  pub fields_are : v.fields ≡ fields
  pub valid : IsValid v.function v.fields

abbrev pub valid : ℕ → Function → Stage WithFields
valid fields f = plain (IsValidOf fields f) (λ status line. (code at : ℕ) × IsRefusal f fields code at × (status ≡ 6) × (line ≡ function_line f.name code at))

-- the functions of a draft, in text order
abbrev pub valids : DraftData → Stage (List WithFields)
valids d = each (valid d.fields) d.functions

-- the program that the draft declares, which keeps every rule
pub record IsProgramFrom (d : DraftData) (functions : List WithFields) (p : ProgramData) : Type 0 where
  pub program : IsProgramOf d functions p
  pub kept : (rule : ProgramRule) → Keeps rule d functions

abbrev pub program : DraftData → List WithFields → Stage ProgramData
program d functions = plain (IsProgramFrom d functions) (λ status line. (name : List ℕ) × (code : ℕ) × IsRefused d functions code name × (status ≡ 6) × (line ≡ program_line name code))

-- the program that a text spells; the line for a faulty text has this name
abbrev pub program_of : List ℕ → List ℕ → Stage ProgramData
program_of name text = and_then (draft name text) (λ d. and_then (valids d) (program d))

abbrev pub program_file : Option (List NamedFile) → List ℕ → Stage ProgramData
program_file files name = and_then (file files name program_limit) (program_of name)

-- ---- sources

-- the rows of a source's bytes
abbrev pub rows : ℕ → Op → List ℕ → Stage Bag
rows fields source bytes = plain (CsvRows fields source.columns bytes)
    (λ status line. (row column why : ℕ) × HasBadRow fields source.columns bytes row column why × (status ≡ 7) × (line ≡ source_line source.name row column why))

abbrev pub source_file : ℕ → Option (List NamedFile) → Op → Stage Bag
source_file fields files source = and_then (file files source.file source_limit) (rows fields source)

-- the rows of each source, in text order
abbrev pub sources : ProgramData → Option (List NamedFile) → Stage (List Bag)
sources p files = each (source_file p.fields files) (sources_of p.ops)

-- ---- a source by its name

-- the number of the source of this name; if no source has it, that is reported before any source's file is opened
abbrev pub source_named : ProgramData → List ℕ → Stage ℕ
source_named p name = plain (IsSourceNamed p.ops name) (λ status line. LacksSource p.ops name × (status ≡ 6) × (line ≡ unnamed_line name))

-- ---- a program and the rows of its sources

abbrev pub loaded : Option (List NamedFile) → List ℕ → Stage Loaded
loaded files name = and_then (program_file files name) (λ p. and_then (sources p files) (λ inputs. give (λ all. all ≡ record { program = p; inputs = inputs })))
