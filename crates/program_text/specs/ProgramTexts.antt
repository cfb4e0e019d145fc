-- The text of a program, what is wrong with any other text, and what can be written.
use Rattle.std.specs.Prelude.{◌≡◌, ◌≤◌, ℕ, Option, Some, None, List, [], ◌∷◌, ◌++◌, flat_map, slice_get, codes, bytes_eq, if◌then◌else◌}
use Rattle.std.specs.List.{AllByRecursion}
use Rattle.tac_syntax.specs.declared.declarations.Decl.{Decl}
use Rattle.tac_syntax.specs.declared.declarations.Decl.TheVariants.{Source, Function as FunctionDecl, Op, Sink}
use Rattle.tac_syntax.specs.Drafts.{DraftData, IsSpelledDraft}
use Rattle.tac_syntax.specs.declared.functions.Function.{Function}
use Rattle.tac_syntax.specs.Code.{nesting}
use Rattle.tac_syntax.specs.Limits.{nesting_limit}
use Rattle.tac_text.specs.FunctionFaults.{header_fault}
use Rattle.tac_text.specs.FunctionLines.{SpellsFunction}
use Rattle.tac_text.specs.FunctionSpelling.{function_spelling}
use Rattle.tac_text.specs.StatementFaults.{statement_fault}
use Rattle.tac_text.specs.StatementLines.{LinePlace}
use Rattle.text_lines.specs.declared.line_words.LineWord.{LineWord}
use Rattle.text_lines.specs.declared.line_words.LineWord.TheVariants.{Plain as plain_word, Literal as literal_word}
use Rattle.text_lines.specs.CanonicalLines.{line_spelling}
use Rattle.text_lines.specs.TextLines.{Say}
use Rattle.program_text.specs.DeclarationFaults.{declaration_fault}
use Rattle.program_text.specs.DeclarationWords.{words_of_decl}
use Rattle.program_text.specs.FirstLines.{version_words, field_count_words, version_fault, fields_fault}
use Rattle.tac_syntax.specs.Declarations.{IsSpelledDecl}
use Rattle.tac_syntax.specs.Functions.{IsSpelledFunction}

-- ---- the grammar

-- The words of declarations, one after another. Those of a function are its text; those of any other declaration are
-- one line.
abbrev pub SpellsDecls : List Function → List Decl → List (List LineWord) → Type 0
SpellsDecls functions [] said = (said ≡ []) × (functions ≡ [])
SpellsDecls functions (Source name file columns ∷ decls) said =
    (rest : List (List LineWord)) × (said ≡ words_of_decl (Source name file columns) ∷ rest) × SpellsDecls functions decls rest
SpellsDecls [] (FunctionDecl number ∷ decls) said = ⊥
SpellsDecls (f ∷ functions) (FunctionDecl number ∷ decls) said =
    (first rest : List (List LineWord)) × (said ≡ first ++ rest) × SpellsFunction f first × SpellsDecls functions decls rest
SpellsDecls functions (Op name kind function left right left_keys right_keys ∷ decls) said =
    (rest : List (List LineWord)) × (said ≡ words_of_decl (Op name kind function left right left_keys right_keys) ∷ rest) × SpellsDecls functions decls rest
SpellsDecls functions (Sink input fields ∷ decls) said =
    (rest : List (List LineWord)) × (said ≡ words_of_decl (Sink input fields) ∷ rest) × SpellsDecls functions decls rest

-- the version, the number of fields, and the declarations
abbrev pub SpellsProgram : DraftData → List (List LineWord) → Type 0
SpellsProgram d said = (decls : List (List LineWord)) × (said ≡ version_words d.version ∷ field_count_words d.fields ∷ decls) × SpellsDecls d.functions d.decls decls

-- Some text spells the program.
pub record IsWritableDraft (d : DraftData) : Type 0 where
  pub spelled : IsSpelledDraft d
  pub nested : AllByRecursion (λ f. nesting f.body ≤ nesting_limit) d.functions

-- These lines are the program's text. Lines without words may be anywhere.
pub record ProgramText (d : DraftData) (text : List (List ℕ)) : Type 0 where
  pub said : List (List LineWord)
  pub says : Say text said
  pub spelled : SpellsProgram d said
  pub writable : IsWritableDraft d

-- the text of some program
abbrev pub IsProgramText : List (List ℕ) → Type 0
IsProgramText lines = (d : DraftData) × ProgramText d lines

-- ---- faults

-- The place of a line: it is the first or second line with words, it declares something, or it is inside a function.
-- The second line and declarations depend on the program's version.
pub data ProgramPlace : Type 0 where
  version_due : ProgramPlace
  fields_due : (version : ℕ) → ProgramPlace
  between : (version : ℕ) → ProgramPlace
  in_function : (place : LinePlace) → ProgramPlace

-- a line that declares something, or begins a function
abbrev pub between_fault : ℕ → List LineWord → Option ℕ
between_fault version [] = None
between_fault version (plain_word word ∷ words) = if bytes_eq word (codes "function") then header_fault (plain_word word ∷ words) else declaration_fault version (plain_word word ∷ words)
between_fault version (literal_word bytes ∷ words) = declaration_fault version (literal_word bytes ∷ words)

abbrev pub program_fault : ProgramPlace → List LineWord → Option ℕ
program_fault version_due words = version_fault words
program_fault (fields_due version) words = fields_fault version words
program_fault (between version) words = between_fault version words
program_fault (in_function place) words = statement_fault place words

-- the fault reported if the text ends here
abbrev pub program_missing : ProgramPlace → Option ℕ
program_missing version_due = Some 12
program_missing (fields_due version) = Some 12
program_missing (between version) = None
program_missing (in_function place) = Some 10

-- ---- the canonical spelling

abbrev pub function_text : Option Function → List ℕ
function_text None = []
function_text (Some f) = function_spelling f

abbrev pub decl_spelling : List Function → Decl → List ℕ
decl_spelling functions (FunctionDecl number) = function_text (slice_get functions number)
decl_spelling functions decl = line_spelling 0 (words_of_decl decl)

-- in the order of the declarations
abbrev pub program_spelling : DraftData → List ℕ
program_spelling d = line_spelling 0 (version_words d.version) ++ (line_spelling 0 (field_count_words d.fields) ++ flat_map (decl_spelling d.functions) d.decls)

-- ---- what can be written

-- a declaration that a text of the version can spell, or that of one of these functions
abbrev pub CanWrite : ℕ → List Function → Decl → Type 0
CanWrite version functions (FunctionDecl number) = (f : Function) × (slice_get functions number ≡ Some f) × IsSpelledFunction f
CanWrite version functions decl = IsSpelledDecl version decl
