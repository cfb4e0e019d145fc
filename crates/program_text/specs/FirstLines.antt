-- The two lines that a program begins with: their words, and the faults of other words.
use Rattle.std.specs.Prelude.{◌≤◌, ◌==◌, ◌||◌, ℕ, if◌then◌else◌, Option, Some, None, List, [], ◌∷◌, codes}
use Rattle.text_lines.specs.Digits.{told_unless}
use Rattle.text_lines.specs.declared.line_words.LineWord.{LineWord}
use Rattle.text_lines.specs.declared.line_words.LineWord.TheVariants.{Plain as plain_word}
use Rattle.tac_syntax.specs.Versions.{field_limit}
use Rattle.program_text.specs.DeclarationWords.{plain_words, number_word}
use Rattle.text_lines.specs.LineGrammar.{is_plain}
use Rattle.text_lines.specs.Slots.{first_fault, number}

-- ---- the version

abbrev pub version_words : ℕ → List LineWord
version_words version = plain_word (codes "pact") ∷ number_word version ∷ []

-- `version_words` for the two versions, by their digits
abbrev pub said_version : ℕ → List LineWord
said_version version = plain_words (codes "pact" ∷ (if version == 2 then codes "2" else codes "1") ∷ [])

-- no fault for a single word that is one of the two versions
abbrev pub one_fault : List LineWord → Option ℕ
one_fault [] = Some 12
one_fault (word ∷ []) = told_unless (is_plain (codes "1") word || is_plain (codes "2") word) 12
one_fault (word ∷ other ∷ words) = Some 12

-- Any other words aren't a first line.
abbrev pub version_fault : List LineWord → Option ℕ
version_fault [] = None
version_fault (word ∷ words) = if is_plain (codes "pact") word then one_fault words else Some 12

-- ---- the number of fields

-- the numbers of fields that records of a program of the version can have
abbrev pub IsFieldCount : ℕ → ℕ → Type 0
IsFieldCount version count = (1 ≤ count) × (count ≤ field_limit version)

abbrev pub field_count_words : ℕ → List LineWord
field_count_words count = plain_word (codes "fields") ∷ number_word count ∷ []

-- A line with another first word isn't a second line.
abbrev pub fields_fault : ℕ → List LineWord → Option ℕ
fields_fault version [] = None
fields_fault version (word ∷ words) = if is_plain (codes "fields") word then first_fault (number 1 (field_limit version) ∷ []) words else Some 12
