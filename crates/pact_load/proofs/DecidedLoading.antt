-- If the files are modelled, each stage of loading is decided, and gives only one value.
use Rattle.std.proofs.Common.{◌≡◌, ◌≤◌, ◌<◌, ℕ, List, [], ◌∷◌, length, map, Option, Some, None, refl, ap, subst, sym, ◌∙◌, arith}
use Rattle.std.specs.List.{AllByRecursion}
use Rattle.csv_source.specs.CsvRows.{records_of}
use Rattle.csv_source.proofs.RowParts.{rows_or_bad_row}
use Rattle.pact_outside.specs.declared.files.NamedFile.{NamedFile}
use Rattle.pact_outside.specs.Outside.{file_named}
use Rattle.pact_operators.specs.declared.operators.Op.{Op}
use Rattle.pact_operators.specs.PlanOps.{sources_of}
use Rattle.tac_syntax.specs.Drafts.{DraftData}
use Rattle.program_check.specs.declared.program_rules.ProgramRule.TheVariants.{DeclaredTwice}
use Rattle.pact_operators.specs.Programs.{AreNames, AreValidated, NamesDiffer, ProgramData}
use Rattle.program_text.proofs.ReadLoop.{faulty_is_none, same_draft}
use Rattle.tac_syntax.specs.declared.functions.Function.{Function}
use Rattle.tac_syntax.specs.Valid.{IsValid, WithFields}
use Rattle.tac_validate.proofs.Refusals.{refusal_excludes_validity}
use Rattle.text_lines.specs.TextLines.{lines_of}
use Rattle.pact_load.specs.Answers.{AreTold}
use Rattle.pact_load.specs.Stages.{End, gives, stops, misses, fails, Reading, each}
use Rattle.pact_load.specs.Loading.{FileEnds, draft, file, loaded, program, program_file, program_limit, program_of, rows, source_file, source_named, sources, valid, valids}
use Rattle.program_check.proofs.DifferentNames.{kept-NamesDiffer, spelled-AreNames}
use Rattle.pact_operators.proofs.OneProgram.{one_program}
use Rattle.program_check.proofs.RefusedOrKept.{refused_not_kept}
use Rattle.pact_load.proofs.MadePrograms.{program_made, text_made}
use Rattle.pact_load.proofs.StageLaws.{AreAlike, GivesOne, IsDecided, agree_then, decided_then, each_decided, each_one, gave_cons, give_agrees, one_then, plain_decided}

-- ---- files

one_of : {A : Type 0} (o : Option A) (a b : A) → o ≡ Some a → o ≡ Some b → a ≡ b
one_of o a b h g = cc

not_both : {A : Type 0} (o : Option A) (a : A) → o ≡ Some a → o ≡ None → ⊥
not_both o a h g = cc

short_and_long : (a b : List ℕ) (limit : ℕ) → a ≡ b → length a ≤ limit → limit < length b → ⊥
short_and_long a b limit e l k = let m = ap length e in omega (arith, m, l, k)

file_alike : (held : List NamedFile) (name : List ℕ) (limit : ℕ) (x y : End (List ℕ)) → FileEnds (Some held) name limit x → FileEnds (Some held) name limit y → AreAlike x y
file_alike held name limit (gives a) (gives b) h g = tt
file_alike held name limit (gives a) (stops t m) h g = absurd (short_and_long a g.0 limit (one_of (file_named held name) a g.0 h.0 g.1) h.1 g.2)
file_alike held name limit (gives a) (misses m) h g = absurd (not_both (file_named held name) a h.0 g.0)
file_alike held name limit (gives a) (fails m) h g = tt
file_alike held name limit (stops s l) (gives b) h g = absurd (short_and_long b h.0 limit (one_of (file_named held name) b h.0 g.0 h.1) g.1 h.2)
file_alike held name limit (stops s l) (stops t m) h g = h.3 ∙ sym g.3
file_alike held name limit (stops s l) (misses m) h g = absurd (not_both (file_named held name) h.0 h.1 g.0)
file_alike held name limit (stops s l) (fails m) h g = tt
file_alike held name limit (misses n) (gives b) h g = absurd (not_both (file_named held name) b g.0 h.0)
file_alike held name limit (misses n) (stops t m) h g = absurd (not_both (file_named held name) g.0 g.1 h.0)
file_alike held name limit (misses n) (misses m) h g = h.1 ∙ sym g.1
file_alike held name limit (misses n) (fails m) h g = tt
file_alike held name limit (fails n) y h g = tt

pub file_decided : (files : Option (List NamedFile)) → AreTold files → (name : List ℕ) (limit : ℕ) → IsDecided (file files name limit)
file_decided None told name limit = absurd told
file_decided (Some held) told name limit = record { alike = λ x y p q h g. file_alike held name limit x y h.1 g.1 }

pub file_one : (files : Option (List NamedFile)) → AreTold files → (name : List ℕ) (limit : ℕ) → GivesOne (file files name limit)
file_one None told name limit = absurd told
file_one (Some held) told name limit = record { one = λ a b p q h g. one_of (file_named held name) a b h.1.0 g.1.0 }

-- ---- programs

draft_decided : (name text : List ℕ) → IsDecided (draft name text)
draft_decided name text = plain_decided _ _ (λ d s l h g. faulty_is_none (lines_of text) g.0 g.1 d g.2 h) (λ s t l m h g. h.3 ∙ sym g.3)

draft_one : (name text : List ℕ) → GivesOne (draft name text)
draft_one name text = record { one = λ d e p q h g. same_draft d e (lines_of text) h.1 g.1 }

valid_decided : (fields : ℕ) (f : Function) → IsDecided (valid fields f)
valid_decided fields f = plain_decided _ _ (λ v s l h g. refusal_excludes_validity f fields g.0 g.1 g.2 (subst (λ (x : Function). IsValid x fields) h.function (subst (IsValid v.function) h.fields_are h.valid)))
    (λ s t l m h g. h.3 ∙ sym g.3)

valid_one : (fields : ℕ) (f : Function) → GivesOne (valid fields f)
valid_one fields f = record { one = λ v w p q h g. same v w (h.1.function ∙ sym g.1.function) (h.1.fields_are ∙ sym g.1.fields_are) }
  where
    same : (v w : WithFields) → v.function ≡ w.function → v.fields ≡ w.fields → v ≡ w
    same v w e k = (λ i. record { function = e i; fields = k i })

-- the values given for the functions, one after the other, are all of the functions, and valid
pub are_validated : (d : DraftData) (vs : List WithFields) (p : List Reading) → (valids d).Ends p (gives vs) → AreValidated d vs
are_validated d vs p h = record { functions = functions d.fields d.functions vs p h; fields = fields_are d.fields d.functions vs p h; valid = all_valid d.fields d.functions vs p h }
  where
    functions : (fields : ℕ) (fs : List Function) (vs : List WithFields) (p : List Reading) → (each (valid fields) fs).Ends p (gives vs) → map (λ v. v.function) vs ≡ fs
    functions fields [] vs p h = rw h.1 refl
    functions fields (f ∷ fs) vs p h =
        let all = gave_cons (valid fields) f fs p vs h in
        let rest = functions fields fs all.values all.later all.others in
        ap (map (λ (v : WithFields). v.function)) all.together ∙ (λ i. all.first.1.function i ∷ rest i)

    fields_are : (fields : ℕ) (fs : List Function) (vs : List WithFields) (p : List Reading) → (each (valid fields) fs).Ends p (gives vs) → AllByRecursion (λ v. v.fields ≡ fields) vs
    fields_are fields [] vs p h = rw h.1 tt
    fields_are fields (f ∷ fs) vs p h =
        let all = gave_cons (valid fields) f fs p vs h in
        subst (AllByRecursion (λ (v : WithFields). v.fields ≡ fields)) (sym all.together) (all.first.1.fields_are, fields_are fields fs all.values all.later all.others)

    all_valid : (fields : ℕ) (fs : List Function) (vs : List WithFields) (p : List Reading) → (each (valid fields) fs).Ends p (gives vs) → AllByRecursion (λ v. IsValid v.function v.fields) vs
    all_valid fields [] vs p h = rw h.1 tt
    all_valid fields (f ∷ fs) vs p h =
        let all = gave_cons (valid fields) f fs p vs h in
        subst (AllByRecursion (λ (v : WithFields). IsValid v.function v.fields)) (sym all.together) (all.first.1.valid, all_valid fields fs all.values all.later all.others)

valids_decided : (d : DraftData) → IsDecided (valids d)
valids_decided d = each_decided (valid d.fields) (valid_decided d.fields) d.functions

valids_one : (d : DraftData) → GivesOne (valids d)
valids_one d = each_one (valid d.fields) (valid_one d.fields) d.functions

program_decided : (d : DraftData) (vs : List WithFields) → IsDecided (program d vs)
program_decided d vs = plain_decided _ _ (λ p s l h g. refused_not_kept d vs g.1 g.0 g.2 h.kept) (λ s t l m h g. h.3 ∙ sym g.3)

program_one : (d : DraftData) (vs : List WithFields) → GivesOne (program d vs)
program_one d vs = record { one = λ a b p q h g. one_program d vs a b h.1.program g.1.program }

program_of_decided : (name text : List ℕ) → IsDecided (program_of name text)
program_of_decided name text = decided_then _ (draft_one name text) (draft_decided name text) (λ d _. decided_then (program d) (valids_one d) (valids_decided d) (λ vs _. program_decided d vs))

program_of_one : (name text : List ℕ) → GivesOne (program_of name text)
program_of_one name text = one_then _ (draft_one name text) (λ d _. one_then (program d) (valids_one d) (λ vs _. program_one d vs))

pub program_file_decided : (files : Option (List NamedFile)) → AreTold files → (name : List ℕ) → IsDecided (program_file files name)
program_file_decided files told name = decided_then _ (file_one files told name program_limit) (file_decided files told name program_limit) (λ text _. program_of_decided name text)

pub program_file_one : (files : Option (List NamedFile)) → AreTold files → (name : List ℕ) → GivesOne (program_file files name)
program_file_one files told name = one_then _ (file_one files told name program_limit) (λ text _. program_of_one name text)

-- ---- sources

rows_decided : (fields : ℕ) (source : Op) (bytes : List ℕ) → IsDecided (rows fields source bytes)
rows_decided fields source bytes = plain_decided _ _ (λ r s l h g. rows_or_bad_row fields source.columns 1 (records_of bytes) r g.0 g.1 g.2 h g.3) (λ s t l m h g. h.4 ∙ sym g.4)

pub sources_decided : (files : Option (List NamedFile)) → AreTold files → (p : ProgramData) → IsDecided (sources p files)
sources_decided files told p =
    each_decided (source_file p.fields files) (λ s. decided_then _ (file_one files told s.file _) (file_decided files told s.file _) (λ bytes _. rows_decided p.fields s bytes)) (sources_of p.ops)

-- ---- a source by its name

pub source_named_decided : (p : ProgramData) (name : List ℕ) → IsDecided (source_named p name)
source_named_decided p name = plain_decided _ _ (λ at s l h g. g.0 at h) (λ s t l m h g. h.1 ∙ sym g.1)

pub source_named_one : (p : ProgramData) → NamesDiffer p.ops → (name : List ℕ) → GivesOne (source_named p name)
source_named_one p names name = record { one = λ a b q r h g. names a b h.1.source g.1.source h.1.there g.1.there (h.1.named ∙ sym g.1.named) }

-- ---- the names of a program

-- a program that was read from a text has no name twice
pub text-NamesDiffer : (name text : List ℕ) (p : ProgramData) (r : List Reading) → (program_of name text).Ends r (gives p) → NamesDiffer p.ops
text-NamesDiffer name text p r h = let m = text_made name text p r h in kept-NamesDiffer m.drafted m.functions p m.from.program (m.from.kept DeclaredTwice)

-- each of its names is one that a text can give
pub text-AreNames : (name text : List ℕ) (p : ProgramData) (r : List Reading) → (program_of name text).Ends r (gives p) → AreNames p.ops
text-AreNames name text p r h = let m = text_made name text p r h in spelled-AreNames m.drafted m.functions p m.from.program m.spelled.writable.spelled

-- a program that was read from a file has no name twice
pub file-NamesDiffer : (files : Option (List NamedFile)) (name : List ℕ) (p : ProgramData) (r : List Reading) → (program_file files name).Ends r (gives p) → NamesDiffer p.ops
file-NamesDiffer files name p r h = let m = program_made files name p r h in kept-NamesDiffer m.drafted m.functions p m.from.program (m.from.kept DeclaredTwice)

pub file-AreNames : (files : Option (List NamedFile)) (name : List ℕ) (p : ProgramData) (r : List Reading) → (program_file files name).Ends r (gives p) → AreNames p.ops
file-AreNames files name p r h = let m = program_made files name p r h in spelled-AreNames m.drafted m.functions p m.from.program m.spelled.writable.spelled

-- ---- a program and the rows of its sources

pub loaded_decided : (files : Option (List NamedFile)) → AreTold files → (name : List ℕ) → IsDecided (loaded files name)
loaded_decided files told name =
    decided_then _ (program_file_one files told name) (program_file_decided files told name) (λ p _. agree_then _ _ (sources_decided files told p) (λ a b _ _. give_agrees _ _))
