-- What commands do with the text of a program, stage after stage.
use Rattle.std.specs.Prelude.{◌≡◌, ℕ, List, Option}
use Rattle.pact_operators.specs.Programs.{ProgramData}
use Rattle.pact_outside.specs.declared.files.NamedFile.{NamedFile}
use Rattle.plan_trees.specs.Plans.{PlanTree}
use Rattle.pact_load.specs.Loading.{file, program_limit, program_of, source_named, sources}
use Rattle.pact_load.specs.Stages.{Stage, and_then, give}
use Rattle.pact_load.specs.declared.loaded.Loaded.{Loaded}
use Rattle.explain_report.specs.Certificates.{followed}

-- the rows of a program's sources
abbrev pub with_rows : Option (List NamedFile) → ProgramData → Stage Loaded
with_rows files p = and_then (sources p files) (λ inputs. give (λ all. all ≡ record { program = p; inputs = inputs }))

-- the rows of its sources if one of them has that name
abbrev pub with_source : Option (List NamedFile) → List ℕ → ProgramData → Stage Loaded
with_source files source p = and_then (source_named p source) (λ at. with_rows files p)

-- the plan that the certificate in a file leads to
abbrev pub with_certificate : Option (List NamedFile) → List ℕ → ProgramData → Stage PlanTree
with_certificate files other p = and_then (file files other program_limit) (followed p)

-- ---- from the text of a program

abbrev pub loaded_of : Option (List NamedFile) → (name text : List ℕ) → Stage Loaded
loaded_of files name text = and_then (program_of name text) (with_rows files)

abbrev pub repeated_of : Option (List NamedFile) → (name source text : List ℕ) → Stage Loaded
repeated_of files name source text = and_then (program_of name text) (with_source files source)

abbrev pub checked_of : Option (List NamedFile) → (name other text : List ℕ) → Stage PlanTree
checked_of files name other text = and_then (program_of name text) (with_certificate files other)
