-- A program and its rows, given what the parts of loading promise.
use Rattle.std.proofs.Common.{◌≡◌, ℕ, List, Option, Ok, Err, refl, sym, subst}
use Rattle.pact_operators.specs.Allowed.{Bag}
use Rattle.pact_operators.specs.Inputs.{AreInputsOf}
use Rattle.pact_operators.specs.Programs.{AreNames, ProgramData}
use Rattle.pact_outside.specs.declared.files.NamedFile.{NamedFile}
use Rattle.pact_outside.specs.Outside.{Feeding}
use Rattle.pact_load.specs.declared.loaded.Loaded.{Loaded}
use Rattle.pact_load.specs.declared.refusals.Refusal.{Refusal}
use Rattle.pact_load.specs.Answers.{Comes}
use Rattle.pact_load.specs.Stages.{Reading, and_then, give, gives}
use Rattle.pact_load.specs.Loading.{loaded, program_file, sources}
use Rattle.pact_load.proofs.AnswersOfStages.{comes_decided, comes_err, comes_then}
use Rattle.pact_load.proofs.DecidedLoading.{file-AreNames}
use Rattle.pact_load.proofs.Sources.{are_inputs}
use Rattle.pact_load.proofs.StageLaws.{gave_then}

pub load_program : {before now : Feeding} (name : List ℕ) (r : Refusal) → Comes (λ f. program_file f name) before now (Err r) → Comes (λ f. loaded f name) before now (Err r)
load_program name r h = comes_err (λ f p. and_then (sources p f) (λ inputs. give (λ all. all ≡ record { program = p; inputs = inputs }))) r h

pub load_inputs : {before mid now : Feeding} (name : List ℕ) (p : ProgramData) (r : Refusal) → Comes (λ f. program_file f name) before mid (Ok p)
    → Comes (sources p) mid now (Err r) → Comes (λ f. loaded f name) before now (Err r)
load_inputs name p r h g =
    comes_then (λ f q. and_then (sources q f) (λ inputs. give (λ all. all ≡ record { program = q; inputs = inputs }))) p (Err r) h (comes_err (λ f inputs. give (λ all. all ≡ record { program = p; inputs = inputs })) r g)

pub load_both : {before mid now : Feeding} (name : List ℕ) (p : ProgramData) (inputs : List Bag) → Comes (λ f. program_file f name) before mid (Ok p) → Comes (sources p) mid now (Ok inputs)
    → Comes (λ f. loaded f name) before now (Ok (record { program = p; inputs = inputs }))
load_both name p inputs h g =
    let l : Loaded = record { program = p; inputs = inputs } in
    comes_then (λ f q. and_then (sources q f) (λ read. give (λ all. all ≡ record { program = q; inputs = read }))) p (Ok l) h
    (comes_decided {s = sources p} (λ read. give (λ all. all ≡ record { program = p; inputs = read })) inputs (Ok l) g (refl, refl))

-- the rows are those of the program's sources, and the names are those of its declarations
pub record IsLoaded (l : Loaded) : Type 0 where
  pub inputs : AreInputsOf l.program l.inputs
  pub names : AreNames l.program.ops

loaded_is : (files : Option (List NamedFile)) (name : List ℕ) (l : Loaded) (r : List Reading) → (loaded files name).Ends r (gives l) → IsLoaded l
loaded_is files name l r h =
    let made = gave_then (program_file files name) (λ p. and_then (sources p files) (λ inputs. give (λ all. all ≡ record { program = p; inputs = inputs }))) r l h in
    let p = made.value in
    let read = gave_then (sources p files) (λ inputs. give (λ all. all ≡ record { program = p; inputs = inputs })) made.later l made.next in
    subst IsLoaded (sym read.next.1) (record { inputs = are_inputs p files read.value read.front read.first; names = file-AreNames files name p made.front made.first })

pub is_loaded : {before now : Feeding} (name : List ℕ) (l : Loaded) → Comes (λ f. loaded f name) before now (Ok l) → IsLoaded l
is_loaded {before} name l h = loaded_is before.files name l h.told.readings h.told.ends
