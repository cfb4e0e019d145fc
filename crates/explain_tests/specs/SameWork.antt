-- What `explain` does with the files of a command, compared with what `pact` does with them until a text is made.
use Rattle.std.specs.Prelude.{ℕ, Bool, List, Option}
use Rattle.pact_outside.specs.declared.files.NamedFile.{NamedFile}
use Rattle.pact_words.specs.Words.{to_run, to_plan, to_certify, to_tell_sets, to_check, to_iterate}
use Rattle.pact_words.specs.declared.commands.Options.{Options}
use Rattle.pact_words.specs.declared.commands.Rewrites.{Rewrites}
use Rattle.pact_load.specs.Loading.{loaded, program_file}
use Rattle.pact_load.specs.Stages.{End, Reading, Stage, and_then, fails, gives, misses, stops}
use Rattle.pact_top.specs.Work.{ready_for}
use Rattle.explain_report.specs.TextStages.{with_certificate, with_source}

-- After these files the stage can have the same end; of a value, only that there is one.
abbrev pub HasEndOf : {A B : Type 0} → Stage B → List Reading → End A → Type 0
HasEndOf {A} {B} t rs (gives a) = (b : B) × t.Ends rs (gives b)
HasEndOf t rs (stops status line) = t.Ends rs (stops status line)
HasEndOf t rs (misses name) = t.Ends rs (misses name)
HasEndOf t rs (fails name) = t.Ends rs (fails name)

-- each end of the first stage is one of the second
abbrev pub EndsAs : {A B : Type 0} → Stage A → Stage B → Type 0
EndsAs {A} s t = (rs : List Reading) (e : End A) → s.Ends rs e → HasEndOf t rs e

-- Both stages read the same files and are refused alike.
pub record EndAlike {A B : Type 0} (s : Stage A) (t : Stage B) : Type 0 where
  pub from : EndsAs s t
  pub to : EndsAs t s

-- The stages by which an explanation is foretold are those of `pact`, for each command that reads a program.
pub record IsSameWork (files : Option (List NamedFile)) : Type 0 where
  pub run : (name : List ℕ) (options : Options) (rewrites : Rewrites) (counts : Bool) → EndAlike (loaded files name) (ready_for files (to_run name options rewrites counts))
  pub plan : (name : List ℕ) (workers plans : ℕ) → EndAlike (loaded files name) (ready_for files (to_plan name workers plans))
  pub cert : (name : List ℕ) (workers plans : ℕ) → EndAlike (loaded files name) (ready_for files (to_certify name workers plans))
  pub sets : (name : List ℕ) → EndAlike (program_file files name) (ready_for files (to_tell_sets name))
  pub check : (name other : List ℕ) → EndAlike (and_then (program_file files name) (with_certificate files other)) (ready_for files (to_check name other))
  pub iterate : (name source : List ℕ) (rounds : ℕ) (options : Options) (stable : Bool)
      → EndAlike (and_then (program_file files name) (with_source files source)) (ready_for files (to_iterate name source rounds options stable))
