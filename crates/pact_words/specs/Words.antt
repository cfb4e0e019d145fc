-- The command that the words of the command line ask for.
use Rattle.std.specs.Prelude.{◌≡◌, ◌≢◌, ◌⊎◌, ◌≤◌, ℕ, Bool, List, [], ◌∷◌, map, option_map, Option, Some, None, Result, Ok, Err, cond, codes}
use Rattle.std.specs.Borrow.{Bor}
use Rattle.std.specs.Str.{bytes_eq}
use Rattle.clap.specs.Words.{Row, fault_of, first_of, matches_of}
use Rattle.pact_words.specs.declared.commands.Command.{Command}
use Rattle.pact_words.specs.declared.commands.Command.TheVariants as commands
use Rattle.pact_words.specs.declared.commands.LocalStrategy.{LocalStrategy}
use Rattle.pact_words.specs.declared.commands.Options.{Options}
use Rattle.pact_words.specs.declared.commands.Kind.{Kind}
use Rattle.pact_words.specs.declared.commands.Kind.TheVariants.{Run, Plan, Cert, Check, Sets, Gen, Drill, Iterate}
use Rattle.pact_words.specs.declared.commands.Refused.{Refused}
use Rattle.pact_words.specs.declared.commands.Refused.TheVariants.{Usage, OutOfMemory}
use Rattle.pact_words.specs.declared.commands.Rewrites.{Rewrites}
use Rattle.pact_words.specs.Definitions.{app_for}
use Rattle.pact_words.specs.FoundValues.{all_five, all_four, all_three, all_two, flag_of, local_of, number_of}
use Rattle.pact_words.specs.Limits.{round_limit, row_limit, seed_limit}

-- the texts that words point to
abbrev pub texts_of : List (Bor (List ℕ)) → List (List ℕ)
texts_of words = map (λ word. word.now) words

-- ---- commands

-- a command, with its operands and options
pub data Asked : Type 0 where
  -- `run PROGRAM`
  to_run : (program : List ℕ) → (options : Options) → (rewrites : Rewrites) → (counts : Bool) → Asked
  -- `plan PROGRAM`
  to_plan : (program : List ℕ) → (workers plans : ℕ) → Asked
  -- `cert PROGRAM`
  to_certify : (program : List ℕ) → (workers plans : ℕ) → Asked
  -- `check PROGRAM CERT`
  to_check : (program certificate : List ℕ) → Asked
  -- `sets PROGRAM`
  to_tell_sets : (program : List ℕ) → Asked
  -- `gen SEED ROWS`
  to_generate : (seed rows : ℕ) → Asked
  -- `drill SEED ROWS`
  to_drill : (seed rows : ℕ) → (options : Options) → (rewrites : Rewrites) → Asked
  -- `iterate PROGRAM SOURCE ROUNDS`
  to_iterate : (program source : List ℕ) → (rounds : ℕ) → (options : Options) → (stable : Bool) → Asked

-- a command as data
abbrev pub asked : Command → Asked
asked (commands.Run program options rewrites counts) = to_run program.now options rewrites counts
asked (commands.Plan program workers plans) = to_plan program.now workers plans
asked (commands.Cert program workers plans) = to_certify program.now workers plans
asked (commands.Check program certificate) = to_check program.now certificate.now
asked (commands.Sets program) = to_tell_sets program.now
asked (commands.Gen seed rows) = to_generate seed rows
asked (commands.Drill seed rows options rewrites) = to_drill seed rows options rewrites
asked (commands.Iterate program source rounds options stable) = to_iterate program.now source.now rounds options stable

-- the ranges of workers and plans
pub record AreInRange (workers plans : ℕ) : Type 0 where
  pub least_workers : 1 ≤ workers
  pub most_workers : workers ≤ 16
  pub least_plans : 1 ≤ plans
  pub most_plans : plans ≤ 1000

-- these ranges, and those of batches and pipes
pub record AreOptionsInRange (o : Options) : Type 0 where
  pub limits : AreInRange o.workers o.plans
  pub least_batch : 1 ≤ o.batch
  pub most_batch : o.batch ≤ 1024
  pub least_depth : 1 ≤ o.depth
  pub most_depth : o.depth ≤ 64

-- the ranges of seed and rows
pub record AreOperandsInRange (seed rows : ℕ) : Type 0 where
  pub most_seed : seed ≤ seed_limit
  pub most_rows : rows ≤ row_limit

-- the ranges of rounds and options
pub record AreRoundsInRange (rounds : ℕ) (o : Options) : Type 0 where
  pub least_rounds : 1 ≤ rounds
  pub most_rounds : rounds ≤ round_limit
  pub options : AreOptionsInRange o

-- the command's numbers are in their ranges
abbrev pub IsInRange : Asked → Type 0
IsInRange (to_run program options rewrites counts) = AreOptionsInRange options
IsInRange (to_plan program workers plans) = AreInRange workers plans
IsInRange (to_certify program workers plans) = AreInRange workers plans
IsInRange (to_check program certificate) = Unit {0}
IsInRange (to_tell_sets program) = Unit {0}
IsInRange (to_generate seed rows) = AreOperandsInRange seed rows
IsInRange (to_drill seed rows options rewrites) = AreOperandsInRange seed rows × AreOptionsInRange options
IsInRange (to_iterate program source rounds options stable) = AreRoundsInRange rounds options

-- ---- words

-- the word of a command
abbrev pub name_of : Kind → List ℕ
name_of Run = codes "run"
name_of Plan = codes "plan"
name_of Cert = codes "cert"
name_of Check = codes "check"
name_of Sets = codes "sets"
name_of Gen = codes "gen"
name_of Drill = codes "drill"
name_of Iterate = codes "iterate"

-- this command if the word is its name, and `other` if not
abbrev pub named : List ℕ → Kind → Option Kind → Option Kind
named word kind other = cond (bytes_eq word (name_of kind)) (Some kind) other

-- the command with this name
abbrev pub kind_named : List ℕ → Option Kind
kind_named word =
    named word Run (named word Plan (named word Cert (named word Check
    (named word Sets (named word Gen (named word Drill (named word Iterate None)))))))

-- the command that the first word names
abbrev pub kind_in : List (List ℕ) → Option Kind
kind_in [] = None
kind_in (word ∷ words) = kind_named word

-- options as one record
abbrev pub options_from : (workers plans batch depth : ℕ) (local : LocalStrategy) → Options
options_from workers plans batch depth local = record { workers = workers; plans = plans; batch = batch; depth = depth; local = local }

-- the two flags as one record
abbrev pub rewrites_from : (combine prune : Bool) → Rewrites
rewrites_from combine prune = record { combine = combine; prune = prune }

-- the options of each command that runs plans, if clap found all of them
abbrev pub options_of : List Row → Option Options
options_of rows =
    all_five options_from (number_of (codes "workers") rows) (number_of (codes "plans") rows) (number_of (codes "batch") rows)
    (number_of (codes "depth") rows) (local_of (codes "local") rows)

-- whether groups are combined and fields dropped, if clap found both flags
abbrev pub rewrites_of : List Row → Option Rewrites
rewrites_of rows = all_two rewrites_from (flag_of (codes "combine") rows) (flag_of (codes "prune") rows)

-- there is no word, or the first isn't a command
abbrev pub AreUnnamed : List (List ℕ) → Type 0
AreUnnamed words = kind_in words ≡ None

-- the command that the values in clap's result give
abbrev pub asked_of : Kind → List Row → Option Asked
asked_of Run rows = all_four to_run (first_of (codes "program") rows) (options_of rows) (rewrites_of rows) (flag_of (codes "counts") rows)
asked_of Plan rows = all_three to_plan (first_of (codes "program") rows) (number_of (codes "workers") rows) (number_of (codes "plans") rows)
asked_of Cert rows = all_three to_certify (first_of (codes "program") rows) (number_of (codes "workers") rows) (number_of (codes "plans") rows)
asked_of Check rows = all_two to_check (first_of (codes "program") rows) (first_of (codes "certificate") rows)
asked_of Sets rows = option_map to_tell_sets (first_of (codes "program") rows)
asked_of Gen rows = all_two to_generate (number_of (codes "seed") rows) (number_of (codes "rows") rows)
asked_of Drill rows = all_four to_drill (number_of (codes "seed") rows) (number_of (codes "rows") rows) (options_of rows) (rewrites_of rows)
asked_of Iterate rows =
    all_five to_iterate (first_of (codes "program") rows) (first_of (codes "source") rows) (number_of (codes "rounds") rows) (options_of rows)
    (flag_of (codes "stable") rows)

-- The first word is a command, clap takes the words by that command's definition, and these are the values that it
-- finds. Clap takes the first word as the name under which the program was called, and the others as its arguments.
pub record IsAsked (words : List (List ℕ)) (command : Asked) : Type 0 where
  pub kind : Kind
  pub named : kind_in words ≡ Some kind
  pub taken : fault_of (app_for kind) words ≡ []
  pub values : asked_of kind (matches_of (app_for kind) words) ≡ Some command

-- the word of `--local` is neither `hash` nor `sort`
abbrev pub NamesNoStrategy : Kind → List Row → Type 0
NamesNoStrategy Run rows = local_of (codes "local") rows ≡ None
NamesNoStrategy Drill rows = local_of (codes "local") rows ≡ None
NamesNoStrategy Iterate rows = local_of (codes "local") rows ≡ None
NamesNoStrategy _ rows = ⊥

-- the first word isn't a command, clap refuses the words by that command's definition, or `--local` names no strategy
abbrev pub AreRefusedBy : Option Kind → List (List ℕ) → Type 0
AreRefusedBy None words = Unit {0}
AreRefusedBy (Some kind) words = (fault_of (app_for kind) words ≢ []) ⊎ NamesNoStrategy kind (matches_of (app_for kind) words)

-- there is no word, the first isn't a command, clap refuses the words by that command's definition, or `--local` names
-- no strategy
abbrev pub AreRefused : List (List ℕ) → Type 0
AreRefused words = AreRefusedBy (kind_in words) words

-- The result is the command that the words ask for, or says that they are refused. Out of memory says nothing about the
-- words.
abbrev pub Answers : List (List ℕ) → Result Command Refused → Type 0
Answers words (Ok command) = IsAsked words (asked command)
Answers words (Err Usage) = AreRefused words
Answers words (Err OutOfMemory) = Unit {0}
