-- The commands as clap sees them.
use Rattle.std.specs.Prelude.{codes}
use Rattle.clap.specs.Words.{App, Text, new_app, with_rule}
use Rattle.pact_words.specs.declared.commands.Kind.{Kind}
use Rattle.pact_words.specs.declared.commands.Kind.TheVariants.{Run, Plan, Cert, Check, Sets, Gen, Drill, Iterate}
use Rattle.pact_words.specs.Arguments.{batch_rule, certificate_rule, combine_rule, counts_rule, depth_rule, local_rule, plans_rule, program_rule, prune_rule, rounds_rule, rows_rule, seed_rule, source_rule, stable_rule, workers_rule}

-- a command that takes a program
abbrev pub program_app : Text → App
program_app name = with_rule (new_app name) program_rule

-- adds the number of workers, and the number of plans that are listed
abbrev pub with_limits : App → App
with_limits app = with_rule (with_rule app workers_rule) plans_rule

-- a command that chooses a plan
abbrev pub planning_app : Text → App
planning_app name = with_limits (program_app name)

-- adds the number of records of a batch, and of notes of a pipe
abbrev pub with_pipes : App → App
with_pipes app = with_rule (with_rule app batch_rule) depth_rule

-- adds the options of each command that runs plans
abbrev pub with_options : App → App
with_options app = with_rule (with_pipes (with_limits app)) local_rule

-- adds whether groups are combined and fields dropped
abbrev pub with_rewrites : App → App
with_rewrites app = with_rule (with_rule app combine_rule) prune_rule

-- adds the source that gets the rows of the round before, and the number of rounds
abbrev pub with_rounds : App → App
with_rounds app = with_rule (with_rule app source_rule) rounds_rule

-- a command that generates rows
abbrev pub generating_app : Text → App
generating_app name = with_rule (with_rule (new_app name) seed_rule) rows_rule

-- `run PROGRAM`
abbrev pub run_app : App
run_app = with_rule (with_rewrites (with_options (program_app (codes "run")))) counts_rule

-- `check PROGRAM CERT`
abbrev pub check_app : App
check_app = with_rule (program_app (codes "check")) certificate_rule

-- `sets PROGRAM`
abbrev pub sets_app : App
sets_app = program_app (codes "sets")

-- `drill SEED ROWS`
abbrev pub drill_app : App
drill_app = with_rewrites (with_options (generating_app (codes "drill")))

-- `iterate PROGRAM SOURCE ROUNDS`
abbrev pub iterate_app : App
iterate_app = with_rule (with_options (with_rounds (program_app (codes "iterate")))) stable_rule

abbrev pub app_for : Kind → App
app_for Run = run_app
app_for Plan = planning_app (codes "plan")
app_for Cert = planning_app (codes "cert")
app_for Check = check_app
app_for Sets = sets_app
app_for Gen = generating_app (codes "gen")
app_for Drill = drill_app
app_for Iterate = iterate_app
