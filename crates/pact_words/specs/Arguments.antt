-- The arguments of commands, each as the rule that clap applies to it.
use Rattle.std.specs.Prelude.{◌∷◌, [], ℤ, pos, true, Some, codes}
use Rattle.clap.specs.Words.{Rule, Text, new_rule}
use Rattle.clap.specs.declared.builder.action.ArgAction.TheVariants.{SetTrue}
use Rattle.clap.specs.declared.builder.value_parser.ValueParser.TheVariants.{Signed}
use Rattle.pact_words.specs.Limits.{round_limit, row_limit, seed_limit}

-- ---- the kinds of argument

-- a required word
abbrev pub operand_rule : Text → Rule
operand_rule name = record (new_rule name) { required = true }

-- a required number from `least` to `most`
abbrev pub number_operand_rule : Text → ℤ → ℤ → Rule
number_operand_rule name least most = record (new_rule name) { required = true; parser = Some (Signed least most) }

-- an option with a number from `least` to `most`; its default is `usual`
abbrev pub number_rule : Text → ℤ → ℤ → Text → Rule
number_rule name least most usual = record (new_rule name) { long = Some name; defaults = usual ∷ []; parser = Some (Signed least most) }

-- An option with a word; its default is `usual`. Clap takes any word, and the reader of its value decides which words
-- are right. A list of possible values in clap's rules would have the addresses of its texts, which no definition can
-- name.
abbrev pub word_rule : Text → Text → Rule
word_rule name usual = record (new_rule name) { long = Some name; defaults = usual ∷ [] }

-- an option without a value
abbrev pub flag_rule : Text → Rule
flag_rule name = record (new_rule name) { long = Some name; action = Some SetTrue }

-- ---- the arguments

-- `PROGRAM`
abbrev pub program_rule : Rule
program_rule = operand_rule (codes "program")

-- `CERT`
abbrev pub certificate_rule : Rule
certificate_rule = operand_rule (codes "certificate")

-- `SEED`
abbrev pub seed_rule : Rule
seed_rule = number_operand_rule (codes "seed") (pos 0) (pos seed_limit)

-- `ROWS`
abbrev pub rows_rule : Rule
rows_rule = number_operand_rule (codes "rows") (pos 0) (pos row_limit)

-- `SOURCE`
abbrev pub source_rule : Rule
source_rule = operand_rule (codes "source")

-- `ROUNDS`
abbrev pub rounds_rule : Rule
rounds_rule = number_operand_rule (codes "rounds") (pos 1) (pos round_limit)

-- `--workers`
abbrev pub workers_rule : Rule
workers_rule = number_rule (codes "workers") (pos 1) (pos 16) (codes "4")

-- `--plans`
abbrev pub plans_rule : Rule
plans_rule = number_rule (codes "plans") (pos 1) (pos 1000) (codes "256")

-- `--batch`
abbrev pub batch_rule : Rule
batch_rule = number_rule (codes "batch") (pos 1) (pos 1024) (codes "64")

-- `--depth`
abbrev pub depth_rule : Rule
depth_rule = number_rule (codes "depth") (pos 1) (pos 64) (codes "4")

-- `--local`
abbrev pub local_rule : Rule
local_rule = word_rule (codes "local") (codes "hash")

-- `--combine`
abbrev pub combine_rule : Rule
combine_rule = flag_rule (codes "combine")

-- `--prune`
abbrev pub prune_rule : Rule
prune_rule = flag_rule (codes "prune")

-- `--counts`
abbrev pub counts_rule : Rule
counts_rule = flag_rule (codes "counts")

-- `--stable`
abbrev pub stable_rule : Rule
stable_rule = flag_rule (codes "stable")
