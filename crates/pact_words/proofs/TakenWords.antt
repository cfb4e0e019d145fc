-- If clap takes the words and `--local` names a strategy, the words ask for a command, with its numbers in their
-- ranges.
use Rattle.std.proofs.Common.{◌≡◌, ◌⊎◌, ◌∙◌, inl, inr, refl, ap, subst, arith, ℕ, Bool, List, [], drop, pos, Option, Some, None, option_map, codes, rules}
use Rattle.clap.specs.Walk.{Row, Rule, Text, arg_by_id, first_of}
use Rattle.clap.specs.Simple.{built, matches_of}
use Rattle.clap.specs.Faults.{fault_of}
use Rattle.clap.specs.declared.builder.value_parser.ValueParser.TheVariants as vp
use Rattle.pact_words.specs.declared.commands.Kind.{Kind}
use Rattle.pact_words.specs.declared.commands.Kind.TheVariants.{Run, Plan, Cert, Check, Sets, Gen, Drill, Iterate}
use Rattle.pact_words.specs.declared.commands.Options.{Options}
use Rattle.pact_words.specs.declared.commands.Rewrites.{Rewrites}
use Rattle.pact_words.specs.Definitions.{app_for}
use Rattle.pact_words.specs.FoundValues.{all_five, all_four, all_three, all_two, local_of, number_of}
use Rattle.pact_words.specs.Limits.{round_limit, row_limit, seed_limit}
use Rattle.pact_words.specs.Words.{AreInRange, AreOperandsInRange, AreOptionsInRange, Asked, IsInRange, NamesNoStrategy, asked_of, options_from, options_of, rewrites_from, rewrites_of, to_certify, to_check, to_drill, to_generate, to_iterate, to_plan, to_run, to_tell_sets}
use Rattle.pact_words.proofs.FittingRows.{AllKnown}
use Rattle.pact_words.proofs.GivenValues.{Holds, IsSure, held}
use Rattle.pact_words.proofs.OneAsked.{none_asked, not_both, one_of}
use Rattle.pact_words.proofs.SaidValues.{HasFlag, HasNumber, HasText, has_flag, has_number, has_text}

-- ---- the arguments of each command

known : (k : Kind) → AllKnown (built (app_for k)).top.rules (built (app_for k)).top.rules
known Run = search rules
known Plan = search rules
known Cert = search rules
known Check = search rules
known Sets = search rules
known Gen = search rules
known Drill = search rules
known Iterate = search rules

-- each argument that is required or has a default has a value
each_holds : (k : Kind) (words : List Text) → fault_of (app_for k) words ≡ [] → (id : Text) (a : Rule)
    → arg_by_id (built (app_for k)).top.rules id ≡ Some a → IsSure a → Holds (matches_of (app_for k) words) id a
each_holds Run words e = held (built (app_for Run)).top (known Run) refl refl (drop 1 words) _ _ e
each_holds Plan words e = held (built (app_for Plan)).top (known Plan) refl refl (drop 1 words) _ _ e
each_holds Cert words e = held (built (app_for Cert)).top (known Cert) refl refl (drop 1 words) _ _ e
each_holds Check words e = held (built (app_for Check)).top (known Check) refl refl (drop 1 words) _ _ e
each_holds Sets words e = held (built (app_for Sets)).top (known Sets) refl refl (drop 1 words) _ _ e
each_holds Gen words e = held (built (app_for Gen)).top (known Gen) refl refl (drop 1 words) _ _ e
each_holds Drill words e = held (built (app_for Drill)).top (known Drill) refl refl (drop 1 words) _ _ e
each_holds Iterate words e = held (built (app_for Iterate)).top (known Iterate) refl refl (drop 1 words) _ _ e

-- ---- several values

two_are : {A B C : Type 0} (f : A → B → C) (a : Option A) (b : Option B) (x : A) (y : B) → a ≡ Some x → b ≡ Some y → all_two f a b ≡ Some (f x y)
two_are f a b x y p q = rw (p, q) refl

three_are : {A B C D : Type 0} (f : A → B → C → D) (a : Option A) (b : Option B) (c : Option C) (x : A) (y : B) (z : C)
    → a ≡ Some x → b ≡ Some y → c ≡ Some z → all_three f a b c ≡ Some (f x y z)
three_are f a b c x y z p q r = rw (p, q, r) refl

four_are : {A B C D E : Type 0} (f : A → B → C → D → E) (a : Option A) (b : Option B) (c : Option C) (d : Option D) (w : A) (x : B) (y : C) (z : D)
    → a ≡ Some w → b ≡ Some x → c ≡ Some y → d ≡ Some z → all_four f a b c d ≡ Some (f w x y z)
four_are f a b c d w x y z p q r s = rw (p, q, r, s) refl

five_are : {A B C D E F : Type 0} (f : A → B → C → D → E → F) (a : Option A) (b : Option B) (c : Option C) (d : Option D) (e : Option E)
    (v : A) (w : B) (x : C) (y : D) (z : E) → a ≡ Some v → b ≡ Some w → c ≡ Some x → d ≡ Some y → e ≡ Some z
    → all_five f a b c d e ≡ Some (f v w x y z)
five_are f a b c d e v w x y z p q r s t = rw (p, q, r, s, t) refl

some_or_none : {A : Type 0} (B : Type 0) (o : Option A) → ((x : A) → o ≡ Some x → B) → B ⊎ (o ≡ None)
some_or_none B (Some x) f = inl (f x refl)
some_or_none B None f = inr refl

-- ---- the arguments

pub record HasLimits (rows : List Row) : Type 0 where
  pub workers : HasNumber (codes "workers") rows 1 16
  pub plans : HasNumber (codes "plans") rows 1 1000

has_limits : (rows : List Row) (workers plans : Rule) → workers.parser ≡ Some (vp.Signed (pos 1) (pos 16))
    → plans.parser ≡ Some (vp.Signed (pos 1) (pos 1000)) → Holds rows (codes "workers") workers → Holds rows (codes "plans") plans → HasLimits rows
has_limits rows workers plans w p h k = record {
  workers = has_number (codes "workers") rows workers 1 16 (omega arith) w h;
  plans = has_number (codes "plans") rows plans 1 1000 (omega arith) p k;
}

in_range : (rows : List Row) (h : HasLimits rows) → AreInRange h.workers.number h.plans.number
in_range rows h =
    record { least_workers = h.workers.least_of; most_workers = h.workers.most_of; least_plans = h.plans.least_of; most_plans = h.plans.most_of }

-- the options that are numbers
pub record HasOptions (rows : List Row) : Type 0 where
  pub limits : HasLimits rows
  pub batch : HasNumber (codes "batch") rows 1 1024
  pub depth : HasNumber (codes "depth") rows 1 64

has_options : (rows : List Row) (workers plans batch depth : Rule) → workers.parser ≡ Some (vp.Signed (pos 1) (pos 16))
    → plans.parser ≡ Some (vp.Signed (pos 1) (pos 1000)) → batch.parser ≡ Some (vp.Signed (pos 1) (pos 1024))
    → depth.parser ≡ Some (vp.Signed (pos 1) (pos 64)) → Holds rows (codes "workers") workers → Holds rows (codes "plans") plans
    → Holds rows (codes "batch") batch → Holds rows (codes "depth") depth → HasOptions rows
has_options rows workers plans batch depth w p b d has_workers has_plans has_batch has_depth = record {
  limits = has_limits rows workers plans w p has_workers has_plans;
  batch = has_number (codes "batch") rows batch 1 1024 (omega arith) b has_batch;
  depth = has_number (codes "depth") rows depth 1 64 (omega arith) d has_depth;
}

-- the two flags
record HasRewrites (rows : List Row) : Type 0 where
  rewrites : Rewrites
  is : rewrites_of rows ≡ Some rewrites

has_rewrites : (rows : List Row) → HasFlag (codes "combine") rows → HasFlag (codes "prune") rows → HasRewrites rows
has_rewrites rows combine prune = record {
  rewrites = rewrites_from combine.flag prune.flag;
  is = two_are rewrites_from _ _ combine.flag prune.flag combine.is prune.is;
}

pub record HasOperands (found : List Row) : Type 0 where
  pub seed : HasNumber (codes "seed") found 0 seed_limit
  pub rows : HasNumber (codes "rows") found 0 row_limit

has_operands : (found : List Row) (seed rows : Rule) → seed.parser ≡ Some (vp.Signed (pos 0) (pos seed_limit))
    → rows.parser ≡ Some (vp.Signed (pos 0) (pos row_limit)) → Holds found (codes "seed") seed → Holds found (codes "rows") rows → HasOperands found
has_operands found seed rows s r has_seed has_rows = record {
  seed = has_number (codes "seed") found seed 0 seed_limit (omega arith) s has_seed;
  rows = has_number (codes "rows") found rows 0 row_limit (omega arith) r has_rows;
}

operands_in_range : (found : List Row) (h : HasOperands found) → AreOperandsInRange h.seed.number h.rows.number
operands_in_range found h = record { most_seed = h.seed.most_of; most_rows = h.rows.most_of }

-- the values that clap finds give a command, with its numbers in their ranges
pub record Asks (k : Kind) (words : List Text) : Type 0 where
  pub command : Asked
  pub values : asked_of k (matches_of (app_for k) words) ≡ Some command
  pub in_range : IsInRange command

-- a command with a program, workers and plans
asks_limited : (k : Kind) (words : List Text) (to : List ℕ → ℕ → ℕ → Asked)
    → ((rows : List Row)
    → asked_of k rows ≡ all_three to (first_of (codes "program") rows) (number_of (codes "workers") rows) (number_of (codes "plans") rows))
    → ((program : List ℕ) (workers plans : ℕ) → AreInRange workers plans → IsInRange (to program workers plans))
    → HasText (codes "program") (matches_of (app_for k) words) → HasLimits (matches_of (app_for k) words) → Asks k words
asks_limited k words to is ranged program limits =
    let rows = matches_of (app_for k) words in
    record {
      command = to program.text limits.workers.number limits.plans.number;
      values = is rows ∙ three_are to _ _ _ program.text limits.workers.number limits.plans.number program.is limits.workers.is limits.plans.is;
      in_range = ranged program.text limits.workers.number limits.plans.number (in_range rows limits);
    }

-- a command that runs plans, if `--local` names a strategy
asks_chosen : (k : Kind) (words : List Text) (to : Options → Asked)
    → ((o : Options) → options_of (matches_of (app_for k) words) ≡ Some o → asked_of k (matches_of (app_for k) words) ≡ Some (to o))
    → ((o : Options) → AreOptionsInRange o → IsInRange (to o)) → HasOptions (matches_of (app_for k) words)
    → Asks k words ⊎ (local_of (codes "local") (matches_of (app_for k) words) ≡ None)
asks_chosen k words to says ranged h =
    let rows = matches_of (app_for k) words in
    some_or_none (Asks k words) (local_of (codes "local") rows) (λ local is.
    let chosen = options_from h.limits.workers.number h.limits.plans.number h.batch.number h.depth.number local in
    record {
      command = to chosen;
      values = says chosen (five_are options_from _ _ _ _ _ h.limits.workers.number h.limits.plans.number h.batch.number h.depth.number local
          h.limits.workers.is h.limits.plans.is h.batch.is h.depth.is is);
      in_range = ranged chosen (record {
        limits = in_range rows h.limits;
        least_batch = h.batch.least_of;
        most_batch = h.batch.most_of;
        least_depth = h.depth.least_of;
        most_depth = h.depth.most_of;
      });
    })

pub asks : (k : Kind) (words : List Text) → fault_of (app_for k) words ≡ [] → Asks k words ⊎ NamesNoStrategy k (matches_of (app_for k) words)
asks Run words e =
    let rows = matches_of (app_for Run) words in
    let at = each_holds Run words e in
    let program = has_text (codes "program") rows _ (at (codes "program") _ refl (inl refl)) in
    let numbers = has_options rows _ _ _ _ refl refl refl refl
    (at (codes "workers") _ refl (inr (_, _, refl))) (at (codes "plans") _ refl (inr (_, _, refl)))
    (at (codes "batch") _ refl (inr (_, _, refl))) (at (codes "depth") _ refl (inr (_, _, refl))) in
    let combine = has_flag (codes "combine") rows _ refl (at (codes "combine") _ refl (inr (_, _, refl))) in
    let prune = has_flag (codes "prune") rows _ refl (at (codes "prune") _ refl (inr (_, _, refl))) in
    let flags = has_rewrites rows combine prune in
    let counts = has_flag (codes "counts") rows _ refl (at (codes "counts") _ refl (inr (_, _, refl))) in
    asks_chosen Run words (λ o. to_run program.text o flags.rewrites counts.flag)
    (λ o is. four_are to_run _ _ _ _ program.text o flags.rewrites counts.flag program.is is flags.is counts.is) (λ o h. h) numbers
asks Plan words e =
    let rows = matches_of (app_for Plan) words in
    let at = each_holds Plan words e in
    let program = has_text (codes "program") rows _ (at (codes "program") _ refl (inl refl)) in
    let limits = has_limits rows _ _ refl refl (at (codes "workers") _ refl (inr (_, _, refl))) (at (codes "plans") _ refl (inr (_, _, refl))) in
    inl (asks_limited Plan words to_plan (λ found. refl) (λ name workers plans h. h) program limits)
asks Cert words e =
    let rows = matches_of (app_for Cert) words in
    let at = each_holds Cert words e in
    let program = has_text (codes "program") rows _ (at (codes "program") _ refl (inl refl)) in
    let limits = has_limits rows _ _ refl refl (at (codes "workers") _ refl (inr (_, _, refl))) (at (codes "plans") _ refl (inr (_, _, refl))) in
    inl (asks_limited Cert words to_certify (λ found. refl) (λ name workers plans h. h) program limits)
asks Check words e =
    let rows = matches_of (app_for Check) words in
    let at = each_holds Check words e in
    let program = has_text (codes "program") rows _ (at (codes "program") _ refl (inl refl)) in
    let certificate = has_text (codes "certificate") rows _ (at (codes "certificate") _ refl (inl refl)) in
    inl (record {
      command = to_check program.text certificate.text;
      values = two_are to_check _ _ program.text certificate.text program.is certificate.is;
      in_range = tt;
    })
asks Sets words e =
    let rows = matches_of (app_for Sets) words in
    let at = each_holds Sets words e in
    let program = has_text (codes "program") rows _ (at (codes "program") _ refl (inl refl)) in
    inl (record { command = to_tell_sets program.text; values = ap (option_map to_tell_sets) program.is; in_range = tt })
asks Gen words e =
    let rows = matches_of (app_for Gen) words in
    let at = each_holds Gen words e in
    let operands = has_operands rows _ _ refl refl (at (codes "seed") _ refl (inl refl)) (at (codes "rows") _ refl (inl refl)) in
    inl (record {
      command = to_generate operands.seed.number operands.rows.number;
      values = two_are to_generate _ _ operands.seed.number operands.rows.number operands.seed.is operands.rows.is;
      in_range = operands_in_range rows operands;
    })
asks Drill words e =
    let rows = matches_of (app_for Drill) words in
    let at = each_holds Drill words e in
    let operands = has_operands rows _ _ refl refl (at (codes "seed") _ refl (inl refl)) (at (codes "rows") _ refl (inl refl)) in
    let numbers = has_options rows _ _ _ _ refl refl refl refl
    (at (codes "workers") _ refl (inr (_, _, refl))) (at (codes "plans") _ refl (inr (_, _, refl)))
    (at (codes "batch") _ refl (inr (_, _, refl))) (at (codes "depth") _ refl (inr (_, _, refl))) in
    let combine = has_flag (codes "combine") rows _ refl (at (codes "combine") _ refl (inr (_, _, refl))) in
    let prune = has_flag (codes "prune") rows _ refl (at (codes "prune") _ refl (inr (_, _, refl))) in
    let flags = has_rewrites rows combine prune in
    asks_chosen Drill words (λ o. to_drill operands.seed.number operands.rows.number o flags.rewrites)
    (λ o is. four_are to_drill _ _ _ _ operands.seed.number operands.rows.number o flags.rewrites operands.seed.is operands.rows.is is flags.is)
    (λ o h. (operands_in_range rows operands, h)) numbers
asks Iterate words e =
    let rows = matches_of (app_for Iterate) words in
    let at = each_holds Iterate words e in
    let program = has_text (codes "program") rows _ (at (codes "program") _ refl (inl refl)) in
    let source = has_text (codes "source") rows _ (at (codes "source") _ refl (inl refl)) in
    let rounds = has_number (codes "rounds") rows _ 1 round_limit (omega arith) refl (at (codes "rounds") _ refl (inl refl)) in
    let numbers = has_options rows _ _ _ _ refl refl refl refl
    (at (codes "workers") _ refl (inr (_, _, refl))) (at (codes "plans") _ refl (inr (_, _, refl)))
    (at (codes "batch") _ refl (inr (_, _, refl))) (at (codes "depth") _ refl (inr (_, _, refl))) in
    let stable = has_flag (codes "stable") rows _ refl (at (codes "stable") _ refl (inr (_, _, refl))) in
    asks_chosen Iterate words (λ o. to_iterate program.text source.text rounds.number o stable.flag)
    (λ o is. five_are to_iterate _ _ _ _ _ program.text source.text rounds.number o stable.flag program.is source.is rounds.is is stable.is)
    (λ o h. record { least_rounds = rounds.least_of; most_rounds = rounds.most_of; options = h }) numbers

-- if the values give no command, `--local` names no strategy
pub taken_names_none : (k : Kind) (words : List Text) → fault_of (app_for k) words ≡ [] → asked_of k (matches_of (app_for k) words) ≡ None
    → NamesNoStrategy k (matches_of (app_for k) words)
taken_names_none k words taken none = elim (asks k words taken) [
  | inl h ↦ absurd (not_both _ h.command h.values none)
  | inr other ↦ other
]

-- the numbers of the command are in their ranges
pub taken_in_range : (k : Kind) (words : List Text) (a : Asked) → fault_of (app_for k) words ≡ []
    → asked_of k (matches_of (app_for k) words) ≡ Some a → IsInRange a
taken_in_range k words a taken values = elim (asks k words taken) [
  | inl h ↦ subst IsInRange (one_of _ h.command a h.values values) h.in_range
  | inr other ↦ absurd (not_both _ a values (none_asked k (matches_of (app_for k) words) other))
]
