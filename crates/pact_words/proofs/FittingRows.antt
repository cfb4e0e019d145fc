-- If clap takes the words, the rows that it finds fit: each row belongs to an argument, and its first value passes that
-- argument's parser.
--
-- The functions are those of clap's walk over the words, in its order. `c` are the arguments of a command, each of
-- which clap finds by its name.
use Rattle.std.proofs.Common.{◌≡◌, ◌⊎◌, ◌∙◌, inl, inr, refl, sym, ap, subst, ℕ, Bool, zero, suc, cond, List, [], ◌∷◌, ◌++◌, length, drop, Option, Some, None, fold, find, is_some, true, false, ◌&&◌, if◌then◌else◌}
use Rattle.std.proofs.lemmas.Bool.{or_parts}
use Rattle.std.specs.Prelude.{encode_utf8, slice_get}
use Rattle.std.specs.List.{AllByRecursion}
use Rattle.std.specs.Option.{option_map_or}
use Rattle.std.specs.Str.{bytes_eq, chars}
use Rattle.std.proofs.lemmas.List.{append-nil}
use Rattle.clap.specs.Lexer.{long_of, short_of}
use Rattle.clap.specs.Facts.{parser_of_value, unwrap_or_range}
use Rattle.clap.specs.Kinds.{Kinds, or_else, range_kinds, value_kinds, values_kinds}
use Rattle.clap.specs.Walk.{waits, plain, refused, done, option, idle, positional, trailing, subcommand, next, value, Held, Outcome, Row, Rule, Step, Text, Waiting, Walk, action_of, after_flag, after_step, arg_by_id, arg_by_index, arg_by_long, arg_by_short, at_row, attached_value, bundle, bundle_met, bundle_step, flag_met, has_row, is_pending, long_met, long_or_other, more_values, most_values, option_met, option_word, plain_word, positional_held, reacted, reading_by, settled, settled_rows, short_met, short_or_plain, subcommand_met, subcommand_or_other, takes_several, takes_values, to_positional, used, used_as, used_by_id, values_or_missing, walked, walked_from, with_values, without, word_met}
use Rattle.clap.specs.Simple.{Shape}
use Rattle.clap.specs.Faults.{action_fault, bundle_fault, bundle_step_fault, flag_word_fault, flags_fault, long_fault, option_fault, other_fault, positional_fault, react_fault, repeat_fault, set_fault, settle_fault, short_fault, step_fault, stray_fault, turn_fault, use_fault, values_fault, walk_fault, word_fault}
use Rattle.clap.specs.declared.builder.action.ArgAction.{ArgAction}
use Rattle.clap.specs.declared.builder.action.ArgAction.TheVariants as action
use Rattle.clap.specs.declared.error.kind.ErrorKind.TheVariants as kind
use Rattle.clap.specs.declared.parser.matches.ValueSource.{ValueSource}
use Rattle.clap.specs.declared.parser.matches.ValueSource.TheVariants.{CommandLine}

-- ---- tests

pub or_both : (a b : Kinds) → or_else a b ≡ [] → (a ≡ []) × (b ≡ [])
or_both [] b e = (refl, e)
or_both (k ∷ ks) b e = cc

-- a property that holds after either branch if the branch has no fault
chosen : {A : Type 0} (b : Bool) (k l : Kinds) (x y : A) (P : A → Type 0) → (k ≡ [] → P x) → (l ≡ [] → P y)
    → (if b then k else l) ≡ [] → P (if b then x else y)
chosen true k l x y P f g e = f e
chosen false k l x y P f g e = g e

-- ---- rows

-- the row belongs to one of these arguments, and its first value passes that argument's parser
pub record Fits (c : List Rule) (r : Row) : Type 0 where
  pub rule : Rule
  pub found : arg_by_id c r.id ≡ Some rule
  pub reading : r.reading ≡ reading_by rule
  pub first : Text
  pub others : List Text
  pub values : r.values ≡ first ∷ others
  pub passes : value_kinds rule.ignore_case (parser_of_value rule.parser) first ≡ []

abbrev pub AllFit : List Rule → List Row → Type 0
AllFit c rows = AllByRecursion (Fits c) rows

-- if there is no fault, rows that fit before a step fit after it
abbrev pub Keeps : List Rule → Kinds → List Row → List Row → Type 0
Keeps c fault before after = fault ≡ [] → AllFit c before → AllFit c after

pub fit_more : (c : List Rule) (rows : List Row) (r : Row) → AllFit c rows → Fits c r → AllFit c (rows ++ r ∷ [])
fit_more c [] r h f = (f, tt)
fit_more c (x ∷ rows) r h f = (h.0, fit_more c rows r h.1 f)

at_absent : (id : Text) (change : Row → List Row) (missing rows : List Row) → has_row id rows ≡ false → at_row id change missing rows ≡ rows ++ missing
at_absent id change missing [] e = refl
at_absent id change missing (r ∷ rows) e =
    let two = or_parts (bytes_eq r.id id) (has_row id rows) e in
    rw two.0 (ap (λ xs. r ∷ xs) (at_absent id change missing rows two.1))

without_absent : (id : Text) (rows : List Row) → has_row id rows ≡ false → without id rows ≡ rows
without_absent id rows e = at_absent id (λ _. []) [] rows e ∙ append-nil rows

abbrev pub new_row : Rule → ValueSource → List Text → Row
new_row a source values = record { id = a.id; values = values; count = None; source = Some source; reading = reading_by a }

pub values_absent : (a : Rule) (source : ValueSource) (values : List Text) (rows : List Row) → has_row a.id rows ≡ false
    → with_values a.id (reading_by a) source values rows ≡ rows ++ new_row a source values ∷ []
values_absent a source values rows e = at_absent a.id (more_values source values) (new_row a source values ∷ []) rows e

-- ---- arguments

-- an option, which needs exactly one value
abbrev IsOption : Rule → Type 0
IsOption a = (action_of a ≡ action.Set) × (unwrap_or_range a.range ≡ record { start_inclusive = 1; end_inclusive = 1 })

-- a flag, which has its value without one being given
abbrev IsFlag : Rule → Type 0
IsFlag a = (action_of a ≡ action.SetTrue) × ((t : Text) × (ts : List Text) × (a.missing ≡ t ∷ ts))

-- The argument is found by its name. It is an option or a flag, or asks for help.
abbrev pub Known : List Rule → Rule → Type 0
Known c a = (arg_by_id c a.id ≡ Some a) × (IsOption a ⊎ IsFlag a ⊎ (action_of a ≡ action.Help))

abbrev pub AllKnown : List Rule → List Rule → Type 0
AllKnown c d = AllByRecursion (Known c) d

abbrev KnownIfSome : List Rule → Option Rule → Type 0
KnownIfSome c None = Unit {0}
KnownIfSome c (Some a) = Known c a

found_known : (c d : List Rule) (test : Rule → Bool) → AllKnown c d → KnownIfSome c (find test d)
found_known c [] test h = tt
found_known c (a ∷ d) test h = go (test a) (found_known c d test h.1)
  where
    go : (b : Bool) → KnownIfSome c (find test d) → KnownIfSome c (cond b (Some a) (find test d))
    go true rest = h.0
    go false rest = rest

-- ---- one use

abbrev pub HasSome : List Text → Type 0
HasSome values = (t : Text) × (ts : List Text) × (values ≡ t ∷ ts)

module _ (c : List Rule) where
  pub fitting : (a : Rule) (source : ValueSource) (values : List Text) → HasSome values → arg_by_id c a.id ≡ Some a
      → values_fault a values ≡ [] → Fits c (new_row a source values)
  fitting a source [] some own pass = cc
  fitting a source (t ∷ ts) some own pass =
      let parser = parser_of_value a.parser in
      let passes = or_both (value_kinds a.ignore_case parser t) (values_kinds a.ignore_case parser ts) pass in
      record { rule = a; found = own; reading = refl; first = t; others = ts; values = refl; passes = passes.0 }

  not_twice : (id : Text) (rows : List Row) → repeat_fault false id rows ≡ [] → has_row id rows ≡ false
  not_twice id rows e = go (has_row id rows) e
    where
      go : (b : Bool) → (if b && true then kind.ArgumentConflict ∷ [] else []) ≡ [] → b ≡ false
      go true e = cc
      go false e = refl

  set_fits : (a : Rule) (values : List Text) (rows : List Row) → HasSome values → arg_by_id c a.id ≡ Some a
      → Keeps c (set_fault false a values rows) rows (with_values a.id (reading_by a) CommandLine values (without a.id rows))
  set_fits a values rows some own e h =
      let two = or_both (repeat_fault false a.id rows) (values_fault a values) e in
      let absent = not_twice a.id rows two.0 in
      let same = ap (with_values a.id (reading_by a) CommandLine values) (without_absent a.id rows absent) ∙ values_absent a CommandLine values rows absent in
      subst (AllFit c) (sym same) (fit_more c rows (new_row a CommandLine values) h (fitting a CommandLine values some own two.1))

  some_values : (a : Rule) (ts : List Text) → range_kinds 1 1 (length ts) ≡ [] → HasSome (values_or_missing a ts)
  some_values a [] e = cc
  some_values a (t ∷ ts) e = (t, ts, refl)

  flag_values : (a : Rule) (ts : List Text) → HasSome a.missing → HasSome (values_or_missing a ts)
  flag_values a [] some = some
  flag_values a (t ∷ ts) some = (t, ts, refl)

  used_fits : (a : Rule) (ts : List Text) (rows : List Row) → Known c a → Keeps c (use_fault false a ts rows) rows (used a ts rows)
  used_fits a ts rows known e h =
      let values = values_or_missing a ts in
      let two = or_both (range_kinds (unwrap_or_range a.range).start_inclusive (most_values a) (length ts)) (action_fault (action_of a) false a values rows) e in
      let fault : (k : ArgAction) → action_of a ≡ k → action_fault k false a values rows ≡ [] =
      λ k is. subst (λ (k : ArgAction). action_fault k false a values rows ≡ []) is two.1 in
      let fits : (k : ArgAction) → action_of a ≡ k → AllFit c (used_as k a.id (reading_by a) values rows) → AllFit c (used a ts rows) =
      λ k is. subst (λ (k : ArgAction). AllFit c (used_as k a.id (reading_by a) values rows)) (sym is) in
      elim known.1 [
        | inl one ↦
            let some = some_values a ts (subst (λ r. range_kinds r.start_inclusive r.end_inclusive (length ts) ≡ []) one.1 two.0) in
            fits action.Set one.0 (set_fits a values rows some known.0 (fault action.Set one.0) h)
        | inr (inl flag) ↦ fits action.SetTrue flag.0 (set_fits a values rows (flag_values a ts flag.1) known.0 (fault action.SetTrue flag.0) h)
        | inr (inr help) ↦ let bad : kind.DisplayHelp ∷ [] ≡ [] = fault action.Help help in cc
      ]

-- ---- one word at a time

module _ (c : List Rule) (all : AllKnown c c) where
  used_by_id_fits : (o : Option Rule) (ts : List Text) (rows : List Row) → KnownIfSome c o
      → Keeps c (option_map_or (λ a. use_fault false a ts rows) o []) rows (used_by_id o ts rows)
  used_by_id_fits None ts rows known e h = h
  used_by_id_fits (Some a) ts rows known e h = used_fits c a ts rows known e h

  settled_rows_fit : (p : Option (Text × List Text)) (rows : List Row)
      → Keeps c (option_map_or (λ p. option_map_or (λ a. use_fault false a p.1 rows) (arg_by_id c p.0) []) p []) rows (settled_rows c p rows)
  settled_rows_fit None rows e h = h
  settled_rows_fit (Some p) rows e h = used_by_id_fits (arg_by_id c p.0) p.1 rows (found_known c c _ all) e h

  pub settled_fits : (h : Held) → Keeps c (settle_fault c false h) h.rows (settled c h).rows
  settled_fits h e fit = settled_rows_fit h.pending h.rows e fit

  reacted_fits : (a : Rule) (ts : List Text) (h : Held) → Known c a → Keeps c (react_fault c false a ts h) h.rows (reacted c a ts h).rows
  reacted_fits a ts h known e fit =
      let two = or_both (settle_fault c false h) (use_fault false a ts (settled c h).rows) e in
      used_fits c a ts (settled c h).rows known two.1 (settled_fits h two.0 fit)

  option_met_fits : (a : Rule) (v : Option Text) (h : Held) → Known c a → Keeps c (option_fault c false a v h) h.rows (option_met c a v h).0.rows
  option_met_fits a (Some v) h known e fit = reacted_fits a (v ∷ []) h known e fit
  option_met_fits a None h known e fit = settled_fits h e fit

  flag_met_fits : (a : Rule) (v : Option Text) (h : Held) → Known c a
      → Keeps c (if is_some v then kind.TooManyValues ∷ [] else react_fault c false a [] h) h.rows (flag_met c a v h).0.rows
  flag_met_fits a (Some v) h known e fit = fit
  flag_met_fits a None h known e fit = reacted_fits a [] h known e fit

  long_met_fits : (o : Option Rule) (v : Option Text) (h : Held) → KnownIfSome c o → Keeps c (long_fault c false o v h) h.rows (long_met c o v h).0.rows
  long_met_fits None v h known e fit = fit
  long_met_fits (Some a) v h known e fit =
      chosen (takes_values a) (option_fault c false a v h) (if is_some v then kind.TooManyValues ∷ [] else react_fault c false a [] h)
      (option_met c a v h) (flag_met c a v h) (λ m. AllFit c m.0.rows)
      (λ k. option_met_fits a v h known k fit) (λ k. flag_met_fits a v h known k fit) e

  short_met_fits : (o : Option Rule) (rest : Text) (h : Held) (f : Held → Held × Outcome) (g : Held → Kinds) → KnownIfSome c o
      → ((s : Held) → Keeps c (g s) s.rows (f s).0.rows) → Keeps c (short_fault c false o rest h g) h.rows (short_met c o rest h f).0.rows
  short_met_fits None rest h f g known more e fit = fit
  short_met_fits (Some a) rest h f g known more e fit =
      let after = reacted c a [] h in
      let flag : or_else (react_fault c false a [] h) (g after) ≡ [] → AllFit c (f after).0.rows = λ k.
      let two = or_both (react_fault c false a [] h) (g after) k in more after two.1 (reacted_fits a [] h known two.0 fit) in
      chosen (takes_values a) (option_fault c false a (attached_value rest) h) (or_else (react_fault c false a [] h) (g after))
      (option_met c a (attached_value rest) h) (f after) (λ m. AllFit c m.0.rows)
      (λ k. option_met_fits a (attached_value rest) h known k fit) flag e

  bundle_step_fits : (x : Option ℕ) (flags : Text) (skip : ℕ) (so_far : Outcome) (h : Held)
      → (f : Text → ℕ → Outcome → Held → Held × Outcome) (g : Text → ℕ → Held → Kinds)
      → ((t : Text) (n : ℕ) (o : Outcome) (s : Held) → Keeps c (g t n s) s.rows (f t n o s).0.rows)
      → Keeps c (bundle_step_fault c false x flags skip h g) h.rows (bundle_step c x flags skip so_far h f).0.rows
  bundle_step_fits None flags skip so_far h f g more e fit = fit
  bundle_step_fits (Some x) flags zero so_far h f g more e fit =
      let rest = drop (length (encode_utf8 x)) flags in
      short_met_fits (arg_by_short c x) rest h (f rest 0 done) (g rest 0) (found_known c c _ all) (λ s. more rest 0 done s) e fit
  bundle_step_fits (Some x) flags (suc skip) so_far h f g more e fit = more (drop (length (encode_utf8 x)) flags) skip so_far h e fit

  bundle_met_fits : (k : ℕ) (flags : Text) (skip : ℕ) (so_far : Outcome) (h : Held)
      → Keeps c (flags_fault c false k flags skip h) h.rows (bundle_met c k flags skip so_far h).0.rows
  unfolding bundle_met flags_fault
  bundle_met_fits zero flags skip so_far h e fit = fit
  bundle_met_fits (suc k) flags skip so_far h e fit =
      bundle_step_fits (slice_get (chars flags) 0) flags skip so_far h (bundle_met c k) (flags_fault c false k) (bundle_met_fits k) e fit

  option_word_rows : (o : Option Rule) (id word : Text) (h : Held) → (option_word o id word h).0.rows ≡ h.rows
  option_word_rows None id word h = refl
  option_word_rows (Some a) id word h = refl

  plain_word_rows : (w : Waiting) (word : Text) (h : Held) → (plain_word c w word h).0.rows ≡ h.rows
  plain_word_rows (option id) word h = option_word_rows (arg_by_id c id) id word h
  plain_word_rows idle word h = refl
  plain_word_rows positional word h = refl

  after_flag_rows : (w : Waiting) (word : Text) (h : Held) (o : Outcome) → (after_flag c w word h o).0.rows ≡ h.rows
  after_flag_rows w word h done = refl
  after_flag_rows w word h (waits id) = refl
  after_flag_rows w word h plain = plain_word_rows w word h
  after_flag_rows w word h refused = plain_word_rows w word h

  short_or_plain_fits : (w : Waiting) (word : Text) (o : Option Text) (h : Held)
      → Keeps c (option_map_or (λ flags. bundle_fault c false flags h) o []) h.rows (short_or_plain c w word o h).0.rows
  short_or_plain_fits w word (Some flags) h e fit =
      subst (AllFit c) (sym (after_flag_rows w word (bundle c flags h).0 (bundle c flags h).1))
      (bundle_met_fits (length flags) flags h.skip plain (record h { skip = 0 }) e fit)
  short_or_plain_fits w word None h e fit = subst (AllFit c) (sym (plain_word_rows w word h)) fit

  long_or_other_fits : (w : Waiting) (word : Text) (o : Option (Text × Option Text)) (h : Held)
      → Keeps c (flag_word_fault c false o word h) h.rows (long_or_other c w word o h).0.rows
  long_or_other_fits w word (Some p) h e fit =
      let met = long_met c (arg_by_long c p.0) p.1 h in
      subst (AllFit c) (sym (after_flag_rows w word met.0 met.1)) (long_met_fits (arg_by_long c p.0) p.1 h (found_known c c _ all) e fit)
  long_or_other_fits w word None h e fit = short_or_plain_fits w word (short_of word) h e fit

-- ---- all words

module _ (s : Shape) (all : AllKnown s.rules s.rules) (once : s.args_override_self ≡ false) where
  other_fits : (o : Option Text) (w : Waiting) (position : ℕ) (word : Text) (h : Held) → o ≡ None
      → Keeps s.rules (other_fault s o word h) h.rows (subcommand_or_other s.rules o w position word h).0.rows
  other_fits (Some name) w position word h is e fit = fit
  other_fits None w position word h is e fit =
      chosen (bytes_eq word (45 ∷ 45 ∷ [])) [] (flag_word_fault s.rules s.args_override_self (long_of word) word h)
      (h, trailing position) (long_or_other s.rules w word (long_of word) h) (λ m. AllFit s.rules m.0.rows) (λ k. fit)
      (λ k. long_or_other_fits s.rules all w word (long_of word) h (subst (λ (b : Bool). flag_word_fault s.rules b (long_of word) word h ≡ []) once k) fit) e

  no_subcommand : (w : Waiting) (word : Text) → subcommand_met [] w word ≡ None
  no_subcommand idle word = refl
  no_subcommand (option id) word = refl
  no_subcommand positional word = refl

  word_fits : (is_trailing : Bool) (w : Waiting) (position : ℕ) (word : Text) (h : Held)
      → Keeps s.rules (word_fault s [] is_trailing w word h) h.rows (word_met s.rules [] is_trailing w position word h).0.rows
  word_fits true w position word h e fit = fit
  word_fits false w position word h e fit = other_fits (subcommand_met [] w word) w position word h (no_subcommand w word) e fit

  positional_fits : (a : Rule) (word : Text) (h : Held) → Keeps s.rules (positional_fault s.rules false a h) h.rows (positional_held s.rules a word h).rows
  positional_fits a word h e fit =
      chosen (is_pending a h.pending && takes_several a) [] (settle_fault s.rules false h)
      h (settled s.rules h) (λ m. AllFit s.rules m.rows) (λ k. fit) (λ k. settled_fits s.rules all h k fit) e

  stepped_fits : (o : Option Rule) (word : Text) (w : Walk) (h : Held)
      → Keeps s.rules (option_map_or (λ a. positional_fault s.rules false a h) o (stray_fault s)) h.rows (to_positional s.rules o word w h).held.rows
  stepped_fits None word w h e fit = fit
  stepped_fits (Some a) word w h e fit = positional_fits a word h e fit

  step_fits : (word : Text) (w : Walk) (h : Held) (t : Step) → Keeps s.rules (step_fault s w.position h t) h.rows (after_step s.rules word w h t).held.rows
  step_fits word w h (next x) e fit = fit
  step_fits word w h (trailing x) e fit = fit
  step_fits word w h (subcommand x) e fit = fit
  step_fits word w h value e fit =
      let rule = arg_by_index s.rules w.position in
      stepped_fits rule word w h (subst (λ (b : Bool). option_map_or (λ a. positional_fault s.rules b a h) rule (stray_fault s) ≡ []) once e) fit

  turn_fits : (o : Option (Text × List Text)) (w : Walk) (word : Text)
      → (let met = word_met s.rules [] w.is_trailing w.waiting w.position word w.held in
      Keeps s.rules (if is_some o then [] else or_else (word_fault s [] w.is_trailing w.waiting word w.held) (step_fault s w.position met.0 met.1))
      w.held.rows (walked_from s.rules [] o w word).held.rows)
  turn_fits (Some p) w word e fit = fit
  turn_fits None w word e fit =
      let met = word_met s.rules [] w.is_trailing w.waiting w.position word w.held in
      let two = or_both (word_fault s [] w.is_trailing w.waiting word w.held) (step_fault s w.position met.0 met.1) e in
      step_fits word w met.0 met.1 two.1 (word_fits w.is_trailing w.waiting w.position word w.held two.0 fit)

  walked_fits : (w : Walk) (word : Text) → Keeps s.rules (turn_fault s [] w word) w.held.rows (walked s.rules [] w word).held.rows
  unfolding walked
  walked_fits w word e fit = turn_fits w.stopped w word e fit

  pub folded_fits : (w : Walk) (words : List Text) → Keeps s.rules (walk_fault s [] w words) w.held.rows (fold (walked s.rules []) w words).held.rows
  unfolding walk_fault
  folded_fits w [] e fit = fit
  folded_fits w (word ∷ words) e fit =
      let two = or_both (turn_fault s [] w word) (walk_fault s [] (walked s.rules [] w word) words) e in
      folded_fits (walked s.rules [] w word) words two.1 (walked_fits w word two.0 fit)
