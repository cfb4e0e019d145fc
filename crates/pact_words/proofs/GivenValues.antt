-- If clap takes the words, each argument that is required or has a default has a value, which passes its parser.
use Rattle.std.proofs.Common.{◌≡◌, ◌⊎◌, ◌∙◌, inl, inr, refl, sym, ap, ap₂, subst, Bool, cond, List, [], ◌∷◌, ◌++◌, not, Some, option_map, fold, find, true, false, ◌&&◌, ◌||◌, if◌then◌else◌, true≢false}
use Rattle.std.proofs.lemmas.Bool.{or_parts}
use Rattle.std.specs.Prelude.{slice_get, length}
use Rattle.std.proofs.Math.Dec.{eqb-suc-zero}
use Rattle.std.specs.List.{list_any}
use Rattle.std.specs.Option.{option_map_or}
use Rattle.std.specs.Str.{bytes_eq}
use Rattle.std.proofs.lemmas.Slice.Eq.{bytes_eq-Decides}
use Rattle.clap.specs.Facts.{explicit_source, parser_of_value}
use Rattle.clap.specs.Values.{read_as}
use Rattle.clap.specs.Kinds.{Kinds, check_kinds, or_else, request_kinds, value_kinds}
use Rattle.clap.specs.Walk.{Row, Rule, Text, action_of, arg_by_id, default_rows, finished, first_of, has_row, is_empty, nothing_held, one_of, reading_by, settled, walk, walk_from, with_default}
use Rattle.clap.specs.Simple.{Shape}
use Rattle.clap.specs.Takes.{is_given}
use Rattle.clap.specs.Faults.{check_fault, default_fault, defaults_fault, level_fault, settle_fault, values_fault, walk_fault}
use Rattle.clap.specs.declared.parser.matches.ValueSource.TheVariants.{DefaultValue}
use Rattle.pact_words.proofs.FittingRows.{AllFit, AllKnown, Fits, HasSome, Keeps, fit_more, fitting, folded_fits, new_row, or_both, settled_fits, values_absent}

-- ---- rows

has_more : (id : Text) (rows more : List Row) → has_row id rows ≡ true → has_row id (rows ++ more) ≡ true
has_more id [] more e = absurd (true≢false (sym e))
has_more id (r ∷ rows) more e = go (bytes_eq r.id id) (has_more id rows more) e
  where
    go : (b : Bool) → (has_row id rows ≡ true → has_row id (rows ++ more) ≡ true) → (b || has_row id rows) ≡ true
        → (b || has_row id (rows ++ more)) ≡ true
    go true rest e = refl
    go false rest e = rest e

has_last : (id : Text) (rows : List Row) (r : Row) → bytes_eq r.id id ≡ true → has_row id (rows ++ r ∷ []) ≡ true
has_last id [] r e = rw e refl
has_last id (x ∷ rows) r e = go (bytes_eq x.id id) (has_last id rows r e)
  where
    go : (b : Bool) → has_row id (rows ++ r ∷ []) ≡ true → (b || has_row id (rows ++ r ∷ [])) ≡ true
    go true rest = refl
    go false rest = rest

-- ---- defaults

-- the argument has no row yet, and gets one from its default
record IsAdded (a : Rule) (rows after : List Row) : Type 0 where
  absent : has_row a.id rows ≡ false
  some : HasSome a.defaults
  is : after ≡ rows ++ new_row a DefaultValue a.defaults ∷ []

with_or_without : (rows : List Row) (a : Rule) → (with_default rows a ≡ rows) ⊎ IsAdded a rows (with_default rows a)
with_or_without rows a = go (has_row a.id rows) refl a.defaults refl
  where
    with : Bool → List Text → List Row
    with has values = if has then rows else default_rows a.id (reading_by a) values rows

    go : (b : Bool) → has_row a.id rows ≡ b → (values : List Text) → a.defaults ≡ values → (with b values ≡ rows) ⊎ IsAdded a rows (with b values)
    go true e values is = inl refl
    go false e [] is = inl refl
    go false e (t ∷ ts) is = inr (record {
      absent = e;
      some = (t, ts, is);
      is = values_absent a DefaultValue (t ∷ ts) rows e ∙ ap (λ values. rows ++ new_row a DefaultValue values ∷ []) (sym is);
    })

default_kept : (rows : List Row) (a : Rule) (id : Text) → has_row id rows ≡ true → has_row id (with_default rows a) ≡ true
default_kept rows a id e = elim (with_or_without rows a) [
  | inl same ↦ subst (λ (xs : List Row). has_row id xs ≡ true) (sym same) e
  | inr more ↦ subst (λ (xs : List Row). has_row id xs ≡ true) (sym more.is) (has_more id rows _ e)
]

kept : (d : List Rule) (rows : List Row) (id : Text) → has_row id rows ≡ true → has_row id (fold with_default rows d) ≡ true
kept [] rows id e = e
kept (a ∷ d) rows id e = kept d (with_default rows a) id (default_kept rows a id e)

default_there : (rows : List Row) (a : Rule) (id : Text) → HasSome a.defaults → bytes_eq a.id id ≡ true → has_row id (with_default rows a) ≡ true
default_there rows a id some same = go (has_row a.id rows) refl
  where
    go : (b : Bool) → has_row a.id rows ≡ b → has_row id (if b then rows else default_rows a.id (reading_by a) a.defaults rows) ≡ true
    go true e = subst (λ (x : Text). has_row x rows ≡ true) ((bytes_eq-Decides a.id id).0 same) e
    go false e = subst (λ (xs : List Text). has_row id (default_rows a.id (reading_by a) xs rows) ≡ true) (sym some.2)
        (subst (λ (xs : List Row). has_row id xs ≡ true) (sym (values_absent a DefaultValue (some.0 ∷ some.1) rows e)) (has_last id rows _ same))

-- an argument with a default has a row at the end
defaulted : (d : List Rule) (rows : List Row) (id : Text) (a : Rule) → HasSome a.defaults → arg_by_id d id ≡ Some a
    → has_row id (fold with_default rows d) ≡ true
defaulted [] rows id a some e = cc
defaulted (b ∷ d) rows id a some e = go (bytes_eq b.id id) refl (defaulted d (with_default rows b) id a some) e
  where
    go : (x : Bool) → bytes_eq b.id id ≡ x → (arg_by_id d id ≡ Some a → has_row id (fold with_default (with_default rows b) d) ≡ true)
        → cond x (Some b) (arg_by_id d id) ≡ Some a → has_row id (fold with_default (with_default rows b) d) ≡ true
    go true same rest e =
        let one : a ≡ b = cc in
        kept d (with_default rows b) id (default_there rows b id (subst (λ (r : Rule). HasSome r.defaults) one some) same)
    go false same rest e = rest e

default_passes : (rows : List Row) (a : Rule) → HasSome a.defaults → has_row a.id rows ≡ false → default_fault rows a ≡ []
    → values_fault a a.defaults ≡ []
default_passes rows a some absent e = go a.defaults some.2 e
  where
    go : (values : List Text) → values ≡ some.0 ∷ some.1
        → (if has_row a.id rows || is_empty values then [] else or_else (request_kinds (action_of a)) (values_fault a values)) ≡ [] → values_fault a values ≡ []
    go [] is e = cc
    go (t ∷ ts) is e = (or_both (request_kinds (action_of a)) _ (rw (absent, eqb-suc-zero (length ts)) at e)).1

defaults_fit : (c d : List Rule) (rows : List Row) → AllKnown c d → Keeps c (defaults_fault rows d) rows (fold with_default rows d)
unfolding defaults_fault
defaults_fit c [] rows known e fit = fit
defaults_fit c (a ∷ d) rows known e fit =
    let two = or_both (default_fault rows a) (defaults_fault (with_default rows a) d) e in
    defaults_fit c d (with_default rows a) known.1 two.1 (elim (with_or_without rows a) [
      | inl same ↦ subst (AllFit c) (sym same) fit
      | inr more ↦
          let fits = fitting c a DefaultValue a.defaults more.some known.0.0 (default_passes rows a more.some more.absent two.0) in
          subst (AllFit c) (sym more.is) (fit_more c rows (new_row a DefaultValue a.defaults) fit fits)
    ])

-- ---- required arguments

abbrev is_wanting : List Row → Rule → Bool
is_wanting rows a = a.required && not (is_given a.id rows)

required : (d : List Rule) (rows : List Row) (id : Text) (a : Rule) → arg_by_id d id ≡ Some a → a.required ≡ true
    → list_any (is_wanting rows) d ≡ false → is_given id rows ≡ true
required [] rows id a e is none = cc
required (b ∷ d) rows id a e is none =
    let two = or_parts (is_wanting rows b) (list_any (is_wanting rows) d) none in
    go two.0 (bytes_eq b.id id) refl (λ k. required d rows id a k is two.1) e
  where
    given : (x y : Bool) → (x && not y) ≡ false → x ≡ true → y ≡ true
    given true true e is = refl
    given true false e is = absurd (true≢false e)
    given false y e is = absurd (true≢false (sym is))

    go : is_wanting rows b ≡ false → (x : Bool) → bytes_eq b.id id ≡ x → (arg_by_id d id ≡ Some a → is_given id rows ≡ true)
        → cond x (Some b) (arg_by_id d id) ≡ Some a → is_given id rows ≡ true
    go met true same rest e =
        let one : b ≡ a = cc in
        let there = given b.required (is_given b.id rows) met (ap (λ (r : Rule). r.required) one ∙ is) in
        subst (λ (x : Text). is_given x rows ≡ true) ((bytes_eq-Decides b.id id).0 same) there
    go met false same rest e = rest e

given_there : (rows : List Row) (id : Text) → is_given id rows ≡ true → has_row id rows ≡ true
given_there [] id e = e
given_there (r ∷ rows) id e = go (bytes_eq r.id id) (given_there rows id) e
  where
    go : (b : Bool) → (is_given id rows ≡ true → has_row id rows ≡ true)
        → option_map_or (λ x. explicit_source x.source) (cond b (Some r) (find (λ x. bytes_eq x.id id) rows)) false ≡ true → (b || has_row id rows) ≡ true
    go true rest e = refl
    go false rest e = rest e

none_wanting : (x y z : Bool) → check_kinds x y z ≡ [] → z ≡ false
none_wanting true y z e = cc
none_wanting false true z e = cc
none_wanting false false true e = cc
none_wanting false false false e = refl

-- ---- the values found

-- the rows have a value for the argument, which passes its parser
pub record Holds (rows : List Row) (id : Text) (a : Rule) : Type 0 where
  pub text : Text
  pub first : first_of id rows ≡ Some text
  pub one : one_of id rows ≡ Some (read_as (reading_by a) text)
  pub passes : value_kinds a.ignore_case (parser_of_value a.parser) text ≡ []

holds_row : (c : List Rule) (rows : List Row) (id : Text) (a : Rule) → AllFit c rows → arg_by_id c id ≡ Some a → has_row id rows ≡ true → Holds rows id a
holds_row c [] id a fit e has = absurd (true≢false (sym has))
holds_row c (r ∷ rows) id a fit e has = go (bytes_eq r.id id) refl (holds_row c rows id a fit.1 e) has
  where
    f : Fits c r
    f = fit.0

    go : (b : Bool) → bytes_eq r.id id ≡ b → (has_row id rows ≡ true → Holds rows id a) → (b || has_row id rows) ≡ true → Holds (r ∷ rows) id a
    go true same rest has =
        let found : arg_by_id c id ≡ Some f.rule = sym (ap (arg_by_id c) ((bytes_eq-Decides r.id id).0 same)) ∙ f.found in
        let mine : f.rule ≡ a = cc in
        record {
          text = f.first;
          first = rw same (ap (λ vs. slice_get vs 0) f.values);
          one = rw same (ap₂ (λ how vs. option_map (read_as how) (slice_get vs 0)) (f.reading ∙ ap reading_by mine) f.values);
          passes = subst (λ (x : Rule). value_kinds x.ignore_case (parser_of_value x.parser) f.first ≡ []) mine f.passes;
        }
    go false same rest has =
        let below = rest has in
        record { text = below.text; first = rw same below.first; one = rw same below.one; passes = below.passes }

-- the argument is required, or has a default
abbrev pub IsSure : Rule → Type 0
IsSure a = (a.required ≡ true) ⊎ HasSome a.defaults

module _ (s : Shape) (all : AllKnown s.rules s.rules) (once : s.args_override_self ≡ false) (always : s.subcommand_negates_reqs ≡ false) where
  pub held : (words : List Text) (has : Bool) (below : Kinds) → level_fault s [] nothing_held words has below ≡ [] → (id : Text) (a : Rule)
      → arg_by_id s.rules id ≡ Some a → IsSure a → Holds (finished s.rules (walk s.rules [] nothing_held words).held) id a
  held words has below e id a found sure =
      let h = (walk s.rules [] nothing_held words).held in
      let rows = finished s.rules h in
      let one = or_both (walk_fault s [] (walk_from nothing_held) words) _ e in
      let two = or_both below _ one.1 in
      let three = or_both (settle_fault s.rules s.args_override_self h) _ two.1 in
      let four = or_both (defaults_fault (settled s.rules h).rows s.rules) (check_fault s rows has) three.1 in
      let walked_fit : AllFit s.rules h.rows = folded_fits s all once (walk_from nothing_held) words one.0 tt in
      let settled_fit : AllFit s.rules (settled s.rules h).rows =
      settled_fits s.rules all h (subst (λ (b : Bool). settle_fault s.rules b h ≡ []) once three.0) walked_fit in
      let fit : AllFit s.rules rows = defaults_fit s.rules s.rules (settled s.rules h).rows all four.0 settled_fit in
      let none : (not (s.subcommand_negates_reqs && has) && list_any (is_wanting rows) s.rules) ≡ false = none_wanting _ _ _ four.1 in
      let given : list_any (is_wanting rows) s.rules ≡ false = subst (λ (b : Bool). (not (b && has) && list_any (is_wanting rows) s.rules) ≡ false) always none in
      let there : has_row id rows ≡ true = elim sure [
        | inl must ↦ given_there rows id (required s.rules rows id a found must given)
        | inr some ↦ defaulted s.rules (settled s.rules h).rows id a some found
      ] in
      holds_row s.rules rows id a fit found there
