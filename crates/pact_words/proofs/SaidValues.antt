-- The meaning of an argument's value, if its parser takes the value.
use Rattle.std.proofs.Common.{◌≡◌, ◌∙◌, ◌<◌, ◌≤◌, ◌^◌, refl, sym, ap, subst, ℕ, Bool, cond, List, [], ◌∷◌, length, Option, Some, None, option_and_then, true, false, ◌&&◌, ◌||◌, if◌then◌else◌, pos, codes, Result, Ok, Err, nat_lt, true≢false}
use Rattle.std.specs.List.{list_all}
use Rattle.std.specs.Char.{digit_value}
use Rattle.std.specs.Str.{bytes_eq}
use Rattle.std.specs.Str.Parse.{AllDigits, IsNumeral, ParsesBool, ParsesUnsigned, digits_value, without_leading_plus}
use Rattle.std.proofs.lemmas.Bool.{ltb-true, lt-ltb}
use Rattle.std.proofs.lemmas.Slice.Eq.{bytes_eq-Decides}
use Rattle.clap.specs.Facts.{parser_of_value}
use Rattle.clap.specs.Kinds.{value_kinds}
use Rattle.clap.specs.Matches.{ReadsOne}
use Rattle.clap.specs.Values.{IsSignedIn, reading_of, refused_kind, read_as}
use Rattle.clap.specs.Lexer.{without_minus}
use Rattle.clap.specs.ValueTests.{accepts, is_numeral}
use Rattle.clap.specs.Walk.{Row, Rule, Text, first_of, one_of}
use Rattle.clap.specs.Words.{one_text, rows_of}
use Rattle.clap.specs.declared.parser.matches.Found.{Found}
use Rattle.clap.specs.declared.builder.value_parser.ValueParser.{ValueParser}
use Rattle.clap.specs.declared.builder.value_parser.ValueParser.TheVariants as vp
use Rattle.clap.proofs.WalkLemmas.{both, one_text-rows}
use Rattle.clap.proofs.ValueTestLemmas.{accepts-Accepts}
use Rattle.clap.proofs.CallerReads.{signed_reads}
use Rattle.pact_words.specs.FoundValues.{flag_of, flag_said, number_of, number_said}
use Rattle.pact_words.proofs.GivenValues.{Holds}

accepted : (i : Bool) (p : ValueParser) (t : Text) → value_kinds i p t ≡ [] → accepts i p t ≡ true
accepted i p t e = go (accepts i p t) e
  where
    go : (b : Bool) → (if b then [] else refused_kind p ∷ []) ≡ [] → b ≡ true
    go true e = refl
    go false e = cc

-- the only value of an argument with this parser, which takes it
taken : (name : Text) (rows : List Row) (a : Rule) (p : ValueParser) → a.parser ≡ Some p → (h : Holds rows name a)
    → (accepts a.ignore_case p h.text ≡ true) × (one_of name rows ≡ Some (read_as (reading_of p) h.text))
taken name rows a p is h = (
  accepted a.ignore_case p h.text (subst (λ (o : Option ValueParser). value_kinds a.ignore_case (parser_of_value o) h.text ≡ []) is h.passes),
  subst (λ (o : Option ValueParser). one_of name rows ≡ Some (read_as (reading_of (parser_of_value o)) h.text)) is h.one,
)

-- if the value of the text that was found is r, r is the argument's value in the rows
pub read-said : {A : Type 0} (said : Text → Option A) (found : Found) (name : Text) (r : Option A) → (one_text found name ≡ None → r ≡ None) → ((t : Text) → one_text found name ≡ Some t → said t ≡ r)
    → r ≡ option_and_then said (one_of name (rows_of found))
read-said said found name r missing says = go (one_text found name) refl
  where
    go : (o : Option Text) → one_text found name ≡ o → r ≡ option_and_then said (one_of name (rows_of found))
    go None e = missing e ∙ sym (ap (option_and_then said) (sym (one_text-rows found name) ∙ e))
    go (Some t) e = sym (says t e) ∙ sym (ap (option_and_then said) (sym (one_text-rows found name) ∙ e))

-- ---- numbers

all_digits : (ds : List ℕ) → list_all (λ d. nat_lt (digit_value d) 10) ds ≡ true → AllDigits 10 ds
all_digits [] e = tt
all_digits (d ∷ ds) e =
    let parts = both _ _ e in
    (ltb-true _ _ parts.0, all_digits ds parts.1)

digits_pass : (ds : List ℕ) → AllDigits 10 ds → list_all (λ d. nat_lt (digit_value d) 10) ds ≡ true
digits_pass [] h = refl
digits_pass (d ∷ ds) h = rw (lt-ltb (digit_value d) 10 h.0) (digits_pass ds h.1)

-- the digits write a 32-bit number
abbrev is_written : List ℕ → Bool
is_written ds = is_numeral ds && nat_lt (digits_value 10 ds) (2 ^ 32)

written_numeral : (ds : List ℕ) → is_written ds ≡ true → IsNumeral 10 ds × (digits_value 10 ds < 2 ^ 32)
written_numeral ds e =
    let two = both _ _ e in
    let three = both _ _ two.0 in
    ((ltb-true _ _ three.0, all_digits ds three.1), ltb-true _ _ two.1)

numeral_written : (ds : List ℕ) → IsNumeral 10 ds → digits_value 10 ds < 2 ^ 32 → is_written ds ≡ true
numeral_written ds h small = rw (lt-ltb 0 (length ds) h.0, digits_pass ds h.1, lt-ltb (digits_value 10 ds) (2 ^ 32) small) refl

abbrev Parses : Text → Result ℕ (Unit {0}) → Type 0
Parses t r = ParsesUnsigned 32 10 t r

-- std parses a text as the number that it means
said_parses : (t : Text) → ReadsOne Parses t (number_said t)
said_parses t = go (is_written (without_leading_plus t)) refl
  where
    go : (b : Bool) → is_written (without_leading_plus t) ≡ b → ReadsOne Parses t (cond b (Some (digits_value 10 (without_leading_plus t))) None)
    go true e = (written_numeral (without_leading_plus t) e, refl)
    go false e = (tt, λ h. true≢false (sym (numeral_written (without_leading_plus t) h.0 h.1) ∙ e))

-- the number that std parses is the one that the text means
pub parsed_said : (E : Type 0) (gives : Text → Result ℕ E → Type 0) (t : Text) (r : Option ℕ)
    → ((u : Text) (x : Result ℕ E) → gives u x → ParsesUnsigned 32 10 u x) → ReadsOne gives t r → number_said t ≡ r
parsed_said E gives t (Some n) only h =
    let p = only t (Ok n) h in
    rw (numeral_written (without_leading_plus t) p.0.0 p.0.1) (ap Some (sym p.1))
parsed_said E gives t None only h = go (is_written (without_leading_plus t)) refl
  where
    go : (b : Bool) → is_written (without_leading_plus t) ≡ b → cond b (Some (digits_value 10 (without_leading_plus t))) None ≡ None
    go true e = absurd (only t (Err h.0) h.1 (written_numeral (without_leading_plus t) e))
    go false e = refl

-- a number within its range
pub record HasNumber (name : Text) (rows : List Row) (least most : ℕ) : Type 0 where
  pub number : ℕ
  pub is : number_of name rows ≡ Some number
  pub least_of : least ≤ number
  pub most_of : number ≤ most

pub has_number : (name : Text) (rows : List Row) (a : Rule) (least most : ℕ) → most < 2 ^ 32
    → a.parser ≡ Some (vp.Signed (pos least) (pos most)) → Holds rows name a → HasNumber name rows least most
has_number name rows a least most small is h =
    let parser = vp.Signed (pos least) (pos most) in
    let value = taken name rows a parser is h in
    let signed : IsSignedIn (pos least) (pos most) h.text = accepts-Accepts a.ignore_case parser h.text value.0 in
    let text = without_minus h.text in
    let got = signed_reads (Unit {0}) Parses 32 least most h.text (number_said text) (said_parses text) (λ u x g. g) small signed in
    let one : one_of name rows ≡ Some text = value.1 in
    record { number = got.0; is = ap (option_and_then number_said) one ∙ got.1; least_of = got.2; most_of = got.3 }

-- ---- flags

-- the value that std parses is the one that the flag means
pub parsed_flag : (E : Type 0) (t : Text) (r : Option Bool) → ReadsOne (ParsesBool {E = E}) t r → flag_said t ≡ r
parsed_flag E t (Some true) h = rw ((bytes_eq-Decides t (codes "true")).1 h) refl
parsed_flag E t (Some false) h = rw h refl
parsed_flag E t None h = go (bytes_eq t (codes "true")) refl (bytes_eq t (codes "false")) refl
  where
    go : (x : Bool) → bytes_eq t (codes "true") ≡ x → (y : Bool) → bytes_eq t (codes "false") ≡ y → cond x (Some true) (cond y (Some false) None) ≡ None
    go true p y q = absurd (h.1.0 ((bytes_eq-Decides t (codes "true")).0 p))
    go false p true q = absurd (h.1.1 ((bytes_eq-Decides t (codes "false")).0 q))
    go false p false q = refl

pub record HasFlag (name : Text) (rows : List Row) : Type 0 where
  pub flag : Bool
  pub is : flag_of name rows ≡ Some flag

some_flag : (t : Text) → (bytes_eq t (codes "true") || bytes_eq t (codes "false")) ≡ true → (b : Bool) × (flag_said t ≡ Some b)
some_flag t e = go (bytes_eq t (codes "true")) (bytes_eq t (codes "false")) e
  where
    go : (x y : Bool) → (x || y) ≡ true → (b : Bool) × (cond x (Some true) (cond y (Some false) None) ≡ Some b)
    go true y e = (true, refl)
    go false true e = (false, refl)
    go false false e = absurd (true≢false (sym e))

pub has_flag : (name : Text) (rows : List Row) (a : Rule) → a.parser ≡ Some vp.Bool → Holds rows name a → HasFlag name rows
has_flag name rows a is h =
    let value = taken name rows a vp.Bool is h in
    let one : one_of name rows ≡ Some h.text = value.1 in
    let got = some_flag h.text value.0 in
    record { flag = got.0; is = ap (option_and_then flag_said) one ∙ got.1 }

-- ---- texts

pub record HasText (name : Text) (rows : List Row) : Type 0 where
  pub text : Text
  pub is : first_of name rows ≡ Some text

pub has_text : (name : Text) (rows : List Row) (a : Rule) → Holds rows name a → HasText name rows
has_text name rows a h = record { text = h.text; is = h.first }
