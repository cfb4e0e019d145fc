-- A line end after a text changes nothing that is read from it. Between tokens it is a space. After a word it ends the
-- word as the end of the text does. Inside a string or an escape it would leave that unclosed, as the end of the text
-- does.
use Rattle.std.proofs.Common.{◌≡◌, ◌+◌, ◌-◌, ◌==◌, ◌&&◌, ◌||◌, ℕ, Bool, true, false, cond, nat_eq, nat_lt, List, [], ◌∷◌, ◌++◌, length, take, drop, codes, Option, Some, None, option_map, option_and_then, refl, sym, ap, ◌∙◌, arith, length-append}
use Rattle.std.proofs.Math.Bool.{and-false, and_assoc}
use Rattle.std.proofs.lemmas.List.{drop-append-le, take-append-le}
use Rattle.std.proofs.lemmas.List.Sums.{prefix_len-le-length}
use Rattle.std.proofs.lemmas.Str.{IsUtf8-append}
use Rattle.std.specs.Char.{encode_utf8, is_ascii_digit}
use Rattle.std.specs.Cmp.Lexicographic.{pointwise}
use Rattle.std.specs.List.{AllByRecursion, prefix_len}
use Rattle.json.specs.Json as json
use Rattle.json.specs.Lex.{Class, quote, backslash, operator, space, other, class, Lexeme, Mode, between, in_word, in_string, in_escape, Place, fresh, lex, lex_byte, operator_lexeme, punctuate, string_token, tokens}
use Rattle.json.specs.Lex as lexemes
use Rattle.json.specs.Text.{Within, plain, after_backslash, after_u, after_high, code_unit, content, is_high_surrogate, is_low_surrogate, prepend, short_escape, surrogate_pair}
use Rattle.json.specs.Token.{Token, boolean, null, bad}
use Rattle.json.specs.Word.{after_digits, after_exponent, after_fraction, after_minus, after_number, after_sign, after_whole, ends_word, literal, number_before, word}
use Rattle.json.specs.Ascii as ascii
use Rattle.serde_json.specs.Read.{max_depth, of_json, read}
use Rattle.swap_certificate.specs.declared.certificates.Certificate.{Certificate}
use Rattle.swap_certificate.specs.Shape.{IsCertificateText}
use Rattle.swap_certificate.proofs.WritableTexts.{text-IsUtf8}

abbrev line_end : List ℕ
line_end = codes "\n"

-- ---- strings

abbrev none_of_text : Option (List ℕ)
none_of_text = None

-- a line feed isn't a hex digit
code_unit-line : (a b c : ℕ) → code_unit a b c 10 ≡ None
unfolding code_unit
code_unit-line a b c = simp and-false

none_anyway : (b : Bool) → cond b None None ≡ none_of_text
none_anyway true = refl
none_anyway false = refl

content-line : (w : Within) (xs : List ℕ) → content w (xs ++ line_end) ≡ content w xs
unfolding content short_escape
content-line plain [] = refl
content-line plain (x ∷ xs) =
    λ i. cond (x == ascii.quote) (Some []) (cond (x == ascii.backslash) (content-line after_backslash xs i) (cond (nat_lt x ascii.space) None (prepend (x ∷ []) (content-line plain xs i))))
content-line after_backslash [] = refl
content-line after_backslash (x ∷ xs) =
    λ i. cond (x == ascii.lower_u) (content-line after_u xs i) (option_and_then (λ (c : ℕ). prepend (c ∷ []) (content-line plain xs i)) (short_escape x))
content-line after_u [] = refl
content-line after_u (a ∷ []) = refl
content-line after_u (a ∷ b ∷ []) = refl
content-line after_u (a ∷ b ∷ c ∷ []) = rw (code_unit-line a b c) refl
content-line after_u (a ∷ b ∷ c ∷ d ∷ xs) =
    λ i. option_and_then
    (λ (u : ℕ). cond (is_high_surrogate u) (content-line (after_high u) xs i) (cond (is_low_surrogate u) None (prepend (encode_utf8 u) (content-line plain xs i)))) (code_unit a b c d)
content-line (after_high h) [] = refl
content-line (after_high h) (s ∷ []) = refl
content-line (after_high h) (s ∷ u ∷ []) = refl
content-line (after_high h) (s ∷ u ∷ a ∷ []) = refl
content-line (after_high h) (s ∷ u ∷ a ∷ b ∷ []) = refl
content-line (after_high h) (s ∷ u ∷ a ∷ b ∷ c ∷ []) = rw (code_unit-line a b c) (none_anyway ((s == ascii.backslash) && (u == ascii.lower_u)))
content-line (after_high h) (s ∷ u ∷ a ∷ b ∷ c ∷ d ∷ xs) =
    λ i. cond ((s == ascii.backslash) && (u == ascii.lower_u))
    (option_and_then (λ (l : ℕ). cond (is_low_surrogate l) (prepend (encode_utf8 (surrogate_pair h l)) (content-line plain xs i)) None) (code_unit a b c d)) None

-- ---- the three literals

ends_word-line : (t : List ℕ) → ends_word (t ++ line_end) ≡ ends_word t
ends_word-line [] = refl
ends_word-line (x ∷ xs) = refl

abbrev IsOneLine : List ℕ → Type 0
IsOneLine name = AllByRecursion (λ n. nat_eq n 10 ≡ false) name

-- the text begins with the name, and the word ends after it
abbrev begins_as : List ℕ → List ℕ → Bool
begins_as name t = pointwise nat_eq name (take (length name) t) && ends_word (drop (length name) t)

begins_as-line : (name t : List ℕ) → IsOneLine name → begins_as name (t ++ line_end) ≡ begins_as name t
begins_as-line [] t h = ends_word-line t
begins_as-line (n ∷ ns) [] h = rw h.0 refl
begins_as-line (n ∷ ns) (x ∷ xs) h =
    and_assoc (nat_eq n x) _ _ ∙ ap (λ (b : Bool). nat_eq n x && b) (begins_as-line ns xs h.1) ∙ sym (and_assoc (nat_eq n x) _ _)

literal-line : (name : List ℕ) (k : Token) (t : List ℕ) → IsOneLine name → literal name k (t ++ line_end) ≡ literal name k t
literal-line name k t h = ap (λ (b : Bool). cond b k bad) (begins_as-line name t h)

-- ---- numbers

-- the text that a part of a number leaves unread, followed by a line end
abbrev with_line : Option (List ℕ) → Option (List ℕ)
with_line left = option_map (λ r. r ++ line_end) left

either : (b : Bool) (p q r s : Option (List ℕ)) → r ≡ with_line p → s ≡ with_line q → cond b r s ≡ with_line (cond b p q)
either true p q r s e f = e
either false p q r s e f = f

skipped : (b : Bool) (t u : List ℕ) → cond b (t ++ line_end) (u ++ line_end) ≡ cond b t u ++ line_end
skipped true t u = refl
skipped false t u = refl

digits-line : (t : List ℕ) → prefix_len is_ascii_digit (t ++ line_end) ≡ prefix_len is_ascii_digit t
digits-line [] = refl
digits-line (x ∷ xs) = ap (λ (n : ℕ). cond (is_ascii_digit x) (1 + n) 0) (digits-line xs)

after_digits-line : (t : List ℕ) → after_digits (t ++ line_end) ≡ with_line (after_digits t)
after_digits-line t =
    let n = prefix_len is_ascii_digit t in
    ap (λ (k : ℕ). cond (k == 0) None (Some (drop k (t ++ line_end)))) (digits-line t)
    ∙ either (n == 0) None (Some (drop n t)) None _ refl (ap Some (drop-append-le n t line_end (prefix_len-le-length is_ascii_digit t)))

after_minus-line : (t : List ℕ) → after_minus (t ++ line_end) ≡ after_minus t ++ line_end
after_minus-line [] = refl
after_minus-line (x ∷ xs) = skipped (x == ascii.minus) xs (x ∷ xs)

after_sign-line : (t : List ℕ) → after_sign (t ++ line_end) ≡ after_sign t ++ line_end
after_sign-line [] = refl
after_sign-line (x ∷ xs) = skipped ((x == ascii.minus) || (x == ascii.plus)) xs (x ∷ xs)

after_whole-line : (t : List ℕ) → after_whole (t ++ line_end) ≡ with_line (after_whole t)
after_whole-line [] = refl
after_whole-line (x ∷ xs) = either (x == ascii.zero) (Some xs) (after_digits (x ∷ xs)) _ _ refl (after_digits-line (x ∷ xs))

after_fraction-line : (t : List ℕ) → after_fraction (t ++ line_end) ≡ with_line (after_fraction t)
after_fraction-line [] = refl
after_fraction-line (x ∷ xs) = either (x == ascii.dot) (after_digits xs) (Some (x ∷ xs)) _ _ (after_digits-line xs) refl

after_exponent-line : (t : List ℕ) → after_exponent (t ++ line_end) ≡ with_line (after_exponent t)
after_exponent-line [] = refl
after_exponent-line (x ∷ xs) =
    either ((x == ascii.lower_e) || (x == ascii.upper_e)) (after_digits (after_sign xs)) (Some (x ∷ xs)) _ _
    (ap after_digits (after_sign-line xs) ∙ after_digits-line (after_sign xs)) refl

-- one part after another
behind : (f : List ℕ → Option (List ℕ)) → ((t : List ℕ) → f (t ++ line_end) ≡ with_line (f t)) → (left : Option (List ℕ)) → option_and_then f (with_line left) ≡ with_line (option_and_then f left)
behind f h None = refl
behind f h (Some t) = h t

after_number-line : (t : List ℕ) → after_number (t ++ line_end) ≡ with_line (after_number t)
unfolding after_number
after_number-line t =
    let whole = ap after_whole (after_minus-line t) ∙ after_whole-line (after_minus t) in
    ap (λ (left : Option (List ℕ)). option_and_then after_exponent (option_and_then after_fraction left)) whole
    ∙ ap (option_and_then after_exponent) (behind after_fraction after_fraction-line (after_whole (after_minus t)))
    ∙ behind after_exponent after_exponent-line (option_and_then after_fraction (after_whole (after_minus t)))

number_before-line : (t : List ℕ) (left : Option (List ℕ)) → number_before (t ++ line_end) (with_line left) ≡ number_before t left
number_before-line t None = refl
number_before-line t (Some rest) =
    let size : length (t ++ line_end) - length (rest ++ line_end) ≡ length t - length rest = omega (arith, length-append t line_end, length-append rest line_end) in
    let front : take (length t - length rest) (t ++ line_end) ≡ take (length t - length rest) t = take-append-le (length t - length rest) t line_end (omega arith) in
    rw (ends_word-line rest, size, front) refl

-- ---- words

word-line : (x : ℕ) (xs : List ℕ) → word (x ∷ xs ++ line_end) ≡ word (x ∷ xs)
unfolding word
word-line x xs =
    let t = x ∷ xs in
    λ i. cond (x == ascii.lower_t) (literal-line ascii.true_text (boolean true) t (refl, (refl, (refl, (refl, tt)))) i)
    (cond (x == ascii.lower_f) (literal-line ascii.false_text (boolean false) t (refl, (refl, (refl, (refl, (refl, tt))))) i)
    (cond (x == ascii.lower_n) (literal-line ascii.null_text null t (refl, (refl, (refl, (refl, tt)))) i)
    ((ap (number_before (t ++ line_end)) (after_number-line t) ∙ number_before-line t (after_number t)) i)))

-- ---- tokens

step-line : (m : Mode) (c : Class) (x : ℕ) (xs : List ℕ) (k h : Mode → List Lexeme) → ((next : Mode) → k next ≡ h next) → lex_byte m c x (xs ++ line_end) k ≡ lex_byte m c x xs h
step-line between quote x xs k h e = λ i. lexemes.token (string_token (content-line plain xs i)) ∷ e in_string i
step-line between backslash x xs k h e = λ i. lexemes.token bad ∷ e in_word i
step-line between operator x xs k h e = λ i. operator_lexeme x ∷ e between i
step-line between space x xs k h e = e between
step-line between other x xs k h e = λ i. lexemes.token (word-line x xs i) ∷ e in_word i
step-line in_word quote x xs k h e = e in_word
step-line in_word backslash x xs k h e = e in_word
step-line in_word operator x xs k h e = λ i. operator_lexeme x ∷ e between i
step-line in_word space x xs k h e = e between
step-line in_word other x xs k h e = e in_word
step-line in_string quote x xs k h e = e between
step-line in_string backslash x xs k h e = e in_escape
step-line in_string operator x xs k h e = e in_string
step-line in_string space x xs k h e = e in_string
step-line in_string other x xs k h e = e in_string
step-line in_escape c x xs k h e = e in_string

lex-line : (m : Mode) (xs : List ℕ) → lex m (xs ++ line_end) ≡ lex m xs
unfolding lex
lex-line between [] = refl
lex-line in_word [] = refl
lex-line in_string [] = refl
lex-line in_escape [] = refl
lex-line m (x ∷ xs) = step-line m (class x) x xs (λ (next : Mode). lex next (xs ++ line_end)) (λ (next : Mode). lex next xs) (λ (next : Mode). lex-line next xs)

tokens-line : (text : List ℕ) → tokens (text ++ line_end) ≡ tokens text
tokens-line text = ap (punctuate fresh) (lex-line between text)

-- ---- values and certificates

pub read_line : (text : List ℕ) → read (text ++ codes "\n") ≡ read text
read_line text =
    ap (λ (ts : List Token). option_and_then of_json (option_and_then (λ p. json.if_last p.0 p.1) (json.value max_depth ts))) (tokens-line text)

pub line_is_text : (text : List ℕ) (c : Certificate) → IsCertificateText text c → IsCertificateText (text ++ codes "\n") c
line_is_text text c h = record {
  is_text = IsUtf8-append text (codes "\n") h.is_text (text-IsUtf8 (codes "\n") refl);
  value = h.value;
  is_read = read_line text ∙ h.is_read;
  shaped = h.shaped;
}
