-- What a scan finds, byte by byte.
use Rattle.std.proofs.Common.{◌≡◌, ◌≤◌, ◌+◌, ◌-◌, ◌==◌, ◌&&◌, ◌||◌, ℕ, Bool, true, false, not, List, [], ◌∷◌, ◌++◌, length, take, drop, refl, ap, sym, subst, ◌∙◌, inl, inr, append_assoc, append-nil, arith, length-append, length-drop}
use Rattle.std.specs.List.{AllByRecursion}
use Rattle.std.proofs.lemmas.List.{drop-take, take_all}
use Rattle.pact_record.proofs.Lists.{AllByRecursion-append}
use Rattle.text_lines.specs.LineGrammar.{IsComment, IsGap, ends_word, is_blank}
use Rattle.text_marks.specs.LineParts.{HasNoWord, IsNextWord, bytes_between, escapes, is_open}
use Rattle.text_marks.specs.Scanning.{BeginsWord, HasGap, HasLiteral, HasPlain, HasWord, IsBehindGap}

-- ---- Booleans

and_true : (a b : Bool) → a ≡ true → b ≡ true → (a && b) ≡ true
and_true true b p q = q
and_true false b p q = p

and_left : (a b : Bool) → (a && b) ≡ true → a ≡ true
and_left true b p = refl
and_left false b p = p

and_right : (a b : Bool) → (a && b) ≡ true → b ≡ true
and_right true b p = p
and_right false b p = let no : ⊥ = cc in absurd no

no_close : (before quote : Bool) → (not before && quote) ≡ false → ((before || not quote) && true) ≡ true
no_close true quote n = refl
no_close false true n = let no : ⊥ = cc in absurd no
no_close false false n = refl

-- ---- one byte more

pub front_next : (bytes front rest behind : List ℕ) (b : ℕ) → bytes ≡ front ++ rest → rest ≡ b ∷ behind → bytes ≡ (front ++ b ∷ []) ++ behind
front_next bytes front rest behind b e r = e ∙ ap (λ (x : List ℕ). front ++ x) r ∙ sym (append_assoc front (b ∷ []) behind)

pub escapes_last : (before : Bool) (bytes : List ℕ) (b : ℕ) → escapes before (bytes ++ b ∷ []) ≡ (not (escapes before bytes) && (b == 92))
escapes_last before [] b = refl
escapes_last before (x ∷ bytes) b = escapes_last (not before && (x == 92)) bytes b

pub open_last : (before : Bool) (bytes : List ℕ) (b : ℕ) → is_open before bytes ≡ true → (not (escapes before bytes) && (b == 34)) ≡ false → is_open before (bytes ++ b ∷ []) ≡ true
open_last before [] b o n = no_close before (b == 34) n
open_last before (x ∷ bytes) b o n =
    and_true (before || not (x == 34)) (is_open (not before && (x == 92)) (bytes ++ b ∷ []))
    (and_left (before || not (x == 34)) (is_open (not before && (x == 92)) bytes) o)
    (open_last (not before && (x == 92)) bytes b (and_right (before || not (x == 34)) (is_open (not before && (x == 92)) bytes) o) n)

-- ---- gaps and plain words

left_of : (bytes front rest : List ℕ) → bytes ≡ front ++ rest → length bytes - length rest ≡ length front
left_of bytes front rest e = omega (arith, ap length e, length-append front rest)

all_of : (bytes front : List ℕ) → bytes ≡ front ++ [] → length bytes ≡ length front
all_of bytes front e = omega (arith, ap length e, length-append front [])

pub is_behind : (rest behind : List ℕ) (b : ℕ) → rest ≡ b ∷ behind → is_blank b ≡ false → IsBehindGap rest
is_behind rest behind b r n = rw r n

pub gap_here : (bytes front rest behind : List ℕ) (b : ℕ) → bytes ≡ front ++ rest → IsGap front → rest ≡ b ∷ behind → is_blank b ≡ false → HasGap bytes (length bytes - length rest)
gap_here bytes front rest behind b e g r n = (front, rest, e, left_of bytes front rest e, g, is_behind rest behind b r n)

pub gap_all : (bytes front : List ℕ) → bytes ≡ front ++ [] → IsGap front → HasGap bytes (length bytes)
gap_all bytes front e g = (front, [], e, all_of bytes front e, g, tt)

pub plain_here : (bytes front rest behind : List ℕ) (b : ℕ) → bytes ≡ front ++ rest → AllByRecursion (λ c. ends_word c ≡ false) front → rest ≡ b ∷ behind → ends_word b ≡ true
    → HasPlain bytes (length bytes - length rest)
plain_here bytes front rest behind b e g r n = (front, rest, e, left_of bytes front rest e, g, rw r n)

pub plain_all : (bytes front : List ℕ) → bytes ≡ front ++ [] → AllByRecursion (λ c. ends_word c ≡ false) front → HasPlain bytes (length bytes)
plain_all bytes front e g = (front, [], e, all_of bytes front e, g, tt)

-- What follows the gap is neither blank nor a word that goes on from it.
drop_front : (front rest : List ℕ) → drop (length front) (front ++ rest) ≡ rest
drop_front [] rest = refl
drop_front (b ∷ front) rest = drop_front front rest

pub behind_front : (bytes front rest : List ℕ) (count : ℕ) → bytes ≡ front ++ rest → count ≡ length front → drop count bytes ≡ rest
behind_front bytes front rest count e c = ap (λ (n : ℕ). drop n bytes) c ∙ ap (λ (x : List ℕ). drop (length front) x) e ∙ drop_front front rest

pub behind_gap : (bytes : List ℕ) (count : ℕ) → HasGap bytes count → IsBehindGap (drop count bytes)
behind_gap bytes count (front, rest, e, c, g, n) = rw (behind_front bytes front rest count e c) n

-- ---- loops

pub gap_next : (bytes front rest behind : List ℕ) (b : ℕ) → bytes ≡ front ++ rest → IsGap front → rest ≡ b ∷ behind → is_blank b ≡ true
    → (more : List ℕ) × (bytes ≡ more ++ behind) × IsGap more
gap_next bytes front rest behind b e g r n = (front ++ b ∷ [], front_next bytes front rest behind b e r, AllByRecursion-append (λ c. is_blank c ≡ true) front (b ∷ []) g (n, tt))

pub plain_next : (bytes front rest behind : List ℕ) (b : ℕ) → bytes ≡ front ++ rest → AllByRecursion (λ c. ends_word c ≡ false) front → rest ≡ b ∷ behind → ends_word b ≡ false
    → (more : List ℕ) × (bytes ≡ more ++ behind) × AllByRecursion (λ c. ends_word c ≡ false) more
plain_next bytes front rest behind b e g r n = (front ++ b ∷ [], front_next bytes front rest behind b e r, AllByRecursion-append (λ c. ends_word c ≡ false) front (b ∷ []) g (n, tt))

pub open_next : (bytes front rest behind : List ℕ) (b : ℕ) (escaped next : Bool) → bytes ≡ front ++ rest → is_open false front ≡ true → escapes false front ≡ escaped → rest ≡ b ∷ behind
    → (not escaped && (b == 34)) ≡ false → next ≡ (not escaped && (b == 92))
    → (more : List ℕ) × (bytes ≡ more ++ behind) × (is_open false more ≡ true) × (escapes false more ≡ next)
open_next bytes front rest behind b escaped next e o s r n k = (
  front ++ b ∷ [],
  front_next bytes front rest behind b e r,
  open_last false front b o (subst (λ (x : Bool). (not x && (b == 34)) ≡ false) (sym s) n),
  escapes_last false front b ∙ ap (λ (x : Bool). not x && (b == 92)) s ∙ sym k,
)

-- ---- literals

pub literal_closed : (bytes front rest behind : List ℕ) (b n : ℕ) → bytes ≡ front ++ rest → rest ≡ b ∷ behind → is_open false front ≡ true → escapes false front ≡ false → b ≡ 34
    → HasPlain behind n → HasLiteral bytes (length bytes - length behind + n)
literal_closed bytes front rest behind b n e r o s q (plain, more, p, c, a, w) =
    inr (
      front,
      plain,
      more,
      e ∙ ap (λ (x : List ℕ). front ++ x) (r ∙ ap (λ (y : ℕ). y ∷ behind) q ∙ ap (λ (x : List ℕ). 34 ∷ x) p),
      omega (arith, ap length e, length-append front rest, ap length r, c),
      o,
      s,
      a,
      w,
    )

pub literal_open : (bytes front : List ℕ) → bytes ≡ front ++ [] → is_open false front ≡ true → HasLiteral bytes (length bytes)
literal_open bytes front e o = inl (refl, rw (e ∙ append-nil front) o)

-- ---- words

pub literal_word : (inside : List ℕ) (n : ℕ) → HasLiteral inside n → HasWord (34 ∷ inside) (1 + n)
literal_word inside n (inl (c, o)) = (34 ∷ inside, [], ap (λ (x : List ℕ). 34 ∷ x) (sym (append-nil inside)), omega (arith, c), (tt, inr (inr (inside, refl, o, refl))))
literal_word inside n (inr (closed, tail, rest, e, c, o, s, a, w)) = (
  34 ∷ (closed ++ 34 ∷ tail),
  rest,
  ap (λ (x : List ℕ). 34 ∷ x) (e ∙ sym (append_assoc closed (34 ∷ tail) rest)),
  omega (arith, c, length-append closed (34 ∷ tail)),
  (w, inr (inl (closed, tail, refl, o, s, a))),
)

pub plain_word : (b : ℕ) (behind : List ℕ) (n : ℕ) → (b == 34) ≡ false → ends_word b ≡ false → HasPlain behind n → HasWord (b ∷ behind) (1 + n)
plain_word b behind n q first (plain, rest, e, c, a, w) =
    (b ∷ plain, rest, ap (λ (x : List ℕ). b ∷ x) e, omega (arith, c), (w, inl (q, (first, a))))

pub quoted_word : (bytes inside : List ℕ) (b n : ℕ) → bytes ≡ b ∷ inside → b ≡ 34 → HasLiteral inside n → HasWord bytes (1 + n)
quoted_word bytes inside b n e q l = subst (λ (x : List ℕ). HasWord x (1 + n)) (sym (e ∙ ap (λ (y : ℕ). y ∷ inside) q)) (literal_word inside n l)

first_of : (bytes behind : List ℕ) (b : ℕ) → bytes ≡ b ∷ behind → BeginsWord bytes → ends_word b ≡ false
first_of bytes behind b e w = rw e at w

pub other_word : (bytes behind : List ℕ) (b n : ℕ) → bytes ≡ b ∷ behind → (b == 34) ≡ false → BeginsWord bytes → HasPlain behind n → HasWord bytes (1 + n)
other_word bytes behind b n e q w p = subst (λ (x : List ℕ). HasWord x (1 + n)) (sym e) (plain_word b behind n q (first_of bytes behind b e w) p)

-- ---- the next word

pub next_is : (text rest more : List ℕ) (line at end gap count from to : ℕ) → rest ≡ bytes_between at end text → HasGap rest gap → more ≡ drop gap rest → HasWord more count → from ≡ at + gap → to ≡ from + count
    → IsNextWord text line at end (record { line = line; from = from; to = to })
next_is text rest more line at end gap count from to there (blanks, behind, e, c, g, n) m (word, left, f, d, w) first last =
    let starts : from ≡ at + length blanks = omega (arith, first, c) in
    let ends : to ≡ at + length blanks + length word = omega (arith, first, c, last, d) in
    (blanks, word, left, sym there ∙ e ∙ ap (λ (x : List ℕ). blanks ++ x) (sym (behind_front rest blanks behind gap e c) ∙ sym m ∙ f), g, w, (λ i. record { line = line; from = starts i; to = ends i }))

pub none_is : (text rest more : List ℕ) (at end gap : ℕ) → rest ≡ bytes_between at end text → HasGap rest gap → more ≡ drop gap rest → IsComment more → HasNoWord text at end
none_is text rest more at end gap there (blanks, behind, e, c, g, n) m k =
    (blanks, more, sym there ∙ e ∙ ap (λ (x : List ℕ). blanks ++ x) (sym (behind_front rest blanks behind gap e c) ∙ sym m), g, k)

between_is : (text : List ℕ) (at end : ℕ) → at ≤ end → take (end - at) (drop at text) ≡ bytes_between at end text
between_is text at end h = sym (drop-take at (end - at) text) ∙ ap (λ (n : ℕ). drop at (take n text)) (omega (arith, h))

all_left : (rest : List ℕ) (gap : ℕ) → take (length rest - gap) (drop gap rest) ≡ drop gap rest
all_left rest gap = take_all (length rest - gap) (drop gap rest) (omega (arith, length-drop gap rest))

pub next_found : (text : List ℕ) (line at end gap count : ℕ) → at ≤ end → HasGap (take (end - at) (drop at text)) gap
    → HasWord (take (length (take (end - at) (drop at text)) - gap) (drop gap (take (end - at) (drop at text)))) count
    → IsNextWord text line at end (record { line = line; from = at + gap; to = at + gap + count })
next_found text line at end gap count h g w =
    let rest = take (end - at) (drop at text) in
    next_is text rest (take (length rest - gap) (drop gap rest)) line at end gap count (at + gap) (at + gap + count) (between_is text at end h) g (all_left rest gap) w refl refl

pub none_found : (text : List ℕ) (at end gap : ℕ) → at ≤ end → HasGap (take (end - at) (drop at text)) gap
    → IsComment (take (length (take (end - at) (drop at text)) - gap) (drop gap (take (end - at) (drop at text)))) → HasNoWord text at end
none_found text at end gap h g k =
    let rest = take (end - at) (drop at text) in
    none_is text rest (take (length rest - gap) (drop gap rest)) at end gap (between_is text at end h) g (all_left rest gap) k
