-- If the words of two lists of values differ, they order the lists; if they are equal, the rests do.
use Rattle.std.proofs.Common.{cond, Bool, ◌≡◌, ◌≤◌, ◌<◌, ◌+◌, ◌*◌, ◌⊎◌, inl, inr, ℕ, zero, suc, ℤ, pos, negsuc, true, false, List, [], ◌∷◌, length, take, drop, refl, sym, ap, ◌∙◌, subst, arith}
use Rattle.std.proofs.lemmas.Bool.Decides.{nat_tests}
use Rattle.std.specs.Cmp.{nat_cmp_is, int_cmp_is}
use Rattle.std.specs.Cmp.Lexicographic.{slice_cmp}
use Rattle.std.specs.Ordering.{int_cmp, nat_cmp, ordering_then}
use Rattle.std.specs.Prelude.{nat_lt}
use Rattle.std.specs.declared.cmp.Ordering.{Ordering}
use Rattle.std.specs.declared.cmp.Ordering.TheVariants.{Less, Equal, Greater}
use Rattle.pact_record.specs.declared.values.Value.{Value}
use Rattle.pact_record.specs.declared.values.Value.TheVariants.{Null, Int, Text}
use Rattle.pact_record.specs.Record.{record_cmp}
use Rattle.pact_bag.specs.SortWords.{After, Before, BeginsWithBytes, FirstIsOfBytes, IsOfBytesAt, TextPlace, Within, digit, is_exact, last_number, more, number_word, packed, place, placed, rank, rest_at, rest_of, tail, word_at, word_of}

-- ---- texts

more_few : (t : List ℕ) → more t ≤ 1
more_few [] = omega arith
more_few (x ∷ t) = omega arith

-- if the digits before these differ, they decide
packed-high : (n : ℕ) (a b : ℕ) (s t : List ℕ) → a < b → BeginsWithBytes n s → BeginsWithBytes n t → packed n a s < packed n b t
packed-high zero a b s t h p q = let few = more_few s in omega (arith, few)
packed-high (suc n) a b s t h p q = packed-high n (a * 257 + digit s) (b * 257 + digit t) (tail s) (tail t) (omega (arith, p.0)) p.1 q.1

pub nat_cmp-less : (x y : ℕ) → x < y → nat_cmp x y ≡ Less
nat_cmp-less x y h = sym (nat_cmp_is x y Less h)

pub nat_cmp-equal : (x : ℕ) → nat_cmp x x ≡ Equal
nat_cmp-equal x = sym (nat_cmp_is x x Equal refl)

pub trichotomy : (x y : ℕ) → (x < y) ⊎ ((x ≡ y) ⊎ (y < x))
trichotomy x y = grind (arith, nat_tests)

pub packed-less : (n high : ℕ) (s t : List ℕ) → BeginsWithBytes n s → BeginsWithBytes n t → packed n high s < packed n high t → slice_cmp nat_cmp s t ≡ Less
packed-less zero high [] [] p q h = absurd (omega arith)
packed-less zero high [] (y ∷ t) p q h = refl
packed-less zero high (x ∷ s) [] p q h = absurd (omega arith)
packed-less zero high (x ∷ s) (y ∷ t) p q h = absurd (omega arith)
packed-less (suc n) high [] [] p q h = absurd (omega arith)
packed-less (suc n) high [] (y ∷ t) p q h = refl
packed-less (suc n) high (x ∷ s) [] p q h =
    let other = packed-high n (high * 257 + 0) (high * 257 + (x + 1)) [] s (omega arith) q.1 p.1 in
    absurd (omega (arith, other, h))
packed-less (suc n) high (x ∷ s) (y ∷ t) p q h = elim (trichotomy x y) [
  | inl lt ↦ λ i. ordering_then (nat_cmp-less x y lt i) (slice_cmp nat_cmp s t)
  | inr (inl e) ↦ (λ i. ordering_then ((ap (λ (z : ℕ). nat_cmp x z) (sym e) ∙ nat_cmp-equal x) i) (slice_cmp nat_cmp s t))
      ∙ packed-less n (high * 257 + (x + 1)) s t p.1 q.1 (subst (λ (z : ℕ). packed n (high * 257 + (x + 1)) s < packed n (high * 257 + (z + 1)) t) (sym e) h)
  | inr (inr gt) ↦ absurd (let other = packed-high n (high * 257 + (y + 1)) (high * 257 + (x + 1)) t s (omega arith) q.1 p.1 in omega (arith, other, h))
]

pub packed-same : (n high : ℕ) (s t : List ℕ) → BeginsWithBytes n s → BeginsWithBytes n t → packed n high s ≡ packed n high t
    → (slice_cmp nat_cmp s t ≡ slice_cmp nat_cmp (drop n s) (drop n t)) × (more (drop n s) ≡ more (drop n t))
packed-same zero high s t p q h = (refl, omega (arith, h))
packed-same (suc n) high [] [] p q h = (refl, refl)
packed-same (suc n) high [] (y ∷ t) p q h =
    absurd (let other = packed-high n (high * 257 + 0) (high * 257 + (y + 1)) [] t (omega arith) p.1 q.1 in omega (arith, other, h))
packed-same (suc n) high (x ∷ s) [] p q h =
    absurd (let other = packed-high n (high * 257 + 0) (high * 257 + (x + 1)) [] s (omega arith) q.1 p.1 in omega (arith, other, h))
packed-same (suc n) high (x ∷ s) (y ∷ t) p q h = elim (trichotomy x y) [
  | inl lt ↦ absurd (let other = packed-high n (high * 257 + (x + 1)) (high * 257 + (y + 1)) s t (omega (arith, lt)) p.1 q.1 in omega (arith, other, h))
  | inr (inl e) ↦
      let rest = packed-same n (high * 257 + (x + 1)) s t p.1 q.1 (subst (λ (z : ℕ). packed n (high * 257 + (x + 1)) s ≡ packed n (high * 257 + (z + 1)) t) (sym e) h) in
      ((λ i. ordering_then ((ap (λ (z : ℕ). nat_cmp x z) (sym e) ∙ nat_cmp-equal x) i) (slice_cmp nat_cmp s t)) ∙ rest.0, rest.1)
  | inr (inr gt) ↦ absurd (let other = packed-high n (high * 257 + (y + 1)) (high * 257 + (x + 1)) t s (omega (arith, gt)) q.1 p.1 in omega (arith, other, h))
]

-- ---- numbers

int_less : (y z : ℤ) → rank y < rank z → int_cmp y z ≡ Less
int_less (pos m) (pos n) h = grind (arith, nat_tests, h)
int_less (pos m) (negsuc n) h = absurd (omega (arith, h))
int_less (negsuc m) (pos n) h = refl
int_less (negsuc m) (negsuc n) h = grind (arith, nat_tests, h)

same_int : (y z : ℤ) → rank y ≡ rank z → 1 < rank y → y ≡ z
same_int (pos m) (pos n) e h = let f : m ≡ n = omega (arith, e) in ap pos f
same_int (pos m) (negsuc n) e h = absurd (omega (arith, e))
same_int (negsuc m) (pos n) e h = absurd (omega (arith, e))
same_int (negsuc m) (negsuc n) e h = let f : m ≡ n = omega (arith, e, h) in ap negsuc f

int_equal : (y : ℤ) → int_cmp y y ≡ Equal
int_equal y = sym (int_cmp_is y y Equal refl)

clamp_less : (m n : ℕ) → number_word m < number_word n → m < n
clamp_less m n h = grind (arith, nat_tests, h)

clamp_exact : (m n : ℕ) → number_word m ≡ number_word n → is_exact m ≡ true → (m ≡ n) × (1 < m) × (is_exact n ≡ true)
clamp_exact m n e h = grind (arith, nat_tests, e, h)

clamp_inexact : (m n : ℕ) → number_word m ≡ number_word n → is_exact m ≡ false → is_exact n ≡ false
clamp_inexact m n e h = grind (arith, nat_tests, e, h)

number_small : (n : ℕ) → (1 ≤ number_word n) × (number_word n ≤ last_number)
number_small n = grind (arith, nat_tests)

nil_from_more : (t : List ℕ) → more t ≡ 0 → t ≡ []
nil_from_more [] e = refl
nil_from_more (x ∷ t) e = absurd (omega (arith, e))

more-drop : (n : ℕ) (t : List ℕ) → nat_lt n (length t) ≡ true → more (drop n t) ≡ 1
more-drop n [] h = absurd (grind (arith, nat_tests, h))
more-drop zero (x ∷ t) h = refl
more-drop (suc n) (x ∷ t) h = more-drop n t (grind (arith, nat_tests, h))

no_more-drop : (n : ℕ) (t : List ℕ) → nat_lt n (length t) ≡ false → more (drop n t) ≡ 0
no_more-drop zero [] h = refl
no_more-drop (suc n) [] h = refl
no_more-drop zero (x ∷ t) h = absurd (grind (arith, nat_tests, h))
no_more-drop (suc n) (x ∷ t) h = no_more-drop n t (grind (arith, nat_tests, h))

-- ---- texts with a prefix

-- what the places of two texts determine about how these compare
abbrev Orders : TextPlace → TextPlace → Ordering → Type 0
Orders Before Before c = Unit {0}
Orders Before (Within t) c = c ≡ Less
Orders Before After c = c ≡ Less
Orders (Within s) Before c = Unit {0}
Orders (Within s) (Within t) c = c ≡ slice_cmp nat_cmp s t
Orders (Within s) After c = c ≡ Less
Orders After r c = Unit {0}

before_any : (r : TextPlace) (c : Ordering) → c ≡ Less → Orders Before r c
before_any Before c e = tt
before_any (Within t) c e = e
before_any After c e = e

any_before : (q : TextPlace) (c : Ordering) → Orders q Before c
any_before Before c = tt
any_before (Within s) c = tt
any_before After c = tt

any_after : (q : TextPlace) (c : Ordering) → c ≡ Less → Orders q After c
any_after Before c e = e
any_after (Within s) c e = e
any_after After c e = tt

-- how two bytes compare, by how each compares with a third
abbrev AgreeOn : Ordering → Ordering → Ordering → Type 0
AgreeOn Less Less c = Unit {0}
AgreeOn Less Equal c = c ≡ Less
AgreeOn Less Greater c = c ≡ Less
AgreeOn Equal Less c = Unit {0}
AgreeOn Equal Equal c = c ≡ Equal
AgreeOn Equal Greater c = c ≡ Less
AgreeOn Greater b c = Unit {0}

agree : (x y z : ℕ) → AgreeOn (nat_cmp y x) (nat_cmp z x) (nat_cmp y z)
agree x y z = by (nat_cmp y x) refl (nat_cmp z x) refl where
  by : (a : Ordering) → nat_cmp y x ≡ a → (b : Ordering) → nat_cmp z x ≡ b → AgreeOn a b (nat_cmp y z)
  by Less e Less f = tt
  by Less e Equal f = grind (arith, nat_tests, e, f)
  by Less e Greater f = grind (arith, nat_tests, e, f)
  by Equal e Less f = tt
  by Equal e Equal f = grind (arith, nat_tests, e, f)
  by Equal e Greater f = grind (arith, nat_tests, e, f)
  by Greater e b f = tt

one_byte : (a b c d : Ordering) (q r : TextPlace) → AgreeOn a b c → Orders q r d → Orders (placed a q) (placed b r) (ordering_then c d)
one_byte Less Less c d q r e h = tt
one_byte Less Equal c d q r e h = before_any r _ (λ i. ordering_then (e i) d)
one_byte Less Greater c d q r e h = λ i. ordering_then (e i) d
one_byte Equal Less c d q r e h = any_before q _
one_byte Equal Equal c d q r e h = subst (λ (o : Ordering). Orders q r (ordering_then o d)) (sym e) h
one_byte Equal Greater c d q r e h = any_after q _ (λ i. ordering_then (e i) d)
one_byte Greater b c d q r e h = tt

placed-then : (a b : Ordering) (q : TextPlace) → placed (ordering_then a b) q ≡ placed a (placed b q)
placed-then Less b q = refl
placed-then Equal b q = refl
placed-then Greater b q = refl

place-cons : (x y : ℕ) (prefix t : List ℕ) → place (x ∷ prefix) (y ∷ t) ≡ placed (nat_cmp y x) (place prefix t)
place-cons x y prefix t = placed-then (nat_cmp y x) (slice_cmp nat_cmp (take (length prefix) t) prefix) (Within (drop (length prefix) t))

-- places order texts, for any prefix
ordered : (prefix s t : List ℕ) → Orders (place prefix s) (place prefix t) (slice_cmp nat_cmp s t)
ordered [] s t = refl
ordered (x ∷ prefix) [] [] = tt
ordered (x ∷ prefix) [] (z ∷ t) = before_any (place (x ∷ prefix) (z ∷ t)) Less refl
ordered (x ∷ prefix) (y ∷ s) [] = any_before (place (x ∷ prefix) (y ∷ s)) Greater
ordered (x ∷ prefix) (y ∷ s) (z ∷ t) =
    let h = one_byte (nat_cmp y x) (nat_cmp z x) (nat_cmp y z) (slice_cmp nat_cmp s t) (place prefix s) (place prefix t) (agree x y z) (ordered prefix s t) in
    subst (λ (q : TextPlace). Orders q (place (x ∷ prefix) (z ∷ t)) (slice_cmp nat_cmp (y ∷ s) (z ∷ t))) (sym (place-cons x y prefix s))
    (subst (λ (r : TextPlace). Orders (placed (nat_cmp y x) (place prefix s)) r (slice_cmp nat_cmp (y ∷ s) (z ∷ t))) (sym (place-cons x z prefix t)) h)

text_word-above : (q : TextPlace) → last_number < word_at q
text_word-above Before = omega arith
text_word-above (Within t) = omega arith
text_word-above After = omega arith

text_word-below : (t : List ℕ) → BeginsWithBytes 7 t → word_at (Within t) < word_at After
text_word-below t p = let most = packed-high 7 0 1 t [] (omega arith) p (omega arith) in omega (arith, most)

texts_less : (q r : TextPlace) (c : Ordering) → IsOfBytesAt q → IsOfBytesAt r → Orders q r c → word_at q < word_at r → c ≡ Less
texts_less Before Before c p p' o h = absurd (omega arith)
texts_less Before (Within t) c p p' o h = o
texts_less Before After c p p' o h = o
texts_less (Within s) Before c p p' o h = absurd (omega (arith, h))
texts_less (Within s) (Within t) c p p' o h = o ∙ packed-less 7 0 s t p p' (omega (arith, h))
texts_less (Within s) After c p p' o h = o
texts_less After Before c p p' o h = absurd (omega arith)
texts_less After (Within t) c p p' o h = absurd (let most = text_word-below t p' in omega (arith, most, h))
texts_less After After c p p' o h = absurd (omega arith)

-- ---- lists of values

-- words that differ order the lists
pub word_less : (prefix : List ℕ) (a b : List Value) → FirstIsOfBytes prefix a → FirstIsOfBytes prefix b → word_of prefix a < word_of prefix b → record_cmp a b ≡ Less
word_less prefix [] [] p q h = absurd (omega arith)
word_less prefix [] (w ∷ b) p q h = refl
word_less prefix (v ∷ a) [] p q h = absurd (omega arith)
word_less prefix (Null ∷ a) (Null ∷ b) p q h = absurd (omega arith)
word_less prefix (Null ∷ a) (Int z ∷ b) p q h = refl
word_less prefix (Null ∷ a) (Text t ∷ b) p q h = refl
word_less prefix (Int y ∷ a) (Null ∷ b) p q h = absurd (omega arith)
word_less prefix (Int y ∷ a) (Int z ∷ b) p q h = λ i. ordering_then (int_less y z (clamp_less (rank y) (rank z) h) i) (record_cmp a b)
word_less prefix (Int y ∷ a) (Text t ∷ b) p q h = refl
word_less prefix (Text s ∷ a) (Null ∷ b) p q h = absurd (omega arith)
word_less prefix (Text s ∷ a) (Int z ∷ b) p q h = absurd (let small = number_small (rank z) in let above = text_word-above (place prefix s) in omega (arith, small.1, above, h))
word_less prefix (Text s ∷ a) (Text t ∷ b) p q h = λ i. ordering_then (texts_less (place prefix s) (place prefix t) _ p q (ordered prefix s t) h i) (record_cmp a b)

never_less : (a : List Value) → record_cmp a [] ≡ Less → ⊥
never_less [] e = cc
never_less (v ∷ a) e = cc

numbers_rest : (y z : ℤ) (a b : List Value) (exact : Bool) → is_exact (rank y) ≡ exact → number_word (rank y) ≡ number_word (rank z)
    → record_cmp (cond exact a []) (rest_of [] (Int z ∷ b)) ≡ Less → ordering_then (int_cmp y z) (record_cmp a b) ≡ Less
numbers_rest y z a b true is e h =
    let both = clamp_exact (rank y) (rank z) e is in
    let one = same_int y z both.0 both.1 in
    (λ i. ordering_then ((ap (λ (x : ℤ). int_cmp y x) (sym one) ∙ int_equal y) i) (record_cmp a b))
    ∙ subst (λ (t : Bool). record_cmp a (cond t b []) ≡ Less) both.2 h
numbers_rest y z a b false is e h = absurd (never_less [] (subst (λ (t : Bool). record_cmp [] (cond t b []) ≡ Less) (clamp_inexact (rank y) (rank z) e is) h))

long_texts_rest : (s t : List ℕ) (a b : List Value) (long other : Bool) → nat_lt 7 (length s) ≡ long → nat_lt 7 (length t) ≡ other
    → slice_cmp nat_cmp s t ≡ slice_cmp nat_cmp (drop 7 s) (drop 7 t) → more (drop 7 s) ≡ more (drop 7 t)
    → record_cmp (cond long (Text (drop 7 s) ∷ a) a) (cond other (Text (drop 7 t) ∷ b) b) ≡ Less
    → ordering_then (slice_cmp nat_cmp s t) (record_cmp a b) ≡ Less
long_texts_rest s t a b true true is others e m h = (λ i. ordering_then (e i) (record_cmp a b)) ∙ h
long_texts_rest s t a b true false is others e m h = absurd (let x = more-drop 7 s is in let y = no_more-drop 7 t others in omega (arith, x, y, m))
long_texts_rest s t a b false true is others e m h = absurd (let x = no_more-drop 7 s is in let y = more-drop 7 t others in omega (arith, x, y, m))
long_texts_rest s t a b false false is others e m h =
    let x = nil_from_more (drop 7 s) (no_more-drop 7 s is) in
    let y = nil_from_more (drop 7 t) (no_more-drop 7 t others) in
    (λ i. ordering_then ((e ∙ (λ j. slice_cmp nat_cmp (x j) (y j))) i) (record_cmp a b)) ∙ h

texts_rest : (q r : TextPlace) (c : Ordering) (a b : List Value) → IsOfBytesAt q → IsOfBytesAt r → Orders q r c → word_at q ≡ word_at r
    → record_cmp (rest_at q a) (rest_at r b) ≡ Less → ordering_then c (record_cmp a b) ≡ Less
texts_rest Before Before c a b p p' o e h = absurd (never_less [] h)
texts_rest Before (Within t) c a b p p' o e h = λ i. ordering_then (o i) (record_cmp a b)
texts_rest Before After c a b p p' o e h = λ i. ordering_then (o i) (record_cmp a b)
texts_rest (Within s) Before c a b p p' o e h = absurd (never_less _ h)
texts_rest (Within s) (Within t) c a b p p' o e h =
    let f : packed 7 0 s ≡ packed 7 0 t = omega (arith, e) in
    let same = packed-same 7 0 s t p p' f in
    (λ i. ordering_then (o i) (record_cmp a b)) ∙ long_texts_rest s t a b (nat_lt 7 (length s)) (nat_lt 7 (length t)) refl refl same.0 same.1 h
texts_rest (Within s) After c a b p p' o e h = λ i. ordering_then (o i) (record_cmp a b)
texts_rest After Before c a b p p' o e h = absurd (never_less [] h)
texts_rest After (Within t) c a b p p' o e h = absurd (let most = text_word-below t p' in omega (arith, most, e))
texts_rest After After c a b p p' o e h = absurd (never_less [] h)

-- if the words are equal, the rests order the lists
pub rest_less : (prefix : List ℕ) (a b : List Value) → FirstIsOfBytes prefix a → FirstIsOfBytes prefix b → word_of prefix a ≡ word_of prefix b
    → record_cmp (rest_of prefix a) (rest_of prefix b) ≡ Less → record_cmp a b ≡ Less
rest_less prefix [] [] p q e h = h
rest_less prefix [] (w ∷ b) p q e h = refl
rest_less prefix (v ∷ a) [] p q e h = absurd (never_less (rest_of prefix (v ∷ a)) h)
rest_less prefix (Null ∷ a) (Null ∷ b) p q e h = h
rest_less prefix (Null ∷ a) (Int z ∷ b) p q e h = refl
rest_less prefix (Null ∷ a) (Text t ∷ b) p q e h = refl
rest_less prefix (Int y ∷ a) (Null ∷ b) p q e h = absurd (let small = number_small (rank y) in omega (arith, small.0, e))
rest_less prefix (Int y ∷ a) (Int z ∷ b) p q e h = numbers_rest y z a b (is_exact (rank y)) refl e h
rest_less prefix (Int y ∷ a) (Text t ∷ b) p q e h = refl
rest_less prefix (Text s ∷ a) (Null ∷ b) p q e h = absurd (let above = text_word-above (place prefix s) in omega (arith, above, e))
rest_less prefix (Text s ∷ a) (Int z ∷ b) p q e h = absurd (let small = number_small (rank z) in let above = text_word-above (place prefix s) in omega (arith, small.1, above, e))
rest_less prefix (Text s ∷ a) (Text t ∷ b) p q e h = texts_rest (place prefix s) (place prefix t) _ a b p q (ordered prefix s t) e h
