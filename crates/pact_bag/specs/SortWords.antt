-- Two numbers for a list of values. They order lists as the values do, as far as the numbers differ.
use Rattle.std.specs.Prelude.{◌≡◌, ◌≤◌, ◌+◌, ◌-◌, ◌*◌, ◌&&◌, ℕ, zero, suc, ℤ, pos, negsuc, Bool, cond, nat_lt, List, [], ◌∷◌, length, take, drop}
use Rattle.std.specs.Cmp.Lexicographic.{slice_cmp}
use Rattle.std.specs.Ordering.{nat_cmp}
use Rattle.std.specs.declared.cmp.Ordering.{Ordering}
use Rattle.std.specs.declared.cmp.Ordering.TheVariants.{Less, Equal, Greater}
use Rattle.pact_record.specs.declared.values.Value.{Value}
use Rattle.pact_record.specs.declared.values.Value.TheVariants.{Null, Int, Text}

-- ---- texts: seven digits in base 257, and whether there are more bytes

-- 0 at the end of the text
abbrev pub digit : List ℕ → ℕ
digit [] = 0
digit (x ∷ t) = x + 1

abbrev pub tail : List ℕ → List ℕ
tail [] = []
tail (x ∷ t) = t

abbrev pub more : List ℕ → ℕ
more [] = 0
more (x ∷ t) = 1

-- n digits of the text after those of the number `high`
abbrev pub packed : ℕ → ℕ → List ℕ → ℕ
packed zero high t = high * 2 + more t
packed (suc n) high t = packed n (high * 257 + digit t) (tail t)

-- the first n digits are those of bytes
abbrev pub BeginsWithBytes : ℕ → List ℕ → Type 0
BeginsWithBytes zero t = Unit {0}
BeginsWithBytes (suc n) t = (digit t ≤ 256) × BeginsWithBytes n (tail t)

-- ---- numbers

-- the rank of a number among all of 64 bits, from 0 on
abbrev pub rank : ℤ → ℕ
rank (pos n) = 9223372036854775808 + n
rank (negsuc n) = 9223372036854775808 - (n + 1)

-- the words of texts are greater; that of Null is 0
abbrev pub last_number : ℕ
last_number = 18158513697557839871

-- no other rank has the same word
abbrev pub is_exact : ℕ → Bool
is_exact r = nat_lt 1 r && nat_lt r last_number

abbrev pub number_word : ℕ → ℕ
number_word r = cond (nat_lt 1 r) (cond (nat_lt r last_number) r last_number) 1

-- ---- texts, seen from those that begin with a prefix

pub data TextPlace : Type 0 where
  Before : TextPlace
  -- it begins with the prefix; `rest` is what follows
  Within : (rest : List ℕ) → TextPlace
  After : TextPlace

abbrev pub placed : Ordering → TextPlace → TextPlace
placed Less within = Before
placed Equal within = within
placed Greater within = After

abbrev pub place : List ℕ → List ℕ → TextPlace
place prefix t = placed (slice_cmp nat_cmp (take (length prefix) t) prefix) (Within (drop (length prefix) t))

abbrev pub word_at : TextPlace → ℕ
word_at Before = last_number + 1
word_at (Within t) = last_number + 1 + packed 7 0 t
word_at After = 18446744073709551615

abbrev pub rest_at : TextPlace → List Value → List Value
rest_at Before vs = []
rest_at (Within t) vs = cond (nat_lt 7 (length t)) (Text (drop 7 t) ∷ vs) vs
rest_at After vs = []

abbrev pub IsOfBytesAt : TextPlace → Type 0
IsOfBytesAt Before = Unit {0}
IsOfBytesAt (Within t) = BeginsWithBytes 7 t
IsOfBytesAt After = Unit {0}

-- ---- values; the prefix is for a text that comes first

abbrev pub word_of : List ℕ → List Value → ℕ
word_of prefix [] = 0
word_of prefix (Null ∷ vs) = 0
word_of prefix (Int z ∷ vs) = number_word (rank z)
word_of prefix (Text t ∷ vs) = word_at (place prefix t)

-- the values that order lists with the same word; none if the word doesn't determine the first value
abbrev pub rest_of : List ℕ → List Value → List Value
rest_of prefix [] = []
rest_of prefix (Null ∷ vs) = vs
rest_of prefix (Int z ∷ vs) = cond (is_exact (rank z)) vs []
rest_of prefix (Text t ∷ vs) = rest_at (place prefix t) vs

abbrev pub FirstIsOfBytes : List ℕ → List Value → Type 0
FirstIsOfBytes prefix [] = Unit {0}
FirstIsOfBytes prefix (Null ∷ vs) = Unit {0}
FirstIsOfBytes prefix (Int z ∷ vs) = Unit {0}
FirstIsOfBytes prefix (Text t ∷ vs) = IsOfBytesAt (place prefix t)

-- the words of a list, for any prefixes
pub record AreWords (prefix next_prefix : List ℕ) (values : List Value) (one two : ℕ) : Type 0 where
  pub first : one ≡ word_of prefix values
  pub bytes : FirstIsOfBytes prefix values
  pub second : two ≡ word_of next_prefix (rest_of prefix values)
  pub more_bytes : FirstIsOfBytes next_prefix (rest_of prefix values)
