-- The words of a header: no other header has them, they have no fault, and some line has them.
use Rattle.std.proofs.Common.{◌≡◌, ◌≢◌, ◌≤◌, ℕ, List, [], ◌∷◌, Option, Some, None, codes, bytes_eq, decimal, refl, ap, sym, subst, ◌∙◌, arith}
use Rattle.tac_syntax.specs.declared.functions.Kind.{Kind}
use Rattle.tac_syntax.specs.declared.functions.Kind.TheVariants.{Map, Match, Cross, Reduce, CoGroup}
use Rattle.tac_syntax.specs.Functions.{HasKeys, key_limit}
use Rattle.text_lines.specs.declared.line_words.LineWord.{LineWord}
use Rattle.text_lines.specs.declared.line_words.LineWord.TheVariants.{Plain as plain_word, Literal as literal_word}
use Rattle.text_lines.proofs.DigitWords.{is_in_range-decimal, number_in, number_in-decimal}
use Rattle.tac_text.specs.Places.{build_start}
use Rattle.tac_text.specs.FunctionStates.{OpenData, begun}
use Rattle.tac_text.specs.FunctionFaults.{kind_named, key_slots, keys_fault, kind_fault, named_fault, is_part_or_end, header_fault}
use Rattle.tac_text.specs.FunctionLines.{header, header_words, IsHeader, kind_word, key_words}
use Rattle.text_lines.specs.CanonicalLines.{AreLineWords}
use Rattle.text_lines.specs.Slots.{identifier, number, first_fault}
use Rattle.text_lines.proofs.FilledSlots.{filled, filled_line, none_left}
use Rattle.text_lines.proofs.Faultless.{by_cases, named_as, same_word}
use Rattle.text_lines.proofs.CanonicalLines.{AreFine, IsFine, fine_decimal, fine_name}

-- ---- a header's words have no fault

first_fault-keys : (kind : Kind) (keys : ℕ) → HasKeys kind keys → first_fault (key_slots kind) (key_words kind keys) ≡ None
first_fault-keys Reduce keys h = rw (is_in_range-decimal 1 key_limit keys h.0 h.1 (omega (arith, h.1))) refl
first_fault-keys CoGroup keys h = rw (is_in_range-decimal 1 key_limit keys h.0 h.1 (omega (arith, h.1))) refl
first_fault-keys kind keys h = refl

kind_named-kind_word : (kind : Kind) → kind_named (kind_word kind) ≡ Some kind
kind_named-kind_word Map = refl
kind_named-kind_word Match = refl
kind_named-kind_word Cross = refl
kind_named-kind_word Reduce = refl
kind_named-kind_word CoGroup = refl

pub header_fault-header_words : (name : List ℕ) (kind : Kind) (keys : ℕ) → IsHeader name kind keys → header_fault (header_words name kind keys) ≡ None
header_fault-header_words name kind keys h = rw (h.0, kind_named-kind_word kind) (first_fault-keys kind keys h.1)

-- ---- words without a fault are a header's

-- the header whose words these are
abbrev pub HeaderFor : List LineWord → Type 0
HeaderFor words = (name : List ℕ) × (kind : Kind) × (keys : ℕ) × (words ≡ header_words name kind keys) × IsHeader name kind keys

-- the words after a kind, with the number of keys
abbrev KeysFor : Kind → List LineWord → Type 0
KeysFor kind words = (keys : ℕ) × (words ≡ key_words kind keys) × HasKeys kind keys

some_keys : (words : List LineWord) → AreLineWords words → first_fault (number 1 key_limit ∷ []) words ≡ None → (keys : ℕ) × (words ≡ plain_word (decimal keys) ∷ []) × ((1 ≤ keys) × (keys ≤ key_limit))
some_keys words good h =
    let f = filled_line (number 1 key_limit ∷ []) words (omega arith, tt) good h in (f.0.0, f.1, f.2.0)

keys_of_words : (kind : Kind) (words : List LineWord) → AreLineWords words → first_fault (key_slots kind) words ≡ None → KeysFor kind words
keys_of_words Reduce words good h = some_keys words good h
keys_of_words CoGroup words good h = some_keys words good h
keys_of_words kind words good h = (0, none_left words h, refl)

-- the words after the name
abbrev KindFor : List LineWord → Type 0
KindFor words = (kind : Kind) × (keys : ℕ) × (words ≡ plain_word (kind_word kind) ∷ key_words kind keys) × HasKeys kind keys

kind_found : (word : List ℕ) (words : List LineWord) (kind : Kind) → AreLineWords words → word ≡ kind_word kind → first_fault (key_slots kind) words ≡ None → KindFor (plain_word word ∷ words)
kind_found word words kind good e h = let keys = keys_of_words kind words good h in (kind, keys.0, (λ i. plain_word (e i) ∷ keys.1 i), keys.2)

found_kind : (word : List ℕ) (words : List LineWord) (found : Option Kind) → AreLineWords words → kind_named word ≡ found → keys_fault found words ≡ None → KindFor (plain_word word ∷ words)
found_kind word words None good is h = absurd cc
found_kind word words (Some kind) good is h = kind_found word words kind good (named_as kind_word (Map ∷ Match ∷ Cross ∷ Reduce ∷ CoGroup ∷ []) word kind is) h

behind_name : (words : List LineWord) → AreLineWords words → kind_fault words ≡ None → KindFor words
behind_name [] good h = absurd cc
behind_name (plain_word word ∷ words) good h = found_kind word words (kind_named word) good.1 refl h
behind_name (literal_word bytes ∷ words) good h = absurd cc

behind_function : (first : List ℕ) (words : List LineWord) → AreLineWords words → first ≡ codes "function" → named_fault words ≡ None → HeaderFor (plain_word first ∷ words)
behind_function first words good e h =
    let f = filled kind_fault (identifier ∷ []) words (tt, tt) good h in
    let kind = behind_name f.more f.good f.faultless in
    let all = f.parts ∙ ap (λ (more : List LineWord). plain_word f.values.0 ∷ more) kind.2 in
    (f.values.0, kind.0, kind.1, (λ i. plain_word (e i) ∷ all i), (f.fit.0, kind.3))

pub header_of_words : (words : List LineWord) → words ≢ [] → AreLineWords words → header_fault words ≡ None → HeaderFor words
header_of_words [] some good h = absurd (some refl)
header_of_words (plain_word word ∷ words) some good h = by_cases (bytes_eq word (codes "function")) _ _
    (λ e k. behind_function word words good.1 (same_word word _ e) k) (λ _ k. by_cases (is_part_or_end word) _ _ (λ _ e. absurd cc) (λ _ e. absurd cc) k) h
header_of_words (literal_word bytes ∷ words) some good h = absurd cc

-- ---- words are those of one header

keys_value : (k m : ℕ) → k ≤ key_limit → m ≤ key_limit → decimal k ≡ decimal m → k ≡ m
keys_value k m h l e = sym (number_in-decimal k (omega (arith, h))) ∙ ap number_in e ∙ number_in-decimal m (omega (arith, l))

one_keys : (kind : Kind) (k m : ℕ) → HasKeys kind k → HasKeys kind m → key_words kind k ≡ key_words kind m → k ≡ m
one_keys Reduce k m h l e = keys_value k m h.1 l.1 (let same : decimal k ≡ decimal m = cc in same)
one_keys CoGroup k m h l e = keys_value k m h.1 l.1 (let same : decimal k ≡ decimal m = cc in same)
one_keys kind k m h l e = h ∙ sym l

-- Two headers with the same words are equal.
pub one_header : (a b : List ℕ) (j k : Kind) (m n : ℕ) → IsHeader a j m → IsHeader b k n → header_words a j m ≡ header_words b k n → header a j m ≡ header b k n
one_header a b j k m n h l e =
    let name : a ≡ b = cc in
    let word : kind_word j ≡ kind_word k = cc in
    let named : Some j ≡ Some k = sym (kind_named-kind_word j) ∙ ap kind_named word ∙ kind_named-kind_word k in
    let kind : j ≡ k = cc in
    let rest : key_words j m ≡ key_words k n = cc in
    let keys = one_keys k m n (subst (λ (x : Kind). HasKeys x m) kind h.1) l.1 (subst (λ (x : Kind). key_words x m ≡ key_words k n) kind rest) in
    λ i. header (name i) (kind i) (keys i)

-- The parts of a header are those of the only one with its words.
pub same_begun : (o : OpenData) (name : List ℕ) (kind : Kind) (keys : ℕ) → header o.name o.kind o.keys ≡ header name kind keys → o.build ≡ build_start → o ≡ begun name kind keys
same_begun o name kind keys e fresh =
    let a : o.name ≡ name = cc in
    let b : o.kind ≡ kind = cc in
    let d : o.keys ≡ keys = cc in
    λ i. record { name = a i; kind = b i; keys = d i; build = fresh i }

-- ---- words that some line has

fine_kind : (kind : Kind) → IsFine (plain_word (kind_word kind))
fine_kind Map = refl
fine_kind Match = refl
fine_kind Cross = refl
fine_kind Reduce = refl
fine_kind CoGroup = refl

fine_keys : (kind : Kind) (keys : ℕ) → HasKeys kind keys → AreFine (key_words kind keys)
fine_keys Reduce keys h = (fine_decimal keys (omega (arith, h.1)), tt)
fine_keys CoGroup keys h = (fine_decimal keys (omega (arith, h.1)), tt)
fine_keys kind keys h = tt

pub AreFine-header_words : (name : List ℕ) (kind : Kind) (keys : ℕ) → IsHeader name kind keys → AreFine (header_words name kind keys)
AreFine-header_words name kind keys h = (refl, (fine_name name h.0, (fine_kind kind, fine_keys kind keys h.1)))
