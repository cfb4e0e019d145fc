-- A canonical line is read back as its words, and words that were read from a line can be written again. A text of
-- canonical lines has the same lines for any text after it.
use Rattle.std.proofs.Common.{◌≡◌, ◌==◌, ◌*◌, inl, inr, ℕ, zero, suc, Bool, true, false, List, [], ◌∷◌, ◌++◌, map, flat_map, replicate, IsUtf8, refl, ap, sym, subst, ◌∙◌, arith, ◌<◌, append-nil, ◌^◌, ◌&&◌, ◌+◌, ◌%◌, ℤ, pos, negsuc, nat_lt, nat_le, length, FitsSigned, w64, decimal, ◌≢◌, append_assoc}
use Rattle.std.specs.List.{AllByRecursion}
use Rattle.std.proofs.lemmas.Bool.{eqb-true, or_parts, and_from, and_parts, lt-ltb, ltb-true, ne_eqb}
use Rattle.std.proofs.lemmas.Bool.Decides.{nat_tests}
use Rattle.std.proofs.lemmas.List.Folds.{list_any-append}
use Rattle.std.proofs.lemmas.Str.{IsUtf8-nil, IsUtf8-append}
use Rattle.pact_record.proofs.Lists.{AllByRecursion-weaker}
use Rattle.text_lines.specs.CanonicalLines.{word_text, canonical_line, IsLineWord, AreLineWords, escaped, literal, spaced, line_spelling}
use Rattle.text_lines.specs.LineGrammar.{LineWord, plain_word, literal_word, needs_escape, SpellsByte, SpellsBytes, SpellsWord, SpellsWords, IsGap, IsWordEnd, IsLine, has_return, ends_word}
use Rattle.text_lines.specs.TextLines.{HasWords, trimmed, Say, lines_of}
use Rattle.text_lines.proofs.TextLines.{has_feed, lines_of-feed}
use Rattle.text_lines.proofs.Utf8Texts.{IsUtf8-spelling, IsUtf8-around_ascii, IsUtf8-ascii, IsUtf8-meaning, IsUtf8-before_ascii, IsUtf8-behind_ascii}
use Rattle.std.specs.Fmt.{signed_decimal}
use Rattle.std.proofs.lemmas.Fmt.{decimal_by_steps}
use Rattle.tac_syntax.specs.Grammar.{IsLiteral}
use Rattle.tac_syntax.specs.Names.{is_file_byte, is_file_name, all_bytes, is_small_letter, is_name_byte, is_name}

-- ---- literals

-- A byte is spelled by its own escape, or is its own spelling.
spelled_byte : (b : ℕ) (backslash quote feed return tab : Bool)
    → (b == 92) ≡ backslash → (b == 34) ≡ quote → (b == 10) ≡ feed → (b == 13) ≡ return → (b == 9) ≡ tab → SpellsByte (escaped b) b
spelled_byte b true quote feed return tab p q r s t = let e = eqb-true b 92 p in rw e (inr (92, refl, refl))
spelled_byte b false true feed return tab p q r s t = let e = eqb-true b 34 q in rw e (inr (34, refl, refl))
spelled_byte b false false true return tab p q r s t = let e = eqb-true b 10 r in rw e (inr (110, refl, refl))
spelled_byte b false false false true tab p q r s t = let e = eqb-true b 13 s in rw e (inr (114, refl, refl))
spelled_byte b false false false false true p q r s t = let e = eqb-true b 9 t in rw e (inr (116, refl, refl))
spelled_byte b false false false false false p q r s t =
    let same : escaped b ≡ b ∷ [] = rw (p, q, r, s, t) refl in
    let own : needs_escape b ≡ false = rw (p, q, s) refl in
    inl (same, own)

SpellsBytes-escaped : (bytes : List ℕ) → SpellsBytes (flat_map escaped bytes) bytes
SpellsBytes-escaped [] = refl
SpellsBytes-escaped (b ∷ bytes) =
    (escaped b, flat_map escaped bytes, refl, spelled_byte b (b == 92) (b == 34) (b == 10) (b == 13) (b == 9) refl refl refl refl refl, SpellsBytes-escaped bytes)

-- ---- no carriage return, and UTF-8

-- bytes without fault 1
record IsClean (bytes : List ℕ) : Type 0 where
  utf8 : IsUtf8 bytes
  no_return : has_return bytes ≡ false

has_return-append : (x y : List ℕ) → has_return x ≡ false → has_return y ≡ false → has_return (x ++ y) ≡ false
has_return-append x y h k = list_any-append (λ (b : ℕ). b == 13) x y ∙ rw (h, k) refl

IsClean-append : (x y : List ℕ) → IsClean x → IsClean y → IsClean (x ++ y)
IsClean-append x y p q = record { utf8 = IsUtf8-append x y p.utf8 q.utf8; no_return = has_return-append x y p.no_return q.no_return }

pub has_feed-append : (x y : List ℕ) → has_feed x ≡ false → has_feed y ≡ false → has_feed (x ++ y) ≡ false
has_feed-append x y h k = list_any-append (λ (b : ℕ). b == 10) x y ∙ rw (h, k) refl

-- An escape has neither of the bytes that end a line.
clean_return : (b : ℕ) → has_return (escaped b) ≡ false
clean_return b = grind (arith, nat_tests)

clean_feed : (b : ℕ) → has_feed (escaped b) ≡ false
clean_feed b = grind (arith, nat_tests)

clean_escapes : (bytes : List ℕ) → (has_return (flat_map escaped bytes) ≡ false) × (has_feed (flat_map escaped bytes) ≡ false)
clean_escapes [] = (refl, refl)
clean_escapes (b ∷ bytes) =
    let others = clean_escapes bytes in
    (has_return-append (escaped b) (flat_map escaped bytes) (clean_return b) others.0, has_feed-append (escaped b) (flat_map escaped bytes) (clean_feed b) others.1)

pub has_feed-escaped : (bytes : List ℕ) → has_feed (flat_map escaped bytes) ≡ false
has_feed-escaped bytes = (clean_escapes bytes).1

IsClean-literal : (bytes : List ℕ) → IsUtf8 bytes → IsClean (literal bytes)
IsClean-literal bytes h =
    let inside = flat_map escaped bytes in
    let utf8 = IsUtf8-spelling [] inside bytes (SpellsBytes-escaped bytes) h in
    record {
      utf8 = IsUtf8-around_ascii [] 34 (inside ++ 34 ∷ []) (omega arith) IsUtf8-nil (IsUtf8-around_ascii inside 34 [] (omega arith) utf8 IsUtf8-nil);
      no_return = has_return-append inside (34 ∷ []) (clean_escapes bytes).0 refl;
    }

IsClean-word_text : (word : LineWord) → IsLineWord word → IsClean (word_text word)
IsClean-word_text (plain_word bytes) h = record { utf8 = h.1; no_return = h.2 }
IsClean-word_text (literal_word bytes) h = IsClean-literal bytes h.1

-- words after others, with a space before each
abbrev more_text : List LineWord → List ℕ
more_text words = flat_map (λ v. 32 ∷ v) (map word_text words)

-- A property that holds for spaces, and for two texts joined, holds for a line if it holds for its words.
pub record OfTexts (P : List ℕ → Type 0) : Type 0 where
  pub nothing : P []
  pub space : P (32 ∷ [])
  pub both : (x y : List ℕ) → P x → P y → P (x ++ y)

of_spaces : (P : List ℕ → Type 0) → OfTexts P → (n : ℕ) → P (replicate n 32)
of_spaces P o zero = o.nothing
of_spaces P o (suc n) = o.both (32 ∷ []) (replicate n 32) o.space (of_spaces P o n)

of_more : (P : List ℕ → Type 0) → OfTexts P → (words : List LineWord) → AllByRecursion (λ w. P (word_text w)) words → P (more_text words)
of_more P o [] h = o.nothing
of_more P o (word ∷ words) h = o.both (32 ∷ word_text word) (more_text words) (o.both (32 ∷ []) (word_text word) o.space h.0) (of_more P o words h.1)

pub of_line : (P : List ℕ → Type 0) → OfTexts P → (depth : ℕ) (words : List LineWord) → AllByRecursion (λ w. P (word_text w)) words → P (canonical_line depth words)
of_line P o depth [] h = o.both (replicate (2 * depth) 32) [] (of_spaces P o (2 * depth)) o.nothing
of_line P o depth (word ∷ words) h =
    o.both (replicate (2 * depth) 32) (word_text word ++ more_text words) (of_spaces P o (2 * depth)) (o.both (word_text word) (more_text words) h.0 (of_more P o words h.1))

clean_texts : OfTexts IsClean
clean_texts = record {
  nothing = record { utf8 = IsUtf8-nil; no_return = refl };
  space = record { utf8 = IsUtf8-ascii 32 (omega arith); no_return = refl };
  both = IsClean-append;
}

-- ---- words

SpellsWord-word_text : (word : LineWord) → IsLineWord word → SpellsWord (word_text word) word
SpellsWord-word_text (plain_word bytes) h = (refl, h.0)
SpellsWord-word_text (literal_word bytes) h = (flat_map escaped bytes, refl, SpellsBytes-escaped bytes, h.0)

ends_at_more : (words : List LineWord) → IsWordEnd (more_text words)
ends_at_more [] = tt
ends_at_more (word ∷ words) = refl

SpellsWords-more_text : (words : List LineWord) → AreLineWords words → SpellsWords (more_text words) words
SpellsWords-more_text [] h = ([], [], refl, tt, tt)
SpellsWords-more_text (word ∷ words) h =
    (32 ∷ [], word_text word, more_text words, refl, (refl, tt), SpellsWord-word_text word h.0, ends_at_more words, SpellsWords-more_text words h.1)

SpellsWords-spaced : (gap : List ℕ) (words : List LineWord) → IsGap gap → AreLineWords words → SpellsWords (gap ++ spaced (map word_text words)) words
SpellsWords-spaced gap [] g h = (gap, [], refl, g, tt)
SpellsWords-spaced gap (word ∷ words) g h =
    (gap, word_text word, more_text words, refl, g, SpellsWord-word_text word h.0, ends_at_more words, SpellsWords-more_text words h.1)

IsGap-spaces : (n : ℕ) → IsGap (replicate n 32)
IsGap-spaces zero = tt
IsGap-spaces (suc n) = (refl, IsGap-spaces n)

-- ---- lines

pub IsLine-canonical_line : (depth : ℕ) (words : List LineWord) → AreLineWords words → IsLine (canonical_line depth words) words
IsLine-canonical_line depth words h =
    let clean = of_line IsClean clean_texts depth words (AllByRecursion-weaker IsLineWord (λ (w : LineWord). IsClean (word_text w)) words IsClean-word_text h) in
    (clean.utf8, clean.no_return, SpellsWords-spaced (replicate (2 * depth) 32) words (IsGap-spaces (2 * depth)) h)

pub IsLine-written : (line : List ℕ) (depth : ℕ) (words : List LineWord) → AreLineWords words → line ≡ canonical_line depth words → IsLine line words
IsLine-written line depth words h e = subst (λ (x : List ℕ). IsLine x words) (sym e) (IsLine-canonical_line depth words h)

-- ---- lines of a text

trimmed-no_return : (line : List ℕ) → has_return line ≡ false → trimmed line ≡ line
trimmed-no_return [] h = refl
trimmed-no_return (b ∷ []) h = let p = or_parts (b == 13) false h in rw p.0 refl
trimmed-no_return (b ∷ c ∷ line) h = let p = or_parts (b == 13) (has_return (c ∷ line)) h in ap (λ (x : List ℕ). b ∷ x) (trimmed-no_return (c ∷ line) p.1)

-- A canonical line also has its words as a line of a text.
pub HasWords-canonical_line : (depth : ℕ) (words : List LineWord) → AreLineWords words → HasWords (canonical_line depth words) words
HasWords-canonical_line depth words h =
    let line = IsLine-canonical_line depth words h in
    subst (λ (x : List ℕ). IsLine x words) (sym (trimmed-no_return (canonical_line depth words) line.1)) line

-- ---- words that were read

ends_word-ascii : (b : ℕ) → ends_word b ≡ true → b < 128
ends_word-ascii b h = grind (arith, nat_tests)

IsUtf8-behind_gap : (gap rest : List ℕ) → IsGap gap → IsUtf8 (gap ++ rest) → IsUtf8 rest
IsUtf8-behind_gap [] rest g h = h
IsUtf8-behind_gap (b ∷ gap) rest g h =
    IsUtf8-behind_gap gap rest g.1 (IsUtf8-behind_ascii [] b (gap ++ rest) (ends_word-ascii b (let blank = g.0 in rw blank refl)) h)

IsUtf8-before_end : (text rest : List ℕ) → IsWordEnd rest → IsUtf8 (text ++ rest) → IsUtf8 text
IsUtf8-before_end text [] end h = subst IsUtf8 (append-nil text) h
IsUtf8-before_end text (b ∷ rest) end h = IsUtf8-before_ascii text b rest (ends_word-ascii b end) h

IsUtf8-at_end : (text rest : List ℕ) → IsWordEnd rest → IsUtf8 (text ++ rest) → IsUtf8 rest
IsUtf8-at_end text [] end h = IsUtf8-nil
IsUtf8-at_end text (b ∷ rest) end h =
    let ascii = ends_word-ascii b end in
    IsUtf8-around_ascii [] b rest ascii IsUtf8-nil (IsUtf8-behind_ascii text b rest ascii h)

has_return-parts : (x y : List ℕ) → has_return (x ++ y) ≡ false → (has_return x ≡ false) × (has_return y ≡ false)
has_return-parts x y h = or_parts (has_return x) (has_return y) (sym (list_any-append (λ (b : ℕ). b == 13) x y) ∙ h)

IsLineWord-spelled : (text : List ℕ) (word : LineWord) → SpellsWord text word → IsUtf8 text → has_return text ≡ false → IsLineWord word
IsLineWord-spelled text (plain_word bytes) h utf8 return = (h.1, subst IsUtf8 h.0 utf8, subst (λ (x : List ℕ). has_return x ≡ false) h.0 return)
IsLineWord-spelled text (literal_word bytes) h utf8 return =
    let opened = IsUtf8-behind_ascii [] 34 (h.0 ++ 34 ∷ []) (omega arith) (subst IsUtf8 h.1 utf8) in
    let inside = IsUtf8-before_ascii h.0 34 [] (omega arith) opened in
    (h.3, IsUtf8-meaning [] h.0 bytes h.2 inside)

AreLineWords-spelled : (line : List ℕ) (words : List LineWord) → SpellsWords line words → IsUtf8 line → has_return line ≡ false → AreLineWords words
AreLineWords-spelled line [] h utf8 return = tt
AreLineWords-spelled line (word ∷ words) h utf8 return =
    let behind = IsUtf8-behind_gap h.0 (h.1 ++ h.2) h.4 (subst IsUtf8 h.3 utf8) in
    let parts = has_return-parts h.1 h.2 (has_return-parts h.0 (h.1 ++ h.2) (subst (λ (x : List ℕ). has_return x ≡ false) h.3 return)).1 in
    (IsLineWord-spelled h.1 word h.5 (IsUtf8-before_end h.1 h.2 h.6 behind) parts.0, AreLineWords-spelled h.2 words h.7 (IsUtf8-at_end h.1 h.2 h.6 behind) parts.1)

pub AreLineWords-IsLine : (line : List ℕ) (words : List LineWord) → IsLine line words → AreLineWords words
AreLineWords-IsLine line words h = AreLineWords-spelled line words h.2 h.0 h.1

-- ---- words of letters, digits and signs

-- above the number sign, and ASCII
abbrev pub is_fine : ℕ → Bool
is_fine b = nat_lt 35 b && nat_lt b 128

abbrev pub are_fine : List ℕ → Bool
are_fine bytes = all_bytes is_fine bytes

-- not empty, and each byte is fine
abbrev pub is_fine_word : List ℕ → Bool
is_fine_word [] = false
is_fine_word (b ∷ bytes) = are_fine (b ∷ bytes)

abbrev pub IsFine : LineWord → Type 0
IsFine (plain_word bytes) = is_fine_word bytes ≡ true
IsFine (literal_word bytes) = IsLiteral bytes

abbrev pub AreFine : List LineWord → Type 0
AreFine words = AllByRecursion IsFine words

-- what is known of their bytes
record FineBytes (bytes : List ℕ) : Type 0 where
  unbroken : AllByRecursion (λ c. ends_word c ≡ false) bytes
  utf8 : IsUtf8 bytes
  no_return : has_return bytes ≡ false
  no_feed : has_feed bytes ≡ false

fine_bytes : (bytes : List ℕ) → are_fine bytes ≡ true → FineBytes bytes
fine_bytes [] h = record { unbroken = tt; utf8 = IsUtf8-nil; no_return = refl; no_feed = refl }
fine_bytes (b ∷ bytes) h =
    let p = and_parts (is_fine b) (are_fine bytes) h in
    let q = and_parts (nat_lt 35 b) (nat_lt b 128) p.0 in
    let above = ltb-true 35 b q.0 in
    let below = ltb-true b 128 q.1 in
    let more = fine_bytes bytes p.1 in
    record {
      unbroken = (rw (ne_eqb b 32 (λ e. omega arith), ne_eqb b 9 (λ e. omega arith), ne_eqb b 35 (λ e. omega arith)) refl, more.unbroken);
      utf8 = IsUtf8-around_ascii [] b bytes below IsUtf8-nil more.utf8;
      no_return = rw (ne_eqb b 13 (λ e. omega arith), more.no_return) refl;
      no_feed = rw (ne_eqb b 10 (λ e. omega arith), more.no_feed) refl;
    }

no_quote : (b : ℕ) (bytes : List ℕ) → are_fine (b ∷ bytes) ≡ true → (b == 34) ≡ false
no_quote b bytes h =
    let p = and_parts (is_fine b) (are_fine bytes) h in
    let above = ltb-true 35 b (and_parts (nat_lt 35 b) (nat_lt b 128) p.0).0 in
    ne_eqb b 34 (λ e. omega arith)

IsLineWord-plain : (bytes : List ℕ) → is_fine_word bytes ≡ true → IsLineWord (plain_word bytes)
IsLineWord-plain [] h = absurd cc
IsLineWord-plain (b ∷ bytes) h =
    let known = fine_bytes (b ∷ bytes) h in
    ((no_quote b bytes h, known.unbroken), known.utf8, known.no_return)

IsLineWord-fine : (word : LineWord) → IsFine word → IsLineWord word
IsLineWord-fine (plain_word bytes) h = IsLineWord-plain bytes h
IsLineWord-fine (literal_word bytes) h = h

pub AreLineWords-fine : (words : List LineWord) → AreFine words → AreLineWords words
AreLineWords-fine words h = AllByRecursion-weaker IsFine IsLineWord words IsLineWord-fine h

-- ---- parts of words

all_bytes-append : (passes : ℕ → Bool) (x y : List ℕ) → all_bytes passes x ≡ true → all_bytes passes y ≡ true → all_bytes passes (x ++ y) ≡ true
all_bytes-append passes [] y h k = k
all_bytes-append passes (b ∷ x) y h k = let p = and_parts (passes b) (all_bytes passes x) h in and_from (passes b) _ p.0 (all_bytes-append passes x y p.1 k)

pub is_fine_word-append : (x y : List ℕ) → is_fine_word x ≡ true → are_fine y ≡ true → is_fine_word (x ++ y) ≡ true
is_fine_word-append [] y h k = absurd cc
is_fine_word-append (b ∷ x) y h k = all_bytes-append is_fine (b ∷ x) y h k

pub are_fine-word : (bytes : List ℕ) → is_fine_word bytes ≡ true → are_fine bytes ≡ true
are_fine-word [] h = absurd cc
are_fine-word (b ∷ bytes) h = h

fine_between : (b : ℕ) → 35 < b → b < 128 → is_fine b ≡ true
fine_between b h k = and_from (nat_lt 35 b) (nat_lt b 128) (lt-ltb 35 b h) (lt-ltb b 128 k)

fine_digit : (n : ℕ) → n < 10 → is_fine_word ((48 + n) ∷ []) ≡ true
fine_digit n h = rw (fine_between (48 + n) (omega arith) (omega (arith, h))) refl

pub fine_decimal : (n : ℕ) → n < 2 ^ 64 → is_fine_word (decimal n) ≡ true
fine_decimal = decimal_by_steps (λ _ ds. is_fine_word ds ≡ true) (λ n h. fine_digit n h)
    (λ n ds h p. is_fine_word-append ds ((48 + n % 10) ∷ []) p (are_fine-word ((48 + n % 10) ∷ []) (fine_digit (n % 10) (omega arith))))

-- a letter or a sign, and a number
pub fine_numbered : (b n : ℕ) → is_fine b ≡ true → n < 2 ^ 64 → is_fine_word (b ∷ decimal n) ≡ true
fine_numbered b n h k = and_from (is_fine b) (are_fine (decimal n)) h (are_fine-word (decimal n) (fine_decimal n k))

pub fine_signed : (z : ℤ) → FitsSigned w64 z → is_fine_word (signed_decimal z) ≡ true
fine_signed (pos n) h = fine_decimal n (omega (arith, h))
fine_signed (negsuc n) h = fine_numbered 45 (suc n) refl (omega (arith, h))

pub all_more : (test more : ℕ → Bool) → ((b : ℕ) → test b ≡ true → more b ≡ true) → (bytes : List ℕ) → all_bytes test bytes ≡ true → all_bytes more bytes ≡ true
all_more test more f [] h = refl
all_more test more f (b ∷ bytes) h =
    let parts = and_parts (test b) _ h in and_from (more b) _ (f b parts.0) (all_more test more f bytes parts.1)

fine_name_byte : (b : ℕ) → is_name_byte b ≡ true → is_fine b ≡ true
fine_name_byte b h = grind (arith, nat_tests)

fine_file_byte : (b : ℕ) → is_file_byte b ≡ true → is_fine b ≡ true
fine_file_byte b h = grind (arith, nat_tests)

fine_letter : (b : ℕ) → is_small_letter b ≡ true → is_fine b ≡ true
fine_letter b h = grind (arith, nat_tests)

pub fine_name : (name : List ℕ) → is_name name ≡ true → is_fine_word name ≡ true
fine_name [] h = absurd cc
fine_name (b ∷ name) h =
    let p = and_parts (is_small_letter b && all_bytes is_name_byte name) (nat_le (length name) 31) h in
    let q = and_parts (is_small_letter b) (all_bytes is_name_byte name) p.0 in
    and_from (is_fine b) (are_fine name) (fine_letter b q.0) (all_more is_name_byte is_fine fine_name_byte name q.1)

pub fine_file_name : (name : List ℕ) → is_file_name name ≡ true → is_fine_word name ≡ true
fine_file_name [] h = absurd cc
fine_file_name (b ∷ bytes) h =
    let p = and_parts (nat_le 1 (length (b ∷ bytes)) && nat_le (length (b ∷ bytes)) 200) _ h in all_more is_file_byte is_fine fine_file_byte (b ∷ bytes) p.1

-- ---- no line feeds

has_feed-word_text : (word : LineWord) → IsFine word → has_feed (word_text word) ≡ false
has_feed-word_text (plain_word bytes) h = (fine_bytes bytes (are_fine-word bytes h)).no_feed
has_feed-word_text (literal_word bytes) h = has_feed-append (flat_map escaped bytes) (34 ∷ []) (has_feed-escaped bytes) refl

pub has_feed-canonical_line : (depth : ℕ) (words : List LineWord) → AreFine words → has_feed (canonical_line depth words) ≡ false
has_feed-canonical_line depth words h =
    let no_feed : OfTexts (λ x. has_feed x ≡ false) = record { nothing = refl; space = refl; both = has_feed-append } in
    of_line (λ (x : List ℕ). has_feed x ≡ false) no_feed depth words (AllByRecursion-weaker IsFine (λ (w : LineWord). has_feed (word_text w) ≡ false) words has_feed-word_text h)

pub record IsWritten (text : List ℕ) (lines : List (List ℕ)) (said : List (List LineWord)) : Type 0 where
  pub parts : (rest : List ℕ) → lines_of (text ++ rest) ≡ lines ++ lines_of rest
  pub says : Say lines said

pub nothing_written : IsWritten [] [] []
nothing_written = record { parts = λ rest. refl; says = refl }

pub line_written : (depth : ℕ) (words : List LineWord) → AreFine words → words ≢ [] → IsWritten (line_spelling depth words) (canonical_line depth words ∷ []) (words ∷ [])
line_written depth words fine some = record {
  parts = λ rest. ap lines_of (append_assoc (canonical_line depth words) (10 ∷ []) rest) ∙ lines_of-feed (canonical_line depth words) rest (has_feed-canonical_line depth words fine);
  says = inr (words, [], refl, some, HasWords-canonical_line depth words (AreLineWords-fine words fine), refl);
}

Say-append : (a b : List (List ℕ)) (x y : List (List LineWord)) → Say a x → Say b y → Say (a ++ b) (x ++ y)
Say-append [] b x y h k = rw h k
Say-append (line ∷ a) b x y (inl h) k = inl (h.0, Say-append a b x y h.1 k)
Say-append (line ∷ a) b x y (inr h) k = inr (h.0, h.1 ++ y, ap (λ (z : List (List LineWord)). z ++ y) h.2, h.3, h.4, Say-append a b h.1 y h.5 k)

pub IsWritten-append : (a b : List ℕ) (k l : List (List ℕ)) (x y : List (List LineWord)) → IsWritten a k x → IsWritten b l y → IsWritten (a ++ b) (k ++ l) (x ++ y)
IsWritten-append a b k l x y h i = record {
  parts = λ rest. ap lines_of (append_assoc a b rest) ∙ h.parts (b ++ rest) ∙ ap (λ (z : List (List ℕ)). k ++ z) (i.parts rest) ∙ sym (append_assoc k l (lines_of rest));
  says = Say-append k l x y h.says i.says;
}

pub Say-written : (text : List ℕ) (lines : List (List ℕ)) (said : List (List LineWord)) → IsWritten text lines said → Say (lines_of text) said
Say-written text lines said h =
    let all = ap lines_of (sym (append-nil text)) ∙ h.parts [] ∙ append-nil lines in
    subst (λ (x : List (List ℕ)). Say x said) (sym all) h.says
