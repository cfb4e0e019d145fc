-- A line has the words that are read from it, and no others: each byte of a word, and each word, can be read in only
-- one way.
use Rattle.std.proofs.Common.{◌≡◌, ◌≢◌, ◌≤◌, ◌<◌, ◌-◌, ◌⊎◌, ◌==◌, ◌||◌, if◌then◌else◌, inl, inr, ℕ, Bool, true, false, List, [], ◌∷◌, ◌++◌, length, take, drop, get_or, Option, Some, None, refl, ap, sym, subst, ◌∙◌, append_assoc, length-append, arith, IsUtf8}
use Rattle.std.specs.List.{AllByRecursion}
use Rattle.std.proofs.lemmas.Bool.{eqb-true, eqb-false, ne_eqb, or_parts}
use Rattle.std.proofs.lemmas.List.{take_all}
use Rattle.std.proofs.lemmas.Option.{same_Some}
use Rattle.pact_record.specs.Limits.{text_limit}
use Rattle.text_lines.specs.LineGrammar.{LineWord, plain_word, literal_word, is_blank, ends_word, needs_escape, escaped_byte, SpellsByte, SpellsBytes, SpellsWord, SpellsWords, IsGap, IsComment, IsWordEnd, has_return, IsLine, IsGarbled, HasLineFault}
use Rattle.text_lines.specs.LineReading.{behind_gap, IsWordStart, plain_byte, before, escape_byte, literal_byte, byte_at, IsByte, Chain, IsStuck, IsWordAt, NextWord}
use Rattle.text_lines.proofs.Faultless.{by_cases}

-- ---- one thing after another

-- Each line goes on in only one way.
abbrev IsOneWay : {X : Type 0} → (List ℕ → X → List ℕ → Type 0) → Type 0
IsOneWay {X = X} Next = (line : List ℕ) (x y : X) (rest last : List ℕ) → Next line x rest → Next line y last → (x ≡ y) × (rest ≡ last)

pub Chain-last : {X : Type 0} (Next : List ℕ → X → List ℕ → Type 0) (line : List ℕ) (xs : List X) (rest : List ℕ) (x : X) (behind : List ℕ)
    → Chain Next line xs rest → Next rest x behind → Chain Next line (xs ++ x ∷ []) behind
Chain-last Next line [] rest x behind h k = (behind, subst (λ (l : List ℕ). Next l x behind) (sym h) k, refl)
Chain-last Next line (y ∷ xs) rest x behind h k = (h.0, h.1, Chain-last Next h.0 xs rest x behind h.2 k)

Chain-unique : {X : Type 0} (Next : List ℕ → X → List ℕ → Type 0) → IsOneWay Next → (line : List ℕ) (xs ys : List X) (rest last : List ℕ)
    → IsStuck Next rest → IsStuck Next last → Chain Next line xs rest → Chain Next line ys last → (xs ≡ ys) × (rest ≡ last)
Chain-unique Next one line [] [] rest last s t h k = (refl, sym h ∙ k)
Chain-unique Next one line [] (y ∷ ys) rest last s t h k = absurd (s y k.0 (subst (λ (l : List ℕ). Next l y k.0) h k.1))
Chain-unique Next one line (x ∷ xs) [] rest last s t h k = absurd (t x h.0 (subst (λ (l : List ℕ). Next l x h.0) k h.1))
Chain-unique {X = X} Next one line (x ∷ xs) (y ∷ ys) rest last s t h k =
    let same = one line x y h.0 k.0 h.1 k.1 in
    let more = Chain-unique Next one h.0 xs ys rest last s t h.2 (subst (λ (l : List ℕ). Chain Next l ys last) (sym same.1) k.2) in
    let first : x ≡ y = same.0 in
    let others : xs ≡ ys = more.0 in
    (cc, more.1)

-- ---- bytes

same_next : (p q : ℕ × List ℕ) → Some p ≡ Some q → (p.0 ≡ q.0) × (p.1 ≡ q.1)
same_next p q e = let same = same_Some p q e in (ap (λ (x : ℕ × List ℕ). x.0) same, ap (λ (x : ℕ × List ℕ). x.1) same)

IsByte-one_way : (is_literal : Bool) → IsOneWay (IsByte is_literal)
IsByte-one_way is_literal line b c rest last h k = same_next (b, rest) (c, last) (sym h ∙ k)

IsByte-stuck : (is_literal : Bool) (line : List ℕ) → byte_at is_literal line ≡ None → IsStuck (IsByte is_literal) line
IsByte-stuck is_literal line e b rest h = cc

plain_chain : (bytes rest : List ℕ) → AllByRecursion (λ b. ends_word b ≡ false) bytes → Chain (IsByte false) (bytes ++ rest) bytes rest
plain_chain [] rest h = refl
plain_chain (b ∷ bytes) rest h = (bytes ++ rest, (let e = h.0 in rw e refl), plain_chain bytes rest h.1)

plain_byte-is : (line : List ℕ) (b : ℕ) (rest : List ℕ) → plain_byte line ≡ Some (b, rest) → (line ≡ b ∷ rest) × (ends_word b ≡ false)
plain_byte-is [] b rest h = absurd cc
plain_byte-is (c ∷ line) b rest h = by_cases (ends_word c) None (Some (c, line)) (λ _ e. absurd cc)
    (λ own e. let same = same_next (c, line) (b, rest) e in ((λ i. same.0 i ∷ same.1 i), subst (λ (x : ℕ). ends_word x ≡ false) same.0 own)) h

plain_spelled : (line bytes rest : List ℕ) → Chain (IsByte false) line bytes rest → (line ≡ bytes ++ rest) × AllByRecursion (λ b. ends_word b ≡ false) bytes
plain_spelled line [] rest h = (h, tt)
plain_spelled line (b ∷ bytes) rest h =
    let first = plain_byte-is line b h.0 h.1 in
    let more = plain_spelled h.0 bytes rest h.2 in
    (first.0 ∙ ap (λ (x : List ℕ). b ∷ x) more.0, (first.1, more.1))

plain_byte-end : (rest : List ℕ) → IsWordEnd rest → plain_byte rest ≡ None
plain_byte-end [] h = refl
plain_byte-end (b ∷ rest) h = rw h refl

IsWordEnd-none : (rest : List ℕ) → plain_byte rest ≡ None → IsWordEnd rest
IsWordEnd-none [] h = tt
IsWordEnd-none (b ∷ rest) h = by_cases (ends_word b) None (Some (b, rest)) (λ end _. end) (λ _ e. absurd cc) h

literal_byte-spelled : (first rest : List ℕ) (b : ℕ) → SpellsByte first b → literal_byte (first ++ rest) ≡ Some (b, rest)
literal_byte-spelled first rest b (inl own) =
    let p = or_parts ((b == 92) || (b == 34)) (b == 13) own.1 in
    let q = or_parts (b == 92) (b == 34) p.0 in
    ap (λ (x : List ℕ). literal_byte (x ++ rest)) own.0 ∙ rw (q.0, q.1, p.1) refl
literal_byte-spelled first rest b (inr escape) = ap (λ (x : List ℕ). literal_byte (x ++ rest)) escape.1 ∙ ap (before rest) escape.2

before-is : (line : List ℕ) (meant : Option ℕ) (b : ℕ) (rest : List ℕ) → before line meant ≡ Some (b, rest) → (line ≡ rest) × (meant ≡ Some b)
before-is line None b rest h = absurd cc
before-is line (Some c) b rest h = let same = same_next (c, line) (b, rest) h in (same.1, ap Some same.0)

escape_byte-is : (line : List ℕ) (b : ℕ) (rest : List ℕ) → escape_byte line ≡ Some (b, rest) → (e : ℕ) × (line ≡ e ∷ rest) × (escaped_byte e ≡ Some b)
escape_byte-is [] b rest h = absurd cc
escape_byte-is (e ∷ line) b rest h = let same = before-is line (escaped_byte e) b rest h in (e, ap (λ (x : List ℕ). e ∷ x) same.0, same.1)

literal_byte-is : (line : List ℕ) (b : ℕ) (rest : List ℕ) → literal_byte line ≡ Some (b, rest) → (first : List ℕ) × (line ≡ first ++ rest) × SpellsByte first b
literal_byte-is [] b rest h = absurd cc
literal_byte-is (c ∷ line) b rest h = by_cases (c == 92) (escape_byte line) (if needs_escape c then None else Some (c, line))
    (λ backslash e. let escape = escape_byte-is line b rest e in (92 ∷ escape.0 ∷ [], (λ i. eqb-true c 92 backslash i ∷ escape.1 i), inr (escape.0, refl, escape.2)))
    (λ _ e. by_cases (needs_escape c) None (Some (c, line)) (λ _ f. absurd cc)
    (λ own f. let same = same_next (c, line) (b, rest) f in (b ∷ [], (λ i. same.0 i ∷ same.1 i), inl (refl, subst (λ (x : ℕ). needs_escape x ≡ false) same.0 own))) e) h

literal_chain : (text bytes rest : List ℕ) → SpellsBytes text bytes → Chain (IsByte true) (text ++ rest) bytes rest
literal_chain text [] rest h = ap (λ (x : List ℕ). x ++ rest) h
literal_chain text (b ∷ bytes) rest h =
    let whole : text ++ rest ≡ h.0 ++ (h.1 ++ rest) = ap (λ (x : List ℕ). x ++ rest) h.2 ∙ append_assoc h.0 h.1 rest in
    (h.1 ++ rest, ap literal_byte whole ∙ literal_byte-spelled h.0 (h.1 ++ rest) b h.3, literal_chain h.1 bytes rest h.4)

literal_spelled : (line bytes rest : List ℕ) → Chain (IsByte true) line bytes rest → (text : List ℕ) × (line ≡ text ++ rest) × SpellsBytes text bytes
literal_spelled line [] rest h = ([], h, refl)
literal_spelled line (b ∷ bytes) rest h =
    let first = literal_byte-is line b h.0 h.1 in
    let more = literal_spelled h.0 bytes rest h.2 in
    (first.0 ++ more.0, first.1 ∙ ap (λ (x : List ℕ). first.0 ++ x) more.1 ∙ sym (append_assoc first.0 more.0 rest), (first.0, more.0, refl, first.2, more.2))

-- ---- one word

pub ¬IsWordStart-end : (line : List ℕ) → IsWordEnd line → ¬ IsWordStart line
¬IsWordStart-end [] h s = s
¬IsWordStart-end (b ∷ line) h s = let bad : true ≡ false = sym h ∙ s in absurd cc

IsWordStart-at : (line : List ℕ) (word : LineWord) (rest : List ℕ) → IsWordAt line word rest → IsWordStart line
IsWordStart-at line (plain_word bytes) rest h = h.0
IsWordStart-at line (literal_word bytes) rest h = subst IsWordStart (sym h.1) refl

-- The bytes after a literal's opening quotation mark, and the place where it ends, are determined.
literal_is : (line inside bytes rest : List ℕ) → line ≡ 34 ∷ inside → Chain (IsByte true) inside bytes rest → literal_byte rest ≡ None
    → (word : LineWord) (last : List ℕ) → IsWordAt line word last → (literal_word bytes ≡ word) × (rest ≡ 34 ∷ last) × (length bytes ≤ text_limit) × IsWordEnd last
literal_is line inside bytes rest e h stuck (plain_word other) last k = absurd (k.1 (ap (λ (x : List ℕ). get_or x 0 0) e))
literal_is line inside bytes rest e h stuck (literal_word other) last k =
    let both : 34 ∷ k.0 ≡ 34 ∷ inside = sym k.1 ∙ e in
    let behind : k.0 ≡ inside = cc in
    let chain = subst (λ (x : List ℕ). Chain (IsByte true) x other (34 ∷ last)) behind k.2 in
    let same = Chain-unique (IsByte true) (IsByte-one_way true) inside bytes other rest (34 ∷ last) (IsByte-stuck true rest stuck) (IsByte-stuck true (34 ∷ last) refl) h chain in
    (ap literal_word same.0, same.1, subst (λ (x : List ℕ). length x ≤ text_limit) (sym same.0) k.3, k.4)

pub ¬IsWordAt-literal : (line inside bytes rest : List ℕ) → line ≡ 34 ∷ inside → Chain (IsByte true) inside bytes rest → literal_byte rest ≡ None
    → ((last : List ℕ) → rest ≡ 34 ∷ last → IsWordStart last ⊎ (text_limit < length bytes)) → IsStuck IsWordAt line
¬IsWordAt-literal line inside bytes rest e h stuck bad word last k = let same = literal_is line inside bytes rest e h stuck word last k in elim (bad last same.1) [
  | inl start ↦ ¬IsWordStart-end last same.3 start
  | inr long ↦ let short : length bytes ≤ text_limit = same.2 in omega arith
]

IsWordAt-one_way : IsOneWay IsWordAt
IsWordAt-one_way line (plain_word bytes) (plain_word other) rest last h k =
    let same = Chain-unique (IsByte false) (IsByte-one_way false) line bytes other rest last (IsByte-stuck false rest h.3) (IsByte-stuck false last k.3) h.2 k.2 in
    (ap plain_word same.0, same.1)
IsWordAt-one_way line (plain_word bytes) (literal_word other) rest last h k = absurd (h.1 (ap (λ (x : List ℕ). get_or x 0 0) k.1))
IsWordAt-one_way line (literal_word bytes) word rest last h k =
    let same = literal_is line h.0 bytes (34 ∷ rest) h.1 h.2 refl word last k in
    let behind : 34 ∷ rest ≡ 34 ∷ last = same.1 in
    (same.0, cc)

-- A word is read where it is spelled.
IsWordAt-spelled : (text : List ℕ) (word : LineWord) (rest : List ℕ) → SpellsWord text word → IsWordEnd rest → IsWordAt (text ++ rest) word rest
IsWordAt-spelled text (plain_word []) rest h end = absurd h.1
IsWordAt-spelled text (plain_word (b ∷ bytes)) rest h end =
    subst (λ (x : List ℕ). IsWordAt (x ++ rest) (plain_word (b ∷ bytes)) rest) (sym h.0) (h.1.1.0, eqb-false b 34 h.1.0, plain_chain (b ∷ bytes) rest h.1.1, plain_byte-end rest end)
IsWordAt-spelled text (literal_word bytes) rest h end =
    let whole = ap (λ (x : List ℕ). x ++ rest) h.1 ∙ ap (λ (x : List ℕ). 34 ∷ x) (append_assoc h.0 (34 ∷ []) rest) in
    (h.0 ++ 34 ∷ rest, whole, literal_chain h.0 bytes (34 ∷ rest) h.2, h.3, end)

spelled_word : (line : List ℕ) (word : LineWord) (rest : List ℕ) → IsWordAt line word rest → (text : List ℕ) × (line ≡ text ++ rest) × SpellsWord text word × IsWordEnd rest
spelled_word line (plain_word []) rest h = absurd (¬IsWordStart-end line (IsWordEnd-none line (ap plain_byte h.2 ∙ h.3)) h.0)
spelled_word line (plain_word (b ∷ bytes)) rest h =
    let spelled = plain_spelled line (b ∷ bytes) rest h.2 in
    let own : b ≢ 34 = λ e. h.1 (ap (λ (x : List ℕ). get_or x 0 0) spelled.0 ∙ e) in
    (b ∷ bytes, spelled.0, (refl, (ne_eqb b 34 own, spelled.1)), IsWordEnd-none rest h.3)
spelled_word line (literal_word bytes) rest h =
    let spelled = literal_spelled h.0 bytes (34 ∷ rest) h.2 in
    let whole = h.1 ∙ ap (λ (x : List ℕ). 34 ∷ x) (spelled.1 ∙ sym (append_assoc spelled.0 (34 ∷ []) rest)) in
    (34 ∷ (spelled.0 ++ 34 ∷ []), whole, (spelled.0, refl, spelled.2, h.3), h.4)

pub quote_first : (line : List ℕ) → IsWordStart line → get_or line 0 0 ≡ 34 → line ≡ 34 ∷ take (length line - 1) (drop 1 line)
quote_first [] h e = absurd h
quote_first (b ∷ line) h e = let behind : take (length (b ∷ line) - 1) line ≡ line = take_all (length (b ∷ line) - 1) line (omega arith) in cc

-- ---- the words of a line

gap_before : (line : List ℕ) → (gap : List ℕ) × (line ≡ gap ++ behind_gap line) × IsGap gap
gap_before [] = ([], refl, tt)
gap_before (b ∷ line) = by_blank (is_blank b) refl (gap_before line)
  where
    by_blank : (blank : Bool) → is_blank b ≡ blank → (gap : List ℕ) × (line ≡ gap ++ behind_gap line) × IsGap gap → (gap : List ℕ) × (b ∷ line ≡ gap ++ behind_gap (b ∷ line)) × IsGap gap
    by_blank true p more = (b ∷ more.0, rw p (ap (λ (x : List ℕ). b ∷ x) more.1), (p, more.2))
    by_blank false p more = ([], rw p refl, tt)

behind_gap-gap : (gap rest : List ℕ) → IsGap gap → behind_gap rest ≡ rest → behind_gap (gap ++ rest) ≡ rest
behind_gap-gap [] rest h same = same
behind_gap-gap (b ∷ gap) rest h same = let e = h.0 in rw e (behind_gap-gap gap rest h.1 same)

behind_gap-comment : (comment : List ℕ) → IsComment comment → behind_gap comment ≡ comment
behind_gap-comment [] h = refl
behind_gap-comment (b ∷ comment) h = rw h refl

behind_gap-start : (line : List ℕ) → IsWordStart line → behind_gap line ≡ line
behind_gap-start [] h = absurd h
behind_gap-start (b ∷ line) h = let p = or_parts (is_blank b) (b == 35) h in rw p.0 refl

IsWordEnd-comment : (comment : List ℕ) → IsComment comment → IsWordEnd comment
IsWordEnd-comment [] h = tt
IsWordEnd-comment (b ∷ comment) h = rw h refl

IsComment-behind_gap : (line : List ℕ) → IsWordEnd (behind_gap line) → IsComment (behind_gap line)
IsComment-behind_gap [] h = tt
IsComment-behind_gap (b ∷ line) h = by_blank (is_blank b) refl (IsComment-behind_gap line) h
  where
    by_blank : (blank : Bool) → is_blank b ≡ blank → (IsWordEnd (behind_gap line) → IsComment (behind_gap line)) → IsWordEnd (if blank then behind_gap line else b ∷ line)
        → IsComment (if blank then behind_gap line else b ∷ line)
    by_blank true p more k = more k
    by_blank false p more k = eqb-true b 35 (rw p at k)

words_chain : (line : List ℕ) (words : List LineWord) → SpellsWords line words → (rest : List ℕ) × Chain NextWord line words rest × IsWordEnd (behind_gap rest)
words_chain line [] h = (line, refl, subst IsWordEnd (sym (ap behind_gap h.2 ∙ behind_gap-gap h.0 h.1 h.3 (behind_gap-comment h.1 h.4))) (IsWordEnd-comment h.1 h.4))
words_chain line (word ∷ words) h =
    let more = words_chain h.2 words h.7 in
    let at = IsWordAt-spelled h.1 word h.2 h.5 h.6 in
    let start = ap behind_gap h.3 ∙ behind_gap-gap h.0 (h.1 ++ h.2) h.4 (behind_gap-start (h.1 ++ h.2) (IsWordStart-at (h.1 ++ h.2) word h.2 at)) in
    (more.0, (h.2, subst (λ (x : List ℕ). IsWordAt x word h.2) (sym start) at, more.1), more.2)

pub SpellsWords-chain : (line : List ℕ) (words : List LineWord) (rest : List ℕ) → Chain NextWord line words rest → IsWordEnd (behind_gap rest) → SpellsWords line words
SpellsWords-chain line [] rest h end =
    let g = gap_before line in
    (g.0, behind_gap line, g.1, g.2, IsComment-behind_gap line (subst (λ (x : List ℕ). IsWordEnd (behind_gap x)) (sym h) end))
SpellsWords-chain line (word ∷ words) rest h end =
    let g = gap_before line in
    let next = spelled_word (behind_gap line) word h.0 h.1 in
    (g.0, next.0, h.0, g.1 ∙ ap (λ (x : List ℕ). g.0 ++ x) next.1, g.2, next.2, next.3, SpellsWords-chain h.0 words rest h.2 end)

end_stuck : (line : List ℕ) → IsWordEnd (behind_gap line) → IsStuck NextWord line
end_stuck line end word rest h = ¬IsWordStart-end (behind_gap line) end (IsWordStart-at (behind_gap line) word rest h)

-- If no word can be read from the rest, the words read so far are all the words of the line.
pub words_read : (line : List ℕ) (words : List LineWord) (rest : List ℕ) → Chain NextWord line words rest → IsStuck NextWord rest
    → (others : List LineWord) → SpellsWords line others → (words ≡ others) × IsWordEnd (behind_gap rest)
words_read line words rest h stuck others k =
    let chain = words_chain line others k in
    let same = Chain-unique NextWord (λ l. IsWordAt-one_way (behind_gap l)) line words others rest chain.0 stuck (end_stuck chain.0 chain.2) h chain.1 in
    (same.0, subst (λ (x : List ℕ). IsWordEnd (behind_gap x)) (sym same.1) chain.2)

pub NextWord-shorter : (line : List ℕ) (word : LineWord) (rest : List ℕ) → NextWord line word rest → length rest < length line
NextWord-shorter line word rest h =
    let g = gap_before line in
    let next = spelled_word (behind_gap line) word rest h in
    omega (arith, ap length g.1, length-append g.0 (behind_gap line), shorter next.0 next.3 next.1)
  where
    shorter : (text : List ℕ) → IsWordEnd rest → behind_gap line ≡ text ++ rest → length rest < length (behind_gap line)
    shorter [] end e = absurd (¬IsWordStart-end rest end (subst IsWordStart e (IsWordStart-at (behind_gap line) word rest h)))
    shorter (b ∷ text) end e = omega (arith, ap length e, length-append text rest)

-- ---- a line has either words or one fault

SpellsWords-unique : (line : List ℕ) (words others : List LineWord) → SpellsWords line words → SpellsWords line others → words ≡ others
SpellsWords-unique line words others h k =
    let chain = words_chain line words h in
    (words_read line words chain.0 chain.1 (end_stuck chain.0 chain.2) others k).0

pub ¬IsGarbled-clean : (line : List ℕ) → IsUtf8 line → has_return line ≡ false → ¬ IsGarbled line
¬IsGarbled-clean line utf8 clean (inl other) = other utf8
¬IsGarbled-clean line utf8 clean (inr return) = absurd cc

pub IsLine-unique : (line : List ℕ) (words others : List LineWord) → IsLine line words → IsLine line others → words ≡ others
IsLine-unique line words others h k = SpellsWords-unique line words others h.2 k.2

-- A line with words has no fault.
pub ¬HasLineFault-IsLine : (line : List ℕ) (words : List LineWord) (what : ℕ) → IsLine line words → ¬ HasLineFault what line
¬HasLineFault-IsLine line words what h (inl first) = ¬IsGarbled-clean line h.0 h.1 first.1
¬HasLineFault-IsLine line words what h (inr second) = second.1.1 words h.2
