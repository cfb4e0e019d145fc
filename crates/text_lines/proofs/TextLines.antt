-- The lines of a text: the first one, and the end of each. The lines from an offset on determine that offset.
use Rattle.std.proofs.Common.{◌≡◌, ◌<◌, ◌+◌, ◌==◌, ℕ, suc, Bool, false, List, [], ◌∷◌, ◌++◌, length, take, drop, get_or, refl, ap, sym, subst, ◌∙◌, arith, ◌≢◌, ◌≤◌, inl, inr, zero, true}
use Rattle.std.specs.List.{list_any}
use Rattle.std.proofs.lemmas.Bool.{or_parts, cases_lt}
use Rattle.std.proofs.lemmas.List.{take-append-drop, drop_all, length-drop}
use Rattle.std.proofs.Math.Seq.{drop-cons}
use Rattle.text_lines.specs.TextLines.{with_front, lines_of, trimmed}

-- ---- lines of bytes

abbrev pub has_feed : List ℕ → Bool
has_feed bytes = list_any (λ b. b == 10) bytes

pub lines_of-feed : (line rest : List ℕ) → has_feed line ≡ false → lines_of (line ++ 10 ∷ rest) ≡ line ∷ lines_of rest
lines_of-feed [] rest h = refl
lines_of-feed (b ∷ line) rest h = let p = or_parts (b == 10) (has_feed line) h in rw p.0 (ap (with_front b) (lines_of-feed line rest p.1))

pub lines_of-last : (line : List ℕ) → 0 < length line → has_feed line ≡ false → lines_of line ≡ line ∷ []
lines_of-last [] some h = absurd (omega arith)
lines_of-last (b ∷ []) some h = let p = or_parts (b == 10) false h in rw p.0 refl
lines_of-last (b ∷ c ∷ line) some h =
    let p = or_parts (b == 10) (has_feed (c ∷ line)) h in
    rw p.0 (ap (with_front b) (lines_of-last (c ∷ line) (omega arith) p.1))

-- ---- the first line

at_byte : (text : List ℕ) (i : ℕ) → i < length text → text ≡ take i text ++ get_or text i 0 ∷ drop (i + 1) text
at_byte text i h =
    let one : suc i ≡ i + 1 = omega arith in
    subst (λ (j : ℕ). text ≡ take i text ++ get_or text i 0 ∷ drop j text) one (sym (take-append-drop i text) ∙ ap (λ (x : List ℕ). take i text ++ x) (drop-cons text i 0 h))

pub first_at_feed : (text : List ℕ) (i : ℕ) → i < length text → get_or text i 0 ≡ 10 → has_feed (take i text) ≡ false → lines_of text ≡ take i text ∷ lines_of (drop (i + 1) text)
first_at_feed text i h e none =
    ap lines_of (at_byte text i h ∙ ap (λ (b : ℕ). take i text ++ b ∷ drop (i + 1) text) e) ∙ lines_of-feed (take i text) (drop (i + 1) text) none

-- ---- the end of a line

pub trimmed-return : (xs : List ℕ) → trimmed (xs ++ 13 ∷ []) ≡ xs
trimmed-return [] = refl
trimmed-return (x ∷ []) = refl
trimmed-return (x ∷ y ∷ xs) = ap (λ (r : List ℕ). x ∷ r) (trimmed-return (y ∷ xs))

pub trimmed-other : (xs : List ℕ) (b : ℕ) → (b == 13) ≡ false → trimmed (xs ++ b ∷ []) ≡ xs ++ b ∷ []
trimmed-other [] b h = rw h refl
trimmed-other (x ∷ []) b h = rw h refl
trimmed-other (x ∷ y ∷ xs) b h = ap (λ (r : List ℕ). x ∷ r) (trimmed-other (y ∷ xs) b h)

-- ---- places

-- how many bytes lines have, with a line feed after each
abbrev bytes_in : List (List ℕ) → ℕ
bytes_in [] = 0
bytes_in (line ∷ lines) = length line + 1 + bytes_in lines

bytes_in-with_front : (b : ℕ) (lines : List (List ℕ)) → lines ≢ [] → bytes_in (with_front b lines) ≡ 1 + bytes_in lines
bytes_in-with_front b [] some = absurd (some refl)
bytes_in-with_front b (line ∷ lines) some = omega arith

some_lines : (b : ℕ) (lines : List (List ℕ)) → with_front b lines ≢ []
some_lines b [] e = cc
some_lines b (line ∷ lines) e = cc

lines_of-some : (b : ℕ) (bytes : List ℕ) (feed : Bool) → (b == 10) ≡ feed → lines_of (b ∷ bytes) ≢ []
lines_of-some b bytes true p e = let f : ([] ∷ lines_of bytes) ≡ [] = rw p at e in cc
lines_of-some b bytes false p e = some_lines b (lines_of bytes) (rw p at e)

one_more : (b c : ℕ) (bytes : List ℕ) (feed : Bool) → (b == 10) ≡ feed → bytes_in (lines_of (b ∷ c ∷ bytes)) ≡ 1 + bytes_in (lines_of (c ∷ bytes))
one_more b c bytes true p = rw p (omega arith)
one_more b c bytes false p = rw p (bytes_in-with_front b (lines_of (c ∷ bytes)) (lines_of-some c bytes (c == 10) refl))

-- Each byte before the offset counts.
bytes_in-drop : (text : List ℕ) (at : ℕ) → at < length text → bytes_in (lines_of text) ≡ at + bytes_in (lines_of (drop at text))
bytes_in-drop text zero h = omega arith
bytes_in-drop [] (suc at) h = absurd (omega (arith, h))
bytes_in-drop (b ∷ []) (suc at) h = absurd (omega (arith, h))
bytes_in-drop (b ∷ c ∷ bytes) (suc at) h = omega (arith, one_more b c bytes (b == 10) refl, bytes_in-drop (c ∷ bytes) at (omega (arith, h)))

no_bytes : (bytes : List ℕ) → lines_of bytes ≡ [] → length bytes ≡ 0
no_bytes [] e = refl
no_bytes (b ∷ bytes) e = absurd (lines_of-some b bytes (b == 10) refl e)

at_end : (text : List ℕ) (a b : ℕ) → b ≤ length text → length text ≤ a → lines_of (drop a text) ≡ lines_of (drop b text) → length text ≤ b
at_end text a b h end e =
    let none = no_bytes (drop b text) (sym e ∙ ap lines_of (drop_all a text end)) in
    omega (arith, none, length-drop b text)

before_end : (text : List ℕ) (a b : ℕ) → a < length text → b < length text → lines_of (drop a text) ≡ lines_of (drop b text) → a ≡ b
before_end text a b h k e = omega (arith, ap bytes_in e, bytes_in-drop text a h, bytes_in-drop text b k)

-- Two offsets of a text with the same lines after them are equal.
pub one_place : (text : List ℕ) (a b : ℕ) → a ≤ length text → b ≤ length text → lines_of (drop a text) ≡ lines_of (drop b text) → a ≡ b
one_place text a b h k e = elim (cases_lt a (length text)) [
  | inl a_before ↦ elim (cases_lt b (length text)) [
    | inl b_before ↦ before_end text a b a_before b_before e
    | inr b_end ↦ let a_end = at_end text b a h b_end (sym e) in absurd (omega arith)
  ]
  | inr a_end ↦ let b_end = at_end text a b k a_end e in omega arith
]
