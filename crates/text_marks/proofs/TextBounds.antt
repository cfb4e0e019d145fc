-- Where lines begin and end.
use Rattle.std.proofs.Common.{◌≡◌, ◌≤◌, ◌+◌, ◌==◌, ℕ, Bool, true, false, List, [], ◌∷◌, ◌++◌, length, take, drop, refl, ap, sym, subst, ◌∙◌, append_assoc, arith, length-append, length-drop}
use Rattle.std.proofs.lemmas.List.{drop-take}
use Rattle.text_lines.specs.TextLines.{lines_of, with_front, trimmed}
use Rattle.text_marks.specs.TextParts.{IsLineStart, AreBounds, IsInside}

-- ---- prefixes

prefix_trans : (t l xs : List ℕ) → take (length t) l ≡ t → take (length l) xs ≡ l → take (length t) xs ≡ t
prefix_trans [] l xs p q = refl
prefix_trans (a ∷ t) [] xs p q = let no : ⊥ = cc in absurd no
prefix_trans (a ∷ t) (b ∷ l) [] p q = let no : ⊥ = cc in absurd no
prefix_trans (a ∷ t) (b ∷ l) (x ∷ xs) p q =
    let p_rest : take (length t) l ≡ t = cc in
    let q_rest : take (length l) xs ≡ l = cc in
    let rest = prefix_trans t l xs p_rest q_rest in
    cc

prefix_short : (t xs : List ℕ) → take (length t) xs ≡ t → length t ≤ length xs
prefix_short [] xs p = omega arith
prefix_short (a ∷ t) [] p = let no : ⊥ = cc in absurd no
prefix_short (a ∷ t) (x ∷ xs) p =
    let rest : take (length t) xs ≡ t = cc in
    omega (arith, prefix_short t xs rest)

-- ---- lines

front_of_line : (b : ℕ) (xs l : List ℕ) (ls lines : List (List ℕ))
    → ((m : List ℕ) (ms : List (List ℕ)) → lines ≡ m ∷ ms → take (length m) xs ≡ m)
    → with_front b lines ≡ l ∷ ls → take (length l) (b ∷ xs) ≡ l
front_of_line b xs l ls [] ih e =
    let h : b ∷ [] ≡ l = cc in
    subst (λ (y : List ℕ). take (length y) (b ∷ xs) ≡ y) h refl
front_of_line b xs l ls (m ∷ ms) ih e =
    let h : b ∷ m ≡ l = cc in
    subst (λ (y : List ℕ). take (length y) (b ∷ xs) ≡ y) h (ap (λ (y : List ℕ). b ∷ y) (ih m ms refl))

line_by_feed : (b : ℕ) (xs l : List ℕ) (ls : List (List ℕ)) (feed : Bool) → (b == 10) ≡ feed
    → ((m : List ℕ) (ms : List (List ℕ)) → lines_of xs ≡ m ∷ ms → take (length m) xs ≡ m)
    → lines_of (b ∷ xs) ≡ l ∷ ls → take (length l) (b ∷ xs) ≡ l
line_by_feed b xs l ls true p ih e =
    let f : [] ∷ lines_of xs ≡ l ∷ ls = rw p at e in
    let h : [] ≡ l = cc in
    subst (λ (y : List ℕ). take (length y) (b ∷ xs) ≡ y) h refl
line_by_feed b xs l ls false p ih e =
    let f : with_front b (lines_of xs) ≡ l ∷ ls = rw p at e in
    front_of_line b xs l ls (lines_of xs) ih f

-- The first line of a text is a prefix of it.
prefix_of_lines : (xs l : List ℕ) (ls : List (List ℕ)) → lines_of xs ≡ l ∷ ls → take (length l) xs ≡ l
prefix_of_lines [] l ls e = let no : ⊥ = cc in absurd no
prefix_of_lines (b ∷ xs) l ls e = line_by_feed b xs l ls (b == 10) refl (λ m ms. prefix_of_lines xs m ms) e

last_byte : (b : ℕ) (return : Bool) → (b == 13) ≡ return → take (length (trimmed (b ∷ []))) (b ∷ []) ≡ trimmed (b ∷ [])
last_byte b true p = rw p refl
last_byte b false p = rw p refl

prefix_trimmed : (l : List ℕ) → take (length (trimmed l)) l ≡ trimmed l
prefix_trimmed [] = refl
prefix_trimmed (b ∷ []) = last_byte b (b == 13) refl
prefix_trimmed (b ∷ c ∷ l) = ap (λ (y : List ℕ). b ∷ y) (prefix_trimmed (c ∷ l))

trimmed_front : (xs l : List ℕ) (ls : List (List ℕ)) → lines_of xs ≡ l ∷ ls → take (length (trimmed l)) xs ≡ trimmed l
trimmed_front xs l ls e = prefix_trans (trimmed l) l xs (prefix_trimmed l) (prefix_of_lines xs l ls e)

-- ---- bounds

pub first_start : (text : List ℕ) → IsLineStart text 1 0
first_start text = record { within = omega arith; before = []; lines = refl; numbered = refl }

pub next_start : (text : List ℕ) (line at next : ℕ) (inside : List ℕ) → IsLineStart text line at
    → lines_of (drop at text) ≡ inside ∷ lines_of (drop next text) → next ≤ length text → IsLineStart text (line + 1) next
next_start text line at next inside s e h = record {
  within = h;
  before = s.before ++ inside ∷ [];
  lines = s.lines ∙ ap (λ (x : List (List ℕ)). s.before ++ x) e ∙ sym (append_assoc s.before (inside ∷ []) (lines_of (drop next text)));
  numbered = omega (arith, s.numbered, length-append s.before (inside ∷ []));
}

pub bounds_inside : (text : List ℕ) (at next : ℕ) (inside : List ℕ) → at ≤ length text
    → lines_of (drop at text) ≡ inside ∷ lines_of (drop next text) → IsInside text at (at + length (trimmed inside))
bounds_inside text at next inside h e =
    let short = prefix_short (trimmed inside) (drop at text) (trimmed_front (drop at text) inside (lines_of (drop next text)) e) in
    (omega arith, omega (arith, short, length-drop at text))

pub bounds_at : (text : List ℕ) (line at next : ℕ) (inside : List ℕ) → IsLineStart text line at
    → lines_of (drop at text) ≡ inside ∷ lines_of (drop next text) → AreBounds text line at (at + length (trimmed inside))
bounds_at text line at next inside s e = record {
  start = s;
  inside = inside;
  later = lines_of (drop next text);
  lines = e;
  ends = refl;
  part = drop-take at (length (trimmed inside)) text ∙ trimmed_front (drop at text) inside (lines_of (drop next text)) e;
}
