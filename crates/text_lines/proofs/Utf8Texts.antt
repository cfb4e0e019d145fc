-- UTF-8 texts: they can be cut and joined at an ASCII byte, and a literal is UTF-8 exactly if the bytes that it denotes
-- are.
use Rattle.std.proofs.Common.{◌<◌, ◌+◌, ℕ, zero, suc, List, [], ◌∷◌, ◌++◌, length, get_or, IsUtf8, subst, arith, length-append, ◌≡◌, inl, inr, Some, ap, sym, ◌∙◌, append_assoc}
use Rattle.std.proofs.Math.Seq.{get_or-append_seam, take-append_seam, drop-append-add}
use Rattle.std.proofs.lemmas.Str.{IsUtf8-append, IsUtf8-take, IsUtf8-drop, IsUtf8-from_ascii, IsCharBoundary-before_ascii, IsCharBoundary-after_ascii, IsUtf8-nil}
use Rattle.std.proofs.lemmas.Bool.Decides.{nat_tests}
use Rattle.text_lines.specs.LineGrammar.{escaped_byte, SpellsByte, SpellsBytes}

-- ---- cuts

pub IsUtf8-before_ascii : (x : List ℕ) (b : ℕ) (y : List ℕ) → b < 128 → IsUtf8 (x ++ b ∷ y) → IsUtf8 x
IsUtf8-before_ascii x b y ascii h =
    let inside : length x < length (x ++ b ∷ y) = omega (arith, length-append x (b ∷ y)) in
    let small : get_or (x ++ b ∷ y) (length x) 0 < 128 = omega (arith, get_or-append_seam x b y 0) in
    subst IsUtf8 (take-append_seam x (b ∷ y)) (IsUtf8-take (x ++ b ∷ y) (length x) h (IsCharBoundary-before_ascii (x ++ b ∷ y) (length x) inside small))

pub IsUtf8-behind_ascii : (x : List ℕ) (b : ℕ) (y : List ℕ) → b < 128 → IsUtf8 (x ++ b ∷ y) → IsUtf8 y
IsUtf8-behind_ascii x b y ascii h =
    let inside : length x < length (x ++ b ∷ y) = omega (arith, length-append x (b ∷ y)) in
    let small : get_or (x ++ b ∷ y) (length x) 0 < 128 = omega (arith, get_or-append_seam x b y 0) in
    let cut = IsUtf8-drop (x ++ b ∷ y) (length x + 1) h (IsCharBoundary-after_ascii (x ++ b ∷ y) (length x) h inside small) in
    subst IsUtf8 (drop-append-add x (b ∷ y) 1) cut

one_ascii : (b : ℕ) → b < 128 → (i : ℕ) → get_or (b ∷ []) i 0 < 128
one_ascii b h zero = h
one_ascii b h (suc i) = omega arith

pub IsUtf8-ascii : (b : ℕ) → b < 128 → IsUtf8 (b ∷ [])
IsUtf8-ascii b h = IsUtf8-from_ascii (b ∷ []) (one_ascii b h)

pub IsUtf8-around_ascii : (x : List ℕ) (b : ℕ) (y : List ℕ) → b < 128 → IsUtf8 x → IsUtf8 y → IsUtf8 (x ++ b ∷ y)
IsUtf8-around_ascii x b y h p q = IsUtf8-append x (b ∷ y) p (IsUtf8-append (b ∷ []) y (IsUtf8-ascii b h) q)

-- ---- escapes

-- The byte after a backslash, and the byte that the escape denotes, are ASCII.
are_ascii : (e b : ℕ) → escaped_byte e ≡ Some b → (e < 128) × (b < 128)
are_ascii e b h = (grind (arith, nat_tests), grind (arith, nat_tests))

-- ---- from a text to its meaning, and back

-- one byte, if decoding what follows it keeps a text UTF-8 after any prefix
meaning_of_byte : (front first rest : List ℕ) (b : ℕ) (bytes : List ℕ) → SpellsByte first b → ((before : List ℕ) → IsUtf8 (before ++ rest) → IsUtf8 (before ++ bytes))
    → IsUtf8 (front ++ (first ++ rest)) → IsUtf8 (front ++ b ∷ bytes)
meaning_of_byte front first rest b bytes (inl own) more h =
    let moved = subst IsUtf8 (ap (λ (x : List ℕ). front ++ (x ++ rest)) own.0 ∙ sym (append_assoc front (b ∷ []) rest)) h in
    subst IsUtf8 (append_assoc front (b ∷ []) bytes) (more (front ++ b ∷ []) moved)
meaning_of_byte front first rest b bytes (inr escape) more h =
    let ascii = are_ascii escape.0 b escape.2 in
    let spelled : IsUtf8 (front ++ 92 ∷ escape.0 ∷ rest) = subst (λ (x : List ℕ). IsUtf8 (front ++ (x ++ rest))) escape.1 h in
    let behind = IsUtf8-behind_ascii [] escape.0 rest ascii.0 (IsUtf8-behind_ascii front 92 (escape.0 ∷ rest) (omega arith) spelled) in
    IsUtf8-around_ascii front b bytes ascii.1 (IsUtf8-before_ascii front 92 (escape.0 ∷ rest) (omega arith) spelled) (more [] behind)

pub IsUtf8-meaning : (front text bytes : List ℕ) → SpellsBytes text bytes → IsUtf8 (front ++ text) → IsUtf8 (front ++ bytes)
IsUtf8-meaning front text [] h utf8 = subst (λ (x : List ℕ). IsUtf8 (front ++ x)) h utf8
IsUtf8-meaning front text (b ∷ bytes) h utf8 =
    meaning_of_byte front h.0 h.1 b bytes h.3 (λ before all. IsUtf8-meaning before h.1 bytes h.4 all) (subst (λ (x : List ℕ). IsUtf8 (front ++ x)) h.2 utf8)

spelling_of_byte : (front first rest : List ℕ) (b : ℕ) (bytes : List ℕ) → SpellsByte first b → ((before : List ℕ) → IsUtf8 (before ++ bytes) → IsUtf8 (before ++ rest))
    → IsUtf8 (front ++ b ∷ bytes) → IsUtf8 (front ++ (first ++ rest))
spelling_of_byte front first rest b bytes (inl own) more h =
    let moved = more (front ++ b ∷ []) (subst IsUtf8 (sym (append_assoc front (b ∷ []) bytes)) h) in
    subst IsUtf8 (append_assoc front (b ∷ []) rest ∙ ap (λ (x : List ℕ). front ++ (x ++ rest)) (sym own.0)) moved
spelling_of_byte front first rest b bytes (inr escape) more h =
    let ascii = are_ascii escape.0 b escape.2 in
    let behind = IsUtf8-around_ascii [] escape.0 rest ascii.0 IsUtf8-nil (more [] (IsUtf8-behind_ascii front b bytes ascii.1 h)) in
    let spelled = IsUtf8-around_ascii front 92 (escape.0 ∷ rest) (omega arith) (IsUtf8-before_ascii front b bytes ascii.1 h) behind in
    subst (λ (x : List ℕ). IsUtf8 (front ++ (x ++ rest))) (sym escape.1) spelled

pub IsUtf8-spelling : (front text bytes : List ℕ) → SpellsBytes text bytes → IsUtf8 (front ++ bytes) → IsUtf8 (front ++ text)
IsUtf8-spelling front text [] h utf8 = subst (λ (x : List ℕ). IsUtf8 (front ++ x)) (sym h) utf8
IsUtf8-spelling front text (b ∷ bytes) h utf8 =
    subst (λ (x : List ℕ). IsUtf8 (front ++ x)) (sym h.2) (spelling_of_byte front h.0 h.1 b bytes h.3 (λ before all. IsUtf8-spelling before h.1 bytes h.4 all) utf8)
