-- Keys that are among others, and one more key after others.
use Rattle.std.proofs.Common.{◌≡◌, ◌<◌, ◌+◌, ℕ, Bool, true, false, ◌||◌, List, [], ◌∷◌, ◌++◌, length, map, take, drop, get_or, refl, ap, sym, ◌∙◌, subst, append_assoc}
use Rattle.std.proofs.lemmas.List.{drop_more}
use Rattle.pact_bag.specs.Groups.{is_same_key}
use Rattle.pact_bag.proofs.KeyGroups.{key_itself, keys-take_more, occurs, same_keys}
use Rattle.pact_record.specs.declared.values.Value.{Value}
use Rattle.pact_record.specs.Record.{key_of}

pub is_same_key-flipped : (a b : List Value) → is_same_key a b ≡ is_same_key b a
is_same_key-flipped a b = go (is_same_key a b) (is_same_key b a) refl refl where
  go : (s t : Bool) → is_same_key a b ≡ s → is_same_key b a ≡ t → is_same_key a b ≡ is_same_key b a
  go true t e f = e ∙ sym (subst (λ (c : List Value). is_same_key c a ≡ true) (same_keys a b e) (key_itself a))
  go false true e f = subst (λ (c : List Value). is_same_key a c ≡ is_same_key c a) (sym (same_keys b a f)) refl
  go false false e f = e ∙ sym f

step : (k : List Value) (found : List (List Value)) (n : ℕ) (key : List Value) → n < length found → key ≡ get_or found n key → occurs k (drop n found) ≡ (is_same_key key k || occurs k (drop (n + 1) found))
step k found n key lt e = ap (occurs k) (drop_more found n key lt ∙ ap (λ (x : List Value). x ∷ drop (n + 1) found) (sym e))

pub known-here : (k : List Value) (found : List (List Value)) (n : ℕ) (key : List Value) (b : Bool) → n < length found → key ≡ get_or found n key → b ≡ is_same_key k key → b ≡ true
    → occurs k found ≡ occurs k (drop n found) → true ≡ occurs k found
known-here k found n key b lt e s t h =
    sym (h ∙ step k found n key lt e ∙ ap (λ (c : Bool). c || occurs k (drop (n + 1) found)) (is_same_key-flipped key k ∙ sym s ∙ t))

pub known-later : (k : List Value) (found : List (List Value)) (n : ℕ) (key : List Value) (b : Bool) → n < length found → key ≡ get_or found n key → b ≡ is_same_key k key → b ≡ false
    → occurs k found ≡ occurs k (drop n found) → occurs k found ≡ occurs k (drop (n + 1) found)
known-later k found n key b lt e s t h =
    h ∙ step k found n key lt e ∙ ap (λ (c : Bool). c || occurs k (drop (n + 1) found)) (is_same_key-flipped key k ∙ sym s ∙ t)

-- the key of one more record, after others
pub keys-more : (before : List (List Value)) (keys : List ℕ) (rows : List (List Value)) (n : ℕ) (row : List Value) → n < length rows → row ≡ get_or rows n row
    → before ++ map (key_of keys) (take (n + 1) rows) ≡ (before ++ map (key_of keys) (take n rows)) ++ key_of keys row ∷ []
keys-more before keys rows n row lt e =
    ap (λ (l : List (List Value)). before ++ l) (keys-take_more keys rows n row lt e) ∙ sym (append_assoc before (map (key_of keys) (take n rows)) (key_of keys row ∷ []))
