-- One more group in the buckets.
use Rattle.std.proofs.Common.{◌≡◌, ◌⊎◌, inl, inr, ◌<◌, ◌≤◌, ◌+◌, ℕ, Bool, true, false, cond, List, [], ◌∷◌, ◌++◌, length, map, get_or, refl, ap, sym, ◌∙◌, subst, arith, Option, Some, None}
use Rattle.std.specs.Prelude.{nat_eq}
use Rattle.std.proofs.lemmas.Bool.{both_ways, cases_lt, eq-eqb, eqb-true}
use Rattle.std.proofs.lemmas.List.{get_or_append_left, get_or_push, length-append, map-append}
use Rattle.pact_record.specs.declared.values.Value.{Value}
use Rattle.group_table.specs.declared.buckets.Buckets.{Buckets}
use Rattle.group_table.specs.Codes.{code}
use Rattle.group_table.specs.Tables.{AreLinked, IsIndex, IsLastBelow, head_of, next_at}

-- a code at the end doesn't change the result for the places below it
longer : (codes : List ℕ) (more c below : ℕ) (found : Option ℕ) → below ≤ length codes → IsLastBelow codes c below found → IsLastBelow (codes ++ more ∷ []) c below found
longer codes more c below None le h = λ i lt e. h i lt (sym (get_or_append_left codes (more ∷ []) 0 i (omega (arith, lt, le))) ∙ e)
longer codes more c below (Some n) le h = (
  h.0,
  let lt = h.0 in get_or_append_left codes (more ∷ []) 0 n (omega (arith, lt, le)) ∙ h.1,
  λ i after lt e. h.2 i after lt (sym (get_or_append_left codes (more ∷ []) 0 i (omega (arith, lt, le))) ∙ e),
)

-- another code is appended
past : (codes : List ℕ) (more c : ℕ) (found : Option ℕ) (below : ℕ) → below ≡ length codes + 1 → (more ≡ c → ⊥) → IsLastBelow codes c (length codes) found → IsLastBelow (codes ++ more ∷ []) c below found
past codes more c found below b other h = by found (longer codes more c (length codes) found (omega arith) h) where
  at : (i : ℕ) → i < below → ((i < length codes) → ⊥) → get_or (codes ++ more ∷ []) i 0 ≡ c → ⊥
  at i lt from e = step (cases_lt i (length codes)) where
    step : (i < length codes) ⊎ (length codes ≤ i) → ⊥
    step (inl less) = from less
    step (inr le) = other (sym (get_or_push codes more 0 i (omega (arith, le, lt, b))) ∙ e)

  by : (found : Option ℕ) → IsLastBelow (codes ++ more ∷ []) c (length codes) found → IsLastBelow (codes ++ more ∷ []) c below found
  by None h = λ i lt e. at i lt (λ less. h i less e) e
  by (Some n) h = (let l = h.0 in omega (arith, l, b), h.1, λ i after lt e. at i lt (λ less. h.2 i after less e) e)

-- the code itself is appended
here : (codes : List ℕ) (more below : ℕ) → below ≡ length codes + 1 → IsLastBelow (codes ++ more ∷ []) more below (Some (length codes))
here codes more below b = (omega (arith, b), get_or_push codes more 0 (length codes) refl, λ i after lt e. absurd (omega (arith, after, lt, b)))

linked_more : (codes : List ℕ) (heads after : ℕ → Option ℕ) (nexts all : List (Option ℕ)) (more : ℕ) → AreLinked codes heads nexts → ((c : ℕ) → after c ≡ cond (nat_eq more c) (Some (length nexts)) (heads c))
    → all ≡ nexts ++ heads more ∷ [] → AreLinked (codes ++ more ∷ []) after all
linked_more codes heads after nexts all more h leads a = subst (AreLinked (codes ++ more ∷ []) after) (sym a) (record {
  long = length-append nexts (heads more ∷ []) ∙ ap (λ k. k + 1) h.long ∙ sym (length-append codes (more ∷ []));
  head = λ c. subst (IsLastBelow (codes ++ more ∷ []) c (length (codes ++ more ∷ []))) (sym (leads c)) (head c (nat_eq more c) refl);
  next = λ m lt. at m (cases_lt m (length codes)) lt;
}) where
  long : length (codes ++ more ∷ []) ≡ length codes + 1
  long = length-append codes (more ∷ [])

  head : (c : ℕ) (b : Bool) → nat_eq more c ≡ b → IsLastBelow (codes ++ more ∷ []) c (length (codes ++ more ∷ [])) (cond b (Some (length nexts)) (heads c))
  head c true e = subst (λ m. IsLastBelow (codes ++ more ∷ []) c (length (codes ++ more ∷ [])) (Some m)) (sym h.long) (subst (λ d. IsLastBelow (codes ++ more ∷ []) d (length (codes ++ more ∷ [])) (Some (length codes))) (eqb-true more c e) (here codes more (length (codes ++ more ∷ [])) long))
  head c false e = past codes more c (heads c) (length (codes ++ more ∷ [])) long (λ same. both_ways (nat_eq more c) e (eq-eqb more c same)) (h.head c)

  at : (m : ℕ) → (m < length codes) ⊎ (length codes ≤ m) → m < length (codes ++ more ∷ []) → IsLastBelow (codes ++ more ∷ []) (get_or (codes ++ more ∷ []) m 0) m (next_at (nexts ++ heads more ∷ []) m)
  at m (inl less) lt =
      subst (IsLastBelow (codes ++ more ∷ []) (get_or (codes ++ more ∷ []) m 0) m) (sym (get_or_append_left nexts (heads more ∷ []) None m (subst (λ k. m < k) (sym h.long) less)))
      (subst (λ c. IsLastBelow (codes ++ more ∷ []) c m (next_at nexts m)) (sym (get_or_append_left codes (more ∷ []) 0 m less)) (longer codes more (get_or codes m 0) m (next_at nexts m) (omega (arith, less)) (h.next m less)))
  at m (inr le) lt =
      let own : m ≡ length codes = omega (arith, le, lt, long) in
      subst (IsLastBelow (codes ++ more ∷ []) (get_or (codes ++ more ∷ []) m 0) m) (sym (get_or_push nexts (heads more) None m (h.long ∙ sym own)))
      (subst (λ c. IsLastBelow (codes ++ more ∷ []) c m (heads more)) (sym (get_or_push codes more 0 m (sym own))) (subst (λ k. IsLastBelow (codes ++ more ∷ []) more k (heads more)) (sym own) (longer codes more more (length codes) (heads more) (omega arith) (h.head more))))

pub grown_index : (buckets more : Buckets) (order all : List (List Value)) (key : List Value) (c : ℕ) → IsIndex buckets order → all ≡ order ++ key ∷ [] → c ≡ code key
    → ((d : ℕ) → head_of more d ≡ cond (nat_eq c d) (Some (length buckets.nexts.items)) (head_of buckets d)) → more.nexts.items ≡ buckets.nexts.items ++ head_of buckets c ∷ [] → IsIndex more all
grown_index buckets more order all key c index a own leads n =
    subst (λ codes. AreLinked codes (head_of more) more.nexts.items) (ap (λ d. map code order ++ d ∷ []) own ∙ sym (map-append code order (key ∷ [])) ∙ ap (map code) (sym a))
    (linked_more (map code order) (head_of buckets) (head_of more) buckets.nexts.items more.nexts.items c index leads n)

pub empty_index : (buckets : Buckets) → ((c : ℕ) → head_of buckets c ≡ None) → buckets.nexts.items ≡ [] → IsIndex buckets []
empty_index buckets none n = subst (AreLinked [] (head_of buckets)) (sym n) (record {
  long = refl;
  head = λ c. subst (IsLastBelow [] c 0) (sym (none c)) (λ i lt e. absurd (omega (arith, lt)));
  next = λ n lt. absurd (omega (arith, lt));
})
