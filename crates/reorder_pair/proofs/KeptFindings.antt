-- What a table of findings returns for the rows that it keeps.
use Rattle.std.proofs.Common.{◌≡◌, ◌==◌, ◌&&◌, ◌++◌, inl, inr, ℕ, Bool, true, List, [], ◌∷◌, Option, Some, None, IfNone, IfSome, is_some, length, take, refl, sym, ap, subst, true≢false, ◌∙◌}
use Rattle.std.specs.Cmp.Lexicographic.{pointwise}
use Rattle.std.specs.Map.{lookup}
use Rattle.std.proofs.lemmas.Bool.{and_parts, cases_Bool, eq-eqb, eqb-true}
use Rattle.std.proofs.lemmas.Bool.Decides.{Decides-eqb}
use Rattle.std.proofs.lemmas.List.{take_at}
use Rattle.std.proofs.lemmas.Option.{same_Some}
use Rattle.std.proofs.lemmas.Slice.Eq.{slice_eq-Decides}
use Rattle.indexmap.specs.IndexMap.{insert_entry}
use Rattle.pact_record.specs.Keys.{padded}
use Rattle.tac_syntax.specs.declared.contexts.Context.{Context}
use Rattle.pact_operators.specs.Programs.{ProgramData}
use Rattle.reorder_pair.specs.declared.finding.Found.{Found}
use Rattle.reorder_pair.specs.Places.{IsFoundFor}
use Rattle.reorder_pair.specs.contracts.findings.OperatorInPartialEq.TheImpl as placed_eq
use Rattle.reorder_pair.specs.declared.findings.OperatorIn.{OperatorIn}
use Rattle.reorder_pair.specs.FindingTable.{AreFindings, IsFinding, IsKept}

-- ---- keys that the table takes for equal are equal

abbrev same_placed : OperatorIn → OperatorIn → Bool
same_placed = (placed_eq.eq-value).it

abbrev same_keys : List ℕ → List ℕ → Bool
same_keys xs ys = pointwise ◌==◌ (padded xs) (padded ys) && (length xs == length ys)

one_list : (xs ys : List ℕ) → same_keys xs ys ≡ true → xs ≡ ys
one_list xs ys h =
    let front : (zs : List ℕ) → take (length zs) (padded zs) ≡ zs = λ zs. take_at zs _ (length zs) (λ _. length zs) in
    let tests = and_parts (pointwise ◌==◌ (padded xs) (padded ys)) (length xs == length ys) h in
    let held : padded xs ≡ padded ys = (slice_eq-Decides Decides-eqb (padded xs) (padded ys) _ (λ _. pointwise ◌==◌ (padded xs) (padded ys))).0 tests.0 in
    let count : length xs ≡ length ys = eqb-true (length xs) (length ys) tests.1 in
    sym (front xs) ∙ (λ i. take (count i) (held i)) ∙ front ys

one_context : (c d : Context) → ((c.left == d.left) && ((c.right == d.right) && (same_keys c.left_keys d.left_keys && same_keys c.right_keys d.right_keys))) ≡ true → c ≡ d
one_context c d h =
    let l = and_parts (c.left == d.left) _ h in
    let r = and_parts (c.right == d.right) _ l.1 in
    let ks = and_parts (same_keys c.left_keys d.left_keys) _ r.1 in
    let left = eqb-true c.left d.left l.0 in
    let right = eqb-true c.right d.right r.0 in
    let left_keys = one_list c.left_keys d.left_keys ks.0 in
    let right_keys = one_list c.right_keys d.right_keys ks.1 in
    λ i. record { left = left i; right = right i; left_keys = left_keys i; right_keys = right_keys i }

one_placed : (x y : OperatorIn) → same_placed x y ≡ true → x ≡ y
one_placed x y h =
    let tests = and_parts (x.at == y.at) _ h in
    let at = eqb-true x.at y.at tests.0 in
    let context = one_context x.context y.context tests.1 in
    λ i. record { at = at i; context = context i }

same_list : (xs : List ℕ) → same_keys xs xs ≡ true
same_list xs =
    let held : pointwise ◌==◌ (padded xs) (padded xs) ≡ true = (slice_eq-Decides Decides-eqb (padded xs) (padded xs) _ (λ _. pointwise ◌==◌ (padded xs) (padded xs))).1 refl in
    let count : (length xs == length xs) ≡ true = eq-eqb (length xs) (length xs) refl in
    λ i. held i && count i

same_self : (x : OperatorIn) → same_placed x x ≡ true
same_self x =
    let at = eq-eqb x.at x.at refl in
    let left = eq-eqb x.context.left x.context.left refl in
    let right = eq-eqb x.context.right x.context.right refl in
    let left_keys = same_list x.context.left_keys in
    let right_keys = same_list x.context.right_keys in
    λ i. at i && (left i && (right i && (left_keys i && right_keys i)))

-- ---- rows

kept-lookup : (rows : List (OperatorIn × Found)) (k : OperatorIn) → IsKept k rows → is_some (lookup (same_placed k) rows) ≡ true
kept-lookup [] k h = absurd h
kept-lookup (row ∷ rows) k (inl e) =
    let same : same_placed k row.0 ≡ true = subst (λ (x : OperatorIn). same_placed k x ≡ true) (sym e) (same_self k) in
    rw same refl
kept-lookup (row ∷ rows) k (inr h) = elim (cases_Bool (same_placed k row.0)) as (λ _. is_some (lookup (same_placed k) (row ∷ rows)) ≡ true) [
  | inl same ↦ rw same refl
  | inr other ↦ rw other (kept-lookup rows k h)
]

lookup-kept : (rows : List (OperatorIn × Found)) (k : OperatorIn) → is_some (lookup (same_placed k) rows) ≡ true → IsKept k rows
lookup-kept [] k h = absurd (cc)
lookup-kept (row ∷ rows) k h = elim (cases_Bool (same_placed k row.0)) as (λ _. IsKept k (row ∷ rows)) [
  | inl same ↦ inl (sym (one_placed k row.0 same))
  | inr other ↦ inr (lookup-kept rows k (simp other at h))
]

-- if the table returns a finding for an operator in a context, a row has it
pub kept-IfSome_IsKept : (rows : List (OperatorIn × Found)) (k : OperatorIn) (s : Option Found) → s ≡ lookup (same_placed k) rows → IfSome s (λ _. IsKept k rows)
kept-IfSome_IsKept rows k None e = tt
kept-IfSome_IsKept rows k (Some s) e = lookup-kept rows k (ap is_some (sym e))

pub kept-IfNone : (rows : List (OperatorIn × Found)) (k : OperatorIn) (s : Option Found) → s ≡ lookup (same_placed k) rows → IfNone s (IsKept k rows → ⊥)
kept-IfNone rows k None e = λ h. true≢false (sym (kept-lookup rows k h) ∙ ap is_some (sym e))
kept-IfNone rows k (Some s) e = tt

-- a new operator and context go after the rows
pub insert_entry-absent : (rows : List (OperatorIn × Found)) (k : OperatorIn) (s : Found) → (IsKept k rows → ⊥) → insert_entry same_placed rows k s ≡ rows ++ (k, s) ∷ []
insert_entry-absent [] k s absent = refl
insert_entry-absent (row ∷ rows) k s absent = elim (cases_Bool (same_placed k row.0)) as (λ _. insert_entry same_placed (row ∷ rows) k s ≡ row ∷ rows ++ (k, s) ∷ []) [
  | inl same ↦ absurd (absent (inl (sym (one_placed k row.0 same))))
  | inr other ↦ rw other (ap (λ (rest : List (OperatorIn × Found)). row ∷ rest) (insert_entry-absent rows k s (λ h. absent (inr h))))
]

-- ---- the findings

module _ (p : ProgramData) where
  same_row : (k j : OperatorIn) (s : Found) → same_placed k j ≡ true → IsFinding p (j, s) → IsFinding p (k, s)
  same_row k j s same h = subst (λ (x : OperatorIn). IsFinding p (x, s)) (sym (one_placed k j same)) h

  kept-IsFoundFor : (rows : List (OperatorIn × Found)) (k : OperatorIn) (s : Found) → AreFindings p rows → lookup (same_placed k) rows ≡ Some s → IsFoundFor p k.at k.context s
  kept-IsFoundFor [] k s h e = absurd (cc)
  kept-IsFoundFor (row ∷ rows) k s h e = elim (cases_Bool (same_placed k row.0)) as (λ _. IsFoundFor p k.at k.context s) [
    | inl same ↦ same_row k row.0 s same (subst (λ (x : Found). IsFinding p (row.0, x)) (same_Some row.1 s (simp same at e)) h.0)
    | inr other ↦ kept-IsFoundFor rows k s h.1 (simp other at e)
  ]

  pub kept-IfSome : (rows : List (OperatorIn × Found)) (k : OperatorIn) (s : Option Found) → s ≡ lookup (same_placed k) rows → AreFindings p rows → IfSome s (IsFoundFor p k.at k.context)
  kept-IfSome rows k None e h = tt
  kept-IfSome rows k (Some s) e h = kept-IsFoundFor rows k s h (sym e)

  push-AreFindings : (rows : List (OperatorIn × Found)) (k : OperatorIn) (s : Found) → AreFindings p rows → IsFoundFor p k.at k.context s → AreFindings p (rows ++ (k, s) ∷ [])
  push-AreFindings [] k s h found = (found, tt)
  push-AreFindings (row ∷ rows) k s h found = (h.0, push-AreFindings rows k s h.1 found)

  -- one more row with a finding
  pub more-AreFindings : (rows more : List (OperatorIn × Found)) (k : OperatorIn) (s : Found) → more ≡ rows ++ (k, s) ∷ [] → AreFindings p rows → IsFoundFor p k.at k.context s → AreFindings p more
  more-AreFindings rows more k s e h found = subst (AreFindings p) (sym e) (push-AreFindings rows k s h found)
