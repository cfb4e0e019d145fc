-- What sources and operators own, one after the other.
use Rattle.std.proofs.Common.{true, false, ltb, ◌≡◌, ◌<◌, ◌+◌, ◌⊎◌, ◌↔◌, ◌||◌, ◌==◌, ℕ, zero, suc, IsTrue, List, [], ◌∷◌, length, get_or, slice_get, drop, Some, None, inl, inr, refl, sym, ◌∙◌, ap, subst, arith}
use Rattle.std.specs.List.{AllByRecursion}
use Rattle.std.proofs.lemmas.Bool.{ltb-true, ltb-false, eqb-true, eq-eqb, or_cases, or_left, or_right}
use Rattle.std.proofs.lemmas.List.{drop_more}
use Rattle.std.proofs.lemmas.Option.{slice_get_read, slice_get_past}
use Rattle.pact_record.specs.declared.columns.Column.{Column}
use Rattle.pact_record.specs.FieldSets.{has_field}
use Rattle.tac_syntax.specs.Bounded.{Names}
use Rattle.tac_syntax.specs.Code.{stop}
use Rattle.tac_syntax.specs.Valid.{WithFields}
use Rattle.pact_operators.specs.declared.operators.Op.{Op}
use Rattle.pact_bag.specs.SourceRows.{IsColumnField}
use Rattle.pact_operators.specs.Programs.{FunctionNames, Owns, OwnsBy, body_of, fields_of, source_fields}
use Rattle.pact_record.proofs.Lists.{AllByRecursion-left, AllByRecursion-right}

-- ---- columns

pub column-below : (bound : ℕ) (columns : List Column) (n : ℕ) (d : Column) → AllByRecursion (λ k. k < bound) (fields_of columns) → n < length columns → (get_or columns n d).field < bound
column-below bound [] n d h lt = absurd (omega (arith, lt))
column-below bound (c ∷ columns) zero d h lt = h.0
column-below bound (c ∷ columns) (suc n) d h lt = column-below bound columns n d h.1 (omega (arith, lt))

column_here : (found more k : ℕ) (c : Column) (columns whole : List Column) → has_field more k ≡ ((k == c.field) || has_field found k)
    → ((IsTrue (has_field found k) ⊎ IsColumnField k (c ∷ columns)) ↔ IsColumnField k whole)
    → (IsTrue (has_field more k) ⊎ IsColumnField k columns) ↔ IsColumnField k whole
column_here found more k c columns whole e before = (
  λ owned. elim owned [
    | inl now ↦ elim (or_cases (k == c.field) (has_field found k) (sym e ∙ now)) [
      | inl here ↦ before.0 (inr (inl (eqb-true k c.field here)))
      | inr old ↦ before.0 (inl old)
    ]
    | inr later ↦ before.0 (inr (inr later))
  ],
  λ owned. elim (before.1 owned) [
    | inl old ↦ inl (e ∙ or_right (k == c.field) (has_field found k) old)
    | inr (inl here) ↦ inl (e ∙ or_left (k == c.field) (has_field found k) (eq-eqb k c.field here))
    | inr (inr later) ↦ inr later
  ],
)

-- one more column is found
pub column_more : (found more k : ℕ) (columns : List Column) (n : ℕ) (d : Column) → n < length columns → has_field more k ≡ ((k == (get_or columns n d).field) || has_field found k)
    → ((IsTrue (has_field found k) ⊎ IsColumnField k (drop n columns)) ↔ IsColumnField k columns)
    → (IsTrue (has_field more k) ⊎ IsColumnField k (drop (n + 1) columns)) ↔ IsColumnField k columns
column_more found more k columns n d lt e before =
    column_here found more k (get_or columns n d) (drop (n + 1) columns) columns e
    (subst (λ (rest : List Column). (IsTrue (has_field found k) ⊎ IsColumnField k rest) ↔ IsColumnField k columns) (drop_more columns n d lt) before)

-- ---- functions and operators by their numbers

pub body_of-some : (valids : List WithFields) (n : ℕ) (v : WithFields) → slice_get valids n ≡ Some v → body_of valids n ≡ v.function.body
body_of-some [] n v e = let bad : None ≡ Some v = e in absurd cc
body_of-some (w ∷ valids) zero v e = let same : w ≡ v = cc in ap (λ (x : WithFields). x.function.body) same
body_of-some (w ∷ valids) (suc n) v e = body_of-some valids n v e

-- a function number that is out of range has a body without statements
pub body_of-none : (valids : List WithFields) (n : ℕ) → slice_get valids n ≡ None → body_of valids n ≡ stop
body_of-none [] n e = refl
body_of-none (v ∷ valids) zero e = let bad : Some v ≡ None = e in absurd cc
body_of-none (v ∷ valids) (suc n) e = body_of-none valids n e

pub names_of-some : (valids : List WithFields) (n k : ℕ) (v : WithFields) → slice_get valids n ≡ Some v → FunctionNames valids n k ↔ Names v.fields k v.function.body
names_of-some [] n k v e = let bad : None ≡ Some v = e in absurd cc
names_of-some (w ∷ valids) zero k v e =
    let same : w ≡ v = cc in subst (λ (x : WithFields). Names w.fields k w.function.body ↔ Names x.fields k x.function.body) same (λ h. h, λ h. h)
names_of-some (w ∷ valids) (suc n) k v e = names_of-some valids n k v e

-- and such a body sets nothing
pub names_of-none : (valids : List WithFields) (n k : ℕ) → slice_get valids n ≡ None → FunctionNames valids n k → ⊥
names_of-none [] n k e h = h
names_of-none (v ∷ valids) zero k e h = let bad : Some v ≡ None = e in absurd cc
names_of-none (v ∷ valids) (suc n) k e h = names_of-none valids n k e h

pub owned_at : (valids : List WithFields) (ops : List Op) (n k : ℕ) (op : Op) → slice_get ops n ≡ Some op → Owns valids ops n k ↔ OwnsBy op.kind valids op k
owned_at valids [] n k op e = let bad : None ≡ Some op = e in absurd cc
owned_at valids (o ∷ ops) zero k op e =
    let same : o ≡ op = cc in subst (λ (x : Op). OwnsBy o.kind valids o k ↔ OwnsBy x.kind valids x k) same (λ h. h, λ h. h)
owned_at valids (o ∷ ops) (suc n) k op e = owned_at valids ops n k op e

pub none_owned : (valids : List WithFields) (ops : List Op) (n k : ℕ) → slice_get ops n ≡ None → Owns valids ops n k → ⊥
none_owned valids [] n k e owned = owned
none_owned valids (o ∷ ops) zero k e owned = let bad : Some o ≡ None = e in cc
none_owned valids (o ∷ ops) (suc n) k e owned = none_owned valids ops n k e owned

pub columns-below : (bound : ℕ) (ops : List Op) (n : ℕ) (op : Op) → AllByRecursion (λ k. k < bound) (source_fields ops) → slice_get ops n ≡ Some op → AllByRecursion (λ k. k < bound) (fields_of op.columns)
columns-below bound [] n op h e = let bad : None ≡ Some op = e in absurd cc
columns-below bound (o ∷ ops) zero op h e =
    let same : o ≡ op = cc in
    subst (λ (x : Op). AllByRecursion (λ k. k < bound) (fields_of x.columns)) same (AllByRecursion-left (λ k. k < bound) (fields_of o.columns) (source_fields ops) h)
columns-below bound (o ∷ ops) (suc n) op h e = columns-below bound ops n op (AllByRecursion-right (λ k. k < bound) (fields_of o.columns) (source_fields ops) h) e

-- ---- what `get` returns

pub got : {X : Type 0} (xs : List X) (i : ℕ) (x : X) → true ≡ ltb i (length xs) → x ≡ get_or xs i x → slice_get xs i ≡ Some x
got xs i x within e = slice_get_read xs (length xs) i x refl (ltb-true i (length xs) (sym within)) e

pub got_none : {X : Type 0} (xs : List X) (i : ℕ) → false ≡ ltb i (length xs) → slice_get xs i ≡ None
got_none xs i past = slice_get_past xs i (ltb-false i (length xs) (sym past))
