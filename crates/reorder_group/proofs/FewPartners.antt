-- If no two rows have the same key values, a record meets at most one of them, for any test of key values that only
-- equal ones pass.
use Rattle.std.proofs.Common.{◌≡◌, ◌≤◌, ℕ, Bool, true, false, cond, ◌||◌, not, List, [], ◌∷◌, ◌++◌, length, append-nil, refl, sym, ap, subst, ◌∙◌, arith}
use Rattle.std.proofs.lemmas.Bool.{cond_both}
use Rattle.std.specs.List.{AllByRecursion}
use Rattle.pact_record.specs.Record.{key_of}
use Rattle.pact_bag.proofs.KeyLists.{Key}
use Rattle.pact_operators.specs.Allowed.{Bag}
use Rattle.pact_bag.specs.Pairs.{has_null, unless_null}
use Rattle.reorder_pair.proofs.FunctionForms.{Row}
use Rattle.reorder_group.specs.UniqueRows.{HaveEachOnce, HaveOther}
use Rattle.reorder_group.proofs.Partners.{with_rows}

-- a test of key values that only equal ones pass
abbrev pub TellsEqual : (Key → Key → Bool) → Type 0
TellsEqual meets = (a b : Key) → meets a b ≡ true → a ≡ b

-- the call's records if the key values meet, and none otherwise
abbrev pub meeting : (Key → Key → Bool) → (Row → Row → Bag) → List ℕ → List ℕ → Row → Row → Bag
meeting meets f keys others l r = cond (meets (key_of keys l) (key_of others r)) (f l r) []

either_same : (b : Bool) (xs ys : Bag) → length xs ≡ length ys → length (cond b xs []) ≡ length (cond b ys [])
either_same true xs ys e = e
either_same false xs ys e = refl

-- a call that may be suppressed by a Null in a key of the left record
pub few_unless : (nulls : Bool) (f : Row → Row → Bag) (keys : List ℕ) (l r : Row) → length (f l r) ≤ 1 → length (unless_null nulls f keys l r) ≤ 1
few_unless nulls f keys l r few = cond_both (nulls || not (has_null (key_of keys l))) (f l r) [] (λ (z : Bag). length z ≤ 1) (λ is. few) (λ out. omega arith)

pub same_unless : (nulls : Bool) (f : Row → Row → Bag) (keys : List ℕ) (l m r s : Row) → key_of keys l ≡ key_of keys m → length (f l r) ≡ length (f m s)
    → length (unless_null nulls f keys l r) ≡ length (unless_null nulls f keys m s)
same_unless nulls f keys l m r s e same =
    ap (λ (k : Key). length (cond (nulls || not (has_null k)) (f l r) [])) e ∙ either_same (nulls || not (has_null (key_of keys m))) (f l r) (f m s) same

module _ (meets : Key → Key → Bool) (tells : TellsEqual meets) (f : Row → Row → Bag) (keys others : List ℕ) where
  abbrev call : Row → Row → Bag
  call = meeting meets f keys others

  none_meet : (l : Row) (rows : Bag) → HaveOther others (key_of keys l) rows → with_rows call rows l ≡ []
  none_meet l [] off = refl
  none_meet l (r ∷ rows) off =
      cond_both (meets (key_of keys l) (key_of others r)) (f l r) [] (λ (z : Bag). z ++ with_rows call rows l ≡ [])
      (λ is. absurd (off.0 (tells (key_of keys l) (key_of others r) is))) (λ out. none_meet l rows off.1)

  pub few_meet : (Q : Row → Type 0) (l : Row) → ((r : Row) → Q r → length (f l r) ≤ 1) → (rows : Bag) → AllByRecursion Q rows → HaveEachOnce others rows → length (with_rows call rows l) ≤ 1
  few_meet Q l few [] fit once = omega arith
  few_meet Q l few (r ∷ rows) fit once =
      cond_both (meets (key_of keys l) (key_of others r)) (f l r) [] (λ (z : Bag). length (z ++ with_rows call rows l) ≤ 1)
      (λ is.
      let e = tells (key_of keys l) (key_of others r) is in
      let rest = none_meet l rows (subst (λ (k : Key). HaveOther others k rows) (sym e) once.0) in
      subst (λ (z : Bag). length (f l r ++ z) ≤ 1) (sym rest) (subst (λ (z : Bag). length z ≤ 1) (sym (append-nil (f l r))) (few r fit.0)))
      (λ out. few_meet Q l few rows fit.1 once.1)

  pub same_meet : (l m r : Row) → key_of keys l ≡ key_of keys m → length (f l r) ≡ length (f m r) → length (call l r) ≡ length (call m r)
  same_meet l m r e same =
      ap (λ (k : Key). length (cond (meets k (key_of others r)) (f l r) [])) e ∙ either_same (meets (key_of keys m) (key_of others r)) (f l r) (f m r) same
