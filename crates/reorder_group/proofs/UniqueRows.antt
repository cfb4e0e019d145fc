-- Lists of records of which no two have the same key values: permuted, by more fields, emitted by Maps and for groups.
use Rattle.std.proofs.Common.{◌≡◌, ◌≤◌, ℕ, List, [], ◌∷◌, ◌++◌, length, sym, subst, ◌∙◌, arith}
use Rattle.std.specs.Prelude.{flat_map}
use Rattle.std.specs.List.{AllByRecursion}
use Rattle.pact_record.specs.Record.{key_of}
use Rattle.pact_record.proofs.Lists.{AllByRecursion-append, AllByRecursion-weaker}
use Rattle.pact_record.proofs.Permutations.{Perm, chains, each_perm, keeps, nothing, swaps}
use Rattle.pact_operators.specs.Allowed.{Bag}
use Rattle.reorder_pair.proofs.FunctionForms.{Row}
use Rattle.reorder_group.specs.UniqueRows.{HaveEachOnce, HaveOther}

-- ---- permuted

other_turned : (keys : List ℕ) (a b : Row) → (key_of keys a ≡ key_of keys b → ⊥) → key_of keys b ≡ key_of keys a → ⊥
other_turned keys a b h e = h (sym e)

pub HaveEachOnce-perm : (keys : List ℕ) {rows now : Bag} → Perm rows now → HaveEachOnce keys rows → HaveEachOnce keys now
HaveEachOnce-perm keys nothing h = h
HaveEachOnce-perm keys (keeps {x = x} p) h = (each_perm (λ r. key_of keys x ≡ key_of keys r → ⊥) p h.0, HaveEachOnce-perm keys p h.1)
HaveEachOnce-perm keys (swaps {x = x} {y = y}) h = ((other_turned keys x y h.0.0, h.1.0), (h.0.1, h.1.1))
HaveEachOnce-perm keys (chains p q) h = HaveEachOnce-perm keys q (HaveEachOnce-perm keys p h)

-- ---- by other fields, whose values determine those of the first

pub HaveEachOnce-more : (own keys : List ℕ) → ((a b : Row) → key_of keys a ≡ key_of keys b → key_of own a ≡ key_of own b) → (rows : Bag) → HaveEachOnce own rows → HaveEachOnce keys rows
HaveEachOnce-more own keys tell [] h = tt
HaveEachOnce-more own keys tell (row ∷ rows) h = (
  AllByRecursion-weaker (λ r. key_of own row ≡ key_of own r → ⊥) (λ r. key_of keys row ≡ key_of keys r → ⊥) rows (λ r off e. off (tell row r e)) h.0,
  HaveEachOnce-more own keys tell rows h.1,
)

-- ---- at most one for each

pub few_once : (keys : List ℕ) (l : Bag) → length l ≤ 1 → HaveEachOnce keys l
few_once keys [] few = tt
few_once keys (w ∷ []) few = (tt, tt)
few_once keys (w ∷ v ∷ l) few = absurd (omega (arith, few))

-- no record of the first list has the key values of one in the second
pub HaveEachOnce-append : (keys : List ℕ) (l rest : Bag) → HaveEachOnce keys l → HaveEachOnce keys rest → AllByRecursion (λ w. HaveOther keys (key_of keys w) rest) l → HaveEachOnce keys (l ++ rest)
HaveEachOnce-append keys [] rest h g off = g
HaveEachOnce-append keys (w ∷ l) rest h g off =
    (AllByRecursion-append (λ r. key_of keys w ≡ key_of keys r → ⊥) l rest h.0 off.0, HaveEachOnce-append keys l rest h.1 g off.1)

-- the output of a function of one record that emits at most one for each, with the record's key values
pub HaveEachOnce-flat_map : (P : Row → Type 0) (keys : List ℕ) (f : Row → Bag) → ((r : Row) → P r → length (f r) ≤ 1) → ((r : Row) → P r → AllByRecursion (λ w. key_of keys w ≡ key_of keys r) (f r))
    → (rows : Bag) → AllByRecursion P rows → HaveEachOnce keys rows → HaveEachOnce keys (flat_map f rows)
HaveEachOnce-flat_map P keys f few own [] fit h = tt
HaveEachOnce-flat_map P keys f few own (row ∷ rows) fit h =
    let off : HaveOther keys (key_of keys row) (flat_map f rows) = others_off row rows fit.1 h.0 in
    HaveEachOnce-append keys (f row) (flat_map f rows) (few_once keys (f row) (few row fit.0)) (HaveEachOnce-flat_map P keys f few own rows fit.1 h.1)
    (AllByRecursion-weaker (λ w. key_of keys w ≡ key_of keys row) (λ w. HaveOther keys (key_of keys w) (flat_map f rows)) (f row)
    (λ w e. subst (λ k. HaveOther keys k (flat_map f rows)) (sym e) off) (own row fit.0)) where
      others_off : (row : Row) (rows : Bag) → AllByRecursion P rows → AllByRecursion (λ r. key_of keys row ≡ key_of keys r → ⊥) rows → HaveOther keys (key_of keys row) (flat_map f rows)
      others_off row [] fit h = tt
      others_off row (r ∷ rows) fit h =
          AllByRecursion-append (λ w. key_of keys row ≡ key_of keys w → ⊥) (f r) (flat_map f rows)
          (AllByRecursion-weaker (λ w. key_of keys w ≡ key_of keys r) (λ w. key_of keys row ≡ key_of keys w → ⊥) (f r) (λ w e same. h.0 (same ∙ e)) (own r fit.0))
          (others_off row rows fit.1 h.1)
