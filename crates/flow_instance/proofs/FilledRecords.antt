-- Filling the missing fields of a record with Null doesn't change its key values.
use Rattle.std.proofs.Common.{◌≡◌, ◌<◌, ◌≤◌, ◌+◌, ◌-◌, ◌++◌, ℕ, zero, suc, List, [], ◌∷◌, Some, length, map, take, set, slice_get, replicate, refl, ap, sym, ◌∙◌, arith, length-append}
use Rattle.std.proofs.lemmas.Option.{same_Some}
use Rattle.pact_record.specs.Widths.{AreBelow, AreWide}
use Rattle.std.proofs.lemmas.List.{length-replicate, length-take-le, take_more}
use Rattle.pact_bag.proofs.FilledFromLeft.{set_next}
use Rattle.pact_record.specs.Hash as hash
use Rattle.pact_record.specs.declared.values.Value.{Value}
use Rattle.pact_record.specs.declared.values.Value.TheVariants.{Null}
use Rattle.pact_record.specs.Record.{at_field, key_of}
use Rattle.pact_record.proofs.JoinedRecords.{at_field-nulls}

at_field-filled : (row : List Value) (m k : ℕ) → at_field (row ++ replicate m Null) k ≡ at_field row k
at_field-filled [] m k = at_field-nulls m k
at_field-filled (v ∷ row) m zero = refl
at_field-filled (v ∷ row) m (suc k) = at_field-filled row m k

key_of-filled : (keys : List ℕ) (row : List Value) (m : ℕ) → key_of keys (row ++ replicate m Null) ≡ key_of keys row
key_of-filled keys row m = λ i. map (λ k. at_field-filled row m k i) keys

pub target-filled : (workers m to : ℕ) (keys : List ℕ) (row filled : List Value) → filled ≡ row ++ replicate m Null → to ≡ hash.target workers (key_of keys filled) → to ≡ hash.target workers (key_of keys row)
target-filled workers m to keys row filled f e = e ∙ ap (hash.target workers) (ap (key_of keys) f ∙ key_of-filled keys row m)

wider : (keys : List ℕ) (m n : ℕ) → m ≤ n → AreBelow m keys → AreBelow n keys
wider [] m n le h = tt
wider (k ∷ keys) m n le h = (omega (arith, h.0, le), wider keys m n le h.1)

-- a record that is filled up to a size has all fields below it
pub filled_below : (m size : ℕ) (row filled : List Value) (keys : List ℕ) → filled ≡ row ++ replicate m Null → m ≡ size - length row → AreBelow size keys → AreBelow (length filled) keys
filled_below m size row filled keys f e h = wider keys size (length filled) (omega (arith, e, ap length f, length-append row (replicate m Null), length-replicate m Null)) h

-- the first of some rows has their width
pub first_width : (fields : ℕ) (rows : List (List Value)) (row : List Value) → slice_get rows 0 ≡ Some row → AreWide fields rows → length row ≡ fields
first_width fields [] row e wide = absurd (cc)
first_width fields (r ∷ rows) row e wide = ap length (sym (same_Some r row e)) ∙ wide.0

pub filled-more : (row filled : List Value) (size n : ℕ) (v : Value) → n < length row → length row ≤ size → v ≡ at_field row n → filled ≡ take n row ++ replicate (size - n) Null
    → set filled n v ≡ take (n + 1) row ++ replicate (size - (n + 1)) Null
filled-more row filled size n v lt le e f =
    ap (λ (l : List Value). set l n v) f ∙ set_next (take n row) Null v n size (length-take-le n row (omega arith)) (omega arith)
    ∙ ap (λ (l : List Value). l ++ replicate (size - (n + 1)) Null) (sym (take_more row n Null lt ∙ ap (λ (x : Value). take n row ++ x ∷ []) (sym e)))
