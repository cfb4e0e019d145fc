-- What the calls of one function have in common. An input is lawful in a context, and two lawful inputs may agree on
-- what is read. If they do, each output begins as a record of its input, at the same places for both, and differs from
-- that record only in what is written.
use Rattle.std.specs.Prelude.{◌≡◌, ◌<◌, ◌≤◌, ◌⊎◌, ℕ, false, List, [], ◌∷◌, length, get_or}
use Rattle.std.specs.List.{AllByRecursion, AllZip}
use Rattle.pact_record.specs.declared.values.Value.{Value}
use Rattle.pact_record.specs.declared.values.Value.TheVariants.{Null}
use Rattle.pact_record.specs.Record.{Agree, at_field, key_of, joined_record}
use Rattle.tac_syntax.specs.declared.functions.Kind.{Kind}
use Rattle.tac_syntax.specs.declared.functions.Kind.TheVariants.{Map}
use Rattle.tac_syntax.specs.Call.{CallInput, of_record, of_pair, of_group, of_groups}
use Rattle.tac_syntax.specs.CallInputs.{IsInputOf, HasSome}
use Rattle.tac_syntax.specs.Contexts.{FieldSet, Ports, Side, left, right}

-- ---- records

-- two sets of fields share none
abbrev pub AreApart : (ℕ → Type 0) → (ℕ → Type 0) → Type 0
AreApart s t = (k : ℕ) → s k → t k → ⊥

-- a record with `fields` fields that is Null outside a set
pub record IsWithin (fields : ℕ) (set : ℕ → Type 0) (row : List Value) : Type 0 where
  pub width : length row ≡ fields
  pub null : (k : ℕ) → (set k → ⊥) → at_field row k ≡ Null

-- ---- inputs

-- the records of either side
abbrev pub left_records : CallInput → List (List Value)
left_records (of_record row) = row ∷ []
left_records (of_pair l r) = l ∷ []
left_records (of_group key group) = group
left_records (of_groups key l r) = l

abbrev pub right_records : CallInput → List (List Value)
right_records (of_record row) = []
right_records (of_pair l r) = r ∷ []
right_records (of_group key group) = []
right_records (of_groups key l r) = r

abbrev pub HaveKey : List ℕ → List Value → List (List Value) → Type 0
HaveKey keys key rows = AllByRecursion (λ row. key_of keys row ≡ key) rows

-- every record of a group has the key values that the call is for
abbrev pub AreKeyed : Ports → CallInput → Type 0
AreKeyed c (of_group key group) = HaveKey c.left_keys key group
AreKeyed c (of_groups key l r) = HaveKey c.left_keys key l × HaveKey c.right_keys key r
AreKeyed c input = Unit {0}

-- an input of a call in a context whose two sides share no field
pub record IsLawful (kind : Kind) (fields : ℕ) (c : Ports) (input : CallInput) : Type 0 where
  pub apart : AreApart c.left c.right
  pub called : IsInputOf kind input
  pub some : HasSome input
  pub keyed : AreKeyed c input
  pub left : AllByRecursion (IsWithin fields c.left) (left_records input)
  pub right : AllByRecursion (IsWithin fields c.right) (right_records input)

-- equally many records on either side, which agree place by place
pub record InputsAgree (reads : FieldSet) (x y : CallInput) : Type 0 where
  pub left : AllZip (Agree reads) (left_records x) (left_records y)
  pub right : AllZip (Agree reads) (right_records x) (right_records y)

-- ---- outputs

-- The records that an output may begin as. The side matters only for a CoGroup.
abbrev pub anchors : Side → CallInput → List (List Value)
anchors side (of_record row) = row ∷ []
anchors side (of_pair l r) = joined_record l r ∷ []
anchors side (of_group key group) = group
anchors left (of_groups key l r) = l
anchors right (of_groups key l r) = r

-- One output of each of two calls. The two agree on what is written, and each is its own anchor in all other fields.
pub record AreAnchored (writes : FieldSet) (a b out other : List Value) : Type 0 where
  pub written : Agree writes out other
  pub kept : (k : ℕ) → writes k ≡ false → at_field out k ≡ at_field a k
  pub other_kept : (k : ℕ) → writes k ≡ false → at_field other k ≡ at_field b k

-- Two calls with equally many outputs. One list of places, each of a record, serves both.
abbrev pub AreAnchoredAt : FieldSet → List (List Value) → List (List Value) → List ℕ → List (List Value) → List (List Value) → Type 0
AreAnchoredAt writes xs ys [] [] [] = Unit {0}
AreAnchoredAt writes xs ys (p ∷ places) (r ∷ outs) (q ∷ others) =
    (p < length xs) × AreAnchored writes (get_or xs p []) (get_or ys p []) r q × AreAnchoredAt writes xs ys places outs others
AreAnchoredAt writes xs ys places outs others = ⊥

abbrev pub HaveAnchors : FieldSet → Side → CallInput → CallInput → List (List Value) → List (List Value) → Type 0
HaveAnchors writes side x y outs others = (places : List ℕ) × AreAnchoredAt writes (anchors side x) (anchors side y) places outs others

-- A property of the outputs of any two calls for lawful inputs that agree on what is read.
abbrev pub ForTwoCalls : Kind → ℕ → Ports → FieldSet → (CallInput → List (List Value)) → (CallInput → CallInput → List (List Value) → List (List Value) → Type 0) → Type 0
ForTwoCalls kind fields c reads call P = (x y : CallInput) → IsLawful kind fields c x → IsLawful kind fields c y → InputsAgree reads x y → P x y (call x) (call y)

-- The form of calls that are anchored on a side.
abbrev pub HasForm : Kind → ℕ → Ports → FieldSet → FieldSet → Side → (CallInput → List (List Value)) → Type 0
HasForm kind fields c reads writes side call = ForTwoCalls kind fields c reads call (HaveAnchors writes side)

-- The form of calls that are anchored on neither side.
abbrev pub HasFormAlone : Kind → ℕ → Ports → FieldSet → FieldSet → (CallInput → List (List Value)) → Type 0
HasFormAlone kind fields c reads writes call = ForTwoCalls kind fields c reads call (λ x y. AllZip (Agree writes))

-- ---- groups of keys

-- A Map emits at most one record for each input. Either it emits one for each input, or it emits equally many for
-- inputs that agree on the keys.
pub record KeepsGroups (fields : ℕ) (c : Ports) (keys : FieldSet) (call : CallInput → List (List Value)) : Type 0 where
  pub few : (r : List Value) → IsLawful Map fields c (of_record r) → length (call (of_record r)) ≤ 1
  pub decided : ((r : List Value) → IsLawful Map fields c (of_record r) → length (call (of_record r)) ≡ 1)
      ⊎ ((r s : List Value) → IsLawful Map fields c (of_record r) → IsLawful Map fields c (of_record s) → Agree keys r s
      → length (call (of_record r)) ≡ length (call (of_record s)))
