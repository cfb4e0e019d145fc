-- What a body emits has a value only in fields where its input has one or that it sets.
use Rattle.std.proofs.Common.{◌≡◌, ◌≢◌, ◌<◌, ◌-◌, ℕ, zero, suc, Bool, true, nat_lt, pos, if◌then◌else◌, Option, Some, None, List, [], ◌∷◌, ◌++◌, inl, inr, length, take, slice_set, refl, ap, sym, ◌∙◌, subst, arith}
use Rattle.std.proofs.lemmas.Bool.{cases_Bool, ltb-true}
use Rattle.std.proofs.lemmas.List.{length-set, length-replicate, get_or-set_other}
use Rattle.std.proofs.lemmas.List.Elements.{All-from_recursion, recursion_from_All, All-nil, All-set, All-push, All-take, All-get_or, All-replicate}
use Rattle.std.specs.List.{All, AllByRecursion}
use Rattle.pact_record.specs.declared.values.Value.{Value}
use Rattle.pact_record.specs.declared.values.Value.TheVariants.{Null, Int, Text}
use Rattle.pact_record.specs.Record.{at_field, joined_value, joined_record}
use Rattle.pact_record.proofs.JoinedRecords.{at_field-nulls, length-joined_record}
use Rattle.pact_record.proofs.Lists.{AllByRecursion-append}
use Rattle.tac_syntax.specs.declared.functions.Function.{Function}
use Rattle.tac_syntax.specs.declared.statements.Rec.{Rec}
use Rattle.tac_syntax.specs.declared.statements.Rec.TheVariants.{Reg, Loop, Input, Left, Right, Join, First}
use Rattle.tac_syntax.specs.declared.statements.LoopList.{LoopList}
use Rattle.tac_syntax.specs.declared.statements.LoopList.TheVariants.{Group, Left as LeftGroup, Right as RightGroup}
use Rattle.tac_syntax.specs.Limits.{record_registers}
use Rattle.tac_syntax.specs.Code.{Simple, load_int, load_text, load_null, move_value, get_field, get_at, get_key, apply_one, apply_two, new_record, copy_record, set_field, set_at, emit_record, Code, stop, plain, branch, again, each, Line, simple, test, turns, over, otherwise, close}
use Rattle.tac_syntax.specs.Call.{CallInput, of_record, of_pair, of_group, of_groups, Out, Store, numbered, set_numbered, empty_record, record_in, value_in, input_record, left_record, right_record, first_record, named_record, rows_of, after, bind, start_store}
use Rattle.tac_syntax.specs.Exec.{exec}
use Rattle.tac_syntax.specs.Places.{Place, Placed, placed, at_place, in_if, in_repeat, in_each, top_place}
use Rattle.tac_syntax.specs.Valid.{IsValid}
use Rattle.tac_syntax.specs.Bounded.{SomeHasValue, InputHasValue, NamesField, Names, IsBounded, AreBounded}
use Rattle.pact_record.specs.Widths.{AreWide}
use Rattle.tac_syntax.specs.CallInputs.{IsOfRecord, IsOfPair, IsOfGroup, IsInputOf, HasKeys, HasWidth}
use Rattle.tac_syntax.specs.InRange.{IsInRange, AreInRange}
use Rattle.tac_syntax.specs.Ready.{Fits, FitsStore, HasRecord}
use Rattle.tac_syntax.proofs.Fitting.{CanAct-fits, next_name-over, Fits-bind, Fits-out_of_each}
use Rattle.tac_syntax.proofs.KeptByBodies.{IsKept, exec-kept}
use Rattle.tac_syntax.proofs.StepsAsRecursion.{Out-exec}
use Rattle.tac_syntax.proofs.Ranges.{AreInRange-valid}

-- ---- the input's records

null_of : (v : Value) → (v ≢ Null → ⊥) → v ≡ Null
null_of Null h = refl
null_of (Int n) h = absurd (h (λ e. cc))
null_of (Text t) h = absurd (h (λ e. cc))

null-joined_record : (left right : List Value) (k : ℕ) → at_field left k ≡ Null → at_field right k ≡ Null → at_field (joined_record left right) k ≡ Null
null-joined_record [] right k l r = refl
null-joined_record (x ∷ left) [] k l r = refl
null-joined_record (x ∷ left) (y ∷ right) zero l r = ap (λ (v : Value). joined_value v y) l ∙ r
null-joined_record (x ∷ left) (y ∷ right) (suc k) l r = null-joined_record left right k l r

-- records among those of the input
rows_bounded : (fields : ℕ) (body : Code) (input : CallInput) (rows : List (List Value)) → AreWide fields rows
    → ((field : ℕ) → SomeHasValue field rows → InputHasValue field input) → AllByRecursion (IsBounded fields body input) rows
rows_bounded fields body input [] w h = tt
rows_bounded fields body input (row ∷ rows) w h = (
  record { width = w.0; null = λ field none unset. null_of (at_field row field) (λ v. none (h field (inl v))) },
  rows_bounded fields body input rows w.1 (λ field v. h field (inr v)),
)

rows_of-bounded : (fields : ℕ) (body : Code) (input : CallInput) (list : LoopList) → HasWidth fields input → AllByRecursion (IsBounded fields body input) (rows_of input list)
rows_of-bounded fields body (of_record row) list w = tt
rows_of-bounded fields body (of_pair left right) list w = tt
rows_of-bounded fields body (of_group key group) Group w = rows_bounded fields body (of_group key group) group w.1 (λ field v. v)
rows_of-bounded fields body (of_group key group) LeftGroup w = tt
rows_of-bounded fields body (of_group key group) RightGroup w = tt
rows_of-bounded fields body (of_groups key left right) Group w = tt
rows_of-bounded fields body (of_groups key left right) LeftGroup w = rows_bounded fields body (of_groups key left right) left w.0 (λ field v. inl v)
rows_of-bounded fields body (of_groups key left right) RightGroup w = rows_bounded fields body (of_groups key left right) right w.1 (λ field v. inr v)

input_record-bounded : (fields : ℕ) (body : Code) (input : CallInput) → HasWidth fields input → IsOfRecord input → IsBounded fields body input (input_record input)
input_record-bounded fields body (of_record row) w h = record { width = w; null = λ field none unset. null_of (at_field row field) none }
input_record-bounded fields body (of_pair left right) w h = absurd h
input_record-bounded fields body (of_group key group) w h = absurd h
input_record-bounded fields body (of_groups key left right) w h = absurd h

left_record-bounded : (fields : ℕ) (body : Code) (input : CallInput) → HasWidth fields input → IsOfPair input → IsBounded fields body input (left_record input)
left_record-bounded fields body (of_record row) w h = absurd h
left_record-bounded fields body (of_pair left right) w h = record { width = w.0; null = λ field none unset. null_of (at_field left field) (λ v. none (inl v)) }
left_record-bounded fields body (of_group key group) w h = absurd h
left_record-bounded fields body (of_groups key left right) w h = absurd h

right_record-bounded : (fields : ℕ) (body : Code) (input : CallInput) → HasWidth fields input → IsOfPair input → IsBounded fields body input (right_record input)
right_record-bounded fields body (of_record row) w h = absurd h
right_record-bounded fields body (of_pair left right) w h = record { width = w.1; null = λ field none unset. null_of (at_field right field) (λ v. none (inr v)) }
right_record-bounded fields body (of_group key group) w h = absurd h
right_record-bounded fields body (of_groups key left right) w h = absurd h

joined-bounded : (fields : ℕ) (body : Code) (input : CallInput) (left right : List Value) → IsBounded fields body input left → IsBounded fields body input right
    → IsBounded fields body input (joined_record left right)
joined-bounded fields body input left right l r = record {
  width = length-joined_record left right (l.width ∙ sym r.width) ∙ l.width;
  null = λ field none unset. null-joined_record left right field (l.null field none unset) (r.null field none unset);
}

first_record-bounded : (fields : ℕ) (body : Code) (input : CallInput) → HasWidth fields input → IsOfGroup input → IsBounded fields body input (first_record input)
first_record-bounded fields body (of_record row) w h = absurd h
first_record-bounded fields body (of_pair left right) w h = absurd h
first_record-bounded fields body (of_group key group) w h =
    let P = IsBounded fields body (of_group key group) in
    All-get_or P group 0 [] w.0 (All-from_recursion P group (rows_of-bounded fields body (of_group key group) Group w))
first_record-bounded fields body (of_groups key left right) w h = absurd h

-- ---- fields by number

pub numbered-below : (fields : ℕ) (v : Value) (k : ℕ) → numbered fields v ≡ Some k → k < fields
numbered-below fields (Int (pos n)) k e = elim (cases_Bool (nat_lt n fields)) as (λ _. k < fields) [
  | inl p ↦ let same : Some n ≡ Some k = subst (λ (b : Bool). (if b then Some n else None) ≡ Some k) p e in let at : n ≡ k = cc in omega (arith, ltb-true n fields p, at)
  | inr p ↦ let none : None ≡ Some k = subst (λ (b : Bool). (if b then Some n else None) ≡ Some k) p e in cc
]
numbered-below fields v k e = cc

-- ---- what a store keeps

-- Each register, each loop's record and each emitted record is bounded.
record BoundedIn (fields : ℕ) (body : Code) (input : CallInput) (p : Place) (now : ℕ) (same : CallInput) (records loops emitted : List (List Value)) : Type 0 where
  fits : Fits p now same loops
  same_fields : now ≡ fields
  same_input : same ≡ input
  registers : length records ≡ record_registers
  in_records : All (IsBounded fields body input) records
  in_loops : All (IsBounded fields body input) loops
  in_emitted : All (IsBounded fields body input) emitted

abbrev BoundedStore : ℕ → Code → CallInput → Place → Store → Type 0
BoundedStore fields body input p s = BoundedIn fields body input p s.fields s.input s.records s.loops s.emitted

-- a statement of one line sets only what the whole body names
abbrev SetsNamed : ℕ → Code → Line → Type 0
SetsNamed fields body (simple a) = (field : ℕ) → NamesField fields field a → Names fields field body
SetsNamed fields body (test on) = Unit {0}
SetsNamed fields body (turns count) = Unit {0}
SetsNamed fields body (over name list) = Unit {0}
SetsNamed fields body otherwise = Unit {0}
SetsNamed fields body close = Unit {0}

abbrev IsGood : ℕ → Code → Placed → Type 0
IsGood fields body x = IsInRange x × SetsNamed fields body x.line

SetsNamed-placed : (fields : ℕ) (body c : Code) (p : Place) → ((field : ℕ) → Names fields field c → Names fields field body) → AllByRecursion (λ x. SetsNamed fields body x.line) (placed p c)
SetsNamed-placed fields body stop p h = tt
SetsNamed-placed fields body (plain a next) p h = (λ field n. h field (inl n), SetsNamed-placed fields body next p (λ field n. h field (inr n)))
SetsNamed-placed fields body (branch on inner other next) p h = (
  tt,
  AllByRecursion-append (λ x. SetsNamed fields body x.line) (placed (in_if p) inner) (placed (in_if p) other ++ placed p next) (SetsNamed-placed fields body inner (in_if p) (λ field n. h field (inl n)))
      (AllByRecursion-append (λ x. SetsNamed fields body x.line) (placed (in_if p) other) (placed p next) (SetsNamed-placed fields body other (in_if p) (λ field n. h field (inr (inl n)))) (SetsNamed-placed fields body next p (λ field n. h field (inr (inr n))))),
)
SetsNamed-placed fields body (again count inner next) p h =
    (tt, AllByRecursion-append (λ x. SetsNamed fields body x.line) (placed (in_repeat count p) inner) (placed p next) (SetsNamed-placed fields body inner (in_repeat count p) (λ field n. h field (inl n))) (SetsNamed-placed fields body next p (λ field n. h field (inr n))))
SetsNamed-placed fields body (each name list inner next) p h =
    (tt, AllByRecursion-append (λ x. SetsNamed fields body x.line) (placed (in_each p) inner) (placed p next) (SetsNamed-placed fields body inner (in_each p) (λ field n. h field (inl n))) (SetsNamed-placed fields body next p (λ field n. h field (inr n))))

good_placed : (fields : ℕ) (body : Code) (xs : List Placed) → AllByRecursion IsInRange xs → AllByRecursion (λ x. SetsNamed fields body x.line) xs → AllByRecursion (IsGood fields body) xs
good_placed fields body [] h k = tt
good_placed fields body (x ∷ xs) h k = ((h.0, k.0), good_placed fields body xs h.1 k.1)

empty_record-bounded : (fields : ℕ) (body : Code) (input : CallInput) → IsBounded fields body input (empty_record fields)
empty_record-bounded fields body input = record { width = length-replicate fields Null; null = λ field none unset. at_field-nulls fields field }

module _ (fields : ℕ) (body : Code) (input : CallInput) (w : HasWidth fields input) where
  abbrev Bounded : List Value → Type 0
  Bounded row = IsBounded fields body input row

  record_in-bounded : (p : Place) (k : ℕ) (s : Store) → k < record_registers → BoundedStore fields body input p s → Bounded (record_in s k)
  record_in-bounded p k s lt h = All-get_or Bounded s.records k [] (omega (arith, h.registers)) h.in_records

  named_record-bounded : (p : Place) (from : Rec) (s : Store) → HasRecord s from → BoundedStore fields body input p s → Bounded (named_record s from)
  named_record-bounded p (Reg k) s r h = record_in-bounded p k s r h
  named_record-bounded p (Loop name) s r h = All-get_or Bounded s.loops (name - 1) [] (omega (arith, r)) h.in_loops
  named_record-bounded p Input s r h =
      subst (λ (i : CallInput). Bounded (input_record i)) (sym h.same_input) (input_record-bounded fields body input w (subst IsOfRecord h.same_input r))
  named_record-bounded p Left s r h =
      subst (λ (i : CallInput). Bounded (left_record i)) (sym h.same_input) (left_record-bounded fields body input w (subst IsOfPair h.same_input r))
  named_record-bounded p Right s r h =
      subst (λ (i : CallInput). Bounded (right_record i)) (sym h.same_input) (right_record-bounded fields body input w (subst IsOfPair h.same_input r))
  named_record-bounded p Join s r h =
      let pair = subst IsOfPair h.same_input r in
      subst (λ (i : CallInput). Bounded (joined_record (left_record i) (right_record i))) (sym h.same_input)
      (joined-bounded fields body input (left_record input) (right_record input) (left_record-bounded fields body input w pair) (right_record-bounded fields body input w pair))
  named_record-bounded p First s r h =
      subst (λ (i : CallInput). Bounded (first_record i)) (sym h.same_input) (first_record-bounded fields body input w (subst IsOfGroup h.same_input r))

  set_field-bounded : (row : List Value) (k : ℕ) (v : Value) → ((field : ℕ) → field ≡ k → Names fields field body) → Bounded row → Bounded (slice_set row k v)
  set_field-bounded row k v named h = record {
    width = length-set row k v ∙ h.width;
    null = λ field none unset. get_or-set_other row k field v Null (λ e. unset (named field e)) ∙ h.null field none unset;
  }

  set_numbered-bounded : (row : List Value) (o : Option ℕ) (v : Value) → ((k : ℕ) → o ≡ Some k → Names fields k body) → Bounded row → Bounded (set_numbered row o v)
  set_numbered-bounded row (Some k) v named h = set_field-bounded row k v (λ field e. subst (λ (n : ℕ). Names fields n body) (sym e) (named k refl)) h
  set_numbered-bounded row None v named h = h

  with_record : (p : Place) (to : ℕ) (row : List Value) (s : Store) → Bounded row → BoundedStore fields body input p s
      → BoundedIn fields body input p s.fields s.input (slice_set s.records to row) s.loops s.emitted
  with_record p to row s b h = record {
    fits = h.fits;
    same_fields = h.same_fields;
    same_input = h.same_input;
    registers = length-set s.records to row ∙ h.registers;
    in_records = All-set Bounded s.records to row b h.in_records;
    in_loops = h.in_loops;
    in_emitted = h.in_emitted;
  }

  after-bounded : (p : Place) (a : Simple) (s : Store) → IsGood fields body (at_place p (simple a)) → BoundedStore fields body input p s → BoundedStore fields body input p (after a s)
  after-bounded p (load_int to value) s g h = h
  after-bounded p (load_text to bytes) s g h = h
  after-bounded p (load_null to) s g h = h
  after-bounded p (move_value to from) s g h = h
  after-bounded p (get_field to from field) s g h = h
  after-bounded p (get_at to from at) s g h = h
  after-bounded p (get_key to at) s g h = h
  after-bounded p (apply_one to op a) s g h = h
  after-bounded p (apply_two to op a b) s g h = h
  after-bounded p (new_record to) s g h =
      with_record p to (empty_record s.fields) s (subst (λ (n : ℕ). Bounded (empty_record n)) (sym h.same_fields) (empty_record-bounded fields body input)) h
  after-bounded p (copy_record to from) s g h =
      with_record p to (named_record s from) s (named_record-bounded p from s (CanAct-fits p (copy_record to from) s g.0 h.fits).1 h) h
  after-bounded p (set_field to field value) s g h =
      let can = CanAct-fits p (set_field to field value) s g.0 h.fits in
      with_record p to (slice_set (record_in s to) field (value_in s value)) s (set_field-bounded (record_in s to) field (value_in s value) g.1 (record_in-bounded p to s can.0 h)) h
  after-bounded p (set_at to at value) s g h =
      let can = CanAct-fits p (set_at to at value) s g.0 h.fits in
      with_record p to _ s (set_numbered-bounded (record_in s to) (numbered s.fields (value_in s at)) (value_in s value)
      (λ k e. g.1 k (subst (λ (n : ℕ). k < n) h.same_fields (numbered-below s.fields (value_in s at) k e))) (record_in-bounded p to s can.0 h)) h
  after-bounded p (emit_record from) s g h = record {
    fits = h.fits;
    same_fields = h.same_fields;
    same_input = h.same_input;
    registers = h.registers;
    in_records = h.in_records;
    in_loops = h.in_loops;
    in_emitted = All-push Bounded s.emitted (record_in s from) h.in_emitted (record_in-bounded p from s (CanAct-fits p (emit_record from) s g.0 h.fits) h);
  }

  at_other : (p q : Place) (s : Store) → FitsStore q s → BoundedStore fields body input p s → BoundedStore fields body input q s
  at_other p q s f h = record {
    fits = f;
    same_fields = h.same_fields;
    same_input = h.same_input;
    registers = h.registers;
    in_records = h.in_records;
    in_loops = h.in_loops;
    in_emitted = h.in_emitted;
  }

  bind-bounded : (p : Place) (name : ℕ) (list : LoopList) (row : List Value) (s : Store) → IsGood fields body (at_place p (over name list)) → Bounded row → BoundedStore fields body input p s
      → BoundedStore fields body input (in_each p) (bind s name row)
  bind-bounded p name list row s g b h = record {
    fits = Fits-bind p name row s (next_name-over p name list g.0) h.fits;
    same_fields = h.same_fields;
    same_input = h.same_input;
    registers = h.registers;
    in_records = h.in_records;
    in_loops = All-push Bounded (take (name - 1) s.loops) row (All-take Bounded (name - 1) s.loops h.in_loops) b;
    in_emitted = h.in_emitted;
  }

  BoundedStore-kept : IsKept (IsGood fields body) Bounded (BoundedStore fields body input) input
  BoundedStore-kept = record {
    same_input = λ p s h. h.same_input;
    rows = λ list. rows_of-bounded fields body input list w;
    acts = after-bounded;
    into_if = λ p s h. at_other p (in_if p) s (record { fields = h.fits.fields; kind = h.fits.kind; keys = h.fits.keys; lists = h.fits.lists }) h;
    out_of_if = λ p s h. at_other (in_if p) p s (record { fields = h.fits.fields; kind = h.fits.kind; keys = h.fits.keys; lists = h.fits.lists }) h;
    into_repeat = λ count p s h. at_other p (in_repeat count p) s (record { fields = h.fits.fields; kind = h.fits.kind; keys = h.fits.keys; lists = h.fits.lists }) h;
    out_of_repeat = λ count p s h. at_other (in_repeat count p) p s (record { fields = h.fits.fields; kind = h.fits.kind; keys = h.fits.keys; lists = h.fits.lists }) h;
    into_each = bind-bounded;
    out_of_each = λ p s h. at_other (in_each p) p s (Fits-out_of_each p s h.fits) h;
  }

  start-bounded : (p : Place) → Fits p fields input [] → BoundedStore fields body input p (start_store fields input)
  start-bounded p f = record {
    fits = f;
    same_fields = refl;
    same_input = refl;
    registers = length-replicate record_registers (empty_record fields);
    in_records = All-replicate Bounded record_registers (empty_record fields) (empty_record-bounded fields body input);
    in_loops = All-nil Bounded;
    in_emitted = All-nil Bounded;
  }

  -- For a call of any kind: its records have the program's width, and the body is in range at a place that fits the call.
  pub AreBounded-exec : (p : Place) → AreInRange p body → Fits p fields input [] → AreBounded fields body input (exec body (start_store fields input)).emitted
  AreBounded-exec p r f =
      let good = good_placed fields body (placed p body) r (SetsNamed-placed fields body body p (λ field n. n)) in
      let kept = exec-kept (IsGood fields body) Bounded (BoundedStore fields body input) input BoundedStore-kept body p (start_store fields input) good (start-bounded p f) in
      recursion_from_All Bounded (exec body (start_store fields input)).emitted kept.in_emitted

-- ---- what a call of a valid function emits

pub Fits-start : (f : Function) (fields : ℕ) (input : CallInput) → IsInputOf f.kind input → HasKeys f.keys input → Fits (top_place f fields) fields input []
Fits-start f fields input k h = record { fields = refl; kind = k; keys = h; lists = omega arith }

pub AreBounded-Out : (f : Function) (fields : ℕ) (input : CallInput) → IsValid f fields → IsInputOf f.kind input → HasKeys f.keys input → HasWidth fields input
    → AreBounded fields f.body input (Out fields f.body input)
AreBounded-Out f fields input v k h w =
    subst (AreBounded fields f.body input) (sym (Out-exec fields f.body input))
    (AreBounded-exec fields f.body input w (top_place f fields) (AreInRange-valid f fields v) (Fits-start f fields input k h))

pub widths-bounded : (fields : ℕ) (body : Code) (input : CallInput) (rows : List (List Value)) → AreBounded fields body input rows → AreWide fields rows
widths-bounded fields body input [] h = tt
widths-bounded fields body input (row ∷ rows) h = (h.0.width, widths-bounded fields body input rows h.1)
