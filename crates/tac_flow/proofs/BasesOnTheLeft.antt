-- A kind without two groups has every record's base on the left.
use Rattle.std.proofs.Common.{◌≡◌, ◌<◌, ◌==◌, inl, inr, ◌+◌, ◌-◌, ◌++◌, ℕ, Bool, true, false, if◌then◌else◌, Some, List, [], ◌∷◌, length, slice_set, refl, sym, ap, subst, ◌∙◌, arith}
use Rattle.std.specs.List.{AllByRecursion}
use Rattle.std.proofs.lemmas.Bool.{cases_lt, both_ways}
use Rattle.std.proofs.lemmas.List.{length-append, length-map, length-replicate, length-set, set_past}
use Rattle.pact_record.proofs.Lists.{AllByRecursion-append}
use Rattle.tac_syntax.specs.declared.functions.Kind.{Kind}
use Rattle.tac_syntax.specs.declared.functions.Kind.TheVariants.{Map, Match, Cross, Reduce, CoGroup}
use Rattle.tac_syntax.specs.declared.statements.Rec.{Rec}
use Rattle.tac_syntax.specs.declared.statements.Rec.TheVariants.{Reg, Loop, Input, Left, Right, Join, First}
use Rattle.tac_syntax.specs.declared.statements.LoopList.{LoopList}
use Rattle.tac_syntax.specs.declared.statements.LoopList.TheVariants.{Group, Left as LeftGroup, Right as RightGroup}
use Rattle.tac_syntax.specs.Rules.{is_cogroup}
use Rattle.tac_syntax.specs.Limits.{record_registers}
use Rattle.tac_syntax.specs.Code.{Simple, load_int, load_text, load_null, move_value, get_field, get_at, get_key, apply_one, apply_two, new_record, copy_record, set_field, set_at, emit_record, Code, stop, plain, branch, again, each}
use Rattle.tac_flow.specs.Known.{Side, left, Base, first, bound, some, nowhere, same_base, side_of, met, joined_base, Held, Known, State, joined, joined_held, dropped_base, dropped_held, dropped, with_field, without_field, either}
use Rattle.tac_flow.specs.Steps.{Scope, fresh, fresh_by, record_at, value_at, held_of, is_copy, written, transfer, start_state}
use Rattle.tac_flow.specs.Walks.{Note, decides, emits, noted, side_of_list, settled, walk, notes}
use Rattle.tac_syntax.specs.WellFormed.{HasList, CanRead, IsWellFormedSimple, IsWellFormed}
use Rattle.pact_record.proofs.Lists.{AllByRecursion-get_or}
use Rattle.tac_flow.proofs.EachItem.{AllByRecursion-set, AllByRecursion-at_any, AllByRecursion-replicate, AllByRecursion-map, AllByRecursion-zipped, length-zipped}
use Rattle.tac_flow.proofs.LoopsSettle.{reached}

abbrev pub OnLeft : Held → Type 0
OnLeft h = side_of h.base ≡ Some left

abbrev pub NoteOnLeft : Note → Type 0
NoteOnLeft (decides d) = Unit {0}
NoteOnLeft (emits h) = OnLeft h

pub record AllLeft (k : State) : Type 0 where
  pub all : AllByRecursion OnLeft k.records
  pub count : length k.records ≡ record_registers

joined_left : (a b : Base) → side_of a ≡ Some left → side_of b ≡ Some left → side_of (joined_base a b) ≡ Some left
joined_left a b h g = case (same_base a b) where
  case : (t : Bool) → side_of (if t then a else met (side_of a) (side_of b)) ≡ Some left
  case true = h
  case false = (λ i. side_of (met (h i) (g i)))

dropped_left : (name : ℕ) (b : Base) → side_of b ≡ Some left → side_of (dropped_base name b) ≡ Some left
dropped_left name first h = h
dropped_left name (bound n side) h = case (n == name) where
  case : (t : Bool) → side_of (if t then some side else bound n side) ≡ Some left
  case true = h
  case false = h
dropped_left name (some side) h = h
dropped_left name nowhere h = h

all_left-joined : (fields : ℕ) (a b : State) → AllLeft a → AllLeft b → AllLeft (joined fields a b)
all_left-joined fields a b h g = record {
  all = AllByRecursion-zipped OnLeft (joined_held fields) (λ x y p q. joined_left x.base y.base p q) a.records b.records h.all g.all;
  count = length-zipped (joined_held fields) a.records b.records (g.count ∙ sym h.count) ∙ h.count;
}

all_left-dropped : (name : ℕ) (k : State) → AllLeft k → AllLeft (dropped name k)
all_left-dropped name k h = record {
  all = AllByRecursion-map OnLeft OnLeft (dropped_held name) (λ x p. dropped_left name x.base p) k.records h.all;
  count = length-map k.records (dropped_held name) ∙ h.count;
}

module _ (c : Scope) (single : is_cogroup c.kind ≡ false) where
  fresh_left : OnLeft (fresh c)
  fresh_left = by c.kind single where
    by : (kind : Kind) → is_cogroup kind ≡ false → side_of (fresh_by kind c.fields c.left c.right).base ≡ Some left
    by Map e = refl
    by Match e = refl
    by Cross e = refl
    by Reduce e = refl
    by CoGroup e = cc

  list_left : (list : LoopList) → HasList c.kind list → side_of_list list ≡ left
  list_left Group h = refl
  list_left LeftGroup h = refl
  list_left RightGroup h = absurd (both_ways (is_cogroup c.kind) single h)

  record_at-left : (k : State) (n : ℕ) → n < record_registers → AllLeft k → OnLeft (record_at c.fields k n)
  record_at-left k n lt h = AllByRecursion-get_or OnLeft k.records n _ (omega (arith, lt, h.count)) h.all

  held_of-left : (sides : List Side) (k : State) (from : Rec) → AllByRecursion (λ s. s ≡ left) sides → CanRead c.kind (length sides) from → AllLeft k → OnLeft (held_of c sides k from)
  held_of-left sides k (Reg n) s f h = record_at-left k n f h
  held_of-left sides k (Loop name) s f h = ap (λ (u : Side). Some u) (AllByRecursion-at_any (λ u. u ≡ left) sides (name - 1) left s refl)
  held_of-left sides k Input s f h = refl
  held_of-left sides k Left s f h = refl
  held_of-left sides k Right s f h = refl
  held_of-left sides k Join s f h = refl
  held_of-left sides k First s f h = refl

  with_record : (k : State) (to : ℕ) (g : Held) → AllLeft k → OnLeft g → AllLeft (record k { records = slice_set k.records to g })
  with_record k to g h e = record { all = AllByRecursion-set OnLeft k.records to g h.all e; count = length-set k.records to g ∙ h.count }

  written_left : (h : Held) (k : ℕ) (v : Known) → OnLeft h → OnLeft (written c h k v)
  written_left h k v e = case (is_copy c h.base v.origin k) where
    case : (t : Bool) → OnLeft (if t then record h { changed = without_field k h.changed } else record h { changed = with_field k h.changed; depends = either h.depends v.deps })
    case true = e
    case false = e

  -- Setting a register that exists sets its record; any other number sets nothing.
  set_left : (k : State) (to : ℕ) (g : Held) → (OnLeft (record_at c.fields k to) → OnLeft g) → AllLeft k → AllLeft (record k { records = slice_set k.records to g })
  set_left k to g keeps h = elim (cases_lt to record_registers) as (λ _. AllLeft (record k { records = slice_set k.records to g })) [
    | inl p ↦ with_record k to g h (keeps (record_at-left k to p h))
    | inr p ↦ record {
      all = subst (λ (l : List Held). AllByRecursion OnLeft l) (sym (set_past k.records to _ (omega (arith, p, h.count)))) h.all;
      count = length-set k.records to _ ∙ h.count;
    }
  ]

  transfer-left : (sides : List Side) (a : Simple) (k : State) → AllByRecursion (λ s. s ≡ left) sides → IsWellFormedSimple c.kind c.fields (length sides) a → AllLeft k
      → AllLeft (transfer c sides a k) × AllByRecursion NoteOnLeft (noted c a k)
  transfer-left sides (load_int to n) k s f h = (record { all = h.all; count = h.count }, tt)
  transfer-left sides (load_text to bytes) k s f h = (record { all = h.all; count = h.count }, tt)
  transfer-left sides (load_null to) k s f h = (record { all = h.all; count = h.count }, tt)
  transfer-left sides (move_value to from) k s f h = (record { all = h.all; count = h.count }, tt)
  transfer-left sides (get_field to from field) k s f h = (record { all = h.all; count = h.count }, tt)
  transfer-left sides (get_at to from at) k s f h = (record { all = h.all; count = h.count }, tt)
  transfer-left sides (get_key to at) k s f h = (record { all = h.all; count = h.count }, tt)
  transfer-left sides (apply_one to op a) k s f h = (record { all = h.all; count = h.count }, tt)
  transfer-left sides (apply_two to op a b) k s f h = (record { all = h.all; count = h.count }, tt)
  transfer-left sides (new_record to) k s f h = (with_record k to (fresh c) h fresh_left, tt)
  transfer-left sides (copy_record to from) k s f h = (with_record k to (held_of c sides k from) h (held_of-left sides k from s f.1 h), tt)
  transfer-left sides (set_field to field value) k s f h = (set_left k to _ (written_left (record_at c.fields k to) field (value_at k value)) h, tt)
  transfer-left sides (set_at to at value) k s f h = (set_left k to _ (λ e. e) h, tt)
  transfer-left sides (emit_record from) k s f h = (h, (record_at-left k from f h, tt))

  pub walk-left : (code : Code) (sides : List Side) (depth : ℕ) (k : State) → depth ≡ length sides → AllByRecursion (λ s. s ≡ left) sides → IsWellFormed c.kind c.fields depth code → AllLeft k
      → AllLeft (walk c sides code k) × AllByRecursion NoteOnLeft (notes c sides code k)
  walk-left stop sides depth k e s f h = (h, tt)
  walk-left (plain a next) sides depth k e s f h =
      let one = transfer-left sides a k s (subst (λ (d : ℕ). IsWellFormedSimple c.kind c.fields d a) e f.0) h in
      let rest = walk-left next sides depth (transfer c sides a k) e s f.1 one.0 in
      (rest.0, AllByRecursion-append NoteOnLeft (noted c a k) _ one.1 rest.1)
  walk-left (branch on body other next) sides depth k e s f h =
      let p = walk-left body sides depth k e s f.0 h in
      let q = walk-left other sides depth k e s f.1 h in
      let rest = walk-left next sides depth (joined c.fields (walk c sides body k) (walk c sides other k)) e s f.2 (all_left-joined c.fields _ _ p.0 q.0) in
      (rest.0, (tt, AllByRecursion-append NoteOnLeft (notes c sides body k) _ p.1 (AllByRecursion-append NoteOnLeft (notes c sides other k) _ q.1 rest.1)))
  walk-left (again count body next) sides depth k e s f h =
      let j = settled c.fields (walk c sides body) k in
      let ij = reached AllLeft c.fields (walk c sides body) (λ i l. all_left-joined c.fields i (walk c sides body i) l (walk-left body sides depth i e s f.1 l).0) k h in
      let p = walk-left body sides depth j e s f.1 ij in
      let rest = walk-left next sides depth (walk c sides body j) e s f.2 p.0 in
      (rest.0, AllByRecursion-append NoteOnLeft (notes c sides body j) _ p.1 rest.1)
  walk-left (each name list body next) sides depth k e s f h =
      let inside = sides ++ side_of_list list ∷ [] in
      let deep = ap (λ (d : ℕ). d + 1) e ∙ sym (length-append sides (side_of_list list ∷ [])) in
      let more = AllByRecursion-append (λ u. u ≡ left) sides (side_of_list list ∷ []) s (list_left list f.1, tt) in
      let turn : State → State = λ i. dropped name (walk c inside body i) in
      let j = settled c.fields turn (dropped name k) in
      let ij = reached AllLeft c.fields turn (λ i l. all_left-joined c.fields i (turn i) l (all_left-dropped name (walk c inside body i) (walk-left body inside (depth + 1) i deep more f.2 l).0)) (dropped name k) (all_left-dropped name k h) in
      let p = walk-left body inside (depth + 1) j deep more f.2 ij in
      let rest = walk-left next sides depth j e s f.3 ij in
      (rest.0, AllByRecursion-append NoteOnLeft (notes c inside body j) _ p.1 rest.1)

  pub start-left : AllLeft (start_state c)
  start-left = record { all = AllByRecursion-replicate OnLeft record_registers (fresh c) fresh_left; count = length-replicate record_registers (fresh c) }
