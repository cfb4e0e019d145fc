-- Invariants of every state of a walk: its sets are below the number of fields, and a record without a base has changed
-- in every field.
use Rattle.std.proofs.Common.{◌≡◌, ◌==◌, ◌+◌, ◌++◌, ℕ, Bool, true, false, if◌then◌else◌, List, [], ◌∷◌, length, refl, sym, ap, subst, ◌∙◌}
use Rattle.std.specs.List.{AllByRecursion}
use Rattle.std.proofs.lemmas.Bool.{or_right, lt-ltb, true≢false}
use Rattle.std.proofs.lemmas.List.{length-append}
use Rattle.tac_syntax.specs.declared.functions.Kind.{Kind}
use Rattle.tac_syntax.specs.declared.functions.Kind.TheVariants.{Map, Match, Cross, Reduce, CoGroup}
use Rattle.tac_syntax.specs.declared.statements.Rec.{Rec}
use Rattle.tac_syntax.specs.declared.statements.Rec.TheVariants.{Reg, Loop, Input, Left, Right, Join, First}
use Rattle.tac_syntax.specs.Limits.{record_registers}
use Rattle.tac_syntax.specs.Code.{Simple, load_int, load_text, load_null, move_value, get_field, get_at, get_key, apply_one, apply_two, new_record, copy_record, set_field, set_at, emit_record, Code, stop, plain, branch, again, each}
use Rattle.tac_syntax.specs.WellFormed.{IsWellFormedSimple, IsWellFormed}
use Rattle.tac_flow.specs.Known.{with_field, without_field, either, Side, Base, first, bound, some, nowhere, Origin, field_of, key_at, unknown, Known, Held, State, joined, dropped_base, dropped_held, dropped}
use Rattle.tac_flow.specs.Steps.{Scope, fresh, fresh_by, record_at, value_at, held_of, is_copy, written, transfer, learns_record, start_state}
use Rattle.tac_flow.specs.Walks.{side_of_list, settled, walk}
use Rattle.tac_flow.specs.Warm.{IsSmallScope}
use Rattle.tac_flow.proofs.RoomToChange.{IsSmallHeld}
use Rattle.tac_flow.proofs.EachItem.{AllByRecursion-set, AllByRecursion-at_any, AllByRecursion-replicate, AllByRecursion-map}
use Rattle.tac_flow.proofs.LoopsSettle.{IsSmall, reached, joined-small}
use Rattle.tac_flow.proofs.SetsBelowFields.{transfer-small, dropped-small, start-small}
use Rattle.tac_flow.proofs.LooserStates.{IsLoose, joined-loose}
pub use Rattle.tac_flow.specs.Warm.{IsSound}

nowhere_dropped : (name : ℕ) (b : Base) → dropped_base name b ≡ nowhere → b ≡ nowhere
nowhere_dropped name first e = e
nowhere_dropped name (bound n side) e = absurd (case (n == name) e) where
  case : (b : Bool) → (if b then some side else bound n side) ≡ nowhere → ⊥
  case true p = cc
  case false p = cc
nowhere_dropped name (some side) e = e
nowhere_dropped name nowhere e = e

pub dropped-loose : (n name : ℕ) (h : Held) → IsLoose n h → IsLoose n (dropped_held name h)
dropped-loose n name h l e = l (nowhere_dropped name h.base e)

module _ (c : Scope) where
  fresh-loose : (kind : Kind) → IsLoose c.fields (fresh_by kind c.fields c.left c.right)
  fresh-loose Map e k lt = absurd cc
  fresh-loose Match e k lt = absurd cc
  fresh-loose Cross e k lt = absurd cc
  fresh-loose Reduce e k lt = absurd cc
  fresh-loose CoGroup e k lt = lt-ltb k c.fields lt

  record_at-loose : (k : State) (n : ℕ) → AllByRecursion (IsLoose c.fields) k.records → IsLoose c.fields (record_at c.fields k n)
  record_at-loose k n h = AllByRecursion-at_any (IsLoose c.fields) k.records n _ h (λ e j lt. lt-ltb j c.fields lt)

  held_of-loose : (sides : List Side) (k : State) (from : Rec) → AllByRecursion (IsLoose c.fields) k.records → IsLoose c.fields (held_of c sides k from)
  held_of-loose sides k (Reg n) h = record_at-loose k n h
  held_of-loose sides k (Loop name) h = λ e. absurd cc
  held_of-loose sides k Input h = λ e. absurd cc
  held_of-loose sides k Left h = λ e. absurd cc
  held_of-loose sides k Right h = λ e. absurd cc
  held_of-loose sides k Join h = λ e. absurd cc
  held_of-loose sides k First h = λ e. absurd cc

  -- nothing is put back into a record without a base
  pub no_copy : (o : Origin) (field : ℕ) → is_copy c nowhere o field ≡ false
  no_copy (field_of base k) field = refl
  no_copy (key_at at) field = refl
  no_copy unknown field = refl

  written-loose : (h : Held) (field : ℕ) (v : Known) → IsLoose c.fields h → IsLoose c.fields (written c h field v)
  written-loose h field v l = case (is_copy c h.base v.origin field) (λ e. ap (λ (b : Base). is_copy c b v.origin field) e ∙ no_copy v.origin field) where
    case : (b : Bool) → (h.base ≡ nowhere → b ≡ false)
        → IsLoose c.fields (if b then record h { changed = without_field field h.changed } else record h { changed = with_field field h.changed; depends = either h.depends v.deps })
    case true f e k lt = absurd (true≢false (f e))
    case false f e k lt = or_right (k == field) (h.changed k) (l e k lt)

  module _ (scope : IsSmallScope c) where
    with_record : (k : State) (to : ℕ) (g : Held) → IsSmall c.fields (learns_record k to g) → IsSound c k → IsLoose c.fields g → IsSound c (learns_record k to g)
    with_record k to g s h l = record { small = s; loose = AllByRecursion-set (IsLoose c.fields) k.records to g h.loose l }

    learns_by : (sides : List Side) (a : Simple) (k : State) → IsSmall c.fields (transfer c sides a k) → IsSound c k → IsSound c (transfer c sides a k)
    learns_by sides (load_int to n) k s h = record { small = s; loose = h.loose }
    learns_by sides (load_text to bytes) k s h = record { small = s; loose = h.loose }
    learns_by sides (load_null to) k s h = record { small = s; loose = h.loose }
    learns_by sides (move_value to from) k s h = record { small = s; loose = h.loose }
    learns_by sides (get_field to from field) k s h = record { small = s; loose = h.loose }
    learns_by sides (get_at to from at) k s h = record { small = s; loose = h.loose }
    learns_by sides (get_key to at) k s h = record { small = s; loose = h.loose }
    learns_by sides (apply_one to op a) k s h = record { small = s; loose = h.loose }
    learns_by sides (apply_two to op a b) k s h = record { small = s; loose = h.loose }
    learns_by sides (new_record to) k s h = with_record k to (fresh c) s h (fresh-loose c.kind)
    learns_by sides (copy_record to from) k s h = with_record k to (held_of c sides k from) s h (held_of-loose sides k from h.loose)
    learns_by sides (set_field to field value) k s h = with_record k to _ s h (written-loose (record_at c.fields k to) field (value_at k value) (record_at-loose k to h.loose))
    learns_by sides (set_at to at value) k s h = with_record k to _ s h (λ e j lt. lt-ltb j c.fields lt)
    learns_by sides (emit_record from) k s h = h

    pub transfer-sound : (sides : List Side) (a : Simple) (k : State) → IsWellFormedSimple c.kind c.fields (length sides) a → IsSound c k → IsSound c (transfer c sides a k)
    transfer-sound sides a k f h = learns_by sides a k (transfer-small c scope sides a k f h.small) h

    zipped-loose : (xs ys : List Held) → AllByRecursion (IsSmallHeld c.fields) xs → AllByRecursion (IsSmallHeld c.fields) ys
        → AllByRecursion (IsLoose c.fields) (joined (c.fields) (record { values = []; records = xs }) (record { values = []; records = ys })).records
    zipped-loose [] ys h g = tt
    zipped-loose (x ∷ xs) [] h g = tt
    zipped-loose (x ∷ xs) (y ∷ ys) h g = (joined-loose c.fields x y h.0 g.0, zipped-loose xs ys h.1 g.1)

    pub joined-sound : (a b : State) → IsSound c a → IsSound c b → IsSound c (joined c.fields a b)
    joined-sound a b h g = record {
      small = joined-small c.fields a b h.small g.small;
      loose = zipped-loose a.records b.records h.small.records g.small.records;
    }

    pub dropped-sound : (name : ℕ) (k : State) → IsSound c k → IsSound c (dropped name k)
    dropped-sound name k h = record {
      small = dropped-small c scope name k h.small;
      loose = AllByRecursion-map (IsLoose c.fields) (IsLoose c.fields) (dropped_held name) (dropped-loose c.fields name) k.records h.loose;
    }

    pub settled-sound : (turn : State → State) → ((j : State) → IsSound c j → IsSound c (turn j)) → (k : State) → IsSound c k → IsSound c (settled c.fields turn k)
    settled-sound turn f k h = reached (IsSound c) c.fields turn (λ j i. joined-sound j (turn j) i (f j i)) k h

    pub walk-sound : (code : Code) (sides : List Side) (depth : ℕ) (k : State) → depth ≡ length sides → IsWellFormed c.kind c.fields depth code → IsSound c k → IsSound c (walk c sides code k)
    walk-sound stop sides depth k e f h = h
    walk-sound (plain a next) sides depth k e f h =
        walk-sound next sides depth (transfer c sides a k) e f.1 (transfer-sound sides a k (subst (λ (d : ℕ). IsWellFormedSimple c.kind c.fields d a) e f.0) h)
    walk-sound (branch on body other next) sides depth k e f h =
        walk-sound next sides depth _ e f.2 (joined-sound _ _ (walk-sound body sides depth k e f.0 h) (walk-sound other sides depth k e f.1 h))
    walk-sound (again count body next) sides depth k e f h =
        let turn : (j : State) → IsSound c j → IsSound c (walk c sides body j) = λ j i. walk-sound body sides depth j e f.1 i in
        walk-sound next sides depth _ e f.2 (turn _ (settled-sound (walk c sides body) turn k h))
    walk-sound (each name list body next) sides depth k e f h =
        let inside = sides ++ side_of_list list ∷ [] in
        let deep = ap (λ (d : ℕ). d + 1) e ∙ sym (length-append sides (side_of_list list ∷ [])) in
        walk-sound next sides depth _ e f.3
        (settled-sound (λ j. dropped name (walk c inside body j)) (λ j i. dropped-sound name (walk c inside body j) (walk-sound body inside (depth + 1) j deep f.2 i)) (dropped name k) (dropped-sound name k h))

    pub start-sound : IsSound c (start_state c)
    start-sound = record {
      small = start-small c scope;
      loose = AllByRecursion-replicate (IsLoose c.fields) record_registers (fresh c) (fresh-loose c.kind);
    }
