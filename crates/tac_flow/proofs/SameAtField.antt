-- The findings about a CoGroup in two contexts with the same keys. They agree at a field that both contexts have on the
-- left or neither has, and likewise on the right. If no statement takes a field's number from a register, they agree at
-- every field.
use Rattle.std.proofs.Common.{◌≡◌, ◌+◌, ◌-◌, ◌++◌, ◌||◌, not, ◌&&◌, ℕ, zero, suc, Bool, true, false, if◌then◌else◌, Option, Some, None, List, [], ◌∷◌, get_or, refl, sym, ap, subst, ◌∙◌, true≢false}
use Rattle.pact_record.specs.Keys.{is_listed}
use Rattle.tac_syntax.specs.declared.functions.Kind.TheVariants.{CoGroup}
use Rattle.tac_syntax.specs.declared.statements.Rec.{Rec}
use Rattle.tac_syntax.specs.declared.statements.Rec.TheVariants.{Reg, Loop, Input, Left, Right, Join, First}
use Rattle.tac_syntax.specs.Code.{Simple, load_int, load_text, load_null, move_value, get_field, get_at, get_key, apply_one, apply_two, new_record, copy_record, set_field, set_at, emit_record, Code, stop, plain, branch, again, each}
use Rattle.tac_syntax.specs.FieldRegisters.{TakesSimple, Takes}
use Rattle.tac_syntax.specs.WellFormed.{CanRead, IsWellFormedSimple, IsWellFormed}
use Rattle.tac_flow.specs.Known.{FieldSet, no_fields, only_field, with_field, without_field, fields_below, either, Side, left, right, Base, first, bound, some, nowhere, Origin, field_of, key_at, unknown, side_of, Known, Held, State, joined_base, joined_origin, joined_known, joined_held, changed_from, zipped, joined, dropped_origin, dropped_base, dropped_known, dropped_held, dropped}
use Rattle.tac_flow.specs.Steps.{Scope, fresh, value_at, record_at, held_of, origin_of, read_from, is_key_of, is_copy, written, written_at, kept_of, fields_of, all_of, transfer, learns_value, learns_record, constant, start_state}
use Rattle.tac_flow.specs.Walks.{Note, decides, emits, noted, side_of_list, repeated, walks_at_most, settled, walk, notes}
use Rattle.tac_flow.specs.Results.{writes_in, common_in, depends_in, control_in, anchored_in, is_on, FoundSets, summary, by_anchors, notes_of, sets_of}
use Rattle.tac_flow.proofs.LooserStates.{Both, Both-set, Both-get_or, Both-map, Both-refl}

-- ---- lists

Both-zipped : {A : Type 0} (P : A → A → Type 0) (f : A → A → A) → ((a b x y : A) → P a b → P x y → P (f a x) (f b y)) → (xs ys us vs : List A) → Both P xs ys → Both P us vs → Both P (zipped f xs us) (zipped f ys vs)
Both-zipped P f k [] [] us vs h g = tt
Both-zipped P f k (x ∷ xs) (y ∷ ys) [] [] h g = tt
Both-zipped P f k (x ∷ xs) (y ∷ ys) (u ∷ us) (v ∷ vs) h g = (k x y u v h.0 g.0, Both-zipped P f k xs ys us vs h.1 g.1)
Both-zipped P f k [] (y ∷ ys) us vs h g = absurd h
Both-zipped P f k (x ∷ xs) [] us vs h g = absurd h
Both-zipped P f k (x ∷ xs) (y ∷ ys) [] (v ∷ vs) h g = absurd g
Both-zipped P f k (x ∷ xs) (y ∷ ys) (u ∷ us) [] h g = absurd g

Both-append : {A B : Type 0} (P : A → B → Type 0) (xs us : List A) (ys vs : List B) → Both P xs ys → Both P us vs → Both P (xs ++ us) (ys ++ vs)
Both-append P [] us [] vs h g = g
Both-append P (x ∷ xs) us (y ∷ ys) vs h g = (h.0, Both-append P xs us ys vs h.1 g)
Both-append P [] us (y ∷ ys) vs h g = absurd h
Both-append P (x ∷ xs) us [] vs h g = absurd h

-- ---- at a field

pub record KnownAt (k : ℕ) (v w : Known) : Type 0 where
  pub deps : v.deps k ≡ w.deps k
  pub origin : v.origin ≡ w.origin

-- the changed fields are equal at every field, since they decide what a value is known to equal
pub record HeldAt (k : ℕ) (g h : Held) : Type 0 where
  pub base : g.base ≡ h.base
  pub changed : g.changed ≡ h.changed
  pub depends : g.depends k ≡ h.depends k

pub record StateAt (k : ℕ) (a b : State) : Type 0 where
  pub values : Both (KnownAt k) a.values b.values
  pub records : Both (HeldAt k) a.records b.records

abbrev pub NoteAt : ℕ → Note → Note → Type 0
NoteAt k (decides d) (decides e) = d k ≡ e k
NoteAt k (emits g) (emits h) = HeldAt k g h
NoteAt k a b = ⊥

pub record SetsAt (k : ℕ) (s t : FoundSets) : Type 0 where
  pub reads : s.reads k ≡ t.reads k
  pub writes : s.writes k ≡ t.writes k
  pub control : s.control k ≡ t.control k
  pub anchor_left : s.anchor_left ≡ t.anchor_left
  pub anchor_right : s.anchor_right ≡ t.anchor_right

known-self : (k : ℕ) (v : Known) → KnownAt k v v
known-self k v = record { deps = refl; origin = refl }

held-self : (k : ℕ) (h : Held) → HeldAt k h h
held-self k h = record { base = refl; changed = refl; depends = refl }

state-self : (k : ℕ) (a : State) → StateAt k a a
state-self k a = record { values = Both-refl (KnownAt k) (known-self k) a.values; records = Both-refl (HeldAt k) (held-self k) a.records }

known-joined : (k : ℕ) (v w x y : Known) → KnownAt k v w → KnownAt k x y → KnownAt k (joined_known v x) (joined_known w y)
known-joined k v w x y h g = record { deps = λ i. h.deps i || g.deps i; origin = λ i. joined_origin (h.origin i) (g.origin i) }

held-joined : (k fields : ℕ) (v w x y : Held) → HeldAt k v w → HeldAt k x y → HeldAt k (joined_held fields v x) (joined_held fields w y)
held-joined k fields v w x y h g =
    let base : joined_base v.base x.base ≡ joined_base w.base y.base = λ i. joined_base (h.base i) (g.base i) in
    let changed : (joined_held fields v x).changed ≡ (joined_held fields w y).changed = λ i. changed_from fields (base i) (either (h.changed i) (g.changed i)) in
    record {
      base = base;
      changed = changed;
      depends = λ i. (h.depends i || g.depends i) || ((changed i k && not (h.changed i k)) || (changed i k && not (g.changed i k)));
    }

joined-at : (k fields : ℕ) (a b x y : State) → StateAt k a b → StateAt k x y → StateAt k (joined fields a x) (joined fields b y)
joined-at k fields a b x y h g = record {
  values = Both-zipped (KnownAt k) joined_known (known-joined k) a.values b.values x.values y.values h.values g.values;
  records = Both-zipped (HeldAt k) (joined_held fields) (held-joined k fields) a.records b.records x.records y.records h.records g.records;
}

known-dropped : (k name : ℕ) (v w : Known) → KnownAt k v w → KnownAt k (dropped_known name v) (dropped_known name w)
known-dropped k name v w h = record { deps = h.deps; origin = ap (dropped_origin name) h.origin }

held-dropped : (k name : ℕ) (g h : Held) → HeldAt k g h → HeldAt k (dropped_held name g) (dropped_held name h)
held-dropped k name g h p = record { base = ap (dropped_base name) p.base; changed = p.changed; depends = p.depends }

dropped-at : (k name : ℕ) (a b : State) → StateAt k a b → StateAt k (dropped name a) (dropped name b)
dropped-at k name a b h = record {
  values = Both-map (KnownAt k) (KnownAt k) (dropped_known name) (dropped_known name) (known-dropped k name) a.values b.values h.values;
  records = Both-map (HeldAt k) (HeldAt k) (dropped_held name) (dropped_held name) (held-dropped k name) a.records b.records h.records;
}

abbrev AreTurnsAt : ℕ → (State → State) → (State → State) → Type 0
AreTurnsAt k f g = (a b : State) → StateAt k a b → StateAt k (f a) (g b)

settled-at : (k fields : ℕ) (f g : State → State) → AreTurnsAt k f g → AreTurnsAt k (settled fields f) (settled fields g)
unfolding settled
settled-at k fields f g turn a b h = turns (walks_at_most fields) a b h where
  turns : (n : ℕ) (a b : State) → StateAt k a b → StateAt k (repeated n (λ j. joined fields j (f j)) a) (repeated n (λ j. joined fields j (g j)) b)
  turns zero a b h = h
  turns (suc n) a b h = turns n (joined fields a (f a)) (joined fields b (g b)) (joined-at k fields a b (f a) (g b) h (turn a b h))

-- ---- two contexts of a CoGroup

abbrev pub scope_with : ℕ → List ℕ → List ℕ → FieldSet → FieldSet → Scope
scope_with fields ks js l r = record { kind = CoGroup; fields = fields; left = l; right = r; left_keys = ks; right_keys = js }

module _ (fields : ℕ) (ks js : List ℕ) (l r m s : FieldSet) (k : ℕ) (registers : Bool) (agree : registers ≡ true → (l k ≡ m k) × (r k ≡ s k)) where
  abbrev one : Scope
  one = scope_with fields ks js l r

  abbrev other : Scope
  other = scope_with fields ks js m s

  -- ---- statements

  value-at : (a b : State) (n : ℕ) → StateAt k a b → KnownAt k (value_at a n) (value_at b n)
  value-at a b n h = Both-get_or (KnownAt k) a.values b.values n _ _ h.values (known-self k (record { deps = no_fields; origin = unknown }))

  record-at : (a b : State) (n : ℕ) → StateAt k a b → HeldAt k (record_at fields a n) (record_at fields b n)
  record-at a b n h = Both-get_or (HeldAt k) a.records b.records n _ _ h.records (held-self k (record { base = nowhere; changed = fields_below fields; depends = no_fields }))

  set_value-at : (a b : State) (to : ℕ) (v w : Known) → StateAt k a b → KnownAt k v w → StateAt k (learns_value a to v) (learns_value b to w)
  set_value-at a b to v w h p = record { values = Both-set (KnownAt k) a.values b.values to v w h.values p; records = h.records }

  set_record-at : (a b : State) (to : ℕ) (g p : Held) → StateAt k a b → HeldAt k g p → StateAt k (learns_record a to g) (learns_record b to p)
  set_record-at a b to g p h q = record { values = h.values; records = Both-set (HeldAt k) a.records b.records to g p h.records q }

  origin_same : (b : Base) (field : ℕ) → origin_of one b field ≡ origin_of other b field
  origin_same first field = refl
  origin_same (bound name side) field = refl
  origin_same (some side) field = refl
  origin_same nowhere field = refl

  copy_same : (b : Base) (o : Origin) (field : ℕ) → is_copy one b o field ≡ is_copy other b o field
  copy_same b (field_of base i) field = refl
  copy_same b (key_at at) field = by (side_of b) where
    by : (t : Option Side) → is_key_of one t at field ≡ is_key_of other t at field
    by (Some side) = refl
    by None = refl
  copy_same b unknown field = refl

  -- a CoGroup can't read the records of a pair
  held-at : (sides : List Side) (depth : ℕ) (a b : State) (from : Rec) → CanRead CoGroup depth from → StateAt k a b → HeldAt k (held_of one sides a from) (held_of other sides b from)
  held-at sides depth a b (Reg n) f h = record-at a b n h
  held-at sides depth a b (Loop name) f h = held-self k _
  held-at sides depth a b Input f h = held-self k _
  held-at sides depth a b Left f h = absurd (true≢false (sym f))
  held-at sides depth a b Right f h = absurd (true≢false (sym f))
  held-at sides depth a b Join f h = held-self k _
  held-at sides depth a b First f h = held-self k _

  read-at : (g h : Held) (field : ℕ) → HeldAt k g h → KnownAt k (read_from one g field) (read_from other h field)
  read-at g h field p = case (g.changed field) (h.changed field) (λ i. p.changed i field) where
    case : (x y : Bool) → x ≡ y → KnownAt k (if x then record { deps = g.depends; origin = unknown } else record { deps = only_field field; origin = origin_of one g.base field })
        (if y then record { deps = h.depends; origin = unknown } else record { deps = only_field field; origin = origin_of other h.base field })
    case true true e = record { deps = p.depends; origin = refl }
    case false false e = record { deps = refl; origin = origin_same g.base field ∙ ap (λ (b : Base). origin_of other b field) p.base }
    case true false e = absurd (true≢false e)
    case false true e = absurd (true≢false (sym e))

  written-at : (g h : Held) (v w : Known) (field : ℕ) → HeldAt k g h → KnownAt k v w → HeldAt k (written one g field v) (written other h field w)
  written-at g h v w field p q = case (is_copy one g.base v.origin field) (is_copy other h.base w.origin field) (copy_same g.base v.origin field ∙ (λ i. is_copy other (p.base i) (q.origin i) field)) where
    case : (x y : Bool) → x ≡ y → HeldAt k (if x then record g { changed = without_field field g.changed } else record g { changed = with_field field g.changed; depends = either g.depends v.deps })
        (if y then record h { changed = without_field field h.changed } else record h { changed = with_field field h.changed; depends = either h.depends w.deps })
    case true true e = record { base = p.base; changed = λ i. without_field field (p.changed i); depends = p.depends }
    case false false e = record { base = p.base; changed = λ i. with_field field (p.changed i); depends = λ i. p.depends i || q.deps i }
    case true false e = absurd (true≢false e)
    case false true e = absurd (true≢false (sym e))

  -- what depends on the fields of both sides, which agree at the field
  module _ (allowed : registers ≡ true) where
    lefts : l k ≡ m k
    lefts = (agree allowed).0

    rights : r k ≡ s k
    rights = (agree allowed).1

    kept-at : (g h : Held) → HeldAt k g h → kept_of one g k ≡ kept_of other h k
    kept-at g h p = λ i. (lefts i || rights i) && not (p.changed i k)

    side-at : (side : Side) → fields_of one side k ≡ fields_of other side k
    side-at left = lefts
    side-at right = rights

    all-at : (sides : List Side) (a b : State) (from : Rec) → StateAt k a b → all_of one sides a from k ≡ all_of other sides b from k
    all-at sides a b (Reg n) h =
        let p = record-at a b n h in
        let kept = kept-at (record_at fields a n) (record_at fields b n) p in
        λ i. p.depends i || kept i
    all-at sides a b (Loop name) h = side-at (get_or sides (name - 1) left)
    all-at sides a b Input h = lefts
    all-at sides a b Left h = lefts
    all-at sides a b Right h = rights
    all-at sides a b Join h = λ i. lefts i || rights i
    all-at sides a b First h = lefts

    written_at-at : (g h : Held) (v w x y : Known) → HeldAt k g h → KnownAt k v w → KnownAt k x y → HeldAt k (written_at one g v x) (written_at other h w y)
    written_at-at g h v w x y p q o =
        let kept = kept-at g h p in
        record { base = p.base; changed = refl; depends = λ i. p.depends i || ((q.deps i || o.deps i) || kept i) }

  transfer-at : (sides : List Side) (depth : ℕ) (t : Simple) (a b : State) → IsWellFormedSimple CoGroup fields depth t → TakesSimple registers t → StateAt k a b → StateAt k (transfer one sides t a) (transfer other sides t b)
  transfer-at sides depth (load_int to n) a b f u h = set_value-at a b to constant constant h (known-self k constant)
  transfer-at sides depth (load_text to bytes) a b f u h = set_value-at a b to constant constant h (known-self k constant)
  transfer-at sides depth (load_null to) a b f u h = set_value-at a b to constant constant h (known-self k constant)
  transfer-at sides depth (move_value to from) a b f u h = set_value-at a b to (value_at a from) (value_at b from) h (value-at a b from h)
  transfer-at sides depth (get_field to from field) a b f u h = set_value-at a b to _ _ h (read-at (held_of one sides a from) (held_of other sides b from) field (held-at sides depth a b from f.1 h))
  transfer-at sides depth (get_at to from at) a b f u h =
      let number = value-at a b at h in
      let whole = all-at u sides a b from h in
      set_value-at a b to _ _ h (record { deps = λ i. number.deps i || whole i; origin = refl })
  transfer-at sides depth (get_key to at) a b f u h = set_value-at a b to _ _ h (record { deps = refl; origin = refl })
  transfer-at sides depth (apply_one to op x) a b f u h = set_value-at a b to _ _ h (record { deps = (value-at a b x h).deps; origin = refl })
  transfer-at sides depth (apply_two to op x y) a b f u h =
      let p = value-at a b x h in
      let q = value-at a b y h in
      set_value-at a b to _ _ h (record { deps = λ i. p.deps i || q.deps i; origin = refl })
  transfer-at sides depth (new_record to) a b f u h = set_record-at a b to (fresh one) (fresh other) h (held-self k (fresh one))
  transfer-at sides depth (copy_record to from) a b f u h = set_record-at a b to (held_of one sides a from) (held_of other sides b from) h (held-at sides depth a b from f.1 h)
  transfer-at sides depth (set_field to field value) a b f u h =
      set_record-at a b to _ _ h (written-at (record_at fields a to) (record_at fields b to) (value_at a value) (value_at b value) field (record-at a b to h) (value-at a b value h))
  transfer-at sides depth (set_at to at value) a b f u h = set_record-at a b to _ _ h
      (written_at-at u (record_at fields a to) (record_at fields b to) (value_at a at) (value_at b at) (value_at a value) (value_at b value) (record-at a b to h) (value-at a b at h) (value-at a b value h))
  transfer-at sides depth (emit_record from) a b f u h = h

  -- ---- bodies

  walk-at : (code : Code) (sides : List Side) (depth : ℕ) (a b : State) → IsWellFormed CoGroup fields depth code → Takes registers code → StateAt k a b → StateAt k (walk one sides code a) (walk other sides code b)
  walk-at stop sides depth a b f u h = h
  walk-at (plain t next) sides depth a b f u h = walk-at next sides depth (transfer one sides t a) (transfer other sides t b) f.1 u.1 (transfer-at sides depth t a b f.0 u.0 h)
  walk-at (branch on body orelse next) sides depth a b f u h =
      walk-at next sides depth _ _ f.2 u.2 (joined-at k fields _ _ _ _ (walk-at body sides depth a b f.0 u.0 h) (walk-at orelse sides depth a b f.1 u.1 h))
  walk-at (again count body next) sides depth a b f u h =
      let turn : AreTurnsAt k (walk one sides body) (walk other sides body) = λ x y p. walk-at body sides depth x y f.1 u.0 p in
      walk-at next sides depth _ _ f.2 u.1 (turn _ _ (settled-at k fields (walk one sides body) (walk other sides body) turn a b h))
  walk-at (each name list body next) sides depth a b f u h =
      let inside = sides ++ side_of_list list ∷ [] in
      let turn : AreTurnsAt k (λ j. dropped name (walk one inside body j)) (λ j. dropped name (walk other inside body j)) =
      λ x y p. dropped-at k name _ _ (walk-at body inside (depth + 1) x y f.2 u.0 p) in
      walk-at next sides depth _ _ f.3 u.1
      (settled-at k fields (λ j. dropped name (walk one inside body j)) (λ j. dropped name (walk other inside body j)) turn (dropped name a) (dropped name b) (dropped-at k name a b h))

  noted-at : (t : Simple) (a b : State) → StateAt k a b → Both (NoteAt k) (noted one t a) (noted other t b)
  noted-at (load_int to n) a b h = tt
  noted-at (load_text to bytes) a b h = tt
  noted-at (load_null to) a b h = tt
  noted-at (move_value to from) a b h = tt
  noted-at (get_field to from field) a b h = tt
  noted-at (get_at to from at) a b h = tt
  noted-at (get_key to at) a b h = tt
  noted-at (apply_one to op x) a b h = tt
  noted-at (apply_two to op x y) a b h = tt
  noted-at (new_record to) a b h = tt
  noted-at (copy_record to from) a b h = tt
  noted-at (set_field to field value) a b h = tt
  noted-at (set_at to at value) a b h = tt
  noted-at (emit_record from) a b h = (record-at a b from h, tt)

  notes-at : (code : Code) (sides : List Side) (depth : ℕ) (a b : State) → IsWellFormed CoGroup fields depth code → Takes registers code → StateAt k a b → Both (NoteAt k) (notes one sides code a) (notes other sides code b)
  notes-at stop sides depth a b f u h = tt
  notes-at (plain t next) sides depth a b f u h =
      Both-append (NoteAt k) (noted one t a) _ (noted other t b) _ (noted-at t a b h)
      (notes-at next sides depth (transfer one sides t a) (transfer other sides t b) f.1 u.1 (transfer-at sides depth t a b f.0 u.0 h))
  notes-at (branch on body orelse next) sides depth a b f u h =
      let both = joined-at k fields _ _ _ _ (walk-at body sides depth a b f.0 u.0 h) (walk-at orelse sides depth a b f.1 u.1 h) in (
        (value-at a b on h).deps,
        Both-append (NoteAt k) (notes one sides body a) _ (notes other sides body b) _ (notes-at body sides depth a b f.0 u.0 h)
            (Both-append (NoteAt k) (notes one sides orelse a) _ (notes other sides orelse b) _ (notes-at orelse sides depth a b f.1 u.1 h) (notes-at next sides depth _ _ f.2 u.2 both)),
      )
  notes-at (again count body next) sides depth a b f u h =
      let turn : AreTurnsAt k (walk one sides body) (walk other sides body) = λ x y p. walk-at body sides depth x y f.1 u.0 p in
      let rest = settled-at k fields (walk one sides body) (walk other sides body) turn a b h in
      Both-append (NoteAt k) _ _ _ _ (notes-at body sides depth _ _ f.1 u.0 rest) (notes-at next sides depth _ _ f.2 u.1 (turn _ _ rest))
  notes-at (each name list body next) sides depth a b f u h =
      let inside = sides ++ side_of_list list ∷ [] in
      let turn : AreTurnsAt k (λ j. dropped name (walk one inside body j)) (λ j. dropped name (walk other inside body j)) =
      λ x y p. dropped-at k name _ _ (walk-at body inside (depth + 1) x y f.2 u.0 p) in
      let rest = settled-at k fields (λ j. dropped name (walk one inside body j)) (λ j. dropped name (walk other inside body j)) turn (dropped name a) (dropped name b) (dropped-at k name a b h) in
      Both-append (NoteAt k) _ _ _ _ (notes-at body inside (depth + 1) _ _ f.2 u.0 rest) (notes-at next sides depth _ _ f.3 u.1 rest)

  -- ---- results

  record SummaryAt (ns ms : List Note) : Type 0 where
    pub writes : (x : ℕ) → writes_in ns x ≡ writes_in ms x
    pub common : (x : ℕ) → common_in fields ns x ≡ common_in fields ms x
    pub depends : depends_in ns k ≡ depends_in ms k
    pub control : control_in ns k ≡ control_in ms k
    pub anchored : (side : Side) → anchored_in side ns ≡ anchored_in side ms

  summary-at : (ns ms : List Note) → Both (NoteAt k) ns ms → SummaryAt ns ms
  summary-at [] [] h = record { writes = λ x. refl; common = λ x. refl; depends = refl; control = refl; anchored = λ side. refl }
  summary-at (decides d ∷ ns) (decides e ∷ ms) h =
      let p = summary-at ns ms h.1 in
      record { writes = p.writes; common = p.common; depends = p.depends; control = λ i. h.0 i || p.control i; anchored = p.anchored }
  summary-at (emits g ∷ ns) (emits j ∷ ms) h =
      let p = summary-at ns ms h.1 in
      record {
        writes = λ x i. h.0.changed i x || p.writes x i;
        common = λ x i. h.0.changed i x && p.common x i;
        depends = λ i. h.0.depends i || p.depends i;
        control = p.control;
        anchored = λ side i. is_on side (side_of (h.0.base i)) && p.anchored side i;
      }
  summary-at (decides d ∷ ns) (emits j ∷ ms) h = absurd h.0
  summary-at (emits g ∷ ns) (decides e ∷ ms) h = absurd h.0
  summary-at [] (y ∷ ms) h = absurd h
  summary-at (x ∷ ns) [] h = absurd h

  module _ (ns ms : List Note) (p : SummaryAt ns ms) where
    reads-at : (depends_in ns k || control_in ns k || is_listed ks k || is_listed js k || (writes_in ns k && not (common_in fields ns k)))
        ≡ (depends_in ms k || control_in ms k || is_listed ks k || is_listed js k || (writes_in ms k && not (common_in fields ms k)))
    reads-at = λ i. p.depends i || p.control i || is_listed ks k || is_listed js k || (p.writes k i && not (p.common k i))

    same_anchors : (x y : Bool) → SetsAt k (by_anchors x y one (summary fields ns)) (by_anchors x y other (summary fields ms))
    same_anchors false false = record { reads = refl; writes = refl; control = p.control; anchor_left = refl; anchor_right = refl }
    same_anchors true true = record { reads = reads-at; writes = p.writes k; control = p.control; anchor_left = refl; anchor_right = refl }
    same_anchors true false = record { reads = reads-at; writes = p.writes k; control = p.control; anchor_left = refl; anchor_right = refl }
    same_anchors false true = record { reads = reads-at; writes = p.writes k; control = p.control; anchor_left = refl; anchor_right = refl }

    anchors-at : (x y u v : Bool) → x ≡ u → y ≡ v → SetsAt k (by_anchors x y one (summary fields ns)) (by_anchors u v other (summary fields ms))
    anchors-at x y u v d e = subst (λ (b : Bool). SetsAt k (by_anchors x y one (summary fields ns)) (by_anchors u b other (summary fields ms))) e
        (subst (λ (b : Bool). SetsAt k (by_anchors x y one (summary fields ns)) (by_anchors b y other (summary fields ms))) d (same_anchors x y))

  -- ---- the theorem
  pub sets-at : (body : Code) → IsWellFormed CoGroup fields 0 body → Takes registers body → SetsAt k (sets_of one body) (sets_of other body)
  sets-at body f u =
      let ns = notes_of one body in
      let ms = notes_of other body in
      let p = summary-at ns ms (notes-at body [] 0 (start_state one) (start_state other) f u (state-self k (start_state one))) in
      anchors-at ns ms p (anchored_in left ns) (anchored_in right ns) (anchored_in left ms) (anchored_in right ms) (p.anchored left) (p.anchored right)
