-- What is known of two calls when a loop's name is bound again.
use Rattle.std.proofs.Common.{◌≡◌, ◌≢◌, ◌≤◌, ◌<◌, ◌==◌, ◌+◌, ◌-◌, ℕ, Bool, if◌then◌else◌, Option, Some, None, List, [], ◌∷◌, ◌++◌, inl, inr, length, take, get_or, refl, sym, ap, subst, ◌∙◌, arith}
use Rattle.std.proofs.lemmas.Bool.{eqb-false, eq-eqb, ne_eqb, cases_Bool, cases_lt}
use Rattle.std.proofs.lemmas.List.{length-append, length-take-le, get_or_append_left, get_or_push, get_or-take}
use Rattle.pact_record.specs.declared.values.Value.{Value}
use Rattle.pact_record.specs.Record.{at_field}
use Rattle.tac_syntax.specs.Call.{CallInput, Store, bind}
use Rattle.tac_flow.specs.Known.{FieldSet, Side, left, Base, first, bound, some, nowhere, Origin, field_of, key_at, unknown, side_of, Known, Held, State, dropped_origin, dropped_base, dropped_known, dropped_held, dropped_values, dropped_records, dropped}
use Rattle.tac_flow.specs.Steps.{Scope}
use Rattle.tac_syntax.specs.Forms.{anchors}
use Rattle.tac_flow.proofs.ThreeLists.{Each, Each-map, Each-weaker}
use Rattle.tac_syntax.specs.WellFormed.{InScope}
use Rattle.tac_flow.proofs.TwoCalls.{anchor_at, HasOrigin, HaveBase, IsOver, IsInScope, SameValue, SameRecord, AreTwins, with_registers}

-- ---- names are dropped

-- each name in scope at the one depth, except this one, is in scope at the other
abbrev Inner : ℕ → ℕ → ℕ → Type 0
Inner name d e = (n : ℕ) → InScope d n → n ≢ name → InScope e n

origin_dropped : (name d e : ℕ) → Inner name d e → (z : CallInput) (rows : List (List Value)) (o : Origin) (v : Value) → HasOrigin z d rows o v → HasOrigin z e rows (dropped_origin name o) v
origin_dropped name d e f z rows (field_of first k) v h = h
origin_dropped name d e f z rows (field_of (bound n side) k) v h =
    let P : Bool → Type 0 = λ b. HasOrigin z e rows (if b then unknown else field_of (bound n side) k) v in
    elim (cases_Bool (n == name)) as (λ _. P (n == name)) [
      | inl p ↦ subst P (sym p) tt
      | inr p ↦ subst P (sym p) (f n h.0 (eqb-false n name p), h.1)
    ]
origin_dropped name d e f z rows (field_of (some side) k) v h = h
origin_dropped name d e f z rows (field_of nowhere k) v h = h
origin_dropped name d e f z rows (key_at at) v h = h
origin_dropped name d e f z rows unknown v h = h

base_dropped : (name d e : ℕ) → Inner name d e → (x y : CallInput) (rows others : List (List Value)) (base : Base) (changed : FieldSet) (r q : List Value)
    → HaveBase x y d rows others (side_of base) base changed r q → HaveBase x y e rows others (side_of (dropped_base name base)) (dropped_base name base) changed r q
base_dropped name d e f x y rows others first changed r q h = record { place = h.place; there = h.there; in_scope = tt; own = h.own; other = h.other }
base_dropped name d e f x y rows others (bound n side) changed r q h =
    let P : Bool → Type 0 = λ b. HaveBase x y e rows others (side_of (if b then some side else bound n side)) (if b then some side else bound n side) changed r q in
    elim (cases_Bool (n == name)) as (λ _. P (n == name)) [
      | inl p ↦ subst P (sym p) (record {
        place = h.place;
        there = h.there;
        in_scope = tt;
        own = record { at = tt; own = h.own.own; long = h.own.long };
        other = record { at = tt; own = h.other.own; long = h.other.long };
      })
      | inr p ↦ subst P (sym p) (record { place = h.place; there = h.there; in_scope = f n h.in_scope (eqb-false n name p); own = h.own; other = h.other })
    ]
base_dropped name d e f x y rows others (some side) changed r q h = record { place = h.place; there = h.there; in_scope = tt; own = h.own; other = h.other }
base_dropped name d e f x y rows others nowhere changed r q h = h

module _ (R : FieldSet) (fields : ℕ) (x y : CallInput) (rows others : List (List Value)) (name d e : ℕ) (f : Inner name d e) where
  values_dropped : (ds : List Known) (vs ws : List Value) → Each (SameValue R x y d rows others) ds vs ws → Each (SameValue R x y e rows others) (dropped_values name ds) vs ws
  values_dropped ds vs ws h = Each-map (SameValue R x y d rows others) (SameValue R x y e rows others) (dropped_known name)
      (λ k v w g. record { same = g.same; own = origin_dropped name d e f x rows k.origin v g.own; other = origin_dropped name d e f y others k.origin w g.other }) ds vs ws h

  records_dropped : (gs : List Held) (rs qs : List (List Value)) → Each (SameRecord R fields x y d rows others) gs rs qs → Each (SameRecord R fields x y e rows others) (dropped_records name gs) rs qs
  records_dropped gs rs qs h = Each-map (SameRecord R fields x y d rows others) (SameRecord R fields x y e rows others) (dropped_held name)
      (λ g r q p. record { base = base_dropped name d e f x y rows others g.base g.changed r q p.base; inside = p.inside; long = p.long; few = p.few }) gs rs qs h

-- ---- inside and outside of a loop

module _ (R : FieldSet) (c : Scope) (x y : CallInput) (sides : List Side) (side : Side) (name : ℕ) (next : name ≡ length sides + 1) where
  abbrev inside : List Side
  inside = sides ++ side ∷ []

  long_inside : length inside ≡ length sides + 1
  long_inside = length-append sides (side ∷ [])

  same_side_at : (n : ℕ) → n < length sides → get_or inside n left ≡ get_or sides n left
  same_side_at n h = get_or_append_left sides (side ∷ []) left n h

  -- before the loop
  pub twins_before : (k : State) (s t : Store) → AreTwins R c x y sides k s t → AreTwins R c x y sides (dropped name k) s t
  twins_before k s t h = with_registers R c x y sides k (dropped name k) s t s.values t.values s.records t.records h
      (values_dropped R c.fields x y s.loops t.loops name (length sides) (length sides) (λ n i _. i) k.values s.values t.values h.values)
      (records_dropped R c.fields x y s.loops t.loops name (length sides) (length sides) (λ n i _. i) k.records s.records t.records h.records)

  outer : Inner name (length inside) (length sides)
  outer n i apart = (i.0, omega (arith, i, apart, next, long_inside))

  -- after a turn
  pub twins_after : (k : State) (s t : Store) → AreTwins R c x y inside k s t → AreTwins R c x y sides (dropped name k) s t
  twins_after k s t h = record {
    values = values_dropped R c.fields x y s.loops t.loops name (length inside) (length sides) outer k.values s.values t.values h.values;
    records = records_dropped R c.fields x y s.loops t.loops name (length inside) (length sides) outer k.records s.records t.records h.records;
    loops = record {
      long = omega (arith, h.loops.long, long_inside);
      other_long = omega (arith, h.loops.other_long, long_inside);
      place = h.loops.place;
      there = λ n lt. subst (λ (u : Side). h.loops.place n < length (anchors u x)) (same_side_at n lt) (h.loops.there n (omega (arith, lt, long_inside)));
      own = λ n lt. subst (λ (u : Side). get_or s.loops n [] ≡ anchor_at u x (h.loops.place n)) (same_side_at n lt) (h.loops.own n (omega (arith, lt, long_inside)));
      other = λ n lt. subst (λ (u : Side). get_or t.loops n [] ≡ anchor_at u y (h.loops.place n)) (same_side_at n lt) (h.loops.other n (omega (arith, lt, long_inside)));
    };
    input = h.input;
    other_input = h.other_input;
    fields = h.fields;
    other_fields = h.other_fields;
  }

  -- a turn begins: the surrounding loops stay bound
  abbrev bound_to : List (List Value) → List Value → List (List Value)
  bound_to rows row = take (name - 1) rows ++ row ∷ []

  still : (rows : List (List Value)) (row : List Value) (n : ℕ) → length sides ≤ length rows → n < length sides → get_or (bound_to rows row) n [] ≡ get_or rows n []
  still rows row n long lt =
      let front = length-take-le (name - 1) rows (omega (arith, long, next)) in
      get_or_append_left (take (name - 1) rows) (row ∷ []) [] n (omega (arith, front, lt, next)) ∙ get_or-take (name - 1) rows n [] (omega (arith, lt, next))

  bound_here : (rows : List (List Value)) (row : List Value) → length sides ≤ length rows → get_or (bound_to rows row) (length sides) [] ≡ row
  bound_here rows row long =
      let front = length-take-le (name - 1) rows (omega (arith, long, next)) in
      get_or_push (take (name - 1) rows) row [] (length sides) (omega (arith, front, next))

  origin_inside : (z : CallInput) (rows : List (List Value)) (row : List Value) (o : Origin) (v : Value) → length sides ≤ length rows → HasOrigin z (length sides) rows o v
      → HasOrigin z (length inside) (bound_to rows row) o v
  origin_inside z rows row (field_of first k) v long h = h
  origin_inside z rows row (field_of (bound n u) k) v long h =
      ((h.0.0, omega (arith, h.0, long_inside)), h.1 ∙ ap (λ (a : List Value). at_field a k) (sym (still rows row (n - 1) long (omega (arith, h.0)))))
  origin_inside z rows row (field_of (some u) k) v long h = h
  origin_inside z rows row (field_of nowhere k) v long h = h
  origin_inside z rows row (key_at at) v long h = h
  origin_inside z rows row unknown v long h = h

  over_inside : (z : CallInput) (rows : List (List Value)) (row : List Value) (base : Base) (u : Side) (p : ℕ) (changed : FieldSet) (r : List Value) → length sides ≤ length rows
      → IsInScope (length sides) base → IsOver z rows base u p changed r → IsOver z (bound_to rows row) base u p changed r
  over_inside z rows row first u p changed r long i h = record { at = h.at; own = h.own; long = h.long }
  over_inside z rows row (bound n w) u p changed r long i h = record { at = still rows row (n - 1) long (omega (arith, i)) ∙ h.at; own = h.own; long = h.long }
  over_inside z rows row (some w) u p changed r long i h = record { at = tt; own = h.own; long = h.long }
  over_inside z rows row nowhere u p changed r long i h = record { at = tt; own = h.own; long = h.long }

  scope_inside : (base : Base) → IsInScope (length sides) base → IsInScope (length inside) base
  scope_inside first i = tt
  scope_inside (bound n w) i = (i.0, omega (arith, i, long_inside))
  scope_inside (some w) i = tt
  scope_inside nowhere i = tt

  base_inside : (rows others : List (List Value)) (row other : List Value) (o : Option Side) (base : Base) (changed : FieldSet) (r q : List Value) → length sides ≤ length rows → length sides ≤ length others
      → HaveBase x y (length sides) rows others o base changed r q → HaveBase x y (length inside) (bound_to rows row) (bound_to others other) o base changed r q
  base_inside rows others row other (Some u) base changed r q long more h = record {
    place = h.place;
    there = h.there;
    in_scope = scope_inside base h.in_scope;
    own = over_inside x rows row base u h.place changed r long h.in_scope h.own;
    other = over_inside y others other base u h.place changed q more h.in_scope h.other;
  }
  base_inside rows others row other None base changed r q long more h = h

  abbrev places_with : (ℕ → ℕ) → ℕ → ℕ → ℕ
  places_with place p n = if n == length sides then p else place n

  pub twins_inside : (k : State) (s t : Store) (row other : List Value) (p : ℕ) → p < length (anchors side x) → row ≡ anchor_at side x p → other ≡ anchor_at side y p
      → AreTwins R c x y sides k s t → AreTwins R c x y inside k (bind s name row) (bind t name other)
  twins_inside k s t row other p there own same h = record {
    values = Each-weaker (SameValue R x y (length sides) s.loops t.loops) (SameValue R x y (length inside) (bound_to s.loops row) (bound_to t.loops other))
        (λ v a b g. record {
          same = g.same;
          own = origin_inside x s.loops row v.origin a h.loops.long g.own;
          other = origin_inside y t.loops other v.origin b h.loops.other_long g.other;
        }) k.values s.values t.values h.values;
    records = Each-weaker (SameRecord R c.fields x y (length sides) s.loops t.loops) (SameRecord R c.fields x y (length inside) (bound_to s.loops row) (bound_to t.loops other))
        (λ z a b g. record {
          base = base_inside s.loops t.loops row other (side_of z.base) z.base z.changed a b h.loops.long h.loops.other_long g.base;
          inside = g.inside;
          long = g.long;
          few = g.few;
        }) k.records s.records t.records h.records;
    loops = record {
      long = omega (arith, h.loops.long, long_inside, length-append (take (name - 1) s.loops) (row ∷ []), length-take-le (name - 1) s.loops (omega (arith, h.loops.long, next)), next);
      other_long = omega (arith, h.loops.other_long, long_inside, length-append (take (name - 1) t.loops) (other ∷ []), length-take-le (name - 1) t.loops (omega (arith, h.loops.other_long, next)), next);
      place = places_with h.loops.place p;
      there = λ n lt. at_each n lt (λ m u. places_with h.loops.place p m < length (anchors u x))
          (λ m below. subst (λ (w : ℕ). w < length (anchors (get_or sides m left) x)) (sym (places_before m below)) (h.loops.there m below))
          (subst (λ (w : ℕ). w < length (anchors side x)) (sym places_here) there);
      own = λ n lt. at_each n lt (λ m u. get_or (bound_to s.loops row) m [] ≡ anchor_at u x (places_with h.loops.place p m))
          (λ m below. still s.loops row m h.loops.long below ∙ h.loops.own m below ∙ ap (λ (w : ℕ). anchor_at (get_or sides m left) x w) (sym (places_before m below)))
          (bound_here s.loops row h.loops.long ∙ own ∙ ap (λ (w : ℕ). anchor_at side x w) (sym places_here));
      other = λ n lt. at_each n lt (λ m u. get_or (bound_to t.loops other) m [] ≡ anchor_at u y (places_with h.loops.place p m))
          (λ m below. still t.loops other m h.loops.other_long below ∙ h.loops.other m below ∙ ap (λ (w : ℕ). anchor_at (get_or sides m left) y w) (sym (places_before m below)))
          (bound_here t.loops other h.loops.other_long ∙ same ∙ ap (λ (w : ℕ). anchor_at side y w) (sym places_here));
    };
    input = h.input;
    other_input = h.other_input;
    fields = h.fields;
    other_fields = h.other_fields;
  } where
    places_here : places_with h.loops.place p (length sides) ≡ p
    places_here = ap (λ (b : Bool). if b then p else h.loops.place (length sides)) (eq-eqb (length sides) (length sides) refl)

    places_before : (m : ℕ) → m < length sides → places_with h.loops.place p m ≡ h.loops.place m
    places_before m below = ap (λ (b : Bool). if b then p else h.loops.place m) (ne_eqb m (length sides) (λ e. omega (arith, e, below)))

    at_each : (n : ℕ) → n < length inside → (P : ℕ → Side → Type 0) → ((m : ℕ) → m < length sides → P m (get_or sides m left)) → P (length sides) side → P n (get_or inside n left)
    at_each n lt P before here = elim (cases_lt n (length sides)) as (λ _. P n (get_or inside n left)) [
      | inl below ↦ subst (P n) (sym (same_side_at n below)) (before n below)
      | inr above ↦
          let e : n ≡ length sides = omega (arith, above, lt, long_inside) in
          subst (λ (m : ℕ). P m (get_or inside m left)) (sym e) (subst (P (length sides)) (sym (get_or_push sides side left (length sides) refl)) here)
    ]
