-- A walk from a state that knows less leads to a state that knows less, if each value that it puts back into a field
-- depends on that field. Only in a CoGroup may a value not depend on it: a key that was read on the other side.
use Rattle.std.proofs.Common.{◌≡◌, ◌==◌, ◌+◌, ◌++◌, ◌||◌, not, ◌&&◌, ℕ, zero, suc, Bool, true, false, if◌then◌else◌, Option, Some, None, List, [], ◌∷◌, inl, inr, length, refl, sym, ap, subst, ◌∙◌}
use Rattle.std.specs.List.{AllByRecursion}
use Rattle.std.proofs.lemmas.Bool.{and_parts, and_from, or_left, or_right, or_cases, cases_Bool, eqb-true, true≢false, not_from_false, not-true}
use Rattle.std.proofs.lemmas.List.{length-append}
use Rattle.tac_syntax.specs.declared.statements.Rec.{Rec}
use Rattle.tac_syntax.specs.declared.statements.Rec.TheVariants.{Reg, Loop, Input, Left, Right, Join, First}
use Rattle.tac_syntax.specs.Code.{Simple, load_int, load_text, load_null, move_value, get_field, get_at, get_key, apply_one, apply_two, new_record, copy_record, set_field, set_at, emit_record, Code, stop, plain, branch, again, each}
use Rattle.tac_syntax.specs.WellFormed.{IsWellFormedSimple, IsWellFormed}
use Rattle.tac_flow.specs.Known.{FieldSet, no_fields, only_field, with_field, without_field, fields_below, either, Side, left, Base, first, bound, some, nowhere, Origin, field_of, key_at, unknown, side_of, names_one, same_base, Known, Held, State, joined_known, joined_held, joined, dropped_origin, dropped_base, dropped_known, dropped_held, dropped}
use Rattle.tac_flow.specs.Steps.{Scope, keys_of, key_or, fresh, value_at, record_at, held_of, origin_of, read_from, is_key_of, is_copy, written, written_at, kept_of, all_of, transfer, learns_value, learns_record, constant}
use Rattle.tac_flow.specs.Walks.{side_of_list, repeated, walks_at_most, settled, walk}
use Rattle.tac_flow.specs.Warm.{IsSmallScope}
use Rattle.tac_flow.proofs.TwoCalls.{Sub}
use Rattle.tac_flow.proofs.RoomToChange.{IsSmallHeld}
use Rattle.tac_flow.proofs.LoopsSettle.{IsSmall, stays, settles}
use Rattle.tac_flow.proofs.SetsBelowFields.{walk-small, dropped-small}
use Rattle.tac_flow.proofs.LooserBases.{Loosens}
use Rattle.tac_flow.proofs.LooserStates.{Sub-either, Forgets, KnowsLess, HoldsLess, IsLoose, knows-refl, holds-refl, knows-trans, holds-trans, knows-both, holds-both, knows-left, knows-right, knows-least, holds-left, holds-right, holds-least, Both-set, Both-get_or, Both-map, Both-refl, Both-trans, Both-same, Both-left, Both-right, Both-least}
use Rattle.tac_flow.proofs.SoundStates.{IsSound, transfer-sound, joined-sound, dropped-sound, settled-sound, walk-sound}
pub use Rattle.tac_flow.specs.Warm.{IsLess, IsPlainCopy, IsCleanHere, IsClean}

pub less-refl : (a : State) → IsLess a a
less-refl a = record { values = Both-refl KnowsLess knows-refl a.values; records = Both-refl HoldsLess holds-refl a.records }

pub less-trans : (a b d : State) → IsLess a b → IsLess b d → IsLess a d
less-trans a b d h g = record { values = Both-trans KnowsLess knows-trans a.values b.values d.values h.values g.values; records = Both-trans HoldsLess holds-trans a.records b.records d.records h.records g.records }

pub less-both : (a b : State) → IsLess a b → IsLess b a → a ≡ b
less-both a b h g =
    let v = Both-same KnowsLess knows-both a.values b.values h.values g.values in
    let r = Both-same HoldsLess holds-both a.records b.records h.records g.records in
    λ i. record { values = v i; records = r i }

-- ---- joins

module _ (n : ℕ) where
  each_unit : {A : Type 0} (xs : List A) → AllByRecursion (λ (_ : A). Unit {0}) xs
  each_unit [] = tt
  each_unit (x ∷ xs) = (tt, each_unit xs)

  pub less-left : (a b : State) → IsSmall n a → IsSmall n b → IsLess a (joined n a b)
  less-left a b h g = record {
    values = Both-left (λ _. Unit {0}) KnowsLess joined_known (λ v w _ _. knows-left v w) a.values b.values (each_unit a.values) (each_unit b.values) (g.value_count ∙ sym h.value_count);
    records = Both-left (IsSmallHeld n) HoldsLess (joined_held n) (holds-left n) a.records b.records h.records g.records (g.record_count ∙ sym h.record_count);
  }

  pub less-right : (a b : State) → IsSmall n a → IsSmall n b → IsLess b (joined n a b)
  less-right a b h g = record {
    values = Both-right (λ _. Unit {0}) KnowsLess joined_known (λ v w _ _. knows-right v w) a.values b.values (each_unit a.values) (each_unit b.values) (g.value_count ∙ sym h.value_count);
    records = Both-right (IsSmallHeld n) HoldsLess (joined_held n) (holds-right n) a.records b.records h.records g.records (g.record_count ∙ sym h.record_count);
  }

  both_good : (xs : List Held) → AllByRecursion (IsSmallHeld n) xs → AllByRecursion (IsLoose n) xs → AllByRecursion (λ h. IsSmallHeld n h × IsLoose n h) xs
  both_good [] h g = tt
  both_good (x ∷ xs) h g = ((h.0, g.0), both_good xs h.1 g.1)

  pub less-least : (c : Scope) → c.fields ≡ n → (a b u : State) → IsSound c a → IsSound c b → IsSound c u → IsLess a u → IsLess b u → IsLess (joined n a b) u
  less-least c e a b u h g f p q =
      let P : ℕ → Type 0 = λ m. AllByRecursion (λ h. IsSmallHeld m h × IsLoose m h) a.records in
      record {
        values = Both-least (λ _. Unit {0}) KnowsLess joined_known (λ v w z _ _ _. knows-least v w z) a.values b.values u.values (each_unit a.values) (each_unit b.values) (each_unit u.values) p.values q.values;
        records = Both-least (λ h. IsSmallHeld n h × IsLoose n h) HoldsLess (joined_held n) (λ x y z i j k. holds-least n x y i.0 j.0 z k.1) a.records b.records u.records
            (at_n a h) (at_n b g) (at_n u f) p.records q.records;
      } where
        at_n : (k : State) → IsSound c k → AllByRecursion (λ h. IsSmallHeld n h × IsLoose n h) k.records
        at_n k s = subst (λ (m : ℕ). AllByRecursion (λ h. IsSmallHeld m h × IsLoose m h) k.records) e (both c.fields k s.small.records s.loose) where
          both : (m : ℕ) (k : State) → AllByRecursion (IsSmallHeld m) k.records → AllByRecursion (IsLoose m) k.records → AllByRecursion (λ h. IsSmallHeld m h × IsLoose m h) k.records
          both m k a b = go m k.records a b where
            go : (m : ℕ) (xs : List Held) → AllByRecursion (IsSmallHeld m) xs → AllByRecursion (IsLoose m) xs → AllByRecursion (λ h. IsSmallHeld m h × IsLoose m h) xs
            go m [] h g = tt
            go m (x ∷ xs) h g = ((h.0, g.0), go m xs h.1 g.1)

-- ---- names

dropped_side : (name : ℕ) (b : Base) → side_of (dropped_base name b) ≡ side_of b
dropped_side name first = refl
dropped_side name (bound n side) = case (n == name) where
  case : (t : Bool) → side_of (if t then some side else bound n side) ≡ Some side
  case true = refl
  case false = refl
dropped_side name (some side) = refl
dropped_side name nowhere = refl

dropped_loosens : (name : ℕ) (a b : Base) → Loosens a b → Loosens (dropped_base name a) (dropped_base name b)
dropped_loosens name a b (inl p) = inl (ap (dropped_base name) p)
dropped_loosens name a b (inr (inl p)) = inr (inl (p.0, dropped_side name a ∙ p.1, ap (dropped_base name) p.2))
dropped_loosens name a b (inr (inr p)) = inr (inr (ap (dropped_base name) p))

dropped_forgets : (name : ℕ) (a b : Origin) → Forgets a b → Forgets (dropped_origin name a) (dropped_origin name b)
dropped_forgets name a b (inl p) = inl (ap (dropped_origin name) p)
dropped_forgets name a b (inr p) = inr (ap (dropped_origin name) p)

dropped_knows : (name : ℕ) (v w : Known) → KnowsLess v w → KnowsLess (dropped_known name v) (dropped_known name w)
dropped_knows name v w h = record { deps = h.deps; origin = dropped_forgets name v.origin w.origin h.origin }

dropped_holds : (name : ℕ) (g h : Held) → HoldsLess g h → HoldsLess (dropped_held name g) (dropped_held name h)
dropped_holds name g h p = record { base = dropped_loosens name g.base h.base p.base; changed = p.changed; depends = p.depends; missing = p.missing }

pub dropped-less : (name : ℕ) (a b : State) → IsLess a b → IsLess (dropped name a) (dropped name b)
dropped-less name a b h = record {
  values = Both-map KnowsLess KnowsLess (dropped_known name) (dropped_known name) (dropped_knows name) a.values b.values h.values;
  records = Both-map HoldsLess HoldsLess (dropped_held name) (dropped_held name) (dropped_holds name) a.records b.records h.records;
}

-- ---- statements

key_forgets : (o : Origin) (n : ℕ) (ks : List ℕ) (field : ℕ) → Forgets (key_or o n ks field) (key_or unknown n ks field)
key_forgets o n [] field = inr refl
key_forgets o n (k ∷ ks) field = case (field == k) (key_forgets o (suc n) ks field) where
  case : (b : Bool) → Forgets (key_or o (suc n) ks field) (key_or unknown (suc n) ks field)
      → Forgets (if b then key_at n else key_or o (suc n) ks field) (if b then key_at n else key_or unknown (suc n) ks field)
  case true h = inl refl
  case false h = h

same_inside : (s t : Side) → Some s ≡ Some t → s ≡ t
same_inside s t e = cc

module _ (c : Scope) where
  origin_forgets : (a b : Base) (field : ℕ) → Loosens a b → Forgets (origin_of c a field) (origin_of c b field)
  origin_forgets a b field (inl p) = inl (ap (λ (z : Base). origin_of c z field) p)
  origin_forgets a b field (inr (inl p)) = subst (λ (z : Base). Forgets (origin_of c a field) (origin_of c z field)) (sym p.2) (of a p.1) where
    of : (z : Base) → side_of z ≡ Some p.0 → Forgets (origin_of c z field) (origin_of c (some p.0) field)
    of first e = subst (λ (s : Side). Forgets (origin_of c first field) (origin_of c (some s) field)) (same_inside left p.0 e) (key_forgets (field_of first field) 0 (keys_of c left) field)
    of (bound name side) e = subst (λ (s : Side). Forgets (origin_of c (bound name side) field) (origin_of c (some s) field)) (same_inside side p.0 e) (key_forgets (field_of (bound name side) field) 0 (keys_of c side) field)
    of (some side) e = inl (ap (λ (s : Side). origin_of c (some s) field) (sym (same_inside side p.0 e)))
    of nowhere e = absurd cc
  origin_forgets a b field (inr (inr p)) = inr (ap (λ (z : Base). origin_of c z field) p)

  read_less : (g h : Held) (field : ℕ) → HoldsLess g h → KnowsLess (read_from c g field) (read_from c h field)
  read_less g h field p = case (g.changed field) (h.changed field) refl refl where
    by : Held → Bool → Known
    by x b = if b then record { deps = x.depends; origin = unknown } else record { deps = only_field field; origin = origin_of c x.base field }

    case : (s t : Bool) → g.changed field ≡ s → h.changed field ≡ t → KnowsLess (if s then record { deps = g.depends; origin = unknown } else record { deps = only_field field; origin = origin_of c g.base field })
        (if t then record { deps = h.depends; origin = unknown } else record { deps = only_field field; origin = origin_of c h.base field })
    case true true d e = record { deps = p.depends; origin = inl refl }
    case true false d e = absurd (true≢false (sym (p.changed field d) ∙ e))
    case false true d e = record { deps = λ j m. subst (λ (i : ℕ). h.depends i ≡ true) (sym (eqb-true j field m)) (p.missing field e d); origin = inr refl }
    case false false d e = record { deps = λ j m. m; origin = origin_forgets g.base h.base field p.base }

  kept_less : (g h : Held) → HoldsLess g h → Sub (either g.depends (kept_of c g)) (either h.depends (kept_of c h))
  kept_less g h p k m = elim (or_cases (g.depends k) (kept_of c g k) m) as (λ _. either h.depends (kept_of c h) k ≡ true) [
    | inl d ↦ or_left (h.depends k) (kept_of c h k) (p.depends k d)
    | inr d ↦ let both = and_parts (either c.left c.right k) (not (g.changed k)) d in
        elim (cases_Bool (h.changed k)) as (λ _. either h.depends (kept_of c h) k ≡ true) [
          | inl e ↦ or_left (h.depends k) (kept_of c h k) (p.missing k e (not-true (g.changed k) both.1))
          | inr e ↦ or_right (h.depends k) (kept_of c h k) (and_from (either c.left c.right k) (not (h.changed k)) both.0 (not_from_false (h.changed k) e))
        ]
  ]

  -- if a looser base is on a side, so is the base
  on_side : (a b : Base) (s : Side) → Loosens a b → side_of b ≡ Some s → side_of a ≡ Some s
  on_side a b s (inl p) e = sym (ap side_of p) ∙ e
  on_side a b s (inr (inl p)) e = p.1 ∙ sym (ap side_of p.2) ∙ e
  on_side a b s (inr (inr p)) e = absurd (let f = sym (ap side_of p) ∙ e in cc)

  named_same : (a b : Base) → Loosens a b → names_one b ≡ true → b ≡ a
  named_same a b (inl p) e = p
  named_same a b (inr (inl p)) e = absurd (true≢false (sym e ∙ ap names_one p.2))
  named_same a b (inr (inr p)) e = absurd (true≢false (sym e ∙ ap names_one p))

  -- what is put back with less knowledge is put back with more
  copy_less : (a b : Base) (o q : Origin) (field : ℕ) → Loosens a b → Forgets o q → is_copy c b q field ≡ true → is_copy c a o field ≡ true
  copy_less a b o q field l (inr p) h = absurd (true≢false (sym h ∙ ap (λ (z : Origin). is_copy c b z field) p))
  copy_less a b o q field l (inl p) h = of o (subst (λ (z : Origin). is_copy c b z field ≡ true) p h) where
    of : (z : Origin) → is_copy c b z field ≡ true → is_copy c a z field ≡ true
    of (field_of other k) e =
        let both = and_parts (names_one b && same_base other b) (k == field) e in
        let names = and_parts (names_one b) (same_base other b) both.0 in
        subst (λ (y : Base). is_copy c y (field_of other k) field ≡ true) (named_same a b l names.0) e
    of (key_at at) e = case (side_of b) refl e where
      case : (t : Option Side) → side_of b ≡ t → is_key_of c t at field ≡ true → is_key_of c (side_of a) at field ≡ true
      case (Some s) d f = subst (λ (y : Option Side). is_key_of c y at field ≡ true) (sym (on_side a b s l d)) f
      case None d f = absurd (true≢false (sym f))
    of unknown e = e

  without_sub : (s t : FieldSet) (field : ℕ) → Sub s t → Sub (without_field field s) (without_field field t)
  without_sub s t field h k m = let both = and_parts (not (k == field)) (s k) m in and_from (not (k == field)) (t k) both.0 (h k both.1)

  written_less : (g h : Held) (v w : Known) (field : ℕ) → IsPlainCopy c g v field → HoldsLess g h → KnowsLess v w → HoldsLess (written c g field v) (written c h field w)
  written_less g h v w field back p q = case (is_copy c g.base v.origin field) (is_copy c h.base w.origin field) refl refl where
    case : (s t : Bool) → is_copy c g.base v.origin field ≡ s → is_copy c h.base w.origin field ≡ t
        → HoldsLess (if s then record g { changed = without_field field g.changed } else record g { changed = with_field field g.changed; depends = either g.depends v.deps })
        (if t then record h { changed = without_field field h.changed } else record h { changed = with_field field h.changed; depends = either h.depends w.deps })
    case true true d e = record {
      base = p.base;
      changed = without_sub g.changed h.changed field p.changed;
      depends = p.depends;
      missing = λ k m f. let both = and_parts (not (k == field)) (h.changed k) m in p.missing k both.1 (sym (ap (λ (b : Bool). b && g.changed k) both.0) ∙ f);
    }
    case false true d e = absurd (true≢false (sym (copy_less g.base h.base v.origin w.origin field p.base q.origin e) ∙ d))
    case true false d e = record {
      base = p.base;
      changed = λ k m. let both = and_parts (not (k == field)) (g.changed k) m in or_right (k == field) (h.changed k) (p.changed k both.1);
      depends = λ k m. or_left (h.depends k) (w.deps k) (p.depends k m);
      missing = λ k m f. lost k m f;
    } where
      lost : (k : ℕ) → with_field field h.changed k ≡ true → without_field field g.changed k ≡ false → either h.depends w.deps k ≡ true
      lost k m f = elim (cases_Bool (k == field)) as (λ _. either h.depends w.deps k ≡ true) [
        | inl t ↦ or_right (h.depends k) (w.deps k) (q.deps k (subst (λ (j : ℕ). v.deps j ≡ true) (sym (eqb-true k field t)) (back d)))
        | inr t ↦ or_left (h.depends k) (w.deps k) (p.missing k (sym (ap (λ (b : Bool). b || h.changed k) t) ∙ m) (sym (ap (λ (b : Bool). not b && g.changed k) t) ∙ f))
      ]
    case false false d e = record {
      base = p.base;
      changed = λ k m. elim (or_cases (k == field) (g.changed k) m) as (λ _. with_field field h.changed k ≡ true) [ inl t ↦ or_left (k == field) (h.changed k) t | inr t ↦ or_right (k == field) (h.changed k) (p.changed k t) ];
      depends = λ k m. elim (or_cases (g.depends k) (v.deps k) m) as (λ _. either h.depends w.deps k ≡ true) [ inl t ↦ or_left (h.depends k) (w.deps k) (p.depends k t) | inr t ↦ or_right (h.depends k) (w.deps k) (q.deps k t) ];
      missing = λ k m f. or_left (h.depends k) (w.deps k) (gone k m f);
    } where
      gone : (k : ℕ) → with_field field h.changed k ≡ true → with_field field g.changed k ≡ false → h.depends k ≡ true
      gone k m f = elim (cases_Bool (k == field)) as (λ _. h.depends k ≡ true) [
        | inl t ↦ absurd (true≢false (sym (or_left (k == field) (g.changed k) t) ∙ f))
        | inr t ↦ p.missing k (sym (ap (λ (b : Bool). b || h.changed k) t) ∙ m) (sym (ap (λ (b : Bool). b || g.changed k) t) ∙ f)
      ]

  written_at_less : (g h : Held) (a b v w : Known) → HoldsLess g h → KnowsLess a b → KnowsLess v w → HoldsLess (written_at c g a v) (written_at c h b w)
  written_at_less g h a b v w p q r = record {
    base = p.base;
    changed = λ k m. m;
    depends = Sub-either g.depends (either (either a.deps v.deps) (kept_of c g)) (either h.depends (either (either b.deps w.deps) (kept_of c h)))
        (λ k m. or_left (h.depends k) _ (p.depends k m))
        (Sub-either (either a.deps v.deps) (kept_of c g) (either h.depends (either (either b.deps w.deps) (kept_of c h)))
        (λ k m. or_right (h.depends k) _ (or_left (either b.deps w.deps k) (kept_of c h k)
        (elim (or_cases (a.deps k) (v.deps k) m) as (λ _. either b.deps w.deps k ≡ true) [ inl t ↦ or_left (b.deps k) (w.deps k) (q.deps k t) | inr t ↦ or_right (b.deps k) (w.deps k) (r.deps k t) ])))
        (λ k m. elim (or_cases (h.depends k) (kept_of c h k) (kept_less g h p k (or_right (g.depends k) (kept_of c g k) m))) as (λ _. either h.depends (either (either b.deps w.deps) (kept_of c h)) k ≡ true) [
          | inl t ↦ or_left (h.depends k) _ t
          | inr t ↦ or_right (h.depends k) _ (or_right (either b.deps w.deps k) (kept_of c h k) t)
        ]));
    missing = λ k m f. absurd (true≢false (sym m ∙ f));
  }

  value_less : (a b : State) (n : ℕ) → IsLess a b → KnowsLess (value_at a n) (value_at b n)
  value_less a b n h = Both-get_or KnowsLess a.values b.values n _ _ h.values (knows-refl (record { deps = no_fields; origin = unknown }))

  record_less : (a b : State) (n : ℕ) → IsLess a b → HoldsLess (record_at c.fields a n) (record_at c.fields b n)
  record_less a b n h = Both-get_or HoldsLess a.records b.records n _ _ h.records (holds-refl (record { base = nowhere; changed = fields_below c.fields; depends = no_fields }))

  held_less : (sides : List Side) (a b : State) (from : Rec) → IsLess a b → HoldsLess (held_of c sides a from) (held_of c sides b from)
  held_less sides a b (Reg n) h = record_less a b n h
  held_less sides a b (Loop name) h = holds-refl _
  held_less sides a b Input h = holds-refl _
  held_less sides a b Left h = holds-refl _
  held_less sides a b Right h = holds-refl _
  held_less sides a b Join h = holds-refl _
  held_less sides a b First h = holds-refl _

  all_less : (sides : List Side) (a b : State) (from : Rec) → IsLess a b → Sub (all_of c sides a from) (all_of c sides b from)
  all_less sides a b (Reg n) h = kept_less (record_at c.fields a n) (record_at c.fields b n) (record_less a b n h)
  all_less sides a b (Loop name) h = λ k m. m
  all_less sides a b Input h = λ k m. m
  all_less sides a b Left h = λ k m. m
  all_less sides a b Right h = λ k m. m
  all_less sides a b Join h = λ k m. m
  all_less sides a b First h = λ k m. m

  either_less : (s t u w : FieldSet) → Sub s u → Sub t w → Sub (either s t) (either u w)
  either_less s t u w h g k m = elim (or_cases (s k) (t k) m) as (λ _. either u w k ≡ true) [ inl p ↦ or_left (u k) (w k) (h k p) | inr p ↦ or_right (u k) (w k) (g k p) ]

  set_value_less : (a b : State) (to : ℕ) (v w : Known) → IsLess a b → KnowsLess v w → IsLess (learns_value a to v) (learns_value b to w)
  set_value_less a b to v w h p = record { values = Both-set KnowsLess a.values b.values to v w h.values p; records = h.records }

  set_record_less : (a b : State) (to : ℕ) (g h : Held) → IsLess a b → HoldsLess g h → IsLess (learns_record a to g) (learns_record b to h)
  set_record_less a b to g h l p = record { values = l.values; records = Both-set HoldsLess a.records b.records to g h l.records p }

  pub clean_here-less : (s : Simple) (a b : State) → IsLess a b → IsCleanHere c s a → IsCleanHere c s b
  clean_here-less (set_field to field value) a b l h = λ e. (value_less a b value l).deps field
      (h (copy_less (record_at c.fields a to).base (record_at c.fields b to).base (value_at a value).origin (value_at b value).origin field (record_less a b to l).base (value_less a b value l).origin e))
  clean_here-less s a b l h = tt

  pub transfer-less : (sides : List Side) (s : Simple) (a b : State) → IsCleanHere c s a → IsLess a b → IsLess (transfer c sides s a) (transfer c sides s b)
  transfer-less sides (load_int to n) a b k h = set_value_less a b to constant constant h (knows-refl constant)
  transfer-less sides (load_text to bytes) a b k h = set_value_less a b to constant constant h (knows-refl constant)
  transfer-less sides (load_null to) a b k h = set_value_less a b to constant constant h (knows-refl constant)
  transfer-less sides (move_value to from) a b k h = set_value_less a b to (value_at a from) (value_at b from) h (value_less a b from h)
  transfer-less sides (get_field to from field) a b k h = set_value_less a b to _ _ h (read_less (held_of c sides a from) (held_of c sides b from) field (held_less sides a b from h))
  transfer-less sides (get_at to from at) a b k h = set_value_less a b to _ _ h (record {
    deps = either_less (value_at a at).deps (all_of c sides a from) (value_at b at).deps (all_of c sides b from) (value_less a b at h).deps (all_less sides a b from h);
    origin = inl refl;
  })
  transfer-less sides (get_key to at) a b k h = set_value_less a b to _ _ h (knows-refl _)
  transfer-less sides (apply_one to op x) a b k h = set_value_less a b to _ _ h (record { deps = (value_less a b x h).deps; origin = inl refl })
  transfer-less sides (apply_two to op x y) a b k h = set_value_less a b to _ _ h (record {
    deps = either_less (value_at a x).deps (value_at a y).deps (value_at b x).deps (value_at b y).deps (value_less a b x h).deps (value_less a b y h).deps;
    origin = inl refl;
  })
  transfer-less sides (new_record to) a b k h = set_record_less a b to (fresh c) (fresh c) h (holds-refl (fresh c))
  transfer-less sides (copy_record to from) a b k h = set_record_less a b to (held_of c sides a from) (held_of c sides b from) h (held_less sides a b from h)
  transfer-less sides (set_field to field value) a b k h = set_record_less a b to _ _ h
      (written_less (record_at c.fields a to) (record_at c.fields b to) (value_at a value) (value_at b value) field k (record_less a b to h) (value_less a b value h))
  transfer-less sides (set_at to at value) a b k h = set_record_less a b to _ _ h
      (written_at_less (record_at c.fields a to) (record_at c.fields b to) (value_at a at) (value_at b at) (value_at a value) (value_at b value) (record_less a b to h) (value_less a b at h) (value_less a b value h))
  transfer-less sides (emit_record from) a b k h = h

-- ---- loops

-- what is required of a turn of a loop and of the states in which the loop's body begins
pub record IsTurn (c : Scope) (turn : State → State) (Q : State → Type 0) : Type 1 where
  pub small : (j : State) → IsSmall c.fields j → IsSmall c.fields (turn j)
  pub sound : (j : State) → IsSound c j → IsSound c (turn j)
  pub more : (a b : State) → IsSound c a → IsSound c b → IsLess a b → Q a → Q b
  pub mono : (a b : State) → IsSound c a → IsSound c b → IsLess a b → Q a → IsLess (turn a) (turn b)

module _ (c : Scope) (scope : IsSmallScope c) where
  module _ (turn : State → State) (Q : State → Type 0) (t : IsTurn c turn Q) where
    abbrev next : State → State
    next j = joined c.fields j (turn j)

    next_sound : (j : State) → IsSound c j → IsSound c (next j)
    next_sound j h = joined-sound c scope j (turn j) h (t.sound j h)

    next_grows : (j : State) → IsSound c j → IsLess j (next j)
    next_grows j h = less-left c.fields j (turn j) h.small (t.sound j h).small

    next_less : (a b : State) → IsSound c a → IsSound c b → Q a → IsLess a b → IsLess (next a) (next b)
    next_less a b h g q l =
        less-least c.fields c refl a (turn a) (next b) h (t.sound a h) (next_sound b g)
        (less-trans a b _ l (next_grows b g))
        (less-trans (turn a) (turn b) _ (t.mono a b h g l q) (less-right c.fields b (turn b) g.small (t.sound b g).small))

    repeated_less : (m : ℕ) (a b : State) → IsSound c a → IsSound c b → Q a → IsLess a b → IsLess (repeated m next a) (repeated m next b)
    repeated_less zero a b h g q l = l
    repeated_less (suc m) a b h g q l = repeated_less m (next a) (next b) (next_sound a h) (next_sound b g) (t.more a (next a) h (next_sound a h) (next_grows a h) q) (next_less a b h g q l)

    repeated_grows : (m : ℕ) (k : State) → IsSound c k → IsLess k (repeated m next k)
    repeated_grows zero k h = less-refl k
    repeated_grows (suc m) k h = less-trans k (next k) _ (next_grows k h) (repeated_grows m (next k) (next_sound k h))

    pub settled-turns : (k : State) → IsSound c k → IsSound c (settled c.fields turn k)
    settled-turns k h = settled-sound c scope turn t.sound k h

    -- a loop that is reached with less knowledge settles with less
    pub settled-less : (a b : State) → IsSound c a → IsSound c b → Q a → IsLess a b → IsLess (settled c.fields turn a) (settled c.fields turn b)
    unfolding settled
    settled-less a b h g q l = repeated_less (walks_at_most c.fields) a b h g q l

    pub settled-grows : (k : State) → IsSound c k → IsLess k (settled c.fields turn k)
    unfolding settled
    settled-grows k h = repeated_grows (walks_at_most c.fields) k h

    pub at_rest : (s : State) → joined c.fields s (turn s) ≡ s → settled c.fields turn s ≡ s
    unfolding settled
    at_rest s e = stays c.fields turn (walks_at_most c.fields) s e

    pub settled-rest : (k : State) → IsSound c k → settled c.fields turn (settled c.fields turn k) ≡ settled c.fields turn k
    settled-rest k h = at_rest (settled c.fields turn k) (settles c.fields turn t.small k h.small)

    -- ---- the theorem: a loop that is reached in a state joined with one at most that in which it settles, still
    -- settles in it
    pub warm_start : (k m : State) → IsSound c k → IsSound c m → Q k → IsLess m (settled c.fields turn k) → settled c.fields turn (joined c.fields k m) ≡ settled c.fields turn k
    warm_start k m h g q l =
        let s = settled c.fields turn k in
        let s_sound = settled-turns k h in
        let j_sound : IsSound c (joined c.fields k m) = joined-sound c scope k m h g in
        let up : IsLess k (joined c.fields k m) = less-left c.fields k m h.small g.small in
        let under : IsLess (joined c.fields k m) s = less-least c.fields c refl k m s h g s_sound (settled-grows k h) l in
        less-both _ _
        (subst (λ (z : State). IsLess (settled c.fields turn (joined c.fields k m)) z) (settled-rest k h) (settled-less (joined c.fields k m) s j_sound s_sound (t.more k (joined c.fields k m) h j_sound up q) under))
        (settled-less k (joined c.fields k m) h j_sound q up)

  -- ---- bodies

  pub record Grows (code : Code) (sides : List Side) (a b : State) : Type 0 where
    pub walks : IsLess (walk c sides code a) (walk c sides code b)
    pub clean : IsClean c sides code b

  abbrev pub GrowsFrom : Code → List Side → Type 0
  GrowsFrom code sides = (a b : State) → IsSound c a → IsSound c b → IsLess a b → IsClean c sides code a → Grows code sides a b

  again_turn : (sides : List Side) (depth : ℕ) (body : Code) → depth ≡ length sides → IsWellFormed c.kind c.fields depth body → GrowsFrom body sides → IsTurn c (walk c sides body) (IsClean c sides body)
  again_turn sides depth body e f below = record {
    small = λ j i. walk-small c scope body sides depth j e f i;
    sound = λ j i. walk-sound c scope body sides depth j e f i;
    more = λ a b h g l q. (below a b h g l q).clean;
    mono = λ a b h g l q. (below a b h g l q).walks;
  }

  each_turn : (sides : List Side) (depth name : ℕ) (body : Code) → depth ≡ length sides → IsWellFormed c.kind c.fields depth body → GrowsFrom body sides → IsTurn c (λ j. dropped name (walk c sides body j)) (IsClean c sides body)
  each_turn sides depth name body e f below = record {
    small = λ j i. dropped-small c scope name _ (walk-small c scope body sides depth j e f i);
    sound = λ j i. dropped-sound c scope name _ (walk-sound c scope body sides depth j e f i);
    more = λ a b h g l q. (below a b h g l q).clean;
    mono = λ a b h g l q. dropped-less name _ _ (below a b h g l q).walks;
  }

  -- If b knows less than a, the walk from b leads to a state that knows less than the one from a does, and the values
  -- that it puts back still depend on their fields.
  pub grows : (code : Code) (sides : List Side) (depth : ℕ) (a b : State) → depth ≡ length sides → IsWellFormed c.kind c.fields depth code → IsSound c a → IsSound c b → IsLess a b → IsClean c sides code a
      → Grows code sides a b
  grows stop sides depth a b e f h g l q = record { walks = l; clean = tt }
  grows (plain s next) sides depth a b e f h g l q =
      let own = subst (λ (d : ℕ). IsWellFormedSimple c.kind c.fields d s) e f.0 in
      let rest = grows next sides depth _ _ e f.1 (transfer-sound c scope sides s a own h) (transfer-sound c scope sides s b own g) (transfer-less c sides s a b q.0 l) q.1 in
      record { walks = rest.walks; clean = (clean_here-less c s a b l q.0, rest.clean) }
  grows (branch on body other next) sides depth a b e f h g l q =
      let p = grows body sides depth a b e f.0 h g l q.0 in
      let r = grows other sides depth a b e f.1 h g l q.1 in
      let x = walk-sound c scope body sides depth a e f.0 h in
      let y = walk-sound c scope other sides depth a e f.1 h in
      let u = walk-sound c scope body sides depth b e f.0 g in
      let w = walk-sound c scope other sides depth b e f.1 g in
      let j = joined-sound c scope _ _ u w in
      let joins = less-least c.fields c refl _ _ _ x y j
      (less-trans _ _ _ p.walks (less-left c.fields _ _ u.small w.small)) (less-trans _ _ _ r.walks (less-right c.fields _ _ u.small w.small)) in
      let rest = grows next sides depth _ _ e f.2 (joined-sound c scope _ _ x y) j joins q.2 in
      record { walks = rest.walks; clean = (p.clean, r.clean, rest.clean) }
  grows (again count body next) sides depth a b e f h g l q =
      let turn = walk c sides body in
      let t = again_turn sides depth body e f.1 (λ x y i j m r. grows body sides depth x y e f.1 i j m r) in
      let x = settled-turns turn (IsClean c sides body) t a h in
      let y = settled-turns turn (IsClean c sides body) t b g in
      let under = settled-less turn (IsClean c sides body) t a b h g q.0 l in
      let clean = t.more a (settled c.fields turn a) h x (settled-grows turn (IsClean c sides body) t a h) q.0 in
      let rest = grows next sides depth _ _ e f.2 (t.sound _ x) (t.sound _ y) (t.mono _ _ x y under clean) q.1 in
      record { walks = rest.walks; clean = (t.more a b h g l q.0, rest.clean) }
  grows (each name list body next) sides depth a b e f h g l q =
      let inside = sides ++ side_of_list list ∷ [] in
      let deep = ap (λ (d : ℕ). d + 1) e ∙ sym (length-append sides (side_of_list list ∷ [])) in
      let turn : State → State = λ j. dropped name (walk c inside body j) in
      let t = each_turn inside (depth + 1) name body deep f.2 (λ x y i j m r. grows body inside (depth + 1) x y deep f.2 i j m r) in
      let x = dropped-sound c scope name a h in
      let y = dropped-sound c scope name b g in
      let under = dropped-less name a b l in
      let rest = grows next sides depth _ _ e f.3 (settled-turns turn (IsClean c inside body) t _ x) (settled-turns turn (IsClean c inside body) t _ y)
      (settled-less turn (IsClean c inside body) t _ _ x y q.0 under) q.1 in
      record { walks = rest.walks; clean = (t.more _ _ x y under q.0, rest.clean) }

  pub again-turn : (sides : List Side) (depth : ℕ) (body : Code) → depth ≡ length sides → IsWellFormed c.kind c.fields depth body → IsTurn c (walk c sides body) (IsClean c sides body)
  again-turn sides depth body e f = again_turn sides depth body e f (λ x y i j m r. grows body sides depth x y e f i j m r)

  pub each-turn : (sides : List Side) (depth name : ℕ) (body : Code) → depth ≡ length sides → IsWellFormed c.kind c.fields depth body → IsTurn c (λ j. dropped name (walk c sides body j)) (IsClean c sides body)
  each-turn sides depth name body e f = each_turn sides depth name body e f (λ x y i j m r. grows body sides depth x y e f i j m r)
