-- Which fields the statements of a body set, one after another. Those of a valid function are below its number of
-- fields.
use Rattle.std.proofs.Common.{◌≡◌, ◌<◌, ◌+◌, ◌⊎◌, ◌↔◌, ◌||◌, ℕ, false, IsTrue, None, List, [], ◌∷◌, ◌++◌, inl, inr, sym, ◌∙◌, rules, arith}
use Rattle.std.proofs.lemmas.Bool.{leb-false, or_cases, or_left, or_right}
use Rattle.std.proofs.lemmas.List.Elements.{All-nil, All-cons, All-head, All-tail, All-contains, All-contains_itself, All-weaker, Contains-append_left, Contains-append_right}
use Rattle.std.specs.List.{All, Contains}
use Rattle.pact_record.specs.FieldSets.{has_field}
use Rattle.tac_syntax.specs.declared.functions.Function.{Function}
use Rattle.tac_syntax.specs.declared.rules.Rule.TheVariants.{Fields}
use Rattle.tac_syntax.specs.Bounded.{NamesField, Names, NamesBelow}
use Rattle.tac_syntax.specs.Code.{Simple, load_int, load_text, load_null, move_value, get_field, get_at, get_key, apply_one, apply_two, new_record, copy_record, set_field, set_at, emit_record, Code, stop, plain, branch, again, each, simple}
use Rattle.tac_syntax.specs.Places.{Place, Placed, placed, at_place, top_place, in_if, in_repeat, in_each}
use Rattle.tac_syntax.specs.Rules.{no_field, breaks_fields}
use Rattle.tac_syntax.specs.Trees.{Statement, one_line, choice, turning, going_through, onto}
use Rattle.tac_syntax.specs.Valid.{IsValid, first_break_from}
use Rattle.tac_syntax.proofs.Ranges.{none_of}

-- ---- a statement and what follows it

pub Names-onto : (fields k : ℕ) (s : Statement) (next : Code) → Names fields k (onto s next) ↔ (Names fields k (onto s stop) ⊎ Names fields k next)
Names-onto fields k (one_line s) next = search rules
Names-onto fields k (choice on body other) next = search rules
Names-onto fields k (turning count body) next = search rules
Names-onto fields k (going_through name list body) next = search rules

-- The fields found before a statement, or set by it or after it, are those found up to its end, or set after it.
pub found_more : (fields found more all k : ℕ) (s : Statement) (next whole : Code)
    → ((IsTrue (has_field found k) ⊎ Names fields k (onto s next)) ↔ Names fields k whole)
    → (IsTrue (has_field more k) ↔ Names fields k (onto s stop))
    → has_field all k ≡ (has_field found k || has_field more k)
    → (IsTrue (has_field all k) ⊎ Names fields k next) ↔ Names fields k whole
found_more fields found more all k s next whole before here both =
    let parts = Names-onto fields k s next in (
      λ named. elim named [
        | inl now ↦ elim (or_cases (has_field found k) (has_field more k) (sym both ∙ now)) [
          | inl old ↦ before.0 (inl old)
          | inr new ↦ before.0 (inr (parts.1 (inl (here.0 new))))
        ]
        | inr behind ↦ before.0 (inr (parts.1 (inr behind)))
      ],
      λ named. elim (before.1 named) [
        | inl old ↦ inl (both ∙ or_left (has_field found k) (has_field more k) old)
        | inr later ↦ elim (parts.0 later) [
          | inl new ↦ inl (both ∙ or_right (has_field found k) (has_field more k) (here.1 new))
          | inr behind ↦ inr behind
        ]
      ],
    )

-- ---- the fields of a valid function

abbrev KeepsFields : Placed → Type 0
KeepsFields x = breaks_fields x.place x.line ≡ false

All-unbroken : (n : ℕ) (xs : List Placed) → first_break_from Fields n xs ≡ None → All KeepsFields xs
All-unbroken n [] h = All-nil KeepsFields
All-unbroken n (x ∷ xs) h =
    let kept = none_of (breaks_fields x.place x.line) n (first_break_from Fields (n + 1) xs) h in
    All-cons KeepsFields x xs kept.0 (All-unbroken (n + 1) xs kept.1)

All-left : (xs ys : List Placed) → All KeepsFields (xs ++ ys) → All KeepsFields xs
All-left xs ys h =
    All-weaker (Contains xs) KeepsFields (λ x inside. All-contains KeepsFields (xs ++ ys) x h (Contains-append_left xs ys x inside)) xs (All-contains_itself xs)

All-right : (xs ys : List Placed) → All KeepsFields (xs ++ ys) → All KeepsFields ys
All-right xs ys h =
    All-weaker (Contains ys) KeepsFields (λ y inside. All-contains KeepsFields (xs ++ ys) y h (Contains-append_right xs ys y inside)) ys (All-contains_itself ys)

NamesField-below : (p : Place) (s : Simple) (k : ℕ) → no_field p s ≡ false → NamesField p.fields k s → k < p.fields
NamesField-below p (load_int to value) k h named = absurd named
NamesField-below p (load_text to bytes) k h named = absurd named
NamesField-below p (load_null to) k h named = absurd named
NamesField-below p (move_value to from) k h named = absurd named
NamesField-below p (get_field to from field) k h named = absurd named
NamesField-below p (get_at to from at) k h named = absurd named
NamesField-below p (get_key to at) k h named = absurd named
NamesField-below p (apply_one to op a) k h named = absurd named
NamesField-below p (apply_two to op a b) k h named = absurd named
NamesField-below p (new_record to) k h named = absurd named
NamesField-below p (copy_record to from) k h named = absurd named
NamesField-below p (set_field to field value) k h named = omega (arith, named, leb-false p.fields field h)
NamesField-below p (set_at to at value) k h named = named
NamesField-below p (emit_record from) k h named = absurd named

NamesBelow-placed : (p : Place) (c : Code) → All KeepsFields (placed p c) → NamesBelow p.fields c
NamesBelow-placed p stop h k named = absurd named
NamesBelow-placed p (plain s next) h k named = elim named [
  | inl here ↦ NamesField-below p s k (All-head KeepsFields (at_place p (simple s)) (placed p next) h) here
  | inr behind ↦ NamesBelow-placed p next (All-tail KeepsFields _ (placed p next) h) k behind
]
NamesBelow-placed p (branch on body other next) h k named =
    let inside = All-tail KeepsFields _ (placed (in_if p) body ++ (placed (in_if p) other ++ placed p next)) h in
    let rest = All-right (placed (in_if p) body) (placed (in_if p) other ++ placed p next) inside in
    elim named [
      | inl first ↦ NamesBelow-placed (in_if p) body (All-left (placed (in_if p) body) _ inside) k first
      | inr (inl second) ↦ NamesBelow-placed (in_if p) other (All-left (placed (in_if p) other) _ rest) k second
      | inr (inr behind) ↦ NamesBelow-placed p next (All-right (placed (in_if p) other) _ rest) k behind
    ]
NamesBelow-placed p (again count body next) h k named =
    let inside = All-tail KeepsFields _ (placed (in_repeat count p) body ++ placed p next) h in
    elim named [
      | inl first ↦ NamesBelow-placed (in_repeat count p) body (All-left (placed (in_repeat count p) body) _ inside) k first
      | inr behind ↦ NamesBelow-placed p next (All-right (placed (in_repeat count p) body) _ inside) k behind
    ]
NamesBelow-placed p (each name list body next) h k named =
    let inside = All-tail KeepsFields _ (placed (in_each p) body ++ placed p next) h in
    elim named [
      | inl first ↦ NamesBelow-placed (in_each p) body (All-left (placed (in_each p) body) _ inside) k first
      | inr behind ↦ NamesBelow-placed p next (All-right (placed (in_each p) body) _ inside) k behind
    ]

pub NamesBelow-valid : (f : Function) (fields : ℕ) → IsValid f fields → NamesBelow fields f.body
NamesBelow-valid f fields h = NamesBelow-placed (top_place f fields) f.body (All-unbroken 0 (placed (top_place f fields) f.body) (h.keeps Fields))
