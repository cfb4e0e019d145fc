-- The findings in the shared context of a function are those in its own context.
use Rattle.std.proofs.Common.{◌≡◌, ◌==◌, ◌||◌, ℕ, Bool, true, false, refl, sym, ap, subst, ◌∙◌, true≢false}
use Rattle.std.proofs.lemmas.Nat.Bits.{bit_at-zero}
use Rattle.pact_record.specs.FieldSets.{has_field, IsEmpty}
use Rattle.pact_record.proofs.Members.{same_fields}
use Rattle.tac_syntax.specs.declared.contexts.Context.{Context}
use Rattle.tac_syntax.specs.declared.functions.Function.{Function}
use Rattle.tac_syntax.specs.declared.functions.Kind.{Kind}
use Rattle.tac_syntax.specs.declared.functions.Kind.TheVariants.{CoGroup}
use Rattle.tac_syntax.specs.Code.{Simple, load_int, load_text, load_null, move_value, get_field, get_at, get_key, apply_one, apply_two, new_record, copy_record, set_field, set_at, emit_record, Code, stop, plain, branch, again, each}
use Rattle.tac_syntax.specs.Contexts.{IsContextOf}
use Rattle.tac_syntax.specs.FieldRegisters.{TakesSimple, Takes}
use Rattle.tac_syntax.specs.Valid.{IsValid, WithFields}
use Rattle.tac_syntax.specs.WellFormed.{IsWellFormed}
use Rattle.tac_syntax.proofs.WellFormed.{valid_is_well_formed}
use Rattle.tac_flow.specs.Results.{FoundSets, sets_of}
use Rattle.tac_flow.specs.Sharing.{takes_number, takes_numbers, shared_by, shared_context}
use Rattle.tac_flow.specs.Steps.{Scope}
use Rattle.tac_flow.specs.Views.{sets_in}
use Rattle.tac_flow.proofs.SameAtField.{SetsAt, sets-at}

-- ---- the empty set

pub has_field-zero : (k : ℕ) → has_field 0 k ≡ false
unfolding has_field
has_field-zero k = ap (λ (n : ℕ). n == 1) (bit_at-zero k)

pub empty_is : (s : ℕ) → IsEmpty s → s ≡ 0
empty_is s h = same_fields s 0 (λ k. h k ∙ sym (has_field-zero k))

-- ---- bodies that take no number from a register

neither : (a b : Bool) → (a || b) ≡ false → (a ≡ false) × (b ≡ false)
neither true b e = absurd (true≢false e)
neither false b e = (refl, e)

none_taken : (s : Simple) → takes_number s ≡ false → TakesSimple false s
none_taken (load_int to n) e = tt
none_taken (load_text to bytes) e = tt
none_taken (load_null to) e = tt
none_taken (move_value to from) e = tt
none_taken (get_field to from field) e = tt
none_taken (get_at to from at) e = sym e
none_taken (get_key to at) e = tt
none_taken (apply_one to op x) e = tt
none_taken (apply_two to op x y) e = tt
none_taken (new_record to) e = tt
none_taken (copy_record to from) e = tt
none_taken (set_field to field value) e = tt
none_taken (set_at to at value) e = sym e
none_taken (emit_record from) e = tt

pub none_taken_in : (code : Code) → takes_numbers code ≡ false → Takes false code
none_taken_in stop e = tt
none_taken_in (plain s next) e = let h = neither (takes_number s) (takes_numbers next) e in (none_taken s h.0, none_taken_in next h.1)
none_taken_in (branch on body other next) e =
    let h = neither (takes_numbers body) (takes_numbers other || takes_numbers next) e in
    let g = neither (takes_numbers other) (takes_numbers next) h.1 in
    (none_taken_in body h.0, none_taken_in other g.0, none_taken_in next g.1)
none_taken_in (again count body next) e = let h = neither (takes_numbers body) (takes_numbers next) e in (none_taken_in body h.0, none_taken_in next h.1)
none_taken_in (each name list body next) e = let h = neither (takes_numbers body) (takes_numbers next) e in (none_taken_in body h.0, none_taken_in next h.1)

-- ---- the shared context

abbrev scope_by : Kind → ℕ → Context → Scope
scope_by kind fields c = record { kind = kind; fields = fields; left = has_field c.left; right = has_field c.right; left_keys = c.left_keys; right_keys = c.right_keys }

-- sets that are equal at each field are equal
pub all_fields : (s t : FoundSets) → ((k : ℕ) → SetsAt k s t) → s ≡ t
all_fields s t h = λ i. record {
  reads = λ k. (h k).reads i;
  writes = λ k. (h k).writes i;
  control = λ k. (h k).control i;
  anchor_left = (h 0).anchor_left i;
  anchor_right = (h 0).anchor_right i;
}

shared_sets : (kind : Kind) (fields : ℕ) (takes : Bool) (body : Code) (c : Context) → IsWellFormed kind fields 0 body → takes_numbers body ≡ takes
    → sets_of (scope_by kind fields (shared_by kind takes c)) body ≡ sets_of (scope_by kind fields c) body
shared_sets CoGroup fields false body c f e =
    all_fields _ _ (λ k. sets-at fields c.left_keys c.right_keys (has_field 0) (has_field 0) (has_field c.left) (has_field c.right) k false (λ no_number. absurd (true≢false (sym no_number))) body f (none_taken_in body e))
shared_sets kind fields takes body c f e = refl

pub shared-sets : (f : WithFields) (c d : Context) → IsValid f.function f.fields → d ≡ shared_context f c → sets_in f d ≡ sets_in f c
shared-sets f c d valid e =
    ap (λ (x : Context). sets_in f x) e ∙ shared_sets f.function.kind f.fields (takes_numbers f.function.body) f.function.body c (valid_is_well_formed f.function f.fields valid) refl

shared_fields : (kind : Kind) (takes : Bool) (fields : ℕ) (c : Context) → IsContextOf fields c → IsContextOf fields (shared_by kind takes c)
shared_fields CoGroup false fields c h = record { left = λ k le. has_field-zero k; right = λ k le. has_field-zero k; left_keys = h.left_keys; right_keys = h.right_keys }
shared_fields kind takes fields c h = h

pub shared-fields : (f : WithFields) (c d : Context) → IsContextOf f.fields c → d ≡ shared_context f c → IsContextOf f.fields d
shared-fields f c d h e = subst (IsContextOf f.fields) (sym e) (shared_fields f.function.kind (takes_numbers f.function.body) f.fields c h)

-- ---- one field

any_taken : (s : Simple) → TakesSimple true s
any_taken (get_at to from at) = refl
any_taken (set_at to at value) = refl
any_taken s = tt

any_taken_in : (code : Code) → Takes true code
any_taken_in stop = tt
any_taken_in (plain s next) = (any_taken s, any_taken_in next)
any_taken_in (branch on body other next) = (any_taken_in body, any_taken_in other, any_taken_in next)
any_taken_in (again count body next) = (any_taken_in body, any_taken_in next)
any_taken_in (each name list body next) = (any_taken_in body, any_taken_in next)

-- two contexts of a CoGroup that agree at the field
pub sets-at_field : (f : WithFields) (c : Context) (l r k : ℕ) → IsValid f.function f.fields → f.function.kind ≡ CoGroup → has_field l k ≡ has_field c.left k → has_field r k ≡ has_field c.right k
    → SetsAt k (sets_in f (record c { left = l; right = r })) (sets_in f c)
sets-at_field f c l r k valid kind left_is right_is =
    let body = f.function.body in
    subst (λ (q : Kind). IsWellFormed q f.fields 0 body → SetsAt k (sets_of (scope_by q f.fields (record c { left = l; right = r })) body) (sets_of (scope_by q f.fields c) body)) (sym kind)
    (λ w. sets-at f.fields c.left_keys c.right_keys (has_field l) (has_field r) (has_field c.left) (has_field c.right) k true (λ _. (left_is, right_is)) body w (any_taken_in body))
    (valid_is_well_formed f.function f.fields valid)

-- ---- in the form in which the code makes it

pub shared_by-empty : (takes : Bool) (x : Context) (l r : ℕ) → takes ≡ false → IsEmpty l → IsEmpty r → ◌≡◌ {A = Context} (record { left = l; right = r; left_keys = x.left_keys; right_keys = x.right_keys }) (shared_by CoGroup takes x)
shared_by-empty false x l r e p q = let left = empty_is l p in let right = empty_is r q in λ i. record { left = left i; right = right i; left_keys = x.left_keys; right_keys = x.right_keys }
shared_by-empty true x l r e p q = absurd (true≢false e)

pub shared_is : (f : WithFields) (g : Function) (c d : Context) → g ≡ f.function → g.kind ≡ CoGroup → d ≡ shared_by CoGroup (takes_numbers g.body) c → d ≡ shared_context f c
shared_is f g c d h k e = e ∙ ap (λ (q : Kind). shared_by q (takes_numbers g.body) c) (sym k) ∙ ap (λ (x : Function). shared_by x.kind (takes_numbers x.body) c) h
