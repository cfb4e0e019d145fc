-- Record registers, of which only some have a record of their own.
use Rattle.std.proofs.Common.{◌≡◌, ◌≤◌, ◌<◌, ◌+◌, ℕ, zero, suc, Option, List, [], ◌∷◌, length, map, get_or, slice_set, refl, sym, ap, ◌∙◌, subst, arith}
use Rattle.std.proofs.Math.ListN.{get_or-map}
use Rattle.std.proofs.lemmas.List.{length-map, map-set}
use Rattle.pact_record.proofs.Lists.{AllByRecursion-get_or}
use Rattle.pact_record.specs.declared.values.Value.{Value}
use Rattle.tac_syntax.specs.Call.{empty_record}
use Rattle.tac_syntax.specs.Limits.{record_registers}
use Rattle.tac_interp.specs.declared.registers.Held.{Held}
use Rattle.tac_interp.specs.declared.registers.Held.TheVariants.{Blank}
use Rattle.tac_interp.specs.Registers.{AreAsWide, IsAsWide, filled, row_of}
use Rattle.tac_interp.proofs.FilledRegisters.{get_or-filled, get_or-held, get_or-unset, set-filled}

-- the records in the registers
abbrev pub rows_of : ℕ → Option (List Value) → List Held → List (List Value)
rows_of fields lent held = filled record_registers (empty_record fields) (map (row_of fields lent) held)

map-filled : {A B : Type 0} (f : A → B) (n : ℕ) (blank : A) (xs : List A) → map f (filled n blank xs) ≡ filled n (f blank) (map f xs)
map-filled f zero blank xs = refl
map-filled f (suc n) blank [] = ap (λ l. f blank ∷ l) (map-filled f n blank [])
map-filled f (suc n) blank (x ∷ xs) = ap (λ l. f x ∷ l) (map-filled f n blank xs)

pub row-held : (fields at : ℕ) (lent : Option (List Value)) (one : Held) (held : List Held) → at < record_registers → at < length held → one ≡ get_or held at one → row_of fields lent one ≡ get_or (rows_of fields lent held) at []
row-held fields at lent one held lt h e =
    get_or-held record_registers at (empty_record fields) [] (row_of fields lent one) (map (row_of fields lent) held) lt (omega (arith, length-map held (row_of fields lent), h))
    (ap (row_of fields lent) e ∙ sym (get_or-map (row_of fields lent) held at one))

pub row-unset : (fields at : ℕ) (lent : Option (List Value)) (held : List Held) → at < record_registers → length held ≤ at → empty_record fields ≡ get_or (rows_of fields lent held) at []
row-unset fields at lent held lt h = sym (get_or-unset record_registers at (empty_record fields) [] (map (row_of fields lent) held) lt (omega (arith, length-map held (row_of fields lent), h)))

-- setting a register, after the list was filled up to it
pub rows-set : (fields at : ℕ) (lent : Option (List Value)) (one : Held) (row : List Value) (held reached : List Held) → at < record_registers → reached ≡ filled (at + 1) Blank held → row_of fields lent one ≡ row
    → rows_of fields lent (slice_set reached at one) ≡ slice_set (rows_of fields lent held) at row
rows-set fields at lent one row held reached lt e f =
    let blank = empty_record fields in
    ap (filled record_registers blank) (map-set (row_of fields lent) reached at one)
    ∙ ap (λ (r : List Value). filled record_registers blank (slice_set (map (row_of fields lent) reached) at r)) f
    ∙ ap (λ (l : List (List Value)). filled record_registers blank (slice_set l at row)) (ap (map (row_of fields lent)) e ∙ map-filled (row_of fields lent) (at + 1) Blank held)
    ∙ set-filled record_registers (at + 1) at blank row (map (row_of fields lent) held) refl lt

-- the record of a register that is about to be set
pub row-reached : (fields at : ℕ) (lent : Option (List Value)) (one : Held) (held reached : List Held) → at < record_registers → reached ≡ filled (at + 1) Blank held → one ≡ get_or reached at one
    → row_of fields lent one ≡ get_or (rows_of fields lent held) at []
row-reached fields at lent one held reached lt e g =
    ap (row_of fields lent) (g ∙ ap (λ (l : List Held). get_or l at one) e ∙ get_or-filled (at + 1) at Blank one held (omega arith))
    ∙ sym (get_or-map (row_of fields lent) held at Blank) ∙ sym (get_or-filled record_registers at (empty_record fields) [] (map (row_of fields lent) held) lt)

pub AreAsWide-set : (fields at : ℕ) (lent : Option (List Value)) (one : Held) (held : List Held) → AreAsWide fields lent held → IsAsWide fields lent one → AreAsWide fields lent (slice_set held at one)
AreAsWide-set fields at lent one [] h w = h
AreAsWide-set fields zero lent one (x ∷ held) h w = (w, h.1)
AreAsWide-set fields (suc at) lent one (x ∷ held) h w = (h.0, AreAsWide-set fields at lent one held h.1 w)

pub IsAsWide-held : (fields at : ℕ) (lent : Option (List Value)) (one : Held) (held : List Held) → at < length held → one ≡ get_or held at one → AreAsWide fields lent held → IsAsWide fields lent one
IsAsWide-held fields at lent one held lt e h = subst (IsAsWide fields lent) (sym e) (AllByRecursion-get_or (IsAsWide fields lent) held at one lt h)

pub length-empty : (fields : ℕ) → length (empty_record fields) ≡ fields
length-empty zero = refl
length-empty (suc n) = ap suc (length-empty n)
