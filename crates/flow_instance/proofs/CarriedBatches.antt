-- Batches that are built row by row.
use Rattle.std.proofs.Common.{◌≡◌, ◌<◌, ◌==◌, ℕ, Bool, cond, List, [], ◌∷◌, ◌++◌, length, map, get_or, refl, ap, sym, ◌∙◌, subst, arith, append_assoc, append-nil}
use Rattle.std.specs.List.{AllByRecursion}
use Rattle.std.proofs.lemmas.Bool.{eq-eqb}
use Rattle.std.proofs.lemmas.List.{map-append, nil_from_length}
use Rattle.std.proofs.lemmas.List.Elements.{recursion_from_All}
use Rattle.pact_bag.specs.Rows.{HaveOneWidth}
use Rattle.pact_operators.specs.Allowed.{Bag}
use Rattle.pact_record.proofs.Lists.{AllByRecursion-append, AllByRecursion-get_or}
use Rattle.pact_record.specs.Widths.{AreWide}
use Rattle.pact_record.specs.declared.values.Value.{Value}
use Rattle.flow_instance.specs.Sending.{AreCarried, AreCarriedBut, IsBatchFor, addressed_batch}
use Rattle.flow_instance.specs.declared.addressed_notes.AddressedNote.{AddressedNote}
use Rattle.flow_instance.specs.Local.{rows_for}

pub rows_for-append : (to : ℕ) (a b : List (ℕ × Bag)) → rows_for to (a ++ b) ≡ rows_for to a ++ rows_for to b
rows_for-append to [] b = refl
rows_for-append to (w ∷ a) b = ap (λ (l : Bag). cond (w.0 == to) w.1 [] ++ l) (rows_for-append to a b) ∙ sym (append_assoc (cond (w.0 == to) w.1 []) (rows_for to a) (rows_for to b))

-- the held rows are queued as a batch
pub queued_as_batch : (fields to : ℕ) (done held : Bag) (old before after : List AddressedNote) → 0 < length held → after ≡ before ++ addressed_batch (to, held) ∷ [] → AreCarriedBut fields to done old before held → AreCarriedBut fields to done old after []
queued_as_batch fields to done held old before after some e c = record {
  more = c.more ++ (to, held) ∷ [];
  behind = e ∙ ap (λ (l : List AddressedNote). l ++ addressed_batch (to, held) ∷ []) c.behind ∙ append_assoc old (map addressed_batch c.more) (addressed_batch (to, held) ∷ [])
      ∙ ap (λ (l : List AddressedNote). old ++ l) (sym (map-append addressed_batch c.more ((to, held) ∷ [])));
  batches = AllByRecursion-append (IsBatchFor fields to) c.more ((to, held) ∷ []) c.batches ((refl, some, c.wide), tt);
  carried = append-nil (rows_for to (c.more ++ (to, held) ∷ [])) ∙ rows_for-append to c.more ((to, held) ∷ [])
      ∙ ap (λ (l : Bag). rows_for to c.more ++ l) (ap (λ (b : Bool). cond b held [] ++ []) (eq-eqb to to refl) ∙ append-nil held) ∙ c.carried;
  wide = tt;
}

-- all rows are held, and none is in a batch yet
pub all_held : (fields to : ℕ) (rows : Bag) (old : List AddressedNote) → AreWide fields rows → AreCarriedBut fields to rows old old rows
all_held fields to rows old wide = record { more = []; behind = sym (append-nil old); batches = tt; carried = refl; wide = wide }

pub one_more : (fields to : ℕ) (done : Bag) (row : List Value) (old new : List AddressedNote) (held : Bag) → length row ≡ fields → AreCarriedBut fields to done old new held
    → AreCarriedBut fields to (done ++ row ∷ []) old new (held ++ row ∷ [])
one_more fields to done row old new held width c = record {
  more = c.more;
  behind = c.behind;
  batches = c.batches;
  carried = sym (append_assoc (rows_for to c.more) held (row ∷ [])) ∙ ap (λ (l : Bag). l ++ row ∷ []) c.carried;
  wide = AllByRecursion-append (λ (r : List Value). length r ≡ fields) held (row ∷ []) c.wide (width, tt);
}

-- no row is held any more
pub all_carried : (fields to : ℕ) (done : Bag) (old new : List AddressedNote) → AreCarriedBut fields to done old new [] → AreCarried fields to done old new
all_carried fields to done old new c = record {
  more = c.more;
  behind = c.behind;
  batches = c.batches;
  carried = sym (append-nil (rows_for to c.more)) ∙ c.carried;
}

-- ---- rows that come one by one

-- the row of the current turn of a loop over the rows
abbrev pub IsNext : (done rows : Bag) → List Value → Type 0
IsNext done rows row = (length done < length rows) × (row ≡ get_or rows (length done) row)

pub next_width : (fields : ℕ) (done rows : Bag) (row : List Value) → AreWide fields rows → IsNext done rows row → length row ≡ fields
next_width fields done rows row wide n = ap length n.1 ∙ AllByRecursion-get_or (λ (r : List Value). length r ≡ fields) rows (length done) row n.0 wide

-- the held rows have the width of the next row
pub held_width : (to : ℕ) (done rows : Bag) (row : List Value) (old new : List AddressedNote) (held : Bag) → HaveOneWidth rows → IsNext done rows row
    → ((fields : ℕ) → AreWide fields rows → AreCarriedBut fields to done old new held) → AllByRecursion (λ r. length r ≡ length row) held
held_width to done rows row old new held one n c =
    let wide = recursion_from_All (λ (r : List Value). length r ≡ one.width) rows one.all in
    subst (λ (w : ℕ). AreWide w held) (sym (next_width one.width done rows row wide n)) (c one.width wide).wide
