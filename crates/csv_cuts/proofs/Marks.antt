-- Cuts with and without a byte order mark, and the facts on searches that they need.
use Rattle.std.proofs.Common.{◌≡◌, ◌≤◌, ◌<◌, ◌+◌, ◌++◌, ◌==◌, Bool, ℕ, zero, suc, List, [], ◌∷◌, length, take, drop, get_or, true, false, true≢false, refl, sym, ◌∙◌, ap, append_assoc, take-append-drop, arith}
use Rattle.std.proofs.lemmas.List.{take_more}
use Rattle.std.specs.Prelude.{IfSome, Option, Some, None, is_some}
use Rattle.csv.specs.Reading.{default_config, is_bom, records, strip_bom}
use Rattle.memchr.specs.Find.{IsFirstByte, is_byte}
use Rattle.csv_cuts.proofs.Seam.{NoQuote, cut_records, place_after-more}
use Rattle.csv_cuts.specs.Cuts.{IsCut, IsPlainCut, begins_with_mark}
use Rattle.csv_cuts.specs.Places.{IsLineEnd, next_place, place_after}
use Rattle.csv_cuts.specs.declared.cuts.Place.{Place}
use Rattle.csv_cuts.specs.declared.cuts.Place.TheVariants.{FieldStart}

-- ---- quotes

-- from a test that no byte of a text passes
no_quote : (text : List ℕ) → ((k : ℕ) → k < length text → (get_or text k 0 == 34) ≡ true → ⊥) → NoQuote text
no_quote [] none = tt
no_quote (c ∷ cs) none = (by (c == 34) (none 0 (omega arith)), no_quote cs (λ k l. none (suc k) (omega arith)))
  where
    by : (b : Bool) → (b ≡ true → ⊥) → b ≡ false
    by true h = absurd (h refl)
    by false h = refl

-- a search for a quote found none
pub none_found : (result : Option ℕ) (text : List ℕ) → IsFirstByte (is_byte 34) text result → false ≡ is_some result → NoQuote text
none_found None text h e = no_quote text (λ k l q. h k (omega arith) l q)
none_found (Some k) text h e = cc e

-- ---- cuts of a text of which no mark is removed

pub plain_cut-line_end : (text : List ℕ) (k : ℕ) → IsLineEnd text k → begins_with_mark (drop (k + 1) text) ≡ false → IsPlainCut text (k + 1)
plain_cut-line_end text k h mark =
    let l : k < length text = h.inside in
    let prefix : take (k + 1) text ≡ take k text ++ 10 ∷ [] = take_more text k 0 l ∙ ap (λ (b : ℕ). take k text ++ b ∷ []) h.feed in
    let whole : text ≡ take k text ++ 10 ∷ drop (k + 1) text = sym (take-append-drop (k + 1) text) ∙ (ap (λ (f : List ℕ). f ++ drop (k + 1) text) prefix ∙ append_assoc (take k text) (10 ∷ []) (drop (k + 1) text)) in
    record {
      inside = omega arith;
      records = ap (records default_config) whole ∙ (cut_records (take k text) (drop (k + 1) text) h.outside ∙ ap (λ (f : List ℕ). records default_config f ++ records default_config (drop (k + 1) text)) (sym prefix));
      mark = mark;
    }

-- ---- marks

pub strip_none : (text : List ℕ) → begins_with_mark text ≡ false → strip_bom text ≡ text
unfolding strip_bom
strip_none [] e = refl
strip_none (a ∷ []) e = refl
strip_none (a ∷ b ∷ []) e = refl
strip_none (a ∷ b ∷ c ∷ rest) e = rw e refl

pub mark_short : (text : List ℕ) → length text < 3 → begins_with_mark text ≡ false
mark_short [] h = refl
mark_short (a ∷ []) h = refl
mark_short (a ∷ b ∷ []) h = refl
mark_short (a ∷ b ∷ c ∷ rest) h = absurd (omega arith)

pub mark_is : (text : List ℕ) → 3 ≤ length text → is_bom (get_or text 0 0) (get_or text 1 0) (get_or text 2 0) ≡ begins_with_mark text
mark_is [] h = absurd (omega arith)
mark_is (a ∷ []) h = absurd (omega arith)
mark_is (a ∷ b ∷ []) h = absurd (omega arith)
mark_is (a ∷ b ∷ c ∷ rest) h = refl

-- a prefix of a text without a mark has none
mark_take : (n : ℕ) (text : List ℕ) → begins_with_mark text ≡ false → begins_with_mark (take n text) ≡ false
mark_take zero text e = refl
mark_take (suc n) [] e = refl
mark_take (suc zero) (a ∷ text) e = refl
mark_take (suc (suc n)) (a ∷ []) e = refl
mark_take (suc (suc zero)) (a ∷ b ∷ text) e = refl
mark_take (suc (suc (suc n))) (a ∷ b ∷ []) e = refl
mark_take (suc (suc (suc n))) (a ∷ b ∷ c ∷ text) e = e

cut_unmarked : (text : List ℕ) (at : ℕ) → begins_with_mark text ≡ false → IsPlainCut text at → IsCut text at
cut_unmarked text at e h = record {
  inside = h.inside;
  records = rw (strip_none text e, strip_none (take at text) (mark_take at text e), strip_none (drop at text) h.mark) h.records;
}

pub cuts_unmarked : (text : List ℕ) (result : Option ℕ) → begins_with_mark text ≡ false → IfSome result (IsPlainCut text) → IfSome result (IsCut text)
cuts_unmarked text None e h = tt
cuts_unmarked text (Some at) e h = cut_unmarked text at e h

-- a text with a mark, cut after it
strip_mark : (text : List ℕ) (at : ℕ) → begins_with_mark text ≡ true → (strip_bom text ≡ drop 3 text) × (strip_bom (take (at + 3) text) ≡ take at (drop 3 text)) × (drop (at + 3) text ≡ drop at (drop 3 text)) × (length text ≡ length (drop 3 text) + 3)
unfolding strip_bom
strip_mark [] at e = absurd (true≢false (sym e))
strip_mark (a ∷ []) at e = absurd (true≢false (sym e))
strip_mark (a ∷ b ∷ []) at e = absurd (true≢false (sym e))
strip_mark (a ∷ b ∷ c ∷ rest) at e =
    let n : at + 3 ≡ suc (suc (suc at)) = omega arith in
    (rw e refl, rw n (rw e refl), rw n refl, omega arith)

pub cut_marked : (text : List ℕ) (at : ℕ) → begins_with_mark text ≡ true → IsPlainCut (drop 3 text) at → IsCut text (at + 3)
cut_marked text at e h =
    let m = strip_mark text at e in
    record {
      inside = omega (arith, h.inside, m.3);
      records = rw (m.0, m.1, m.2, strip_none (drop at (drop 3 text)) h.mark) h.records;
    }

-- one more byte
pub place_more : (text : List ℕ) (at : ℕ) (place next : Place) → at < length text → place ≡ place_after FieldStart (take at text) → next ≡ next_place place (get_or text at 0) → next ≡ place_after FieldStart (take (at + 1) text)
place_more text at place next l e f =
    f ∙ (ap (λ (p : Place). next_place p (get_or text at 0)) e
    ∙ (sym (place_after-more FieldStart (take at text) (get_or text at 0)) ∙ ap (place_after FieldStart) (sym (take_more text at 0 l))))
