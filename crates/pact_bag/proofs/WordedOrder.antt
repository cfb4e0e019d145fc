-- Rows that are sorted by their words and then by their fields are sorted by their fields.
use Rattle.std.proofs.Common.{◌≡◌, ◌<◌, ◌+◌, inl, inr, ℕ, Bool, false, List, [], get_or, length, map, refl, sym, ap, ◌∙◌, arith}
use Rattle.std.proofs.lemmas.List.{get_or-map, length-map}
use Rattle.std.proofs.lemmas.List.Elements.{All-get_or}
use Rattle.std.proofs.lemmas.List.Sorted.{ranks_by}
use Rattle.std.specs.Cmp.{IsStrictWeakOrder, IsTotalOrder, nat_cmp_total, on_total, then_total}
use Rattle.std.specs.List.{All}
use Rattle.std.specs.List.Sorted.{IsSorted, IsSortedBy}
use Rattle.std.specs.Ordering.{is_lt, nat_cmp, ordering_reverse, ordering_then}
use Rattle.std.specs.declared.cmp.Ordering.{Ordering}
use Rattle.std.specs.declared.cmp.Ordering.TheVariants.{Less, Equal, Greater}
use Rattle.pact_record.specs.declared.values.Value.{Value}
use Rattle.pact_record.specs.Order.{records_total}
use Rattle.pact_record.specs.Record.{record_cmp}
use Rattle.pact_bag.specs.declared.prefixes.Prefixes.{Prefixes}
use Rattle.pact_bag.specs.declared.sorting.WordedRow.{WordedRow}
use Rattle.pact_bag.specs.Rows.{cut}
use Rattle.pact_bag.specs.SortWords.{rest_of}
use Rattle.pact_bag.specs.WordedRows.{IsWorded, row_of, worded_cmp}
use Rattle.pact_bag.proofs.SortWordLaws.{nat_cmp-equal, nat_cmp-less, rest_less, trichotomy, word_less}

never_both : (a b : List Value) → record_cmp a b ≡ Less → record_cmp b a ≡ Less → ⊥
never_both a b h k = let turned : Less ≡ ordering_reverse Less = sym h ∙ records_total.antisymm a b ∙ ap ordering_reverse k in cc (turned)

by_numbers : (m n : ℕ) (found : Ordering) → (n < m → ⊥) → (m ≡ n → found ≡ Less) → ordering_then (nat_cmp m n) found ≡ Less
by_numbers m n found never same = elim (trichotomy m n) [
  | inl lt ↦ λ i. ordering_then (nat_cmp-less m n lt i) found
  | inr (inl e) ↦ (λ i. ordering_then ((ap (λ (z : ℕ). nat_cmp m z) (sym e) ∙ nat_cmp-equal m) i) found) ∙ same e
  | inr (inr gt) ↦ absurd (never gt)
]

-- a row that is less by its fields isn't greater by its words
before : (prefixes : Prefixes) (fields : List ℕ) (a b : WordedRow) → IsWorded prefixes fields a → IsWorded prefixes fields b → record_cmp (cut fields a.row) (cut fields b.row) ≡ Less → worded_cmp fields a b ≡ Less
before prefixes fields a b p q less =
    let l = cut fields a.row in
    let r = cut fields b.row in
    by_numbers a.first b.first _ (λ gt. never_both l r less (word_less prefixes.first.items r l q.bytes p.bytes (omega (arith, gt, p.first, q.first))))
    (λ e. by_numbers a.second b.second _
    (λ gt. never_both l r less (rest_less prefixes.first.items r l q.bytes p.bytes (sym q.first ∙ sym e ∙ p.first) (word_less prefixes.second.items (rest_of prefixes.first.items r) (rest_of prefixes.first.items l) q.more_bytes p.more_bytes (omega (arith, gt, p.second, q.second)))))
    (λ f i. ordering_then (less i) (nat_cmp a.place b.place)))

not_before : (prefixes : Prefixes) (fields : List ℕ) (a b : WordedRow) → IsWorded prefixes fields a → IsWorded prefixes fields b → is_lt (worded_cmp fields a b) ≡ false → is_lt (record_cmp (cut fields a.row) (cut fields b.row)) ≡ false
not_before prefixes fields a b p q h = by (record_cmp (cut fields a.row) (cut fields b.row)) refl where
  by : (found : Ordering) → record_cmp (cut fields a.row) (cut fields b.row) ≡ found → is_lt found ≡ false
  by Less e = sym (ap is_lt (before prefixes fields a b p q e)) ∙ h
  by Equal e = refl
  by Greater e = refl

abbrev pub is_before_worded : List ℕ → WordedRow → WordedRow → Bool
is_before_worded fields a b = is_lt (worded_cmp fields a b)

worded_total : (fields : List ℕ) → IsTotalOrder (worded_cmp fields)
worded_total fields =
    then_total (on_total (λ (w : WordedRow). w.first) nat_cmp_total) (then_total (on_total (λ (w : WordedRow). w.second) nat_cmp_total) (then_total (on_total (λ (w : WordedRow). cut fields w.row) records_total) (on_total (λ (w : WordedRow). w.place) nat_cmp_total)))

pub worded_ranks : (fields : List ℕ) → IsStrictWeakOrder (is_before_worded fields)
worded_ranks fields = ranks_by (worded_total fields) (λ (w : WordedRow). w)

pub sorted_rows : (prefixes : Prefixes) (fields : List ℕ) (all : List WordedRow) → All (IsWorded prefixes fields) all → IsSortedBy (is_before_worded fields) all
    → IsSorted (λ a b. record_cmp (cut fields a) (cut fields b)) (map row_of all)
sorted_rows prefixes fields all words up k d from below =
    let next : k + 1 < length all = omega (arith, below, length-map all row_of) in
    let this : k < length all = omega (arith, next) in
    let blank : WordedRow = record { first = 0; second = 0; place = 0; row = [] } in
    (λ i. is_lt (record_cmp (cut fields (get_or-map row_of all (k + 1) blank d next i)) (cut fields (get_or-map row_of all k blank d this i))))
    ∙ not_before prefixes fields (get_or all (k + 1) blank) (get_or all k blank) (All-get_or (IsWorded prefixes fields) all (k + 1) blank next words) (All-get_or (IsWorded prefixes fields) all k blank this words) (up k blank from next)
