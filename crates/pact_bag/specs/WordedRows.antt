-- Rows beside the words of their listed fields, and their order.
use Rattle.std.specs.Prelude.{ℕ, List}
use Rattle.std.specs.Ordering.{nat_cmp, ordering_then}
use Rattle.std.specs.declared.cmp.Ordering.{Ordering}
use Rattle.pact_record.specs.declared.values.Value.{Value}
use Rattle.pact_record.specs.Record.{record_cmp}
use Rattle.pact_bag.specs.declared.prefixes.Prefixes.{Prefixes}
use Rattle.pact_bag.specs.declared.sorting.WordedRow.{WordedRow}
use Rattle.pact_bag.specs.Rows.{cut}
use Rattle.pact_bag.specs.SortWords.{AreWords}

abbrev pub IsWorded : Prefixes → List ℕ → WordedRow → Type 0
IsWorded prefixes fields worded = AreWords prefixes.first.items prefixes.second.items (cut fields worded.row) worded.first worded.second

abbrev pub row_of : WordedRow → List Value
row_of worded = worded.row

-- by all listed fields, and then by the place in the list
abbrev pub placed_cmp : List ℕ → WordedRow → WordedRow → Ordering
placed_cmp fields a b = ordering_then (record_cmp (cut fields a.row) (cut fields b.row)) (nat_cmp a.place b.place)

-- by the words, and then as above
abbrev pub worded_cmp : List ℕ → WordedRow → WordedRow → Ordering
worded_cmp fields a b = ordering_then (nat_cmp a.first b.first) (ordering_then (nat_cmp a.second b.second) (placed_cmp fields a b))
