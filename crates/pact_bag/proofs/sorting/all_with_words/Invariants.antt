use Rattle.std.proofs.Common.{◌≡◌, length, map, vec_capacity, vec_len}
use Rattle.std.specs.List.{All}
use Rattle.pact_bag.specs.WordedRows.{IsWorded, row_of}
use Rattle.pact_bag.proofs.sorting.all_with_words.Given as goal

abbrev pub invariant-loop-row : goal.invariant-loop-row
invariant-loop-row l =
    (map row_of l.all.items ≡ l.yielded) × All (IsWorded l.prefixes l.fields) l.all.items × (vec_len l.all ≡ length l.yielded) × (vec_capacity l.all ≡ length l.fn.rows.items)
