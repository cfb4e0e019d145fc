use Rattle.std.proofs.Common.{◌≡◌, length, map, vec_capacity, vec_len}
use Rattle.pact_bag.specs.WordedRows.{row_of}
use Rattle.pact_bag.proofs.sorting.without_words.Given as goal

abbrev pub invariant-loop-worded : goal.invariant-loop-worded
invariant-loop-worded l = (l.rows.items ≡ map row_of l.yielded) × (vec_len l.rows ≡ length l.yielded) × (vec_capacity l.rows ≡ length l.fn.all.items)
