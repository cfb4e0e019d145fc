-- The text of a bag's sorted rows.
use Rattle.std.proofs.Common.{◌≡◌, ◌<◌, ℕ, List, length, map}
use Rattle.std.specs.List.{AllByRecursion}
use Rattle.std.specs.List.Sorted.{IsPermutation, IsSorted}
use Rattle.std.proofs.lemmas.List.Elements.{All-from_recursion, recursion_from_All}
use Rattle.std.proofs.lemmas.List.Sorted.{All-permutation, IsPermutation-map}
use Rattle.pact_record.specs.declared.values.Value.{Value}
use Rattle.pact_record.specs.Record.{record_cmp}
use Rattle.pact_bag.specs.Rows.{cut}
use Rattle.pact_bag.proofs.SortedRows.{sorted-cut}
use Rattle.csv_sink.specs.CsvText.{csv_text}
use Rattle.bag_lines.specs.Lines.{AreLines}

-- rows that have the listed fields have them in any order
pub within-permuted : (fields : List ℕ) (bag rows : List (List Value)) → IsPermutation bag rows
    → AllByRecursion (λ row. AllByRecursion (λ field. field < length row) fields) bag
    → AllByRecursion (λ row. AllByRecursion (λ field. field < length row) fields) rows
within-permuted fields bag rows permuted within =
    let P : List Value → Type 0 = λ row. AllByRecursion (λ field. field < length row) fields in
    recursion_from_All P rows (All-permutation P bag rows permuted (All-from_recursion P bag within))

pub are_lines : (fields : List ℕ) (bag rows : List (List Value)) (text : List ℕ) → IsPermutation bag rows
    → IsSorted (λ a b. record_cmp (cut fields a) (cut fields b)) rows → text ≡ csv_text (map (cut fields) rows)
    → AreLines fields bag text
are_lines fields bag rows text permuted sorted spelled = record {
  rows = map (cut fields) rows;
  permuted = IsPermutation-map (cut fields) bag rows permuted;
  sorted = sorted-cut fields rows sorted;
  spelled = spelled;
}
