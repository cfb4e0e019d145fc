-- The records of an input have the program's width.
use Rattle.std.proofs.Common.{◌≡◌, ℕ, List, length, ap, sym, ◌∙◌}
use Rattle.pact_record.specs.declared.values.Value.{Value}
use Rattle.pact_record.specs.Record.{at_field, joined_value, joined_record}
use Rattle.pact_record.proofs.JoinedRecords.{at_field-joined_record, length-joined_record}
use Rattle.tac_syntax.specs.Call.{CallInput, of_record, of_pair, of_group, of_groups, left_record, right_record}
use Rattle.tac_syntax.specs.CallInputs.{HasWidth, IsOfPair}

left_width : (fields : ℕ) (input : CallInput) → IsOfPair input → HasWidth fields input → length (left_record input) ≡ fields
left_width fields (of_record row) h w = absurd h
left_width fields (of_pair left right) h w = w.0
left_width fields (of_group key group) h w = absurd h
left_width fields (of_groups key left right) h w = absurd h

right_width : (fields : ℕ) (input : CallInput) → IsOfPair input → HasWidth fields input → length (right_record input) ≡ fields
right_width fields (of_record row) h w = absurd h
right_width fields (of_pair left right) h w = w.1
right_width fields (of_group key group) h w = absurd h
right_width fields (of_groups key left right) h w = absurd h

pub joined_width : (fields : ℕ) (input : CallInput) → IsOfPair input → HasWidth fields input → length (joined_record (left_record input) (right_record input)) ≡ fields
joined_width fields input h w =
    length-joined_record (left_record input) (right_record input) (left_width fields input h w ∙ sym (right_width fields input h w)) ∙ left_width fields input h w

pub joined_field : (fields field : ℕ) (input : CallInput) (l r value : Value) (left right : List Value) → IsOfPair input → HasWidth fields input
    → left ≡ left_record input → right ≡ right_record input → l ≡ at_field left field → r ≡ at_field right field → value ≡ joined_value l r
    → value ≡ at_field (joined_record (left_record input) (right_record input)) field
joined_field fields field input l r value left right h w le re lv rv v =
    v ∙ (λ i. joined_value ((lv ∙ ap (λ (row : List Value). at_field row field) le) i) ((rv ∙ ap (λ (row : List Value). at_field row field) re) i))
    ∙ sym (at_field-joined_record (left_record input) (right_record input) field (left_width fields input h w ∙ sym (right_width fields input h w)))
