use Rattle.std.proofs.Common.{[], ◌∷◌, codes, subst, sym}
use Rattle.std.specs.List.{AllByRecursion}
use Rattle.text_marks.specs.Expecting.{IsListedOrRefused}
use Rattle.text_marks.specs.Vocabulary.{IsFixedWord, fixed_words}
use Rattle.text_marks.proofs.Listing.{all_fixed, joined, later_loops, later_numbers, later_tried, later_words}
use Rattle.text_marks.proofs.expecting.add_other.Goals as goal

pub try_words-requires-clause-fixed : goal.try_words-requires-clause-fixed
try_words-requires-clause-fixed c = subst (AllByRecursion IsFixedWord) (sym c.fixed_words.ensures) all_fixed

pub returns : goal.returns
returns c =
    let literal = joined c.in_ok-try_item-4.ensures.more c.in_ok-try_item-5.ensures.more in
    let field = joined c.in_ok-try_item-3.ensures.more literal in
    let numbers = joined c.in_ok-try_numbers.ensures.more field in
    let loops = joined c.in_ok-try_loops.ensures.more numbers in
    let records = joined c.in_ok-try_item-2.ensures.more loops in
    let values = joined c.in_ok-try_item.ensures.more records in
    let fixed = subst (AllByRecursion (IsListedOrRefused c.args.mark.now.from c.args.mark.now.to c.args.text.now c.try_words.new.found)) c.fixed_words.ensures c.in_ok-try_words.ensures.tried in
    let value = later_tried records (codes "v0") c.in_ok-try_item.ensures.tried in
    let record_item = later_tried loops (codes "r0") c.in_ok-try_item-2.ensures.tried in
    let field_item = later_tried literal (codes "@v0") c.in_ok-try_item-3.ensures.tried in
    let literal_item = later_tried c.in_ok-try_item-5.ensures.more (34 ∷ 97 ∷ 34 ∷ []) c.in_ok-try_item-4.ensures.tried in
    record {
      more = joined c.in_ok-try_words.ensures.more values;
      tried = record {
        fixed = later_words values fixed_words fixed;
        kinds = (value, (record_item, (field_item, (literal_item, (c.in_ok-try_item-5.ensures.tried, tt)))));
        loops = later_loops numbers c.in_ok-try_loops.ensures.tried;
        numbers = later_numbers field c.in_ok-try_numbers.ensures.tried;
      };
    }
