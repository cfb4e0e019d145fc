use Rattle.std.proofs.Common.{map, take}
use Rattle.std.specs.List.{AllByRecursion}
use Rattle.text_marks.specs.Expecting.{Extends, IsListedOrRefused}
use Rattle.text_marks.proofs.Listing.{now_of}
use Rattle.text_marks.proofs.expecting.try_words.Given as goal

abbrev pub invariant-loop-word : goal.invariant-loop-word
invariant-loop-word l =
    Extends l.mark.from l.mark.to l.text l.fn.found l.found
    × AllByRecursion (IsListedOrRefused l.mark.from l.mark.to l.text l.found) (map now_of (take l.word-index l.words))
