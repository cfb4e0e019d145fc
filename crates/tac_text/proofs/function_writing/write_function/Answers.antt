use Rattle.std.proofs.Common.{◌≤◌, false, true, arith}
use Rattle.tac_syntax.specs.Code.{nesting}
use Rattle.tac_syntax.specs.Limits.{nesting_limit}
use Rattle.tac_text.proofs.BodySteps.{takes_all}
use Rattle.tac_text.proofs.WrittenFunctions.{FunctionAt-written, function_spelling-parts}
use Rattle.tac_text.proofs.function_writing.write_function.Goals as goal

pub returns-clause-read_again : goal.returns-clause-read_again
returns-clause-read_again c =
    let f = c.args.function.now in
    let deep : nesting f.body ≤ nesting_limit = omega (arith, c.depth-nesting.ensures.depth, c.depth-nesting.ensures.limit) in
    let written =
    function_spelling-parts f c.in_ok-header_words.field-0 c.new-out.result c.put_line.new.out c.write_lines.new.out c.put_word.new.out c.new-out.ensures c.in_ok-header_words.ensures c.in_ok-put_line.ensures c.in_ok-write_lines.ensures c.in_ok-put_word.ensures in
    FunctionAt-written true f c.put_word.new.out c.requires (takes_all f.body) deep written

pub returns-clause-read_in_first : goal.returns-clause-read_in_first
returns-clause-read_in_first c takes =
    let f = c.args.function.now in
    let deep : nesting f.body ≤ nesting_limit = omega (arith, c.depth-nesting.ensures.depth, c.depth-nesting.ensures.limit) in
    let written =
    function_spelling-parts f c.in_ok-header_words.field-0 c.new-out.result c.put_line.new.out c.write_lines.new.out c.put_word.new.out c.new-out.ensures c.in_ok-header_words.ensures c.in_ok-put_line.ensures c.in_ok-write_lines.ensures c.in_ok-put_word.ensures in
    FunctionAt-written false f c.put_word.new.out c.requires takes deep written
