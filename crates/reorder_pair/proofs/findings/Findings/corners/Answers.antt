use Rattle.reorder_pair.proofs.RowsBehind.{begins-itself, begins-keeps, begins-same}
use Rattle.reorder_pair.proofs.findings.Findings.corners.Goals as goal

pub returns-in_err-both-clause-begins : goal.returns-in_err-both-clause-begins
returns-in_err-both-clause-begins c =
    let old = c.args.self.now in
    let one = begins-keeps c.corner_of.result c.in_ok-neither.neither old old c.found_under.new.self (begins-itself old) c.in_ok-neither.ensures.kept in
    let two = begins-keeps c.corner_of-2.result c.in_ok-left.left old c.found_under.new.self c.found_under-2.new.self one c.in_ok-left.ensures.kept in
    let three = begins-keeps c.corner_of-3.result c.in_ok-right.right old c.found_under-2.new.self c.found_under-3.new.self two c.in_ok-right.ensures.kept in
    begins-same old c.found_under-3.new.self c.found_under-4.new.self three c.in_err-both.ensures.unchanged

pub returns-clause-begins : goal.returns-clause-begins
returns-clause-begins c =
    let old = c.args.self.now in
    let one = begins-keeps c.corner_of.result c.in_ok-neither.neither old old c.found_under.new.self (begins-itself old) c.in_ok-neither.ensures.kept in
    let two = begins-keeps c.corner_of-2.result c.in_ok-left.left old c.found_under.new.self c.found_under-2.new.self one c.in_ok-left.ensures.kept in
    let three = begins-keeps c.corner_of-3.result c.in_ok-right.right old c.found_under-2.new.self c.found_under-3.new.self two c.in_ok-right.ensures.kept in
    begins-keeps c.corner_of-4.result c.in_ok-both.both old c.found_under-3.new.self c.found_under-4.new.self three c.in_ok-both.ensures.kept
