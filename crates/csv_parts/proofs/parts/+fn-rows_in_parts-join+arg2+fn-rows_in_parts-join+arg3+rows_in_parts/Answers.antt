use Rattle.std.proofs.lemmas.Result.{IfOk-weaker}
use Rattle.csv_parts.proofs.Outcomes.{prefix_refused, joined_answer, one_width}
use Rattle.csv_parts.proofs.parts.+fn-rows_in_parts-join+arg2+fn-rows_in_parts-join+arg3+rows_in_parts.Goals as goal

pub joined-requires : goal.joined-requires
joined-requires g t c =
    let prefix = rw c.in-Ok.is at c.join-prefix_read.ensures.first in
    IfOk-weaker c.join-prefix_read.result.1 _ _ (λ more h. one_width c.args.fields c.args.columns.now c.split_at.result.0.now c.split_at.result.1.now c.in-Ok.rows more prefix.0 h) c.join-prefix_read.ensures.second.0

pub returns-in-Ok : goal.returns-in-Ok
returns-in-Ok g t c =
    let prefix = rw (c.in-Ok.is, c.split_at.ensures.front) at c.join-prefix_read.ensures.first in
    let rest = rw c.split_at.ensures.back at c.join-prefix_read.ensures.second in
    let both = joined_answer c.args.fields c.args.columns.now c.args.text.now c.in-Some.at c.in-Ok.rows c.join-prefix_read.result.1 c.joined.result c.in-Some.ensures.cut prefix.0 rest.0 rest.1 c.joined.ensures in
    record { rows = both.0; refused = both.1 }

pub returns-in-Err-clause-refused : goal.returns-in-Err-clause-refused
returns-in-Err-clause-refused g t c =
    let prefix = rw (c.in-Err.is, c.split_at.ensures.front) at c.join-prefix_read.ensures.first in
    prefix_refused c.args.fields c.args.columns.now c.args.text.now c.in-Some.at c.in-Err.bad c.in-Some.ensures.cut prefix.1
