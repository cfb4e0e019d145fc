use Rattle.std.proofs.Common.{◌≡◌, [], arith}
use Rattle.std.proofs.lemmas.List.{nil_from_length}
use Rattle.program_text.specs.ProgramStates.{state_of}
use Rattle.program_text.proofs.ProgramReads.{version_of_run}
use Rattle.program_text.proofs.ReadLoop.{reached_start, reached_on, told_fault, not_given, read_so}
use Rattle.program_text.proofs.program_reading.read_program.Goals as goal

pub loop-rest-init : goal.loop-rest-init
loop-rest-init c = reached_start c.args.text.now

pub read_line-requires : goal.read_line-requires
read_line-requires c = version_of_run (state_of c.loop-rest.state) c.loop-rest.invariant.front c.loop-rest.invariant.run

pub returns-in-Err-clause-fault : goal.returns-in-Err-clause-fault
returns-in-Err-clause-fault c =
    rw c.at_line.ensures (told_fault c.args.text.now c.loop-rest.rest.now c.first_line.result.1.now c.first_line.result.0.now c.loop-rest.lines (state_of c.loop-rest.state) c.in-Err.not c.loop-rest.invariant c.first_line.ensures.lines c.in-Err.ensures.fault)

pub returns-in-Err-clause-draft_always : goal.returns-in-Err-clause-draft_always
returns-in-Err-clause-draft_always c d text = not_given _ c.at_line.result d (returns-in-Err-clause-fault c) text

pub loop-rest-preserved : goal.loop-rest-preserved
loop-rest-preserved c =
    reached_on c.args.text.now c.loop-rest.rest.now c.first_line.result.1.now c.first_line.result.0.now c.loop-rest.lines (state_of c.loop-rest.state) (state_of c.in-Ok.next) c.loop-rest.invariant c.first_line.ensures.lines c.first_line.ensures.shorter
    c.in-Ok.ensures.leads

none_left : (c : goal.After-ended) → c.loop-rest.rest.now ≡ []
none_left c = nil_from_length c.loop-rest.rest.now (omega arith)

pub returns-clause-draft : goal.returns-clause-draft
returns-clause-draft c = (read_so c.args.text.now c.loop-rest.rest.now c.loop-rest.lines (state_of c.loop-rest.state) c.ended.result c.loop-rest.invariant (none_left c) c.ended.ensures).0

pub returns-clause-draft_always : goal.returns-clause-draft_always
returns-clause-draft_always c = (read_so c.args.text.now c.loop-rest.rest.now c.loop-rest.lines (state_of c.loop-rest.state) c.ended.result c.loop-rest.invariant (none_left c) c.ended.ensures).1

pub returns-clause-fault : goal.returns-clause-fault
returns-clause-fault c = (read_so c.args.text.now c.loop-rest.rest.now c.loop-rest.lines (state_of c.loop-rest.state) c.ended.result c.loop-rest.invariant (none_left c) c.ended.ensures).2
