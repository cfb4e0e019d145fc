use Rattle.std.proofs.Common.{Bool, subst}
use Rattle.tac_text.specs.FunctionStates.{TakesWords}
use Rattle.program_text.proofs.ReadLoop.{ended_words, inner_words}
use Rattle.program_text.proofs.program_reading.inside_words.Goals as goal

pub returns-then-ended-clause-leads : goal.returns-then-ended-clause-leads
returns-then-ended-clause-leads c =
    ended_words c.args.draft c.args.function c.read_line.new.self c.args.words.now c.in_ok-ended.ended c.with_function.result c.if-ended.true
    (subst (λ (r : Bool). TakesWords r c.in_ok-ended.ended c.args.words.now c.args.function c.read_line.new.self) c.has_registers.ensures c.in_ok-ended.ensures.taken) c.with_function.ensures.function

pub returns-else-ended-clause-leads : goal.returns-else-ended-clause-leads
returns-else-ended-clause-leads c =
    inner_words c.args.draft c.args.function c.read_line.new.self c.args.words.now c.in_ok-ended.ended c.if-ended.false
    (subst (λ (r : Bool). TakesWords r c.in_ok-ended.ended c.args.words.now c.args.function c.read_line.new.self) c.has_registers.ensures c.in_ok-ended.ensures.taken)
