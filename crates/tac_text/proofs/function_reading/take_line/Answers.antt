use Rattle.std.proofs.lemmas.Result.{err_from_is_err_and}
use Rattle.text_lines.proofs.LineRuns.{IsLineFault-HasCause}
use Rattle.tac_text.proofs.function_reading.take_line.Goals as goal

pub returns-in_err-words-clause-fault : goal.returns-in_err-words-clause-fault
returns-in_err-words-clause-fault c =
    let p = err_from_is_err_and c.from_residual.result c.from_residual.ensures.1 in
    rw (p.1, p.2) (IsLineFault-HasCause _ c.in_err-words.field-0.0 c.trim_line.result.now c.args.line.now c.trim_line.ensures c.in_err-words.ensures.fault)
