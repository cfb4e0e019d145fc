use Rattle.std.proofs.Common.{Some, Option, false, sym, subst}
use Rattle.std.proofs.lemmas.Result.{IfOk-weaker}
use Rattle.tac_text.specs.FunctionStates.{OpenData, LeadsOn}
use Rattle.tac_text.proofs.FunctionReads.{LeadsOn-TakesWords, LeadsOn-header}
use Rattle.tac_text.proofs.function_reading.take_words.Goals as goal

pub returns-in-Some-clause-taken : goal.returns-in-Some-clause-taken
returns-in-Some-clause-taken c =
    IfOk-weaker c.read_line.result _ _ (λ ended taken.
    subst (λ (old : Option OpenData). LeadsOn c.args.registers ended c.args.words.now old (Some c.read_line.new.self)) (sym c.in-Some.is) (LeadsOn-TakesWords c.args.registers ended c.args.words.now c.in-Some.open c.read_line.new.self taken)) c.read_line.ensures.taken

pub returns-in_ok-read_header-in-None-clause-taken : goal.returns-in_ok-read_header-in-None-clause-taken
returns-in_ok-read_header-in-None-clause-taken c =
    let now = c.in_ok-read_header-in-None.field-0 in
    let header = c.in_ok-read_header-in-None.ensures.header in
    subst (λ (old : Option OpenData). LeadsOn c.args.registers false c.args.words.now old (Some now)) (sym c.in-None.is) (LeadsOn-header c.args.registers c.args.words.now now header.0 header.1 header.2)
