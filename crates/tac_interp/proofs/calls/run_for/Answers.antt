use Rattle.std.proofs.Common.{ap, ◌∙◌, ℕ, arith}
use Rattle.tac_syntax.specs.Call.{Out, start_store}
use Rattle.tac_interp.specs.Machine.{input_of}
use Rattle.tac_syntax.proofs.Bounds.{AreBounded-Out, Fits-start, widths-bounded}
use Rattle.tac_interp.proofs.Emissions.{AreEmitted-exec, AreWide-emitted}
use Rattle.tac_interp.proofs.Starts.{IsReady-start}
use Rattle.tac_interp.proofs.calls.run_for.Goals as goal

pub start-machine-requires-clause-fields : goal.start-machine-requires-clause-fields
start-machine-requires-clause-fields c = omega (arith, c.fields.ensures, c.function-function.ensures.valid.few_fields)

pub finish_body-requires : goal.finish_body-requires
finish_body-requires c =
    let f = c.args.f.now.function in
    let fields = c.args.f.now.fields in
    let input = input_of c.args.input in
    IsReady-start f c.function-function.result.now fields input c.start-machine.result c.function-function.ensures.valid (Fits-start f fields input c.requires.kind c.requires.keys)
    c.function-function.ensures.function (c.start-machine.ensures ∙ ap (λ (n : ℕ). start_store n input) c.fields.ensures)

pub returns-in_err-passes-clause-bounded : goal.returns-in_err-passes-clause-bounded
returns-in_err-passes-clause-bounded c =
    AreBounded-Out c.args.f.now.function c.args.f.now.fields (input_of c.args.input) c.function-function.ensures.valid c.requires.kind c.requires.keys c.requires.width

pub returns-clause-emitted : goal.returns-clause-emitted
returns-clause-emitted c =
    let input = input_of c.args.input in
    AreEmitted-exec c.args.f.now.function c.function-function.result.now c.args.f.now.fields input c.start-machine.result c.in_ok-passes.passes c.into_parts.result.emitted _
    c.into_parts.ensures c.in_ok-passes.ensures c.function-function.ensures.function (c.start-machine.ensures ∙ ap (λ (n : ℕ). start_store n input) c.fields.ensures)

pub returns-clause-bounded : goal.returns-clause-bounded
returns-clause-bounded c =
    AreBounded-Out c.args.f.now.function c.args.f.now.fields (input_of c.args.input) c.function-function.ensures.valid c.requires.kind c.requires.keys c.requires.width

pub returns-clause-widths : goal.returns-clause-widths
returns-clause-widths c =
    let body = c.args.f.now.function.body in
    let fields = c.args.f.now.fields in
    let input = input_of c.args.input in
    AreWide-emitted fields c.in_ok-passes.passes input c.into_parts.result.emitted (Out fields body input) (returns-clause-emitted c)
    (widths-bounded fields body input (Out fields body input) (returns-clause-bounded c))
