use Rattle.std.proofs.Common.{◌∙◌, sym, subst}
use Rattle.pact_operators.specs.Programs.{IsProgram, ProgramData}
use Rattle.pact_operators.proofs.OneMore.{with_parts}
use Rattle.pact_operators.proofs.programs.Program.with_function.Goals as goal

pub of-requires : goal.of-requires
of-requires c =
    let i = c.self.inside in
    let p : ProgramData = record { version = i.version; fields = i.fields; functions = i.functions; ops = i.ops.items; plan = i.plan; sink = i.sink.items } in
    subst IsProgram (sym (with_parts p c.args.self c.args.at c.len.result c.args.function c.push.new.self c.index_mut.result.now c.self.view_is c.requires.there c.in_ok-push.ensures.ok c.len.ensures c.index_mut.ensures.value))
    c.requires.program

pub returns : goal.returns
returns c =
    let i = c.self.inside in
    let p : ProgramData = record { version = i.version; fields = i.fields; functions = i.functions; ops = i.ops.items; plan = i.plan; sink = i.sink.items } in
    c.of.ensures ∙ with_parts p c.args.self c.args.at c.len.result c.args.function c.push.new.self c.index_mut.result.now c.self.view_is c.requires.there c.in_ok-push.ensures.ok c.len.ensures c.index_mut.ensures.value
