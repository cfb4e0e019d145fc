use Rattle.std.proofs.Common.{rules, ◌≡◌, ◌++◌, ◌∷◌, [], length, subst, sym}
use Rattle.tac_syntax.specs.declared.declarations.Decl.TheVariants.{Function as FunctionDecl}
use Rattle.tac_syntax.specs.FieldRegisters.{Takes, has_registers}
use Rattle.tac_syntax.specs.Drafts.{DraftData}
use Rattle.tac_syntax.proofs.SpelledDrafts.{IsSpelledDraft-function}
use Rattle.tac_syntax.proofs.drafts.Draft.push_function.Goals as goal

pub invariant_of-self-2 : goal.invariant_of-self-2
invariant_of-self-2 c =
    let d : DraftData = record { version = c.self.inside.version; fields = c.self.inside.fields; functions = c.self.inside.functions.items; decls = c.self.inside.decls.items } in
    let takes = subst (λ (x : DraftData). Takes (has_registers x.version) c.args.function.body) (sym c.self.view_is) c.requires.registers in
    let spelled = IsSpelledDraft-function d c.args.function c.requires.spelled takes c.self.invariant in
    let functions : c.push.new.self.items ≡ d.functions ++ c.args.function ∷ [] = search rules in
    let decls : c.push-2.new.self.items ≡ d.decls ++ FunctionDecl (length d.functions) ∷ [] = search rules in
    rw (functions, decls) spelled
