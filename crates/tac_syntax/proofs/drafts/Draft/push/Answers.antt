use Rattle.std.proofs.Common.{sym, subst, List}
use Rattle.std.specs.Result.{is_ok}
use Rattle.tac_syntax.specs.declared.declarations.Decl.{Decl}
use Rattle.tac_syntax.specs.Declarations.{IsSpelledDecl}
use Rattle.tac_syntax.specs.Drafts.{DraftData, IsSpelledDraft}
use Rattle.tac_syntax.proofs.SpelledDrafts.{IsSpelledDraft-decl}
use Rattle.tac_syntax.proofs.drafts.Draft.push.Goals as goal

pub invariant_of-self-2 : goal.invariant_of-self-2
invariant_of-self-2 c =
    let d : DraftData = record { version = c.self.inside.version; fields = c.self.inside.fields; functions = c.self.inside.functions.items; decls = c.self.inside.decls.items } in
    let fits = subst (λ (x : DraftData). IsSpelledDecl x.version c.args.decl) (sym c.self.view_is) c.requires in
    let spelled = IsSpelledDraft-decl d c.args.decl (is_ok c.push.result) fits c.self.invariant in
    subst (λ (decls : List Decl). IsSpelledDraft (record { version = d.version; fields = d.fields; functions = d.functions; decls = decls })) (sym c.push.ensures.items) spelled
