use Rattle.std.proofs.Common.{IfNone, IfSome, sym, subst, ◌∙◌, List}
use Rattle.reorder_pair.specs.FindingTable.{AreFindings, IsKept}
use Rattle.reorder_pair.specs.declared.finding.Found.{Found}
use Rattle.reorder_pair.specs.declared.findings.OperatorIn.{OperatorIn}
use Rattle.reorder_pair.proofs.KeptFindings.{kept-IfNone, kept-IfSome, kept-IfSome_IsKept}
use Rattle.reorder_pair.proofs.findings.Findings.kept.Goals as goal

pub returns-clause-found : goal.returns-clause-found
returns-clause-found c p h =
    kept-IfSome p c.self.inside.table.entries c.args.placed.now c.copied.result (c.copied.ensures ∙ c.get.ensures.value) (subst (AreFindings p) (sym c.self.view_is) h)

pub returns-clause-some : goal.returns-clause-some
returns-clause-some c =
    subst (λ (rows : List (OperatorIn × Found)). IfSome c.copied.result (λ _. IsKept c.args.placed.now rows)) c.self.view_is
    (kept-IfSome_IsKept c.self.inside.table.entries c.args.placed.now c.copied.result (c.copied.ensures ∙ c.get.ensures.value))

pub returns-clause-none : goal.returns-clause-none
returns-clause-none c =
    subst (λ (rows : List (OperatorIn × Found)). IfNone c.copied.result (IsKept c.args.placed.now rows → ⊥)) c.self.view_is
    (kept-IfNone c.self.inside.table.entries c.args.placed.now c.copied.result (c.copied.ensures ∙ c.get.ensures.value))
