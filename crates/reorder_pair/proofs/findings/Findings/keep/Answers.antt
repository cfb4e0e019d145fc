use Rattle.std.proofs.Common.{◌++◌, ◌∷◌, [], List, ap, subst, ◌∙◌}
use Rattle.reorder_pair.specs.FindingTable.{IsKept}
use Rattle.reorder_pair.specs.declared.finding.Found.{Found}
use Rattle.reorder_pair.specs.declared.findings.OperatorIn.{OperatorIn}
use Rattle.reorder_pair.proofs.KeptFindings.{insert_entry-absent}
use Rattle.reorder_pair.proofs.findings.Findings.keep.Goals as goal

pub returns-clause-kept : goal.returns-clause-kept
returns-clause-kept c =
    let placed = c.args.placed.now in
    let found = c.args.found.now in
    c.in_ok-insert.ensures.entries ∙ insert_entry-absent c.self.inside.table.entries placed found (λ h. c.requires (subst (IsKept placed) c.self.view_is h))
    ∙ ap (λ (rows : List (OperatorIn × Found)). rows ++ (placed, found) ∷ []) c.self.view_is
