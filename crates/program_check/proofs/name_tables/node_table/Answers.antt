use Rattle.std.proofs.Common.{◌++◌, ◌∷◌, [], ℕ, List, take, refl, subst}
use Rattle.program_check.specs.NameTables.{IsTableOf}
use Rattle.pact_operators.specs.Resolved.{node_names}
use Rattle.program_check.proofs.NamedByDeclarations.{joined_more, node_names-append}
use Rattle.program_check.proofs.name_tables.node_table.Goals as goal

pub loop-decl-preserved : goal.loop-decl-preserved
loop-decl-preserved c =
    let before = node_names (take c.loop-decl.decl-index c.args.decls.now) in
    let more =
    joined_more node_names c.args.decls.now c.loop-decl.decl-index c.decl-item.result before (before ++ node_names (c.decl-item.result ∷ [])) node_names-append c.loop-decl-test.true c.decl-item.is refl refl in
    subst (λ (names : List (List ℕ)). IsTableOf names c.add_node.new.table.marks) more (c.in_ok-add_node.ensures before c.loop-decl.invariant)
