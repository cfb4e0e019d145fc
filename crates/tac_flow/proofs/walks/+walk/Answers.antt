use Rattle.std.proofs.Common.{rules, arith, ◌≤◌, ◌+◌, ◌-◌, [], ap, sym, subst, ◌∙◌}
use Rattle.tac_syntax.specs.Code.{Code, nesting}
use Rattle.tac_syntax.specs.Trees.{only, code_of}
use Rattle.tac_syntax.specs.declared.statements.Stmt.{Stmt}
use Rattle.tac_syntax.proofs.Bodies.{nesting-only-le}
use Rattle.tac_flow.specs.Known.{FieldSet, Known, State, joined}
use Rattle.tac_flow.specs.Walks.{settled, walk, notes, walks_at_most}
use Rattle.tac_flow.specs.Memos.{dropped_any}
use Rattle.tac_flow.specs.Warm.{turn_of}
use Rattle.tac_flow.specs.Gathering.{noted_of, gather, decided}
use Rattle.tac_flow.specs.Views.{state_of, scope_of, sides_of}
use Rattle.tac_flow.proofs.SameFacts.{one_state}
use Rattle.tac_flow.proofs.WalkedSoFar.{well_formed_next, walks_next, settles_start, settles_next, settles_same, gather-append, gather_choice}
use Rattle.tac_flow.proofs.walks.+walk.Goals as goal

pub walk_body-walk_stmt-requires : goal.walk_body-walk_stmt-requires
walk_body-walk_stmt-requires t c =
    let items = c.stmts-stmt-items.result.now in
    let stmt = c.stmt-item.result in
    let inside = nesting-only-le items c.loop-stmt.stmt-index stmt c.loop-stmt-test.true in
    let own = subst (λ (s : Stmt). nesting (only s) ≤ nesting (code_of items)) (sym c.stmt-item.is) inside in
    let less = subst (λ (b : Code). nesting (only stmt) ≤ nesting b) c.stmts-stmt-items.ensures own in
    let well_formed = well_formed_next _ _ items c.loop-stmt.stmt-index stmt _ _ _ _ _ c.loop-stmt-test.true c.stmt-item.is c.loop-stmt.invariant in
    (search (rules, less), (well_formed, c.requires.fields))

pub walk_body-loop-stmt-preserved : goal.walk_body-loop-stmt-preserved
walk_body-loop-stmt-preserved t c =
    walks_next _ _ c.stmts-stmt-items.result.now c.loop-stmt.stmt-index c.stmt-item.result _ _ _ _ _ _ _ c.loop-stmt-test.true c.stmt-item.is c.walk_stmt.ensures.facts c.walk_stmt.ensures.noted c.loop-stmt.invariant

pub settle-loop-init : goal.settle-loop-init
settle-loop-init t c =
    settles_start c.args.scope.now.fields (turn_of (scope_of c.args.scope.now) (sides_of c.args.inside.now) c.args.body.now c.args.name) _ (state_of c.args.facts.now) (omega arith)

pub settle-returns-then-eq : goal.settle-returns-then-eq
settle-returns-then-eq t c =
    settles_same c.args.scope.now.fields (turn_of (scope_of c.args.scope.now) (sides_of c.args.inside.now) c.args.body.now c.args.name) (walks_at_most c.args.scope.now.fields - c.loop.counter)
    (state_of c.loop.facts) (state_of c.join.new.self) (state_of c.args.facts.now)
    (c.join.ensures ∙ ap (joined c.args.scope.now.fields (state_of c.loop.facts)) (c.drop_any.ensures ∙ ap (dropped_any c.args.name) c.walk_body.ensures.facts)) (ap state_of (one_state c.join.new.self c.loop.facts (sym c.eq.ensures ∙ c.if-eq.true))) c.loop.invariant

pub settle-loop-preserved : goal.settle-loop-preserved
settle-loop-preserved t c =
    settles_next c.args.scope.now.fields (turn_of (scope_of c.args.scope.now) (sides_of c.args.inside.now) c.args.body.now c.args.name) (walks_at_most c.args.scope.now.fields - c.loop.counter)
    (walks_at_most c.args.scope.now.fields - (c.loop.counter + 1)) (state_of c.loop.facts) (state_of c.join.new.self) (state_of c.args.facts.now)
    (omega (arith, c.loop-test.true, c.walks_at_most-end.ensures))
    (c.join.ensures ∙ ap (joined c.args.scope.now.fields (state_of c.loop.facts)) (c.drop_any.ensures ∙ ap (dropped_any c.args.name) c.walk_body.ensures.facts)) c.loop.invariant

pub walk_stmt-returns-in-Repeat-clause-facts : goal.walk_stmt-returns-in-Repeat-clause-facts
walk_stmt-returns-in-Repeat-clause-facts t c =
    let scope = scope_of c.args.scope.now in
    let sides = sides_of c.args.sides.now in
    c.walk_body.ensures.facts ∙ ap (walk scope sides c.in-Repeat.body) c.settle.ensures ∙ ap (λ (s : Stmt). walk scope sides (only s) (state_of c.args.facts.now)) (sym c.in-Repeat.is)

pub walk_stmt-returns-in-Repeat-clause-noted : goal.walk_stmt-returns-in-Repeat-clause-noted
walk_stmt-returns-in-Repeat-clause-noted t c =
    let scope = scope_of c.args.scope.now in
    let sides = sides_of c.args.sides.now in
    let body = c.in-Repeat.body in
    let noted = noted_of c.args.noted.now in
    c.walk_body.ensures.noted ∙ ap (λ (k : State). gather (notes scope sides body k) noted) c.settle.ensures
    ∙ sym (gather-append (notes scope sides body (settled c.args.scope.now.fields (walk scope sides body) (state_of c.args.facts.now))) [] noted)
    ∙ ap (λ (s : Stmt). gather (notes scope sides (only s) (state_of c.args.facts.now)) noted) (sym c.in-Repeat.is)

pub walk_stmt-returns-in-Key-clause-facts : goal.walk_stmt-returns-in-Key-clause-facts
walk_stmt-returns-in-Key-clause-facts t c =
    c.transfer_key.ensures (sides_of c.args.sides.now) ∙ ap (λ (s : Stmt). walk (scope_of c.args.scope.now) (sides_of c.args.sides.now) (only s) (state_of c.args.facts.now)) (sym c.in-Key.is)

pub walk_stmt-returns-in-Set-clause-facts : goal.walk_stmt-returns-in-Set-clause-facts
walk_stmt-returns-in-Set-clause-facts t c =
    c.transfer_set.ensures (sides_of c.args.sides.now) ∙ ap (λ (s : Stmt). walk (scope_of c.args.scope.now) (sides_of c.args.sides.now) (only s) (state_of c.args.facts.now)) (sym c.in-Set.is)

pub walk_stmt-returns-in-SetAt-clause-facts : goal.walk_stmt-returns-in-SetAt-clause-facts
walk_stmt-returns-in-SetAt-clause-facts t c =
    c.transfer_set_at.ensures (sides_of c.args.sides.now) ∙ ap (λ (s : Stmt). walk (scope_of c.args.scope.now) (sides_of c.args.sides.now) (only s) (state_of c.args.facts.now)) (sym c.in-SetAt.is)

pub walk_if-returns-clause-noted : goal.walk_if-returns-clause-noted
walk_if-returns-clause-noted t c =
    let scope = scope_of c.args.scope.now in
    let sides = sides_of c.args.sides.now in
    let begun = c.decided.ensures ∙ ap (λ (d : FieldSet). decided d (noted_of c.args.noted.now)) (ap (λ (v : Known). v.deps) c.value.ensures) in
    gather_choice (notes scope sides c.args.body.now (state_of c.args.facts.now)) (notes scope sides c.args.other.now (state_of c.args.facts.now)) _ _ _
    (c.walk_body.ensures.noted ∙ ap (gather (notes scope sides c.args.body.now (state_of c.args.facts.now))) begun) c.walk_body-2.ensures.noted
