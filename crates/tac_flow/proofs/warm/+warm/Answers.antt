use Rattle.std.proofs.Common.{rules, arith, ◌≡◌, ◌≤◌, ◌+◌, ℕ, Bool, ◌++◌, [], ◌∷◌, length, ap, sym, subst, ◌∙◌}
use Rattle.tac_syntax.specs.Code.{Code, nesting}
use Rattle.tac_syntax.specs.Trees.{only, code_of}
use Rattle.tac_syntax.specs.declared.statements.Stmt.{Stmt}
use Rattle.tac_syntax.proofs.Bodies.{nesting-only-le}
use Rattle.tac_flow.specs.Known.{FieldSet, Side, Known}
use Rattle.tac_flow.specs.Gathering.{noted_of, decided}
use Rattle.tac_flow.specs.Views.{state_of, scope_of, sides_of}
use Rattle.tac_flow.specs.Memos.{memos_of, is_large, place, places}
use Rattle.tac_flow.proofs.SameFacts.{one_state}
use Rattle.tac_flow.proofs.WarmWalks.{warms_next, warms_past, asks_next, other_places, other_ready, branch_warmed, loop_start, loop_skip, loop_next, loop_done, repeat_warmed, well_inside, each_ready, each_warmed}
use Rattle.tac_flow.proofs.warm.+warm.Goals as goal

at_first : (n first : ℕ) (large other : Bool) → first ≡ n + place large → large ≡ other → first ≡ n + place other
at_first n first large other e size = e ∙ ap (λ (b : Bool). n + place b) size

pub settle-returns-then-begin : goal.settle-returns-then-begin
settle-returns-then-begin t c = (
  at_first c.args.n c.first_inside-first.result c.is_large-large.result (is_large c.args.scope.now.least c.args.body.now) c.first_inside-first.ensures c.is_large-large.ensures,
  loop_skip (scope_of c.args.scope.now) c.args.scope.now.least (sides_of c.args.inside.now) c.args.body.now c.args.name c.args.n (state_of c.args.facts.now) (memos_of c.args.memos.now) c.requires.well_formed c.requires.ready
      c.is_large-large.result c.is_large-large.ensures (state_of c.begin.new.facts) c.begin.ensures.state (c.begin.ensures.same c.if-begin.true),
)

pub settle-loop-init : goal.settle-loop-init
settle-loop-init t c =
    loop_start (scope_of c.args.scope.now) c.args.scope.now.least (sides_of c.args.inside.now) c.args.body.now c.args.name c.args.n (state_of c.args.facts.now) (memos_of c.args.memos.now) c.requires.well_formed c.requires.ready
    c.is_large-large.result c.is_large-large.ensures (state_of c.begin.new.facts) c.begin.ensures.state

pub warm_body-loop-stmt-preserved : goal.warm_body-loop-stmt-preserved
warm_body-loop-stmt-preserved t c =
    warms_next _ _ _ c.stmts-stmt-items.result.now c.loop-stmt.stmt-index c.stmt-item.result _ _ _ _ _ _ _ _ _ _ _ _ _ c.loop-stmt-test.true c.stmt-item.is c.loop-stmt.invariant c.in_ok-next.ensures

pub warm_body-returns : goal.warm_body-returns
warm_body-returns t c =
    warms_past (scope_of c.args.scope.now) c.args.scope.now.least (sides_of c.args.sides.now) c.stmts-stmt-items.result.now c.loop-stmt.stmt-index c.args.body.now c.args.n (state_of c.args.facts.now) (memos_of c.args.memos.now) (noted_of c.args.noted.now)
    c.loop-stmt.next (state_of c.loop-stmt.facts) (memos_of c.loop-stmt.memos) (noted_of c.loop-stmt.noted) c.loop-stmt-test.false c.stmts-stmt-items.ensures c.loop-stmt.invariant

pub warm_body-warm_stmt-requires : goal.warm_body-warm_stmt-requires
warm_body-warm_stmt-requires t c =
    let items = c.stmts-stmt-items.result.now in
    let stmt = c.stmt-item.result in
    let inside = nesting-only-le items c.loop-stmt.stmt-index stmt c.loop-stmt-test.true in
    let own = subst (λ (s : Stmt). nesting (only s) ≤ nesting (code_of items)) (sym c.stmt-item.is) inside in
    let less = subst (λ (b : Code). nesting (only stmt) ≤ nesting b) c.stmts-stmt-items.ensures own in
    let whole = ap (places c.args.scope.now.least) c.stmts-stmt-items.ensures in
    let long = c.loop-stmt.auto.memos in
    let room = c.requires.places in
    let asked = asks_next (scope_of c.args.scope.now) c.args.scope.now.least (sides_of c.args.sides.now) items c.loop-stmt.stmt-index stmt (code_of items) c.args.n (length c.loop-stmt.memos) (state_of c.args.facts.now) (memos_of c.args.memos.now) (noted_of c.args.noted.now)
    c.loop-stmt.next (state_of c.loop-stmt.facts) (memos_of c.loop-stmt.memos) (noted_of c.loop-stmt.noted) c.loop-stmt-test.true c.stmt-item.is (omega (arith, whole, long, room)) c.loop-stmt.invariant in
    (search (rules, less), (asked.0, (c.requires.fields, (asked.1, asked.2))))

pub warm_if-warm_body-requires-2 : goal.warm_if-warm_body-requires-2
warm_if-warm_body-requires-2 t c =
    let long = c.warm_body.auto.memos in
    let room : c.args.n + (places c.args.scope.now.least c.args.body.now + places c.args.scope.now.least c.args.other.now + 0) ≤ length c.warm_body.new.memos = (let le = c.requires.places in omega (arith, le, long)) in (
      search rules,
      (
        c.requires.other,
        (
          c.requires.fields,
          (
            other_places (scope_of c.args.scope.now) c.args.scope.now.least _ c.args.n c.in_ok-middle.middle (places c.args.scope.now.least c.args.body.now) (places c.args.scope.now.least c.args.other.now) (length c.warm_body.new.memos) c.in_ok-middle.ensures room,
            other_ready (scope_of c.args.scope.now) c.args.scope.now.least (sides_of c.args.sides.now) c.args.on c.args.body.now c.args.other.now c.args.n c.in_ok-middle.middle (memos_of c.args.memos.now) (memos_of c.warm_body.new.memos)
                (state_of c.args.facts.now) (state_of c.warm_body.new.facts) (noted_of c.decided.new.self) (noted_of c.warm_body.new.noted) c.requires.ready c.in_ok-middle.ensures,
          ),
        ),
      ),
    )

pub warm_if-returns : goal.warm_if-returns
warm_if-returns t c =
    branch_warmed (scope_of c.args.scope.now) c.args.scope.now.least (sides_of c.args.sides.now) c.args.on c.args.body.now c.args.other.now c.args.n c.in_ok-middle.middle c.in_ok-next.next (memos_of c.args.memos.now) (memos_of c.warm_body.new.memos) (memos_of c.warm_body-2.new.memos)
    (state_of c.args.facts.now) (state_of c.warm_body.new.facts) (state_of c.warm_body-2.new.facts) (state_of c.join.new.self) (noted_of c.args.noted.now) (noted_of c.decided.new.self) (noted_of c.warm_body.new.noted) (noted_of c.warm_body-2.new.noted)
    (c.decided.ensures ∙ ap (λ (d : FieldSet). decided d (noted_of c.args.noted.now)) (ap (λ (v : Known). v.deps) c.value.ensures)) c.in_ok-middle.ensures c.in_ok-next.ensures c.join.ensures

pub warm_repeat-returns : goal.warm_repeat-returns
warm_repeat-returns t c =
    repeat_warmed (scope_of c.args.scope.now) c.args.scope.now.least (sides_of c.args.sides.now) c.args.count c.args.body.now c.args.n c.in_ok-first.first c.in_ok-next.next (state_of c.args.facts.now) (state_of c.settle.new.facts) (state_of c.warm_body.new.facts)
    (memos_of c.args.memos.now) (memos_of c.settle.new.memos) (memos_of c.warm_body.new.memos) (noted_of c.args.noted.now) (noted_of c.warm_body.new.noted) c.requires.well_formed c.in_ok-first.ensures.0 c.requires.ready
    c.in_ok-first.ensures.1 c.in_ok-next.ensures

pub warm_each-settle-requires : goal.warm_each-settle-requires
warm_each-settle-requires t c =
    let inside = c.inside-inside.ensures ∙ ap (λ (s : Side). sides_of c.args.sides.now ++ s ∷ []) c.side_of.ensures in
    let room : c.args.n + place (is_large c.args.scope.now.least c.args.body.now) + places c.args.scope.now.least c.args.body.now ≤ length c.args.memos.now = (let le = c.requires.places in omega (arith, le)) in (
      search rules,
      (
        well_inside (scope_of c.args.scope.now) c.args.scope.now.least (sides_of c.args.sides.now) (sides_of c.inside-inside.result) c.side_of.result c.args.body.now c.inside-inside.ensures c.requires.well_formed,
        (
          c.requires.fields,
          (
            room,
            each_ready (scope_of c.args.scope.now) c.args.scope.now.least c.requires.ready.scope (sides_of c.args.sides.now) (sides_of c.inside-inside.result) c.args.name c.args.list c.args.body.now c.args.n (memos_of c.args.memos.now) (state_of c.args.facts.now)
                (state_of c.drop_name.new.self) inside c.drop_name.ensures c.requires.ready,
          ),
        ),
      ),
    )

pub warm_each-returns : goal.warm_each-returns
warm_each-returns t c =
    let inside = c.inside-inside.ensures ∙ ap (λ (s : Side). sides_of c.args.sides.now ++ s ∷ []) c.side_of.ensures in
    each_warmed (scope_of c.args.scope.now) c.args.scope.now.least (sides_of c.args.sides.now) (sides_of c.inside-inside.result) c.args.name c.args.list c.args.body.now c.args.n c.in_ok-first.first c.in_ok-next.next
    (state_of c.args.facts.now) (state_of c.drop_name.new.self) (state_of c.settle.new.facts) (state_of c.warm_body.new.facts) (memos_of c.args.memos.now) (memos_of c.settle.new.memos) (memos_of c.warm_body.new.memos)
    (noted_of c.args.noted.now) (noted_of c.warm_body.new.noted) inside
    (well_inside (scope_of c.args.scope.now) c.args.scope.now.least (sides_of c.args.sides.now) (sides_of c.inside-inside.result) c.side_of.result c.args.body.now c.inside-inside.ensures c.requires.well_formed)
    c.in_ok-first.ensures.0 c.drop_name.ensures c.requires.ready c.in_ok-first.ensures.1 c.in_ok-next.ensures

pub settle-returns-then-eq : goal.settle-returns-then-eq
settle-returns-then-eq t c = (
  at_first c.args.n c.first_inside-first.result c.is_large-large.result (is_large c.args.scope.now.least c.args.body.now) c.first_inside-first.ensures c.is_large-large.ensures,
  loop_done (scope_of c.args.scope.now) c.args.scope.now.least (sides_of c.args.inside.now) c.args.body.now c.args.name c.args.n (state_of c.args.facts.now) (memos_of c.args.memos.now) c.requires.well_formed
      (state_of c.loop.facts) (state_of c.warm_body.new.facts) (state_of c.drop_any.new.self) (state_of c.join.new.self) (memos_of c.loop.memos) (memos_of c.warm_body.new.memos) (memos_of c.keep.new.memos) c.first_inside-first.result c.in_ok-_next._next
      (noted_of c.nothing-scratch.result) (noted_of c.warm_body.new.noted)
      (at_first c.args.n c.first_inside-first.result c.is_large-large.result (is_large c.args.scope.now.least c.args.body.now) c.first_inside-first.ensures c.is_large-large.ensures)
      c.loop.invariant c.in_ok-_next.ensures c.drop_any.ensures c.join.ensures
      (ap state_of (one_state c.join.new.self c.loop.facts (sym c.eq.ensures ∙ c.if-eq.true))) c.is_large-large.result c.is_large-large.ensures c.keep.ensures,
)

pub settle-loop-preserved : goal.settle-loop-preserved
settle-loop-preserved t c =
    loop_next (scope_of c.args.scope.now) c.args.scope.now.least (sides_of c.args.inside.now) c.args.body.now c.args.name c.args.n (state_of c.args.facts.now) (memos_of c.args.memos.now) c.requires.well_formed
    (state_of c.loop.facts) (state_of c.warm_body.new.facts) (state_of c.drop_any.new.self) (state_of c.join.new.self) (memos_of c.loop.memos) (memos_of c.warm_body.new.memos) c.first_inside-first.result c.in_ok-_next._next
    (noted_of c.nothing-scratch.result) (noted_of c.warm_body.new.noted)
    (at_first c.args.n c.first_inside-first.result c.is_large-large.result (is_large c.args.scope.now.least c.args.body.now) c.first_inside-first.ensures c.is_large-large.ensures)
    c.loop.invariant c.in_ok-_next.ensures c.drop_any.ensures c.join.ensures
