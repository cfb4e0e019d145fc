use Rattle.std.proofs.Common.{rules, arith, ◌<◌, ◌+◌, ◌*◌, ◌⊎◌, ◌↔◌, IsTrue, drop, inl, inr, refl, ap, subst, sym}
use Rattle.pact_record.specs.FieldSets.{has_field}
use Rattle.tac_syntax.specs.declared.statements.Stmt.{Stmt}
use Rattle.tac_syntax.specs.Bounded.{Names, NamesBelow}
use Rattle.tac_syntax.specs.Code.{Code}
use Rattle.tac_syntax.specs.Coding.{tall}
use Rattle.tac_syntax.specs.Trees.{code_of, only, statement_of}
use Rattle.tac_syntax.proofs.Bodies.{tall-only-le, code_of-drop}
use Rattle.tac_syntax.proofs.Naming.{Names-onto, found_more}
use Rattle.tac_syntax.proofs.named_fields.+named.Goals as goal

pub named_by-with-requires : goal.named_by-with-requires
named_by-with-requires t c =
    let below = subst (λ (s : Stmt). NamesBelow c.args.fields (only s)) c.in-Set.is c.requires.below in
    omega (arith, below c.in-Set.field (inl refl), c.requires.fields)

pub named_by-named_in-requires : goal.named_by-named_in-requires
named_by-named_in-requires t c =
    let below = subst (λ (s : Stmt). NamesBelow c.args.fields (only s)) c.in-If.is c.requires.below in
    let inside : NamesBelow c.args.fields c.in-If.body = λ k named. below k (inl named) in
    search (rules, inside, c.requires.fields)

pub named_by-named_in-requires-in-If : goal.named_by-named_in-requires-in-If
named_by-named_in-requires-in-If t c =
    let below = subst (λ (s : Stmt). NamesBelow c.args.fields (only s)) c.in-If.is c.requires.below in
    let inside : NamesBelow c.args.fields c.in-If.other = λ k named. below k (inr (inl named)) in
    search (rules, inside, c.requires.fields)

pub named_by-named_in-requires-in-Repeat : goal.named_by-named_in-requires-in-Repeat
named_by-named_in-requires-in-Repeat t c =
    let inside : NamesBelow c.args.fields c.in-Repeat.body = λ k named. elim c.in-Repeat.is [
      | inl turns ↦ subst (λ (s : Stmt). NamesBelow c.args.fields (only s)) turns.1 c.requires.below k (inl named)
      | inr over ↦ subst (λ (s : Stmt). NamesBelow c.args.fields (only s)) over.2 c.requires.below k (inl named)
    ] in
    search (rules, inside, c.requires.fields)

pub named_in-named_by-requires : goal.named_in-named_by-requires
named_in-named_by-requires t c =
    let stmts = c.stmts-stmt-items.result.now in
    let stmt = c.stmt-item.result in
    let at = c.loop-stmt.stmt-index in
    let found = ap (λ (s : Stmt). tall (only s)) c.stmt-item.is in
    let whole = ap tall c.stmts-stmt-items.ensures in
    let smaller : 2 * tall (only stmt) < 2 * tall c.args.body.now + 1 =
    omega (arith, found, whole, tall-only-le stmts at stmt c.loop-stmt-test.true) in
    let rest = code_of-drop stmts at stmt c.loop-stmt-test.true c.stmt-item.is in
    let below : NamesBelow c.args.fields (only stmt) = λ k named.
    let here = subst (Names c.args.fields k) (sym rest) ((Names-onto c.args.fields k (statement_of stmt) (code_of (drop (at + 1) stmts))).1 (inl named)) in
    c.requires.below k (subst (Names c.args.fields k) c.stmts-stmt-items.ensures ((c.loop-stmt.invariant k).0 (inr here))) in
    search (rules, smaller, below, c.requires.fields)

pub named_in-loop-stmt-preserved : goal.named_in-loop-stmt-preserved
named_in-loop-stmt-preserved t c k =
    let stmts = c.stmts-stmt-items.result.now in
    let stmt = c.stmt-item.result in
    let at = c.loop-stmt.stmt-index in
    let rest = code_of-drop stmts at stmt c.loop-stmt-test.true c.stmt-item.is in
    let old = c.loop-stmt.found in
    let before = subst (λ (b : Code). (IsTrue (has_field old k) ⊎ Names c.args.fields k b) ↔ Names c.args.fields k (code_of stmts)) rest (c.loop-stmt.invariant k) in
    found_more c.args.fields old c.named_by.result c.union-found.result k (statement_of stmt) (code_of (drop (at + 1) stmts)) (code_of stmts) before (c.named_by.ensures k) (c.union-found.ensures k)
