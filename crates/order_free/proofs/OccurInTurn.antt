-- The registers that occur otherwise in a body, statement by statement.
use Rattle.std.proofs.Common.{◌≡◌, Bool, false, ◌||◌, refl, sym, ap, ◌∙◌}
use Rattle.std.proofs.Math.Bool.{or_assoc, or-false}
use Rattle.tac_syntax.specs.Code.{Code, stop}
use Rattle.tac_syntax.specs.Trees.{Statement, one_line, choice, turning, going_through, onto}
use Rattle.order_free.specs.declared.accumulators.Accumulation.{Accumulation}
use Rattle.order_free.specs.Registers.{Register, is_value}
use Rattle.order_free.specs.Accumulators.{is_used_otherwise, occurs_otherwise}

ends : (x y : Bool) → (x || y) ≡ ((x || false) || y)
ends x y = ap (λ (z : Bool). z || y) (sym (or-false x))

onto-otherwise : (by : Accumulation) (r : Register) (s : Statement) (next : Code) → occurs_otherwise by r (onto s next) ≡ (occurs_otherwise by r (onto s stop) || occurs_otherwise by r next)
onto-otherwise by r (one_line a) next = ends (is_used_otherwise by r a) (occurs_otherwise by r next)
onto-otherwise by r (choice on body other) next =
    let o = is_value on r in
    let x = occurs_otherwise by r body in
    let y = occurs_otherwise by r other in
    let z = occurs_otherwise by r next in
    three o x y z
  where
    three : (o x y z : Bool) → (o || (x || (y || z))) ≡ ((o || (x || (y || false))) || z)
    three o x y z =
        ap (λ (t : Bool). o || t) (ap (λ (t : Bool). x || t) (ends y z) ∙ sym (or_assoc x (y || false) z)) ∙ sym (or_assoc o (x || (y || false)) z)
onto-otherwise by r (turning count body) next = ends (occurs_otherwise by r body) (occurs_otherwise by r next)
onto-otherwise by r (going_through name list body) next = ends (occurs_otherwise by r body) (occurs_otherwise by r next)

-- the result for the statements so far, with the next one, and the statements that follow
pub otherwise_next : (by : Accumulation) (r : Register) (s : Statement) (next : Code) (found one all whole : Bool) → all ≡ (found || one) → one ≡ occurs_otherwise by r (onto s stop)
    → (found || occurs_otherwise by r (onto s next)) ≡ whole → (all || occurs_otherwise by r next) ≡ whole
otherwise_next by r s next found one all whole both here before =
    let z = occurs_otherwise by r next in
    ap (λ (t : Bool). t || z) (both ∙ ap (λ (t : Bool). found || t) here) ∙ or_assoc found (occurs_otherwise by r (onto s stop)) z ∙ ap (λ (t : Bool). found || t) (sym (onto-otherwise by r s next)) ∙ before
