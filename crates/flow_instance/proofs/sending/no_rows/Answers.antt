use Rattle.std.proofs.Common.{◌≡◌, ◌++◌, ◌∷◌, [], ℕ, replicate, subst, ◌∙◌, arith}
use Rattle.std.proofs.lemmas.List.{replicate-append-replicate}
use Rattle.pact_operators.specs.Allowed.{Bag}
use Rattle.flow_instance.proofs.sending.no_rows.Goals as goal

pub loop-preserved : goal.loop-preserved
loop-preserved c =
    let last : Bag = [] in (
      c.push_reserved.ensures.items ∙ (λ i. c.loop.invariant.0 i ++ c.in_ok-rows.ensures i ∷ []) ∙ replicate-append-replicate c.loop.counter 1 last,
      omega (arith, c.push_reserved.ensures.len, c.loop.invariant.1),
      omega (arith, c.push_reserved.ensures.capacity, c.loop.invariant.2),
    )

pub returns : goal.returns
returns c =
    let all : c.loop.counter ≡ c.args.workers = omega (arith, c.loop-test.false, c.loop.auto.counter-end) in
    subst (λ (n : ℕ). c.loop.held.items ≡ replicate n []) all c.loop.invariant.0
