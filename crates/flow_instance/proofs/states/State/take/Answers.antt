use Rattle.std.proofs.Common.{ℕ, ◌≡◌, inl, inr, sym, subst, arith}
use Rattle.std.proofs.lemmas.Result.{on_ok_weaker}
use Rattle.std.proofs.Math.Path.{transport}
use Rattle.flow_instance.specs.States.{IsReady}
use Rattle.flow_instance.specs.StateSteps.{Takes}
use Rattle.flow_instance.proofs.states.State.take.Goals as goal

pub returns-then-port-eq0 : goal.returns-then-port-eq0
returns-then-port-eq0 g c = on_ok_weaker c.take_left.result (λ h.
    transport (λ i. Takes g.L.Local.rows g.L.Local.key_fields g.L.Local.is_sealed c.args.self.now (sym c.if-port-eq0.true i) c.args.from (sym c.in-Batch.is i) c.take_left.new.self) (h c.args.from)) c.take_left.ensures

pub returns-else-port-eq0 : goal.returns-else-port-eq0
returns-else-port-eq0 g c =
    let second : c.args.port ≡ 1 = elim c.requires.ready.which as (λ _. c.args.port ≡ 1) [ inl zero ↦ absurd (omega (arith, zero, c.if-port-eq0.false)) | inr one ↦ one.0 ] in
    on_ok_weaker c.take_right.result (λ h.
    transport (λ i. Takes g.L.Local.rows g.L.Local.key_fields g.L.Local.is_sealed c.args.self.now (sym second i) c.args.from (sym c.in-Batch.is i) c.take_right.new.self) (h c.args.from)) c.take_right.ensures

pub take_left-requires-clause-ready : goal.take_left-requires-clause-ready
take_left-requires-clause-ready g c = λ lifetimes bound. subst (λ (p : ℕ). IsReady g.L.Local.rows g.L.Local.key_fields g.L.Local.is_sealed c.args.self.now p) c.if-port-eq0.true c.requires.ready

pub take_right-requires-clause-ready : goal.take_right-requires-clause-ready
take_right-requires-clause-ready g c = λ lifetimes bound.
    let second : c.args.port ≡ 1 = elim c.requires.ready.which as (λ _. c.args.port ≡ 1) [ inl zero ↦ absurd (omega (arith, zero, c.if-port-eq0.false)) | inr one ↦ one.0 ] in
    subst (λ (p : ℕ). IsReady g.L.Local.rows g.L.Local.key_fields g.L.Local.is_sealed c.args.self.now p) second c.requires.ready
