use Rattle.std.proofs.Common.{◌≡◌, ap, sym, ◌∙◌}
use Rattle.serde_json.specs.Data.{Data}
use Rattle.serde_json.specs.View.{members_view, view}
use Rattle.swap_certificate.specs.Shape.{found_with}
use Rattle.swap_certificate.proofs.ReadBack.{fourth_rest, if_none, next_rest, object-members}
use Rattle.swap_certificate.proofs.reading.found_parts.Goals as goal

pub returns-in_err-reads-clause-none : goal.returns-in_err-reads-clause-none
returns-in_err-reads-clause-none c =
    let refused : (anchor control hi lo reads touched writes : Data) → view c.args.value.now ≡ found_with anchor control hi lo reads touched writes → ⊥ = λ anchor control hi lo reads touched writes e.
    let all = ap members_view c.iter-members.ensures.rest ∙ object-members (view c.args.value.now) _ _ (sym c.in_ok-as_object.ensures) e in
    let behind_lo = fourth_rest c.in_ok-anchor.ensures.some c.in_ok-control.ensures.some c.in_ok-hi.ensures.some c.in_ok-lo.ensures.some all in
    c.in_err-reads.ensures.none reads _ behind_lo in
    if_none _ refused

pub returns-in_err-touched-clause-none : goal.returns-in_err-touched-clause-none
returns-in_err-touched-clause-none c =
    let refused : (anchor control hi lo reads touched writes : Data) → view c.args.value.now ≡ found_with anchor control hi lo reads touched writes → ⊥ = λ anchor control hi lo reads touched writes e.
    let all = ap members_view c.iter-members.ensures.rest ∙ object-members (view c.args.value.now) _ _ (sym c.in_ok-as_object.ensures) e in
    let behind_lo = fourth_rest c.in_ok-anchor.ensures.some c.in_ok-control.ensures.some c.in_ok-hi.ensures.some c.in_ok-lo.ensures.some all in
    let behind_reads = next_rest _ _ _ _ _ _ c.in_ok-reads.ensures.some behind_lo in
    c.in_err-touched.ensures.none touched _ behind_reads in
    if_none _ refused

pub returns-in_err-writes-clause-none : goal.returns-in_err-writes-clause-none
returns-in_err-writes-clause-none c =
    let refused : (anchor control hi lo reads touched writes : Data) → view c.args.value.now ≡ found_with anchor control hi lo reads touched writes → ⊥ = λ anchor control hi lo reads touched writes e.
    let all = ap members_view c.iter-members.ensures.rest ∙ object-members (view c.args.value.now) _ _ (sym c.in_ok-as_object.ensures) e in
    let behind_lo = fourth_rest c.in_ok-anchor.ensures.some c.in_ok-control.ensures.some c.in_ok-hi.ensures.some c.in_ok-lo.ensures.some all in
    let behind_reads = next_rest _ _ _ _ _ _ c.in_ok-reads.ensures.some behind_lo in
    let behind_touched = next_rest _ _ _ _ _ _ c.in_ok-touched.ensures.some behind_reads in
    c.in_err-writes.ensures.none writes _ behind_touched in
    if_none _ refused
