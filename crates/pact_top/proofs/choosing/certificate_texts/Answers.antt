use Rattle.std.proofs.Common.{List, ap, refl, subst, sym, ◌∙◌}
use Rattle.reorder_pair.specs.declared.legality.Condition.{Condition}
use Rattle.reorder_pair.specs.ToldExchanges.{Lead}
use Rattle.swap_certificate.specs.Checks.{certificate_of}
use Rattle.pact_top.proofs.ChosenTexts.{certificate-line}
use Rattle.pact_top.proofs.choosing.certificate_texts.Goals as goal

pub certificate_line-requires : goal.certificate_line-requires
certificate_line-requires c =
    let p = c.args.loaded.now.program in
    let derived = c.in_ok-steps.ensures c.args.loaded.now c.args.workers c.args.plans c.in_ok-choice.ensures.choice in
    let leads = subst (λ (cs : List Condition). Lead p p.plan cs c.in_ok-choice.choice.best.plan) (sym c.conditions.ensures) derived.leads in
    record { stated = c.in_ok-certificate.ensures.can_be_written c.requires.names leads }

pub returns : goal.returns
returns c =
    let p = c.args.loaded.now.program in
    let plan = c.in_ok-choice.choice.best.plan in
    let derived = c.in_ok-steps.ensures c.args.loaded.now c.args.workers c.args.plans c.in_ok-choice.ensures.choice in
    let leads = subst (λ (cs : List Condition). Lead p p.plan cs plan) (sym c.conditions.ensures) derived.leads in
    let same = c.in_ok-certificate.ensures.certificate ∙ ap (λ (cs : List Condition). certificate_of p cs plan) c.conditions.ensures in
    rw c.out_alone.ensures (
      certificate-line c.args.loaded.now c.args.workers c.args.plans c.in_ok-choice.choice c.in_ok-steps.steps c.in_ok-certificate.certificate c.in_ok-out.out derived same c.in_ok-out.ensures.text
          c.in_ok-out.ensures.read_back (c.in_ok-certificate.ensures.accepted leads),
      refl,
    )
