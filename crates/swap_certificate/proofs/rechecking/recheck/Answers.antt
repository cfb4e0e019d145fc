use Rattle.std.proofs.Common.{Err, inl, inr, ap, sym, true≢false, ◌∙◌}
use Rattle.std.proofs.lemmas.Result.{IfOk-weaker}
use Rattle.pact_operators.specs.Programs.{IsPlanOf}
use Rattle.reorder_pair.specs.Legal.{KeepAnswers}
use Rattle.reorder_pair.specs.Reach.{Reach}
use Rattle.reorder_group.proofs.PlansInReach.{reached-IsPlanOf, reached-KeepAnswers}
use Rattle.swap_certificate.specs.declared.certificates.CertFault.TheVariants.{C6}
use Rattle.swap_certificate.proofs.OneResult.{checked-one}
use Rattle.swap_certificate.proofs.rechecking.recheck.Goals as goal

-- ---- another version

pub returns-then-not-is_version-clause-checked : goal.returns-then-not-is_version-clause-checked
returns-then-not-is_version-clause-checked c memory =
    inl ((λ same. true≢false (sym (c.is_version.ensures.1 same) ∙ c.if-not-is_version.true)), ap (λ found. Err (C6 c.args.c.now.version found)) c.version.ensures.version)

pub returns-then-not-is_version-clause-only : goal.returns-then-not-is_version-clause-only
returns-then-not-is_version-clause-only c other h = checked-one c.args.program.now c.requires.names c.args.c.now _ other (returns-then-not-is_version-clause-checked c) h

-- ---- the same version

pub returns-clause-checked : goal.returns-clause-checked
returns-clause-checked c memory = inr (c.is_version.ensures.0 c.if-not-is_version.false, c.followed.ensures.checked memory)

pub returns-clause-only : goal.returns-clause-only
returns-clause-only c other h = checked-one c.args.program.now c.requires.names c.args.c.now c.followed.result other (returns-clause-checked c) h

pub returns-clause-answers : goal.returns-clause-answers
returns-clause-answers c =
    let p = c.args.program.now in
    IfOk-weaker c.followed.result (Reach p) (KeepAnswers p p.plan) (λ t h. reached-KeepAnswers p c.fields-fields.ensures.keeps t h) c.followed.ensures.reached

pub returns-clause-plan : goal.returns-clause-plan
returns-clause-plan c =
    let p = c.args.program.now in
    IfOk-weaker c.followed.result (Reach p) (IsPlanOf p.functions p.ops) (λ t h. reached-IsPlanOf p c.fields-fields.ensures.keeps t h) c.followed.ensures.reached
