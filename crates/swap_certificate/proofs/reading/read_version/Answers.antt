use Rattle.std.proofs.Common.{◌≡◌, ℕ, sym, ◌∙◌}
use Rattle.serde_json.specs.View.{view}
use Rattle.tac_syntax.specs.Versions.{IsVersion}
use Rattle.swap_certificate.specs.Shape.{whole}
use Rattle.swap_certificate.proofs.ReadBack.{if_none, no_version, small_version, version_below}
use Rattle.swap_certificate.proofs.reading.read_version.Goals as goal

pub returns-in_err-version-clause-none : goal.returns-in_err-version-clause-none
returns-in_err-version-clause-none c =
    let refused : (version : ℕ) → IsVersion version → view c.args.value.now ≡ whole version → ⊥ = λ v is e. c.in_err-version.ensures.none v (small_version v is) e in
    if_none _ refused

pub returns-then-version-eq0-clause-none : goal.returns-then-version-eq0-clause-none
returns-then-version-eq0-clause-none c v is e = no_version v c.in_ok-version.version is c.if-version-eq0.true (sym c.in_ok-version.ensures.some.1 ∙ e)

pub returns-clause-some : goal.returns-clause-some
returns-clause-some c = (version_below c.in_ok-version.version c.in_ok-version.ensures.some.0 c.if-version-eq0.false, c.in_ok-version.ensures.some.1)
