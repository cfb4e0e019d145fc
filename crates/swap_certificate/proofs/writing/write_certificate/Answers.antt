use Rattle.std.proofs.Common.{◌≡◌, ◌≤◌, false, Some, sym, ap, subst, ◌∙◌, IsUtf8}
use Rattle.serde_json.specs.Data.{Data, depth}
use Rattle.serde_json.specs.Read.{max_depth, read}
use Rattle.serde_json.specs.Written.{compact_text, has_float}
use Rattle.swap_certificate.proofs.CertificateValues.{certificate-plain, certificate-depth}
use Rattle.swap_certificate.proofs.OneShape.{stated-is_text, text_one}
use Rattle.swap_certificate.proofs.writing.write_certificate.Goals as goal

pub returns-clause-text : goal.returns-clause-text
returns-clause-text c =
    let plain = subst (λ (d : Data). has_float d ≡ false) (sym c.in_ok-value.ensures) (certificate-plain c.args.c.now) in
    c.from_vec.ensures ∙ c.in_ok-to_vec.ensures.text plain ∙ ap compact_text c.in_ok-value.ensures

pub returns-clause-read_back : goal.returns-clause-read_back
returns-clause-read_back c =
    let few = subst (λ (d : Data). depth d ≤ max_depth) (sym c.in_ok-value.ensures) (certificate-depth c.args.c.now) in
    let back = ap read c.from_vec.ensures ∙ c.in_ok-to_vec.ensures.reads_back few ∙ ap Some c.in_ok-value.ensures in
    stated-is_text _ c.args.c.now (subst IsUtf8 (sym c.from_vec.ensures) c.in_ok-to_vec.ensures.utf8) back c.requires.stated

pub returns-clause-only : goal.returns-clause-only
returns-clause-only c other h =
    let few = subst (λ (d : Data). depth d ≤ max_depth) (sym c.in_ok-value.ensures) (certificate-depth c.args.c.now) in
    let back = ap read c.from_vec.ensures ∙ c.in_ok-to_vec.ensures.reads_back few ∙ ap Some c.in_ok-value.ensures in
    text_one _ c.args.c.now other (stated-is_text _ c.args.c.now (subst IsUtf8 (sym c.from_vec.ensures) c.in_ok-to_vec.ensures.utf8) back c.requires.stated) h
