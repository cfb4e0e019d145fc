use Rattle.std.proofs.Common.{List, ℕ, sym, subst}
use Rattle.swap_certificate.specs.Shape.{IsCertificateText}
use Rattle.swap_certificate.proofs.LineEnds.{line_is_text}
use Rattle.swap_certificate.proofs.OneShape.{text_one}
use Rattle.swap_certificate.proofs.writing.certificate_line.Goals as goal

pub returns-clause-read_back : goal.returns-clause-read_back
returns-clause-read_back c =
    let is_text = line_is_text c.in_ok-text.text c.args.c.now c.in_ok-text.ensures.read_back in
    subst (λ (text : List ℕ). IsCertificateText text c.args.c.now) (sym c.in_ok-extend_from_slice.ensures.ok) is_text

pub returns-clause-only : goal.returns-clause-only
returns-clause-only c other h =
    let is_text = line_is_text c.in_ok-text.text c.args.c.now c.in_ok-text.ensures.read_back in
    text_one _ c.args.c.now other (subst (λ (text : List ℕ). IsCertificateText text c.args.c.now) (sym c.in_ok-extend_from_slice.ensures.ok) is_text) h
