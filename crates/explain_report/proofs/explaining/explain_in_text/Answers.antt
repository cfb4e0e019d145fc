use Rattle.std.proofs.Common.{refl}
use Rattle.explain_report.proofs.explaining.explain_in_text.Goals as goal

pub returns : goal.returns
returns g c = (c.in_ok-explained.explained, c.in_ok-explained.ensures, refl, refl)
