-- What is written of a chosen plan, from what its parts promise.
use Rattle.std.proofs.Common.{◌≡◌, ◌++◌, ℕ, Bool, true, false, List, Option, Some, None, Ok, codes, subst}
use Rattle.std.proofs.lemmas.Option.{same_Some}
use Rattle.serde_json.specs.Written.{compact_text}
use Rattle.reorder_pair.specs.declared.legality.Condition.{Condition}
use Rattle.swap_certificate.specs.declared.certificates.Certificate.{Certificate}
use Rattle.swap_certificate.specs.Checks.{Checks, certificate_of}
use Rattle.swap_certificate.specs.Shape.{IsCertificateText, certificate_data}
use Rattle.pact_top.specs.CommandTexts.{AreCounts, IsCertificateLine, IsChoice, IsDerived}
use Rattle.pact_top.specs.PrivateCalls.{AreReportedCounts, IsLayoutOutcome}
use Rattle.pact_top.specs.declared.choosing.Choice.{Choice}
use Rattle.pact_load.specs.declared.loaded.Loaded.{Loaded}
use Rattle.pact_top.specs.declared.rewriting.RunOutcome.{RunOutcome}

module _ (l : Loaded) (workers plans : ℕ) (choice : Choice) where
  pub told-AreCounts : (prune combine : Bool) (r : RunOutcome) (is : IsLayoutOutcome l workers choice.best.plan choice.best.chosen.layout prune combine r) (asked : Bool) (told : Option (List ℕ))
      → IsChoice l workers plans choice → AreReportedCounts l.program choice.best.plan r.outcome.counts r.kept.items r.combined.items asked told → AreCounts l workers plans prune combine is.bag asked told
  told-AreCounts prune combine r is true (Some text) chosen h = record {
    choice = choice;
    is_choice = chosen;
    counts = r.outcome.counts;
    counted = is.counted;
    left = r.outcome.rows;
    rows = is.rows;
    whole = is.whole;
    kept = r.kept.items;
    combined = r.combined.items;
    run = is.run;
    spelled = same_Some text _ h;
  }
  told-AreCounts prune combine r is true None chosen h = absurd (cc)
  told-AreCounts prune combine r is false told chosen h = h

  pub certificate-line : (steps : List Condition) (c : Certificate) (out : List ℕ) → IsDerived l workers plans choice steps → c ≡ certificate_of l.program steps choice.best.plan
      → out ≡ compact_text (certificate_data c) ++ codes "\n" → IsCertificateText out c → Checks l.program c (Ok choice.best.plan) → IsCertificateLine l workers plans out
  certificate-line steps c out derived same text read checks = record {
    choice = choice;
    steps = steps;
    derived = derived;
    spelled = subst (λ (x : Certificate). out ≡ compact_text (certificate_data x) ++ codes "\n") same text;
    read_back = subst (IsCertificateText out) same read;
    accepted = subst (λ (x : Certificate). Checks l.program x (Ok choice.best.plan)) same checks;
  }
