-- The lines that say why a certificate is refused.
use Rattle.std.specs.Prelude.{◌++◌, ◌-◌, ℕ, List, [], Option, Some, None, codes, decimal, slice_get}
use Rattle.reorder_pair.specs.declared.finding.Found.{Found}
use Rattle.reorder_pair.specs.declared.legality.Clash.{Clash}
use Rattle.reorder_pair.specs.declared.legality.Clash.TheVariants.{ReadWrite, WriteRead, WriteWrite}
use Rattle.reorder_pair.specs.declared.legality.NotLegal.{NotLegal}
use Rattle.reorder_pair.specs.declared.legality.NotLegal.TheVariants.{NoPlace, Conflict, Side, NotAnchored, KeyGroup, MatchKey, NotUnique}
use Rattle.plan_printer.specs.FoundText.{found_text}
use Rattle.swap_certificate.specs.declared.certificates.CertFault.{CertFault}
use Rattle.swap_certificate.specs.declared.certificates.CertFault.TheVariants.{C1, C2, C3, C4, C5, C6, Memory}
use Rattle.swap_certificate.specs.declared.certificates.Certificate.{Certificate}
use Rattle.swap_certificate.specs.declared.certificates.Step.{Step}

abbrev pub clash_word : Clash → List ℕ
clash_word ReadWrite = codes "read-write"
clash_word WriteRead = codes "write-read"
clash_word WriteWrite = codes "write-write"

-- Why an exchange isn't legal. `NoPlace` never appears in a text: a rule without a place has the fault C1 instead.
abbrev pub why_text : NotLegal → List ℕ
why_text NoPlace = codes "no-place"
why_text (Conflict kind field) = codes "conflict " ++ (clash_word kind ++ (codes " " ++ decimal field))
why_text (Side field) = codes "side " ++ decimal field
why_text NotAnchored = codes "not-anchored"
why_text KeyGroup = codes "key-group"
why_text (MatchKey field) = codes "match-key " ++ decimal field
why_text NotUnique = codes "not-unique"

-- a line with one stated or found value
abbrev pub told_line : List ℕ → List ℕ → List ℕ
told_line what text = what ++ (text ++ codes "\n")

abbrev pub both_lines : List ℕ → Found → Found → List ℕ
both_lines who upper lower = told_line (who ++ codes " upper ") (found_text upper) ++ told_line (who ++ codes " lower ") (found_text lower)

-- the sets that a step states
abbrev pub stated_lines : Option Step → List ℕ
stated_lines None = []
stated_lines (Some s) = both_lines (codes "stated") s.upper s.lower

-- a line that names a step and its fault
abbrev pub step_line : ℕ → List ℕ → List ℕ
step_line n what = codes "step " ++ (decimal n ++ (codes ": " ++ (what ++ codes "\n")))

abbrev pub fault_lines : Certificate → CertFault → List ℕ
fault_lines c (C1 n) = step_line n (codes "C1")
fault_lines c (C2 n) = step_line n (codes "C2")
fault_lines c (C3 n upper lower) = step_line n (codes "C3") ++ (stated_lines (slice_get c.steps (n - 1)) ++ both_lines (codes "found") upper lower)
fault_lines c (C4 n why) = step_line n (codes "C4 " ++ why_text why)
fault_lines c (C5 found) = codes "C5\n" ++ (told_line (codes "stated ") c.plan ++ told_line (codes "found ") found)
fault_lines c (C6 stated found) = codes "C6\n" ++ (told_line (codes "stated ") (decimal stated) ++ told_line (codes "found ") (decimal found))
fault_lines c Memory = []

abbrev pub refused_text : List ℕ → List ℕ
refused_text why = codes "certificate refused: " ++ why

abbrev pub fault_text : Certificate → CertFault → List ℕ
fault_text c fault = refused_text (fault_lines c fault)

abbrev pub not_certificate_text : List ℕ
not_certificate_text = refused_text (codes "not a certificate\n")
