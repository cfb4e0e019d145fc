use Rattle.explain_report.proofs.explaining.explain_known.Goals as goal

pub returns-in-Run : goal.returns-in-Run
returns-in-Run g c = rw c.in-Run.is (rw (← c.as_bytes.ensures.value) c.explain_file.ensures)

pub returns-in-Plan : goal.returns-in-Plan
returns-in-Plan g c = rw c.in-Plan.is (rw (← c.as_bytes-in-Plan.ensures.value) c.explain_file-in-Plan.ensures)

pub returns-in-Cert : goal.returns-in-Cert
returns-in-Cert g c = rw c.in-Cert.is (rw (← c.as_bytes-in-Cert.ensures.value) c.explain_file-in-Cert.ensures)

pub returns-in-Sets : goal.returns-in-Sets
returns-in-Sets g c = rw c.in-Sets.is (rw (← c.as_bytes-in-Sets.ensures.value) c.explain_file-in-Sets.ensures)

pub returns-in-Check : goal.returns-in-Check
returns-in-Check g c = rw c.in-Check.is (rw (← c.as_bytes-in-Check.ensures.value, ← c.as_bytes-in-Check-2.ensures.value) c.explain_file-in-Check.ensures)

pub returns-in-Iterate : goal.returns-in-Iterate
returns-in-Iterate g c = rw c.in-Iterate.is (rw (← c.as_bytes-in-Iterate.ensures.value, ← c.as_bytes-in-Iterate-2.ensures.value) c.explain_file-in-Iterate.ensures)
