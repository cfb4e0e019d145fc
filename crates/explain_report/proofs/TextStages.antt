-- What is read after a program's text, and what an explanation says of it.
use Rattle.std.proofs.Common.{◌≡◌, ◌≢◌, inl, inr, ℕ, List, [], Option, Some, None, Result, Ok, Err, refl, ap, subst, ◌∙◌, ◌++◌}
use Rattle.pact_operators.specs.Allowed.{Bag}
use Rattle.pact_operators.specs.Programs.{ProgramData}
use Rattle.pact_outside.specs.declared.files.NamedFile.{NamedFile}
use Rattle.pact_outside.specs.Outside.{Feeding}
use Rattle.plan_trees.specs.Plans.{PlanTree}
use Rattle.pact_load.specs.Answers.{Comes, Decides, Says, refusal_line, status_of}
use Rattle.pact_load.specs.Loading.{draft, file, program_file, program_limit, program_of, source_named, sources}
use Rattle.pact_load.specs.RefusalLines.{text_line}
use Rattle.pact_load.specs.Stages.{CanEnd, Stage, and_then, give, gives, stops}
use Rattle.pact_load.specs.declared.loaded.Loaded.{Loaded}
use Rattle.pact_load.specs.declared.refusals.Refusal.{Refusal}
use Rattle.pact_load.specs.declared.refusals.Refusal.TheVariants.{OutOfMemory, Usage, CannotRead, CannotWrite, Decided}
use Rattle.pact_load.proofs.AnswersOfStages.{comes_alone, comes_decided, comes_err, comes_in}
use Rattle.pact_load.proofs.StageLaws.{ends_at_first}
use Rattle.text_marks.specs.Marks.{HasFirst}
use Rattle.text_marks.specs.declared.trials.Fault.{Fault}
use Rattle.explain_report.specs.Certificates.{followed}
use Rattle.explain_report.specs.Explaining.{CanStop, ExplainsFile, ExplainsText, ForetellsFile, ForetellsText, IsFaultExplained, Reads, Tells, certificate_in, its_sources, no_more, with_source_named}
use Rattle.explain_report.specs.TextStages.{checked_of, loaded_of, repeated_of, with_certificate, with_rows, with_source}
use Rattle.explain_report.specs.declared.explanations.Explanation.{Explanation}
use Rattle.explain_report.proofs.Foretold.{comes_to_stop, foretold_after, foretold_grouped, stop_at_first}

-- ---- the calls that read

module _ {before : Feeding} (name text : List ℕ) where
  -- the text is no program's
  pub no_program : {A : Type 0} (k : Option (List NamedFile) → ProgramData → Stage A) (r : Refusal) → Decides (program_of name text) (Err r) → Comes (λ f. and_then (program_of name text) (k f)) before before (Err r)
  no_program k r d = comes_err {s = λ f. program_of name text} k r (comes_alone (program_of name text) before (Err r) d)

  module _ (p : ProgramData) (d : Decides (program_of name text) (Ok p)) {now : Feeding} where
    -- the program was read, and then this stage was done
    pub read_on : {A : Type 0} (k : Option (List NamedFile) → ProgramData → Stage A) (r : Result A Refusal) → Comes (λ f. k f p) before now r → Comes (λ f. and_then (program_of name text) (k f)) before now r
    read_on k r h = comes_in (program_of name text) k p r d h

pub no_source : {before : Feeding} (p : ProgramData) (source : List ℕ) (r : Refusal) → Decides (source_named p source) (Err r) → Comes (λ f. with_source f source p) before before (Err r)
no_source {before} p source r d = comes_err {s = λ f. source_named p source} (λ f at. with_rows f p) r (comes_alone (source_named p source) before (Err r) d)

module _ {before now : Feeding} (p : ProgramData) where
  pub no_rows : (r : Refusal) → Comes (sources p) before now (Err r) → Comes (λ f. with_rows f p) before now (Err r)
  no_rows r h = comes_err {s = sources p} (λ f inputs. give (λ all. all ≡ record { program = p; inputs = inputs })) r h

  pub all_rows : (inputs : List Bag) → Comes (sources p) before now (Ok inputs) → Comes (λ f. with_rows f p) before now (Ok (record { program = p; inputs = inputs }))
  all_rows inputs h = comes_decided {s = sources p} (λ read. give (λ x. x ≡ record { program = p; inputs = read })) inputs (Ok (record { program = p; inputs = inputs })) h (refl, refl)

  pub after_source : (source : List ℕ) (at : ℕ) (r : Result Loaded Refusal) → Decides (source_named p source) (Ok at) → Comes (λ f. with_rows f p) before now r → Comes (λ f. with_source f source p) before now r
  after_source source at r d h = comes_in (source_named p source) (λ f n. with_rows f p) at r d h

  pub no_certificate : (other : List ℕ) (r : Refusal) → Comes (λ f. file f other program_limit) before now (Err r) → Comes (λ f. with_certificate f other p) before now (Err r)
  no_certificate other r h = comes_err {s = λ f. file f other program_limit} (λ f. followed p) r h

  pub after_certificate : (other text : List ℕ) (r : Result PlanTree Refusal) → Comes (λ f. file f other program_limit) before now (Ok text) → Decides (followed p text) r → Comes (λ f. with_certificate f other p) before now r
  after_certificate other text r h d = comes_decided {s = λ f. file f other program_limit} (followed p) text r h d

-- ---- explanations of a text

-- a refusal with this line, and what is said after it
pub fault_told : (line more : List ℕ) (r : Refusal) (e : Explanation) → r ≢ OutOfMemory → Says 5 line r → e.status ≡ status_of r → e.text ≡ refusal_line r ++ more → (e.status ≡ 5) × (e.text ≡ line ++ more)
fault_told line more OutOfMemory e other said status text = absurd (other refl)
fault_told line more Usage e other said status text = absurd said
fault_told line more (CannotRead name) e other said status text = absurd said
fault_told line more CannotWrite e other said status text = absurd said
fault_told line more (Decided s l) e other said status text = (status ∙ said.0, text ∙ ap (λ (x : List ℕ). x ++ more) said.1)

-- a page that was empty, to which these bytes were appended
pub whole_page : (old new below shown : List ℕ) → old ≡ [] → new ≡ old ++ below → shown ≡ new → shown ≡ below
whole_page old new below shown empty put same = same ∙ (put ∙ ap (λ (t : List ℕ). t ++ below) empty)

module _ (files : Option (List NamedFile)) (name text : List ℕ) (e : Explanation) where
  -- a text with a fault ends every command
  faulty_ends : (fault : Fault) → HasFirst text (Some fault) → (program_of name text).Ends [] (stops 5 (text_line name fault.line fault.what))
  faulty_ends fault h =
      let line = text_line name fault.line fault.what in
      ends_at_first (draft name text) _ (stops 5 line) (stops 5 line) [] refl (refl, (fault.line, fault.what, h, refl, refl))

  faulty_stops : (fault : Fault) → HasFirst text (Some fault) → CanStop (program_of name text) (Decided 5 (text_line name fault.line fault.what))
  faulty_stops fault h = record { readings = []; ends = faulty_ends fault h }

  stopped : (r : Refusal) → CanStop (program_of name text) r → Tells r e → (reads : Reads) → ForetellsText files name text reads e
  stopped r h t no_more = inr (r, h, t)
  stopped r h t its_sources = inr (r, stop_at_first (program_of name text) (with_rows files) r h, t)
  stopped r h t (with_source_named source) = inr (r, stop_at_first (program_of name text) (with_source files source) r h, t)
  stopped r h t (certificate_in other) = inr (r, stop_at_first (program_of name text) (with_certificate files other) r h, t)

  pub text_with_fault : (fault : Fault) (reads : Reads) → HasFirst text (Some fault) → IsFaultExplained name text fault e → ExplainsText files name text reads e
  text_with_fault fault reads h x = record {
    foretold = stopped (Decided 5 (text_line name fault.line fault.what)) (faulty_stops fault h) (x.status, x.below, x.begins) reads;
    first = Some fault;
    has_first = h;
    marked = x;
  }

  pub text_without_fault : (reads : Reads) → HasFirst text None → ForetellsText files name text reads e → e.spot ≡ None → ExplainsText files name text reads e
  text_without_fault reads h f none = record { foretold = f; first = None; has_first = h; marked = none }

-- ---- explanations of a file

module _ (files : Option (List NamedFile)) (name : List ℕ) (e : Explanation) where
  abbrev whole : Stage (List ℕ)
  whole = file files name program_limit

  from_text : (text : List ℕ) (reads : Reads) → CanEnd whole (gives text) → ForetellsText files name text reads e → ForetellsFile files name reads e
  from_text text no_more h f = foretold_after whole (program_of name) text e h f
  from_text text its_sources h f = foretold_grouped whole (program_of name) (with_rows files) e (foretold_after whole (loaded_of files name) text e h f)
  from_text text (with_source_named source) h f = foretold_grouped whole (program_of name) (with_source files source) e (foretold_after whole (repeated_of files name source) text e h f)
  from_text text (certificate_in other) h f = foretold_grouped whole (program_of name) (with_certificate files other) e (foretold_after whole (checked_of files name other) text e h f)

  unread : (r : Refusal) (reads : Reads) → CanStop (program_file files name) r → Tells r e → ForetellsFile files name reads e
  unread r no_more h t = inr (r, h, t)
  unread r its_sources h t = inr (r, stop_at_first (program_file files name) (with_rows files) r h, t)
  unread r (with_source_named source) h t = inr (r, stop_at_first (program_file files name) (with_source files source) r h, t)
  unread r (certificate_in other) h t = inr (r, stop_at_first (program_file files name) (with_certificate files other) r h, t)

pub file_read : {before now : Feeding} (name text : List ℕ) (reads : Reads) (e : Explanation) → Comes (λ f. file f name program_limit) before now (Ok text) → ExplainsText now.files name text reads e → ExplainsFile before.files name reads e
file_read {before} {now} name text reads e h x =
    let same = subst (λ f. ExplainsText f name text reads e) h.files x in
    record {
      foretold = from_text before.files name e text reads (record { readings = h.told.readings; ends = h.told.ends }) same.foretold;
      marked = inl (text, same.first, h.told.ends.1.0, same.has_first, same.marked);
    }

pub file_unread : {before now : Feeding} (name : List ℕ) (r : Refusal) (reads : Reads) (e : Explanation) → Comes (λ f. file f name program_limit) before now (Err r) → Tells r e → r ≢ OutOfMemory → e.spot ≡ None → ExplainsFile before.files name reads e
file_unread {before} {now} name r reads e h t other none =
    let stop = comes_to_stop (λ f. file f name program_limit) r other h in
    record {
      foretold = unread before.files name e r reads (stop_at_first (file before.files name program_limit) (program_of name) r stop) t;
      marked = inr (none, r, stop, t);
    }
