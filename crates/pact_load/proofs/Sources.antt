-- The sources among the operators of a program.
use Rattle.std.proofs.Common.{◌≡◌, ◌<◌, ◌+◌, ℕ, zero, suc, Bool, true, false, cond, List, [], ◌∷◌, ◌++◌, Option, Result, Ok, Err, get_or, length, take, ap, sym, ◌∙◌, subst, arith, append-nil}
use Rattle.std.proofs.lemmas.Bool.{cond-true}
use Rattle.std.specs.List.{AllByRecursion}
use Rattle.csv_source.specs.CsvRows.{records_of}
use Rattle.csv_source.proofs.RowParts.{source_rows}
use Rattle.pact_bag.specs.SourceRows.{AreSourceRows}
use Rattle.pact_record.specs.declared.columns.Column.{Column}
use Rattle.pact_operators.specs.declared.operators.Op.{Op}
use Rattle.pact_operators.specs.Allowed.{Bag}
use Rattle.pact_operators.specs.Inputs.{HaveRows}
use Rattle.pact_operators.specs.PlanOps.{is_source_kind, sources_of}
use Rattle.pact_operators.specs.Programs.{ProgramData, fields_of, source_fields}
use Rattle.pact_operators.proofs.SourceRows.{sources_of-next}
use Rattle.pact_outside.specs.declared.files.NamedFile.{NamedFile}
use Rattle.pact_outside.specs.Outside.{Feeding}
use Rattle.pact_load.specs.declared.refusals.Refusal.{Refusal}
use Rattle.pact_load.specs.Answers.{Comes}
use Rattle.pact_load.specs.Stages.{Reading, Stage, each, gives}
use Rattle.pact_load.specs.Loading.{file, rows, source_file, source_limit, sources}
use Rattle.pact_load.proofs.AnswersOfStages.{comes_more, comes_stop}
use Rattle.pact_load.proofs.StageLaws.{gave_cons, gave_then}

-- ---- a source among others

one_more : (b : Bool) (op : Op) (front later rest : List Op) → rest ≡ front ++ later → cond b (op ∷ rest) rest ≡ cond b (op ∷ front) front ++ later
one_more true op front later rest e = ap (λ (l : List Op). op ∷ l) e
one_more false op front later rest e = e

-- the sources after a source
pub sources-split : (ops : List Op) (n : ℕ) (op : Op) → n < length ops → op ≡ get_or ops n op → is_source_kind op.kind ≡ true → (later : List Op) × (sources_of ops ≡ sources_of (take n ops) ++ op ∷ later)
sources-split [] n op h e k = absurd (omega arith)
sources-split (o ∷ ops) zero op h e k = (sources_of ops, cond-true (is_source_kind o.kind) (o ∷ sources_of ops) (sources_of ops) (ap (λ (x : Op). is_source_kind x.kind) (sym e) ∙ k) ∙ ap (λ (x : Op). x ∷ sources_of ops) (sym e))
sources-split (o ∷ ops) (suc n) op h e k =
    let rest = sources-split ops n op (omega arith) e k in
    (rest.0, one_more (is_source_kind o.kind) o (sources_of (take n ops)) (op ∷ rest.0) (sources_of ops) rest.1)

pub sources-taken : (ops : List Op) (n : ℕ) (op : Op) → n < length ops → op ≡ get_or ops n op → is_source_kind op.kind ≡ true → sources_of (take (n + 1) ops) ≡ sources_of (take n ops) ++ op ∷ []
sources-taken ops n op h e k =
    sources_of-next ops n op h e ∙ ap (λ (source : Bool). sources_of (take n ops) ++ cond source (op ∷ []) []) k

pub sources-passed : (ops : List Op) (n : ℕ) (op : Op) → n < length ops → op ≡ get_or ops n op → is_source_kind op.kind ≡ false → sources_of (take (n + 1) ops) ≡ sources_of (take n ops)
sources-passed ops n op h e k =
    sources_of-next ops n op h e ∙ ap (λ (source : Bool). sources_of (take n ops) ++ cond source (op ∷ []) []) k ∙ append-nil (sources_of (take n ops))

-- ---- columns and the fields of a sink

columns_in_list : (bound : ℕ) (columns : List Column) → AllByRecursion (λ k. k < bound) (fields_of columns) → AllByRecursion (λ c. c.field < bound) columns
columns_in_list bound [] h = tt
columns_in_list bound (c ∷ columns) h = (h.0, columns_in_list bound columns h.1)

parts_of : (bound : ℕ) (a b : List ℕ) → AllByRecursion (λ k. k < bound) (a ++ b) → AllByRecursion (λ k. k < bound) a × AllByRecursion (λ k. k < bound) b
parts_of bound [] b h = (tt, h)
parts_of bound (k ∷ a) b h = let r = parts_of bound a b h.1 in ((h.0, r.0), r.1)

pub columns_below : (bound : ℕ) (ops : List Op) (n : ℕ) (op : Op) → n < length ops → op ≡ get_or ops n op → AllByRecursion (λ k. k < bound) (source_fields ops) → AllByRecursion (λ c. c.field < bound) op.columns
columns_below bound [] n op l e h = absurd (omega arith)
columns_below bound (o ∷ ops) zero op l e h =
    subst (λ (x : Op). AllByRecursion (λ c. c.field < bound) x.columns) (sym e) (columns_in_list bound o.columns (parts_of bound (fields_of o.columns) (source_fields ops) h).0)
columns_below bound (o ∷ ops) (suc n) op l e h = columns_below bound ops n op (omega arith) e (parts_of bound (fields_of o.columns) (source_fields ops) h).1

-- ---- the rows of sources

pub are_inputs : (p : ProgramData) (files : Option (List NamedFile)) (inputs : List Bag) (r : List Reading) → (sources p files).Ends r (gives inputs) → HaveRows p.fields (sources_of p.ops) inputs
are_inputs p files inputs r h = have_rows p.fields files (sources_of p.ops) inputs r h
  where
    source_wide : (fields : ℕ) (files : Option (List NamedFile)) (s : Op) (given : Bag) (r : List Reading) → (source_file fields files s).Ends r (gives given) → AreSourceRows fields s.columns given
    source_wide fields files s given r h =
        let read = gave_then (file files s.file source_limit) (rows fields s) r given h in
        source_rows fields s.columns (records_of read.value) given read.next.1

    have_rows : (fields : ℕ) (files : Option (List NamedFile)) (ops : List Op) (inputs : List Bag) (r : List Reading) → (each (source_file fields files) ops).Ends r (gives inputs) → HaveRows fields ops inputs
    have_rows fields files [] inputs r h = rw h.1 tt
    have_rows fields files (s ∷ ops) inputs r h =
        let all = gave_cons (source_file fields files) s ops r inputs h in
        subst (HaveRows fields (s ∷ ops)) (sym all.together) (source_wide fields files s all.value all.front all.first, have_rows fields files ops all.values all.later all.others)

-- ---- one stage for each source, as a loop goes over all operators

pub sources_next : {B : Type 0} (k : Option (List NamedFile) → Op → Stage B) {before mid now : Feeding} (ops : List Op) (n : ℕ) (op : Op) (bs grown : List B) (b : B)
    → n < length ops → op ≡ get_or ops n op → is_source_kind op.kind ≡ true → grown ≡ bs ++ b ∷ [] → Comes (λ f. each (k f) (sources_of (take n ops))) before mid (Ok bs)
    → Comes (λ f. k f op) mid now (Ok b) → Comes (λ f. each (k f) (sources_of (take (n + 1) ops))) before now (Ok grown)
sources_next k {before} {mid} {now} ops n op bs grown b l e s g h c =
    subst (λ (x : List Op). Comes (λ f. each (k f) x) before now (Ok grown)) (sym (sources-taken ops n op l e s))
    (subst (λ (x : List _). Comes (λ f. each (k f) (sources_of (take n ops) ++ op ∷ [])) before now (Ok x)) (sym g) (comes_more k (sources_of (take n ops)) op bs b h c))

pub sources_kept : {B : Type 0} (k : Option (List NamedFile) → Op → Stage B) {before now : Feeding} (ops : List Op) (n : ℕ) (op : Op) (bs same : List B)
    → n < length ops → op ≡ get_or ops n op → is_source_kind op.kind ≡ false → same ≡ bs → Comes (λ f. each (k f) (sources_of (take n ops))) before now (Ok bs)
    → Comes (λ f. each (k f) (sources_of (take (n + 1) ops))) before now (Ok same)
sources_kept k {before} {now} ops n op bs same l e s g h =
    subst (λ (x : List Op). Comes (λ f. each (k f) x) before now (Ok same)) (sym (sources-passed ops n op l e s))
    (subst (λ (x : List _). Comes (λ f. each (k f) (sources_of (take n ops))) before now (Ok x)) (sym g) h)

pub sources_stop : {B : Type 0} (k : Option (List NamedFile) → Op → Stage B) {before mid now : Feeding} (ops : List Op) (n : ℕ) (op : Op) (bs : List B) (r : Refusal)
    → n < length ops → op ≡ get_or ops n op → is_source_kind op.kind ≡ true → Comes (λ f. each (k f) (sources_of (take n ops))) before mid (Ok bs) → Comes (λ f. k f op) mid now (Err r)
    → Comes (λ f. each (k f) (sources_of ops)) before now (Err r)
sources_stop k {before} {mid} {now} ops n op bs r l e s h c =
    let split = sources-split ops n op l e s in
    subst (λ (x : List Op). Comes (λ f. each (k f) x) before now (Err r)) (sym split.1) (comes_stop k (sources_of (take n ops)) op split.0 bs r h c)

pub sources_moved : (p : ProgramData) {before now : Feeding} {result : Result (List Bag) Refusal} (fields : ℕ) (ops : List Op) → fields ≡ p.fields → ops ≡ p.ops
    → Comes (λ f. each (source_file fields f) (sources_of ops)) before now result → Comes (sources p) before now result
sources_moved p {before} {now} {result} fields ops e s h =
    subst (λ (k : ℕ). Comes (λ f. each (source_file k f) (sources_of p.ops)) before now result) e
    (subst (λ (x : List Op). Comes (λ f. each (source_file fields f) (sources_of x)) before now result) s h)
