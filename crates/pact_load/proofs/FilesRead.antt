-- One file, from its opening to the call's answer.
use Rattle.std.proofs.Common.{◌≡◌, ◌<◌, ◌+◌, ℕ, List, length, replicate, Option, Some, None, IfSome, Result, Ok, Err, refl, ap, subst, sym, ◌∙◌, arith}
use Rattle.std.specs.Option.{option_and_then}
use Rattle.std.proofs.lemmas.List.{length-replicate}
use Rattle.pact_outside.specs.declared.files.NamedFile.{NamedFile}
use Rattle.pact_outside.specs.Outside.{AfterOpen, Feeding, Opens, file_named}
use Rattle.pact_load.specs.declared.files.Stop.{Stop}
use Rattle.pact_load.specs.declared.files.Stop.TheVariants.{Memory, Fault, Long}
use Rattle.pact_load.specs.declared.refusals.Refusal.{Refusal}
use Rattle.pact_load.specs.declared.refusals.Refusal.TheVariants.{OutOfMemory, Usage, CannotRead, CannotWrite, Decided}
use Rattle.pact_load.specs.Readings.{HasOpened, HasRead, Holds, IsLong, ReadingEnds, ReadsFile, only}
use Rattle.pact_load.specs.Answers.{Answers, Comes, Says}
use Rattle.pact_load.specs.RefusalLines.{long_line}
use Rattle.pact_load.specs.Pieces.{ReadsRest, RestEnds, behind}
use Rattle.pact_load.specs.Loading.{file}
use Rattle.pact_load.proofs.AnswersOfStages.{rose_later}

-- ---- opened and read

opened_only : (before mid now : Feeding) (name : List ℕ) (limit : ℕ) {T E : Type 0} (result : Result T E) → AfterOpen before mid name result → now.opened ≡ mid.opened → now.history ≡ mid.history → HasOpened before now (only name limit)
opened_only before mid now name limit result o named noted = record { last = named ∙ o.named; all = noted ∙ o.noted }

left_only : (files : Option (List NamedFile)) (name : List ℕ) (limit : ℕ) (left now : Option (List ℕ)) → Opens files name left → now ≡ behind limit left → now ≡ option_and_then (λ held. behind limit (file_named held name)) files
left_only None name limit left now o e = e ∙ ap (behind limit) o
left_only (Some held) name limit left now o e = e ∙ ap (behind limit) (o.2 ∙ sym o.1)

read_only : (before mid now : Feeding) (name : List ℕ) (limit : ℕ) {T E : Type 0} (done : T) → AfterOpen {T = T} {E = E} before mid name (Ok done) → now.opened ≡ mid.opened → now.history ≡ mid.history → now.left ≡ behind limit mid.left
    → HasRead before now (only name limit)
read_only before mid now name limit done o named noted left =
    record { opened = opened_only before mid now name limit _ o named noted; left = left_only before.files name limit mid.left now.left o.current left }

long_held : (files : Option (List NamedFile)) (name : List ℕ) (limit : ℕ) (left : Option (List ℕ)) → Opens files name left → IfSome left (λ all. limit < length all) → (bytes : List ℕ) × Holds files name bytes × (limit < length bytes)
long_held None name limit left o h =
    let long : length (replicate {A = ℕ} (limit + 1) 0) ≡ limit + 1 = length-replicate (limit + 1) 0 in
    (replicate (limit + 1) 0, tt, omega (arith, long))
long_held (Some held) name limit left o h = (o.0, o.1, subst (λ l. IfSome l (λ all. limit < length all)) o.2 h)

rest_held : (files : Option (List NamedFile)) (name : List ℕ) (left : Option (List ℕ)) (read : List ℕ) → Opens files name left → IfSome left (λ all. read ≡ all) → Holds files name read
rest_held None name left read o h = tt
rest_held (Some held) name left read o h = o.1 ∙ ap Some (sym (subst (λ l. IfSome l (λ all. read ≡ all)) o.2 h))

-- a file that is opened and then read to its end
pub file_read : (before mid now : Feeding) (name : List ℕ) (limit : ℕ) {T E : Type 0} (done : T) (result : Result (List ℕ) Stop) → AfterOpen {T = T} {E = E} before mid name (Ok done) → ReadsRest limit mid now result → ReadsFile name limit before now result
file_read before mid now name limit done result o r = record { files = r.on.files ∙ o.files; later = (let l = o.cause.later in let m = r.on.later in omega (arith, l, m)); ends = ends result r.ends }
  where
    ends : (x : Result (List ℕ) Stop) → RestEnds limit mid now x → ReadingEnds name limit before now x
    ends (Ok read) h = record { read = read_only before mid now name limit done o r.on.named r.on.noted h.left; held = rest_held before.files name mid.left read o.current h.bytes; short = h.short }
    ends (Err Memory) h = tt
    ends (Err Fault) h = record { opened = opened_only before mid now name limit _ o r.on.named r.on.noted; rose = rose_later before.faults mid.faults now.faults o.cause.later h.0; shut = h.1 }
    ends (Err Long) h =
        let held = long_held before.files name limit mid.left o.current h.long in
        record { read = read_only before mid now name limit done o r.on.named r.on.noted h.left; bytes = held.0; held = held.1; long = held.2 }

-- ---- answered

pub whole_comes : {before now : Feeding} (name : List ℕ) (limit : ℕ) (bytes : List ℕ) → ReadsFile name limit before now (Ok bytes) → Comes (λ f. file f name limit) before now (Ok bytes)
whole_comes name limit bytes r = record { files = r.files; later = r.later; told = record { readings = only name limit; read = r.ends.read; ends = (refl, (r.ends.held, r.ends.short)) } }

pub broken_comes : {before now : Feeding} (name told : List ℕ) (limit : ℕ) (stop : Stop) → stop ≡ Fault → told ≡ name → ReadsFile name limit before now (Err stop) → Comes (λ f. file f name limit) before now (Err (CannotRead told))
broken_comes {before} {now} name told limit stop is e r =
    let h = subst (λ (s : Stop). ReadingEnds name limit before now (Err s)) is r.ends in
    record {
      files = r.files;
      later = r.later;
      told = record { rose = h.rose; shut = h.shut; named = h.opened.last ∙ sym e; readings = only name limit; opened = h.opened; ends = (refl, e) };
    }

pub long_comes : {before now : Feeding} (name : List ℕ) (limit : ℕ) (stop : Stop) (r : Refusal) → stop ≡ Long → Says 8 (long_line name limit) r → ReadsFile name limit before now (Err stop) → Comes (λ f. file f name limit) before now (Err r)
long_comes {before} {now} name limit stop r is s read =
    record { files = read.files; later = read.later; told = told before now name limit r (subst (λ (x : Stop). ReadingEnds name limit before now (Err x)) is read.ends) s }
  where
    told : (before now : Feeding) (name : List ℕ) (limit : ℕ) (r : Refusal) → IsLong name limit before now → Says 8 (long_line name limit) r → Answers (file before.files name limit) before now (Err r)
    told before now name limit OutOfMemory h s = tt
    told before now name limit Usage h s = absurd s
    told before now name limit (CannotRead other) h s = absurd s
    told before now name limit CannotWrite h s = absurd s
    told before now name limit (Decided status line) h s = record { readings = only name limit; read = h.read; ends = (refl, (h.bytes, h.held, h.long, s.0, s.1)) }

pub comes_named : {before now : Feeding} {result : Result (List ℕ) Refusal} (name other : List ℕ) (limit : ℕ) → name ≡ other → Comes (λ f. file f name limit) before now result → Comes (λ f. file f other limit) before now result
comes_named {before} {now} {result} name other limit e h = subst (λ n. Comes (λ f. file f n limit) before now result) e h
