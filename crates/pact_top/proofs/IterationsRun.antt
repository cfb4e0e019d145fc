-- The order of work of an iteration, and its texts.
use Rattle.std.proofs.Common.{◌≡◌, ◌≤◌, ◌<◌, ℕ, zero, suc, Bool, true, false, cond, List, [], ◌∷◌, length, take, get_or, Option, Some, Result, Ok, Err, IfOk, slice_get, refl, sym, ap, subst, ◌∙◌, arith}
use Rattle.std.proofs.lemmas.Option.{none-some, same_Some, slice_get-get_or, slice_get_within}
use Rattle.iterate_plan.specs.Rounds.{AllowsOne, IsIterated, IsSourceAt}
use Rattle.iterate_plan.proofs.OneIteration.{one_iteration}
use Rattle.iterate_plan.proofs.RoundLaws.{last_wide}
use Rattle.pact_operators.specs.declared.operators.Op.{Op}
use Rattle.pact_operators.specs.Allowed.{Bag}
use Rattle.pact_operators.specs.Inputs.{AreInputsOf}
use Rattle.pact_operators.specs.PlanOps.{is_source_kind, source_place, sources_of}
use Rattle.pact_operators.specs.Programs.{IsProgram, ProgramData}
use Rattle.pact_operators.proofs.NumbersInPlans.{few_numbers}
use Rattle.pact_outside.specs.declared.files.NamedFile.{NamedFile}
use Rattle.pact_outside.specs.Outside.{Feeding}
use Rattle.iterate_run.specs.declared.iterating.Iterated.{Iterated}
use Rattle.pact_record.specs.declared.columns.Column.{Column}
use Rattle.pact_record.specs.Widths.{AreWide}
use Rattle.plan_trees.specs.Plans.{node_limit}
use Rattle.pact_load.specs.declared.refusals.Refusal.{Refusal}
use Rattle.pact_top.specs.declared.repeating.IterationInput.{IterationInput}
use Rattle.pact_top.specs.declared.texts.Texts.{Texts}
use Rattle.pact_top.specs.Iterations.{HasSource, IsIterationOf, IsIterationText, columns_at, columns_in, told_rounds}
use Rattle.bag_lines.specs.Lines.{AreLines}
use Rattle.pact_top.specs.OrderFreePrograms.{AreGroupsFree}
use Rattle.pact_load.specs.Answers.{Comes, Decides}
use Rattle.pact_load.specs.Stages.{Reading, Stage, and_then, give, gives}
use Rattle.pact_load.specs.Loading.{program_file, source_named, sources}
use Rattle.pact_top.specs.Work.{repeated}
use Rattle.pact_load.proofs.AnswersOfStages.{comes_alone, comes_decided, comes_err, comes_then}
use Rattle.pact_top.proofs.OnlyBag.{one_text, only_bag}
use Rattle.pact_load.proofs.Sources.{are_inputs}
use Rattle.pact_load.proofs.StageLaws.{gave_then}

-- ---- what is read

-- the stages after the source's number is known, and those after the program was read
abbrev behind_source : ProgramData → ℕ → Option (List NamedFile) → Stage IterationInput
behind_source p at files = and_then (sources p files) (λ inputs. give (λ all. all ≡ record { loaded = record { program = p; inputs = inputs }; at = at }))

abbrev behind_program : List ℕ → Option (List NamedFile) → ProgramData → Stage IterationInput
behind_program source files p = and_then (source_named p source) (λ at. behind_source p at files)

pub repeat_program : {before now : Feeding} (name source : List ℕ) (r : Refusal) → Comes (λ f. program_file f name) before now (Err r) → Comes (λ f. repeated f name source) before now (Err r)
repeat_program name source r h = comes_err (behind_program source) r h

module _ {before mid : Feeding} (name source : List ℕ) (p : ProgramData) (h : Comes (λ f. program_file f name) before mid (Ok p)) where
  pub repeat_source : (r : Refusal) → Decides (source_named p source) (Err r) → Comes (λ f. repeated f name source) before mid (Err r)
  repeat_source r d = comes_then (behind_program source) p (Err r) h (comes_err (λ f at. behind_source p at f) r (comes_alone (source_named p source) mid (Err r) d))

  module _ {now : Feeding} (at : ℕ) (d : Decides (source_named p source) (Ok at)) where
    pub repeat_inputs : (r : Refusal) → Comes (sources p) mid now (Err r) → Comes (λ f. repeated f name source) before now (Err r)
    repeat_inputs r g =
        comes_then (behind_program source) p (Err r) h
        (comes_then (λ f n. behind_source p n f) at (Err r) (comes_alone (source_named p source) mid (Ok at) d)
        (comes_err {s = sources p} (λ f inputs. give (λ all. all ≡ record { loaded = record { program = p; inputs = inputs }; at = at })) r g))

    pub repeat_all : (inputs : List Bag) → Comes (sources p) mid now (Ok inputs) → Comes (λ f. repeated f name source) before now (Ok (record { loaded = record { program = p; inputs = inputs }; at = at }))
    repeat_all inputs g =
        let all : IterationInput = record { loaded = record { program = p; inputs = inputs }; at = at } in
        comes_then (behind_program source) p (Ok all) h
        (comes_then (λ f n. behind_source p n f) at (Ok all) (comes_alone (source_named p source) mid (Ok at) d)
        (comes_decided {s = sources p} (λ read. give (λ x. x ≡ record { loaded = record { program = p; inputs = read }; at = at })) inputs (Ok all) g (refl, refl)))

-- the rows read are those of the sources, and the number is a source's
pub record IsRepeated (r : IterationInput) : Type 0 where
  pub inputs : AreInputsOf r.loaded.program r.loaded.inputs
  pub source : HasSource r.loaded.program r.at

repeated_is : (files : Option (List NamedFile)) (name source : List ℕ) (all : IterationInput) (r : List Reading) → (repeated files name source).Ends r (gives all) → IsRepeated all
repeated_is files name source all r h =
    let made = gave_then (program_file files name) (behind_program source files) r all h in
    let p = made.value in
    let named = gave_then (source_named p source) (λ at. behind_source p at files) made.later all made.next in
    let read = gave_then (sources p files) (λ inputs. give (λ x. x ≡ record { loaded = record { program = p; inputs = inputs }; at = named.value })) named.later all named.next in
    let is = named.first.1 in
    subst IsRepeated (sym read.next.1) (record { inputs = are_inputs p files read.value read.front read.first; source = (is.source, is.there, is.kind) })

pub is_repeated : {before now : Feeding} (name source : List ℕ) (all : IterationInput) → Comes (λ f. repeated f name source) before now (Ok all) → IsRepeated all
is_repeated {before} name source all h = repeated_is before.files name source all h.told.readings h.told.ends

-- ---- its source

place_by : (b : Bool) (o op : Op) (front all : List Op) → slice_get all (length front) ≡ Some op → slice_get (cond b (o ∷ all) all) (length (cond b (o ∷ front) front)) ≡ Some op
place_by true o op front all e = e
place_by false o op front all e = e

first_by : (b : Bool) (op : Op) (all : List Op) → b ≡ true → slice_get (cond b (op ∷ all) all) 0 ≡ Some op
first_by true op all e = refl
first_by false op all e = cc

source_there : (ops : List Op) (n : ℕ) (op : Op) → slice_get ops n ≡ Some op → is_source_kind op.kind ≡ true → slice_get (sources_of ops) (source_place ops n) ≡ Some op
source_there [] n op e k = absurd (none-some op e)
source_there (o ∷ ops) zero op e k =
    subst (λ (x : Op). slice_get (sources_of (x ∷ ops)) 0 ≡ Some op) (sym (same_Some o op e)) (first_by (is_source_kind op.kind) op (sources_of ops) k)
source_there (o ∷ ops) (suc n) op e k = place_by (is_source_kind o.kind) o op (sources_of (take n ops)) (sources_of ops) (source_there ops n op e k)

is_source_at : (p : ProgramData) (at : ℕ) → HasSource p at → IsSourceAt p (source_place p.ops at) (columns_at p at)
is_source_at p at h = (h.0, source_there p.ops at h.0 h.1 h.2, ap columns_in (sym h.1))

-- a program has few numbers, and a source's number is one of them
pub few_numbered : (p : ProgramData) (ops : List Op) → IsProgram p → ops ≡ p.ops → length ops ≤ node_limit
few_numbered p ops h e =
    subst (λ (xs : List Op). length xs ≤ node_limit) (sym e) (let few = few_numbers p.functions p.ops p.plan h.plan in let most = h.few_operators in omega (arith, few, most))

pub source_within : (p : ProgramData) (ops : List Op) (at : ℕ) → HasSource p at → ops ≡ p.ops → at < length ops
source_within p ops at h e = subst (λ (xs : List Op). at < length xs) (sym e) (slice_get_within p.ops at h.0 h.1)

-- the source as the code finds it
module _ (p : ProgramData) (ops : List Op) (at place : ℕ) (d : Op) (h : HasSource p at) (same : ops ≡ p.ops) (placed : place ≡ source_place ops at) where
  columns_same : (get_or ops at d).columns ≡ columns_at p at
  columns_same =
      let read : slice_get p.ops at ≡ Some (get_or ops at d) = ap (λ (xs : List Op). slice_get xs at) (sym same) ∙ slice_get-get_or ops at d (source_within p ops at h same) in
      ap columns_in (sym read)

  place_same : place ≡ source_place p.ops at
  place_same = placed ∙ ap (λ (xs : List Op). source_place xs at) same

  pub source_read : IsSourceAt p place (get_or ops at d).columns
  source_read =
      subst (λ (n : ℕ). IsSourceAt p n (get_or ops at d).columns) (sym place_same) (subst (λ (cs : List Column). IsSourceAt p (source_place p.ops at) cs) (sym columns_same) (is_source_at p at h))

  pub iterated_read : {E : Type 0} (inputs : List Bag) (rounds : ℕ) (stable : Bool) (result : Result Iterated E) → IfOk result (λ i. IsIterated p inputs place (get_or ops at d).columns rounds stable i.rows i.rounds)
      → IfOk result (λ i. IsIterated p inputs (source_place p.ops at) (columns_at p at) rounds stable i.rows i.rounds)
  iterated_read inputs rounds stable result given =
      subst (λ (n : ℕ). IfOk result (λ i. IsIterated p inputs n (columns_at p at) rounds stable i.rows i.rounds)) place_same
      (subst (λ (cs : List Column). IfOk result (λ i. IsIterated p inputs place cs rounds stable i.rows i.rounds)) columns_same given)

-- ---- its rounds

pub iterated_wide : (r : IterationInput) (rounds : ℕ) (stable : Bool) (bag : Bag) (count : ℕ) → IsProgram r.loaded.program → AreInputsOf r.loaded.program r.loaded.inputs → HasSource r.loaded.program r.at
    → IsIterationOf r rounds stable bag count → AreWide r.loaded.program.fields bag
iterated_wide r rounds stable bag count program own source h =
    let p = r.loaded.program in
    last_wide p r.loaded.inputs (source_place p.ops r.at) (columns_at p r.at) program own (is_source_at p r.at source) r.loaded.inputs h.front bag own h.are_rounds

one_allowed : (p : ProgramData) → IsProgram p → AreGroupsFree p → AllowsOne p
one_allowed p program free = λ inputs bag other a b. only_bag p program free inputs p.plan bag other a b

-- ---- its texts

is_iteration_text : (r : IterationInput) (rounds : ℕ) (stable : Bool) (bag : Bag) (count : ℕ) (t : Texts) → IsProgram r.loaded.program → IsIterationOf r rounds stable bag count
    → AreLines r.loaded.program.sink bag t.out → t.told ≡ told_rounds stable count → IsIterationText r rounds stable t
is_iteration_text r rounds stable bag count t program h lines told =
    let p = r.loaded.program in
    let alike = λ (free : AreGroupsFree p) (other : Bag) (times : ℕ) (also : IsIterationOf r rounds stable other times).
    one_iteration p (one_allowed p program free) r.loaded.inputs (source_place p.ops r.at) (columns_at p r.at) rounds stable bag other count times h also in
    record {
      bag = bag;
      count = count;
      iterated = h;
      lines = lines;
      told = told;
      only_bag = λ free other times also. (alike free other times also).0;
      only_count = λ free other times also. sym (alike free other times also).1;
      only_text = λ free other times its also spelled. sym (one_text p.sink bag other t.out its (alike free other times also).0 lines spelled);
    }

-- what is made from the last round
pub iteration_made : {E : Type 0} (r : IterationInput) (rounds : ℕ) (stable : Bool) (i : Iterated) (result : Result Texts E) → IsProgram r.loaded.program → IsIterationOf r rounds stable i.rows i.rounds
    → IfOk result (λ t. AreLines r.loaded.program.sink i.rows t.out) → IfOk result (λ t. t.told ≡ told_rounds stable i.rounds) → IfOk result (IsIterationText r rounds stable)
iteration_made r rounds stable i (Ok t) program h lines told = is_iteration_text r rounds stable i.rows i.rounds t program h lines told
iteration_made r rounds stable i (Err e) program h lines told = tt
