-- What a call's answer about a stage says of an explanation, and stages one after another.
use Rattle.std.proofs.Common.{◌≡◌, ◌≢◌, ◌++◌, inl, inr, ℕ, List, [], Option, Result, Ok, Err, IfOk, refl, ap, sym, subst, ◌∙◌, append_assoc}
use Rattle.pact_outside.specs.declared.files.NamedFile.{NamedFile}
use Rattle.pact_outside.specs.Outside.{Feeding}
use Rattle.pact_load.specs.Answers.{Comes, Decides}
use Rattle.pact_load.specs.RefusalLines.{usage_line}
use Rattle.pact_load.specs.Stages.{CanEnd, End, Follows, Reading, Stage, and_then, fails, gives, misses, stops}
use Rattle.pact_load.specs.declared.refusals.Refusal.{Refusal}
use Rattle.pact_load.specs.declared.refusals.Refusal.TheVariants.{OutOfMemory, Usage, CannotRead, CannotWrite, Decided}
use Rattle.pact_load.proofs.StageLaws.{ends_at_first, ends_behind}
use Rattle.explain_report.specs.Explaining.{CanStop, Foretells, Tells}
use Rattle.explain_report.specs.declared.explanations.Explanation.{Explanation}

-- ---- answers

module _ {A : Type 0} (stage : Option (List NamedFile) → Stage A) {before now : Feeding} where
  pub foretold_value : (a : A) (e : Explanation) → e.status ≡ 0 → Comes stage before now (Ok a) → Foretells (stage before.files) e
  foretold_value a e zero h = inl (zero, a, record { readings = h.told.readings; ends = h.told.ends })

  pub comes_to_stop : (r : Refusal) → r ≢ OutOfMemory → Comes stage before now (Err r) → CanStop (stage before.files) r
  comes_to_stop OutOfMemory other h = absurd (other refl)
  comes_to_stop Usage other h = record { readings = h.told.readings; ends = h.told.ends }
  comes_to_stop (CannotRead name) other h = record { readings = h.told.readings; ends = h.told.ends }
  comes_to_stop CannotWrite other h = absurd h.told
  comes_to_stop (Decided status line) other h = record { readings = h.told.readings; ends = h.told.ends }

  pub foretold_stop : (r : Refusal) (e : Explanation) → r ≢ OutOfMemory → Tells r e → Comes stage before now (Err r) → Foretells (stage before.files) e
  foretold_stop r e other t h = inr (r, comes_to_stop r other h, t)

-- ---- answers of a call that reads no file

module _ {A : Type 0} (stage : Stage A) where
  pub decided_value : (a : A) (e : Explanation) → e.status ≡ 0 → Decides stage (Ok a) → Foretells stage e
  decided_value a e zero h = inl (zero, a, record { readings = []; ends = h })

  decides_stop : (r : Refusal) → r ≢ OutOfMemory → Decides stage (Err r) → CanStop stage r
  decides_stop OutOfMemory other h = absurd (other refl)
  decides_stop Usage other h = absurd h
  decides_stop (CannotRead name) other h = absurd h
  decides_stop CannotWrite other h = absurd h
  decides_stop (Decided status line) other h = record { readings = []; ends = h }

  pub decided_stop : (r : Refusal) (e : Explanation) → r ≢ OutOfMemory → Tells r e → Decides stage (Err r) → Foretells stage e
  decided_stop r e other t h = inr (r, decides_stop r other h, t)

-- ---- a stage that stops, and another one after it

pub stop_at_first : {A B : Type 0} (s : Stage A) (k : A → Stage B) (r : Refusal) → CanStop s r → CanStop (and_then s k) r
stop_at_first s k OutOfMemory h = h
stop_at_first s k Usage h = record { readings = h.readings; ends = ends_at_first s k (stops 2 usage_line) (stops 2 usage_line) h.readings refl h.ends }
stop_at_first s k (CannotRead name) h = record { readings = h.readings; ends = ends_at_first s k (fails name) (fails name) h.readings refl h.ends }
stop_at_first s k CannotWrite h = h
stop_at_first s k (Decided status line) h = record { readings = h.readings; ends = ends_at_first s k (stops status line) (stops status line) h.readings refl h.ends }

-- ---- a value of the first stage

end_after : {A B : Type 0} (s : Stage A) (k : A → Stage B) (a : A) (y : End B) → CanEnd s (gives a) → CanEnd (k a) y → CanEnd (and_then s k) y
end_after s k a y h g = record { readings = h.readings ++ g.readings; ends = ends_behind s k a y h.readings g.readings h.ends g.ends }

-- a fact of every end is one of every refusal
stop_by : {A B : Type 0} (s : Stage A) (t : Stage B) (r : Refusal) → ((status : ℕ) (line : List ℕ) → CanEnd s (stops status line) → CanEnd t (stops status line))
    → ((name : List ℕ) → CanEnd s (fails name) → CanEnd t (fails name)) → CanStop s r → CanStop t r
stop_by s t OutOfMemory f g h = h
stop_by s t Usage f g h = f 2 usage_line h
stop_by s t (CannotRead name) f g h = g name h
stop_by s t CannotWrite f g h = h
stop_by s t (Decided status line) f g h = f status line h

pub foretold_after : {A B : Type 0} (s : Stage A) (k : A → Stage B) (a : A) (e : Explanation) → CanEnd s (gives a) → Foretells (k a) e → Foretells (and_then s k) e
foretold_after s k a e h (inl g) = inl (g.0, g.1, end_after s k a (gives g.1) h g.2)
foretold_after s k a e h (inr g) =
    inr (g.0, stop_by (k a) (and_then s k) g.0 (λ status line. end_after s k a (stops status line) h) (λ name. end_after s k a (fails name) h) g.1, g.2)

-- ---- three stages

module _ {A B C : Type 0} (s : Stage A) (k : A → Stage B) (l : B → Stage C) where
  abbrev rest : A → Stage C
  rest a = and_then (k a) l

  regrouped : (first : End A) (front later : List Reading) (y : End C) → s.Ends front first → Follows rest first later y → (and_then (and_then s k) l).Ends (front ++ later) y
  regrouped (gives a) front later y h f = (f.0, front ++ f.1, f.2, ap (λ r. front ++ r) f.3 ∙ sym (append_assoc front f.1 f.2), ends_behind s k a f.0 front f.1 h f.4, f.5)
  regrouped (stops status line) front later y h f = (stops status line, front, later, refl, ends_at_first s k (stops status line) (stops status line) front refl h, f)
  regrouped (misses name) front later y h f = (misses name, front, later, refl, ends_at_first s k (misses name) (misses name) front refl h, f)
  regrouped (fails name) front later y h f = (fails name, front, later, refl, ends_at_first s k (fails name) (fails name) front refl h, f)

  regroup : (y : End C) → CanEnd (and_then s rest) y → CanEnd (and_then (and_then s k) l) y
  regroup y h =
      let x = h.ends in
      record { readings = h.readings; ends = subst (λ r. (and_then (and_then s k) l).Ends r y) (sym x.3) (regrouped x.0 x.1 x.2 y x.4 x.5) }

  pub foretold_grouped : (e : Explanation) → Foretells (and_then s rest) e → Foretells (and_then (and_then s k) l) e
  foretold_grouped e (inl g) = inl (g.0, g.1, regroup (gives g.1) g.2)
  foretold_grouped e (inr g) = inr (g.0, stop_by (and_then s rest) (and_then (and_then s k) l) g.0 (λ status line. regroup (stops status line)) (λ name. regroup (fails name)) g.1, g.2)

-- ---- facts about a value that was returned

pub if_ok : {A E : Type 0} {P Q : A → Type 0} (r : Result A E) → ((a : A) → P a → Q a) → IfOk r P → IfOk r Q
if_ok (Ok a) f h = f a h
if_ok (Err e) f h = tt

pub if_ok_both : {A E : Type 0} {P Q R : A → Type 0} (r : Result A E) → ((a : A) → P a → Q a → R a) → IfOk r P → IfOk r Q → IfOk r R
if_ok_both (Ok a) f h g = f a h g
if_ok_both (Err e) f h g = tt

pub if_ok_three : {A E : Type 0} {P Q R S : A → Type 0} (r : Result A E) → ((a : A) → P a → Q a → R a → S a) → IfOk r P → IfOk r Q → IfOk r R → IfOk r S
if_ok_three (Ok a) f h g k = f a h g k
if_ok_three (Err e) f h g k = tt
