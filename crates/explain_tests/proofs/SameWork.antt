-- `explain` and `pact` do the same with a command's files.
use Rattle.std.proofs.Common.{◌≡◌, ◌++◌, ◌∙◌, ap, append_assoc, append-nil, inl, inr, ℕ, List, [], Option, Ok, Err, refl, subst, sym}
use Rattle.pact_operators.specs.Programs.{ProgramData}
use Rattle.pact_outside.specs.declared.files.NamedFile.{NamedFile}
use Rattle.plan_trees.specs.Plans.{PlanTree}
use Rattle.pact_load.specs.Loading.{file, loaded, program_file, program_limit, source_named, sources}
use Rattle.pact_load.specs.declared.loaded.Loaded.{Loaded}
use Rattle.pact_load.specs.Stages.{End, Follows, Reading, Stage, and_then, fails, give, gives, misses, stops}
use Rattle.swap_certificate.specs.Shape.{IsCertificateText}
use Rattle.swap_certificate.specs.declared.certificates.Certificate.{Certificate}
use Rattle.pact_top.specs.CommandTexts.{Accepted, Ready, ready_cert, ready_check, ready_iterate, ready_plan, ready_run, ready_sets}
use Rattle.pact_top.specs.Work.{accepted, certificate, certificate_file, rechecked, repeated}
use Rattle.pact_top.specs.declared.repeating.IterationInput.{IterationInput}
use Rattle.explain_report.specs.Certificates.{followed}
use Rattle.explain_report.specs.TextStages.{with_certificate, with_rows, with_source}
use Rattle.explain_tests.specs.SameWork.{EndAlike, EndsAs, HasEndOf, IsSameWork}

-- ---- stages

ends_same : {A : Type 0} (s t : Stage A) → ((rs : List Reading) (e : End A) → s.Ends rs e → t.Ends rs e) → EndsAs s t
ends_same s t h rs (gives a) x = (a, h rs (gives a) x)
ends_same s t h rs (stops status line) x = h rs (stops status line) x
ends_same s t h rs (misses name) x = h rs (misses name) x
ends_same s t h rs (fails name) x = h rs (fails name) x

both : {A B C : Type 0} (s : Stage A) (t : Stage B) (u : Stage C) → EndsAs s t → EndsAs t u → EndsAs s u
both s t u h k rs (gives a) x = let y = h rs (gives a) x in k rs (gives y.0) y.1
both s t u h k rs (stops status line) x = k rs (stops status line) (h rs (stops status line) x)
both s t u h k rs (misses name) x = k rs (misses name) (h rs (misses name) x)
both s t u h k rs (fails name) x = k rs (fails name) (h rs (fails name) x)

alike_both : {A B C : Type 0} (s : Stage A) (t : Stage B) (u : Stage C) → EndAlike s t → EndAlike t u → EndAlike s u
alike_both s t u h k = record { from = both s t u h.from k.from; to = both u t s k.to h.to }

-- values that are given without a file
given : {A B : Type 0} (a : A) (b : B) → EndsAs (give (λ (x : A). x ≡ a)) (give (λ (y : B). y ≡ b))
given a b rs (gives x) h = (b, (h.0, refl))
given a b rs (stops status line) h = absurd h.1
given a b rs (misses name) h = absurd h.1
given a b rs (fails name) h = absurd h.1

alike_given : {A B : Type 0} (a : A) (b : B) → EndAlike (give (λ (x : A). x ≡ a)) (give (λ (y : B). y ≡ b))
alike_given a b = record { from = given a b; to = given b a }

-- ---- one stage after another

module _ {A B C : Type 0} (s : Stage A) (f : A → Stage B) (g : A → Stage C) where
  lifted : (rs front later : List Reading) (a : A) (e : End B) → rs ≡ front ++ later → s.Ends front (gives a) → HasEndOf (g a) later e → HasEndOf (and_then s g) rs e
  lifted rs front later a (gives b) is x y = (y.0, (gives a, front, later, is, x, y.1))
  lifted rs front later a (stops status line) is x y = (gives a, front, later, is, x, y)
  lifted rs front later a (misses name) is x y = (gives a, front, later, is, x, y)
  lifted rs front later a (fails name) is x y = (gives a, front, later, is, x, y)

  follow : ((a : A) → EndsAs (f a) (g a)) → (rs front later : List Reading) (first : End A) (e : End B) → rs ≡ front ++ later → s.Ends front first → Follows f first later e → HasEndOf (and_then s g) rs e
  follow h rs front later (gives a) e is x y = lifted rs front later a e is x (h a later e y)
  follow h rs front later (stops status line) e is x y = subst (HasEndOf (and_then s g) rs) (sym y.1) (stops status line, front, later, is, x, (y.0, refl))
  follow h rs front later (misses name) e is x y = subst (HasEndOf (and_then s g) rs) (sym y.1) (misses name, front, later, is, x, (y.0, refl))
  follow h rs front later (fails name) e is x y = subst (HasEndOf (and_then s g) rs) (sym y.1) (fails name, front, later, is, x, (y.0, refl))

  after : ((a : A) → EndsAs (f a) (g a)) → EndsAs (and_then s f) (and_then s g)
  after h rs e x = follow h rs x.1 x.2 x.0 e x.3 x.4 x.5

alike_after : {A B C : Type 0} (s : Stage A) (f : A → Stage B) (g : A → Stage C) → ((a : A) → EndAlike (f a) (g a)) → EndAlike (and_then s f) (and_then s g)
alike_after s f g h = record { from = after s f g (λ a. (h a).from); to = after s g f (λ a. (h a).to) }

-- a value is put into a form
module _ {A B : Type 0} (s : Stage A) (form : A → B) where
  abbrev formed : Stage B
  formed = and_then s (λ a. give (λ (b : B). b ≡ form a))

  to_form : EndsAs s formed
  to_form rs (gives a) x = (form a, (gives a, rs, [], sym (append-nil rs), x, (refl, refl)))
  to_form rs (stops status line) x = (stops status line, rs, [], sym (append-nil rs), x, (refl, refl))
  to_form rs (misses name) x = (misses name, rs, [], sym (append-nil rs), x, (refl, refl))
  to_form rs (fails name) x = (fails name, rs, [], sym (append-nil rs), x, (refl, refl))

  whole : (rs front later : List Reading) → rs ≡ front ++ later → later ≡ [] → front ≡ rs
  whole rs front later is none = sym (is ∙ ap (λ l. front ++ l) none ∙ append-nil front)

  unformed : (rs front later : List Reading) (first : End A) (e : End B) → rs ≡ front ++ later → s.Ends front first → Follows (λ a. give (λ (b : B). b ≡ form a)) first later e → HasEndOf s rs e
  unformed rs front later (gives a) (gives b) is x y = (a, subst (λ l. s.Ends l (gives a)) (whole rs front later is y.0) x)
  unformed rs front later (gives a) (stops status line) is x y = absurd y.1
  unformed rs front later (gives a) (misses name) is x y = absurd y.1
  unformed rs front later (gives a) (fails name) is x y = absurd y.1
  unformed rs front later (stops status line) e is x y = subst (HasEndOf s rs) (sym y.1) (subst (λ l. s.Ends l (stops status line)) (whole rs front later is y.0) x)
  unformed rs front later (misses name) e is x y = subst (HasEndOf s rs) (sym y.1) (subst (λ l. s.Ends l (misses name)) (whole rs front later is y.0) x)
  unformed rs front later (fails name) e is x y = subst (HasEndOf s rs) (sym y.1) (subst (λ l. s.Ends l (fails name)) (whole rs front later is y.0) x)

  alike_form : EndAlike s formed
  alike_form = record { from = to_form; to = λ rs e x. unformed rs x.1 x.2 x.0 e x.3 x.4 x.5 }

-- two stages as one
module _ {A B C : Type 0} (s : Stage A) (f : A → Stage B) (g : B → Stage C) where
  joined : (rs front later f1 l1 : List Reading) (first : End A) (mid : End B) (e : End C) → rs ≡ front ++ later → front ≡ f1 ++ l1 → s.Ends f1 first → Follows f first l1 mid → Follows g mid later e
      → (and_then s (λ a. and_then (f a) g)).Ends rs e
  joined rs front later f1 l1 (gives a) mid e is is1 x y z = (gives a, f1, l1 ++ later, is ∙ ap (λ l. l ++ later) is1 ∙ append_assoc f1 l1 later, x, (mid, l1, later, refl, y, z))
  joined rs front later f1 l1 (stops status line) mid e is is1 x y z =
      let end = subst (λ (m : End B). Follows g m later e) y.1 z in
      (stops status line, f1, l1 ++ later, is ∙ ap (λ l. l ++ later) is1 ∙ append_assoc f1 l1 later, x, ((λ i. y.0 i ++ end.0 i), end.1))
  joined rs front later f1 l1 (misses name) mid e is is1 x y z =
      let end = subst (λ (m : End B). Follows g m later e) y.1 z in
      (misses name, f1, l1 ++ later, is ∙ ap (λ l. l ++ later) is1 ∙ append_assoc f1 l1 later, x, ((λ i. y.0 i ++ end.0 i), end.1))
  joined rs front later f1 l1 (fails name) mid e is is1 x y z =
      let end = subst (λ (m : End B). Follows g m later e) y.1 z in
      (fails name, f1, l1 ++ later, is ∙ ap (λ l. l ++ later) is1 ∙ append_assoc f1 l1 later, x, ((λ i. y.0 i ++ end.0 i), end.1))

  parted : (rs f1 rest : List Reading) (first : End A) (e : End C) → rs ≡ f1 ++ rest → s.Ends f1 first → Follows (λ a. and_then (f a) g) first rest e → (and_then (and_then s f) g).Ends rs e
  parted rs f1 rest (gives a) e is x y = (y.0, f1 ++ y.1, y.2, is ∙ ap (λ l. f1 ++ l) y.3 ∙ sym (append_assoc f1 y.1 y.2), (gives a, f1, y.1, refl, x, y.4), y.5)
  parted rs f1 rest (stops status line) e is x y = (stops status line, f1, rest, is, (stops status line, f1, [], sym (append-nil f1), x, (refl, refl)), y)
  parted rs f1 rest (misses name) e is x y = (misses name, f1, rest, is, (misses name, f1, [], sym (append-nil f1), x, (refl, refl)), y)
  parted rs f1 rest (fails name) e is x y = (fails name, f1, rest, is, (fails name, f1, [], sym (append-nil f1), x, (refl, refl)), y)

  alike_parts : EndAlike (and_then s (λ a. and_then (f a) g)) (and_then (and_then s f) g)
  alike_parts = record {
    from = ends_same (and_then s (λ a. and_then (f a) g)) (and_then (and_then s f) g) (λ rs e x. parted rs x.1 x.2 x.0 e x.3 x.4 x.5);
    to = ends_same (and_then (and_then s f) g) (and_then s (λ a. and_then (f a) g))
        (λ rs e x. joined rs x.1 x.2 x.4.1 x.4.2 x.4.0 x.0 e x.3 x.4.3 x.4.4 x.4.5 x.5);
  }

-- ---- certificates

module _ (p : ProgramData) where
  abbrev then_check : Certificate → Stage Accepted
  then_check c = and_then (rechecked p c) (λ plan. give (λ (all : Accepted). all ≡ record { program = p; certificate = c; plan = plan }))

  module _ (text : List ℕ) where
    checked_so : EndsAs (followed p text) (and_then (certificate text) then_check)
    checked_so rs (gives plan) (none, (c, is, right)) =
        (record { program = p; certificate = c; plan = plan }, (gives c, [], [], none, (refl, is), (gives plan, [], [], refl, (refl, right), (refl, refl))))
    checked_so rs (stops status line) (none, (nine, inl (other, is))) = (stops status line, [], [], none, (refl, (other, nine, is)), (refl, refl))
    checked_so rs (stops status line) (none, (nine, inr (c, fault, is, wrong, says))) =
        (gives c, [], [], none, (refl, is), (stops status line, [], [], refl, (refl, (fault, wrong, nine, says)), (refl, refl)))
    checked_so rs (misses name) h = absurd h.1
    checked_so rs (fails name) h = absurd h.1

    then_so : (rs front later f2 l2 : List Reading) (c : Certificate) (first : End PlanTree) (e : End Accepted) → rs ≡ front ++ later → front ≡ [] → IsCertificateText text c → later ≡ f2 ++ l2 → (rechecked p c).Ends f2 first
        → Follows (λ plan. give (λ (all : Accepted). all ≡ record { program = p; certificate = c; plan = plan })) first l2 e → HasEndOf (followed p text) rs e
    then_so rs front later f2 l2 c (gives plan) (gives all) is none text_is is2 y z = (plan, (is ∙ (λ i. none i ++ (is2 ∙ (λ j. y.0 j ++ z.0 j)) i), (c, text_is, y.1)))
    then_so rs front later f2 l2 c (gives plan) (stops status line) is none text_is is2 y z = absurd z.1
    then_so rs front later f2 l2 c (gives plan) (misses name) is none text_is is2 y z = absurd z.1
    then_so rs front later f2 l2 c (gives plan) (fails name) is none text_is is2 y z = absurd z.1
    then_so rs front later f2 l2 c (stops status line) e is none text_is is2 (read, (fault, wrong, nine, says)) z =
        subst (HasEndOf (followed p text) rs) (sym z.1) (is ∙ (λ i. none i ++ (is2 ∙ (λ j. read j ++ z.0 j)) i), (nine, inr (c, fault, text_is, wrong, says)))
    then_so rs front later f2 l2 c (misses name) e is none text_is is2 y z = absurd y.1
    then_so rs front later f2 l2 c (fails name) e is none text_is is2 y z = absurd y.1

    read_so : (rs front later : List Reading) (first : End Certificate) (e : End Accepted) → rs ≡ front ++ later → (certificate text).Ends front first → Follows then_check first later e → HasEndOf (followed p text) rs e
    read_so rs front later (gives c) e is y z = then_so rs front later z.1 z.2 c z.0 e is y.0 y.1 z.3 z.4 z.5
    read_so rs front later (stops status line) e is (read, (other, nine, says)) z =
        subst (HasEndOf (followed p text) rs) (sym z.1) (is ∙ (λ i. read i ++ z.0 i), (nine, inl (other, says)))
    read_so rs front later (misses name) e is y z = absurd y.1
    read_so rs front later (fails name) e is y z = absurd y.1

    alike_check : EndAlike (followed p text) (and_then (certificate text) then_check)
    alike_check = record { from = checked_so; to = λ rs e x. read_so rs x.1 x.2 x.0 e x.3 x.4 x.5 }

  alike_file : (files : Option (List NamedFile)) (other : List ℕ) → EndAlike (with_certificate files other p) (and_then (certificate_file files other) then_check)
  alike_file files other =
      let f = file files other program_limit in
      alike_both (and_then f (followed p)) (and_then f (λ text. and_then (certificate text) then_check)) (and_then (and_then f certificate) then_check)
      (alike_after f (followed p) (λ text. and_then (certificate text) then_check) alike_check)
      (alike_parts f certificate then_check)

-- ---- commands

module _ (files : Option (List NamedFile)) where
  checks : (name other : List ℕ) → EndAlike (and_then (program_file files name) (with_certificate files other)) (accepted files name other)
  checks name other = alike_after (program_file files name) (with_certificate files other) (λ p. and_then (certificate_file files other) (then_check p)) (λ p. alike_file p files other)

  repeats : (name source : List ℕ) → EndAlike (and_then (program_file files name) (with_source files source)) (repeated files name source)
  repeats name source =
      alike_after (program_file files name) (with_source files source)
      (λ p. and_then (source_named p source) (λ at. and_then (sources p files) (λ inputs. give (λ (all : IterationInput). all ≡ record { loaded = record { program = p; inputs = inputs }; at = at }))))
      (λ p. alike_after (source_named p source) (λ at. with_rows files p) (λ at. and_then (sources p files) (λ inputs. give (λ (all : IterationInput). all ≡ record { loaded = record { program = p; inputs = inputs }; at = at })))
      (λ at. alike_after (sources p files) (λ inputs. give (λ (all : Loaded). all ≡ record { program = p; inputs = inputs })) (λ inputs. give (λ (all : IterationInput). all ≡ record { loaded = record { program = p; inputs = inputs }; at = at }))
      (λ inputs. alike_given (record { program = p; inputs = inputs }) (record { loaded = record { program = p; inputs = inputs }; at = at }))))

  pub same_work : IsSameWork files
  same_work = record {
    run = λ name options rewrites counts. alike_form (loaded files name) (λ l. ready_run l options.workers options.plans counts rewrites.prune rewrites.combine);
    plan = λ name workers plans. alike_form (loaded files name) (λ l. ready_plan l workers plans);
    cert = λ name workers plans. alike_form (loaded files name) (λ l. ready_cert l workers plans);
    sets = λ name. alike_form (program_file files name) ready_sets;
    check = λ name other. alike_both (and_then (program_file files name) (with_certificate files other)) (accepted files name other) _ (checks name other) (alike_form (accepted files name other) ready_check);
    iterate = λ name source rounds options stable.
        alike_both (and_then (program_file files name) (with_source files source)) (repeated files name source) _ (repeats name source) (alike_form (repeated files name source) (λ i. ready_iterate i rounds stable));
  }
