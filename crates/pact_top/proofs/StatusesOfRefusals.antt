-- What a refusal says about the exit status.
use Rattle.std.proofs.Common.{◌≡◌, ◌≤◌, ◌⊎◌, inl, inr, ℕ, List, Option, Some, None, Err, refl, ap, subst, sym, arith}
use Rattle.pact_outside.specs.Outside.{Feeding, Rose}
use Rattle.pact_load.specs.declared.refusals.Refusal.{Refusal}
use Rattle.pact_load.specs.declared.refusals.Refusal.TheVariants.{OutOfMemory, Usage, CannotRead, CannotWrite, Decided}
use Rattle.pact_load.specs.Answers.{AreTold, ComesTo, HasFailed, status_of, refusal_line}
use Rattle.pact_top.specs.Refusal.{IsNamed, IsRefused, IsUsageRefusal}
use Rattle.pact_load.specs.RefusalLines.{line_of, usage_line}
use Rattle.pact_load.specs.Stages.{CanEnd, gives, stops, misses}
use Rattle.pact_top.specs.CommandTexts.{Ready}
use Rattle.pact_top.specs.Writing.{GainsMore}
use Rattle.pact_top.specs.Work.{ready, work}
use Rattle.pact_top.specs.declared.texts.Texts.{Texts}
use Rattle.pact_words.specs.Words.{AreRefused, AreRefusedBy, AreUnnamed}
use Rattle.pact_top.proofs.DecidedStages.{ready_agrees, work_decided}

pub line_is : (words : List (List ℕ)) (before now : Feeding) (r : Refusal) → IsRefused words before now r → status_of r ≤ 3 → refusal_line r ≡ line_of (status_of r) now.opened
line_is words before now OutOfMemory h few = refl
line_is words before now Usage h few = refl
line_is words before now (CannotRead name) h few = ap (line_of 3) (sym h.0.named)
line_is words before now CannotWrite h few = refl
line_is words before now (Decided status line) h few = let l = h.0 in absurd (omega (arith, few, l))

pub stopped : (words : List (List ℕ)) (before now : Feeding) (r : Refusal) → IsRefused words before now r → 5 ≤ status_of r → ComesTo (work words before.files) before now (stops (status_of r) (refusal_line r))
stopped words before now OutOfMemory h large = absurd (omega (arith, large))
stopped words before now Usage h large = absurd (omega (arith, large))
stopped words before now (CannotRead name) h large = absurd (omega (arith, large))
stopped words before now CannotWrite h large = absurd h
stopped words before now (Decided status line) h large = h.2

-- a file that can't be read is the one opened last
pub unread_there : (words : List (List ℕ)) (before now : Feeding) (r : Refusal) → IsRefused words before now r → status_of r ≡ 3 → HasFailed (work words before.files) before now now.opened
unread_there words before now OutOfMemory h e = absurd (omega (arith, e))
unread_there words before now Usage h e = absurd (omega (arith, e))
unread_there words before now (CannotRead name) h e = subst (HasFailed (work words before.files) before now) (sym h.0.named) h.0
unread_there words before now CannotWrite h e = absurd h
unread_there words before now (Decided status line) h e = let l = h.0 in absurd (omega (arith, e, l))

-- its name is one that the command or a program can have
pub unread_named : (words : List (List ℕ)) (before now : Feeding) (r : Refusal) → IsRefused words before now r → status_of r ≡ 3 → IsNamed words now.opened
unread_named words before now OutOfMemory h e = absurd (omega (arith, e))
unread_named words before now Usage h e = absurd (omega (arith, e))
unread_named words before now (CannotRead name) h e = subst (IsNamed words) (sym h.0.named) h.1
unread_named words before now CannotWrite h e = absurd h
unread_named words before now (Decided status line) h e = let l = h.0 in absurd (omega (arith, e, l))

-- ---- the work's stop decides the status

pub where_missing : (words : List (List ℕ)) (before now : Feeding) (r : Refusal) → IsRefused words before now r → AreTold before.files → (name : List ℕ) → CanEnd (work words before.files) (misses name)
    → (status_of r ≡ 1) ⊎ (status_of r ≡ 3)
where_missing words before now OutOfMemory h told name m = inl refl
where_missing words before now Usage h told name m = absurd ((work_decided words before.files told).alike (stops 2 usage_line) (misses name) h.1.readings m.readings h.1.ends m.ends)
where_missing words before now (CannotRead t) h told name m = inr refl
where_missing words before now CannotWrite h told name m = absurd h
where_missing words before now (Decided status line) h told name m = absurd ((work_decided words before.files told).alike (stops status line) (misses name) h.2.readings m.readings h.2.ends m.ends)

pub where_stopped : (words : List (List ℕ)) (before now : Feeding) (r : Refusal) → IsRefused words before now r → AreTold before.files → (status : ℕ) (line : List ℕ)
    → CanEnd (work words before.files) (stops status line) → (status_of r ≡ 1) ⊎ (status_of r ≡ 3) ⊎ (status_of r ≡ status)
where_stopped words before now OutOfMemory h told status line s = inl refl
where_stopped words before now Usage h told status line s = inr (inr ((work_decided words before.files told).alike (stops 2 usage_line) (stops status line) h.1.readings s.readings h.1.ends s.ends))
where_stopped words before now (CannotRead t) h told status line s = inr (inl refl)
where_stopped words before now CannotWrite h told status line s = absurd h
where_stopped words before now (Decided n l) h told status line s = inr (inr ((work_decided words before.files told).alike (stops n l) (stops status line) h.2.readings s.readings h.2.ends s.ends))

pub where_ready : (words : List (List ℕ)) (before now : Feeding) (r : Refusal) → IsRefused words before now r → AreTold before.files → (y : Ready) → CanEnd (ready words before.files) (gives y)
    → ¬ (Rose before.faults now.faults) → status_of r ≡ 1
where_ready words before now OutOfMemory h told y g n = refl
where_ready words before now Usage h told y g n = absurd ((ready_agrees words before.files told).alike (stops 2 usage_line) (gives y) h.1.readings g.readings h.1.ends g.ends)
where_ready words before now (CannotRead t) h told y g n = absurd (n h.0.rose)
where_ready words before now CannotWrite h told y g n = absurd h
where_ready words before now (Decided status line) h told y g n = absurd ((ready_agrees words before.files told).alike (stops status line) (gives y) h.2.readings g.readings h.2.ends g.ends)

-- ---- if the work can end in a text

pub not_missing : (words : List (List ℕ)) (before now : Feeding) (texts : Texts) (Goal : Type 0) → ComesTo (work words before.files) before now (gives texts) → AreTold before.files → (name : List ℕ)
    → CanEnd (work words before.files) (misses name) → Goal
not_missing words before now texts Goal g told name m = absurd ((work_decided words before.files told).alike (gives texts) (misses name) g.readings m.readings g.ends m.ends)

pub not_stopped : (words : List (List ℕ)) (before now : Feeding) (texts : Texts) (Goal : ℕ → Type 0) → ComesTo (work words before.files) before now (gives texts) → AreTold before.files → (status : ℕ) (line : List ℕ)
    → CanEnd (work words before.files) (stops status line) → Goal status
not_stopped words before now texts Goal g told status line s = absurd ((work_decided words before.files told).alike (gives texts) (stops status line) g.readings s.readings g.ends s.ends)

-- ---- words that ask for no command

pub unnamed_refused : (words : List (List ℕ)) → AreUnnamed words → AreRefused words
unnamed_refused words none = subst (λ k. AreRefusedBy k words) (sym none) tt

pub usage_told : (words : List (List ℕ)) (r : Refusal) → IsUsageRefusal words (Err r) → (status_of r ≡ 1) ⊎ (status_of r ≡ 2)
usage_told words OutOfMemory h = inl refl
usage_told words Usage h = inr refl
usage_told words (CannotRead name) h = absurd h
usage_told words CannotWrite h = absurd h
usage_told words (Decided status line) h = absurd h

pub usage_unnamed : (words : List (List ℕ)) (r : Refusal) → AreUnnamed words → IsUsageRefusal words (Err r) → status_of r ≡ 2
usage_unnamed words OutOfMemory none h = absurd (h none)
usage_unnamed words Usage none h = refl
usage_unnamed words (CannotRead name) none h = absurd h
usage_unnamed words CannotWrite none h = absurd h
usage_unnamed words (Decided status line) none h = absurd h

-- ---- standard error

-- nothing is written to standard error unless it is asked for
pub told_quietly : (told old new : Option (List ℕ)) (IsAskedFor : Type 0) → ((text : List ℕ) → told ≡ Some text → IsAskedFor) → GainsMore old new told → ¬ IsAskedFor → new ≡ old
told_quietly None old new IsAskedFor h gained none = gained
told_quietly (Some text) old new IsAskedFor h gained none = absurd (none (h text refl))

-- a refusal never has status 0
pub never_answered : (words : List (List ℕ)) (before now : Feeding) (r : Refusal) → IsRefused words before now r → status_of r ≡ 0 → ⊥
never_answered words before now OutOfMemory h e = omega (arith, e)
never_answered words before now Usage h e = omega (arith, e)
never_answered words before now (CannotRead name) h e = omega (arith, e)
never_answered words before now CannotWrite h e = h
never_answered words before now (Decided status line) h e = let least = h.0 in omega (arith, least, e)

-- a refusal never has status 4
pub never_cut : (words : List (List ℕ)) (before now : Feeding) (r : Refusal) → IsRefused words before now r → status_of r ≡ 4 → ⊥
never_cut words before now OutOfMemory h e = omega (arith, e)
never_cut words before now Usage h e = omega (arith, e)
never_cut words before now (CannotRead name) h e = omega (arith, e)
never_cut words before now CannotWrite h e = h
never_cut words before now (Decided status line) h e = let least = h.0 in omega (arith, least, e)

-- ---- the numbers of statuses

pub usage_refused : (words : List (List ℕ)) (before now : Feeding) (r : Refusal) → IsRefused words before now r → status_of r ≡ 2 → AreRefused words
usage_refused words before now OutOfMemory h e = absurd (omega (arith, e))
usage_refused words before now Usage h e = h.0
usage_refused words before now (CannotRead name) h e = absurd (omega (arith, e))
usage_refused words before now CannotWrite h e = absurd h
usage_refused words before now (Decided status line) h e = let least = h.0 in absurd (omega (arith, least, e))

pub at_most_nine : (words : List (List ℕ)) (before now : Feeding) (r : Refusal) → IsRefused words before now r → status_of r ≤ 9
at_most_nine words before now OutOfMemory h = omega arith
at_most_nine words before now Usage h = omega arith
at_most_nine words before now (CannotRead name) h = omega arith
at_most_nine words before now CannotWrite h = omega arith
at_most_nine words before now (Decided status line) h = h.1
