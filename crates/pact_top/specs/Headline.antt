-- What the program promises of a call. `KeepsPromises`, the last definition, lists the promises by name. It is the one
-- clause of `pact_main`, and that of `pact_alone`.
-- Each promise is defined before it, with a comment that says what it promises. Four more promises have no definition
-- of their own; brackets say what they promise.
--
-- `pact_alone` runs a plan on one thread, waits for no other thread, and always returns. `pact_main` has a thread for
-- each worker if the words ask for a run, a drill or an iteration with two workers or more. Then it may wait, and its
-- clause holds if it returns. That it waits in no other case follows from how it is built; no clause says so.
--
-- Statuses.antt defines what the promises speak of. `before` and `now` are what the feed shows. `old` and `new` are
-- what a sink took, and `first` and `last` count its faults. Without a prefix they are those of the output; with the
-- prefix `told_` they are those of standard error.
use Rattle.std.specs.Prelude.{◌≡◌, ◌≢◌, ◌≤◌, ◌⊎◌, ℕ, false, List, Option}
use Rattle.pact_outside.specs.Outside.{Feeding, Rose}
use Rattle.pact_words.specs.Words.{AreRefused, AreUnnamed}
use Rattle.pact_top.specs.Refusal.{AskForMore, IsNamed}
use Rattle.pact_top.specs.Statuses.{AreCut, AreWritten, CannotRead, IsStopped, IsStatusReported, WhereMissing, WhereReady, WhereStopped}

-- Status 0: the texts in which the work ends were written whole.
-- For `run` these are the sorted rows of a bag that the program as written allows. It is the only such bag if each
-- function that a Reduce or a CoGroup calls passes the order test.
-- With `--counts` they include the counts of an evaluation of the chosen plan that gives this bag. With `--prune` a
-- line `keeps` follows for each source and operator whose records lost fields. With `--combine` a line `partials`
-- follows for each Reduce that is combined.
-- For `iterate` these are the sorted rows of the bag that the last round gives. With `--stable` the number of rounds is
-- printed too. Bag and number are the only possible ones under the same condition.
abbrev pub Answered : List (List ℕ) → Feeding → Feeding → (old new told_old told_new : Option (List ℕ)) → ℕ → Type 0
Answered words before now old new told_old told_new status = status ≡ 0 → AreWritten words before now old new told_old told_new

-- If the words ask for neither counts nor the number of rounds, status 0 leaves standard error unchanged.
abbrev pub AnsweredQuietly : List (List ℕ) → (told_old told_new : Option (List ℕ)) → ℕ → Type 0
AnsweredQuietly words told_old told_new status = status ≡ 0 → ¬ (AskForMore words) → told_new ≡ told_old

-- If the files are modelled and nothing keeps the work from making its texts, they are written, unless memory runs out
-- or a fault occurs.
abbrev pub Complete : List (List ℕ) → Feeding → Feeding → (first last told_first told_last : ℕ) → ℕ → Type 0
Complete words before now first last told_first told_last status =
    WhereReady words before (¬ (Rose before.faults now.faults) → ¬ (Rose first last) → (AskForMore words → ¬ (Rose told_first told_last)) → (status ≡ 0) ⊎ (status ≡ 1))

-- Status 2 comes only if the words ask for no command.
abbrev pub Usage : List (List ℕ) → ℕ → Type 0
Usage words status = status ≡ 2 → AreRefused words

-- Such words always give status 2, or 1 when out of memory. (`usage_untouched`: they leave the feed unchanged.)
abbrev pub UsageAlways : List (List ℕ) → ℕ → Type 0
UsageAlways words status = AreRefused words → (status ≡ 1) ⊎ (status ≡ 2)

-- If no command is named, the status is always 2, because reading such words takes no memory.
abbrev pub UsageUnnamed : List (List ℕ) → ℕ → Type 0
UsageUnnamed words status = AreUnnamed words → status ≡ 2

-- Status 3 comes only if a fault of the feed occurred at the file opened last, and the work opens that file there.
-- (`unread`, `unread_closed`: the fault occurred during this call, and no file is open afterwards.)
abbrev pub UnreadOpened : List (List ℕ) → Feeding → Feeding → ℕ → Type 0
UnreadOpened words before now status = status ≡ 3 → CannotRead words before now

-- The command names that file, or it is a name that a program can have.
abbrev pub UnreadName : List (List ℕ) → Feeding → ℕ → Type 0
UnreadName words now status = status ≡ 3 → IsNamed words now.opened

-- If the files are modelled and the work opens one that is missing, the status is 3, or 1 when out of memory.
abbrev pub MissingFile : List (List ℕ) → Feeding → ℕ → Type 0
MissingFile words before status = WhereMissing words before ((status ≡ 1) ⊎ (status ≡ 3))

-- Status 4: the output failed after a prefix of the text; or it took the whole text, and standard error failed after a
-- prefix of its text.
abbrev pub Unwritten : List (List ℕ) → Feeding → Feeding → (old new told_old told_new : Option (List ℕ)) → (first last told_first told_last : ℕ) → ℕ → Type 0
Unwritten words before now old new told_old told_new first last told_first told_last status =
    status ≡ 4 → AreCut words before now old new told_old told_new first last told_first told_last

-- Status 4 comes only from one of these two faults; the second only if the words ask for a text on standard error.
abbrev pub UnwrittenCause : List (List ℕ) → (first last told_first told_last : ℕ) → ℕ → Type 0
UnwrittenCause words first last told_first told_last status = status ≡ 4 → Rose first last ⊎ (AskForMore words × Rose told_first told_last)

-- Statuses 5 to 9 come only if the work stops with this status and a line. That line is printed.
abbrev pub Refused : List (List ℕ) → Feeding → Feeding → Option (List ℕ) → Option (List ℕ) → ℕ → ℕ → ℕ → Type 0
Refused words before now old new first last status = 5 ≤ status → IsStopped words before now old new first last status

-- If the files are modelled and the work can stop, the status is the one it stops with, unless memory runs out or
-- reading fails.
abbrev pub RefusedAlways : List (List ℕ) → Feeding → ℕ → Type 0
RefusedAlways words before status = WhereStopped words before (λ stop. (status ≡ 1) ⊎ (status ≡ 3) ⊎ (status ≡ stop))

-- Every status but 0 and 4 leaves the output unchanged. (`output_untouched`: no fault of the output occurred either.)
abbrev pub NothingWritten : Option (List ℕ) → Option (List ℕ) → ℕ → Type 0
NothingWritten old new status = status ≢ 0 → status ≢ 4 → new ≡ old

-- Statuses 1 to 3 each print their own line, as 4 does.
abbrev pub ReportsStatus : Feeding → Option (List ℕ) → Option (List ℕ) → ℕ → ℕ → ℕ → Type 0
ReportsStatus now old new first last status = status ≢ 0 → status ≤ 3 → IsStatusReported now old new first last status

-- There are no other statuses.
abbrev pub NoOther : ℕ → Type 0
NoOther status = status ≤ 9

-- ---- all promises

-- What a call that ended with this status did to the feed and the sinks. `feed_old` and `feed_new` are the feed itself,
-- before and after the call.
pub record KeepsPromises (words : List (List ℕ)) {F : Type 0} (feed_old feed_new : F) (before now : Feeding) (old new told_old told_new : Option (List ℕ))
    (first last told_first told_last : ℕ) (status : ℕ) : Type 0 where
  pub answered : Answered words before now old new told_old told_new status
  pub answered_quietly : AnsweredQuietly words told_old told_new status
  pub complete : Complete words before now first last told_first told_last status
  pub usage : Usage words status
  pub usage_always : UsageAlways words status
  pub usage_unnamed : UsageUnnamed words status
  pub usage_untouched : AreRefused words → feed_new ≡ feed_old
  pub unread : status ≡ 3 → Rose before.faults now.faults
  pub unread_closed : status ≡ 3 → now.is_open ≡ false
  pub unread_name : UnreadName words now status
  pub unread_opened : UnreadOpened words before now status
  pub missing_file : MissingFile words before status
  pub unwritten : Unwritten words before now old new told_old told_new first last told_first told_last status
  pub unwritten_cause : UnwrittenCause words first last told_first told_last status
  pub refused : Refused words before now told_old told_new told_first told_last status
  pub refused_always : RefusedAlways words before status
  pub nothing_written : NothingWritten old new status
  pub output_untouched : status ≢ 0 → status ≢ 4 → last ≡ first
  pub told : ReportsStatus now told_old told_new told_first told_last status
  pub no_other : NoOther status
