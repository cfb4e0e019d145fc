-- Every promise of a call, given the answer to the words and the way the call ends.
use Rattle.std.proofs.Common.{◌≡◌, ◌≤◌, ◌⊎◌, inl, inr, ℕ, List, Option, Result, Ok, Err, refl, subst, sym, arith}
use Rattle.pact_outside.specs.Outside.{Feeding}
use Rattle.pact_load.specs.Answers.{refusal_line, status_of}
use Rattle.pact_load.specs.declared.refusals.Refusal.{Refusal}
use Rattle.pact_top.specs.declared.texts.Texts.{Texts}
use Rattle.pact_top.specs.Headline.{KeepsPromises}
use Rattle.pact_top.specs.Refusal.{AskForMore, IsAnswered}
use Rattle.pact_top.specs.Statuses.{WritesAnswer, WritesTexts}
use Rattle.pact_top.specs.Writing.{WritesLine}
use Rattle.pact_top.proofs.StatusesOfRefusals.{at_most_nine, line_is, never_answered, never_cut, not_missing, not_stopped, stopped, told_quietly, unnamed_refused, unread_named, unread_there, usage_refused, usage_told, usage_unnamed, where_missing, where_ready, where_stopped}

-- ---- a call that writes ends with 0 or 4

none_between : (status : ℕ) (P : Type 0) → (status ≡ 0) ⊎ (status ≡ 4) → 1 ≤ status → status ≤ 3 → P
none_between status P (inl zero) least most = absurd (omega (arith, zero, least))
none_between status P (inr cut) least most = absurd (omega (arith, cut, most))

none_above : (status : ℕ) (P : Type 0) → (status ≡ 0) ⊎ (status ≡ 4) → 5 ≤ status → P
none_above status P (inl zero) least = absurd (omega (arith, zero, least))
none_above status P (inr cut) least = absurd (omega (arith, cut, least))

none_other : (status : ℕ) (P : Type 0) → (status ≡ 0) ⊎ (status ≡ 4) → (status ≡ 0 → ⊥) → (status ≡ 4 → ⊥) → P
none_other status P (inl zero) a b = absurd (a zero)
none_other status P (inr cut) a b = absurd (b cut)

none_small : (status : ℕ) (P : Type 0) → (status ≡ 0) ⊎ (status ≡ 4) → (status ≡ 0 → ⊥) → status ≤ 3 → P
none_small status P (inl zero) a most = absurd (a zero)
none_small status P (inr cut) a most = absurd (omega (arith, cut, most))

few : (status : ℕ) → (status ≡ 0) ⊎ (status ≡ 4) → status ≤ 9
few status (inl zero) = omega (arith, zero)
few status (inr cut) = omega (arith, cut)

-- ---- both ends

module _ (words : List (List ℕ)) {F : Type 0} (feed_old feed_new : F) (before now : Feeding) where
  texts_kept : (texts : Texts) (old new told_old told_new : Option (List ℕ)) (first last told_first told_last status : ℕ) → IsAnswered words (feed_new ≡ feed_old) before now (Ok texts)
      → WritesTexts texts old new told_old told_new first last told_first told_last status
      → KeepsPromises words feed_old feed_new before now old new told_old told_new first last told_first told_last status
  texts_kept texts old new told_old told_new first last told_first told_last status a w = record {
    answered = λ done. (texts, a.told.texts_are, (w.whole done).0, (w.whole done).1);
    answered_quietly = λ done none. told_quietly texts.told told_old told_new (AskForMore words) a.told.told (w.whole done).1 none;
    complete = λ told ready stands unread unwritten untold.
        elim w.status as (λ _. (status ≡ 0) ⊎ (status ≡ 1)) [
          | inl whole ↦ inl whole
          | inr cut ↦ elim (w.cut cut) as (λ _. (status ≡ 0) ⊎ (status ≡ 1)) [
            | inl text ↦ absurd (unwritten text.rose)
            | inr more ↦ absurd (untold (a.told.told more.text more.is_told) more.rose)
          ]
        ];
    usage = λ e. none_between status _ w.status (omega (arith, e)) (omega (arith, e));
    usage_always = λ refused. absurd (a.usage refused);
    usage_unnamed = λ none. absurd (a.usage (unnamed_refused words none));
    usage_untouched = a.untouched;
    unread = λ e. none_between status _ w.status (omega (arith, e)) (omega (arith, e));
    unread_closed = λ e. none_between status _ w.status (omega (arith, e)) (omega (arith, e));
    unread_name = λ e. none_between status _ w.status (omega (arith, e)) (omega (arith, e));
    unread_opened = λ e. none_between status _ w.status (omega (arith, e)) (omega (arith, e));
    missing_file = not_missing words before now texts _ a.told.texts_are;
    unwritten = λ cut. (texts, a.told.texts_are, w.cut cut);
    unwritten_cause = λ cut. elim (w.cut cut) [
      | inl text ↦ inl text.rose
      | inr more ↦ inr (a.told.told more.text more.is_told, more.rose)
    ];
    refused = λ large. none_above status _ w.status large;
    refused_always = not_stopped words before now texts _ a.told.texts_are;
    nothing_written = λ some uncut. none_other status _ w.status some uncut;
    output_untouched = λ some uncut. none_other status _ w.status some uncut;
    told = λ some most. none_small status _ w.status some most;
    no_other = few status w.status;
  }

  refusal_kept : (r : Refusal) (old told_old told_new : Option (List ℕ)) (first told_first told_last : ℕ) → IsAnswered words (feed_new ≡ feed_old) before now (Err r)
      → WritesLine told_old told_new told_first told_last (refusal_line r) → KeepsPromises words feed_old feed_new before now old old told_old told_new first first told_first told_last (status_of r)
  refusal_kept r old told_old told_new first told_first told_last a told = record {
    answered = λ done. absurd (never_answered words before now r a.told done);
    answered_quietly = λ done none. absurd (never_answered words before now r a.told done);
    complete = λ known ready stands unread unwritten untold. inr (where_ready words before now r a.told known ready stands unread);
    usage = usage_refused words before now r a.told;
    usage_always = λ refused. usage_told words r (a.usage refused);
    usage_unnamed = λ none. usage_unnamed words r none (a.usage (unnamed_refused words none));
    usage_untouched = a.untouched;
    unread = λ e. (unread_there words before now r a.told e).rose;
    unread_closed = λ e. (unread_there words before now r a.told e).shut;
    unread_name = unread_named words before now r a.told;
    unread_opened = unread_there words before now r a.told;
    missing_file = where_missing words before now r a.told;
    unwritten = λ cut. absurd (never_cut words before now r a.told cut);
    unwritten_cause = λ cut. absurd (never_cut words before now r a.told cut);
    refused = λ large. (refusal_line r, stopped words before now r a.told large, told);
    refused_always = where_stopped words before now r a.told;
    nothing_written = λ some uncut. refl;
    output_untouched = λ some uncut. refl;
    told = λ some most. subst (WritesLine told_old told_new told_first told_last) (line_is words before now r a.told most) told;
    no_other = at_most_nine words before now r a.told;
  }

  pub promises_kept : (x : Result Texts Refusal) (old new told_old told_new : Option (List ℕ)) (first last told_first told_last status : ℕ) → IsAnswered words (feed_new ≡ feed_old) before now x
      → WritesAnswer x old new told_old told_new first last told_first told_last status
      → KeepsPromises words feed_old feed_new before now old new told_old told_new first last told_first told_last status
  promises_kept (Ok texts) old new told_old told_new first last told_first told_last status a w =
      texts_kept texts old new told_old told_new first last told_first told_last status a w
  promises_kept (Err r) old new told_old told_new first last told_first told_last status a w =
      let kept = refusal_kept r old told_old told_new first told_first told_last a w.told in
      let same_output = subst (λ (o : Option (List ℕ)). KeepsPromises words feed_old feed_new before now old o told_old told_new first first told_first told_last (status_of r)) (sym w.untouched) kept in
      let same_faults = subst (λ (n : ℕ). KeepsPromises words feed_old feed_new before now old new told_old told_new first n told_first told_last (status_of r)) (sym w.faultless) same_output in
      subst (KeepsPromises words feed_old feed_new before now old new told_old told_new first last told_first told_last) (sym w.status) same_faults
