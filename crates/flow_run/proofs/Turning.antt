-- A turn over the instances of a worker.
use Rattle.std.proofs.Common.{◌≡◌, ◌<◌, ◌≤◌, inl, inr, ℕ, suc, false, List, length, sym, ◌∙◌, subst, arith}
use Rattle.std.proofs.lemmas.Bool.{cases_eq}
use Rattle.flow_instance.specs.declared.notes.Note.{Note}
use Rattle.flow_instance.specs.declared.notes.Want.{Want}
use Rattle.flow_instance.specs.declared.notes.Want.TheVariants.{Take, Put, End, Done}
use Rattle.flow_instance.specs.Instances.{Instance, want}
use Rattle.flow_run.specs.declared.attempts.Attempt.{Attempt}
use Rattle.flow_run.specs.declared.attempts.Attempt.TheVariants.{Progress, Blocked, Exhausted}
use Rattle.flow_run.specs.Ends.{ArePuts, AreTakes, EndTable, PipeTables}
use Rattle.flow_run.specs.WorkerStates.{AllHeld, WorkerState, Happens, Held, HeldAt, IsReady, Rests, Works, worker_state, happened, nothing, rested}
use Rattle.flow_run.specs.Tries.{HasStepped, AfterAttempt, and_then, is_progress}
use Rattle.flow_run.proofs.ReadyWorkers.{ready_after}

pub join_works : (worker n m : ℕ) (a b c : WorkerState) → m ≡ n → Works worker n a b → Works worker m b c → Works worker n a c
join_works worker n m a b c same front nothing = front
join_works worker n m a b c same front (rested at back less h) = rested at (join_works worker n m a b _ same front back) (omega (arith, less, same)) h
join_works worker n m a b c same front (happened at back less h) = happened at (join_works worker n m a b _ same front back) (omega (arith, less, same)) h

module _ (pipes : PipeTables) (worker : ℕ) where
  held_put : (b c : WorkerState) (k : ℕ) (w : Want) → ((to : ℕ) → c.put k to ≡ b.put k to) → Held pipes worker b k w → Held pipes worker c k w
  held_put b c k (Take port) same h = tt
  held_put b c k (Put to) same h = (h.0, h.1, subst (λ (ns : List Note). h.0.depth ≤ length ns) (sym (same to)) h.2)
  held_put b c k End same h = h
  held_put b c k Done same h = tt

  held_same : (b c : WorkerState) (k : ℕ) → c.instance k ≡ b.instance k → ((to : ℕ) → c.put k to ≡ b.put k to) → HeldAt pipes worker b k → HeldAt pipes worker c k
  held_same b c k same puts h = subst (λ (i : Instance). Held pipes worker c k (want i)) (sym same) (held_put b c k (want (b.instance k)) puts h)

  held_more : (b c : WorkerState) (at n : ℕ) → n ≡ suc at → AllHeld pipes worker at b → Rests b at c → HeldAt pipes worker c at → AllHeld pipes worker n c
  held_more b c at n is held rests here k less = elim (cases_eq k at) as (λ _. HeldAt pipes worker c k) [
    | inl e ↦ subst (HeldAt pipes worker c) (sym e) here
    | inr other ↦ held_same b c k (rests.others k other) (rests.put k) (held k (omega (arith, less, is, other)))
  ]

  -- what holds after the first attempts of a turn
  abbrev pub Turned : (fields : ℕ) → List Instance → EndTable → EndTable → List Instance → EndTable → EndTable → Attempt → ℕ → Type 0
  Turned fields i0 p0 t0 i p t attempt at =
      IsReady fields worker pipes i p t × (length i ≡ length i0) × Works worker (length i0) (worker_state i0 p0 t0) (worker_state i p t) × AfterAttempt attempt (Unit {0}) (AllHeld pipes worker at (worker_state i p t))

  module _ (fields : ℕ) (i0 : List Instance) (p0 t0 : EndTable) (i : List Instance) (p t : EndTable) (i' : List Instance) (p' t' : EndTable) (at n : ℕ) (is : n ≡ suc at) (less : at < length i0)
      (same : length i' ≡ length i) (puts : ArePuts pipes worker p') (takes : AreTakes pipes worker t') where
    moved : (attempt : Attempt) → Turned fields i0 p0 t0 i p t attempt at → Happens worker (worker_state i p t) at (worker_state i' p' t') → Turned fields i0 p0 t0 i' p' t' Progress n
    moved attempt h e = (
      ready_after fields worker pipes i i' p t p' t' h.0 (happened at nothing (omega (arith, less, h.1)) e) same puts takes,
      same ∙ h.1,
      happened at h.2 less e,
      tt,
    )

    stayed : (attempt now : Attempt) → Turned fields i0 p0 t0 i p t attempt at → Rests (worker_state i p t) at (worker_state i' p' t') → AfterAttempt now (Unit {0}) (AllHeld pipes worker n (worker_state i' p' t')) → Turned fields i0 p0 t0 i' p' t' now n
    stayed attempt now h e held = (
      ready_after fields worker pipes i i' p t p' t' h.0 (rested at nothing (omega (arith, less, h.1)) e) same puts takes,
      same ∙ h.1,
      rested at h.2 less e,
      held,
    )

    pub turn_more : (attempt now : Attempt) → Turned fields i0 p0 t0 i p t attempt at → HasStepped pipes worker (worker_state i p t) at (worker_state i' p' t') now → Turned fields i0 p0 t0 i' p' t' (and_then attempt now) n
    turn_more Progress Progress h e = moved Progress h e
    turn_more Blocked Progress h e = moved Blocked h e
    turn_more Exhausted Progress h e = moved Exhausted h e
    turn_more Progress Blocked h e = stayed Progress Progress h e.0 tt
    turn_more Progress Exhausted h e = stayed Progress Progress h e.0 tt
    turn_more Blocked Blocked h e = stayed Blocked Blocked h e.0 (held_more (worker_state i p t) (worker_state i' p' t') at n is h.3 e.0 e.1)
    turn_more Blocked Exhausted h e = stayed Blocked Exhausted h e.0 (held_more (worker_state i p t) (worker_state i' p' t') at n is h.3 e.0 e.1)
    turn_more Exhausted Blocked h e = stayed Exhausted Exhausted h e.0 (held_more (worker_state i p t) (worker_state i' p' t') at n is h.3 e.0 e.1)
    turn_more Exhausted Exhausted h e = stayed Exhausted Exhausted h e.0 (held_more (worker_state i p t) (worker_state i' p' t') at n is h.3 e.0 e.1)

  pub all_held : (count at : ℕ) (b : WorkerState) (attempt : Attempt) → count ≤ at → AfterAttempt attempt (Unit {0}) (AllHeld pipes worker at b) → AfterAttempt attempt (Unit {0}) (AllHeld pipes worker count b)
  all_held count at b Progress whole h = tt
  all_held count at b Blocked whole h = λ k less. h k (omega (arith, less, whole))
  all_held count at b Exhausted whole h = λ k less. h k (omega (arith, less, whole))

pub progress_or_held : {A : Type 0} (t : Attempt) → is_progress t ≡ false → AfterAttempt t (Unit {0}) A → A
progress_or_held Progress e h = absurd (cc)
progress_or_held Blocked e h = h
progress_or_held Exhausted e h = h
