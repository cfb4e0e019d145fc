-- One event more.
use Rattle.std.proofs.Common.{◌≡◌, ◌<◌, ◌≤◌, ◌+◌, ◌++◌, ◌∷◌, [], ℕ, true, false, List, Some, slice_get, OnOk, Result, Ok, Err, get_or, length, refl, subst, sym, take, ◌∙◌}
use Rattle.std.specs.Prelude.{is_err}
use Rattle.std.proofs.lemmas.List.{take_more}
use Rattle.std.proofs.lemmas.Option.{same_Some, slice_get-get_or}
use Rattle.pact_operators.specs.Allowed.{Bag}
use Rattle.pact_operators.specs.Programs.{ProgramData}
use Rattle.plan_trees.specs.Physicals.{PhysicalData}
use Rattle.flow_instance.specs.declared.notes.Event.{Event}
use Rattle.flow_instance.specs.Events.{Runs, Steps, noted}
use Rattle.flow_instance.specs.Spots.{Setting, setting}
use Rattle.flow_instance.specs.Most.{most, program_turns}
use Rattle.flow_instance.proofs.CallTurns.{bounded_program}
use Rattle.flow_instance.proofs.Runs.{runs_short}
use Rattle.flow_instance.specs.Worlds.{History, World, enabled}
use Rattle.flow_core.specs.Replays.{IsReplayed}
use Rattle.flow_core.specs.Worlds.{IsStanding, StandsForSome, WorldData, seen}

runs-last : (g : Setting) (depth : ℕ) (es : List Event) (e : Event) (w u v : World) (h more : History) → Runs g depth w h es u more → enabled g.physical depth u e ≡ true → Steps g u e v
    → Runs g depth w h (es ++ e ∷ []) v (noted u e more)
runs-last g depth [] e w u v h more r can step =
    (v, subst (λ (x : World). enabled g.physical depth x e ≡ true) r.0 can, subst (λ (x : World). Steps g x e v) r.0 step, (refl, λ i. noted (r.0 i) e (r.1 i)))
runs-last g depth (x ∷ es) e w u v h more r can step = (r.0, r.1, r.2, runs-last g depth es e r.0 u v (noted w x h) more r.3 can step)

pub replayed-last : (w u v : WorldData) (es : List Event) (e : Event) → IsReplayed w es u → enabled u.physical u.depth (seen u) e ≡ true
    → ((g : Setting) (h : History) → IsStanding g u h → Steps g (seen u) e (seen v)) → ((g : Setting) (h : History) → IsStanding g u h → IsStanding g v (noted (seen u) e h))
    → v.physical ≡ u.physical → v.depth ≡ u.depth → StandsForSome v → IsReplayed w (es ++ e ∷ []) v
replayed-last w u v es e r can steps stands same deep some = record {
  runs = λ g h st.
      let before = r.runs g h st in
      let can_too : enabled g.physical w.depth (seen u) e ≡ true = subst (λ (n : ℕ). enabled g.physical n (seen u) e ≡ true) r.depth (subst (λ (q : PhysicalData). enabled q u.depth (seen u) e ≡ true) before.2.physical can) in
      (noted (seen u) e before.0, runs-last g w.depth es e (seen w) (seen u) (seen v) h before.0 before.1 can_too (steps g before.0 before.2), stands g before.0 before.2);
  physical = same ∙ r.physical;
  depth = deep ∙ r.depth;
  stands = some;
}

-- by a step that didn't fail
pub replayed-next : {X Y : Type 0} (w u v : WorldData) (events : List Event) (n : ℕ) (d : Event) (r : Result X Y) → n < length events → IsReplayed w (take n events) u → is_err r ≡ false
    → enabled u.physical u.depth (seen u) (get_or events n d) ≡ true
    → OnOk r ((g : Setting) (h : History) → IsStanding g u h → Steps g (seen u) (get_or events n d) (seen v))
    → OnOk r ((g : Setting) (h : History) → IsStanding g u h → IsStanding g v (noted (seen u) (get_or events n d) h))
    → v.physical ≡ u.physical → v.depth ≡ u.depth → OnOk r (StandsForSome v) → IsReplayed w (take (n + 1) events) v
replayed-next w u v events n d (Err e) less before ok can steps stands same deep some = absurd (let clash : true ≡ false = ok in cc)
replayed-next w u v events n d (Ok x) less before ok can steps stands same deep some =
    subst (λ (es : List Event). IsReplayed w es v) (sym (take_more events n d less)) (replayed-last w u v (take n events) (get_or events n d) before can steps stands same deep some)

-- no list of events that can be replayed is longer than the bound
pub replayed_short : (w v : WorldData) (events : List Event) → StandsForSome w → IsReplayed w events v → (p : ProgramData) (inputs : List Bag) (h : History) → IsStanding (setting p inputs w.physical) w h
    → length events ≤ most (setting p inputs w.physical) (program_turns p)
replayed_short w v events s r p inputs h st =
    let g = setting p inputs w.physical in
    let m = r.runs g h st in
    runs_short g (program_turns p) w.depth events (seen w) (seen v) h m.0 s.is_physical.plan.different (bounded_program p inputs) st.stands m.1

-- an event that isn't enabled is the first one
pub stopped_at : (w u : WorldData) (events : List Event) (n : ℕ) (d : Event) → n < length events → IsReplayed w (take n events) u → enabled u.physical u.depth (seen u) (get_or events n d) ≡ false
    → (n < length events) × IsReplayed w (take n events) u × ((e : Event) → slice_get events n ≡ Some e → enabled u.physical u.depth (seen u) e ≡ false)
stopped_at w u events n d less before off = (
  less,
  before,
  λ e is. subst (λ (x : Event). enabled u.physical u.depth (seen u) x ≡ false) (same_Some (get_or events n d) e (sym (slice_get-get_or events n d less) ∙ is)) off,
)
