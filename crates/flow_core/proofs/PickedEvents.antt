-- The events that numbers pick from are those that are enabled, and what picked ones lead to.
use Rattle.std.proofs.Common.{◌≡◌, ◌<◌, ◌+◌, ◌%◌, ◌++◌, ◌∷◌, ◌⊎◌, ◌&&◌, [], inl, inr, ℕ, zero, suc, Bool, true, false, if◌then◌else◌, nat_lt, Option, None, Some, List, get_or, length, slice_get, refl, ap, subst, sym, ◌∙◌, arith}
use Rattle.std.specs.List.{AllByRecursion}
use Rattle.std.proofs.lemmas.Bool.{and_parts, cases_eq, false_from_ne_true}
use Rattle.std.proofs.lemmas.Nat.{mod_below}
use Rattle.std.proofs.lemmas.Option.{none-some, slice_get-get_or, slice_get_past}
use Rattle.pact_bag.specs.declared.outcomes.Outcome.{Outcome}
use Rattle.pact_operators.specs.Allowed.{Bag, Counted}
use Rattle.pact_operators.specs.Inputs.{AreInputsOf}
use Rattle.pact_operators.specs.PlanOps.{plan_ops}
use Rattle.pact_operators.specs.Programs.{IsPlanOf, IsProgram, ProgramData}
use Rattle.pact_record.proofs.Lists.{AllByRecursion-append, AllByRecursion-slice_get}
use Rattle.plan_trees.specs.Physicals.{IsPhysical, PhysicalData}
use Rattle.plan_trees.specs.Plans.{node_limit}
use Rattle.plan_trees.proofs.Ships.{below_limit}
use Rattle.ship_strategy.specs.PlanFacts.{facts_of}
use Rattle.ship_strategy.specs.Ships.{LegalShip}
use Rattle.flow_instance.specs.declared.notes.Event.{Event}
use Rattle.flow_instance.specs.declared.notes.Event.TheVariants as events
use Rattle.flow_instance.specs.declared.notes.PipeId.{PipeId}
use Rattle.flow_instance.specs.declared.notes.Want.{Want}
use Rattle.flow_instance.specs.declared.notes.Want.TheVariants as wants
use Rattle.flow_instance.specs.Spots.{Setting, setting}
use Rattle.flow_instance.specs.Spread.{Spread}
use Rattle.flow_instance.specs.Worlds.{History, IsStuck, World, can_take, enabled, reader_of}
use Rattle.flow_core.specs.Outcomes.{IsWorldOutcome}
use Rattle.flow_core.specs.Picks.{GoesByPick, IsLed, enabled_events, events_by, events_of, if_enabled, joined_below, picked_from, takes_from}
use Rattle.flow_core.specs.Replays.{IsReached}
use Rattle.flow_core.specs.PlanTables.{input_in}
use Rattle.flow_core.specs.Worlds.{IsStanding, StandsForSome, WorldData}
use Rattle.flow_core.proofs.EventsOfWants.{is_found, place_end, place_put, reads_input, told_end, told_put, told_take}
use Rattle.flow_core.proofs.RunAlone.{reached_more, reached_none}

-- ---- lists of the numbers below one

all_joined : {X : Type 0} (P : X → Type 0) (n : ℕ) (f : ℕ → List X) → ((k : ℕ) → AllByRecursion P (f k)) → AllByRecursion P (joined_below n f)
all_joined P zero f h = tt
all_joined P (suc n) f h = AllByRecursion-append P (joined_below n f) (f n) (all_joined P n f h) (h n)

-- the list has it
abbrev IsIn : {X : Type 0} → X → List X → Type 0
IsIn x [] = ⊥
IsIn x (y ∷ ys) = (x ≡ y) ⊎ IsIn x ys

in_front : {X : Type 0} (x : X) (xs ys : List X) → IsIn x xs → IsIn x (xs ++ ys)
in_front x [] ys h = absurd h
in_front x (y ∷ xs) ys (inl e) = inl e
in_front x (y ∷ xs) ys (inr h) = inr (in_front x xs ys h)

in_back : {X : Type 0} (x : X) (xs ys : List X) → IsIn x ys → IsIn x (xs ++ ys)
in_back x [] ys h = h
in_back x (y ∷ xs) ys h = inr (in_back x xs ys h)

in_joined : {X : Type 0} (x : X) (n : ℕ) (f : ℕ → List X) (k : ℕ) → k < n → IsIn x (f k) → IsIn x (joined_below n f)
in_joined x zero f k less h = absurd (omega (arith, less))
in_joined x (suc n) f k less h = elim (cases_eq k n) as (λ _. IsIn x (joined_below n f ++ f n)) [
  | inl e ↦ in_back x (joined_below n f) (f n) (subst (λ (m : ℕ). IsIn x (f m)) e h)
  | inr other ↦ in_front x (joined_below n f) (f n) (in_joined x n f k (omega (arith, less, other)) h)
]

-- ---- what is listed is enabled, and what is enabled is listed

module _ (p : PhysicalData) (depth : ℕ) (w : World) where
  abbrev On : Event → Type 0
  On e = enabled p depth w e ≡ true

  one_on : (e : Event) → AllByRecursion On (if_enabled p depth w e)
  one_on e = by_test (enabled p depth w e) refl
    where
      by_test : (b : Bool) → enabled p depth w e ≡ b → AllByRecursion On (if b then e ∷ [] else [])
      by_test true on = (on, tt)
      by_test false off = tt

  takes_on : (worker : ℕ) (edge : Option ℕ) → AllByRecursion On (takes_from p depth w worker edge)
  takes_on worker None = tt
  takes_on worker (Some edge) = all_joined On p.workers (λ from. if_enabled p depth w (events.Take (record { edge = edge; from = from; to = worker }))) (λ from. one_on (events.Take (record { edge = edge; from = from; to = worker })))

  wanted_on : (at worker : ℕ) (x : Want) → AllByRecursion On (events_by p depth w at worker x)
  wanted_on at worker (wants.Put to) = one_on (events.Put (record { edge = at; from = worker; to = to }))
  wanted_on at worker (wants.Take port) = takes_on worker (input_in p.tree at port)
  wanted_on at worker wants.End = one_on (events.End at worker)
  wanted_on at worker wants.Done = tt

  pub all_on : AllByRecursion On (enabled_events p depth w)
  all_on =
      all_joined On node_limit (λ at. joined_below p.workers (λ worker. events_of p depth w at worker))
      (λ at. all_joined On p.workers (λ worker. events_of p depth w at worker) (λ worker. wanted_on at worker _))

  one_in : (e : Event) → On e → IsIn e (if_enabled p depth w e)
  one_in e on = subst (λ (b : Bool). IsIn e (if b then e ∷ [] else [])) (sym on) (inl refl)

  -- an event of the instance on a worker
  at_place : (e : Event) (at worker : ℕ) → at < node_limit → worker < p.workers → IsIn e (events_of p depth w at worker) → IsIn e (enabled_events p depth w)
  at_place e at worker few less h =
      in_joined e node_limit (λ n. joined_below p.workers (λ k. events_of p depth w n k)) at few (in_joined e p.workers (λ k. events_of p depth w at k) worker less h)

  take_in : IsPhysical p → (q : PipeId) (o : Option (ℕ × ℕ)) → reader_of q.edge p.tree ≡ o → On (events.Take q) → IsIn (events.Take q) (enabled_events p depth w)
  take_in k q None r on =
      let can = subst (λ (o : Option (ℕ × ℕ)). can_take w q o ≡ true) r (and_parts (nat_lt q.from p.workers && nat_lt q.to p.workers) _ on).1 in
      cc
  take_in k q (Some x) r on =
      let t = told_take p depth w q x.0 x.1 r on in
      let f = is_found p q.edge x.0 x.1 k r in
      let each : IsIn (events.Take q) (takes_from p depth w q.to (Some q.edge)) = in_joined (events.Take q) p.workers (λ from. if_enabled p depth w (events.Take (record { edge = q.edge; from = from; to = q.to }))) q.from t.from (one_in (events.Take q) on) in
      at_place (events.Take q) x.0 q.to (below_limit x.0 p.tree k.plan f.has_reader) t.to
      (subst (λ (x' : Want). IsIn (events.Take q) (events_by p depth w x.0 q.to x')) (sym t.wanted)
      (subst (λ (o : Option ℕ). IsIn (events.Take q) (takes_from p depth w q.to o)) (sym (reads_input p q.edge x.0 x.1 k r)) each))

  each_in : IsPhysical p → (e : Event) → On e → IsIn e (enabled_events p depth w)
  each_in k (events.Put q) on =
      let place = place_put p depth w q on in
      at_place (events.Put q) q.edge q.from (below_limit q.edge p.tree k.plan place.0) place.1
      (subst (λ (x : Want). IsIn (events.Put q) (events_by p depth w q.edge q.from x)) (sym (told_put p depth w q on)) (one_in (events.Put q) on))
  each_in k (events.Take q) on = take_in k q (reader_of q.edge p.tree) refl on
  each_in k (events.End at worker) on =
      let place = place_end p depth w at worker on in
      at_place (events.End at worker) at worker (below_limit at p.tree k.plan place.0) place.1
      (subst (λ (x : Want). IsIn (events.End at worker) (events_by p depth w at worker x)) (sym (told_end p depth w at worker on)) (one_in (events.End at worker) on))

  -- what is picked is enabled
  pub picked_on : (pick : ℕ) (e : Event) → Some e ≡ picked_from (enabled_events p depth w) pick → On e
  picked_on pick e is = AllByRecursion-slice_get On (enabled_events p depth w) (pick % length (enabled_events p depth w)) e all_on (sym is)

  -- and if nothing is picked, no event can happen
  pub stuck_if_none : IsPhysical p → (pick : ℕ) → picked_from (enabled_events p depth w) pick ≡ None → IsStuck p depth w
  stuck_if_none k pick none e = false_from_ne_true (enabled p depth w e) (λ (on : enabled p depth w e ≡ true). in_none (enabled_events p depth w) none (each_in k e on))
    where
      in_none : (list : List Event) → picked_from list pick ≡ None → IsIn e list → ⊥
      in_none [] none h = h
      in_none (x ∷ list) none h =
          none-some _ (sym none ∙ slice_get-get_or (x ∷ list) (pick % length (x ∷ list)) x (mod_below pick (length (x ∷ list)) (omega arith)))

-- the event at the place in a list that is equal
pub picked_at : (list items : List Event) (pick n : ℕ) (e d : Event) → items ≡ list → n ≡ length items → 0 < n → e ≡ get_or items (pick % n) d → Some e ≡ picked_from list pick
picked_at list items pick n e d is long some at =
    let here : Some e ≡ picked_from items pick =
    ap Some at ∙ sym (slice_get-get_or items (pick % n) d (subst (λ (k : ℕ). pick % n < k) long (mod_below pick n some))) ∙ ap (λ (k : ℕ). slice_get items (pick % k)) long in
    here ∙ ap (λ (l : List Event). picked_from l pick) is

pub picked_empty : (list : List Event) (pick : ℕ) → length list ≡ 0 → picked_from list pick ≡ None
picked_empty list pick none = slice_get_past list (pick % length list) (omega (arith, none))

-- ---- runs

pub went : (w v : WorldData) (pick : ℕ) (b : Bool) → b ≡ true → GoesByPick w pick b v → IsReached w 1 v
went w v pick b e h = (subst (λ (x : Bool). GoesByPick w pick x v) e h).reached

pub stayed : (w v : WorldData) (pick : ℕ) (b : Bool) → b ≡ false → GoesByPick w pick b v → v ≡ w
stayed w v pick b e h = (subst (λ (x : Bool). GoesByPick w pick x v) e h).0

pub led_none : (w : WorldData) → StandsForSome w → IsLed w w
led_none w some = record { count = 0; reached = reached_none w some }

pub led_more : (w u v : WorldData) → IsLed w u → IsReached u 1 v → IsLed w v
led_more w u v l r = record { count = l.count + 1; reached = reached_more w u v l.count l.reached r }

pub led_same : (w u v : WorldData) → IsLed w u → v ≡ u → IsLed w v
led_same w u v l e = subst (IsLed w) (sym e) l

-- the outcome of the world after the picked events is one of the world before them
pub led_spread : (w v : WorldData) (rows : Bag) (counts : List ℕ) → IsLed w v → ((g : Setting) (h : History) → IsStanding g v h → Spread g rows counts) → (g : Setting) (h : History) → IsStanding g w h → Spread g rows counts
led_spread w v rows counts l f g h s = let m = l.reached.each g h s in f g m.0 m.1

pub led_counted : (w v : WorldData) (rows : Bag) (counts : List ℕ) → IsLed w v
    → ((p : ProgramData) (inputs : List Bag) (h : History) → IsProgram p → AreInputsOf p inputs → IsPlanOf p.functions p.ops v.physical.tree → LegalShip (facts_of p v.physical.tree) v.physical → IsStanding (setting p inputs v.physical) v h
    → Counted (plan_ops p inputs) v.physical.tree rows counts)
    → (p : ProgramData) (inputs : List Bag) (h : History) → IsProgram p → AreInputsOf p inputs → IsPlanOf p.functions p.ops w.physical.tree → LegalShip (facts_of p w.physical.tree) w.physical → IsStanding (setting p inputs w.physical) w h
    → Counted (plan_ops p inputs) w.physical.tree rows counts
led_counted w v rows counts l f p inputs h is are =
    subst (λ (q : PhysicalData). IsPlanOf p.functions p.ops q.tree → LegalShip (facts_of p q.tree) q → IsStanding (setting p inputs q) w h → Counted (plan_ops p inputs) q.tree rows counts) l.reached.physical (λ plan legal s.
    let m = l.reached.each (setting p inputs v.physical) h s in
    f p inputs m.0 is are plan legal m.1)

-- what a run leaves after the picked events is what a run from before them leaves
pub led_outcome : (w v : WorldData) (o : Outcome) → IsLed w v → IsWorldOutcome v o → IsWorldOutcome w o
led_outcome w v o l f = record {
  spread = led_spread w v o.rows o.counts l f.spread;
  counted = led_counted w v o.rows o.counts l f.counted;
  widths = λ g h s. let m = l.reached.each g h s in f.widths g m.0 m.1;
  counts = λ p plan. f.counts p (subst (λ (q : PhysicalData). IsPlanOf p.functions p.ops q.tree) (sym l.reached.physical) plan);
}
