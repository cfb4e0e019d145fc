-- Lists of events, and an event that is enabled.
use Rattle.std.proofs.Common.{◌≡◌, ◌≢◌, ◌<◌, ◌≤◌, ◌⊎◌, inl, inr, ◌+◌, ℕ, zero, suc, true, List, [], ◌∷◌, ◌++◌, length, refl, ap, sym, ◌∙◌, subst, arith}
use Rattle.std.specs.Prelude.{nat_lt}
use Rattle.std.proofs.Math.Nat.{add-zero}
use Rattle.std.proofs.lemmas.Bool.{cases_Bool, cases_lt, eq-eqb, lt-ltb, ltb-false}
use Rattle.plan_trees.specs.Distinct.{AreDifferent}
use Rattle.plan_trees.specs.Plans.{PlanTree, leaf, over, both, has, nodes, root_of, subtree_of}
use Rattle.flow_instance.specs.declared.notes.Event.{Event}
use Rattle.flow_instance.specs.declared.notes.Event.TheVariants as events
use Rattle.flow_instance.specs.declared.notes.Want.{Want}
use Rattle.flow_instance.specs.declared.notes.Want.TheVariants.{Take, Put, End, Done}
use Rattle.flow_instance.specs.Instances.{want}
use Rattle.flow_instance.specs.Most as mosts
use Rattle.flow_instance.specs.Most.{AreCallsBounded, most}
use Rattle.flow_instance.specs.Spots.{Setting, ports_of, spot}
use Rattle.flow_instance.specs.Events.{Runs, noted}
use Rattle.flow_instance.specs.Worlds.{History, LocalAt, Stands, World, does_want, enabled, reader_of}
use Rattle.flow_instance.proofs.EventsWithinMost.{bound}
use Rattle.flow_instance.proofs.Counting.{step_counted}
use Rattle.flow_instance.proofs.Events.{step_stands}
use Rattle.plan_trees.proofs.NumbersBelow.{eq_or}
use Rattle.flow_instance.proofs.Stuck.{AreIdle, IsIdle, IsReader, StandsAt, drained, edge_at, fed_whole, is_reader, nothing_there, root_putless}
use Rattle.plan_trees.proofs.EverySubtree.{AllBelow, all_below, all_below-root}
use Rattle.flow_instance.proofs.Trees.{Reads, each_below, edges, read, within}
use Rattle.plan_trees.proofs.SubtreesOfPlans.{root_of-subtree}

-- ---- lists of events

pub runs_stand : (g : Setting) (depth : ℕ) (es : List Event) (w v : World) (h more : History) → AreDifferent (nodes g.physical.tree) → Stands g w h → Runs g depth w h es v more → Stands g v more
runs_stand g depth [] w v h more d st r = subst (λ (x : World). Stands g x more) (sym r.0) (subst (Stands g w) (sym r.1) st)
runs_stand g depth (e ∷ es) w v h more d st r = runs_stand g depth es r.0 v (noted w e h) more d (step_stands g depth w r.0 h e d st r.1 r.2) r.3

pub runs_counted : (g : Setting) (depth : ℕ) (es : List Event) (w v : World) (h more : History) → AreDifferent (nodes g.physical.tree) → Stands g w h → Runs g depth w h es v more
    → mosts.events g v more ≡ mosts.events g w h + length es
runs_counted g depth [] w v h more d st r = (λ i. mosts.events g (r.0 i) (r.1 i)) ∙ sym (add-zero (mosts.events g w h))
runs_counted g depth (e ∷ es) w v h more d st r =
    let rest = runs_counted g depth es r.0 v (noted w e h) more d (step_stands g depth w r.0 h e d st r.1 r.2) r.3 in
    omega (arith, rest, step_counted g depth w r.0 h e d st r.1 r.2)

-- a run has at most `most` events
pub runs_short : (g : Setting) (turns : ℕ → ℕ → ℕ) (depth : ℕ) (es : List Event) (w v : World) (h more : History) → AreDifferent (nodes g.physical.tree) → AreCallsBounded g.ops turns → Stands g w h → Runs g depth w h es v more
    → length es ≤ most g turns
runs_short g turns depth es w v h more d bounded st r = omega (arith, runs_counted g depth es w v h more d st r, bound g turns v more d bounded (runs_stand g depth es w v h more d st r))

-- ---- an event that is enabled

-- either some number below n has P, or all numbers below n have Q
search_below : (n : ℕ) (P Q : ℕ → Type 0) → ((k : ℕ) → k < n → P k ⊎ Q k) → ((k : ℕ) × (k < n) × P k) ⊎ ((k : ℕ) → k < n → Q k)
search_below zero P Q f = inr (λ k less. absurd (omega arith))
search_below (suc n) P Q f = elim (f n (omega arith)) as (λ _. ((k : ℕ) × (k < suc n) × P k) ⊎ ((k : ℕ) → k < suc n → Q k)) [
  | inl p ↦ inl (n, omega arith, p)
  | inr q ↦ elim (search_below n P Q (λ k less. f k (omega arith))) as (λ _. ((k : ℕ) × (k < suc n) × P k) ⊎ ((k : ℕ) → k < suc n → Q k)) [
    | inl p ↦ inl (p.0, omega (arith, p.1), p.2)
    | inr all ↦ inr (λ k less. elim (eq_or n k less) as (λ _. Q k) [ inl e ↦ subst Q (sym e) q | inr below ↦ all k below ])
  ]
]

module _ (g : Setting) (depth : ℕ) (w : World) (h : History) (some : 1 ≤ depth) (pipes : (edge from to : ℕ) → h.put edge from to ≡ h.taken edge from to ++ w.queue edge from to) where
  abbrev CanStep : Type 0
  CanStep = (e : Event) × (enabled g.physical depth w e ≡ true)

  abbrev Idle : PlanTree → ℕ → Type 0
  Idle t k = IsIdle g depth w h some pipes t k

  put_or_idle : (t : PlanTree) (k to : ℕ) → has (root_of t) g.physical.tree ≡ true → k < g.physical.workers → want (w.instance (root_of t) k) ≡ Put to → CanStep ⊎ Idle t k
  put_or_idle t k to there below e =
      let within_k : nat_lt k g.physical.workers ≡ true = lt-ltb k g.physical.workers below in
      let wanted : does_want (want (w.instance (root_of t) k)) (Put to) ≡ true = ap (λ (x : Want). does_want x (Put to)) e ∙ eq-eqb to to refl in
      elim (cases_Bool (nat_lt (length (w.queue (root_of t) k to)) depth)) as (λ _. CanStep ⊎ Idle t k) [
        | inl room ↦ inl (events.Put (record { edge = root_of t; from = k; to = to }), rw (there, within_k, wanted, room) refl)
        | inr full ↦ inr (record {
          full = λ to_too f. let same : to ≡ to_too = (let both_ways : Put to ≡ Put to_too = sym e ∙ f in cc) in
              subst (λ (x : ℕ). depth ≤ length (w.queue (root_of t) k x)) same (ltb-false _ _ full);
          starved = λ port from less from_below f. absurd (let bad : Put to ≡ Take port = sym e ∙ f in cc);
          not_end = λ f. let bad : Put to ≡ End = sym e ∙ f in cc;
        })
      ]

  take_or_idle : (t : PlanTree) (k port : ℕ) → IsReader g depth w h some pipes t → k < g.physical.workers → want (w.instance (root_of t) k) ≡ Take port → CanStep ⊎ Idle t k
  take_or_idle t k port reads below e =
      let within_k : nat_lt k g.physical.workers ≡ true = lt-ltb k g.physical.workers below in
      let wanted : does_want (want (w.instance (root_of t) k)) (Take port) ≡ true = ap (λ (x : Want). does_want x (Take port)) e ∙ eq-eqb port port refl in
      let idle_if : (port < length (ports_of g.physical t) → (from : ℕ) → from < g.physical.workers → w.queue (edge_at (spot g t) port) from k ≡ []) → Idle t k = λ none. record {
        full = λ to f. absurd (let bad : Take port ≡ Put to = sym e ∙ f in cc);
        starved = λ p from less from_below f.
            let same : port ≡ p = (let both_ways : Take port ≡ Take p = sym e ∙ f in cc) in
            subst (λ (x : ℕ). w.queue (edge_at (spot g t) x) from k ≡ []) same (none (subst (λ (x : ℕ). x < length (ports_of g.physical t)) (sym same) less) from from_below);
        not_end = λ f. let bad : Take port ≡ End = sym e ∙ f in cc;
      } in
      elim (cases_lt port (length (ports_of g.physical t))) as (λ _. CanStep ⊎ Idle t k) [
        | inr out ↦ inr (idle_if (λ less. absurd (omega arith)))
        | inl less ↦ elim (search_below g.physical.workers (λ from. nat_lt 0 (length (w.queue (edge_at (spot g t) port) from k)) ≡ true) (λ from. w.queue (edge_at (spot g t) port) from k ≡ [])
            (λ from lt. elim (cases_Bool (nat_lt 0 (length (w.queue (edge_at (spot g t) port) from k)))) as (λ _. (nat_lt 0 (length (w.queue (edge_at (spot g t) port) from k)) ≡ true) ⊎ (w.queue (edge_at (spot g t) port) from k ≡ [])) [
              | inl room ↦ inl room
              | inr empty ↦ inr (nothing_there _ empty)
            ])) as (λ _. CanStep ⊎ Idle t k) [
              | inl f ↦ inl (
                events.Take (record { edge = edge_at (spot g t) port; from = f.0; to = k }),
                (let from_within : nat_lt f.0 g.physical.workers ≡ true = lt-ltb f.0 g.physical.workers f.1 in
                    let there : nat_lt 0 (length (w.queue (edge_at (spot g t) port) f.0 k)) ≡ true = f.2 in
                    rw (from_within, within_k, reads port less, wanted, there) refl),
              )
              | inr none ↦ inr (idle_if (λ l. none))
            ]
      ]

  step_or_idle : (t : PlanTree) (k : ℕ) → has (root_of t) g.physical.tree ≡ true → IsReader g depth w h some pipes t → k < g.physical.workers → (x : Want) → want (w.instance (root_of t) k) ≡ x → CanStep ⊎ Idle t k
  step_or_idle t k there reads below (Put to) e = put_or_idle t k to there below e
  step_or_idle t k there reads below (Take port) e = take_or_idle t k port reads below e
  step_or_idle t k there reads below End e =
      let within_k : nat_lt k g.physical.workers ≡ true = lt-ltb k g.physical.workers below in
      let wanted : does_want (want (w.instance (root_of t) k)) End ≡ true = ap (λ (x : Want). does_want x End) e in
      inl (events.End (root_of t) k, rw (there, within_k, wanted) refl)
  step_or_idle t k there reads below Done e = inr (record {
    full = λ to f. absurd (let bad : Done ≡ Put to = sym e ∙ f in cc);
    starved = λ port from less from_below f. absurd (let bad : Done ≡ Take port = sym e ∙ f in cc);
    not_end = λ f. let bad : Done ≡ End = sym e ∙ f in cc;
  })

  here : (t : PlanTree) → has (root_of t) g.physical.tree ≡ true → IsReader g depth w h some pipes t → CanStep ⊎ AreIdle g depth w h some pipes t
  here t there reads = elim (search_below g.physical.workers (λ k. CanStep) (Idle t) (λ k less. step_or_idle t k there reads less (want (w.instance (root_of t) k)) refl)) as (λ _. CanStep ⊎ AreIdle g depth w h some pipes t) [
    | inl f ↦ inl f.2
    | inr idle ↦ inr idle
  ]

  everywhere : (t : PlanTree) → AllBelow (λ s. has (root_of s) g.physical.tree ≡ true) t → AllBelow (Reads (λ e. reader_of e g.physical.tree)) t → CanStep ⊎ AllBelow (AreIdle g depth w h some pipes) t
  everywhere (leaf n) there r = here (leaf n) there (is_reader g depth w h some pipes (leaf n) r)
  everywhere (over n t) there r = elim (here (over n t) there.0 (is_reader g depth w h some pipes (over n t) r.0)) as (λ _. CanStep ⊎ AllBelow (AreIdle g depth w h some pipes) (over n t)) [
    | inl f ↦ inl f
    | inr top ↦ elim (everywhere t there.1 r.1) as (λ _. CanStep ⊎ AllBelow (AreIdle g depth w h some pipes) (over n t)) [ inl f ↦ inl f | inr below ↦ inr (top, below) ]
  ]
  everywhere (both n t u) there r = elim (here (both n t u) there.0 (is_reader g depth w h some pipes (both n t u) r.0)) as (λ _. CanStep ⊎ AllBelow (AreIdle g depth w h some pipes) (both n t u)) [
    | inl f ↦ inl f
    | inr top ↦ elim (everywhere t there.1 r.1) as (λ _. CanStep ⊎ AllBelow (AreIdle g depth w h some pipes) (both n t u)) [
      | inl f ↦ inl f
      | inr left ↦ elim (everywhere u there.2 r.2) as (λ _. CanStep ⊎ AllBelow (AreIdle g depth w h some pipes) (both n t u)) [ inl f ↦ inl f | inr right ↦ inr (top, left, right) ]
    ]
  ]

-- a world that isn't done has an enabled event
pub some_event : (g : Setting) (depth : ℕ) (w : World) (h : History) → AreDifferent (nodes g.physical.tree) → 1 ≤ depth → Stands g w h → (at k : ℕ) → has at g.physical.tree ≡ true → k < g.physical.workers → want (w.instance at k) ≢ Done
    → (e : Event) × (enabled g.physical depth w e ≡ true)
some_event g depth w h d some st at k there below undone =
    let tree = g.physical.tree in
    let all = all_below (StandsAt g w h) tree d (λ m in_tree j lt. subst (λ (n : ℕ). LocalAt g w h (subtree_of m tree) n j) (sym (root_of-subtree m tree in_tree)) (st.instances m j in_tree lt)) in
    elim (everywhere g depth w h some st.pipe tree (within (λ m. has m tree ≡ true) tree (λ m t. t)) (read tree d)) as (λ _. (e : Event) × (enabled g.physical depth w e ≡ true)) [
      | inl f ↦ f
      | inr idle ↦
          let done = drained g depth w h some st.pipe tree all idle (fed_whole g depth w h some st.pipe tree (edges tree d)) (root_putless g depth w h some st.pipe tree refl (all_below-root (StandsAt g w h) tree all)) in
          absurd (undone (each_below (λ n. (j : ℕ) → j < g.physical.workers → want (w.instance n j) ≡ Done) tree done at there k below))
    ]
