-- Each event is counted once.
use Rattle.std.proofs.Common.{◌≡◌, ◌≢◌, ◌<◌, inl, inr, ◌||◌, ◌+◌, ◌==◌, ℕ, zero, suc, Bool, true, false, Option, Some, None, List, [], ◌∷◌, ◌++◌, length, refl, ap, sym, ◌∙◌, subst, arith, length-append}
use Rattle.std.specs.Prelude.{nat_lt}
use Rattle.std.proofs.lemmas.Bool.{and_parts, cases_eq, eqb-true, or_cases, false_from_ne_true}
use Rattle.pact_operators.specs.Allowed.{Bag}
use Rattle.plan_trees.specs.Distinct.{AreDifferent}
use Rattle.plan_trees.specs.Plans.{PlanTree, leaf, over, both, has, nodes}
use Rattle.plan_trees.proofs.DifferentNumbers.{IsAbsent-not, IsIn, IsIn-left, IsIn-right, AreDifferent-parts}
use Rattle.flow_instance.specs.declared.notes.Note.{Note}
use Rattle.flow_instance.specs.declared.notes.PipeId.{PipeId}
use Rattle.flow_instance.specs.declared.notes.Event.{Event}
use Rattle.flow_instance.specs.declared.notes.Event.TheVariants as events
use Rattle.flow_instance.specs.declared.notes.Want.{Want}
use Rattle.flow_instance.specs.declared.notes.Want.TheVariants.{Take, End, Done}
use Rattle.flow_instance.specs.Instances.{Instance, port_ended, want, want_by}
use Rattle.flow_instance.specs.Local.{one_if}
use Rattle.flow_instance.specs.Most.{done_at, events_at, notes_on, tree_sum}
use Rattle.flow_instance.specs.Most as mosts
use Rattle.flow_instance.specs.Spots.{Setting}
use Rattle.flow_instance.specs.Spread.{sum_below}
use Rattle.flow_instance.specs.Steps.{finish, next_note}
use Rattle.flow_instance.specs.Events.{Ends, OthersSame, Puts, Steps, Takes, TakesBy, added, first_note, noted}
use Rattle.flow_instance.specs.Worlds.{History, Stands, World, can_take, does_want, enabled, reader_of}
use Rattle.flow_instance.proofs.Events.{may_end, may_put, may_take, receiver_below, wants_take}
use Rattle.flow_instance.proofs.LocalAfterPuts.{ending_by, not_finished, putting_by}
use Rattle.flow_instance.proofs.LocalAfterTakes.{not_all, taking_by}
use Rattle.flow_instance.proofs.StandsAfterEvents.{added_elsewhere, added_here, other_edge, other_from, other_to}
use Rattle.flow_instance.proofs.Readers.{found}
use Rattle.plan_trees.proofs.NodesOfTrees.{nodes-has}

-- ---- sums in which one term changes

pub sum-same : (n : ℕ) (f h : ℕ → ℕ) → ((k : ℕ) → k < n → h k ≡ f k) → sum_below n h ≡ sum_below n f
sum-same zero f h e = refl
sum-same (suc n) f h e = λ i. sum-same n f h (λ k less. e k (omega arith)) i + e n (omega arith) i

pub sum-one : (n k : ℕ) (f h : ℕ → ℕ) → k < n → h k ≡ f k + 1 → ((j : ℕ) → j ≢ k → h j ≡ f j) → sum_below n h ≡ sum_below n f + 1
sum-one zero k f h less here there = absurd (omega arith)
sum-one (suc n) k f h less here there = elim (cases_eq n k) as (λ _. sum_below (suc n) h ≡ sum_below (suc n) f + 1) [
  | inl e ↦
      let last : h n ≡ f n + 1 = subst (λ (j : ℕ). h j ≡ f j + 1) (sym e) here in
      omega (arith, last, sum-same n f h (λ j below. there j (λ q. omega (arith, q, e))))
  | inr other ↦ omega (arith, sum-one n k f h (omega arith) here there, there n other)
]

pub tree-same : (f h : ℕ → ℕ) (t : PlanTree) → ((n : ℕ) → IsIn n (nodes t) → h n ≡ f n) → tree_sum h t ≡ tree_sum f t
tree-same f h (leaf n) e = e n (inl refl)
tree-same f h (over n t) e = λ i. e n (inl refl) i + tree-same f h t (λ m there. e m (inr there)) i
tree-same f h (both n t u) e = λ i. e n (inl refl) i + (tree-same f h t (λ m there. e m (inr (IsIn-left m (nodes t) (nodes u) there))) i + tree-same f h u (λ m there. e m (inr (IsIn-right m (nodes t) (nodes u) there))) i)

pub tree-one : (f h : ℕ → ℕ) (m : ℕ) (t : PlanTree) → AreDifferent (nodes t) → has m t ≡ true → h m ≡ f m + 1 → ((n : ℕ) → n ≢ m → h n ≡ f n) → tree_sum h t ≡ tree_sum f t + 1
tree-one f h m (leaf n) d there here e = let same : m ≡ n = eqb-true m n there in subst (λ (x : ℕ). h x ≡ f x + 1) same here
tree-one f h m (over n t) d there here e = elim (cases_eq m n) as (λ _. tree_sum h (over n t) ≡ tree_sum f (over n t) + 1) [
  | inl same ↦
      let top : h n ≡ f n + 1 = subst (λ (x : ℕ). h x ≡ f x + 1) same here in
      omega (arith, top, tree-same f h t (λ k in_t. e k (λ q. IsAbsent-not n (nodes t) d.0 (subst (λ (x : ℕ). IsIn x (nodes t)) (q ∙ same) in_t))))
  | inr other ↦ elim (or_cases (m == n) (has m t) there) as (λ _. tree_sum h (over n t) ≡ tree_sum f (over n t) + 1) [
    | inl bad ↦ absurd (other (eqb-true m n bad))
    | inr below ↦ omega (arith, e n (λ q. other (sym q)), tree-one f h m t d.1 below here e)
  ]
]
tree-one f h m (both n t u) d there here e =
    let parts = AreDifferent-parts (nodes t) (nodes u) d.1 in
    elim (cases_eq m n) as (λ _. tree_sum h (both n t u) ≡ tree_sum f (both n t u) + 1) [
      | inl same ↦
          let top : h n ≡ f n + 1 = subst (λ (x : ℕ). h x ≡ f x + 1) same here in
          omega (
            arith,
            top,
            tree-same f h t (λ k in_t. e k (λ q. IsAbsent-not n (nodes t ++ nodes u) d.0 (IsIn-left n (nodes t) (nodes u) (subst (λ (x : ℕ). IsIn x (nodes t)) (q ∙ same) in_t)))),
            tree-same f h u (λ k in_u. e k (λ q. IsAbsent-not n (nodes t ++ nodes u) d.0 (IsIn-right n (nodes t) (nodes u) (subst (λ (x : ℕ). IsIn x (nodes u)) (q ∙ same) in_u)))),
          )
      | inr other ↦ elim (or_cases (m == n) (has m t || has m u) there) as (λ _. tree_sum h (both n t u) ≡ tree_sum f (both n t u) + 1) [
        | inl bad ↦ absurd (other (eqb-true m n bad))
        | inr below ↦ elim (or_cases (has m t) (has m u) below) as (λ _. tree_sum h (both n t u) ≡ tree_sum f (both n t u) + 1) [
          | inl l ↦ omega (arith, e n (λ q. other (sym q)), tree-one f h m t parts.0 l here e, tree-same f h u (λ k in_u. e k (λ q. parts.2 m (nodes-has m t l) (subst (λ (x : ℕ). IsIn x (nodes u)) q in_u))))
          | inr r ↦ omega (arith, e n (λ q. other (sym q)), tree-one f h m u parts.1 r here e, tree-same f h t (λ k in_t. e k (λ q. parts.2 m (subst (λ (x : ℕ). IsIn x (nodes t)) q in_t) (nodes-has m u r))))
        ]
      ]
    ]

-- ---- notes

notes_here : (g : Setting) (lists : ℕ → ℕ → ℕ → List Note) (p : PipeId) (note : Note) → p.from < g.physical.workers → p.to < g.physical.workers → notes_on g (added lists p note) p.edge ≡ notes_on g lists p.edge + 1
notes_here g lists p note from to =
    let n = g.physical.workers in
    sum-one n p.from (λ f. sum_below n (λ t. length (lists p.edge f t))) (λ f. sum_below n (λ t. length (added lists p note p.edge f t))) from
    (sum-one n p.to (λ t. length (lists p.edge p.from t)) (λ t. length (added lists p note p.edge p.from t)) to
    (ap length (added_here lists p note p.edge p.from p.to refl refl refl) ∙ length-append (lists p.edge p.from p.to) (note ∷ []))
    (λ t other. ap length (added_elsewhere lists p note p.edge p.from t (other_to p p.edge p.from t other))))
    (λ f other. sum-same n (λ t. length (lists p.edge f t)) (λ t. length (added lists p note p.edge f t)) (λ t less. ap length (added_elsewhere lists p note p.edge f t (other_from p p.edge f t other))))

notes_there : (g : Setting) (lists : ℕ → ℕ → ℕ → List Note) (p : PipeId) (note : Note) (e : ℕ) → e ≢ p.edge → notes_on g (added lists p note) e ≡ notes_on g lists e
notes_there g lists p note e other =
    let n = g.physical.workers in
    sum-same n (λ f. sum_below n (λ t. length (lists e f t))) (λ f. sum_below n (λ t. length (added lists p note e f t))) (λ f less.
    sum-same n (λ t. length (lists e f t)) (λ t. length (added lists p note e f t)) (λ t below. ap length (added_elsewhere lists p note e f t (other_edge p e f t other))))

-- ---- instances

unfinished : (ws : List (ℕ × Bag)) (ms : List ℕ) (a b f : Bool) → f ≡ false → does_want (want_by ws ms a b f) Done ≡ false
unfinished (w ∷ ws) ms a b f e = refl
unfinished [] (m ∷ ms) a b f e = refl
unfinished [] [] false b f e = refl
unfinished [] [] true false f e = refl
unfinished [] [] true true false e = refl
unfinished [] [] true true true e = absurd (cc)

undone : (i : Instance) → i.finished ≡ false → does_want (want i) Done ≡ false
undone i e = unfinished i.waiting i.marks (port_ended i 0) (port_ended i 1) i.finished e

-- an instance that isn't done before the event and isn't done after it
done_same : (g : Setting) (w v : World) (at k n : ℕ) → (w.instance at k).finished ≡ false → (v.instance at k).finished ≡ false → OthersSame w at k v → done_at g v n ≡ done_at g w n
done_same g w v at k n old new others =
    sum-same g.physical.workers (λ j. one_if (does_want (want (w.instance n j)) Done)) (λ j. one_if (does_want (want (v.instance n j)) Done)) (λ j less.
    ap one_if (elim (cases_eq n at) as (λ _. does_want (want (v.instance n j)) Done ≡ does_want (want (w.instance n j)) Done) [
      | inr other ↦ ap (λ (i : Instance). does_want (want i) Done) (others n j (inl other))
      | inl same ↦ elim (cases_eq j k) as (λ _. does_want (want (v.instance n j)) Done ≡ does_want (want (w.instance n j)) Done) [
        | inr other ↦ ap (λ (i : Instance). does_want (want i) Done) (others n j (inr other))
        | inl same_too ↦
            let of_v : (v.instance n j).finished ≡ false = (λ x. (v.instance (same x) (same_too x)).finished) ∙ new in
            let of_w : (w.instance n j).finished ≡ false = (λ x. (w.instance (same x) (same_too x)).finished) ∙ old in
            undone (v.instance n j) of_v ∙ sym (undone (w.instance n j) of_w)
      ]
    ]))

-- ---- events

count_put : (g : Setting) (w v : World) (h : History) (p : PipeId) → AreDifferent (nodes g.physical.tree) → has p.edge g.physical.tree ≡ true → p.from < g.physical.workers → p.to < g.physical.workers
    → (w.instance p.edge p.from).finished ≡ false → Puts w p v → mosts.events g v (noted w (events.Put p) h) ≡ mosts.events g w h + 1
count_put g w v h p d there from to unfinished_yet step =
    let new = noted w (events.Put p) h in
    let note = next_note (w.instance p.edge p.from).waiting in
    let after : (v.instance p.edge p.from).finished ≡ false = ap (λ (i : Instance). i.finished) step.instance ∙ unfinished_yet in
    let done : (n : ℕ) → done_at g v n ≡ done_at g w n = λ n. done_same g w v p.edge p.from n unfinished_yet after step.others in
    tree-one (events_at g w h) (events_at g v new) p.edge g.physical.tree d there
    (omega (arith, done p.edge, notes_here g h.put p note from to))
    (λ n other. omega (arith, done n, notes_there g h.put p note n other))

count_take : (g : Setting) (w v : World) (h : History) (p : PipeId) (at port : ℕ) → AreDifferent (nodes g.physical.tree) → has p.edge g.physical.tree ≡ true → p.from < g.physical.workers → p.to < g.physical.workers
    → (w.instance at p.to).finished ≡ false → Takes g w p at port v → mosts.events g v (noted w (events.Take p) h) ≡ mosts.events g w h + 1
count_take g w v h p at port d there from to unfinished_yet step =
    let new = noted w (events.Take p) h in
    let note = first_note (w.queue p.edge p.from p.to) in
    let after : (v.instance at p.to).finished ≡ false = step.instance.finished ∙ unfinished_yet in
    let done : (n : ℕ) → done_at g v n ≡ done_at g w n = λ n. done_same g w v at p.to n unfinished_yet after step.others in
    tree-one (events_at g w h) (events_at g v new) p.edge g.physical.tree d there
    (omega (arith, done p.edge, notes_here g h.taken p note from to))
    (λ n other. omega (arith, done n, notes_there g h.taken p note n other))

finished_want : (i : Instance) → want i ≡ End → want (finish i) ≡ Done
finished_want i e =
    let x = ending_by i.waiting i.marks (port_ended i 0) (port_ended i 1) i.finished e in
    let both_ended = and_parts (port_ended i 0) (port_ended i 1) x.all in
    λ y. want_by (x.waiting y) (x.marks y) (both_ended.0 y) (both_ended.1 y) true

count_end : (g : Setting) (w v : World) (h : History) (at k : ℕ) → AreDifferent (nodes g.physical.tree) → has at g.physical.tree ≡ true → k < g.physical.workers
    → want (w.instance at k) ≡ End → Ends w at k v → mosts.events g v h ≡ mosts.events g w h + 1
count_end g w v h at k d there below wanted step =
    let before : does_want (want (w.instance at k)) Done ≡ false = ap (λ (x : Want). does_want x Done) wanted in
    let after : does_want (want (v.instance at k)) Done ≡ true = ap (λ (i : Instance). does_want (want i) Done) step.instance ∙ ap (λ (x : Want). does_want x Done) (finished_want (w.instance at k) wanted) in
    let here : done_at g v at ≡ done_at g w at + 1 = sum-one g.physical.workers k (λ j. one_if (does_want (want (w.instance at j)) Done)) (λ j. one_if (does_want (want (v.instance at j)) Done)) below
    (omega (arith, ap one_if before, ap one_if after)) (λ j other. ap (λ (i : Instance). one_if (does_want (want i) Done)) (step.others at j (inr other))) in
    let elsewhere : (n : ℕ) → n ≢ at → done_at g v n ≡ done_at g w n = λ n other.
    sum-same g.physical.workers (λ j. one_if (does_want (want (w.instance n j)) Done)) (λ j. one_if (does_want (want (v.instance n j)) Done)) (λ j less. ap (λ (i : Instance). one_if (does_want (want i) Done)) (step.others n j (inl other))) in
    tree-one (events_at g w h) (events_at g v h) at g.physical.tree d there (omega (arith, here)) (λ n other. omega (arith, elsewhere n other))

take_counted : (g : Setting) (w v : World) (h : History) (p : PipeId) (o : Option (ℕ × ℕ)) → AreDifferent (nodes g.physical.tree) → Stands g w h → reader_of p.edge g.physical.tree ≡ o
    → p.from < g.physical.workers → p.to < g.physical.workers → can_take w p o ≡ true → TakesBy g w p o v → mosts.events g v (noted w (events.Take p) h) ≡ mosts.events g w h + 1
take_counted g w v h p None d st r from to can step = absurd (cc)
take_counted g w v h p (Some x) d st r from to can step =
    let parts = and_parts (does_want (want (w.instance x.0 p.to)) (Take x.1)) (nat_lt 0 (length (w.queue p.edge p.from p.to))) can in
    let f = found g p.edge x.0 x.1 g.physical.tree d r in
    let i = w.instance x.0 p.to in
    let l = st.instances x.0 p.to f.has_reader to in
    let t = taking_by i.waiting i.marks (port_ended i 0) (port_ended i 1) i.finished x.1 (wants_take (want i) x.1 parts.0) in
    count_take g w v h p x.0 x.1 d f.has_edge from to
    (false_from_ne_true i.finished (λ e. let clash : true ≡ false = sym (l.finished e).2 ∙ not_all i.waiting i.marks (port_ended i 0) (port_ended i 1) x.1 t in cc)) step

-- an enabled event adds one
pub step_counted : (g : Setting) (depth : ℕ) (w v : World) (h : History) (e : Event) → AreDifferent (nodes g.physical.tree) → Stands g w h → enabled g.physical depth w e ≡ true → Steps g w e v
    → mosts.events g v (noted w e h) ≡ mosts.events g w h + 1
step_counted g depth w v h (events.Put p) d st e step =
    let m = may_put g.physical depth w p e in
    let i = w.instance p.edge p.from in
    let l = st.instances p.edge p.from m.there m.from_below in
    let putting = putting_by i.waiting i.marks (port_ended i 0) (port_ended i 1) i.finished p.to m.wanted in
    count_put g w v h p d m.there m.from_below (receiver_below g w h p st m.there m.from_below m.wanted)
    (false_from_ne_true i.finished (λ f. not_finished i.waiting i.marks p.to putting (l.finished f).0 (l.finished f).1)) step
step_counted g depth w v h (events.Take p) d st e step =
    let m = may_take g.physical depth w p e in
    take_counted g w v h p (reader_of p.edge g.physical.tree) d st refl m.from_below m.to_below m.can step
step_counted g depth w v h (events.End at k) d st e step =
    let m = may_end g.physical depth w at k e in
    count_end g w v h at k d m.there m.below m.wanted step
