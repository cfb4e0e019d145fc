-- Worlds of what a run has left.
use Rattle.std.proofs.Common.{◌≡◌, ◌<◌, ◌≤◌, ◌+◌, ◌++◌, ◌&&◌, ◌==◌, inl, inr, ℕ, true, false, Bool, cond, List, [], ◌∷◌, get_or, length, length-append, set, refl, ap, subst, sym, ◌∙◌, arith, append-nil, append_assoc}
use Rattle.std.specs.List.{AllByRecursion}
use Rattle.std.proofs.lemmas.Bool.{and_from, cases_eq, cases_lt, eq-eqb}
use Rattle.std.proofs.lemmas.List.{get_or_default, get_or_past, length-set}
use Rattle.pact_operators.specs.Programs.{IsPlanOf, IsProgram, ProgramData}
use Rattle.plan_trees.specs.Physicals.{IsPhysical, PhysicalData}
use Rattle.flow_instance.specs.declared.notes.Note.{Note}
use Rattle.flow_instance.specs.declared.notes.PipeId.{PipeId}
use Rattle.flow_instance.specs.Events.{ListChanged, is_pipe}
use Rattle.flow_instance.specs.Instances.{Instance}
use Rattle.flow_instance.specs.Spots.{Setting, setting}
use Rattle.flow_instance.specs.Worlds.{History, Stands, World}
use Rattle.flow_instance.proofs.StandsAfterEvents.{other_edge, other_from, other_to}
use Rattle.flow_core.specs.Left.{AreAllEmptied, AreEmptied, AreFilled, AreOfPlan, IsEmptied, IsPipeOf, LeftOn, StandForSome, instance_of, left_on, left_world, refilled}
use Rattle.flow_core.specs.Worlds.{IsStanding, IsWhole, StandsForSome, QueuedInstanceData, WorldData, instance_in, no_instance, no_queued_instance, queue_in, seen, queued_instance_in}
use Rattle.flow_core.proofs.ChangedQueuedInstances.{list_changed, same_instances, whole_after}
use Rattle.flow_core.proofs.SharesOfRows.{each_last}
use Rattle.flow_core.proofs.StartStands.{all_empty}
use Rattle.flow_core.proofs.QueuedInstancesAtPlaces.{IsFoundAt}

-- ---- instances with empty pipes

module _ (p : PhysicalData) (rows : List (List Instance)) (lists : List LeftOn) (queued_instances : List (List QueuedInstanceData)) (o : AreOfPlan p rows lists) (e : AreAllEmptied p.workers (length rows) rows queued_instances) where
  pub whole_emptied : IsWhole p queued_instances
  whole_emptied = record {
    each = λ at there. omega (arith, o.each at there, e.long);
    only = λ at less. o.only at (omega (arith, less, e.long));
    workers = λ at less. let below : at < length rows = omega (arith, less, e.long) in (e.each at below).long ∙ o.workers at below;
    pipes = λ at worker less within.
        let below : at < length rows = omega (arith, less, e.long) in
        ((e.each at below).each worker (omega (arith, within, o.workers at below))).long;
  }

  no_row : (at worker : ℕ) → length rows ≤ at → queued_instance_in queued_instances at worker ≡ no_queued_instance
  no_row at worker more =
      ap (λ (r : List QueuedInstanceData). get_or r worker no_queued_instance) (get_or_past queued_instances at [] (omega (arith, more, e.long))) ∙ get_or_past [] worker no_queued_instance (omega arith)

  none_there : (at worker : ℕ) → at < length rows → length (get_or rows at []) ≤ worker → queued_instance_in queued_instances at worker ≡ no_queued_instance
  none_there at worker less more = get_or_past (get_or queued_instances at []) worker no_queued_instance (omega (arith, more, (e.each at less).long))

  pub same_emptied : (at worker : ℕ) → instance_in queued_instances at worker ≡ instance_of rows at worker
  same_emptied at worker = elim (cases_lt at (length rows)) as (λ _. instance_in queued_instances at worker ≡ instance_of rows at worker) [
    | inr more ↦
        ap (λ (x : QueuedInstanceData). x.instance) (no_row at worker more)
        ∙ sym (ap (λ (r : List Instance). get_or r worker no_instance) (get_or_past rows at [] more) ∙ get_or_past [] worker no_instance (omega arith))
    | inl less ↦ elim (cases_lt worker (length (get_or rows at []))) as (λ _. instance_in queued_instances at worker ≡ instance_of rows at worker) [
      | inr more ↦ ap (λ (x : QueuedInstanceData). x.instance) (none_there at worker less more) ∙ sym (get_or_past (get_or rows at []) worker no_instance more)
      | inl below ↦ ((e.each at less).each worker below).instance
    ]
  ]

  pub none_emptied : (edge from to : ℕ) → queue_in queued_instances edge from to ≡ []
  none_emptied edge from to = elim (cases_lt edge (length rows)) as (λ _. queue_in queued_instances edge from to ≡ []) [
    | inr more ↦ ap (λ (x : QueuedInstanceData). get_or x.queues to []) (no_row edge from more) ∙ get_or_past [] to [] (omega arith)
    | inl less ↦ elim (cases_lt from (length (get_or rows edge []))) as (λ _. queue_in queued_instances edge from to ≡ []) [
      | inr more ↦ ap (λ (x : QueuedInstanceData). get_or x.queues to []) (none_there edge from less more) ∙ get_or_past [] to [] (omega arith)
      | inl below ↦ all_empty (queued_instance_in queued_instances edge from).queues to ((e.each edge less).each from below).empty
    ]
  ]

pub emptied_none : (workers : ℕ) (own : List Instance) (row : List QueuedInstanceData) → row ≡ [] → AreEmptied workers 0 own row
emptied_none workers own row none = record { long = ap length none; each = λ k less. absurd (omega (arith, less)) }

-- one instance more
pub emptied_more : (workers n count : ℕ) (own found : List Instance) (i : Instance) (old new : List QueuedInstanceData) (s : QueuedInstanceData) → found ≡ own → n < length found → i ≡ get_or found n i → count ≡ n + 1
    → new ≡ old ++ s ∷ [] → AreEmptied workers n own old → s.instance ≡ i → length s.queues ≡ workers → AllByRecursion (λ (q : List Note). q ≡ []) s.queues → AreEmptied workers count own new
emptied_more workers n count own found i old new s same less is count_is new_is first instance long empty =
    let here : i ≡ get_or own n no_instance = is ∙ get_or_default found n i no_instance less ∙ ap (λ (l : List Instance). get_or l n no_instance) same in
    subst (λ (k : ℕ). AreEmptied workers k own new) (sym count_is) (subst (AreEmptied workers (n + 1) own) (sym new_is) (record {
      long = length-append old (s ∷ []) ∙ ap (λ (k : ℕ). k + 1) first.long;
      each = each_last (λ k (x : QueuedInstanceData). IsEmptied workers (get_or own k no_instance) x) old s no_queued_instance n first.long first.each (record { instance = instance ∙ here; long = long; empty = empty });
    }))

-- one source or operator more
pub rows_more : (workers n count : ℕ) (rows found : List (List Instance)) (own : List Instance) (old new : List (List QueuedInstanceData)) (row : List QueuedInstanceData) → found ≡ rows → n < length found → own ≡ get_or found n own → count ≡ n + 1
    → new ≡ old ++ row ∷ [] → AreAllEmptied workers n rows old → AreEmptied workers (length own) own row → AreAllEmptied workers count rows new
rows_more workers n count rows found own old new row same less is count_is new_is first last =
    let own_is : own ≡ get_or rows n [] = is ∙ get_or_default found n own [] less ∙ ap (λ (l : List (List Instance)). get_or l n []) same in
    subst (λ (k : ℕ). AreAllEmptied workers k rows new) (sym count_is) (subst (AreAllEmptied workers (n + 1) rows) (sym new_is) (record {
      long = length-append old (row ∷ []) ∙ ap (λ (k : ℕ). k + 1) first.long;
      each = each_last (λ k (r : List QueuedInstanceData). AreEmptied workers (length (get_or rows k [])) (get_or rows k []) r) old row [] n first.long first.each
          (subst (λ (l : List Instance). AreEmptied workers (length l) l row) own_is last);
    }))

-- ---- notes that come back

pub left_on-append : (xs ys : List LeftOn) (edge from to : ℕ) → left_on (xs ++ ys) edge from to ≡ left_on xs edge from to ++ left_on ys edge from to
left_on-append [] ys edge from to = refl
left_on-append (x ∷ xs) ys edge from to =
    let own = cond (is_pipe x.pipe edge from to) x.notes [] in
    ap (λ (l : List Note). own ++ l) (left_on-append xs ys edge from to) ∙ sym (append_assoc own (left_on xs edge from to) (left_on ys edge from to))

-- the notes of one entry
pub left_here : (l : LeftOn) → left_on (l ∷ []) l.pipe.edge l.pipe.from l.pipe.to ≡ l.notes
left_here l =
    let p = l.pipe in
    let here : is_pipe p p.edge p.from p.to ≡ true = and_from (p.edge == p.edge) ((p.from == p.from) && (p.to == p.to)) (eq-eqb p.edge p.edge refl) (and_from (p.from == p.from) (p.to == p.to) (eq-eqb p.from p.from refl) (eq-eqb p.to p.to refl)) in
    append-nil (cond (is_pipe p p.edge p.from p.to) l.notes []) ∙ ap (λ (b : Bool). cond b l.notes []) here

pub left_elsewhere : (l : LeftOn) (edge from to : ℕ) → is_pipe l.pipe edge from to ≡ false → left_on (l ∷ []) edge from to ≡ []
left_elsewhere l edge from to other = append-nil (cond (is_pipe l.pipe edge from to) l.notes []) ∙ ap (λ (b : Bool). cond b l.notes []) other

-- each pipe is this one or another
each_pipe : (P : ℕ → ℕ → ℕ → Type 0) (p : PipeId) → P p.edge p.from p.to → ((a b c : ℕ) → is_pipe p a b c ≡ false → P a b c) → (a b c : ℕ) → P a b c
each_pipe P p here there a b c = elim (cases_eq a p.edge) as (λ _. P a b c) [
  | inr e ↦ there a b c (other_edge p a b c e)
  | inl e ↦ elim (cases_eq b p.from) as (λ _. P a b c) [
    | inr f ↦ there a b c (other_from p a b c f)
    | inl f ↦ elim (cases_eq c p.to) as (λ _. P a b c) [
      | inr h ↦ there a b c (other_to p a b c h)
      | inl h ↦ subst (λ (x : ℕ). P x b c) (sym e) (subst (λ (x : ℕ). P p.edge x c) (sym f) (subst (P p.edge p.from) (sym h) here))
    ]
  ]
]

pub filled_from : (l : LeftOn) (old new : ℕ → ℕ → ℕ → List Note) → ListChanged old l.pipe (old l.pipe.edge l.pipe.from l.pipe.to ++ l.notes) new
    → (edge from to : ℕ) → new edge from to ≡ old edge from to ++ left_on (l ∷ []) edge from to
filled_from l old new changed = each_pipe (λ a b c. new a b c ≡ old a b c ++ left_on (l ∷ []) a b c) l.pipe
    (changed.here ∙ ap (λ (n : List Note). old l.pipe.edge l.pipe.from l.pipe.to ++ n) (sym (left_here l)))
    (λ a b c other. changed.elsewhere a b c other ∙ sym (append-nil (old a b c)) ∙ ap (λ (n : List Note). old a b c ++ n) (sym (left_elsewhere l a b c other)))

-- the notes of one entry came back to a queued instance that was found
pub filled_one : (p q : PhysicalData) (old items : List (List QueuedInstanceData)) (row : List QueuedInstanceData) (x s : QueuedInstanceData) (l : LeftOn) → IsWhole p old → IsPipeOf p l.pipe → q ≡ p → items ≡ old
    → IsFoundAt p old items row l.pipe.edge l.pipe.from x → s ≡ refilled x l.pipe.to l.notes → AreFilled q old (l ∷ []) (set items l.pipe.edge (set row l.pipe.from s))
filled_one p q old items row x s l whole of same items_are f is =
    let edge = l.pipe.edge in
    let from = l.pipe.from in
    let to = l.pipe.to in
    let new = set items edge (set row from s) in
    let here : s ≡ refilled (queued_instance_in old edge from) to l.notes = is ∙ ap (λ (y : QueuedInstanceData). refilled y to l.notes) f.is in
    let below : to < length (queued_instance_in old edge from).queues = subst (λ (n : ℕ). to < n) (sym (whole.pipes edge from f.below of.from)) of.to in
    record {
      whole = whole_after p q old items row edge from x s whole same items_are f (ap (λ (y : QueuedInstanceData). length y.queues) is ∙ length-set x.queues to (get_or x.queues to [] ++ l.notes) ∙ f.pipes);
      instances = same_instances old new edge from s (f.changed s) (ap (λ (y : QueuedInstanceData). y.instance) here);
      queues = filled_from l (queue_in old) (queue_in new) (list_changed old new l.pipe (queue_in old edge from to ++ l.notes) s (f.changed s) (ap (λ (y : QueuedInstanceData). y.queues) here) below);
    }

-- nothing came back so far
pub filled_none : (p : PhysicalData) (old : List (List QueuedInstanceData)) → IsWhole p old → AreFilled p old [] old
filled_none p old whole = record { whole = whole; instances = λ at worker. refl; queues = λ edge from to. sym (append-nil (queue_in old edge from to)) }

pub filled_more : (p q : PhysicalData) (old mid new : List (List QueuedInstanceData)) (lists : List LeftOn) (l : LeftOn) → AreFilled p old lists mid → AreFilled q mid (l ∷ []) new → AreFilled q old (lists ++ l ∷ []) new
filled_more p q old mid new lists l first more = record {
  whole = more.whole;
  instances = λ at worker. more.instances at worker ∙ first.instances at worker;
  queues = λ edge from to.
      more.queues edge from to ∙ ap (λ (n : List Note). n ++ left_on (l ∷ []) edge from to) (first.queues edge from to)
      ∙ append_assoc (queue_in old edge from to) (left_on lists edge from to) (left_on (l ∷ []) edge from to)
      ∙ ap (λ (n : List Note). queue_in old edge from to ++ n) (sym (left_on-append lists (l ∷ []) edge from to));
}

-- ---- the whole world

module _ (p : PhysicalData) (rows : List (List Instance)) (lists : List LeftOn) (first : List (List QueuedInstanceData)) (o : AreOfPlan p rows lists) (e : AreAllEmptied p.workers (length rows) rows first) (w : WorldData)
    (f : AreFilled p first lists w.queued_instances) where
  pub left_seen : seen w ≡ left_world rows lists
  left_seen = λ i. record {
    instance = λ at worker. (f.instances at worker ∙ same_emptied p rows lists first o e at worker) i;
    queue = λ edge from to. (f.queues edge from to ∙ ap (λ (l : List Note). l ++ left_on lists edge from to) (none_emptied p rows lists first o e edge from to)) i;
  }

  pub left_standing : (g : Setting) (h : History) → w.physical ≡ p → g.physical ≡ p → Stands g (left_world rows lists) h → IsStanding g w h
  left_standing g h same of stand = record {
    physical = same ∙ sym of;
    whole = subst (λ (q : PhysicalData). IsWhole q w.queued_instances) (sym same) f.whole;
    stands = subst (λ (v : World). Stands g v h) (sym left_seen) stand;
  }

  pub left_for_some : (program : ProgramData) → IsProgram program → IsPhysical p → IsPlanOf program.functions program.ops p.tree → 1 ≤ w.depth → w.physical ≡ p → StandForSome program p rows lists → StandsForSome w
  left_for_some program is plan of deep same some = record {
    program = program;
    inputs = some.inputs;
    history = some.history;
    is_program = is;
    are_inputs = some.are_inputs;
    is_physical = subst IsPhysical (sym same) plan;
    plan = subst (λ (q : PhysicalData). IsPlanOf program.functions program.ops q.tree) (sym same) of;
    some_depth = deep;
    standing = subst (λ (q : PhysicalData). IsStanding (setting program some.inputs q) w some.history) (sym same) (left_standing (setting program some.inputs p) some.history same refl some.stand);
  }
