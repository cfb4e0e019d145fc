-- Rows of instances, from what they start from.
use Rattle.std.proofs.Common.{◌≡◌, ◌<◌, ◌+◌, ◌++◌, ◌∷◌, ℕ, zero, suc, List, [], get_or, length, length-append, ap, arith, refl, subst, sym, ◌∙◌}
use Rattle.std.specs.List.{AllByRecursion}
use Rattle.pact_operators.specs.Allowed.{Bag}
use Rattle.pact_operators.specs.Programs.{ProgramData}
use Rattle.plan_trees.specs.Physicals.{PhysicalData}
use Rattle.plan_trees.specs.Plans.{subtree_of}
use Rattle.plan_trees.specs.Sending.{share_from}
use Rattle.flow_instance.specs.Instances.{Instance}
use Rattle.flow_instance.specs.Spots.{Setting, setting, spot}
use Rattle.flow_instance.specs.Steps.{Started}
use Rattle.flow_instance.specs.declared.before_start.Unstarted.{Unstarted}
use Rattle.flow_instance.specs.Starting.{CanStart, IsStartedFrom}
use Rattle.flow_core.specs.Left.{AreAllEmptied}
use Rattle.flow_core.specs.declared.starting.UnstartedInstances.{UnstartedInstances}
use Rattle.flow_core.specs.Starting.{AreAllStarted, AreAllUnstarted, AreOwn, AreAllUnstartedFrom, AreStarted, AreStartedOn, AreUnstarted, AreUnstartedFrom, CanStartEach, AreUnstartedOf, IsStartedOn, IsUnstartedOn, StartAllFrom, StartFrom}
use Rattle.flow_core.specs.Worlds.{QueuedInstanceData, no_instance}

zero_plus : (n : ℕ) → n ≡ 0 + n
zero_plus n = omega arith

-- ---- one more

module _ (p : ProgramData) (q : PhysicalData) (size at : ℕ) (rows : Bag) where
  from_last : (from : ℕ) (row : List Unstarted) (u : Unstarted) → AreUnstartedFrom p q size at rows from row → IsUnstartedOn p q size at rows (from + length row) u → AreUnstartedFrom p q size at rows from (row ++ u ∷ [])
  from_last from [] u h last = (subst (λ (n : ℕ). IsUnstartedOn p q size at rows n u) (omega arith) last, tt)
  from_last from (x ∷ row) u h last = (h.0, from_last (from + 1) row u h.1 (subst (λ (n : ℕ). IsUnstartedOn p q size at rows n u) (omega arith) last))

  pub unstarted_more : (n : ℕ) (row new : List Unstarted) (u : Unstarted) → new ≡ row ++ u ∷ [] → AreUnstarted p q size at rows n row → IsUnstartedOn p q size at rows n u → AreUnstarted p q size at rows (n + 1) new
  unstarted_more n row new u is h last = subst (AreUnstarted p q size at rows (n + 1)) (sym is) (record {
    long = length-append row (u ∷ []) ∙ ap (λ (k : ℕ). k + 1) h.long;
    each = from_last 0 row u h.each (subst (λ (k : ℕ). IsUnstartedOn p q size at rows k u) (sym h.long ∙ zero_plus (length row)) last);
  })

  pub can_start : (from : ℕ) (row : List Unstarted) → AreUnstartedFrom p q size at rows from row → AllByRecursion CanStart row
  can_start from [] h = tt
  can_start from (u ∷ row) h = (record { program = p; physical = q; number = at; worker = from; size = size; share = h.0.share; is = h.0.is }, can_start (from + 1) row h.1)

pub start_from_more : (row : List Unstarted) (u : Unstarted) (own : List Instance) (i : Instance) → StartFrom row own → IsStartedFrom u i → StartFrom (row ++ u ∷ []) (own ++ i ∷ [])
start_from_more [] u [] i h last = (last, tt)
start_from_more (x ∷ row) u (y ∷ own) i h last = (h.0, start_from_more row u own i h.1 last)
start_from_more [] u (y ∷ own) i h last = absurd h
start_from_more (x ∷ row) u [] i h last = absurd h

-- ---- a row

as_many : (row : List Unstarted) (own : List Instance) → StartFrom row own → length own ≡ length row
as_many [] [] h = refl
as_many (u ∷ row) (i ∷ own) h = ap suc (as_many row own h.1)
as_many [] (i ∷ own) h = absurd h
as_many (u ∷ row) [] h = absurd h

module _ (p : ProgramData) (q : PhysicalData) (inputs : List Bag) (size at : ℕ) (rows : Bag) where
  started_at : (from : ℕ) (row : List Unstarted) (own : List Instance) → AreUnstartedFrom p q size at rows from row → StartFrom row own → AreOwn p inputs at rows → (k : ℕ) → k < length own
      → IsStartedOn (setting p inputs q) size at (from + k) (get_or own k no_instance)
  started_at from [] [] h s owned k less = absurd (omega (arith, less))
  started_at from [] (i ∷ own) h s owned k less = absurd s
  started_at from (u ∷ row) [] h s owned k less = absurd s
  started_at from (u ∷ row) (i ∷ own) h s owned zero less =
      let first = s.0 p q at from size h.0.share h.0.is in
      subst (λ (n : ℕ). IsStartedOn (setting p inputs q) size at n i) (omega arith) (record {
        started = first.started inputs (λ source. h.0.is_share ∙ ap (share_from 0 q.workers from) (owned source));
        batch = first.batch;
      })
  started_at from (u ∷ row) (i ∷ own) h s owned (suc k) less =
      subst (λ (n : ℕ). IsStartedOn (setting p inputs q) size at n (get_or own k no_instance)) (omega arith) (started_at (from + 1) row own h.1 s.1 owned k (omega (arith, less)))

  pub started_row : (row : List Unstarted) (own : List Instance) → AreUnstarted p q size at rows q.workers row → StartFrom row own → AreOwn p inputs at rows → AreStartedOn (setting p inputs q) size at own
  started_row row own u s owned =
      let long : length own ≡ q.workers = as_many row own s ∙ u.long in
      record {
        long = long;
        each = λ worker below. subst (λ (n : ℕ). IsStartedOn (setting p inputs q) size at n (get_or own worker no_instance)) (sym (zero_plus worker)) (started_at 0 row own u.each s owned worker (omega (arith, below, long)));
      }

-- ---- all rows

module _ (p : ProgramData) (q : PhysicalData) (inputs : List Bag) (size : ℕ) where
  rows_last : (from : ℕ) (rows : List UnstartedInstances) (row : UnstartedInstances) → AreAllUnstartedFrom p q inputs size from rows → AreUnstartedOf p q inputs size (from + length rows) row → AreAllUnstartedFrom p q inputs size from (rows ++ row ∷ [])
  rows_last from [] row h last = (subst (λ (n : ℕ). AreUnstartedOf p q inputs size n row) (omega arith) last, tt)
  rows_last from (x ∷ rows) row h last = (h.0, rows_last (from + 1) rows row h.1 (subst (λ (n : ℕ). AreUnstartedOf p q inputs size n row) (omega arith) last))

  pub rows_more : (n : ℕ) (rows new : List UnstartedInstances) (row : UnstartedInstances) → new ≡ rows ++ row ∷ [] → AreAllUnstarted p q inputs size n rows → AreUnstartedOf p q inputs size n row → AreAllUnstarted p q inputs size (n + 1) new
  rows_more n rows new row is h last = subst (AreAllUnstarted p q inputs size (n + 1)) (sym is) (record {
    long = length-append rows (row ∷ []) ∙ ap (λ (k : ℕ). k + 1) h.long;
    each = rows_last 0 rows row h.each (subst (λ (k : ℕ). AreUnstartedOf p q inputs size k row) (sym h.long ∙ zero_plus (length rows)) last);
  })

  pub can_start_all : (from : ℕ) (rows : List UnstartedInstances) → AreAllUnstartedFrom p q inputs size from rows → AllByRecursion CanStartEach rows
  can_start_all from [] h = tt
  can_start_all from (row ∷ rows) h = (can_start p q size from h.0.own 0 row.held.items h.0.are.each, can_start_all (from + 1) rows h.1)

  rows_as_many : (rows : List UnstartedInstances) (all : List (List Instance)) → StartAllFrom rows all → length all ≡ length rows
  rows_as_many [] [] h = refl
  rows_as_many (row ∷ rows) (own ∷ all) h = ap suc (rows_as_many rows all h.1)
  rows_as_many [] (own ∷ all) h = absurd h
  rows_as_many (row ∷ rows) [] h = absurd h

  row_at : (from : ℕ) (rows : List UnstartedInstances) (all : List (List Instance)) → AreAllUnstartedFrom p q inputs size from rows → StartAllFrom rows all → (k : ℕ) → k < length all → AreStartedOn (setting p inputs q) size (from + k) (get_or all k [])
  row_at from [] [] h s k less = absurd (omega (arith, less))
  row_at from [] (own ∷ all) h s k less = absurd s
  row_at from (row ∷ rows) [] h s k less = absurd s
  row_at from (row ∷ rows) (own ∷ all) h s zero less =
      subst (λ (n : ℕ). AreStartedOn (setting p inputs q) size n own) (omega arith) (started_row p q inputs size from h.0.own row.held.items own h.0.are s.0 h.0.own_are)
  row_at from (row ∷ rows) (own ∷ all) h s (suc k) less =
      subst (λ (n : ℕ). AreStartedOn (setting p inputs q) size n (get_or all k [])) (omega arith) (row_at (from + 1) rows all h.1 s.1 k (omega (arith, less)))

  pub all_started : (count : ℕ) (rows : List UnstartedInstances) (all : List (List Instance)) → AreAllUnstarted p q inputs size count rows → StartAllFrom rows all → AreAllStarted (setting p inputs q) size count all
  all_started count rows all h s =
      let long : length all ≡ count = rows_as_many rows all s ∙ h.long in
      record { long = long; each = λ at less. subst (λ (n : ℕ). AreStartedOn (setting p inputs q) size n (get_or all at [])) (sym (zero_plus at)) (row_at 0 rows all h.each s at (omega (arith, less, long))) }

pub start_all_more : (rows : List UnstartedInstances) (row : UnstartedInstances) (all : List (List Instance)) (own : List Instance) → StartAllFrom rows all → StartFrom row.held.items own → StartAllFrom (rows ++ row ∷ []) (all ++ own ∷ [])
start_all_more [] row [] own h last = (last, tt)
start_all_more (x ∷ rows) row (y ∷ all) own h last = (h.0, start_all_more rows row all own h.1 last)
start_all_more [] row (y ∷ all) own h last = absurd h
start_all_more (x ∷ rows) row [] own h last = absurd h

-- ---- as queued instances

pub started_queued_instances : (g : Setting) (size count workers : ℕ) (all : List (List Instance)) (queued_instances : List (List QueuedInstanceData)) → workers ≡ g.physical.workers → AreAllStarted g size count all → AreAllEmptied workers (length all) all queued_instances
    → AreStarted g size count queued_instances
started_queued_instances g size count workers all queued_instances same a e = record {
  long = e.long ∙ a.long;
  each = λ at less.
      let row = e.each at (omega (arith, less, a.long)) in
      let own = a.each at less in
      record {
        long = row.long ∙ own.long;
        each = λ worker below.
            let s = row.each worker (omega (arith, below, own.long)) in
            let i = own.each worker below in
            record {
              started = subst (Started (spot g (subtree_of at g.physical.tree)) worker) (sym s.instance) i.started;
              batch = ap (λ (x : Instance). x.part.batch) s.instance ∙ i.batch;
              long = s.long ∙ same;
              empty = s.empty;
            };
      };
}
