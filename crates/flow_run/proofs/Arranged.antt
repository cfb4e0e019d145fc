-- Instances by number and then by worker.
use Rattle.std.proofs.Common.{◌≡◌, ◌<◌, ℕ, zero, suc, List, [], ◌∷◌, ◌++◌, get_or, length, map, replicate, set, append-nil, append_assoc, arith, sym, refl, ap, ◌∙◌, subst}
use Rattle.std.specs.List.{AllByRecursion}
use Rattle.std.proofs.lemmas.List.{get_or_past, length-replicate}
use Rattle.flow_instance.specs.Instances.{Instance}
use Rattle.flow_core.specs.Worlds.{no_instance}
use Rattle.flow_run.specs.WorkerData.{WorkerData, worker_at, with_column, with_columns}

-- ---- one list more

pub column_none : (rows : List (List Instance)) → with_column rows [] ≡ rows
column_none [] = refl
column_none (row ∷ rows) = refl

pub length_column : (rows : List (List Instance)) (own : List Instance) → length (with_column rows own) ≡ length rows
length_column [] own = refl
length_column (row ∷ rows) [] = refl
length_column (row ∷ rows) (i ∷ own) = ap suc (length_column rows own)

-- with the next instance of the list
pub column_next : (rows : List (List Instance)) (own : List Instance) (i : Instance) → length own < length rows
    → set (with_column rows own) (length own) (get_or (with_column rows own) (length own) [] ++ i ∷ []) ≡ with_column rows (own ++ i ∷ [])
column_next [] own i less = absurd (omega (arith, less))
column_next (row ∷ rows) [] i less = ap (λ (r : List (List Instance)). (row ++ i ∷ []) ∷ r) (sym (column_none rows))
column_next (row ∷ rows) (x ∷ own) i less = ap (λ (r : List (List Instance)). (row ++ x ∷ []) ∷ r) (column_next rows own i (omega (arith, less)))

column_at : (rows : List (List Instance)) (own : List Instance) (at : ℕ) → at < length rows → length own ≡ length rows → get_or (with_column rows own) at [] ≡ get_or rows at [] ++ get_or own at no_instance ∷ []
column_at [] own at less long = absurd (omega (arith, less))
column_at (row ∷ rows) [] at less long = absurd (omega (arith, long))
column_at (row ∷ rows) (i ∷ own) zero less long = refl
column_at (row ∷ rows) (i ∷ own) (suc at) less long = column_at rows own at (omega (arith, less)) (omega (arith, long))

-- ---- all lists

pub length_columns : (rows more : List (List Instance)) → length (with_columns rows more) ≡ length rows
length_columns rows [] = refl
length_columns rows (own ∷ more) = length_columns (with_column rows own) more ∙ length_column rows own

pub columns_at : (n : ℕ) (rows more : List (List Instance)) (at : ℕ) → length rows ≡ n → at < n → AllByRecursion (λ own. length own ≡ n) more
    → get_or (with_columns rows more) at [] ≡ get_or rows at [] ++ map (λ own. get_or own at no_instance) more
columns_at n rows [] at long less all = sym (append-nil (get_or rows at []))
columns_at n rows (own ∷ more) at long less all =
    columns_at n (with_column rows own) more at (length_column rows own ∙ long) less all.1
    ∙ ap (λ (r : List Instance). r ++ map (λ own. get_or own at no_instance) more) (column_at rows own at (omega (arith, less, long)) (all.0 ∙ sym long))
    ∙ append_assoc (get_or rows at []) (get_or own at no_instance ∷ []) (map (λ own. get_or own at no_instance) more)

pub blank : (n k : ℕ) (none : List Instance) → none ≡ [] → get_or (replicate n none) k [] ≡ []
blank zero k none e = get_or_past [] k [] (omega arith)
blank (suc n) zero none e = e
blank (suc n) (suc k) none e = blank n k none e

over_instances : (n : ℕ) (ws : List WorkerData) → AllByRecursion (λ w. length w.instances ≡ n) ws → AllByRecursion (λ own. length own ≡ n) (map (λ (w : WorkerData). w.instances) ws)
over_instances n [] h = tt
over_instances n (w ∷ ws) h = (h.0, over_instances n ws h.1)

pub from_instances : (n : ℕ) (ws : List WorkerData) → AllByRecursion (λ own. length own ≡ n) (map (λ (w : WorkerData). w.instances) ws) → AllByRecursion (λ (w : WorkerData). length w.instances ≡ n) ws
from_instances n [] h = tt
from_instances n (w ∷ ws) h = (h.0, from_instances n ws h.1)

-- the workers still have the same number of instances
pub as_many : (n : ℕ) (ws rest : List WorkerData) → AllByRecursion (λ (w : WorkerData). length w.instances ≡ n) ws → map (λ (w : WorkerData). w.instances) rest ≡ map (λ (w : WorkerData). w.instances) ws
    → AllByRecursion (λ (w : WorkerData). length w.instances ≡ n) rest
as_many n ws rest h same = from_instances n rest (subst (AllByRecursion (λ (own : List Instance). length own ≡ n)) (sym same) (over_instances n ws h))

-- the instances of one number
pub row_at : (n : ℕ) (ws : List WorkerData) (at : ℕ) → at < n → AllByRecursion (λ w. length w.instances ≡ n) ws
    → get_or (with_columns (replicate n []) (map (λ (w : WorkerData). w.instances) ws)) at [] ≡ map (λ own. get_or own at no_instance) (map (λ (w : WorkerData). w.instances) ws)
row_at n ws at less all =
    columns_at n (replicate n []) (map (λ (w : WorkerData). w.instances) ws) at (length-replicate n []) less (over_instances n ws all)
    ∙ ap (λ (r : List Instance). r ++ map (λ own. get_or own at no_instance) (map (λ (w : WorkerData). w.instances) ws)) (blank n at [] refl)

pub row_length : (ws : List WorkerData) (at : ℕ) → length (map (λ own. get_or own at no_instance) (map (λ (w : WorkerData). w.instances) ws)) ≡ length ws
row_length [] at = refl
row_length (w ∷ ws) at = ap suc (row_length ws at)

pub row_item : (ws : List WorkerData) (at worker : ℕ) → worker < length ws
    → get_or (map (λ own. get_or own at no_instance) (map (λ (w : WorkerData). w.instances) ws)) worker no_instance ≡ get_or (worker_at ws worker).instances at no_instance
row_item [] at worker less = absurd (omega (arith, less))
row_item (w ∷ ws) at zero less = refl
row_item (w ∷ ws) at (suc worker) less = row_item ws at worker (omega (arith, less))

-- one worker more, for workers that are read from items of another type
pub arranged_more : {R : Type 0} (f : R → WorkerData) (list new : List (List Instance)) (rest after : List R) (one : R) (ops : ℕ) (all : List (List Instance)) → rest ≡ one ∷ after → new ≡ with_column list (f one).instances
    → with_columns list (map (λ (w : WorkerData). w.instances) (map f rest)) ≡ all → length list ≡ ops → AllByRecursion (λ (w : WorkerData). length w.instances ≡ ops) (map f rest)
    → (with_columns new (map (λ (w : WorkerData). w.instances) (map f after)) ≡ all) × (length new ≡ ops) × AllByRecursion (λ (w : WorkerData). length w.instances ≡ ops) (map f after)
arranged_more f list new rest after one ops all is new_is columns long each = (
  ap (λ (l : List (List Instance)). with_columns l (map (λ (w : WorkerData). w.instances) (map f after))) new_is ∙ sym (ap (λ r. with_columns list (map (λ (w : WorkerData). w.instances) (map f r))) is) ∙ columns,
  ap length new_is ∙ length_column list (f one).instances ∙ long,
  (subst (λ r. AllByRecursion (λ (w : WorkerData). length w.instances ≡ ops) (map f r)) is each).1,
)
