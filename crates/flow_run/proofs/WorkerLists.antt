-- Lists of workers of which one has changed.
use Rattle.std.proofs.Common.{◌≡◌, ◌≢◌, ◌≤◌, ◌<◌, ◌+◌, ◌*◌, ◌⊎◌, inl, inr, ℕ, zero, suc, Option, Some, List, [], ◌∷◌, ◌++◌, drop, get_or, length, map, replicate, set, take, refl, ap, append-nil, length-append, sym, ◌∙◌, subst, arith}
use Rattle.std.specs.List.{AllByRecursion}
use Rattle.std.proofs.lemmas.Bool.{cases_eq}
use Rattle.std.proofs.lemmas.List.{drop_all, drop_more, get_or_append_left, get_or-set_other, get_or-set_same, length-map, length-replicate, length-set, map-set, replicate-append-replicate, take_all}
use Rattle.std.proofs.Math.Seq.{get_or-append_seam}
use Rattle.batch_channel.specs.Ends.{APipe, AnEnd}
use Rattle.flow_instance.specs.Instances.{Instance}
use Rattle.plan_trees.specs.Physicals.{PhysicalData}
use Rattle.flow_run.specs.Ends.{EndTable, PipeTables}
use Rattle.flow_run.specs.Runs.{AreAssembled, AreStill}
use Rattle.flow_run.specs.Tables.{HasPlace, HasPlaceIn, IsBlank, IsBlankTable, IsChanged, IsChangedIn, IsShaped, cell, cell_in}
use Rattle.flow_run.specs.WorkerData.{with_column, with_columns}
use Rattle.flow_run.specs.Wires.{AreNumbered, AreWired, EndTables, HaveNone, IsMade, KeepEnds, KeepInstances, instances_in, new_end, numbers_in, puts_in, takes_in}
use Rattle.flow_run.specs.declared.workers.Worker.{Worker}
use Rattle.flow_run.proofs.BlankTables.{still_shaped, tables_none, tables_shaped}

-- ---- one item of a list

module _ {X Y : Type 0} (f : X → Y) where
  -- the item has changed, but not what is read of it
  map_kept : (xs : List X) (k : ℕ) (x d : X) → k < length xs → f x ≡ f (get_or xs k d) → map f (set xs k x) ≡ map f xs
  map_kept [] k x d less e = absurd (omega (arith, less))
  map_kept (y ∷ xs) zero x d less e = ap (λ (z : Y). z ∷ map f xs) e
  map_kept (y ∷ xs) (suc k) x d less e = ap (λ (l : List Y). f y ∷ l) (map_kept xs k x d (omega (arith, less)) e)

  pub map_get : (xs : List X) (k : ℕ) (d : X) (e : Y) → k < length xs → get_or (map f xs) k e ≡ f (get_or xs k d)
  map_get [] k d e less = absurd (omega (arith, less))
  map_get (x ∷ xs) zero d e less = refl
  map_get (x ∷ xs) (suc k) d e less = map_get xs k d e (omega (arith, less))

  pub map_last : (xs : List X) (x : X) → map f (xs ++ x ∷ []) ≡ map f xs ++ f x ∷ []
  map_last [] x = refl
  map_last (y ∷ xs) x = ap (λ (l : List Y). f y ∷ l) (map_last xs x)

-- ---- one item more

pub all_last : {Y : Type 0} (P : Y → Type 0) (xs : List Y) (x : Y) → AllByRecursion P xs → P x → AllByRecursion P (xs ++ x ∷ [])
all_last P [] x h p = (p, tt)
all_last P (y ∷ xs) x h p = (h.0, all_last P xs x h.1 p)

numbers_last : (numbers : List ℕ) (n : ℕ) → length numbers ≡ n → AreNumbered numbers → AreNumbered (numbers ++ n ∷ [])
numbers_last numbers n long h k less = elim (cases_eq k n) as (λ _. get_or (numbers ++ n ∷ []) k 0 ≡ k) [
  | inl e ↦ ap (λ (m : ℕ). get_or (numbers ++ n ∷ []) m 0) (e ∙ sym long) ∙ get_or-append_seam numbers n [] 0 ∙ sym e
  | inr other ↦
      let as_long = length-append numbers (n ∷ []) in
      let below : k < length numbers = omega (arith, less, as_long, long, other) in
      get_or_append_left numbers (n ∷ []) 0 k below ∙ h k below
]

-- ---- tables of which one has changed

module _ {T : Type 0} (all : List (List (List (Option T)))) (a b c : ℕ) (table new : List (List (Option T))) (item : Option T) (less : a < length all) (is : get_or all a [] ≡ table) (changed : IsChanged table b c item new) where
  changed_in : IsChangedIn all a b c item (set all a new)
  changed_in = record {
    here = ap (λ (t : List (List (Option T))). cell t b c) (get_or-set_same all a new [] less) ∙ changed.here;
    elsewhere = λ i j k other. elim (cases_eq i a) as (λ _. cell_in (set all a new) i j k ≡ cell_in all i j k) [
      | inr e ↦ ap (λ (t : List (List (Option T))). cell t j k) (get_or-set_other all a i new [] e)
      | inl e ↦
          ap (λ (n : ℕ). cell (get_or (set all a new) n []) j k) e ∙ ap (λ (t : List (List (Option T))). cell t j k) (get_or-set_same all a new [] less)
          ∙ changed.elsewhere j k (elim other as (λ _. (j ≢ b) ⊎ (k ≢ c)) [ inl x ↦ absurd (x e) | inr x ↦ x ])
          ∙ ap (λ (t : List (List (Option T))). cell t j k) (sym is) ∙ ap (λ (n : ℕ). cell (get_or all n []) j k) (sym e)
    ];
  }

-- ---- workers of which one has other ends or instances

module _ {L W : Type 0} where
  abbrev with_puts : Worker L W → EndTable → Worker L W
  with_puts w t = record { number = w.number; instances = w.instances; puts = t; takes = w.takes }

  abbrev with_takes : Worker L W → EndTable → Worker L W
  with_takes w t = record { number = w.number; instances = w.instances; puts = w.puts; takes = t }

  abbrev puts : Worker L W → EndTable
  puts w = w.puts

  abbrev takes : Worker L W → EndTable
  takes w = w.takes

  abbrev number : Worker L W → ℕ
  number w = w.number

  abbrev instances : Worker L W → List Instance
  instances w = w.instances.items

  module _ (ws : List (Worker L W)) (k : ℕ) (d : Worker L W) where
    abbrev old : Worker L W
    old = get_or ws k d

    -- another worker at the place, of which nothing but the instances is another
    pub keeps_ends : (new : Worker L W) → k < length ws → new.number ≡ old.number → new.puts ≡ old.puts → new.takes ≡ old.takes → KeepEnds ws (set ws k new)
    keeps_ends new less n p t = record {
      numbers = map_kept number ws k new d less n;
      puts = map_kept puts ws k new d less p;
      takes = map_kept takes ws k new d less t;
    }

    pub one_more : (new : Worker L W) (i : Instance) → k < length ws → new.instances.items ≡ old.instances.items ++ i ∷ [] → instances_in (set ws k new) ≡ set (instances_in ws) k (get_or (instances_in ws) k [] ++ i ∷ [])
    one_more new i less is = map-set instances ws k new ∙ ap (set (instances_in ws) k) (is ∙ ap (λ (l : List Instance). l ++ i ∷ []) (sym (map_get instances ws k d [] less)))

    -- ---- other ends

    module _ (b c : ℕ) (table : EndTable) where
      put_below : HasPlaceIn (puts_in ws) k b c → k < length ws
      put_below h = let long = length-map ws puts in omega (arith, h.table, long)

      take_below : HasPlaceIn (takes_in ws) k b c → k < length ws
      take_below h = let long = length-map ws takes in omega (arith, h.table, long)

      pub put_place : HasPlaceIn (puts_in ws) k b c → HasPlace old.puts b c
      put_place h = subst (λ (t : EndTable). HasPlace t b c) (map_get puts ws k d [] (put_below h)) h.place

      pub take_place : HasPlaceIn (takes_in ws) k b c → HasPlace old.takes b c
      take_place h = subst (λ (t : EndTable). HasPlace t b c) (map_get takes ws k d [] (take_below h)) h.place

      pub put_changed : (item : Option AnEnd) → HasPlaceIn (puts_in ws) k b c → IsChanged old.puts b c item table → IsChangedIn (puts_in ws) k b c item (puts_in (set ws k (with_puts old table)))
      put_changed item h changed =
          subst (IsChangedIn (puts_in ws) k b c item) (sym (map-set puts ws k (with_puts old table)))
          (changed_in (puts_in ws) k b c old.puts table item h.table (map_get puts ws k d [] (put_below h)) changed)

      pub take_changed : (item : Option AnEnd) → HasPlaceIn (takes_in ws) k b c → IsChanged old.takes b c item table → IsChangedIn (takes_in ws) k b c item (takes_in (set ws k (with_takes old table)))
      take_changed item h changed =
          subst (IsChangedIn (takes_in ws) k b c item) (sym (map-set takes ws k (with_takes old table)))
          (changed_in (takes_in ws) k b c old.takes table item h.table (map_get takes ws k d [] (take_below h)) changed)

      pub put_shaped : HasPlaceIn (puts_in ws) k b c → ((i j : ℕ) → HasPlace old.puts i j → HasPlace table i j) → (m n o : ℕ) → IsShaped m n o (puts_in ws) → IsShaped m n o (puts_in (set ws k (with_puts old table)))
      put_shaped h keeps m n o shaped =
          subst (IsShaped m n o) (sym (map-set puts ws k (with_puts old table)))
          (still_shaped m n o (puts_in ws) k table h.table (λ i j p. keeps i j (subst (λ (t : EndTable). HasPlace t i j) (map_get puts ws k d [] (put_below h)) p)) shaped)

      pub take_shaped : HasPlaceIn (takes_in ws) k b c → ((i j : ℕ) → HasPlace old.takes i j → HasPlace table i j) → (m n o : ℕ) → IsShaped m n o (takes_in ws) → IsShaped m n o (takes_in (set ws k (with_takes old table)))
      take_shaped h keeps m n o shaped =
          subst (IsShaped m n o) (sym (map-set takes ws k (with_takes old table)))
          (still_shaped m n o (takes_in ws) k table h.table (λ i j p. keeps i j (subst (λ (t : EndTable). HasPlace t i j) (map_get takes ws k d [] (take_below h)) p)) shaped)

      pub put_takes : HasPlaceIn (puts_in ws) k b c → takes_in (set ws k (with_puts old table)) ≡ takes_in ws
      put_takes h = map_kept takes ws k (with_puts old table) d (put_below h) refl

      pub take_puts : HasPlaceIn (takes_in ws) k b c → puts_in (set ws k (with_takes old table)) ≡ puts_in ws
      take_puts h = map_kept puts ws k (with_takes old table) d (take_below h) refl

      pub put_keeps : HasPlaceIn (puts_in ws) k b c → KeepInstances ws (set ws k (with_puts old table))
      put_keeps h = record { numbers = map_kept number ws k (with_puts old table) d (put_below h) refl; instances = map_kept instances ws k (with_puts old table) d (put_below h) refl }

      pub take_keeps : HasPlaceIn (takes_in ws) k b c → KeepInstances ws (set ws k (with_takes old table))
      take_keeps h = record { numbers = map_kept number ws k (with_takes old table) d (take_below h) refl; instances = map_kept instances ws k (with_takes old table) d (take_below h) refl }

-- ---- workers in turn

module _ {L W : Type 0} where
  pub keep_both : (a b c : List (Worker L W)) → KeepInstances a b → KeepInstances b c → KeepInstances a c
  keep_both a b c h k = record { numbers = k.numbers ∙ h.numbers; instances = k.instances ∙ h.instances }

  pub ends_both : (a b c : List (Worker L W)) → KeepEnds a b → KeepEnds b c → KeepEnds a c
  ends_both a b c h k = record { numbers = k.numbers ∙ h.numbers; puts = k.puts ∙ h.puts; takes = k.takes ∙ h.takes }

  pub still_none : (count : ℕ) (before after : List (Worker L W)) → KeepInstances before after → HaveNone count before → HaveNone count after
  still_none count before after k h = record { numbered = subst AreNumbered (sym k.numbers) h.numbered; none = k.instances ∙ h.none }

-- ---- as many workers

module _ {L W : Type 0} where
  pub as_many_kept : (a b : List (Worker L W)) → KeepInstances a b → length b ≡ length a
  as_many_kept a b h = sym (length-map b (λ (w : Worker L W). w.number)) ∙ ap length h.numbers ∙ length-map a (λ (w : Worker L W). w.number)

  pub as_many_ends : (a b : List (Worker L W)) → KeepEnds a b → length b ≡ length a
  as_many_ends a b h = sym (length-map b (λ (w : Worker L W). w.number)) ∙ ap length h.numbers ∙ length-map a (λ (w : Worker L W). w.number)

  pub as_many_instances : (ws : List (Worker L W)) → length (instances_in ws) ≡ length ws
  as_many_instances ws = length-map ws (λ (w : Worker L W). w.instances.items)

-- what a call leaves in a vector that it was lent as a slice
pub written : {X : Type 0} (n : ℕ) (new old : List X) → length new ≡ length old → length old ≡ n → take n (new ++ drop (length new) old) ≡ new
written n new old same long =
    ap (λ l. take n (new ++ l)) (drop_all (length new) old (omega (arith, same))) ∙ ap (take n) (append-nil new) ∙ take_all n new (omega (arith, same, long))

-- ---- a pipe with its ends

module _ {L W : Type 0} where
  pub made : (pipe : APipe) (put take : AnEnd) (depth edge from to : ℕ) (pipes pipes' : PipeTables) (old mid new : List (Worker L W)) → pipe.depth ≡ depth → (put.name ≡ pipe.name) × (take.name ≡ pipe.name) → (put.notes ≡ []) × (take.notes ≡ [])
      → IsChangedIn pipes edge from to (Some pipe) pipes' → IsChangedIn (puts_in old) from edge to (Some put) (puts_in mid) → takes_in mid ≡ takes_in old → IsChangedIn (takes_in mid) to edge from (Some take) (takes_in new) → puts_in new ≡ puts_in mid
      → IsMade depth edge from to pipes (puts_in old) (takes_in old) pipes' (puts_in new) (takes_in new)
  made pipe put take depth edge from to pipes pipes' old mid new deep names empty pipe_made put_made same_takes take_made same_puts =
      let put_is : put ≡ new_end pipe = λ i. record { name = names.0 i; notes = empty.0 i } in
      let take_is : take ≡ new_end pipe = λ i. record { name = names.1 i; notes = empty.1 i } in
      record {
        pipe = pipe;
        deep = deep;
        pipe_made = pipe_made;
        put_made = subst (λ (x : AnEnd × EndTables). IsChangedIn (puts_in old) from edge to (Some x.0) x.1) (λ i. (put_is i, sym same_puts i)) put_made;
        take_made = subst (λ (x : AnEnd × EndTables). IsChangedIn x.1 to edge from (Some x.0) (takes_in new)) (λ i. (take_is i, same_takes i)) take_made;
      }

-- ---- instances that are assigned

module _ {L W : Type 0} where
  -- the workers have the instances of all rows before this one, and the rows from here on are left
  pub record AssignedSoFar (p : PhysicalData) (ops depth : ℕ) (list left : List (List Instance)) (at : ℕ) (pipes : PipeTables) (ws : List (Worker L W)) : Type 0 where
    pub columns : with_columns (instances_in ws) (drop at list) ≡ with_columns (replicate p.workers []) list
    pub long : length ws ≡ p.workers
    pub still : AreStill at list left
    pub left_long : length left ≡ length list
    pub numbered : AreNumbered (numbers_in ws)
    pub wired : AreWired p ops depth (256 * ops) pipes (puts_in ws) (takes_in ws)

  pub none_assigned : (p : PhysicalData) (ops depth : ℕ) (list left : List (List Instance)) (pipes : PipeTables) (ws : List (Worker L W)) → left ≡ list → HaveNone p.workers ws → AreWired p ops depth (256 * ops) pipes (puts_in ws) (takes_in ws)
      → AssignedSoFar p ops depth list left 0 pipes ws
  none_assigned p ops depth list left pipes ws same h w = record {
    columns = ap (λ l. with_columns l list) h.none;
    long = sym (length-map ws (λ (w : Worker L W). w.instances.items)) ∙ ap length h.none ∙ length-replicate p.workers [];
    still = λ k more. ap (λ (l : List (List Instance)). get_or l k []) same;
    left_long = ap length same;
    numbered = h.numbered;
    wired = w;
  }

  pub assign_next : (p : PhysicalData) (ops depth : ℕ) (list left rest : List (List Instance)) (at : ℕ) (pipes : PipeTables) (ws new : List (Worker L W)) (row : List Instance) → at < length list → row ≡ get_or left at [] → rest ≡ set left at []
      → instances_in new ≡ with_column (instances_in ws) row → KeepEnds ws new → AssignedSoFar p ops depth list left at pipes ws → AssignedSoFar p ops depth list rest (at + 1) pipes new
  assign_next p ops depth list left rest at pipes ws new row less row_is rest_is new_is kept h = record {
    columns = ap (λ l. with_columns l (drop (at + 1) list)) (new_is ∙ ap (with_column (instances_in ws)) (row_is ∙ h.still at (omega arith))) ∙ sym (ap (with_columns (instances_in ws)) (drop_more list at [] less)) ∙ h.columns;
    long = as_many_ends ws new kept ∙ h.long;
    still = λ k more. ap (λ (l : List (List Instance)). get_or l k []) rest_is ∙ get_or-set_other left at k [] [] (omega (arith, more)) ∙ h.still k (omega (arith, more));
    left_long = ap length rest_is ∙ length-set left at [] ∙ h.left_long;
    numbered = subst AreNumbered (sym kept.numbers) h.numbered;
    wired = subst (λ (x : EndTables × EndTables). AreWired p ops depth (256 * ops) pipes x.0 x.1) (λ i. (sym kept.puts i, sym kept.takes i)) h.wired;
  }

  -- all rows are assigned
  pub all_assigned : (p : PhysicalData) (ops depth : ℕ) (list left : List (List Instance)) (at : ℕ) (pipes : PipeTables) (ws : List (Worker L W)) → length list ≤ at → AssignedSoFar p ops depth list left at pipes ws
      → instances_in ws ≡ with_columns (replicate p.workers []) list
  all_assigned p ops depth list left at pipes ws past h = ap (with_columns (instances_in ws)) (sym (drop_all at list past)) ∙ h.columns

  -- each worker at the place of its number, with what the lists have at that place
  pub assembled : (count : ℕ) (ws : List (Worker L W)) → length ws ≡ count → AreNumbered (numbers_in ws) → AreAssembled (instances_in ws) (puts_in ws) (takes_in ws) count ws
  assembled count ws long numbered = record {
    long = long;
    each = λ k d less.
        let within : k < length ws = omega (arith, less, long) in
        let as_many = length-map ws (λ (w : Worker L W). w.number) in
        record {
          number_is = sym (map_get (λ (w : Worker L W). w.number) ws k d 0 within) ∙ numbered k (omega (arith, within, as_many));
          instances_are = sym (map_get (λ (w : Worker L W). w.instances.items) ws k d [] within);
          puts_are = sym (map_get (λ (w : Worker L W). w.puts) ws k d [] within);
          takes_are = sym (map_get (λ (w : Worker L W). w.takes) ws k d [] within);
        };
  }

  -- ---- one worker more

  -- the first `n` workers, with no instance and no end
  pub record AreBlank (ops count n : ℕ) (ws : List (Worker L W)) : Type 0 where
    pub long : length ws ≡ n
    pub numbered : AreNumbered (numbers_in ws)
    pub none : instances_in ws ≡ replicate n []
    pub puts : AllByRecursion (IsBlankTable ops count) (puts_in ws)
    pub takes : AllByRecursion (IsBlankTable ops count) (takes_in ws)

  pub blank_none : (ops count : ℕ) (ws : List (Worker L W)) → ws ≡ [] → AreBlank ops count 0 ws
  blank_none ops count ws is = subst (AreBlank ops count 0) (sym is) (record { long = refl; numbered = λ k less. absurd (omega (arith, less)); none = refl; puts = tt; takes = tt })

  pub blank_more : (ops count n : ℕ) (ws new : List (Worker L W)) (w : Worker L W) → new ≡ ws ++ w ∷ [] → w.number ≡ n → w.instances.items ≡ [] → IsBlankTable ops count w.puts → IsBlankTable ops count w.takes → AreBlank ops count n ws
      → AreBlank ops count (n + 1) new
  blank_more ops count n ws new w is number none puts takes h =
      let as_long = length-map ws (λ (w : Worker L W). w.number) in
      subst (AreBlank ops count (n + 1)) (sym is) (record {
        long = length-append ws (w ∷ []) ∙ ap (λ (k : ℕ). k + 1) h.long;
        numbered = subst AreNumbered (sym (map_last (λ (w : Worker L W). w.number) ws w ∙ (λ i. numbers_in ws ++ number i ∷ []))) (numbers_last (numbers_in ws) n (as_long ∙ h.long) h.numbered);
        none = map_last (λ (w : Worker L W). w.instances.items) ws w ∙ (λ i. h.none i ++ none i ∷ []) ∙ replicate-append-replicate n 1 [];
        puts = subst (AllByRecursion (IsBlankTable ops count)) (sym (map_last (λ (w : Worker L W). w.puts) ws w)) (all_last (IsBlankTable ops count) (puts_in ws) w.puts h.puts puts);
        takes = subst (AllByRecursion (IsBlankTable ops count)) (sym (map_last (λ (w : Worker L W). w.takes) ws w)) (all_last (IsBlankTable ops count) (takes_in ws) w.takes h.takes takes);
      })

  pub blank_all : (ops count n : ℕ) (ws : List (Worker L W)) → n ≡ count → AreBlank ops count n ws
      → HaveNone count ws × (IsBlank (puts_in ws) × IsShaped count ops count (puts_in ws)) × (IsBlank (takes_in ws) × IsShaped count ops count (takes_in ws))
  blank_all ops count n ws all h =
      let long = length-map ws (λ (w : Worker L W). w.puts) ∙ h.long ∙ all in
      let also = length-map ws (λ (w : Worker L W). w.takes) ∙ h.long ∙ all in (
        record { numbered = h.numbered; none = h.none ∙ (λ i. replicate (all i) []) },
        (tables_none ops count (puts_in ws) h.puts, tables_shaped count ops count (puts_in ws) h.puts long),
        (tables_none ops count (takes_in ws) h.takes, tables_shaped count ops count (takes_in ws) h.takes also),
      )
