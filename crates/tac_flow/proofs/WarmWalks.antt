-- The steps of the code of warm walks.
use Rattle.std.proofs.Common.{◌≡◌, ◌≤◌, ◌<◌, ◌+◌, ◌++◌, ℕ, zero, suc, Bool, Option, Some, None, List, [], ◌∷◌, ◌⊎◌, inl, inr, length, drop, get_or, refl, sym, ap, subst, ◌∙◌, arith}
use Rattle.std.proofs.lemmas.List.{length-append}
use Rattle.tac_syntax.specs.declared.statements.Stmt.{Stmt}
use Rattle.tac_syntax.specs.declared.statements.LoopList.{LoopList}
use Rattle.tac_syntax.specs.Code.{Code, stop, branch, again, each}
use Rattle.tac_syntax.specs.Trees.{Statement, one_line, onto, statement_of, only, code_of}
use Rattle.tac_syntax.specs.WellFormed.{IsWellFormed}
use Rattle.tac_syntax.proofs.Bodies.{code_of-drop}
use Rattle.tac_flow.specs.Known.{Side, State, joined, dropped}
use Rattle.tac_flow.specs.Steps.{Scope, value_at}
use Rattle.tac_flow.specs.Walks.{side_of_list, settled, walk, notes}
use Rattle.tac_flow.specs.Results.{Gathered}
use Rattle.tac_flow.specs.Gathering.{gather, decided}
use Rattle.tac_flow.specs.Memos.{Memos, is_large, place, places, memo_at, begun, put, dropped_any}
use Rattle.tac_flow.specs.Warm.{IsSmallScope}
use Rattle.tac_flow.proofs.SoundStates.{IsSound, walk-sound, dropped-sound}
use Rattle.tac_flow.proofs.LooserWalks.{IsClean, IsTurn, again-turn, each-turn}
use Rattle.tac_flow.proofs.WalkedSoFar.{gather-append, gather_choice, notes-onto, well_formed-onto}
use Rattle.tac_flow.specs.Warm.{IsLine, IsReady, IsReadyLoop, HasWarmed, turn_of}
use Rattle.tac_flow.proofs.WarmStarts.{IsKept, Fits, places-onto, fits-frame, IsWarmed, IsTurning, HasSettled, turning-start, turning-next, turning-done, turning-skip, settled-kept, settled-frame, fits-split, fits-rest, warmed-onto, warmed-stop, warmed-branch}

module _ (c : Scope) (least : ℕ) where
  -- ---- a statement of one line

  pub line_warmed : (sides : List Side) (s : Statement) (n m : ℕ) (k j : State) (ms : Memos) (g h : Gathered) → IsLine s → m ≡ n → j ≡ walk c sides (onto s stop) k → h ≡ gather (notes c sides (onto s stop) k) g
      → IsClean c sides (onto s stop) k → (m ≡ n + places least (onto s stop)) × HasWarmed c least sides (onto s stop) n k ms j ms g h
  line_warmed sides (one_line a) n m k j ms g h line e w x q = (
    e ∙ omega arith,
    record {
      warmed = record { state = w; fits = tt; clean = q; frame = λ i o. refl };
      noted = x;
    },
  )
  line_warmed sides s n m k j ms g h line e w x q = absurd line

  -- ---- the statements of a body

  -- The rest of the body is walked from here, and that completes the walk of the whole.
  pub record WarmsOn (sides : List Side) (left whole : Code) (n : ℕ) (first : State) (ms : Memos) (start : Gathered) (m : ℕ) (now : State) (on : Memos) (so_far : Gathered) : Type 0 where
    pub ready : IsReady c least sides left m on now
    pub well_formed : IsWellFormed c.kind c.fields (length sides) left
    pub number : m + places least left ≡ n + places least whole
    pub finish : (l : State) (last : Memos) (h : Gathered) → HasWarmed c least sides left m now on l last so_far h → HasWarmed c least sides whole n first ms l last start h

  pub warms_end : (sides : List Side) (whole : Code) (n : ℕ) (first : State) (ms : Memos) (start : Gathered) (m : ℕ) (now : State) (on : Memos) (so_far : Gathered) → WarmsOn sides stop whole n first ms start m now on so_far
      → (m ≡ n + places least whole) × HasWarmed c least sides whole n first ms now on start so_far
  warms_end sides whole n first ms start m now on so_far h = (
    let e = h.number in omega (arith, e),
    h.finish now on so_far (record { warmed = warmed-stop c least sides m now on; noted = refl }),
  )

  code_past : (stmts : List Stmt) (i : ℕ) → length stmts ≤ i → code_of (drop i stmts) ≡ stop
  code_past [] zero le = refl
  code_past [] (suc i) le = refl
  code_past (x ∷ xs) zero le = absurd (omega (arith, le))
  code_past (x ∷ xs) (suc i) le = code_past xs i (omega (arith, le))

  pub warms_past : (sides : List Side) (stmts : List Stmt) (i : ℕ) (body : Code) (n : ℕ) (first : State) (ms : Memos) (start : Gathered) (m : ℕ) (now : State) (on : Memos) (so_far : Gathered) → length stmts ≤ i → code_of stmts ≡ body
      → WarmsOn sides (code_of (drop i stmts)) (code_of stmts) n first ms start m now on so_far → (m ≡ n + places least body) × HasWarmed c least sides body n first ms now on start so_far
  warms_past sides stmts i body n first ms start m now on so_far le e h =
      subst (λ (b : Code). (m ≡ n + places least b) × HasWarmed c least sides b n first ms now on start so_far) e
      (warms_end sides (code_of stmts) n first ms start m now on so_far (subst (λ (b : Code). WarmsOn sides b (code_of stmts) n first ms start m now on so_far) (code_past stmts i le) h))

  -- what the first statement of the rest requires
  pub stmt_ready : (sides : List Side) (s : Statement) (next : Code) (m : ℕ) (now : State) (on : Memos) → IsReady c least sides (onto s next) m on now → IsReady c least sides (onto s stop) m on now
  stmt_ready sides s next m now on r = record { scope = r.scope; sound = r.sound; fits = (fits-split c least sides s next m on now r.fits).0 }

  pub places-first : (s : Statement) (next : Code) → places least (onto s stop) ≤ places least (onto s next)
  places-first s next = let e = places-onto least s next in omega (arith, e)

  next_on : (sides : List Side) (s : Statement) (next whole : Code) (n : ℕ) (first : State) (ms : Memos) (start : Gathered) (m : ℕ) (now : State) (on : Memos) (so_far : Gathered) (then : State) (one : Memos) (more : Gathered)
      → WarmsOn sides (onto s next) whole n first ms start m now on so_far → HasWarmed c least sides (onto s stop) m now on then one so_far more → WarmsOn sides next whole n first ms start (m + places least (onto s stop)) then one more
  next_on sides s next whole n first ms start m now on so_far then one more h w =
      let parts = well_formed-onto c.kind c.fields (length sides) s next h.well_formed in
      record {
        ready = record {
          scope = h.ready.scope;
          sound = subst (IsSound c) (sym w.warmed.state) (walk-sound c h.ready.scope (onto s stop) sides (length sides) now refl parts.0 h.ready.sound);
          fits = fits-rest c least sides s next m now then on one h.ready.fits w.warmed;
        };
        well_formed = parts.1;
        number = let e = places-onto least s next in let f = h.number in omega (arith, e, f);
        finish = λ l last i v. h.finish l last i (record {
          warmed = warmed-onto c least sides s next m now then l on one last w.warmed v.warmed;
          noted = v.noted ∙ (λ x. gather (notes c sides next (w.warmed.state x)) (w.noted x)) ∙ sym (notes-onto c sides s next now so_far);
        });
      }

  pub warms_next : (sides : List Side) (stmts : List Stmt) (i : ℕ) (stmt : Stmt) (whole : Code) (n : ℕ) (first : State) (ms : Memos) (start : Gathered) (m p : ℕ) (now : State) (on : Memos) (so_far : Gathered) (then : State) (one : Memos) (more : Gathered)
      → i < length stmts → stmt ≡ get_or stmts i stmt → WarmsOn sides (code_of (drop i stmts)) whole n first ms start m now on so_far
      → (p ≡ m + places least (only stmt)) × HasWarmed c least sides (only stmt) m now on then one so_far more → WarmsOn sides (code_of (drop (i + 1) stmts)) whole n first ms start p then one more
  warms_next sides stmts i stmt whole n first ms start m p now on so_far then one more lt e h w =
      subst (λ (q : ℕ). WarmsOn sides (code_of (drop (i + 1) stmts)) whole n first ms start q then one more) (sym w.0)
      (next_on sides (statement_of stmt) (code_of (drop (i + 1) stmts)) whole n first ms start m now on so_far then one more
      (subst (λ (b : Code). WarmsOn sides b whole n first ms start m now on so_far) (code_of-drop stmts i stmt lt e) h) w.1)

  -- what the walk through the next statement requires
  pub asks_next : (sides : List Side) (stmts : List Stmt) (i : ℕ) (stmt : Stmt) (whole : Code) (n room : ℕ) (first : State) (ms : Memos) (start : Gathered) (m : ℕ) (now : State) (on : Memos) (so_far : Gathered)
      → i < length stmts → stmt ≡ get_or stmts i stmt → n + places least whole ≤ room → WarmsOn sides (code_of (drop i stmts)) whole n first ms start m now on so_far
      → IsWellFormed c.kind c.fields (length sides) (only stmt) × (m + places least (only stmt) ≤ room) × IsReady c least sides (only stmt) m on now
  asks_next sides stmts i stmt whole n room first ms start m now on so_far lt e le h =
      let g : WarmsOn sides (onto (statement_of stmt) (code_of (drop (i + 1) stmts))) whole n first ms start m now on so_far =
      subst (λ (b : Code). WarmsOn sides b whole n first ms start m now on so_far) (code_of-drop stmts i stmt lt e) h in
      let number = g.number in (
        (well_formed-onto c.kind c.fields (length sides) (statement_of stmt) (code_of (drop (i + 1) stmts)) g.well_formed).0,
        omega (arith, le, number, places-first (statement_of stmt) (code_of (drop (i + 1) stmts))),
        stmt_ready sides (statement_of stmt) (code_of (drop (i + 1) stmts)) m now on g.ready,
      )

  -- ---- a branch

  pub other_ready : (sides : List Side) (on : ℕ) (body other : Code) (n m : ℕ) (ms one : Memos) (k j : State) (g h : Gathered) → IsReady c least sides (branch on body other stop) n ms k → (m ≡ n + places least body) × HasWarmed c least sides body n k ms j one g h
      → IsReady c least sides other m one k
  other_ready sides on body other n m ms one k j g h r w = record {
    scope = r.scope;
    sound = r.sound;
    fits = subst (λ (i : ℕ). Fits c least sides other i one k) (sym w.0) (fits-frame c least other sides (n + places least body) ms one k (λ i a b. w.1.warmed.frame i (inr a)) r.fits.1);
  }

  pub other_places : (X : Type 0) (n m a b room : ℕ) → (m ≡ n + a) × X → n + (a + b + 0) ≤ room → m + b ≤ room
  other_places X n m a b room w le = let e = w.0 in omega (arith, e, le)

  pub branch_warmed : (sides : List Side) (on : ℕ) (body other : Code) (n m p : ℕ) (ms one two : Memos) (k j l end : State) (start g h i : Gathered) → g ≡ decided (value_at k on).deps start
      → (m ≡ n + places least body) × HasWarmed c least sides body n k ms j one g h → (p ≡ m + places least other) × HasWarmed c least sides other m k one l two h i → end ≡ joined c.fields j l
      → (p ≡ n + places least (branch on body other stop)) × HasWarmed c least sides (branch on body other stop) n k ms end two start i
  branch_warmed sides on body other n m p ms one two k j l end start g h i d v w e = (
    let a = v.0 in let b = w.0 in omega (arith, a, b),
    record {
      warmed = subst (λ (s : State). IsWarmed c least sides (branch on body other stop) n k ms s two) (sym e)
          (warmed-branch c least sides on body other n k j l ms one two v.1.warmed (subst (λ (q : ℕ). IsWarmed c least sides other q k one l two) v.0 w.1.warmed));
      noted = gather_choice (notes c sides body k) (notes c sides other k) (decided (value_at k on).deps start) h i (v.1.noted ∙ ap (gather (notes c sides body k)) d) w.1.noted;
    },
  )

  -- ---- a loop

  -- a loop that was reached in state k and has come to j
  pub record IsUnderWay (inside : List Side) (body : Code) (name : Option ℕ) (n : ℕ) (k : State) (first : Memos) (j : State) (ms : Memos) : Type 0 where
    pub scope : IsSmallScope c
    pub sound : IsSound c k
    pub turning : IsTurning c least (is_large least body) (turn_of c inside body name) inside body n k first j ms

  is_turn : (scope : IsSmallScope c) (inside : List Side) (body : Code) (name : Option ℕ) → IsWellFormed c.kind c.fields (length inside) body → IsTurn c (turn_of c inside body name) (IsClean c inside body)
  is_turn scope inside body None f = again-turn c scope inside (length inside) body refl f
  is_turn scope inside body (Some name) f = each-turn c scope inside (length inside) name body refl f

  module _ (inside : List Side) (body : Code) (name : Option ℕ) (n : ℕ) (k : State) (first : Memos) (f : IsWellFormed c.kind c.fields (length inside) body) where
    pub loop_start : IsReadyLoop c least inside body name n first k → (large : Bool) → large ≡ is_large least body → (j : State) → j ≡ begun c.fields (memo_at large first n) k → IsUnderWay inside body name n k first j first
    loop_start r large size j e = record {
      scope = r.scope;
      sound = r.sound;
      turning = subst (λ (s : State). IsTurning c least (is_large least body) (turn_of c inside body name) inside body n k first s first) (sym (e ∙ at_size large size))
          (turning-start c least r.scope (turn_of c inside body name) inside (length inside) body refl f (is_turn r.scope inside body name f) (is_large least body) n k r.sound first r.kept r.fits);
    } where
      at_size : (large : Bool) → large ≡ is_large least body → begun c.fields (memo_at large first n) k ≡ begun c.fields (memo_at (is_large least body) first n) k
      at_size large size = ap (λ (b : Bool). begun c.fields (memo_at b first n) k) size

    pub loop_skip : IsReadyLoop c least inside body name n first k → (large : Bool) → large ≡ is_large least body → (j : State) → j ≡ begun c.fields (memo_at large first n) k → memo_at large first n ≡ Some j → HasSettled c least (is_large least body) (turn_of c inside body name) inside body n k first j first
    loop_skip r large size j e here =
        turning-skip c least r.scope (turn_of c inside body name) inside (length inside) body refl f (is_turn r.scope inside body name f) (is_large least body) n k r.sound first r.kept r.fits j (e ∙ ap (λ (b : Bool). begun c.fields (memo_at b first n) k) size) (sym (ap (λ (b : Bool). memo_at b first n) size) ∙ here)

    from_one : (m : ℕ) (j l : State) (ms after : Memos) → m ≡ n + place (is_large least body) → IsWarmed c least inside body m j ms l after → IsWarmed c least inside body (n + place (is_large least body)) j ms l after
    from_one m j l ms after e w = subst (λ (i : ℕ). IsWarmed c least inside body i j ms l after) e w

    pub loop_next : (j x t l : State) (ms after : Memos) (m p : ℕ) (g h : Gathered) → m ≡ n + place (is_large least body) → IsUnderWay inside body name n k first j ms → (p ≡ m + places least body) × HasWarmed c least inside body m j ms x after g h → t ≡ dropped_any name x → l ≡ joined c.fields j t
        → IsUnderWay inside body name n k first l after
    loop_next j x t l ms after m p g h e u v d s = let w = v.1 in record {
      scope = u.scope;
      sound = u.sound;
      turning = turning-next c least u.scope (turn_of c inside body name) inside (length inside) body refl f (is_turn u.scope inside body name f) (is_large least body) n k u.sound first j l ms after u.turning
          (s ∙ ap (joined c.fields j) (d ∙ ap (dropped_any name) w.warmed.state)) x (from_one m j x ms after e w.warmed);
    }

    pub loop_done : (j x t l : State) (ms after last : Memos) (m p : ℕ) (g h : Gathered) → m ≡ n + place (is_large least body) → IsUnderWay inside body name n k first j ms → (p ≡ m + places least body) × HasWarmed c least inside body m j ms x after g h → t ≡ dropped_any name x → l ≡ joined c.fields j t
        → l ≡ j → (large : Bool) → large ≡ is_large least body → ((i : ℕ) → last i ≡ put large n l after i) → HasSettled c least (is_large least body) (turn_of c inside body name) inside body n k first l last
    loop_done j x t l ms after last m p g h e u v d s same large size is =
        let w = v.1 in
        let rests : joined c.fields j (turn_of c inside body name j) ≡ j = sym (s ∙ ap (joined c.fields j) (d ∙ ap (dropped_any name) w.warmed.state)) ∙ same in
        let kept : last ≡ put (is_large least body) n j after = (λ y i. is i y) ∙ (λ y. put (size y) n (same y) after) in
        let done : HasSettled c least (is_large least body) (turn_of c inside body name) inside body n k first j (put (is_large least body) n j after) =
        turning-done c least u.scope (turn_of c inside body name) inside (length inside) body refl f (is_turn u.scope inside body name f) (is_large least body) n k u.sound first j ms after u.turning x (from_one m j x ms after e w.warmed) rests in
        subst (λ (z : State). HasSettled c least (is_large least body) (turn_of c inside body name) inside body n k first z last) (sym same)
        (subst (λ (o : Memos). HasSettled c least (is_large least body) (turn_of c inside body name) inside body n k first j o) (sym kept) done)

    kept_after : IsReadyLoop c least inside body name n first k → (j y : State) (ms last : Memos) (m : ℕ) → m ≡ n + place (is_large least body) → HasSettled c least (is_large least body) (turn_of c inside body name) inside body n k first j ms → IsWarmed c least inside body m j ms y last
        → IsKept c (IsClean c inside body) (turn_of c inside body name) (memo_at (is_large least body) last n) k × Fits c least inside body (n + place (is_large least body)) last (begun c.fields (memo_at (is_large least body) last n) k)
    kept_after r j y ms last m e s w =
        settled-kept c least r.scope (turn_of c inside body name) inside (length inside) body refl f (is_turn r.scope inside body name f) (is_large least body) n k r.sound first refl j ms last s y (from_one m j y ms last e w)

    frame_after : IsReadyLoop c least inside body name n first k → (j y : State) (ms last : Memos) (m : ℕ) → m ≡ n + place (is_large least body) → HasSettled c least (is_large least body) (turn_of c inside body name) inside body n k first j ms → IsWarmed c least inside body m j ms y last
        → (i : ℕ) → (i < n) ⊎ (n + place (is_large least body) + places least body ≤ i) → last i ≡ first i
    frame_after r j y ms last m e s w =
        settled-frame c least r.scope (turn_of c inside body name) inside (length inside) body refl f (is_turn r.scope inside body name f) (is_large least body) n k r.sound first j ms last s y (from_one m j y ms last e w)

  pub repeat_ready : (sides : List Side) (count : ℕ) (body : Code) (n : ℕ) (ms : Memos) (k : State) → IsReady c least sides (again count body stop) n ms k → IsReadyLoop c least sides body None n ms k
  repeat_ready sides count body n ms k r = record { scope = r.scope; sound = r.sound; kept = r.fits.0.0; fits = r.fits.0.1 }

  pub repeat_warmed : (sides : List Side) (count : ℕ) (body : Code) (n m p : ℕ) (k j y : State) (first ms last : Memos) (g h : Gathered) → IsWellFormed c.kind c.fields (length sides) body → m ≡ n + place (is_large least body) → IsReady c least sides (again count body stop) n first k
      → HasSettled c least (is_large least body) (turn_of c sides body None) sides body n k first j ms → (p ≡ m + places least body) × HasWarmed c least sides body m j ms y last g h
      → (p ≡ n + places least (again count body stop)) × HasWarmed c least sides (again count body stop) n k first y last g h
  repeat_warmed sides count body n m p k j y first ms last g h f e r s w =
      let ready = repeat_ready sides count body n first k r in
      let kept = kept_after sides body None n k first f ready j y ms last m e s w.1.warmed in (
        let a = w.0 in omega (arith, a, e),
        record {
          warmed = record {
            state = w.1.warmed.state ∙ ap (walk c sides body) s.is;
            fits = (kept, tt);
            clean = (s.clean w.1.warmed.clean, tt);
            frame = λ i o. frame_after sides body None n k first f ready j y ms last m e s w.1.warmed i (elim o as (λ _. (i < n) ⊎ (n + place (is_large least body) + places least body ≤ i)) [ inl p ↦ inl p | inr p ↦ inr (omega (arith, p)) ]);
          };
          noted = w.1.noted ∙ ap (λ (z : State). gather (notes c sides body z) g) s.is ∙ sym (gather-append (notes c sides body (settled c.fields (walk c sides body) k)) [] g);
        },
      )

  pub well_inside : (sides inside : List Side) (side : Side) (body : Code) → inside ≡ sides ++ side ∷ [] → IsWellFormed c.kind c.fields (length sides + 1) body → IsWellFormed c.kind c.fields (length inside) body
  well_inside sides inside side body e f = subst (λ (d : ℕ). IsWellFormed c.kind c.fields d body) (sym (ap (λ (z : List Side). length z) e ∙ length-append sides (side ∷ []))) f

  pub each_ready : (scope : IsSmallScope c) (sides inside : List Side) (name : ℕ) (list : LoopList) (body : Code) (n : ℕ) (ms : Memos) (k j : State) → inside ≡ sides ++ side_of_list list ∷ [] → j ≡ dropped name k → IsReady c least sides (each name list body stop) n ms k
      → IsReadyLoop c least inside body (Some name) n ms j
  each_ready scope sides inside name list body n ms k j e d r =
      subst (λ (z : List Side). IsReadyLoop c least z body (Some name) n ms j) (sym e) (subst (λ (z : State). IsReadyLoop c least (sides ++ side_of_list list ∷ []) body (Some name) n ms z) (sym d)
      (record { scope = r.scope; sound = dropped-sound c r.scope name k r.sound; kept = r.fits.0.0; fits = r.fits.0.1 }))

  each_here : (sides : List Side) (name : ℕ) (list : LoopList) (body : Code) (n m p : ℕ) (k l j y : State) (first ms last : Memos) (g h : Gathered) → IsWellFormed c.kind c.fields (length (sides ++ side_of_list list ∷ [])) body → m ≡ n + place (is_large least body)
      → l ≡ dropped name k → IsReady c least sides (each name list body stop) n first k
      → HasSettled c least (is_large least body) (turn_of c (sides ++ side_of_list list ∷ []) body (Some name)) (sides ++ side_of_list list ∷ []) body n l first j ms → (p ≡ m + places least body) × HasWarmed c least (sides ++ side_of_list list ∷ []) body m j ms y last g h
      → (p ≡ n + places least (each name list body stop)) × HasWarmed c least sides (each name list body stop) n k first j last g h
  each_here sides name list body n m p k l j y first ms last g h f e d r s w =
      let inside = sides ++ side_of_list list ∷ [] in
      let ready : IsReadyLoop c least inside body (Some name) n first (dropped name k) = each_ready r.scope sides inside name list body n first k (dropped name k) refl refl r in
      let at : HasSettled c least (is_large least body) (turn_of c inside body (Some name)) inside body n (dropped name k) first j ms = subst (λ (z : State). HasSettled c least (is_large least body) (turn_of c inside body (Some name)) inside body n z first j ms) d s in
      let kept = kept_after inside body (Some name) n (dropped name k) first f ready j y ms last m e at w.1.warmed in (
        let a = w.0 in omega (arith, a, e),
        record {
          warmed = record {
            state = at.is;
            fits = (kept, tt);
            clean = (at.clean w.1.warmed.clean, tt);
            frame = λ i o. frame_after inside body (Some name) n (dropped name k) first f ready j y ms last m e at w.1.warmed i (elim o as (λ _. (i < n) ⊎ (n + place (is_large least body) + places least body ≤ i)) [ inl p ↦ inl p | inr p ↦ inr (omega (arith, p)) ]);
          };
          noted = w.1.noted ∙ ap (λ (z : State). gather (notes c inside body z) g) at.is ∙ sym (gather-append (notes c inside body (settled c.fields (λ i. dropped name (walk c inside body i)) (dropped name k))) [] g);
        },
      )

  pub each_warmed : (sides inside : List Side) (name : ℕ) (list : LoopList) (body : Code) (n m p : ℕ) (k l j y : State) (first ms last : Memos) (g h : Gathered) → inside ≡ sides ++ side_of_list list ∷ []
      → IsWellFormed c.kind c.fields (length inside) body → m ≡ n + place (is_large least body) → l ≡ dropped name k → IsReady c least sides (each name list body stop) n first k
      → HasSettled c least (is_large least body) (turn_of c inside body (Some name)) inside body n l first j ms → (p ≡ m + places least body) × HasWarmed c least inside body m j ms y last g h
      → (p ≡ n + places least (each name list body stop)) × HasWarmed c least sides (each name list body stop) n k first j last g h
  each_warmed sides inside name list body n m p k l j y first ms last g h i f e d r s w =
      each_here sides name list body n m p k l j y first ms last g h
      (subst (λ (z : List Side). IsWellFormed c.kind c.fields (length z) body) i f) e d r
      (subst (λ (z : List Side). HasSettled c least (is_large least body) (turn_of c z body (Some name)) z body n l first j ms) i s)
      (subst (λ (z : List Side). (p ≡ m + places least body) × HasWarmed c least z body m j ms y last g h) i w)
