-- Loops that begin from where they settled before: when the stored states of a body's loops fit a state in which the
-- body is reached again, and that a loop then settles where it would without them.
use Rattle.std.proofs.Common.{◌≡◌, ◌≤◌, ◌<◌, ◌+◌, ◌++◌, ℕ, Bool, true, false, if◌then◌else◌, Option, Some, None, List, [], ◌∷◌, ◌⊎◌, inl, inr, length, refl, sym, ap, subst, ◌∙◌, arith}
use Rattle.std.proofs.lemmas.Bool.{eq-eqb, ne_eqb, leb-false, lt-leb, true≢false}
use Rattle.std.proofs.lemmas.List.{length-append}
use Rattle.tac_syntax.specs.Code.{Code, stop, plain, branch, again, each, count_of}
use Rattle.tac_syntax.specs.WellFormed.{IsWellFormedSimple, IsWellFormed}
use Rattle.tac_flow.specs.Known.{Side, State, joined, dropped}
use Rattle.tac_flow.specs.Steps.{Scope}
use Rattle.tac_flow.specs.Walks.{side_of_list, settled, walk}
use Rattle.tac_syntax.specs.Trees.{Statement, one_line, choice, turning, going_through, onto}
use Rattle.tac_flow.proofs.WalkedSoFar.{walk-onto}
use Rattle.tac_flow.specs.Memos.{Memos, is_large, place, places, memo_at, begun, put}
use Rattle.tac_flow.specs.Warm.{IsSmallScope}
use Rattle.tac_flow.proofs.LoopsSettle.{settles}
use Rattle.tac_flow.proofs.SoundStates.{IsSound, transfer-sound, joined-sound, dropped-sound, walk-sound}
use Rattle.tac_flow.proofs.LooserWalks.{IsLess, less-refl, less-trans, less-both, less-left, less-right, less-least, dropped-less, transfer-less, IsClean, IsTurn, settled-turns, settled-less, settled-grows, settled-rest, at_rest, warm_start, grows, again-turn, each-turn}
pub use Rattle.tac_flow.specs.Warm.{IsKept, Fits, IsWarmed, HasSettled}

pub put-here : (large : Bool) (n : ℕ) (s : State) (ms : Memos) → large ≡ true → put large n s ms n ≡ Some s
put-here true n s ms e = ap (λ (b : Bool). if b then Some s else ms n) (eq-eqb n n refl)
put-here false n s ms e = absurd (true≢false (sym e))

pub put-there : (large : Bool) (n i : ℕ) (s : State) (ms : Memos) → (i < n) ⊎ (n + place large ≤ i) → put large n s ms i ≡ ms i
put-there true n i s ms o = ap (λ (b : Bool). if b then Some s else ms i) (ne_eqb i n (λ e. elim o as (λ _. ⊥) [ inl p ↦ absurd (omega (arith, p, e)) | inr p ↦ absurd (omega (arith, p, e)) ]))
put-there false n i s ms o = refl

memo-same : (large : Bool) (n r : ℕ) (ms other : Memos) → ((i : ℕ) → n ≤ i → i < n + (place large + r) → other i ≡ ms i) → memo_at large other n ≡ memo_at large ms n
memo-same true n r ms other f = f n (omega arith) (omega arith)
memo-same false n r ms other f = refl

memo-here : (large : Bool) (n : ℕ) (ms : Memos) (o : Option State) → memo_at large ms n ≡ o → large ≡ true → ms n ≡ o
memo-here true n ms o e l = e
memo-here false n ms o e l = absurd (true≢false (sym l))

pub memo-none : (large : Bool) (n : ℕ) (ms : Memos) → (large ≡ true → ms n ≡ None) → memo_at large ms n ≡ None
memo-none true n ms e = e refl
memo-none false n ms e = refl

module _ (c : Scope) (least : ℕ) where
  -- only the stored states of the body's own loops count
  pub fits-frame : (code : Code) (sides : List Side) (n : ℕ) (ms other : Memos) (k : State) → ((i : ℕ) → n ≤ i → i < n + places least code → other i ≡ ms i) → Fits c least sides code n ms k → Fits c least sides code n other k
  fits-frame stop sides n ms other k f h = tt
  fits-frame (plain a next) sides n ms other k f h = fits-frame next sides n ms other _ f h
  fits-frame (branch on body second next) sides n ms other k f h = (
    fits-frame body sides n ms other k (λ i a b. f i a (omega (arith, b))) h.0,
    fits-frame second sides (n + places least body) ms other k (λ i a b. f i (omega (arith, a)) (omega (arith, b))) h.1,
    fits-frame next sides (n + places least body + places least second) ms other _ (λ i a b. f i (omega (arith, a)) (omega (arith, b))) h.2,
  )
  fits-frame (again count body next) sides n ms other k f h =
      let large = is_large least body in (
        subst (λ (o : Option State). IsKept c (IsClean c sides body) (walk c sides body) o k × Fits c least sides body (n + place large) other (begun c.fields o k))
            (sym (memo-same large n (places least body + places least next) ms other (λ i a b. f i a (omega (arith, b)))))
            (h.0.0, fits-frame body sides (n + place large) ms other _ (λ i a b. f i (omega (arith, a)) (omega (arith, b))) h.0.1),
        fits-frame next sides (n + place large + places least body) ms other _ (λ i a b. f i (omega (arith, a)) (omega (arith, b))) h.1,
      )
  fits-frame (each name list body next) sides n ms other k f h =
      let large = is_large least body in
      let inside = sides ++ side_of_list list ∷ [] in
      let turn : State → State = λ j. dropped name (walk c inside body j) in (
        subst (λ (o : Option State). IsKept c (IsClean c inside body) turn o (dropped name k) × Fits c least inside body (n + place large) other (begun c.fields o (dropped name k)))
            (sym (memo-same large n (places least body + places least next) ms other (λ i a b. f i a (omega (arith, b)))))
            (h.0.0, fits-frame body inside (n + place large) ms other _ (λ i a b. f i (omega (arith, a)) (omega (arith, b))) h.0.1),
        fits-frame next sides (n + place large + places least body) ms other _ (λ i a b. f i (omega (arith, a)) (omega (arith, b))) h.1,
      )

  -- in a short body no loop is large, and nothing is stored
  pub fits-short : (code : Code) (sides : List Side) (n : ℕ) (ms : Memos) (k : State) → count_of code < least → Fits c least sides code n ms k
  fits-short stop sides n ms k lt = tt
  fits-short (plain a next) sides n ms k lt = fits-short next sides n ms _ (omega (arith, lt))
  fits-short (branch on body other next) sides n ms k lt =
      (fits-short body sides n ms k (omega (arith, lt)), fits-short other sides _ ms k (omega (arith, lt)), fits-short next sides _ ms _ (omega (arith, lt)))
  fits-short (again count body next) sides n ms k lt =
      let none : memo_at (is_large least body) ms n ≡ None = ap (λ (b : Bool). memo_at b ms n) (lt-leb least (count_of body) (omega (arith, lt))) in (
        (subst (λ (o : Option State). IsKept c (IsClean c sides body) (walk c sides body) o k) (sym none) tt, fits-short body sides _ ms _ (omega (arith, lt))),
        fits-short next sides _ ms _ (omega (arith, lt)),
      )
  fits-short (each name list body next) sides n ms k lt =
      let none : memo_at (is_large least body) ms n ≡ None = ap (λ (b : Bool). memo_at b ms n) (lt-leb least (count_of body) (omega (arith, lt))) in
      let inside = sides ++ side_of_list list ∷ [] in
      let turn : State → State = λ j. dropped name (walk c inside body j) in (
        (subst (λ (o : Option State). IsKept c (IsClean c inside body) turn o (dropped name k)) (sym none) tt, fits-short body inside _ ms _ (omega (arith, lt))),
        fits-short next sides _ ms _ (omega (arith, lt)),
      )

  module _ (scope : IsSmallScope c) where
    -- ---- one loop

    module _ (turn : State → State) (Q : State → Type 0) (t : IsTurn c turn Q) where
      pub begun-sound : (o : Option State) (k : State) → IsKept c Q turn o k → IsSound c k → IsSound c (begun c.fields o k)
      begun-sound None k g h = h
      begun-sound (Some m) k g h = joined-sound c scope k m h g.0

      pub begun-grows : (o : Option State) (k : State) → IsKept c Q turn o k → IsSound c k → IsLess k (begun c.fields o k)
      begun-grows None k g h = less-refl k
      begun-grows (Some m) k g h = less-left c.fields k m h.small g.0.small

      pub begun-settles : (o : Option State) (k : State) → IsKept c Q turn o k → IsSound c k → settled c.fields turn (begun c.fields o k) ≡ settled c.fields turn k
      begun-settles None k g h = refl
      begun-settles (Some m) k g h = warm_start c scope turn Q t k m h g.0 g.2 g.1

      pub begun-less : (o : Option State) (a b : State) → IsKept c Q turn o a → IsSound c a → IsSound c b → IsLess a b → IsLess (begun c.fields o a) (begun c.fields o b)
      begun-less None a b k h g l = l
      begun-less (Some m) a b k h g l =
          less-least c.fields c refl a m (joined c.fields b m) h k.0 (joined-sound c scope b m g k.0) (less-trans _ _ _ l (less-left c.fields b m g.small k.0.small)) (less-right c.fields b m g.small k.0.small)

      pub kept-less : (o : Option State) (a b : State) → IsSound c a → IsSound c b → IsLess a b → IsKept c Q turn o a → IsKept c Q turn o b
      kept-less None a b h g l k = tt
      kept-less (Some m) a b h g l k = (k.0, less-trans m _ _ k.1 (settled-less c scope turn Q t a b h g k.2 l), t.more a b h g l k.2, k.3)

      -- one more turn leads to the same end
      pub settled-next : (j : State) → IsSound c j → Q j → settled c.fields turn (joined c.fields j (turn j)) ≡ settled c.fields turn j
      settled-next j h q =
          let s = settled c.fields turn j in
          let s_sound = settled-turns c scope turn Q t j h in
          let to = t.sound j h in
          let next_sound = joined-sound c scope j (turn j) h to in
          let up = less-left c.fields j (turn j) h.small to.small in
          let below = settled-grows c scope turn Q t j h in
          let last : IsLess (turn j) s = subst (IsLess (turn j)) (at_end j h) (less-trans _ _ _ (t.mono j s h s_sound below q) (less-right c.fields s (turn s) s_sound.small (t.sound s s_sound).small)) in
          let under = less-least c.fields c refl j (turn j) s h to s_sound below last in
          less-both _ _ (subst (IsLess (settled c.fields turn (joined c.fields j (turn j)))) (settled-rest c scope turn Q t j h) (settled-less c scope turn Q t _ s next_sound s_sound (t.more j _ h next_sound up q) under))
          (settled-less c scope turn Q t j _ h next_sound q up) where
            at_end : (j : State) → IsSound c j → joined c.fields (settled c.fields turn j) (turn (settled c.fields turn j)) ≡ settled c.fields turn j
            at_end j h = settles c.fields turn t.small j h.small

    -- ---- what fits a state fits one that knows less
    pub fits-less : (code : Code) (sides : List Side) (depth n : ℕ) (ms : Memos) (a b : State) → depth ≡ length sides → IsWellFormed c.kind c.fields depth code → IsSound c a → IsSound c b → IsLess a b → IsClean c sides code a
        → Fits c least sides code n ms a → Fits c least sides code n ms b
    fits-less stop sides depth n ms a b e f h g l q m = tt
    fits-less (plain s next) sides depth n ms a b e f h g l q m =
        let own = subst (λ (d : ℕ). IsWellFormedSimple c.kind c.fields d s) e f.0 in
        fits-less next sides depth n ms _ _ e f.1 (transfer-sound c scope sides s a own h) (transfer-sound c scope sides s b own g) (transfer-less c sides s a b q.0 l) q.1 m
    fits-less (branch on body other next) sides depth n ms a b e f h g l q m =
        let p = grows c scope body sides depth a b e f.0 h g l q.0 in
        let r = grows c scope other sides depth a b e f.1 h g l q.1 in
        let x = walk-sound c scope body sides depth a e f.0 h in
        let y = walk-sound c scope other sides depth a e f.1 h in
        let u = walk-sound c scope body sides depth b e f.0 g in
        let w = walk-sound c scope other sides depth b e f.1 g in
        let j = joined-sound c scope _ _ u w in
        let joins = less-least c.fields c refl _ _ _ x y j
        (less-trans _ _ _ p.walks (less-left c.fields _ _ u.small w.small)) (less-trans _ _ _ r.walks (less-right c.fields _ _ u.small w.small)) in (
          fits-less body sides depth n ms a b e f.0 h g l q.0 m.0,
          fits-less other sides depth _ ms a b e f.1 h g l q.1 m.1,
          fits-less next sides depth _ ms _ _ e f.2 (joined-sound c scope _ _ x y) j joins q.2 m.2,
        )
    fits-less (again count body next) sides depth n ms a b e f h g l q m =
        let large = is_large least body in
        let turn = walk c sides body in
        let Q = IsClean c sides body in
        let t = again-turn c scope sides depth body e f.1 in
        let x = settled-turns c scope turn Q t a h in
        let y = settled-turns c scope turn Q t b g in
        let under = settled-less c scope turn Q t a b h g q.0 l in
        let clean = t.more a (settled c.fields turn a) h x (settled-grows c scope turn Q t a h) q.0 in
        let kept = kept-less turn Q t (memo_at large ms n) a b h g l m.0.0 in
        let first = begun-sound turn Q t (memo_at large ms n) a m.0.0 h in (
          (
            kept,
            fits-less body sides depth (n + place large) ms _ _ e f.1 first (begun-sound turn Q t (memo_at large ms n) b kept g) (begun-less turn Q t (memo_at large ms n) a b m.0.0 h g l)
                (t.more a _ h first (begun-grows turn Q t (memo_at large ms n) a m.0.0 h) q.0) m.0.1,
          ),
          fits-less next sides depth _ ms _ _ e f.2 (t.sound _ x) (t.sound _ y) (t.mono _ _ x y under clean) q.1 m.1,
        )
    fits-less (each name list body next) sides depth n ms a b e f h g l q m =
        let large = is_large least body in
        let inside = sides ++ side_of_list list ∷ [] in
        let deep = ap (λ (d : ℕ). d + 1) e ∙ sym (length-append sides (side_of_list list ∷ [])) in
        let turn : State → State = λ j. dropped name (walk c inside body j) in
        let Q = IsClean c inside body in
        let t = each-turn c scope inside (depth + 1) name body deep f.2 in
        let x = dropped-sound c scope name a h in
        let y = dropped-sound c scope name b g in
        let up = dropped-less name a b l in
        let kept = kept-less turn Q t (memo_at large ms n) _ _ x y up m.0.0 in
        let first = begun-sound turn Q t (memo_at large ms n) _ m.0.0 x in (
          (
            kept,
            fits-less body inside (depth + 1) (n + place large) ms _ _ deep f.2 first (begun-sound turn Q t (memo_at large ms n) _ kept y) (begun-less turn Q t (memo_at large ms n) _ _ m.0.0 x y up)
                (t.more _ _ x first (begun-grows turn Q t (memo_at large ms n) _ m.0.0 x) q.0) m.0.1,
          ),
          fits-less next sides depth _ ms _ _ e f.3 (settled-turns c scope turn Q t _ x) (settled-turns c scope turn Q t _ y) (settled-less c scope turn Q t _ _ x y q.0 up) q.1 m.1,
        )

  -- A loop with place n was reached in state k, with `first` stored, and has come to state j.
  pub record IsTurning (large : Bool) (turn : State → State) (inside : List Side) (body : Code) (n : ℕ) (k : State) (first : Memos) (j : State) (ms : Memos) : Type 0 where
    pub settles : settled c.fields turn j ≡ settled c.fields turn k
    pub sound : IsSound c j
    pub up : IsLess k j
    pub fits : Fits c least inside body (n + place large) ms j
    pub clean : IsClean c inside body j → IsClean c inside body k
    pub frame : (i : ℕ) → (i < n + place large) ⊎ (n + place large + places least body ≤ i) → ms i ≡ first i

  module _ (scope : IsSmallScope c) (turn : State → State) (inside : List Side) (depth : ℕ) (body : Code) (e : depth ≡ length inside) (f : IsWellFormed c.kind c.fields depth body) (t : IsTurn c turn (IsClean c inside body)) (large : Bool) (n : ℕ) (k : State) (h : IsSound c k) (first : Memos) where
    pub turning-start : IsKept c (IsClean c inside body) turn (memo_at large first n) k → Fits c least inside body (n + place large) first (begun c.fields (memo_at large first n) k) → IsTurning large turn inside body n k first (begun c.fields (memo_at large first n) k) first
    turning-start kept fits = record {
      settles = begun-settles scope turn (IsClean c inside body) t (memo_at large first n) k kept h;
      sound = begun-sound scope turn (IsClean c inside body) t (memo_at large first n) k kept h;
      up = begun-grows scope turn (IsClean c inside body) t (memo_at large first n) k kept h;
      fits = fits;
      clean = at_entry (memo_at large first n) kept;
      frame = λ i _. refl;
    } where
      at_entry : (o : Option State) → IsKept c (IsClean c inside body) turn o k → IsClean c inside body (begun c.fields o k) → IsClean c inside body k
      at_entry None g q = q
      at_entry (Some m) g q = g.2

    both_frames : (ms after : Memos) → ((i : ℕ) → (i < n + place large) ⊎ (n + place large + places least body ≤ i) → ms i ≡ first i) → ((i : ℕ) → (i < n + place large) ⊎ (n + place large + places least body ≤ i) → after i ≡ ms i) → (i : ℕ) → (i < n + place large) ⊎ (n + place large + places least body ≤ i) → after i ≡ first i
    both_frames ms after g p i o = p i o ∙ g i o

    -- a walk through the body, and a join
    pub turning-next : (j l : State) (ms after : Memos) → IsTurning large turn inside body n k first j ms → l ≡ joined c.fields j (turn j) → (x : State) → IsWarmed c least inside body (n + place large) j ms x after
        → IsTurning large turn inside body n k first l after
    turning-next j l ms after s joins x w =
        let to = t.sound j s.sound in
        let next_sound : IsSound c (joined c.fields j (turn j)) = joined-sound c scope j (turn j) s.sound to in
        let grown : IsLess j (joined c.fields j (turn j)) = less-left c.fields j (turn j) s.sound.small to.small in
        subst (λ (z : State). IsTurning large turn inside body n k first z after) (sym joins) (record {
          settles = settled-next scope turn (IsClean c inside body) t j s.sound w.clean ∙ s.settles;
          sound = next_sound;
          up = less-trans _ _ _ s.up grown;
          fits = fits-less scope body inside depth (n + place large) after j _ e f s.sound next_sound grown w.clean w.fits;
          clean = λ _. s.clean w.clean;
          frame = both_frames ms after s.frame w.frame;
        })

    -- a walk that changed nothing: the state is stored
    pub turning-done : (j : State) (ms after : Memos) → IsTurning large turn inside body n k first j ms → (x : State) → IsWarmed c least inside body (n + place large) j ms x after → joined c.fields j (turn j) ≡ j
        → HasSettled c least large turn inside body n k first j (put large n j after)
    turning-done j ms after s x w same = record {
      is = sym (at_rest c scope turn (IsClean c inside body) t j same) ∙ s.settles;
      sound = s.sound;
      up = s.up;
      rests = same;
      here = put-here large n j after;
      fits = fits-frame body inside (n + place large) after (put large n j after) j (λ i a b. put-there large n i j after (inr a)) w.fits;
      clean = s.clean;
      frame = λ i o.
          let wide : (i < n + place large) ⊎ (n + place large + places least body ≤ i) = elim o as (λ _. (i < n + place large) ⊎ (n + place large + places least body ≤ i)) [ inl p ↦ inl (omega (arith, p)) | inr p ↦ inr p ] in
          let away : (i < n) ⊎ (n + place large ≤ i) = elim o as (λ _. (i < n) ⊎ (n + place large ≤ i)) [ inl p ↦ inl p | inr p ↦ inr (omega (arith, p)) ] in
          put-there large n i j after away ∙ w.frame i wide ∙ s.frame i wide;
    }

    -- what is stored already covers the state in which the loop is reached
    pub turning-skip : IsKept c (IsClean c inside body) turn (memo_at large first n) k → Fits c least inside body (n + place large) first (begun c.fields (memo_at large first n) k) → (j : State) → j ≡ begun c.fields (memo_at large first n) k → memo_at large first n ≡ Some j
        → HasSettled c least large turn inside body n k first j first
    turning-skip kept fits j is here =
        let own : IsKept c (IsClean c inside body) turn (Some j) k = subst (λ (o : Option State). IsKept c (IsClean c inside body) turn o k) here kept in
        record {
          is = sym (at_rest c scope turn (IsClean c inside body) t j own.3) ∙ ap (settled c.fields turn) is ∙ begun-settles scope turn (IsClean c inside body) t (memo_at large first n) k kept h;
          sound = own.0;
          up = subst (IsLess k) (sym is) (begun-grows scope turn (IsClean c inside body) t (memo_at large first n) k kept h);
          rests = own.3;
          here = memo-here large n first (Some j) here;
          fits = subst (Fits c least inside body (n + place large) first) (sym is) fits;
          clean = λ _. own.2;
          frame = λ i _. refl;
        }

    -- the walk after that, whose notes are kept
    pub settled-kept : is_large least body ≡ large → (j : State) (ms last : Memos) → HasSettled c least large turn inside body n k first j ms → (y : State) → IsWarmed c least inside body (n + place large) j ms y last
        → IsKept c (IsClean c inside body) turn (memo_at large last n) k × Fits c least inside body (n + place large) last (begun c.fields (memo_at large last n) k)
    settled-kept size j ms last s y v = by_size large size s v where
      by_size : (large : Bool) → is_large least body ≡ large → HasSettled c least large turn inside body n k first j ms → IsWarmed c least inside body (n + place large) j ms y last
          → IsKept c (IsClean c inside body) turn (memo_at large last n) k × Fits c least inside body (n + place large) last (begun c.fields (memo_at large last n) k)
      by_size true size s v =
          let here : last n ≡ Some j = v.frame n (inl (omega arith)) ∙ s.here refl in
          let same : joined c.fields k j ≡ j = less-both _ _ (less-least c.fields c refl k j j h s.sound s.sound s.up (less-refl j)) (less-right c.fields k j h.small s.sound.small) in
          subst (λ (o : Option State). IsKept c (IsClean c inside body) turn o k × Fits c least inside body (n + 1) last (begun c.fields o k)) (sym here)
          ((s.sound, subst (IsLess j) s.is (less-refl j), s.clean v.clean, s.rests), subst (Fits c least inside body (n + 1) last) (sym same) v.fits)
      by_size false size s v = (tt, fits-short body inside (n + 0) last k (leb-false least (count_of body) size))

    pub settled-frame : (j : State) (ms last : Memos) → HasSettled c least large turn inside body n k first j ms → (y : State) → IsWarmed c least inside body (n + place large) j ms y last
        → (i : ℕ) → (i < n) ⊎ (n + place large + places least body ≤ i) → last i ≡ first i
    settled-frame j ms last s y v i o =
        let wide : (i < n + place large) ⊎ (n + place large + places least body ≤ i) = elim o as (λ _. (i < n + place large) ⊎ (n + place large + places least body ≤ i)) [ inl p ↦ inl (omega (arith, p)) | inr p ↦ inr p ] in
        v.frame i wide ∙ s.frame i o

-- ---- a statement, and the body that follows it

pub places-onto : (least : ℕ) (s : Statement) (next : Code) → places least (onto s next) ≡ places least (onto s stop) + places least next
places-onto least (one_line a) next = omega arith
places-onto least (choice on body other) next = omega arith
places-onto least (turning count body) next = omega arith
places-onto least (going_through name list body) next = omega arith

module _ (c : Scope) (least : ℕ) where
  clean-onto : (sides : List Side) (s : Statement) (next : Code) (k : State) → IsClean c sides (onto s stop) k → IsClean c sides next (walk c sides (onto s stop) k) → IsClean c sides (onto s next) k
  clean-onto sides (one_line a) next k q r = (q.0, r)
  clean-onto sides (choice on body other) next k q r = (q.0, q.1, r)
  clean-onto sides (turning count body) next k q r = (q.0, r)
  clean-onto sides (going_through name list body) next k q r = (q.0, r)

  moved : (sides : List Side) (code : Code) (ms : Memos) (k : State) (n m : ℕ) → n ≡ m → Fits c least sides code n ms k → Fits c least sides code m ms k
  moved sides code ms k n m e h = subst (λ (i : ℕ). Fits c least sides code i ms k) e h

  fits-onto : (sides : List Side) (s : Statement) (next : Code) (n : ℕ) (ms : Memos) (k : State) → Fits c least sides (onto s stop) n ms k → Fits c least sides next (n + places least (onto s stop)) ms (walk c sides (onto s stop) k) → Fits c least sides (onto s next) n ms k
  fits-onto sides (one_line a) next n ms k h g = moved sides next ms _ _ n (omega arith) g
  fits-onto sides (choice on body other) next n ms k h g = (h.0, h.1, moved sides next ms _ _ (n + places least body + places least other) (omega arith) g)
  fits-onto sides (turning count body) next n ms k h g = (h.0, moved sides next ms _ _ (n + place (is_large least body) + places least body) (omega arith) g)
  fits-onto sides (going_through name list body) next n ms k h g = (h.0, moved sides next ms _ _ (n + place (is_large least body) + places least body) (omega arith) g)

  pub fits-split : (sides : List Side) (s : Statement) (next : Code) (n : ℕ) (ms : Memos) (k : State) → Fits c least sides (onto s next) n ms k
      → Fits c least sides (onto s stop) n ms k × Fits c least sides next (n + places least (onto s stop)) ms (walk c sides (onto s stop) k)
  fits-split sides (one_line a) next n ms k h = (tt, moved sides next ms _ n _ (omega arith) h)
  fits-split sides (choice on body other) next n ms k h = ((h.0, h.1, tt), moved sides next ms _ (n + places least body + places least other) _ (omega arith) h.2)
  fits-split sides (turning count body) next n ms k h = ((h.0, tt), moved sides next ms _ (n + place (is_large least body) + places least body) _ (omega arith) h.1)
  fits-split sides (going_through name list body) next n ms k h = ((h.0, tt), moved sides next ms _ (n + place (is_large least body) + places least body) _ (omega arith) h.1)

  -- what is stored fits the rest of a body after its first statement
  pub fits-rest : (sides : List Side) (s : Statement) (next : Code) (n : ℕ) (k j : State) (ms after : Memos) → Fits c least sides (onto s next) n ms k → IsWarmed c least sides (onto s stop) n k ms j after
      → Fits c least sides next (n + places least (onto s stop)) after j
  fits-rest sides s next n k j ms after h w =
      let rest = (fits-split sides s next n ms k h).1 in
      subst (λ (z : State). Fits c least sides next (n + places least (onto s stop)) after z) (sym w.state)
      (fits-frame c least next sides (n + places least (onto s stop)) ms after _ (λ i a b. w.frame i (inr a)) rest)

  -- a statement, and then the rest
  pub warmed-onto : (sides : List Side) (s : Statement) (next : Code) (n : ℕ) (k j l : State) (ms one two : Memos) → IsWarmed c least sides (onto s stop) n k ms j one → IsWarmed c least sides next (n + places least (onto s stop)) j one l two
      → IsWarmed c least sides (onto s next) n k ms l two
  warmed-onto sides s next n k j l ms one two v w = record {
    state = w.state ∙ ap (walk c sides next) v.state ∙ sym (walk-onto c sides s next k);
    fits = fits-onto sides s next n two k (fits-frame c least (onto s stop) sides n one two k (λ i a b. w.frame i (inl b)) v.fits)
        (subst (λ (z : State). Fits c least sides next (n + places least (onto s stop)) two z) v.state w.fits);
    clean = clean-onto sides s next k v.clean (subst (IsClean c sides next) v.state w.clean);
    frame = λ i o. elim o as (λ _. two i ≡ ms i) [
      | inl p ↦ w.frame i (inl (omega (arith, p))) ∙ v.frame i (inl p)
      | inr p ↦ let e = places-onto least s next in w.frame i (inr (omega (arith, p, e))) ∙ v.frame i (inr (omega (arith, p, e)))
    ];
  }

  -- a body without statements
  pub warmed-stop : (sides : List Side) (n : ℕ) (k : State) (ms : Memos) → IsWarmed c least sides stop n k ms k ms
  warmed-stop sides n k ms = record { state = refl; fits = tt; clean = tt; frame = λ i o. refl }

  -- a branch
  pub warmed-branch : (sides : List Side) (on : ℕ) (body other : Code) (n : ℕ) (k j l : State) (ms one two : Memos) → IsWarmed c least sides body n k ms j one → IsWarmed c least sides other (n + places least body) k one l two
      → IsWarmed c least sides (branch on body other stop) n k ms (joined c.fields j l) two
  warmed-branch sides on body other n k j l ms one two v w = record {
    state = λ i. joined c.fields (v.state i) (w.state i);
    fits = (fits-frame c least body sides n one two k (λ i a b. w.frame i (inl b)) v.fits, w.fits, tt);
    clean = (v.clean, w.clean, tt);
    frame = λ i o. elim o as (λ _. two i ≡ ms i) [
      | inl p ↦ w.frame i (inl (omega (arith, p))) ∙ v.frame i (inl p)
      | inr p ↦ w.frame i (inr (omega (arith, p))) ∙ v.frame i (inr (omega (arith, p)))
    ];
  }
