-- Two calls whose inputs agree in all that is read take the same path through a body.
use Rattle.std.proofs.Common.{◌≡◌, ◌<◌, ◌+◌, ℕ, zero, suc, Bool, true, false, if◌then◌else◌, List, [], ◌∷◌, ◌++◌, length, get_or, sym, ap, subst, ◌∙◌, arith}
use Rattle.std.specs.List.{AllByRecursion}
use Rattle.std.proofs.lemmas.List.{length-append}
use Rattle.pact_record.proofs.Lists.{AllByRecursion-left, AllByRecursion-right}
use Rattle.pact_record.specs.declared.values.Value.{Value}
use Rattle.pact_record.specs.Value.{is_true}
use Rattle.tac_syntax.specs.declared.statements.LoopList.{LoopList}
use Rattle.tac_syntax.specs.Code.{Simple, load_int, load_text, load_null, move_value, get_field, get_at, get_key, apply_one, apply_two, new_record, copy_record, set_field, set_at, emit_record, Code, stop, plain, branch, again, each}
use Rattle.tac_syntax.specs.Call.{CallInput, Store, value_in, record_in, rows_of, after, bind}
use Rattle.tac_syntax.specs.Exec.{times, for_each, exec}
use Rattle.tac_flow.specs.Known.{FieldSet, Side, Held, State, joined, dropped}
use Rattle.tac_flow.specs.Steps.{Scope, value_at, record_at, transfer}
use Rattle.tac_flow.specs.Walks.{Note, decides, emits, noted, side_of_list, settled, walk, notes}
use Rattle.tac_syntax.specs.Forms.{anchors}
use Rattle.tac_flow.proofs.TwoCalls.{anchor_at, Sub, SameRecord, AreTwins, AreCalls}
use Rattle.tac_syntax.specs.WellFormed.{HasList, IsWellFormedSimple, IsWellFormed}
use Rattle.tac_flow.proofs.StatementsOfTwo.{value_same, record_same, statement_same}
use Rattle.tac_flow.proofs.JoinsOfTwo.{SameShape, twins_left, twins_right}
use Rattle.tac_flow.proofs.NamesOfLoops.{twins_before, twins_after, twins_inside}
use Rattle.tac_flow.proofs.LoopsSettle.{IsSmall, joined-small, settled-small, settles, reached}
use Rattle.tac_flow.proofs.SmallScopes.{IsSmallScope}
use Rattle.tac_flow.proofs.SetsBelowFields.{walk-small, transfer-small, dropped-small}

-- What is required of the notes, and what then holds for the outputs: branches are decided by what is read, and a
-- record that is emitted preserves the relation of the outputs.
pub record IsTold (R : FieldSet) (c : Scope) (x y : CallInput) (Good : Note → Type 0) (Rel : List (List Value) → List (List Value) → Type 0) : Type 0 where
  pub decided : (d : FieldSet) → Good (decides d) → Sub d R
  pub emitted : (h : Held) (depth : ℕ) (rows others : List (List Value)) (r q : List Value) (rs qs : List (List Value)) → Good (emits h) → SameRecord R c.fields x y depth rows others h r q
      → Rel rs qs → Rel (rs ++ r ∷ []) (qs ++ q ∷ [])

-- the lists that a loop goes through are the anchors
pub record HaveLists (c : Scope) (x y : CallInput) : Type 0 where
  pub own : (list : LoopList) → HasList c.kind list → rows_of x list ≡ anchors (side_of_list list) x
  pub other : (list : LoopList) → HasList c.kind list → rows_of y list ≡ anchors (side_of_list list) y

module _ (R : FieldSet) (c : Scope) (x y : CallInput) (calls : AreCalls R c x y) (lists : HaveLists c x y) (small : IsSmallScope c)
    (Good : Note → Type 0) (Rel : List (List Value) → List (List Value) → Type 0) (told : IsTold R c x y Good Rel) where
  pub record Along (sides : List Side) (k : State) (s t : Store) : Type 0 where
    pub twins : AreTwins R c x y sides k s t
    pub outputs : Rel s.emitted t.emitted

  abbrev AllGood : List Note → Type 0
  AllGood ns = AllByRecursion Good ns

  parts : (ns ms : List Note) → AllGood (ns ++ ms) → AllGood ns × AllGood ms
  parts ns ms g = (AllByRecursion-left Good ns ms g, AllByRecursion-right Good ns ms g)

  same_shape : (a b : State) → IsSmall c.fields a → IsSmall c.fields b → SameShape a b
  same_shape a b h g = record { values = h.value_count ∙ sym g.value_count; records = h.record_count ∙ sym g.record_count }

  outputs_after : (a : Simple) (sides : List Side) (k : State) (s t : Store) → AllGood (noted c a k) → Along sides k s t → Rel (after a s).emitted (after a t).emitted
  outputs_after (load_int to n) sides k s t g h = h.outputs
  outputs_after (load_text to bytes) sides k s t g h = h.outputs
  outputs_after (load_null to) sides k s t g h = h.outputs
  outputs_after (move_value to from) sides k s t g h = h.outputs
  outputs_after (get_field to from field) sides k s t g h = h.outputs
  outputs_after (get_at to from at) sides k s t g h = h.outputs
  outputs_after (get_key to at) sides k s t g h = h.outputs
  outputs_after (apply_one to op a) sides k s t g h = h.outputs
  outputs_after (apply_two to op a b) sides k s t g h = h.outputs
  outputs_after (new_record to) sides k s t g h = h.outputs
  outputs_after (copy_record to from) sides k s t g h = h.outputs
  outputs_after (set_field to field value) sides k s t g h = h.outputs
  outputs_after (set_at to at value) sides k s t g h = h.outputs
  outputs_after (emit_record from) sides k s t g h =
      told.emitted (record_at c.fields k from) (length sides) s.loops t.loops (record_in s from) (record_in t from) s.emitted t.emitted g.0 (record_same R c x y calls sides k s t from h.twins) h.outputs

  left_along : (sides : List Side) (a b : State) (s t : Store) → SameShape b a → Along sides a s t → Along sides (joined c.fields a b) s t
  left_along sides a b s t e h = record { twins = twins_left R c x y calls sides a b s t e h.twins; outputs = h.outputs }

  right_along : (sides : List Side) (a b : State) (s t : Store) → SameShape b a → Along sides b s t → Along sides (joined c.fields a b) s t
  right_along sides a b s t e h = record { twins = twins_right R c x y calls sides a b s t e h.twins; outputs = h.outputs }

  either_along : (v : Bool) (sides : List Side) (a b : State) (s s2 t t2 : Store) → SameShape b a → Along sides a s t → Along sides b s2 t2
      → Along sides (joined c.fields a b) (if v then s else s2) (if v then t else t2)
  either_along true sides a b s s2 t t2 e h g = left_along sides a b s t e h
  either_along false sides a b s s2 t t2 e h g = right_along sides a b s2 t2 e g

  -- in the state in which the loop settles, the relation still holds
  settled_along : (sides : List Side) (turn : State → State) → ((j : State) → IsSmall c.fields j → IsSmall c.fields (turn j)) → (k : State) (s t : Store) → IsSmall c.fields k
      → Along sides k s t → Along sides (settled c.fields turn k) s t
  settled_along sides turn keeps k s t i h =
      (reached (λ j. IsSmall c.fields j × Along sides j s t) c.fields turn
      (λ j p. (joined-small c.fields j (turn j) p.0 (keeps j p.0), left_along sides j (turn j) s t (same_shape (turn j) j (keeps j p.0) p.0) p.1)) k (i, h)).1

  -- ---- repeat

  more_turns : (n : ℕ) (sides : List Side) (j w : State) (f : Store → Store) (s t : Store) → SameShape w j → joined c.fields j w ≡ j
      → ((a b : Store) → Along sides j a b → Along sides w (f a) (f b)) → Along sides w s t → Along sides w (times n f s) (times n f t)
  more_turns zero sides j w f s t e rest turn h = h
  more_turns (suc n) sides j w f s t e rest turn h =
      more_turns n sides j w f (f s) (f t) e rest turn (turn s t (subst (λ (i : State). Along sides i s t) rest (right_along sides j w s t e h)))

  all_turns : (n : ℕ) (sides : List Side) (j w : State) (f : Store → Store) (s t : Store) → 0 < n → SameShape w j → joined c.fields j w ≡ j
      → ((a b : Store) → Along sides j a b → Along sides w (f a) (f b)) → Along sides j s t → Along sides w (times n f s) (times n f t)
  all_turns zero sides j w f s t some e rest turn h = absurd (omega (arith, some))
  all_turns (suc n) sides j w f s t some e rest turn h = more_turns n sides j w f (f s) (f t) e rest turn (turn s t h)

  -- ---- each

  -- a list's records from a place on, in both calls
  each_turn : (sides : List Side) (side : Side) (name : ℕ) (j w : State) (f : Store → Store) → SameShape w j → joined c.fields j w ≡ j
      → ((p : ℕ) (row other : List Value) (a b : Store) → p < length (anchors side x) → row ≡ anchor_at side x p → other ≡ anchor_at side y p → Along sides j a b → Along sides w (f (bind a name row)) (f (bind b name other)))
      → (rows others : List (List Value)) (from : ℕ) → length rows ≡ length others
      → ((n : ℕ) → n < length rows → (from + n < length (anchors side x)) × (get_or rows n [] ≡ anchor_at side x (from + n)) × (get_or others n [] ≡ anchor_at side y (from + n)))
      → (s t : Store) → Along sides j s t → Along sides j (for_each name rows f s) (for_each name others f t)
  each_turn sides side name j w f e rest turn [] [] from long at s t h = h
  each_turn sides side name j w f e rest turn [] (o ∷ others) from long at s t h = absurd (omega (arith, long))
  each_turn sides side name j w f e rest turn (r ∷ rows) [] from long at s t h = absurd (omega (arith, long))
  each_turn sides side name j w f e rest turn (r ∷ rows) (o ∷ others) from long at s t h =
      let now = at 0 (omega arith) in
      let here : from + 0 ≡ from = omega arith in
      let there = subst (λ (n : ℕ). n < length (anchors side x)) here now.0 in
      let own = now.1 ∙ ap (λ (n : ℕ). anchor_at side x n) here in
      let other = now.2 ∙ ap (λ (n : ℕ). anchor_at side y n) here in
      let next = subst (λ (i : State). Along sides i (f (bind s name r)) (f (bind t name o))) rest (right_along sides j w (f (bind s name r)) (f (bind t name o)) e (turn from r o s t there own other h)) in
      each_turn sides side name j w f e rest turn rows others (suc from) (omega (arith, long))
      (λ n lt.
      let step : from + suc n ≡ suc from + n = omega arith in
      let g = at (suc n) (omega (arith, lt)) in
      (subst (λ (m : ℕ). m < length (anchors side x)) step g.0, g.1 ∙ ap (λ (m : ℕ). anchor_at side x m) step, g.2 ∙ ap (λ (m : ℕ). anchor_at side y m) step))
      (f (bind s name r)) (f (bind t name o)) next

  -- all records of the lists
  all_rows : (side : Side) (rows others : List (List Value)) → rows ≡ anchors side x → others ≡ anchors side y
      → (length rows ≡ length others) × ((n : ℕ) → n < length rows → (0 + n < length (anchors side x)) × (get_or rows n [] ≡ anchor_at side x (0 + n)) × (get_or others n [] ≡ anchor_at side y (0 + n)))
  all_rows side rows others p q = (
    ap (λ (l : List (List Value)). length l) p ∙ calls.places side ∙ sym (ap (λ (l : List (List Value)). length l) q),
    λ n lt.
        let here : n ≡ 0 + n = omega arith in (
          subst (λ (m : ℕ). m < length (anchors side x)) here (subst (λ (l : List (List Value)). n < length l) p lt),
          ap (λ (l : List (List Value)). get_or l n []) p ∙ ap (λ (m : ℕ). anchor_at side x m) here,
          ap (λ (l : List (List Value)). get_or l n []) q ∙ ap (λ (m : ℕ). anchor_at side y m) here,
        ),
  )

  -- ---- bodies

  pub body_same : (code : Code) (sides : List Side) (depth : ℕ) (k : State) (s t : Store) → depth ≡ length sides → IsWellFormed c.kind c.fields depth code → IsSmall c.fields k → AllGood (notes c sides code k)
      → Along sides k s t → Along sides (walk c sides code k) (exec code s) (exec code t)
  body_same stop sides depth k s t e f i g h = h
  body_same (plain a next) sides depth k s t e f i g h =
      let fine = subst (λ (d : ℕ). IsWellFormedSimple c.kind c.fields d a) e f.0 in
      let told_parts = parts (noted c a k) (notes c sides next (transfer c sides a k)) g in
      body_same next sides depth (transfer c sides a k) (after a s) (after a t) e f.1 (transfer-small c small sides a k fine i) told_parts.1
      (record { twins = statement_same R c x y calls sides a k s t fine h.twins; outputs = outputs_after a sides k s t told_parts.0 h })
  body_same (branch on body other next) sides depth k s t e f i g h =
      let a = walk c sides body k in
      let b = walk c sides other k in
      let g1 = parts (notes c sides body k) _ g.1 in
      let g2 = parts (notes c sides other k) _ g1.1 in
      let ia = walk-small c small body sides depth k e f.0 i in
      let ib = walk-small c small other sides depth k e f.1 i in
      let same_test = (value_same R c x y calls sides k s t on h.twins).same (told.decided (value_at k on).deps g.0) in
      let p = body_same body sides depth k s t e f.0 i g1.0 h in
      let q = body_same other sides depth k s t e f.1 i g2.0 h in
      let chosen = either_along (is_true (value_in s on)) sides a b (exec body s) (exec other s) (exec body t) (exec other t) (same_shape b a ib ia) p q in
      let both = subst (λ (v : Value). Along sides (joined c.fields a b) (if is_true (value_in s on) then exec body s else exec other s) (if is_true v then exec body t else exec other t)) same_test chosen in
      body_same next sides depth (joined c.fields a b) _ _ e f.2 (joined-small c.fields a b ia ib) g2.1 both
  body_same (again count body next) sides depth k s t e f i g h =
      let turn = walk c sides body in
      let keeps : (j : State) → IsSmall c.fields j → IsSmall c.fields (walk c sides body j) = λ j ij. walk-small c small body sides depth j e f.1 ij in
      let j = settled c.fields turn k in
      let ij = settled-small c.fields turn keeps k i in
      let g1 = parts (notes c sides body j) _ g in
      let begun = settled_along sides turn keeps k s t i h in
      let done = all_turns count sides j (turn j) (exec body) s t f.0 (same_shape (turn j) j (keeps j ij) ij) (settles c.fields turn keeps k i)
      (λ a b m. body_same body sides depth j a b e f.1 ij g1.0 m) begun in
      body_same next sides depth (turn j) _ _ e f.2 (keeps j ij) g1.1 done
  body_same (each name list body next) sides depth k s t e f i g h =
      let side = side_of_list list in
      let inside = sides ++ side ∷ [] in
      let deep = ap (λ (d : ℕ). d + 1) e ∙ sym (length-append sides (side ∷ [])) in
      let is_next = f.0 ∙ ap (λ (d : ℕ). d + 1) e in
      let turn : State → State = λ j. dropped name (walk c inside body j) in
      let keeps : (j : State) → IsSmall c.fields j → IsSmall c.fields (turn j) = λ j ij. dropped-small c small name (walk c inside body j) (walk-small c small body inside (depth + 1) j deep f.2 ij) in
      let start = dropped name k in
      let is = dropped-small c small name k i in
      let j = settled c.fields turn start in
      let ij = settled-small c.fields turn keeps start is in
      let g1 = parts (notes c inside body j) _ g in
      let before : Along sides start s t = record { twins = twins_before R c x y sides side name is_next k s t h.twins; outputs = h.outputs } in
      let begun = settled_along sides turn keeps start s t is before in
      let one : (p : ℕ) (row other : List Value) (a b : Store) → p < length (anchors side x) → row ≡ anchor_at side x p → other ≡ anchor_at side y p → Along sides j a b
      → Along sides (turn j) (exec body (bind a name row)) (exec body (bind b name other)) =
      λ p row other a b there own same m.
      let entered : Along inside j (bind a name row) (bind b name other) =
      record { twins = twins_inside R c x y sides side name is_next j a b row other p there own same m.twins; outputs = m.outputs } in
      let left = body_same body inside (depth + 1) j (bind a name row) (bind b name other) deep f.2 ij g1.0 entered in
      record { twins = twins_after R c x y sides side name is_next (walk c inside body j) _ _ left.twins; outputs = left.outputs } in
      let rows = all_rows side (rows_of s.input list) (rows_of t.input list) (ap (λ (z : CallInput). rows_of z list) h.twins.input ∙ lists.own list f.1) (ap (λ (z : CallInput). rows_of z list) h.twins.other_input ∙ lists.other list f.1) in
      let done = each_turn sides side name j (turn j) (exec body) (same_shape (turn j) j (keeps j ij) ij) (settles c.fields turn keeps start is) one
      (rows_of s.input list) (rows_of t.input list) 0 rows.0 rows.1 s t begun in
      body_same next sides depth j _ _ e f.3 ij g1.1 done
