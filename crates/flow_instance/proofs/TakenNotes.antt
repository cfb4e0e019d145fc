-- Notes that an instance takes.
use Rattle.std.proofs.Common.{◌≡◌, ◌<◌, ◌+◌, ◌&&◌, ◌||◌, ◌==◌, ◌⊎◌, inl, inr, ℕ, zero, suc, Bool, true, false, not, cond, Option, Some, None, List, [], ◌∷◌, ◌++◌, length, map, refl, ap, sym, ◌∙◌, subst, arith, append-nil}
use Rattle.std.specs.Prelude.{filter, flat_map}
use Rattle.std.specs.List.{AllByRecursion}
use Rattle.std.specs.List.Sorted.{IsPermutation}
use Rattle.std.proofs.Math.Nat.{add-zero}
use Rattle.std.proofs.lemmas.Bool.{and_left, and_right}
use Rattle.std.proofs.lemmas.List.Sorted.{IsPermutation-refl, length_permutation}
use Rattle.flow_instance.proofs.Bags.{beside, is_same, joined}
use Rattle.flow_instance.specs.Instances.{Instance, all_ended, ended_at, kept_at, port_ended}
use Rattle.flow_instance.specs.Local.{IsReceiver, Placed, marks_for, one_if, is_pipelined, Calls}
use Rattle.flow_instance.specs.Spots.{Spot, sent}
use Rattle.plan_trees.specs.Sending.{has_out, goes}
use Rattle.flow_instance.specs.Steps.{Carry, GivesAtOnce, GivesNow, KeepsMore, Mark, Took, is_end}
use Rattle.flow_instance.specs.declared.notes.Note.{Note}
use Rattle.flow_instance.specs.declared.notes.Note.TheVariants.{Batch}
use Rattle.pact_operators.specs.Allowed.{Bag, count_of}
use Rattle.pact_bag.specs.Pairs.{crossed, has_null, matched}
use Rattle.pact_operators.specs.PlanOps.{PlanOps}
use Rattle.pact_operators.specs.Programs.{HasKeyLists, is_pair_kind, takes}
use Rattle.pact_record.proofs.Permutations.{filter_perm, from_permutation, to_permutation}
use Rattle.pact_record.specs.Record.{key_of}
use Rattle.pact_record.specs.Widths.{AreWide}
use Rattle.pact_record.specs.declared.values.Value.{Value}
use Rattle.plan_trees.specs.declared.physicals.Ship.{Ship}
use Rattle.std.proofs.lemmas.Option.{same_Some}
use Rattle.tac_syntax.specs.Call.{Out, of_pair, of_record}
use Rattle.tac_syntax.specs.Valid.{WithFields}
use Rattle.tac_syntax.specs.declared.declarations.OpKind.{OpKind}
use Rattle.flow_instance.specs.Sending.{AreFew, addressed_batch, batches_in, marks_in}
use Rattle.flow_instance.specs.States.{AreOpsOf, AreOrderly, ArePairsGiven, HasFlags, HasTaken, IsSound, IsOperator, IsReady, PlacesAtRoot, body_in, is_cross, is_map, is_match, needed_of, part_of, seen, spot_of}
use Rattle.flow_instance.specs.StateSteps.{Gives, HasGiven, Takes}
use Rattle.flow_instance.specs.Keeping.{IsKept, may_match}
use Rattle.flow_instance.proofs.KeptRecords.{all_chosen}
use Rattle.flow_instance.proofs.NotesForReceivers.{none_few}
use Rattle.flow_instance.proofs.SoundInstances.{sound_given}
use Rattle.flow_instance.specs.declared.parts.Part.{Part}
use Rattle.flow_instance.specs.declared.states.State.{State}
use Rattle.tac_syntax.specs.declared.declarations.OpKind.TheVariants.{Source, Map, Reduce, Match, Cross, CoGroup}

sent_permuted : (o : Option Ship) (workers from to : ℕ) (out real : Bag) → IsPermutation out real → IsPermutation (sent o workers from to out) (sent o workers from to real)
sent_permuted None workers from to out real p = IsPermutation-refl []
sent_permuted (Some ship) workers from to out real p = to_permutation (filter_perm (goes ship workers from to) (from_permutation out real p))

placed_permuted : (o : Option Ship) (before out real placed : Bag) → IsPermutation out real → Placed o (before ++ real) placed → Placed o (before ++ out) placed
placed_permuted None before out real placed p h = joined (beside (IsPermutation-refl before) p) h
placed_permuted (Some ship) before out real placed p h = h

-- the given records are, in some order, an output that the operator may give
pub took_of : (s : Spot) (worker : ℕ) (i j : Instance) (port from : ℕ) (note : Note) (out real : Bag) → IsPermutation out real → GivesNow (is_pipelined s.kind) s worker i j port note out → j.part ≡ i.part → j.finished ≡ i.finished
    → ((p k : ℕ) → ended_at j p k ≡ ((is_end note && ((p == port) && (k == from))) || ended_at i p k)) → (all_ended j ≡ false → KeepsMore s s.kind (kept_at i) port note (kept_at j)) → ((p : ℕ) → AreWide s.fields (kept_at j p))
    → Carry s worker real j.waiting → Mark s worker (all_ended j) j.marks → Placed s.out (i.placed ++ real) j.placed → AreWide s.fields j.placed → j.given ≡ count_of (i.given + length real) → Took s worker i port from note j
took_of s worker i j port from note out real p gives part finished ended kept kept_wide carry mark placed placed_wide given = record {
  out = out;
  gives = gives;
  part = part;
  finished = finished;
  ended = ended;
  kept = kept;
  kept_wide = kept_wide;
  carries = record { notes = carry.notes; sent_on = λ to less. joined (sent_permuted s.out s.workers worker to out real p) (carry.sent_on to less) };
  marks = mark;
  placed = placed_permuted s.out i.placed out real j.placed p placed;
  placed_wide = placed_wide;
  given = given ∙ ap (λ (n : ℕ). count_of (i.given + n)) (length_permutation out real p);
}

pub no_marks : (s : Spot) (worker : ℕ) (all : Bool) (marks : List ℕ) → all ≡ false → marks ≡ [] → Mark s worker all marks
no_marks s worker all marks not_yet none = record {
  receivers = subst (AllByRecursion (IsReceiver s worker)) (sym none) tt;
  each = λ to less. ap (marks_for to) none ∙ sym (ap one_if (and_right (has_out s.out worker to) all not_yet));
}

pub nothing_sent : (s : Spot) (worker : ℕ) → Carry s worker [] []
nothing_sent s worker = record { notes = tt; sent_on = λ to less. none s.out to } where
  none : (o : Option Ship) (to : ℕ) → IsPermutation (sent o s.workers worker to []) []
  none None to = IsPermutation-refl []
  none (Some ship) to = IsPermutation-refl []

pub each_wide : (fields : ℕ) (i : Instance) → AreWide fields i.left_kept → AreWide fields i.right_kept → (p : ℕ) → AreWide fields (kept_at i p)
each_wide fields i left right zero = left
each_wide fields i left right (suc zero) = right
each_wide fields i left right (suc (suc p)) = tt

pub stays : (o : Option Ship) (placed : Bag) → PlacesAtRoot o placed → Placed o (placed ++ []) placed
stays None placed h = is_same (append-nil placed)
stays (Some ship) placed h = h

-- ---- the contents of a part

pub its_function : (p : Part) (f : WithFields) → (h : IsOperator p) → p.called ≡ Some f → h.function ≡ f
its_function p f h e = same_Some h.function f (sym h.called ∙ e)

pub its_fields : (p : Part) (f : WithFields) → IsOperator p → p.called ≡ Some f → f.fields ≡ p.fields
its_fields p f h e = ap (λ (g : WithFields). g.fields) (sym (its_function p f h e)) ∙ h.fields

kind_of_map : (kind : OpKind) → is_map kind ≡ true → kind ≡ Map
kind_of_map Map e = refl
kind_of_map kind e = absurd (cc)

pub calls_of_map : (p : Part) (ops : PlanOps) (f : WithFields) → is_map p.kind ≡ true → IsOperator p → p.called ≡ Some f → AreOpsOf ops (part_of p) → (row : List Value) → ops.of_record p.at row ≡ Out f.fields f.function.body (of_record row)
calls_of_map p ops f k h e a row =
    let calls = subst (λ (kind : OpKind). Calls (spot_of (part_of p) ops) kind p.fields (body_in p.called)) (kind_of_map p.kind k) a.calls in
    calls row ∙ (λ i. Out (sym (its_fields p f h e) i) (body_in (e i)) (of_record row))

pub calls_of_pair : (p : Part) (ops : PlanOps) (f : WithFields) → is_pair_kind p.kind ≡ true → IsOperator p → p.called ≡ Some f → AreOpsOf ops (part_of p) → (l r : List Value) → ops.of_pair p.at l r ≡ Out f.fields f.function.body (of_pair l r)
calls_of_pair p ops f k h e a l r = by p.kind k a.calls ∙ (λ i. Out (sym (its_fields p f h e) i) (body_in (e i)) (of_pair l r)) where
  by : (kind : OpKind) → is_pair_kind kind ≡ true → Calls (spot_of (part_of p) ops) kind p.fields (body_in p.called) → ops.of_pair p.at l r ≡ Out p.fields (body_in p.called) (of_pair l r)
  by Match k c = c l r
  by Cross k c = c l r
  by kind k c = absurd (cc)

-- ---- batches

none_marked : (list : List (ℕ × Bag)) → marks_in (map addressed_batch list) ≡ []
none_marked [] = refl
none_marked (w ∷ list) = none_marked list

all_batches : (list : List (ℕ × Bag)) → batches_in (map addressed_batch list) ≡ list
all_batches [] = refl
all_batches (w ∷ list) = ap (λ (l : List (ℕ × Bag)). w ∷ l) (all_batches list)

not_all : (a b : Bool) (port : ℕ) (flag : Bool) → (port ≡ 0) ⊎ ((port ≡ 1) × (a ≡ true)) → flag ≡ false → ((port ≡ 0) → flag ≡ a) → ((port ≡ 1) → flag ≡ b) → (a && b) ≡ false
not_all a b port flag (inl zero_port) e f g = and_left a b (sym (f zero_port) ∙ e)
not_all a b port flag (inr one_port) e f g = and_right a b (sym (g one_port.0) ∙ e)

module _ {L : Type 0} (rows : L → Bag) (keys : L → List ℕ) (is_sealed : L → Bool) (s : State L) (port : ℕ) (ready : IsReady rows keys is_sealed s port) where
  pub still_taking : all_ended (seen rows s) ≡ false
  still_taking = not_all (port_ended (seen rows s) 0) (port_ended (seen rows s) 1) port (port_ended (seen rows s) port) ready.which ready.not_ended (λ e. ap (port_ended (seen rows s)) e) (λ e. ap (port_ended (seen rows s)) e)

  -- an operator that works at once gave records for a batch
  pub took_given : (t : State L) (ops : PlanOps) (from : ℕ) (batch out real : Bag) → is_pipelined s.part.kind ≡ true → GivesAtOnce (spot_of (part_of s.part) ops) s.part.kind port (rows s.left) (Batch batch) out → IsPermutation out real
      → KeepsMore (spot_of (part_of s.part) ops) s.part.kind (kept_at (seen rows s)) port (Batch batch) (kept_at (seen rows s)) → t ≡ record s { queue = t.queue; placed = t.placed; given = t.given } → t.given ≡ count_of (s.given + length real)
      → HasGiven (part_of s.part) real s.placed t.placed t.queue.items → Took (spot_of (part_of s.part) ops) s.part.worker (seen rows s) port from (Batch batch) (seen rows t)
  took_given t ops from batch out real at_once gives same kept frame counted given =
      let spot = spot_of (part_of s.part) ops in
      let all : all_ended (seen rows t) ≡ false = ap (λ (u : State L). all_ended (seen rows u)) frame ∙ still_taking in
      let wide : (p : ℕ) → AreWide s.part.fields (kept_at (seen rows s) p) = each_wide s.part.fields (seen rows s) ready.sound.left_wide ready.sound.right_wide in
      took_of spot s.part.worker (seen rows s) (seen rows t) port from (Batch batch) out real same
      (subst (λ (b : Bool). GivesNow b spot s.part.worker (seen rows s) (seen rows t) port (Batch batch) out) (sym at_once) gives)
      (ap (λ (u : State L). part_of u.part) frame) (ap (λ (u : State L). u.finished) frame) (λ p k. ap (λ (u : State L). ended_at (seen rows u) p k) frame)
      (λ e. subst (λ (u : State L). KeepsMore spot s.part.kind (kept_at (seen rows s)) port (Batch batch) (kept_at (seen rows u))) (sym frame) kept)
      (subst (λ (u : State L). (p : ℕ) → AreWide s.part.fields (kept_at (seen rows u) p)) (sym frame) wide)
      (subst (Carry spot s.part.worker real) (sym (ap batches_in given.is ∙ all_batches given.list)) (given.carries ops))
      (no_marks spot s.part.worker (all_ended (seen rows t)) (marks_in t.queue.items) all (ap marks_in given.is ∙ none_marked given.list))
      given.places given.wide counted

  -- the rows of a batch that are kept
  pub took_kept : (t : State L) (ops : PlanOps) (from : ℕ) (batch : Bag) → GivesNow (is_pipelined s.part.kind) (spot_of (part_of s.part) ops) s.part.worker (seen rows s) (seen rows t) port (Batch batch) []
      → KeepsMore (spot_of (part_of s.part) ops) s.part.kind (kept_at (seen rows s)) port (Batch batch) (kept_at (seen rows t)) → ((p : ℕ) → AreWide s.part.fields (kept_at (seen rows t) p)) → t ≡ record s { left = t.left; right = t.right }
      → Took (spot_of (part_of s.part) ops) s.part.worker (seen rows s) port from (Batch batch) (seen rows t)
  took_kept t ops from batch gives kept wide frame =
      let spot = spot_of (part_of s.part) ops in
      let all : all_ended (seen rows t) ≡ false = ap (λ (u : State L). all_ended (seen rows u)) frame ∙ still_taking in
      let queue : t.queue.items ≡ [] = ap (λ (u : State L). u.queue.items) frame ∙ ready.none in
      let sound = ready.sound in
      took_of spot s.part.worker (seen rows s) (seen rows t) port from (Batch batch) [] [] (IsPermutation-refl []) gives
      (ap (λ (u : State L). part_of u.part) frame) (ap (λ (u : State L). u.finished) frame) (λ p k. ap (λ (u : State L). ended_at (seen rows u) p k) frame)
      (λ e. kept) wide
      (subst (Carry spot s.part.worker []) (sym (ap batches_in queue)) (nothing_sent spot s.part.worker))
      (no_marks spot s.part.worker (all_ended (seen rows t)) (marks_in t.queue.items) all (ap marks_in queue))
      (subst (λ (u : State L). Placed s.part.out (s.placed ++ []) u.placed) (sym frame) (stays s.part.out s.placed sound.placed_at_root))
      (subst (λ (u : State L). AreWide s.part.fields u.placed) (sym frame) sound.placed_wide)
      (ap (λ (u : State L). u.given) frame ∙ sound.counted ∙ ap count_of (sym (add-zero s.given)))

-- ---- a Map

gives_map : (p : Part) (ops : PlanOps) (kept : Bag) (kind : OpKind) (batch out : Bag) → is_map kind ≡ true → out ≡ flat_map (ops.of_record p.at) batch → GivesAtOnce (spot_of (part_of p) ops) kind 0 kept (Batch batch) out
gives_map p ops kept Map batch out k e = e
gives_map p ops kept kind batch out k e = absurd (cc)

map_keeps : (s : Spot) (kind : OpKind) (old : ℕ → Bag) (note : Note) (new : ℕ → Bag) → is_map kind ≡ true → KeepsMore s kind old 0 note new
map_keeps s Source old note new k = tt
map_keeps s Map old note new k = tt
map_keeps s kind old note new k = absurd (cc)

map_at_once : (kind : OpKind) → is_map kind ≡ true → is_pipelined kind ≡ true
map_at_once Source k = refl
map_at_once Map k = refl
map_at_once Reduce k = absurd (cc)
map_at_once Match k = refl
map_at_once Cross k = refl
map_at_once CoGroup k = absurd (cc)

pub took_map : {L : Type 0} (rows : L → Bag) (keys : L → List ℕ) (is_sealed : L → Bool) (s t : State L) (f : WithFields) (batch out : Bag) → IsReady rows keys is_sealed s 0 → is_map s.part.kind ≡ true → s.part.called ≡ Some f
    → out ≡ flat_map (λ row. Out f.fields f.function.body (of_record row)) batch → t ≡ record s { queue = t.queue; placed = t.placed; given = t.given } → t.given ≡ count_of (s.given + length out) → HasGiven (part_of s.part) out s.placed t.placed t.queue.items
    → (from : ℕ) (ops : PlanOps) → AreOpsOf ops (part_of s.part) → Took (spot_of (part_of s.part) ops) s.part.worker (seen rows s) 0 from (Batch batch) (seen rows t)
took_map rows keys is_sealed s t f batch out ready k e o frame counted given from ops a =
    let calls = calls_of_map s.part ops f k ready.sound.operator e a in
    took_given rows keys is_sealed s 0 ready t ops from batch out out (map_at_once s.part.kind k) (gives_map s.part ops (rows s.left) s.part.kind batch out k (o ∙ (λ i. flat_map (λ row. sym (calls row) i) batch)))
    (IsPermutation-refl out) (map_keeps (spot_of (part_of s.part) ops) s.part.kind (kept_at (seen rows s)) (Batch batch) (kept_at (seen rows s)) k) frame counted given

-- ---- a Match or a Cross

-- a key without values has no Null
without_keys : (nulls : Bool) (rows : Bag) → cond (nulls || true) rows [] ≡ rows
without_keys true rows = refl
without_keys false rows = refl

gives_pair : (p : Part) (ops : PlanOps) (kept : Bag) (kind : OpKind) (keys : ℕ) (batch out : Bag) → is_pair_kind kind ≡ true → HasKeyLists kind keys p.left_keys p.right_keys → ops.left_keys p.at ≡ p.left_keys → ops.right_keys p.at ≡ p.right_keys
    → out ≡ crossed (matched ops.nulls (ops.of_pair p.at) p.left_keys p.right_keys) kept batch → GivesAtOnce (spot_of (part_of p) ops) kind 1 kept (Batch batch) out
gives_pair p ops kept Match keys batch out k h l r e = e ∙ (λ i. crossed (matched ops.nulls (ops.of_pair p.at) (sym l i) (sym r i)) kept batch)
gives_pair p ops kept Cross keys batch out k h l r e =
    e ∙ (λ i. crossed (matched ops.nulls (ops.of_pair p.at) (h.0 i) (h.1 i)) kept batch) ∙ (λ i. crossed (λ a b. without_keys ops.nulls (ops.of_pair p.at a b) i) kept batch)
gives_pair p ops kept kind keys batch out k h l r e = absurd (cc)

pair_keeps : (s : Spot) (kind : OpKind) (i : Instance) (batch : Bag) → is_pair_kind kind ≡ true → KeepsMore s kind (kept_at i) 1 (Batch batch) (kept_at i)
pair_keeps s Source i batch k = tt
pair_keeps s Map i batch k = tt
pair_keeps s Reduce i batch k = absurd (cc)
pair_keeps s Match i batch k = is_same (append-nil i.left_kept)
pair_keeps s Cross i batch k = is_same (append-nil i.left_kept)
pair_keeps s CoGroup i batch k = absurd (cc)

pair_at_once : (kind : OpKind) → is_pair_kind kind ≡ true → is_pipelined kind ≡ true
pair_at_once Source k = refl
pair_at_once Map k = refl
pair_at_once Reduce k = absurd (cc)
pair_at_once Match k = refl
pair_at_once Cross k = refl
pair_at_once CoGroup k = absurd (cc)

pub took_pair : {L : Type 0} (rows : L → Bag) (keys : L → List ℕ) (is_sealed : L → Bool) (s t : State L) (batch real : Bag) → IsReady rows keys is_sealed s 1 → is_pair_kind s.part.kind ≡ true → ArePairsGiven rows keys s batch real
    → t ≡ record s { queue = t.queue; placed = t.placed; given = t.given } → t.given ≡ count_of (s.given + length real) → HasGiven (part_of s.part) real s.placed t.placed t.queue.items → (from : ℕ) (ops : PlanOps) → AreOpsOf ops (part_of s.part)
    → Took (spot_of (part_of s.part) ops) s.part.worker (seen rows s) 1 from (Batch batch) (seen rows t)
took_pair rows keys is_sealed s t batch real ready k pairs frame counted given from ops a =
    let f = ready.sound.operator.function in
    let e = ready.sound.operator.called in
    let calls = calls_of_pair s.part ops f k ready.sound.operator e a in
    let out = crossed (matched s.part.nulls (λ l r. Out f.fields f.function.body (of_pair l r)) (keys s.left) s.part.right_keys) (rows s.left) batch in
    let own : out ≡ crossed (matched ops.nulls (ops.of_pair s.part.at) s.part.left_keys s.part.right_keys) (rows s.left) batch = λ i. crossed (matched (a.nulls i) (λ l r. sym (calls l r) i) (ready.sound.left_keys i) s.part.right_keys) (rows s.left) batch in
    took_given rows keys is_sealed s 1 ready t ops from batch out real (pair_at_once s.part.kind k)
    (gives_pair s.part ops (rows s.left) s.part.kind ready.sound.operator.function.function.keys batch out k ready.sound.operator.keys (sym a.left_keys) (sym a.right_keys) own) (pairs f e) (pair_keeps (spot_of (part_of s.part) ops) s.part.kind (seen rows s) batch k) frame counted given

kind_of_cross : (kind : OpKind) → is_cross kind ≡ true → kind ≡ Cross
kind_of_cross Cross e = refl
kind_of_cross kind e = absurd (cc)

-- a Cross has no keys
pub no_keys : {L : Type 0} (rows : L → Bag) (keys : L → List ℕ) (is_sealed : L → Bool) (s : State L) → IsSound rows keys is_sealed s → is_cross s.part.kind ≡ true → (keys s.left ≡ []) × (s.part.right_keys ≡ [])
no_keys rows keys is_sealed s h k =
    let none = subst (λ (kind : OpKind). HasKeyLists kind h.operator.function.function.keys s.part.left_keys s.part.right_keys) (kind_of_cross s.part.kind k) h.operator.keys in
    (h.left_keys ∙ none.0, none.1)

pub pairs_crossed : {L : Type 0} (rows : L → Bag) (keys : L → List ℕ) (is_sealed : L → Bool) (s : State L) (g : WithFields) (rights out : Bag) → IsSound rows keys is_sealed s → is_cross s.part.kind ≡ true → s.part.called ≡ Some g
    → IsPermutation (crossed (λ l r. Out g.fields g.function.body (of_pair l r)) (rows s.left) rights) out → ArePairsGiven rows keys s rights out
pairs_crossed rows keys is_sealed s g rights out h k e p = λ f called.
    let none = no_keys rows keys is_sealed s h k in
    let same : g ≡ f = same_Some g f (sym e ∙ called) in
    let calls : List Value → List Value → Bag = λ l r. Out g.fields g.function.body (of_pair l r) in
    joined (is_same (λ i. crossed (matched s.part.nulls (λ l r. Out ((sym same i).fields) ((sym same i).function.body) (of_pair l r)) (none.0 i) (none.1 i)) (rows s.left) rights))
    (joined (is_same (λ i. crossed (λ l r. without_keys s.part.nulls (calls l r) i) (rows s.left) rights)) p)

pub pairs_matched : {L : Type 0} (rows : L → Bag) (keys : L → List ℕ) (s : State L) (g : WithFields) (rights out : Bag) → s.part.called ≡ Some g
    → IsPermutation (crossed (matched s.part.nulls (λ l r. Out g.fields g.function.body (of_pair l r)) (keys s.left) s.part.right_keys) (rows s.left) rights) out → ArePairsGiven rows keys s rights out
pairs_matched rows keys s g rights out e p = λ f called.
    let same : g ≡ f = same_Some g f (sym e ∙ called) in
    joined (is_same (λ i. crossed (matched s.part.nulls (λ l r. Out ((sym same i).fields) ((sym same i).function.body) (of_pair l r)) (keys s.left) s.part.right_keys) (rows s.left) rights)) p

-- ---- rows that are kept

or_false : (b : Bool) → (b || false) ≡ b
or_false true = refl
or_false false = refl

or_true : (b : Bool) → (b || true) ≡ true
or_true true = refl
or_true false = refl

gives_kept_left : (p : Part) (ops : PlanOps) (i j : Instance) (kind : OpKind) (batch : Bag) → is_map kind ≡ false → all_ended j ≡ false → GivesNow (is_pipelined kind) (record (spot_of (part_of p) ops) { kind = kind }) p.worker i j 0 (Batch batch) []
gives_kept_left p ops i j Source batch k e = refl
gives_kept_left p ops i j Map batch k e = absurd (cc)
gives_kept_left p ops i j Reduce batch k e = rw e refl
gives_kept_left p ops i j Match batch k e = refl
gives_kept_left p ops i j Cross batch k e = refl
gives_kept_left p ops i j CoGroup batch k e = rw e refl

-- the rows of a batch at port 0 that are kept: only a Match drops rows for their Nulls
pub needed_is : (p : Part) (kind : OpKind) (rows : Bag) → filter (may_match (p.nulls || not (is_match kind)) p.left_keys) rows ≡ needed_of p kind rows
needed_is p Match rows = ap (λ (b : Bool). filter (may_match b p.left_keys) rows) (or_false p.nulls)
needed_is p Source rows = ap (λ (b : Bool). filter (may_match b p.left_keys) rows) (or_true p.nulls) ∙ all_chosen p.left_keys rows
needed_is p Map rows = ap (λ (b : Bool). filter (may_match b p.left_keys) rows) (or_true p.nulls) ∙ all_chosen p.left_keys rows
needed_is p Reduce rows = ap (λ (b : Bool). filter (may_match b p.left_keys) rows) (or_true p.nulls) ∙ all_chosen p.left_keys rows
needed_is p Cross rows = ap (λ (b : Bool). filter (may_match b p.left_keys) rows) (or_true p.nulls) ∙ all_chosen p.left_keys rows
needed_is p CoGroup rows = ap (λ (b : Bool). filter (may_match b p.left_keys) rows) (or_true p.nulls) ∙ all_chosen p.left_keys rows

left_keeps : (p : Part) (ops : PlanOps) (kind : OpKind) (i j : Instance) (batch : Bag) → AreOpsOf ops (part_of p) → is_map kind ≡ false → IsPermutation (i.left_kept ++ needed_of p kind batch) j.left_kept → j.right_kept ≡ i.right_kept
    → KeepsMore (spot_of (part_of p) ops) kind (kept_at i) 0 (Batch batch) (kept_at j)
left_keeps p ops Source i j batch a k m r = tt
left_keeps p ops Map i j batch a k m r = tt
left_keeps p ops Reduce i j batch a k m r = m
left_keeps p ops Match i j batch a k m r = joined (is_same (λ x. i.left_kept ++ filter (λ row. sym a.nulls x || not (has_null (key_of (sym a.left_keys x) row))) batch)) m
left_keeps p ops Cross i j batch a k m r = m
left_keeps p ops CoGroup i j batch a k m r = (m, is_same (append-nil i.right_kept ∙ sym r))

pub took_left : {L : Type 0} (rows : L → Bag) (keys : L → List ℕ) (is_sealed : L → Bool) (s t : State L) (batch : Bag) → IsReady rows keys is_sealed s 0 → is_map s.part.kind ≡ false → t ≡ record s { left = t.left; right = t.right } → rows t.right ≡ rows s.right
    → IsPermutation (rows s.left ++ needed_of s.part s.part.kind batch) (rows t.left) → AreWide s.part.fields (rows t.left) → (from : ℕ) (ops : PlanOps) → AreOpsOf ops (part_of s.part) → Took (spot_of (part_of s.part) ops) s.part.worker (seen rows s) 0 from (Batch batch) (seen rows t)
took_left rows keys is_sealed s t batch ready k frame right p wide from ops a =
    let all : all_ended (seen rows t) ≡ false = ap (λ (u : State _). all_ended (seen rows u)) frame ∙ still_taking rows keys is_sealed s 0 ready in
    took_kept rows keys is_sealed s 0 ready t ops from batch (gives_kept_left s.part ops (seen rows s) (seen rows t) s.part.kind batch k all)
    (left_keeps s.part ops s.part.kind (seen rows s) (seen rows t) batch a k p right) (each_wide s.part.fields (seen rows t) wide (subst (AreWide s.part.fields) (sym right) ready.sound.right_wide)) frame

gives_kept_right : (p : Part) (ops : PlanOps) (i j : Instance) (kind : OpKind) (batch : Bag) → is_pair_kind kind ≡ false → 1 < takes kind → all_ended j ≡ false
    → GivesNow (is_pipelined kind) (record (spot_of (part_of p) ops) { kind = kind }) p.worker i j 1 (Batch batch) []
gives_kept_right p ops i j Source batch k two e = absurd (omega (arith, two))
gives_kept_right p ops i j Map batch k two e = absurd (omega (arith, two))
gives_kept_right p ops i j Reduce batch k two e = absurd (omega (arith, two))
gives_kept_right p ops i j Match batch k two e = absurd (cc)
gives_kept_right p ops i j Cross batch k two e = absurd (cc)
gives_kept_right p ops i j CoGroup batch k two e = rw e refl

right_keeps : (s : Spot) (kind : OpKind) (i j : Instance) (batch : Bag) → is_pair_kind kind ≡ false → 1 < takes kind → IsPermutation (i.right_kept ++ batch) j.right_kept → j.left_kept ≡ i.left_kept → KeepsMore s kind (kept_at i) 1 (Batch batch) (kept_at j)
right_keeps s Source i j batch k two p l = tt
right_keeps s Map i j batch k two p l = tt
right_keeps s Reduce i j batch k two p l = absurd (omega (arith, two))
right_keeps s Match i j batch k two p l = absurd (cc)
right_keeps s Cross i j batch k two p l = absurd (cc)
right_keeps s CoGroup i j batch k two p l = (is_same (append-nil i.left_kept ∙ sym l), p)

-- ---- the instance after the note

module _ {L : Type 0} (rows : L → Bag) (keys : L → List ℕ) (is_sealed : L → Bool) (s : State L) (batch : Bag) where
  none_waits : s.queue.items ≡ [] → AreOrderly s.part.workers s.queue.items
  none_waits none = subst (AreOrderly s.part.workers) (sym none) (record { order = refl; receivers = tt })

  -- an instance that gave records for the note
  pub takes_given : (t : State L) (port from : ℕ) (note : Note) (out : Bag) → IsSound rows keys is_sealed s → Gives s out t → HasTaken rows s port from note t → Takes rows keys is_sealed s port from note t
  takes_given t port from note out sound g took =
      let part : t.part ≡ s.part = ap (λ (u : State L). u.part) g.same in
      record {
        took = took;
        sound = λ not_yet. sound_given rows keys is_sealed s t out sound g.same g.counted g.sent;
        orderly = subst (λ (p : Part). AreOrderly p.workers t.queue.items) (sym part) g.orderly;
        flags = subst HasFlags (sym g.same) (record { left = omega (arith, sound.left_flags); right = omega (arith, sound.right_flags) });
        batches = subst (λ (p : Part). AreFew p.batch t.queue.items) (sym part) g.batches;
      }

  pub takes_left : (new : L) → IsReady rows keys is_sealed s 0 → is_map s.part.kind ≡ false → IsKept rows keys is_sealed s.part.fields (needed_of s.part s.part.kind batch) s.left new → (from : ℕ) → Takes rows keys is_sealed s 0 from (Batch batch) (record s { left = new })
  takes_left new ready kind k from =
      let h = ready.sound in
      record {
        took = took_left rows keys is_sealed s (record s { left = new }) batch ready kind refl refl k.kept k.wide from;
        sound = λ not_yet. record {
          batch = h.batch;
          worker = h.worker;
          operator = h.operator;
          left_flags = h.left_flags;
          right_flags = h.right_flags;
          left_wide = k.wide;
          right_wide = h.right_wide;
          left_keys = k.same ∙ h.left_keys;
          right_keys = h.right_keys;
          left_sealed = k.not_sealed ∙ sym (and_right (is_pair_kind s.part.kind) (port_ended (seen rows s) 0) ready.not_ended);
          right_sealed = h.right_sealed;
          placed_wide = h.placed_wide;
          placed_at_root = h.placed_at_root;
          counted = h.counted;
        };
        orderly = none_waits ready.none;
        flags = record { left = omega (arith, h.left_flags); right = omega (arith, h.right_flags) };
        batches = none_few s.part.batch s.queue.items ready.none;
      }

  pub takes_right : (new : L) → IsReady rows keys is_sealed s 1 → is_pair_kind s.part.kind ≡ false → IsKept rows keys is_sealed s.part.fields batch s.right new → (from : ℕ) → Takes rows keys is_sealed s 1 from (Batch batch) (record s { right = new })
  takes_right new ready kind k from =
      let h = ready.sound in
      let t = record s { right = new } in
      let two = subst (λ (n : ℕ). 1 < n) (sym h.operator.arity) ready.there in
      record {
        took = λ ops a. took_kept rows keys is_sealed s 1 ready t ops from batch (gives_kept_right s.part ops (seen rows s) (seen rows t) s.part.kind batch kind two (still_taking rows keys is_sealed s 1 ready))
            (right_keeps (spot_of (part_of s.part) ops) s.part.kind (seen rows s) (seen rows t) batch kind two k.kept refl) (each_wide s.part.fields (seen rows t) h.left_wide k.wide) refl;
        sound = λ not_yet. record {
          batch = h.batch;
          worker = h.worker;
          operator = h.operator;
          left_flags = h.left_flags;
          right_flags = h.right_flags;
          left_wide = h.left_wide;
          right_wide = k.wide;
          left_keys = h.left_keys;
          right_keys = k.same ∙ h.right_keys;
          left_sealed = h.left_sealed;
          right_sealed = k.not_sealed;
          placed_wide = h.placed_wide;
          placed_at_root = h.placed_at_root;
          counted = h.counted;
        };
        orderly = none_waits ready.none;
        flags = record { left = omega (arith, h.left_flags); right = omega (arith, h.right_flags) };
        batches = none_few s.part.batch s.queue.items ready.none;
      }
