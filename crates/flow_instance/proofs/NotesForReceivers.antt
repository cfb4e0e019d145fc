-- Batches and end marks for all receivers.
use Rattle.std.proofs.Common.{◌≡◌, ◌≢◌, ◌<◌, ◌+◌, ◌-◌, ◌==◌, inl, inr, ℕ, Bool, true, false, cond, List, [], ◌∷◌, ◌++◌, map, filter, refl, ap, sym, ◌∙◌, subst, arith, append_assoc, append-nil}
use Rattle.std.specs.List.{AllByRecursion}
use Rattle.std.proofs.lemmas.Bool.{cases_eq, cases_lt, eq-eqb, ne_eqb}
use Rattle.std.proofs.lemmas.List.{map-append}
use Rattle.std.proofs.Math.Nat.{mod-one}
use Rattle.flow_instance.specs.Local.{marks_for, one_if, rows_for}
use Rattle.pact_operators.specs.Allowed.{Bag}
use Rattle.pact_record.proofs.Lists.{AllByRecursion-append}
use Rattle.pact_record.specs.Hash.{key_hash, target}
use Rattle.pact_record.specs.Record.{key_of}
use Rattle.pact_record.specs.declared.values.Value.{Value}
use Rattle.plan_trees.specs.Sending.{has_pipe, sent}
use Rattle.plan_trees.specs.declared.physicals.Ship.{Ship}
use Rattle.plan_trees.specs.declared.physicals.Ship.TheVariants.{Forward, Partition, Broadcast}
use Rattle.flow_instance.specs.Sending.{AreCarried, AreFew, AreMarked, AreSent, AreSentSoFar, IsBatchFor, HasPipe, IsSent, IsTurn, addressed_batch, addressed_mark}
use Rattle.flow_instance.specs.declared.addressed_notes.AddressedNote.{AddressedNote}
use Rattle.flow_instance.proofs.CarriedBatches.{rows_for-append}

others_none : (fields to t : ℕ) (more : List (ℕ × Bag)) → AllByRecursion (IsBatchFor fields to) more → t ≢ to → rows_for t more ≡ []
others_none fields to t [] h other = refl
others_none fields to t (w ∷ more) h other = ap (λ (b : Bool). cond b w.1 [] ++ rows_for t more) (ne_eqb w.0 t (λ e. other (sym e ∙ h.0.0))) ∙ others_none fields to t more h.1 other

pub as_sent : (fields workers to from : ℕ) (ship : Ship) (more : List (ℕ × Bag)) → to < workers → has_pipe ship from to ≡ true → AllByRecursion (IsBatchFor fields to) more → AllByRecursion (IsSent fields workers ship from) more
as_sent fields workers to from ship [] below pipe h = tt
as_sent fields workers to from ship (w ∷ more) below pipe h =
    (((subst (λ (n : ℕ). n < workers) (sym h.0.0) below, subst (λ (n : ℕ). has_pipe ship from n ≡ true) (sym h.0.0) pipe), h.0.1, h.0.2), as_sent fields workers to from ship more below pipe h.1)

pub none_few : (most : ℕ) (queue : List AddressedNote) → queue ≡ [] → AreFew most queue
none_few most queue e = subst (AreFew most) (sym e) tt

pub none_sent : (fields workers from : ℕ) (ship : Ship) (rows : Bag) (queue : List AddressedNote) (held : ℕ → Bag) → queue ≡ [] → ((to : ℕ) → held to ≡ sent ship workers from to rows) → AreSentSoFar fields workers ship from 0 rows queue held
none_sent fields workers from ship rows queue held e all =
    record { list = []; is = e; batches = tt; each = λ turn t less _ _. absurd (omega (arith, less)); later = λ _ t _ _ _ _. all t; others = λ t above. refl }

-- each receiver has exactly one turn
one_turn : (workers from a b t u : ℕ) → a < workers → b < workers → t < workers → u < workers → IsTurn workers from a t → IsTurn workers from b u → a ≡ b → t ≡ u
one_turn workers from a b t u al bl tl ul (inl e) (inl f) s = omega (arith, e, f, s)
one_turn workers from a b t u al bl tl ul (inl e) (inr f) s = absurd (omega (arith, e, f, s, tl, ul))
one_turn workers from a b t u al bl tl ul (inr e) (inl f) s = absurd (omega (arith, e, f, s, tl, ul))
one_turn workers from a b t u al bl tl ul (inr e) (inr f) s = omega (arith, e, f, s)

pub one_receiver : (workers from a b t u : ℕ) → a < workers → b < workers → t < workers → u < workers → IsTurn workers from a t → IsTurn workers from b u → t ≡ u → a ≡ b
one_receiver workers from a b t u al bl tl ul (inl e) (inl f) s = omega (arith, e, f, s)
one_receiver workers from a b t u al bl tl ul (inl e) (inr f) s = absurd (omega (arith, e, f, s, al, bl))
one_receiver workers from a b t u al bl tl ul (inr e) (inl f) s = absurd (omega (arith, e, f, s, al, bl))
one_receiver workers from a b t u al bl tl ul (inr e) (inr f) s = omega (arith, e, f, s)

-- if turn m is at most n and its receiver isn't turn n's, then m is before n
sooner : (workers from n to m t : ℕ) → n < workers → to < workers → t < workers → IsTurn workers from n to → IsTurn workers from m t → t ≢ to → m < n + 1 → m < n
sooner workers from n to m t early below tl turn its other less = elim (cases_lt m n) as (λ _. m < n) [
  | inl before ↦ before
  | inr after ↦ absurd (other (one_turn workers from m n t to (omega (arith, less, early)) early tl below its turn (omega (arith, less, after))))
]

-- batches for one worker were added at the end
pub others_same : (fields to t : ℕ) (list more : List (ℕ × Bag)) → AllByRecursion (IsBatchFor fields to) more → t ≢ to → rows_for t (list ++ more) ≡ rows_for t list
others_same fields to t list more batches other =
    rows_for-append t list more ∙ ap (λ (l : Bag). rows_for t list ++ l) (others_none fields to t more batches other) ∙ append-nil (rows_for t list)

pub is_longer : (list more : List (ℕ × Bag)) (old new : List AddressedNote) → new ≡ old ++ map addressed_batch more → old ≡ map addressed_batch list → new ≡ map addressed_batch (list ++ more)
is_longer list more old new behind is = behind ∙ ap (λ (l : List AddressedNote). l ++ map addressed_batch more) is ∙ sym (map-append addressed_batch list more)

-- one more receiver to which the edge leads
pub sent_one : (fields workers from n to : ℕ) (ship : Ship) (rows part : Bag) (old new : List AddressedNote) (held : ℕ → Bag) → n < workers → to < workers → IsTurn workers from n to → has_pipe ship from to ≡ true → part ≡ held to
    → AreCarried fields to part old new → AreSentSoFar fields workers ship from n rows old held → AreSentSoFar fields workers ship from (n + 1) rows new held
sent_one fields workers from n to ship rows part old new held early below turn pipe part_is c h =
    let all = h.list ++ c.more in
    let apart : (t : ℕ) → t ≢ to → rows_for t all ≡ rows_for t h.list = λ t other. others_same fields to t h.list c.more c.batches other in
    let here : rows_for to all ≡ sent ship workers from to rows =
    rows_for-append to h.list c.more ∙ ap (λ (l : Bag). rows_for to h.list ++ l) (c.carried ∙ part_is) ∙ h.later n to (omega arith) early below turn in
    record {
      list = all;
      is = is_longer h.list c.more old new c.behind h.is;
      batches = AllByRecursion-append (IsSent fields workers ship from) h.list c.more h.batches (as_sent fields workers to from ship c.more below pipe c.batches);
      each = λ m t less tl its. elim (cases_eq t to) as (λ _. rows_for t all ≡ sent ship workers from t rows) [
        | inl e ↦ subst (λ (k : ℕ). rows_for k all ≡ sent ship workers from k rows) (sym e) here
        | inr other ↦ apart t other ∙ h.each m t (sooner workers from n to m t early below tl turn its other less) tl its
      ];
      later = λ m t above ml tl its. ap (λ (l : Bag). l ++ held t) (apart t (λ e. omega (arith, above, one_receiver workers from m n t to ml early tl below its turn e))) ∙ h.later m t (omega (arith, above)) ml tl its;
      others = λ t above. apart t (λ e. omega (arith, e, above, below)) ∙ h.others t above;
    }

-- all have had their turn
turn_of : (workers from t : ℕ) → from < workers → t < workers → (turn : ℕ) × (turn < workers) × IsTurn workers from turn t
turn_of workers from t fl tl = elim (cases_lt t from) as (λ _. (turn : ℕ) × (turn < workers) × IsTurn workers from turn t) [
  | inl less ↦ (t + workers - from, omega (arith, less, fl, tl), inr (omega (arith, less, fl)))
  | inr above ↦ (t - from, omega (arith, above, tl), inl (omega (arith, above)))
]

pub all_sent : (fields workers from : ℕ) (ship : Ship) (rows : Bag) (queue : List AddressedNote) (held : ℕ → Bag) → from < workers → AreSentSoFar fields workers ship from workers rows queue held → AreSent fields workers ship from rows queue
all_sent fields workers from ship rows queue held fl h = record {
  list = h.list;
  is = h.is;
  batches = h.batches;
  each = λ t tl. let its = turn_of workers from t fl tl in h.each its.0 t its.1 tl its.2;
  others = h.others;
}

-- ---- edges by which all rows of a sender go to one worker

filter-const : {X : Type 0} (b : Bool) (xs : List X) → filter (λ x. b) xs ≡ cond b xs []
filter-const true [] = refl
filter-const false [] = refl
filter-const true (x ∷ xs) = ap (λ (l : List _). x ∷ l) (filter-const true xs)
filter-const false (x ∷ xs) = filter-const false xs

-- the worker with the sender's number
sent_alone : (fields workers from : ℕ) (ship : Ship) (rows : Bag) (old new : List AddressedNote) → from < workers → old ≡ [] → has_pipe ship from from ≡ true → ((to : ℕ) → to < workers → sent ship workers from to rows ≡ cond (from == to) rows [])
    → AreCarried fields from rows old new → AreSent fields workers ship from rows new
sent_alone fields workers from ship rows old new below none pipe goes c = record {
  list = c.more;
  is = c.behind ∙ ap (λ (l : List AddressedNote). l ++ map addressed_batch c.more) none;
  batches = as_sent fields workers from from ship c.more below pipe c.batches;
  each = λ t less. elim (cases_eq t from) as (λ _. rows_for t c.more ≡ sent ship workers from t rows) [
    | inl e ↦ ap (λ (n : ℕ). rows_for n c.more) e ∙ c.carried ∙ sym (goes t less ∙ ap (λ (b : Bool). cond b rows []) (eq-eqb from t (sym e)))
    | inr other ↦ others_none fields from t c.more c.batches other ∙ sym (goes t less ∙ ap (λ (b : Bool). cond b rows []) (ne_eqb from t (λ e. other (sym e))))
  ];
  others = λ t above. others_none fields from t c.more c.batches (λ e. omega (arith, e, above, below));
}

-- an edge that forwards leads to this worker only
pub sent_forward : (fields workers from : ℕ) (rows : Bag) (old new : List AddressedNote) → from < workers → old ≡ [] → AreCarried fields from rows old new → AreSent fields workers Forward from rows new
sent_forward fields workers from rows old new below none c = sent_alone fields workers from Forward rows old new below none (eq-eqb from from refl) (λ to less. filter-const (from == to) rows) c

target_one : (values : List Value) → target 1 values ≡ 0
unfolding target
target_one values = mod-one (key_hash values)

goes_to_first : (keys : List ℕ) (from : ℕ) (rows : Bag) → sent (Partition keys) 1 from 0 rows ≡ rows
goes_to_first keys from [] = refl
goes_to_first keys from (row ∷ rows) =
    ap (λ (b : Bool). cond b (row ∷ sent (Partition keys) 1 from 0 rows) (sent (Partition keys) 1 from 0 rows)) (eq-eqb (target 1 (key_of keys row)) 0 (target_one (key_of keys row))) ∙ ap (λ (l : Bag). row ∷ l) (goes_to_first keys from rows)

-- if there is one worker, all key values send to it
pub sent_to_only : (fields workers from : ℕ) (keys : List ℕ) (rows : Bag) (old new : List AddressedNote) → workers ≡ 1 → from < workers → old ≡ [] → AreCarried fields from rows old new → AreSent fields workers (Partition keys) from rows new
sent_to_only fields workers from keys rows old new one below none c = sent_alone fields workers from (Partition keys) rows old new below none refl (λ to less.
    let to_is : to ≡ 0 = omega (arith, one, less) in
    let from_is : from ≡ to = omega (arith, one, less, below) in
    ap (λ (w : ℕ). sent (Partition keys) w from to rows) one ∙ ap (λ (t : ℕ). sent (Partition keys) 1 from t rows) to_is ∙ goes_to_first keys from rows ∙ sym (ap (λ (b : Bool). cond b rows []) (eq-eqb from to from_is))) c

-- a broadcast sends all rows to each worker
pub sent_broadcast : (workers from to : ℕ) (rows : Bag) → rows ≡ sent Broadcast workers from to rows
sent_broadcast workers from to rows = sym (filter-const true rows)

-- ---- end marks

marks_for-last : (to m : ℕ) (marks : List ℕ) → marks_for to (marks ++ m ∷ []) ≡ marks_for to marks + one_if (m == to)
marks_for-last to m [] = omega arith
marks_for-last to m (n ∷ marks) = omega (arith, marks_for-last to m marks)

pub marked_one : (workers from to : ℕ) (ship : Ship) (first old new : List AddressedNote) → new ≡ old ++ addressed_mark to ∷ [] → to < workers → has_pipe ship from to ≡ true → AreMarked workers ship from to first old → AreMarked workers ship from (to + 1) first new
marked_one workers from to ship first old new e below pipe h =
    let all = h.list ++ to ∷ [] in
    let told : (t : ℕ) → marks_for t all ≡ marks_for t h.list + one_if (to == t) = λ t. marks_for-last t to h.list in
    record {
      list = all;
      behind = e ∙ ap (λ (l : List AddressedNote). l ++ addressed_mark to ∷ []) h.behind ∙ append_assoc first (map addressed_mark h.list) (addressed_mark to ∷ []) ∙ ap (λ (l : List AddressedNote). first ++ l) (sym (map-append addressed_mark h.list (to ∷ [])));
      receivers = AllByRecursion-append (HasPipe workers ship from) h.list (to ∷ []) h.receivers ((below, pipe), tt);
      each = λ t less. elim (cases_eq t to) as (λ _. marks_for t all ≡ one_if (has_pipe ship from t)) [
        | inl same ↦ omega (arith, told t, h.later t (omega (arith, same)), ap one_if (eq-eqb to t (sym same)), ap one_if (ap (has_pipe ship from) same ∙ pipe))
        | inr other ↦ omega (arith, told t, h.each t (omega (arith, less)), ap one_if (ne_eqb to t (λ s. other (sym s))))
      ];
      later = λ t above. omega (arith, told t, h.later t (omega (arith, above)), ap one_if (ne_eqb to t (λ s. omega (arith, s, above))));
    }

pub marked_none : (workers from to : ℕ) (ship : Ship) (first old : List AddressedNote) → has_pipe ship from to ≡ false → AreMarked workers ship from to first old → AreMarked workers ship from (to + 1) first old
marked_none workers from to ship first old none h = record {
  list = h.list;
  behind = h.behind;
  receivers = h.receivers;
  each = λ t less. elim (cases_eq t to) as (λ _. marks_for t h.list ≡ one_if (has_pipe ship from t)) [
    | inl same ↦ omega (arith, h.later t (omega (arith, same)), ap one_if (ap (has_pipe ship from) same ∙ none))
    | inr other ↦ h.each t (omega (arith, less))
  ];
  later = λ t above. h.later t (omega (arith, above));
}

pub none_marked : (workers from : ℕ) (ship : Ship) (queue : List AddressedNote) → AreMarked workers ship from 0 queue queue
none_marked workers from ship queue = record { list = []; behind = sym (append-nil queue); receivers = tt; each = λ t less. absurd (omega (arith, less)); later = λ t above. refl }
