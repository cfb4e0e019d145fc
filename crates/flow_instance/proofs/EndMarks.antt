-- End marks that an instance takes.
use Rattle.std.proofs.Common.{◌≡◌, ◌≤◌, ◌+◌, ◌&&◌, ◌==◌, ℕ, Bool, true, false, cond, Some, List, [], ◌∷◌, ◌++◌, length, map, refl, ap, sym, ◌∙◌, subst, arith, append-nil}
use Rattle.std.specs.Prelude.{filter}
use Rattle.std.specs.List.Sorted.{IsPermutation}
use Rattle.std.proofs.Math.Nat.{add-zero}
use Rattle.std.proofs.lemmas.List.{length-map}
use Rattle.std.proofs.lemmas.List.Sorted.{IsPermutation-refl}
use Rattle.flow_instance.proofs.Bags.{is_same, joined}
use Rattle.flow_instance.proofs.GivenForNotes.{none_at_end}
use Rattle.flow_instance.specs.Instances.{Instance, Part as PartData, all_ended, ended_at, kept_at, port_ended}
use Rattle.flow_instance.specs.Local.{Calls, Gave, IsGiven, KeepsRows, MayGive, may_match, is_pipelined}
use Rattle.plan_trees.specs.Senders.{all_below}
use Rattle.flow_instance.specs.Spots.{Port as PortData, Spot}
use Rattle.flow_instance.specs.Steps.{Carry, GivesNow, KeepsMore, Mark, Took, kept_with}
use Rattle.flow_instance.specs.declared.notes.Note.TheVariants.{End}
use Rattle.pact_operators.specs.Allowed.{Bag, CoGrouped, Grouped, count_of, keys_in, keys_in_either}
use Rattle.pact_operators.specs.PlanOps.{PlanOps}
use Rattle.pact_operators.specs.Programs.{takes, is_pair_kind}
use Rattle.pact_record.specs.Widths.{AreWide}
use Rattle.pact_record.specs.declared.values.Value.{Value}
use Rattle.tac_syntax.specs.Call.{Out, of_group, of_groups}
use Rattle.tac_syntax.specs.Valid.{WithFields}
use Rattle.tac_syntax.specs.declared.declarations.OpKind.{OpKind}
use Rattle.tac_syntax.specs.declared.declarations.OpKind.TheVariants.{Source, Map, Reduce, Match, Cross, CoGroup}
use Rattle.flow_instance.specs.Grouping.{AreCoGroupsGiven, AreGroupsGiven}
use Rattle.flow_instance.specs.Sending.{AreFew, batches_in, addressed_batch, addressed_mark, marks_in}
use Rattle.flow_instance.specs.States.{AreGivenLast, AreOpsOf, AreOrderly, GivesLast, HasEnded, HasFlags, HasTaken, IsOperator, IsReady, IsSound, IsSoundIfTaking, body_in, is_built, is_reduce, part_of, port_of, seen, spot_of}
use Rattle.flow_instance.specs.StateSteps.{HasGiven, HasMarked, Takes}
use Rattle.flow_instance.specs.declared.addressed_notes.AddressedNote.{AddressedNote}
use Rattle.flow_instance.specs.declared.parts.Part.{Part}
use Rattle.flow_instance.specs.declared.states.State.{State}
use Rattle.flow_instance.proofs.RowsSentOrPlaced.{batches_in-queue, marks_in-queue, orderly_marked}
use Rattle.flow_instance.proofs.KeptRecords.{wide_permuted}
use Rattle.flow_instance.proofs.TakenNotes.{each_wide, its_fields, no_marks, nothing_sent, stays, took_of}

-- ---- a side that is sealed

pub sound_built : {L : Type 0} (rows : L → Bag) (keys : L → List ℕ) (is_sealed : L → Bool) (s t : State L) → IsSound rows keys is_sealed s → t ≡ record s { left_ended = t.left_ended; left = t.left } → length t.left_ended ≡ s.part.workers
    → IsPermutation (rows s.left) (rows t.left) → keys t.left ≡ keys s.left → is_sealed t.left ≡ true → is_pair_kind s.part.kind ≡ true → all_below s.part.workers (ended_at (seen rows t) 0) ≡ true → IsSound rows keys is_sealed t
sound_built rows keys is_sealed s t h frame long p k sealed pairs ended = subst (IsSound rows keys is_sealed) (sym frame) (record {
  batch = h.batch;
  worker = h.worker;
  operator = h.operator;
  left_flags = long;
  right_flags = h.right_flags;
  left_wide = wide_permuted s.part.fields (rows s.left) (rows t.left) p h.left_wide;
  right_wide = h.right_wide;
  left_keys = k ∙ h.left_keys;
  right_keys = h.right_keys;
  left_sealed = sealed ∙ sym (λ i. pairs i && ended i);
  right_sealed = h.right_sealed;
  placed_wide = h.placed_wide;
  placed_at_root = h.placed_at_root;
  counted = h.counted;
})

-- other senders of port 0 have ended
pub sound_flagged : {L : Type 0} (rows : L → Bag) (keys : L → List ℕ) (is_sealed : L → Bool) (s : State L) (ended : List Bool) → IsSound rows keys is_sealed s → length ended ≡ s.part.workers
    → is_sealed s.left ≡ is_built s.part.kind (port_ended (seen rows (record s { left_ended = ended })) 0) → IsSound rows keys is_sealed (record s { left_ended = ended })
sound_flagged rows keys is_sealed s ended h long e = record {
  batch = h.batch;
  worker = h.worker;
  operator = h.operator;
  left_flags = long;
  right_flags = h.right_flags;
  left_wide = h.left_wide;
  right_wide = h.right_wide;
  left_keys = h.left_keys;
  right_keys = h.right_keys;
  left_sealed = e;
  right_sealed = h.right_sealed;
  placed_wide = h.placed_wide;
  placed_at_root = h.placed_at_root;
  counted = h.counted;
}

-- ---- the output of a Reduce

may_reduce : (s : Spot) (kind : OpKind) (ports : List PortData) (worker : ℕ) (left right out : Bag) → is_reduce kind ≡ true → takes kind ≡ length ports → Grouped (s.ops.of_group s.at) (s.ops.left_keys s.at) left (keys_in (s.ops.left_keys s.at) left) out
    → MayGive s kind ports worker left right out
may_reduce s Reduce [] worker left right out k e g = absurd (omega (arith, e))
may_reduce s Reduce (p ∷ []) worker left right out k e g = g
may_reduce s Reduce (p ∷ q ∷ []) worker left right out k e g = absurd (omega (arith, e))
may_reduce s Reduce (p ∷ q ∷ r ∷ ports) worker left right out k e g = absurd (omega (arith, e))
may_reduce s kind ports worker left right out k e g = absurd (cc)

calls_of_group : (p : Part) (ops : PlanOps) (f : WithFields) → is_reduce p.kind ≡ true → IsOperator p → p.called ≡ Some f → AreOpsOf ops (part_of p) → (key : List Value) (group : Bag) → ops.of_group p.at key group ≡ Out f.fields f.function.body (of_group key group)
calls_of_group p ops f k h e a key group = by p.kind k a.calls ∙ (λ i. Out (sym (its_fields p f h e) i) (body_in (e i)) (of_group key group)) where
  by : (kind : OpKind) → is_reduce kind ≡ true → Calls (spot_of (part_of p) ops) kind p.fields (body_in p.called) → ops.of_group p.at key group ≡ Out p.fields (body_in p.called) (of_group key group)
  by Source k c = absurd (cc)
  by Map k c = absurd (cc)
  by Reduce k c = c key group
  by Match k c = absurd (cc)
  by Cross k c = absurd (cc)
  by CoGroup k c = absurd (cc)

reduce_waits : (kind : OpKind) → is_reduce kind ≡ true → is_pipelined kind ≡ false
reduce_waits Reduce k = refl
reduce_waits kind k = absurd (cc)

pub reduce_given : {L : Type 0} (rows : L → Bag) (keys : L → List ℕ) (is_sealed : L → Bool) (s : State L) (f : WithFields) (kept out : Bag) → IsSound rows keys is_sealed s → is_reduce s.part.kind ≡ true → s.part.called ≡ Some f → IsPermutation (rows s.left) kept
    → AreGroupsGiven (λ k group. Out f.fields f.function.body (of_group k group)) s.part.left_keys kept out → AreGivenLast rows s out
reduce_given rows keys is_sealed s f kept out h k e p g = λ ops a.
    let spot = spot_of (part_of s.part) ops in
    let calls = calls_of_group s.part ops f k h.operator e a in
    let own : Grouped (ops.of_group s.part.at) (ops.left_keys s.part.at) kept (keys_in (ops.left_keys s.part.at) kept) g.other =
    subst (λ (ks : List ℕ). Grouped (ops.of_group s.part.at) ks kept (keys_in ks kept) g.other) a.left_keys
    (subst (λ (c : List Value → Bag → Bag). Grouped c s.part.left_keys kept (keys_in s.part.left_keys kept) g.other) (λ i x y. sym (calls x y) i) g.grouped) in
    subst (λ (b : Bool). GivesLast b (IsGiven spot s.part.kind (map port_of s.part.ports.items) s.part.worker (kept_at (seen rows s))) out) (sym (reduce_waits s.part.kind k)) (record {
      left = kept;
      right = rows s.right;
      out = g.other;
      of_left = p;
      of_right = IsPermutation-refl (rows s.right);
      may = may_reduce spot s.part.kind (map port_of s.part.ports.items) s.part.worker kept (rows s.right) g.other k (h.operator.arity ∙ sym (length-map s.part.ports.items port_of)) own;
      permuted = g.same;
    })

-- ---- the output of a CoGroup

may_cogroup : (s : Spot) (kind : OpKind) (ports : List PortData) (worker : ℕ) (left right out : Bag) → is_pipelined kind ≡ false → is_reduce kind ≡ false → takes kind ≡ length ports
    → CoGrouped (s.ops.of_groups s.at) (s.ops.left_keys s.at) (s.ops.right_keys s.at) left right (keys_in_either (s.ops.left_keys s.at) (s.ops.right_keys s.at) left right) out → MayGive s kind ports worker left right out
may_cogroup s CoGroup [] worker left right out w k e g = absurd (omega (arith, e))
may_cogroup s CoGroup (p ∷ []) worker left right out w k e g = absurd (omega (arith, e))
may_cogroup s CoGroup (p ∷ q ∷ []) worker left right out w k e g = g
may_cogroup s CoGroup (p ∷ q ∷ r ∷ ports) worker left right out w k e g = absurd (omega (arith, e))
may_cogroup s kind ports worker left right out w k e g = absurd (cc)

calls_of_groups : (p : Part) (ops : PlanOps) (f : WithFields) → is_pipelined p.kind ≡ false → is_reduce p.kind ≡ false → IsOperator p → p.called ≡ Some f → AreOpsOf ops (part_of p) → (key : List Value) (left right : Bag)
    → ops.of_groups p.at key left right ≡ Out f.fields f.function.body (of_groups key left right)
calls_of_groups p ops f w k h e a key left right = by p.kind w k a.calls ∙ (λ i. Out (sym (its_fields p f h e) i) (body_in (e i)) (of_groups key left right)) where
  by : (kind : OpKind) → is_pipelined kind ≡ false → is_reduce kind ≡ false → Calls (spot_of (part_of p) ops) kind p.fields (body_in p.called) → ops.of_groups p.at key left right ≡ Out p.fields (body_in p.called) (of_groups key left right)
  by Source w k c = absurd (cc)
  by Map w k c = absurd (cc)
  by Reduce w k c = absurd (cc)
  by Match w k c = absurd (cc)
  by Cross w k c = absurd (cc)
  by CoGroup w k c = c key left right

pub cogroup_given : {L : Type 0} (rows : L → Bag) (keys : L → List ℕ) (is_sealed : L → Bool) (s : State L) (f : WithFields) (lefts rights out : Bag) → IsSound rows keys is_sealed s → is_pipelined s.part.kind ≡ false → is_reduce s.part.kind ≡ false
    → s.part.called ≡ Some f → IsPermutation (rows s.left) lefts → IsPermutation (rows s.right) rights
    → AreCoGroupsGiven (λ k l r. Out f.fields f.function.body (of_groups k l r)) s.part.left_keys s.part.right_keys lefts rights out → AreGivenLast rows s out
cogroup_given rows keys is_sealed s f lefts rights out h w k e p q g = λ ops a.
    let spot = spot_of (part_of s.part) ops in
    let calls = calls_of_groups s.part ops f w k h.operator e a in
    let own : CoGrouped (ops.of_groups s.part.at) (ops.left_keys s.part.at) (ops.right_keys s.part.at) lefts rights (keys_in_either (ops.left_keys s.part.at) (ops.right_keys s.part.at) lefts rights) g.other =
    subst (λ (ks : List ℕ). CoGrouped (ops.of_groups s.part.at) (ops.left_keys s.part.at) ks lefts rights (keys_in_either (ops.left_keys s.part.at) ks lefts rights) g.other) a.right_keys
    (subst (λ (ks : List ℕ). CoGrouped (ops.of_groups s.part.at) ks s.part.right_keys lefts rights (keys_in_either ks s.part.right_keys lefts rights) g.other) a.left_keys
    (subst (λ (c : List Value → Bag → Bag → Bag). CoGrouped c s.part.left_keys s.part.right_keys lefts rights (keys_in_either s.part.left_keys s.part.right_keys lefts rights) g.other) (λ i x y z. sym (calls x y z) i) g.grouped)) in
    subst (λ (b : Bool). GivesLast b (IsGiven spot s.part.kind (map port_of s.part.ports.items) s.part.worker (kept_at (seen rows s))) out) (sym w) (record {
      left = lefts;
      right = rights;
      out = g.other;
      of_left = p;
      of_right = q;
      may = may_cogroup spot s.part.kind (map port_of s.part.ports.items) s.part.worker lefts rights g.other w k (h.operator.arity ∙ sym (length-map s.part.ports.items port_of)) own;
      permuted = g.same;
    })

-- ---- the kept rows after an end mark

abbrev none_or_none : Bool → Bag
none_or_none b = cond b [] []

none_if : (b : Bool) → none_or_none b ≡ []
none_if true = refl
none_if false = refl

no_more : (kept : ℕ → Bag) (port : ℕ) → kept ≡ kept_with kept port End
no_more kept port = λ i p. sym (ap (λ (l : Bag). kept p ++ l) (none_if (p == port)) ∙ append-nil (kept p)) i

-- an end mark that isn't the last one
gives_nothing : (b : Bool) (s : Spot) (worker : ℕ) (i j : Instance) (port : ℕ) → all_ended j ≡ false → GivesNow b s worker i j port End []
gives_nothing true s worker i j port e = (none_at_end s s.kind port (kept_at i 0) []).1 refl
gives_nothing false s worker i j port e = subst (λ (b : Bool). Gave b (IsGiven s s.kind s.ports worker (kept_with (kept_at i) port End)) []) (sym e) refl

end_keeps : (s : Spot) (kind : OpKind) (i j : Instance) (port : ℕ) → IsPermutation i.left_kept j.left_kept → j.right_kept ≡ i.right_kept → KeepsMore s kind (kept_at i) port End (kept_at j)
end_keeps s Source i j port p r = tt
end_keeps s Map i j port p r = tt
end_keeps s Reduce i j port p r = subst (λ (taken : ℕ → Bag). KeepsRows s Reduce taken (kept_at j)) (no_more (kept_at i) port) p
end_keeps s Match i j port p r = joined (is_same (ap (λ (came : Bag). i.left_kept ++ filter (may_match s) came) (none_if (0 == port)) ∙ append-nil i.left_kept)) p
end_keeps s Cross i j port p r = subst (λ (taken : ℕ → Bag). KeepsRows s Cross taken (kept_at j)) (no_more (kept_at i) port) p
end_keeps s CoGroup i j port p r = subst (λ (taken : ℕ → Bag). KeepsRows s CoGroup taken (kept_at j)) (no_more (kept_at i) port) (p, is_same (sym r))

pub took_more : {L : Type 0} (rows : L → Bag) (keys : L → List ℕ) (is_sealed : L → Bool) (s t : State L) (port from : ℕ) → IsReady rows keys is_sealed s port → HasEnded rows s port from t → all_ended (seen rows t) ≡ false → HasTaken rows s port from End t
took_more rows keys is_sealed s t port from ready h not_yet = λ ops a.
    let spot = spot_of (part_of s.part) ops in
    let sound = ready.sound in
    let new = record s { left_ended = t.left_ended; right_ended = t.right_ended; left = t.left } in
    let all : all_ended (seen rows new) ≡ false = ap (λ (u : State _). all_ended (seen rows u)) (sym h.same) ∙ not_yet in
    subst (λ (u : State _). Took spot s.part.worker (seen rows s) port from End (seen rows u)) (sym h.same)
    (took_of spot s.part.worker (seen rows s) (seen rows new) port from End [] [] (IsPermutation-refl []) (gives_nothing (is_pipelined s.part.kind) spot s.part.worker (seen rows s) (seen rows new) port all) refl refl
    (λ p k. ap (λ (u : State _). ended_at (seen rows u) p k) (sym h.same) ∙ h.ended p k)
    (λ e. end_keeps spot s.part.kind (seen rows s) (seen rows new) port h.kept refl)
    (each_wide s.part.fields (seen rows new) (wide_permuted s.part.fields (rows s.left) (rows t.left) h.kept sound.left_wide) sound.right_wide)
    (subst (Carry spot s.part.worker []) (sym (ap batches_in ready.none)) (nothing_sent spot s.part.worker))
    (no_marks spot s.part.worker (all_ended (seen rows new)) (marks_in s.queue.items) all (ap marks_in ready.none))
    (stays s.part.out s.placed sound.placed_at_root) sound.placed_wide (sound.counted ∙ ap count_of (sym (add-zero s.given))))

pub takes_more : {L : Type 0} (rows : L → Bag) (keys : L → List ℕ) (is_sealed : L → Bool) (s t : State L) (port from : ℕ) → IsReady rows keys is_sealed s port → HasEnded rows s port from t → IsSound rows keys is_sealed t → all_ended (seen rows t) ≡ false
    → AreFew t.part.batch t.queue.items → Takes rows keys is_sealed s port from End t
takes_more rows keys is_sealed s t port from ready h sound not_yet few = record {
  took = took_more rows keys is_sealed s t port from ready h not_yet;
  sound = λ e. sound;
  orderly = subst (AreOrderly t.part.workers) (sym (ap (λ (u : State _). u.queue.items) h.same ∙ ready.none)) (record { order = refl; receivers = tt });
  flags = record { left = omega (arith, sound.left_flags); right = omega (arith, sound.right_flags) };
  batches = few;
}

-- ---- the last one

gives_last : (s : Spot) (worker : ℕ) (i j : Instance) (port : ℕ) (kept : ℕ → Bag) (out : Bag) (b : Bool) → all_ended j ≡ true → IsPermutation (kept_at i 0) (kept 0) → IsPermutation (kept_at i 1) (kept 1) → GivesLast b (IsGiven s s.kind s.ports worker kept) out
    → GivesNow b s worker i j port End out
gives_last s worker i j port kept out true all p q g = (none_at_end s s.kind port (kept_at i 0) out).1 g
gives_last s worker i j port kept out false all p q g =
    subst (λ (b : Bool). Gave b (IsGiven s s.kind s.ports worker (kept_with (kept_at i) port End)) out) (sym all)
    (subst (λ (taken : ℕ → Bag). IsGiven s s.kind s.ports worker taken out) (no_more (kept_at i) port)
    (record { left = g.left; right = g.right; out = g.out; of_left = joined p g.of_left; of_right = joined q g.of_right; may = g.may; permuted = g.permuted }))

pub queue_lists : (p : PartData) (out before placed : Bag) (old queue : List AddressedNote) → (g : HasGiven p out before placed old) → (m : HasMarked p old queue) → queue ≡ map addressed_batch g.list ++ map addressed_mark m.list
queue_lists p out before placed old queue g m = m.behind ∙ ap (λ (l : List AddressedNote). l ++ map addressed_mark m.list) g.is

module _ {L : Type 0} (rows : L → Bag) (keys : L → List ℕ) (is_sealed : L → Bool) (s a b c d : State L) (port from : ℕ) (out : Bag) (ready : IsReady rows keys is_sealed s port)
    (ended : HasEnded rows s port from a) (all : all_ended (seen rows a) ≡ true) (grouped : b ≡ record a { left = b.left; right = b.right })
    (given : c ≡ record b { queue = c.queue; placed = c.placed; given = c.given }) (marked : d ≡ record c { queue = d.queue }) where
  abbrev last : State L
  last = record s { left_ended = a.left_ended; right_ended = a.right_ended; left = b.left; right = b.right; queue = d.queue; placed = c.placed; given = c.given }

  is_last : d ≡ last
  is_last = marked ∙ ap (λ (u : State L). record u { queue = d.queue }) given ∙ ap (λ (u : State L). record u { queue = d.queue; placed = c.placed; given = c.given }) grouped
      ∙ ap (λ (u : State L). record u { left = b.left; right = b.right; queue = d.queue; placed = c.placed; given = c.given }) ended.same

  part_a : a.part ≡ s.part
  part_a = ap (λ (u : State L). u.part) ended.same

  part_b : b.part ≡ s.part
  part_b = ap (λ (u : State L). u.part) grouped ∙ part_a

  part_c : c.part ≡ s.part
  part_c = ap (λ (u : State L). u.part) given ∙ part_b

  part_d : d.part ≡ s.part
  part_d = ap (λ (u : State L). u.part) marked ∙ part_c

  pub flags_last : IsSound rows keys is_sealed a → HasFlags d
  flags_last sound =
      let left : length a.left_ended ≤ a.part.workers = omega (arith, sound.left_flags) in
      let right : length a.right_ended ≤ a.part.workers = omega (arith, sound.right_flags) in
      subst HasFlags (sym is_last) (record { left = subst (λ (p : Part). length a.left_ended ≤ p.workers) part_a left; right = subst (λ (p : Part). length a.right_ended ≤ p.workers) part_a right })

  placed_b : b.placed ≡ s.placed
  placed_b = ap (λ (u : State L). u.placed) grouped ∙ ap (λ (u : State L). u.placed) ended.same

  given_b : b.given ≡ s.given
  given_b = ap (λ (u : State L). u.given) grouped ∙ ap (λ (u : State L). u.given) ended.same

  all_last : all_ended (seen rows last) ≡ true
  all_last = ap (λ (u : State L). all_ended (seen rows u)) (sym ended.same) ∙ all

  pub not_taking : IsSoundIfTaking rows keys is_sealed d
  not_taking not_yet = absurd (let clash : true ≡ false = sym (ap (λ (u : State L). all_ended (seen rows u)) is_last ∙ all_last) ∙ not_yet in cc)

  module _ (g : HasGiven (part_of b.part) out b.placed c.placed c.queue.items) (m : HasMarked (part_of c.part) c.queue.items d.queue.items) where
    has_given : HasGiven (part_of s.part) out s.placed c.placed c.queue.items
    has_given = subst (λ (x : Bag). HasGiven (part_of s.part) out x c.placed c.queue.items) placed_b (subst (λ (p : Part). HasGiven (part_of p) out b.placed c.placed c.queue.items) part_b g)

    has_marked : HasMarked (part_of s.part) c.queue.items d.queue.items
    has_marked = subst (λ (p : Part). HasMarked (part_of p) c.queue.items d.queue.items) part_c m

    pub orderly_last : AreOrderly d.part.workers d.queue.items
    orderly_last = subst (λ (p : Part). AreOrderly p.workers d.queue.items) (sym part_d) (orderly_marked (part_of s.part) out s.placed c.placed c.queue.items d.queue.items has_given has_marked)

    pub took_last : AreGivenLast rows a out → c.given ≡ count_of (b.given + length out) → AreWide a.part.fields (rows b.left) → AreWide a.part.fields (rows b.right) → HasTaken rows s port from End d
    took_last last_given counted left_wide right_wide = λ ops o.
        let spot = spot_of (part_of s.part) ops in
        let is = queue_lists (part_of s.part) out s.placed c.placed c.queue.items d.queue.items has_given has_marked in
        let first = record s { left_ended = a.left_ended; right_ended = a.right_ended; left = a.left } in
        let own : AreGivenLast rows first out = subst (λ (u : State L). AreGivenLast rows u out) ended.same last_given in
        subst (λ (u : State L). Took spot s.part.worker (seen rows s) port from End (seen rows u)) (sym is_last)
        (took_of spot s.part.worker (seen rows s) (seen rows last) port from End out out (IsPermutation-refl out)
        (gives_last spot s.part.worker (seen rows s) (seen rows last) port (kept_at (seen rows first)) out (is_pipelined s.part.kind) all_last ended.kept (IsPermutation-refl (rows s.right)) (own ops o))
        refl refl (λ p k. ap (λ (u : State L). ended_at (seen rows u) p k) (sym ended.same) ∙ ended.ended p k)
        (λ e. absurd (let clash : true ≡ false = sym all_last ∙ e in cc))
        (each_wide s.part.fields (seen rows last) (subst (λ (p : Part). AreWide p.fields (rows b.left)) part_a left_wide) (subst (λ (p : Part). AreWide p.fields (rows b.right)) part_a right_wide))
        (subst (Carry spot s.part.worker out) (sym (ap batches_in is ∙ batches_in-queue has_given.list has_marked.list)) (has_given.carries ops))
        (subst (λ (w : Bool). Mark spot s.part.worker w (marks_in d.queue.items)) (sym all_last) (subst (Mark spot s.part.worker true) (sym (ap marks_in is ∙ marks_in-queue has_given.list has_marked.list)) (has_marked.marks ops)))
        has_given.places has_given.wide (counted ∙ ap (λ (n : ℕ). count_of (n + length out)) given_b))
