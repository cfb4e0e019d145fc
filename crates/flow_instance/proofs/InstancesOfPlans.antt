-- An instance keeps what its program and plan say. Its obligations follow from that.
use Rattle.std.proofs.Common.{◌≡◌, ◌<◌, ◌||◌, not, ℕ, Bool, true, false, List, [], ◌∷◌, slice_get, refl, ap, sym, ◌∙◌, subst}
use Rattle.std.specs.List.{AllByRecursion}
use Rattle.flow_instance.proofs.LocalAfterTakes.{took_local}
use Rattle.flow_instance.proofs.LocalAfterPuts.{IsPutting, batch, mark, putting_by, offered_local}
use Rattle.flow_instance.specs.Instances.{Instance, Part, ended_at, port_ended, want}
use Rattle.flow_instance.specs.Local.{Calls, IsLocal, IsPartOf, IsReceiver, IsWaiting, is_pipelined}
use Rattle.flow_instance.specs.Notes.{AreNotes, has_end}
use Rattle.flow_instance.specs.Spots.{Port, Spot, is_edge}
use Rattle.flow_instance.specs.Steps.{Added, AddedTo, GivesNow, Took, next_note, offered}
use Rattle.flow_instance.specs.declared.notes.Note.{Note}
use Rattle.flow_instance.specs.declared.notes.Want.TheVariants.{Take, Put}
use Rattle.pact_operators.specs.Allowed.{Bag}
use Rattle.pact_operators.specs.PlanOps.{PlanOps}
use Rattle.tac_syntax.specs.Call.{Out, of_group, of_groups, of_pair, of_record}
use Rattle.tac_syntax.specs.declared.declarations.OpKind.{OpKind}
use Rattle.tac_syntax.specs.declared.declarations.OpKind.TheVariants.{Source, Map, Reduce, Match, Cross, CoGroup}
use Rattle.flow_instance.specs.States.{AreOpsOf, spot_of}
use Rattle.flow_instance.proofs.WantsOfInstances.{is_note}

pub same_spot : (s : Spot) (on : ℕ) (p : Part) → IsPartOf s on p → spot_of p s.ops ≡ s
same_spot s on p h = λ i. record { at = h.at i; kind = h.kind i; workers = h.workers i; fields = h.fields i; ports = h.ports i; out = h.out i; ops = s.ops }

pub ops_of : (s : Spot) (on : ℕ) (p : Part) → IsPartOf s on p → AreOpsOf s.ops p
ops_of s on p h = record {
  calls = subst (λ (x : Spot). Calls x p.kind p.fields p.body) (sym (same_spot s on p h)) h.calls;
  left_keys = h.left_keys ∙ ap s.ops.left_keys (sym h.at);
  right_keys = h.right_keys ∙ ap s.ops.right_keys (sym h.at);
  nulls = h.nulls;
}

-- ---- a note is taken

-- a `PlanOps` in which every number is an operator with the part's function, keys and setting for Nulls
abbrev own_ops : Part → PlanOps
own_ops p = record {
  nulls = p.nulls;
  kind = λ n. p.kind;
  rows = λ n. [];
  of_record = λ n row. Out p.fields p.body (of_record row);
  of_pair = λ n left right. Out p.fields p.body (of_pair left right);
  of_group = λ n key group. Out p.fields p.body (of_group key group);
  of_groups = λ n key left right. Out p.fields p.body (of_groups key left right);
  left_keys = λ n. p.left_keys;
  right_keys = λ n. p.right_keys;
}

are_own : (p : Part) → AreOpsOf (own_ops p) p
are_own p = record { calls = calls p.kind; left_keys = refl; right_keys = refl; nulls = refl } where
  calls : (kind : OpKind) → Calls (spot_of p (own_ops p)) kind p.fields p.body
  calls Source = tt
  calls Map = λ row. refl
  calls Reduce = λ key group. refl
  calls Match = λ left right. refl
  calls Cross = λ left right. refl
  calls CoGroup = λ key left right. refl

-- the part doesn't change
pub same_part : (i j : Instance) (port from : ℕ) (note : Note) → ((ops : _) → AreOpsOf ops i.part → Took (spot_of i.part ops) i.part.worker i port from note j) → j.part ≡ i.part
same_part i j port from note h = (h (own_ops i.part) (are_own i.part)).part

pub took_for : (s : Spot) (i j : Instance) (port from : ℕ) (note : Note) (taken : ℕ → ℕ → List Note) (put : ℕ → List Note) → ((ops : _) → AreOpsOf ops i.part → Took (spot_of i.part ops) i.part.worker i port from note j) → IsLocal s i.part.worker i taken put
    → Took s i.part.worker i port from note j
took_for s i j port from note taken put h l = subst (λ (x : Spot). Took x i.part.worker i port from note j) (same_spot s i.part.worker i.part l.part) (h s.ops (ops_of s i.part.worker i.part l.part))

not_yet : (b e : Bool) → e ≡ true → (not e || b) ≡ false → b ≡ false
not_yet b true e h = h
not_yet b false e h = absurd (cc)

pub local_taken : (s : Spot) (i j : Instance) (port from : ℕ) (note : Note) (taken new : ℕ → ℕ → List Note) (put : ℕ → List Note) → ((ops : _) → AreOpsOf ops i.part → Took (spot_of i.part ops) i.part.worker i port from note j)
    → want i ≡ Take port → is_edge (slice_get i.part.ports port) from i.part.worker ≡ true → from < i.part.workers → ended_at i port from ≡ false → AreNotes i.part.fields (note ∷ [])
    → IsLocal s i.part.worker i taken put → Added taken port from note new → IsLocal s i.part.worker j new put
local_taken s i j port from note taken new put h wanted edge below open_still fit l a =
    let part = l.part in
    let below_s : from < s.workers = subst (λ (n : ℕ). from < n) part.workers below in
    let edge_s : is_edge (slice_get s.ports port) from i.part.worker ≡ true = ap (λ (ps : List Port). is_edge (slice_get ps port) from i.part.worker) (sym part.ports) ∙ edge in
    let unended : has_end (taken port from) ≡ false = not_yet (has_end (taken port from)) (is_edge (slice_get s.ports port) from i.part.worker) edge_s (sym (l.ended port from below_s) ∙ open_still) in
    took_local s i.part.worker i j taken new put port from note l wanted below_s edge_s unended (is_note s.fields note (subst (λ (n : ℕ). AreNotes n (note ∷ [])) part.fields fit)) (took_for s i j port from note taken put h l) a

-- the `receiver` field makes no difference
pub took_receiver : (s : Spot) (worker : ℕ) (i j : Instance) (port from r : ℕ) (note : Note) → Took s worker i port from note j → Took s worker i port from note (record j { receiver = r })
took_receiver s worker i j port from r note t = record {
  out = t.out;
  gives = by (is_pipelined s.kind) t.gives;
  part = t.part;
  finished = t.finished;
  ended = t.ended;
  kept = t.kept;
  kept_wide = t.kept_wide;
  carries = t.carries;
  marks = t.marks;
  placed = t.placed;
  placed_wide = t.placed_wide;
  given = t.given;
} where
  by : (b : Bool) → GivesNow b s worker i j port note t.out → GivesNow b s worker i (record j { receiver = r }) port note t.out
  by true g = g
  by false g = g

-- ---- a note goes out

receiver_below : (s : Spot) (worker : ℕ) (ws : List (ℕ × Bag)) (ms : List ℕ) (to : ℕ) → IsPutting ws ms to → AllByRecursion (IsWaiting s worker) ws → AllByRecursion (IsReceiver s worker) ms → to < s.workers
receiver_below s worker (w ∷ ws) ms to batch h k = h.0.0.0
receiver_below s worker [] (m ∷ ms) to mark h k = k.0.0
receiver_below s worker [] [] to p h k = elim p [ ]

pub local_offered : (s : Spot) (i : Instance) (taken : ℕ → ℕ → List Note) (put new : ℕ → List Note) (to : ℕ) (note : Note) → note ≡ next_note i.waiting → IsLocal s i.part.worker i taken put → want i ≡ Put to → AddedTo put to note new
    → IsLocal s i.part.worker (offered i) taken new
local_offered s i taken put new to note e l wanted a =
    let p = putting_by i.waiting i.marks (port_ended i 0) (port_ended i 1) i.finished to wanted in
    offered_local s i.part.worker i taken put new to l wanted (receiver_below s i.part.worker i.waiting i.marks to p l.waiting_notes l.marks_wait) (subst (λ (n : Note). AddedTo put to n new) e a)
