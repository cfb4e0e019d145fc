-- What was gathered note by note is the summary of the notes.
use Rattle.std.proofs.Common.{◌≡◌, ◌&&◌, ◌||◌, nat_lt, ℕ, Bool, true, List, [], ◌∷◌, refl, sym, ap, ◌∙◌}
use Rattle.std.proofs.Math.Bool.{and-true, and_assoc, and_comm, or-false, or_assoc}
use Rattle.tac_flow.specs.Known.{left, right, side_of}
use Rattle.tac_flow.specs.Walks.{Note, decides, emits}
use Rattle.tac_flow.specs.Results.{Gathered, summary, writes_in, common_in, depends_in, control_in, anchored_in, is_on}
use Rattle.tac_flow.specs.Gathering.{gather, nothing, decided, emitted}

writes : (ns : List Note) (g : Gathered) (k : ℕ) → (gather ns g).writes k ≡ (g.writes k || writes_in ns k)
writes [] g k = sym (or-false (g.writes k))
writes (decides d ∷ ns) g k = writes ns (decided d g) k
writes (emits h ∷ ns) g k = writes ns (emitted h g) k ∙ or_assoc (g.writes k) (h.changed k) (writes_in ns k)

depends : (ns : List Note) (g : Gathered) (k : ℕ) → (gather ns g).depends k ≡ (g.depends k || depends_in ns k)
depends [] g k = sym (or-false (g.depends k))
depends (decides d ∷ ns) g k = depends ns (decided d g) k
depends (emits h ∷ ns) g k = depends ns (emitted h g) k ∙ or_assoc (g.depends k) (h.depends k) (depends_in ns k)

control : (ns : List Note) (g : Gathered) (k : ℕ) → (gather ns g).control k ≡ (g.control k || control_in ns k)
control [] g k = sym (or-false (g.control k))
control (decides d ∷ ns) g k = control ns (decided d g) k ∙ or_assoc (g.control k) (d k) (control_in ns k)
control (emits h ∷ ns) g k = control ns (emitted h g) k

all_left : (ns : List Note) (g : Gathered) → (gather ns g).all_left ≡ (g.all_left && anchored_in left ns)
all_left [] g = sym (and-true g.all_left)
all_left (decides d ∷ ns) g = all_left ns (decided d g)
all_left (emits h ∷ ns) g = all_left ns (emitted h g) ∙ and_assoc g.all_left (is_on left (side_of h.base)) (anchored_in left ns)

all_right : (ns : List Note) (g : Gathered) → (gather ns g).all_right ≡ (g.all_right && anchored_in right ns)
all_right [] g = sym (and-true g.all_right)
all_right (decides d ∷ ns) g = all_right ns (decided d g)
all_right (emits h ∷ ns) g = all_right ns (emitted h g) ∙ and_assoc g.all_right (is_on right (side_of h.base)) (anchored_in right ns)

each_in : List Note → ℕ → Bool
each_in [] k = true
each_in (decides d ∷ ns) k = each_in ns k
each_in (emits h ∷ ns) k = h.changed k && each_in ns k

common : (ns : List Note) (g : Gathered) (k : ℕ) → (gather ns g).common k ≡ (g.common k && each_in ns k)
unfolding each_in
common [] g k = sym (and-true (g.common k))
common (decides d ∷ ns) g k = common ns (decided d g) k
common (emits h ∷ ns) g k = common ns (emitted h g) k ∙ and_assoc (g.common k) (h.changed k) (each_in ns k)

common_each : (fields : ℕ) (ns : List Note) (k : ℕ) → common_in fields ns k ≡ (each_in ns k && nat_lt k fields)
unfolding each_in
common_each fields [] k = refl
common_each fields (decides d ∷ ns) k = common_each fields ns k
common_each fields (emits h ∷ ns) k = ap (λ (b : Bool). h.changed k && b) (common_each fields ns k) ∙ sym (and_assoc (h.changed k) (each_in ns k) (nat_lt k fields))

pub gather_all : (fields : ℕ) (ns : List Note) → gather ns (nothing fields) ≡ summary fields ns
gather_all fields ns = λ i. record {
  writes = λ k. writes ns (nothing fields) k i;
  common = λ k. (common ns (nothing fields) k ∙ and_comm (nat_lt k fields) (each_in ns k) ∙ sym (common_each fields ns k)) i;
  depends = λ k. depends ns (nothing fields) k i;
  control = λ k. control ns (nothing fields) k i;
  all_left = all_left ns (nothing fields) i;
  all_right = all_right ns (nothing fields) i;
}
