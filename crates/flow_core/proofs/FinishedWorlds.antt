-- What a world leaves.
use Rattle.std.proofs.Common.{◌≡◌, ◌<◌, ◌≤◌, ℕ, zero, suc, true, Some, List, [], get_or, length, map, slice_get, refl, ap, subst, sym, ◌∙◌, arith}
use Rattle.std.specs.Option.{option_map}
use Rattle.std.proofs.lemmas.List.{get_or_default, length-map}
use Rattle.std.proofs.lemmas.Option.{slice_get-get_or, slice_get-map}
use Rattle.pact_bag.specs.Rows.{HaveOneWidth}
use Rattle.pact_bag.proofs.Widths.{All-from_recursion}
use Rattle.pact_operators.specs.Allowed.{Bag, count_of}
use Rattle.pact_operators.specs.Programs.{IsPlanOf, ProgramData}
use Rattle.pact_record.specs.Widths.{AreWide}
use Rattle.pact_record.specs.declared.values.Value.{Value}
use Rattle.plan_trees.specs.Physicals.{IsPhysical, PhysicalData}
use Rattle.plan_trees.specs.Plans.{has, root_of, subtree_of}
use Rattle.plan_trees.specs.Sending.{all_of}
use Rattle.plan_trees.proofs.EachWorker.{all_each}
use Rattle.plan_trees.proofs.SubtreesOfPlans.{has-root, root_of-subtree}
use Rattle.flow_instance.specs.Spots.{Setting}
use Rattle.flow_instance.specs.Spread.{Spread, placed_in, sum_below}
use Rattle.flow_instance.specs.Worlds.{AreDone, History, IsStuck, LocalAt}
use Rattle.flow_instance.proofs.Bags.{is_same}
use Rattle.flow_instance.proofs.AllPutIsTaken.{spread}
use Rattle.flow_instance.proofs.Stuck.{stuck_is_done}
use Rattle.flow_core.specs.Outcomes.{IsOutcome}
use Rattle.flow_core.specs.QueuedInstances.{given_by, placed_by, total_given}
use Rattle.flow_core.specs.Worlds.{IsStanding, IsWhole, StandsForSome, QueuedInstanceData, WorldData, seen}
use Rattle.flow_instance.proofs.PartsOfPlans.{number_below}

-- the queued instances of the root
abbrev pub root_row : WorldData → List QueuedInstanceData
root_row w = get_or w.queued_instances (root_of w.physical.tree) []

pub root_below : (w : WorldData) → StandsForSome w → root_of w.physical.tree < length w.queued_instances
root_below w s = s.standing.whole.each (root_of w.physical.tree) (has-root w.physical.tree)

-- what is taken out at the root's number
pub taken_row : (w held : WorldData) (root : ℕ) (row : List QueuedInstanceData) → held ≡ w → root ≡ root_of held.physical.tree → row ≡ get_or held.queued_instances root row → StandsForSome w → row ≡ root_row w
taken_row w held root row same at is stands =
    let here : root ≡ root_of w.physical.tree = at ∙ ap (λ (x : WorldData). root_of x.physical.tree) same in
    is ∙ (λ i. get_or (same i).queued_instances (here i) row) ∙ get_or_default w.queued_instances (root_of w.physical.tree) row [] (root_below w stands)

-- ---- widths

pub placed_widths : (g : Setting) (w : WorldData) (h : History) → IsStanding g w h → AreWide g.fields (all_of (length (root_row w)) (placed_by (root_row w)))
placed_widths g w h s =
    let root = root_of w.physical.tree in
    let there = has-root w.physical.tree in
    let at = s.whole.each root there in
    all_each (λ (row : List Value). length row ≡ g.fields) (placed_by (root_row w)) (length (root_row w)) (λ k less.
    let below : k < w.physical.workers = subst (λ (n : ℕ). k < n) (s.whole.workers root at) less in
    (s.stands.instances root k (subst (λ (q : PhysicalData). has root q.tree ≡ true) s.physical there) (subst (λ (q : PhysicalData). k < q.workers) s.physical below)).placed_wide)

pub one_width : (w : WorldData) → StandsForSome w → HaveOneWidth (all_of (length (root_row w)) (placed_by (root_row w)))
one_width w s =
    let rows = all_of (length (root_row w)) (placed_by (root_row w)) in
    record { width = s.program.fields; all = All-from_recursion (λ (row : List Value). length row ≡ s.program.fields) rows (placed_widths _ w s.history s.standing) }

-- ---- the spread

pub spread_of : (g : Setting) (w : WorldData) (h : History) (rows : Bag) (counts : List ℕ) → IsPhysical w.physical → IsStanding g w h → AreDone g.physical (seen w)
    → rows ≡ all_of (length (root_row w)) (placed_by (root_row w)) → counts ≡ map total_given w.queued_instances → Spread g rows counts
spread_of g w h rows counts physical s done rows_are counts_are =
    let trees : w.physical ≡ g.physical = s.physical in
    let at_root = s.whole.each (root_of w.physical.tree) (has-root w.physical.tree) in
    let long : length (root_row w) ≡ g.physical.workers = s.whole.workers (root_of w.physical.tree) at_root ∙ ap (λ (q : PhysicalData). q.workers) trees in
    let placed : rows ≡ placed_in g (seen w) = rows_are ∙ (λ i. all_of (long i) (placed_by (get_or w.queued_instances (root_of (trees i).tree) []))) in
    spread g (seen w) h rows counts (subst IsPhysical trees physical).plan.different s.stands done (is_same placed) (λ at there.
    let below : at < length w.queued_instances = s.whole.each at (subst (λ (q : PhysicalData). has at q.tree ≡ true) (sym trees) there) in
    let row = get_or w.queued_instances at [] in
    let many : length row ≡ g.physical.workers = s.whole.workers at below ∙ ap (λ (q : PhysicalData). q.workers) trees in
    let found : slice_get (map total_given w.queued_instances) at ≡ Some (total_given row) =
    slice_get-map total_given w.queued_instances at ∙ ap (option_map total_given) (slice_get-get_or w.queued_instances at [] below) in
    ap (λ (l : List ℕ). slice_get l at) counts_are ∙ found ∙ ap (λ (n : ℕ). Some (count_of (sum_below n (given_by row)))) many)

-- from what was taken out
pub leaves : (w : WorldData) (rows : Bag) (counts : List ℕ) → StandsForSome w → rows ≡ all_of (length (root_row w)) (placed_by (root_row w)) → counts ≡ map total_given w.queued_instances → IsOutcome w rows counts
leaves w rows counts s rows_are counts_are = record {
  spread = λ g h standing done. spread_of g w h rows counts s.is_physical standing done rows_are counts_are;
  wide = λ g h standing. subst (AreWide g.fields) (sym rows_are) (placed_widths g w h standing);
  long = ap length counts_are ∙ length-map w.queued_instances total_given;
}

-- ---- nothing can happen

pub done_if_stuck : (g : Setting) (w : WorldData) (h : History) → IsPhysical w.physical → 1 ≤ w.depth → IsStanding g w h → IsStuck w.physical w.depth (seen w) → AreDone g.physical (seen w)
done_if_stuck g w h physical some s stuck =
    let k = subst IsPhysical s.physical physical in
    stuck_is_done g w.depth (seen w) h some s.stands.pipe k.plan.different
    (λ at there worker below. subst (λ (n : ℕ). LocalAt g (seen w) h (subtree_of at g.physical.tree) n worker) (sym (root_of-subtree at g.physical.tree there)) (s.stands.instances at worker there below))
    (subst (λ (q : PhysicalData). IsStuck q w.depth (seen w)) s.physical stuck)

-- ---- as many counts as operators

same_length : (m n : ℕ) → ((k : ℕ) → k < m → k < n) → ((k : ℕ) → k < n → k < m) → m ≡ n
same_length zero zero h k = refl
same_length zero (suc n) h k = absurd (omega (arith, k 0 (omega arith)))
same_length (suc m) zero h k = absurd (omega (arith, h 0 (omega arith)))
same_length (suc m) (suc n) h k = omega (arith, h m (omega arith), k n (omega arith))

pub length-queued_instances : (w : WorldData) (p : ProgramData) → IsWhole w.physical w.queued_instances → IsPlanOf p.functions p.ops w.physical.tree → length w.queued_instances ≡ length p.ops
length-queued_instances w p whole plan = same_length (length w.queued_instances) (length p.ops)
    (λ k less. number_below p.ops k w.physical.tree (whole.only k less) plan.arity) (λ k less. whole.each k (plan.all k less))
