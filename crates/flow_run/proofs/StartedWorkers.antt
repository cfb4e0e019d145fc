-- Each worker is ready with what it gets at the start.
use Rattle.std.proofs.Common.{◌≡◌, ◌<◌, ◌≤◌, ◌*◌, ◌&&◌, ◌==◌, inl, inr, ℕ, Bool, true, false, Option, Some, None, List, [], get_or, length, slice_get, refl, ap, sym, ◌∙◌, arith}
use Rattle.std.specs.Prelude.{if◌then◌else◌, nat_lt, not}
use Rattle.std.proofs.lemmas.Bool.{and_parts, cases_Bool}
use Rattle.batch_channel.specs.Ends.{APipe, AnEnd}
use Rattle.plan_trees.specs.Physicals.{IsPhysical, PhysicalData, has_edge, ship_at}
use Rattle.plan_trees.specs.Plans.{has, root_of, subtree_of}
use Rattle.plan_trees.specs.Sending.{has_out}
use Rattle.plan_trees.specs.declared.physicals.Ship.TheVariants.{Forward}
use Rattle.flow_instance.specs.Instances.{Instance}
use Rattle.flow_instance.specs.Local.{IsLocal}
use Rattle.flow_instance.specs.Spots.{Port, Setting, ports_of, spot}
use Rattle.flow_instance.specs.Worlds.{lists_at}
use Rattle.flow_instance.proofs.StandsAfterEvents.{local_same}
use Rattle.flow_core.specs.Worlds.{no_instance}
use Rattle.flow_run.specs.Tables.{cell}
use Rattle.flow_run.specs.Ends.{EndTable, PipeTables, goes_along, notes_in}
use Rattle.flow_run.specs.WorkerStates.{IsReadyFor}
use Rattle.flow_run.specs.Wires.{AreWired, EndTables, IsWiredIf}
use Rattle.flow_run.proofs.WiredPipes.{pipes_of, puts_of, takes_of}

empty_by : (b : Bool) (depth : ℕ) (o : Option APipe) (x y : Option AnEnd) → IsWiredIf b depth o x y → (notes_in x ≡ []) × (notes_in y ≡ [])
empty_by false depth o x y h = (ap notes_in h.1, ap notes_in h.2)
empty_by true depth o x y h = (ap notes_in h.3, ap notes_in h.4)

-- records go only along edges of the plan
pub edge_there : (p : PhysicalData) (edge from to : ℕ) → goes_along p edge from to ≡ true → has edge p.tree ≡ true
edge_there p edge from to e =
    let out = (and_parts (nat_lt from p.workers && nat_lt to p.workers) (has_out (ship_at p edge) from to) e).1 in
    elim (cases_Bool (has_edge edge p.tree)) as (λ _. has edge p.tree ≡ true) [
      | inl there ↦ (and_parts (has edge p.tree) (not (edge == root_of p.tree)) there).0
      | inr none ↦
          let nowhere : has_out (ship_at p edge) from to ≡ false = ap (λ (b : Bool). has_out (if b then Some (get_or p.ships edge Forward) else None) from to) none in
          absurd (let bad : false ≡ true = sym nowhere ∙ out in cc)
    ]

lists_none : (takes : EndTable) (o : Option Port) (from worker : ℕ) → ((edge : ℕ) → notes_in (cell takes edge from) ≡ []) → lists_at (λ a b c. notes_in (cell takes a b)) o from worker ≡ []
lists_none takes None from worker h = refl
lists_none takes (Some q) from worker h = h q.edge

-- a worker is ready if its instances follow from empty lists, and its ends are of pipes that were just made
pub ready_for : (g : Setting) (worker count depth : ℕ) (pipes : PipeTables) (puts takes : EndTables) (instances : List Instance) → IsPhysical g.physical → worker < g.physical.workers → length instances ≡ count → count ≤ 64 → depth ≤ 64
    → ((at : ℕ) → at < count → has at g.physical.tree ≡ true) → ((at : ℕ) → has at g.physical.tree ≡ true → at < count) → AreWired g.physical count depth (256 * count) pipes puts takes
    → ((at : ℕ) → has at g.physical.tree ≡ true → IsLocal (spot g (subtree_of at g.physical.tree)) worker (get_or instances at no_instance) (λ port from. []) (λ to. []))
    → IsReadyFor g g.fields worker pipes instances (get_or puts worker []) (get_or takes worker [])
ready_for g worker count depth pipes puts takes instances physical below long few deep only each w started =
    record {
      physical = physical;
      fields_are = refl;
      below = below;
      few = omega (arith, long, few);
      only = λ at less. only at (omega (arith, less, long));
      local = λ at there. local_same (spot g (subtree_of at g.physical.tree)) worker (get_or instances at no_instance) (get_or instances at no_instance) (λ port from. [])
          (λ port from. lists_at (λ a b c. notes_in (cell (get_or takes worker []) a b)) (slice_get (ports_of g.physical (subtree_of at g.physical.tree)) port) from worker) (λ to. [])
          (λ to. notes_in (cell (get_or puts worker []) at to)) (started at there) refl
          (λ port from. lists_none (get_or takes worker []) (slice_get (ports_of g.physical (subtree_of at g.physical.tree)) port) from worker (λ edge. (empty_by _ depth _ _ _ (w.each edge from worker)).1))
          (λ to. (empty_by _ depth _ _ _ (w.each at worker to)).0);
      pipes_are = pipes_of g.physical count depth (256 * count) pipes puts takes deep physical.few_workers (λ edge from to goes. each edge (edge_there g.physical edge from to goes)) refl w;
      puts_are = puts_of g.physical count depth (256 * count) worker pipes puts takes w;
      takes_are = takes_of g.physical count depth (256 * count) worker pipes puts takes w;
    }
