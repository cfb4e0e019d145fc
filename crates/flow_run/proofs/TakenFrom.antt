-- A note that an instance took.
use Rattle.std.proofs.Common.{◌≡◌, ◌<◌, ℕ, zero, suc, false, Option, Some, None, List, [], ◌∷◌, ◌++◌, map, slice_get, refl, ap, sym, ◌∙◌, subst}
use Rattle.flow_instance.specs.declared.notes.Note.{Note}
use Rattle.flow_instance.specs.Instances.{Instance, ended_at}
use Rattle.flow_instance.specs.Local.{IsLocal}
use Rattle.flow_instance.specs.Notes.{IsNote}
use Rattle.flow_instance.specs.Spots.{Port, Spot, is_edge}
use Rattle.flow_instance.specs.Steps.{Added, Took}
use Rattle.flow_run.specs.Ends.{PipeTables}
use Rattle.flow_core.specs.QueuedInstances.{TakesNote}
use Rattle.flow_run.specs.WorkerStates.{TakesAt}
use Rattle.flow_run.specs.Tries.{MayTake}

port_there : (ports : List Port) (port edge : ℕ) → slice_get (map (λ (p : Port). p.edge) ports) port ≡ Some edge → (p : Port) × (slice_get ports port ≡ Some p) × (p.edge ≡ edge)
port_there [] port edge e = absurd (let bad : ◌≡◌ {A = Option ℕ} None (Some edge) = e in cc)
port_there (p ∷ ports) zero edge e = (p, refl, (let same : ◌≡◌ {A = Option ℕ} (Some p.edge) (Some edge) = e in cc))
port_there (p ∷ ports) (suc port) edge e = port_there ports port edge e

pub taken_at : (fields worker : ℕ) (pipes : PipeTables) (before i j : Instance) (port edge from : ℕ) (note : Note) (lists old new : ℕ → ℕ → List Note) → MayTake fields worker pipes before port → i ≡ before
    → slice_get (map (λ (p : Port). p.edge) before.part.ports) port ≡ Some edge → from < i.part.workers → ended_at i port from ≡ false → IsNote fields note → ((a b : ℕ) → old a b ≡ lists a b) → Added old edge from note new
    → ((s : Spot) (taken : ℕ → ℕ → List Note) (put : ℕ → List Note) → IsLocal s i.part.worker i taken put → Took s i.part.worker i port from note j)
    → TakesAt before worker port lists j new
taken_at fields worker pipes before i j port edge from note lists old new may same edge_of below sends fits stay added took =
    let p = port_there before.part.ports port edge edge_of in
    let below_too : from < before.part.workers = subst (λ (x : Instance). from < x.part.workers) same below in
    let sends_too : ended_at before port from ≡ false = subst (λ (x : Instance). ended_at x port from ≡ false) same sends in
    let now : Added lists edge from note new = record {
      here = added.here ∙ ap (λ l. l ++ note ∷ []) (stay edge from);
      elsewhere = λ c d other. added.elsewhere c d other ∙ stay c d;
    } in
    record {
      from = from;
      note = note;
      reads = p.0;
      port_is = p.1;
      edge = ap (λ o. is_edge o from worker) (sym p.1) ∙ may.edges from below_too sends_too;
      below = below_too;
      sends = sends_too;
      is_note = subst (λ (n : ℕ). IsNote n note) (sym may.fields_are) fits;
      takes_it = subst (λ (x : Instance). TakesNote x port from note j) same (record { took = took });
      added = subst (λ (e : ℕ). Added lists e from note new) (sym p.2) now;
    }
