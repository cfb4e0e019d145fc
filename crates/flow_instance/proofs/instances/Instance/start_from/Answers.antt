use Rattle.std.proofs.Common.{◌<◌, ◌≤◌, ℕ, List, ap, sym, subst, ◌∙◌}
use Rattle.std.proofs.Math.Path.{transport}
use Rattle.pact_record.specs.Widths.{AreWide}
use Rattle.flow_instance.specs.declared.parts.Part.{Part}
use Rattle.flow_instance.specs.declared.states.State.{State}
use Rattle.flow_instance.specs.Starting.{IsShareOf}
use Rattle.flow_instance.specs.States.{seen}
use Rattle.flow_instance.proofs.instances.Instance.start_from.Goals as goal
use Rattle.flow_instance.proofs.SmallBatches.{small_started}
use Rattle.flow_instance.proofs.Started.{started, whole}
use Rattle.flow_instance.proofs.LocalAfterPuts.{started_local}
use Rattle.flow_instance.specs.Spots.{setting, spot}
use Rattle.flow_instance.specs.Steps.{Started}
use Rattle.pact_operators.specs.Allowed.{Bag}
use Rattle.plan_trees.specs.Plans.{subtree_of}

pub invariant_of-result : goal.invariant_of-result
invariant_of-result g c =
    let r = c.requires.may in
    let u = r.is in
    whole g.L.Local.rows g.L.Local.key_fields g.L.Local.is_sealed r.program r.physical r.number r.worker r.size c.args.unstarted.part c.in_ok-state.state c.begin.new.self c.args.unstarted.rows u.part
    u.here u.arity u.below c.in_ok-state.ensures c.in_ok-begin.ensures.begun u.some

pub returns-clause-started : goal.returns-clause-started
returns-clause-started g c = λ p q at worker size share u.
    let same = ap (λ (s : State _). s.part) c.in_ok-begin.ensures.begun.same ∙ c.in_ok-state.ensures.part in
    let first : (inputs : List Bag) → IsShareOf p inputs at q.workers worker share → Started (spot (setting p inputs q) (subtree_of at q.tree)) worker (seen g.L.Local.rows c.begin.new.self) = λ inputs own.
    started g.L.Local.rows g.L.Local.key_fields g.L.Local.is_sealed p q at worker size c.args.unstarted.part c.in_ok-state.state c.begin.new.self c.args.unstarted.rows u.part
    u.here u.arity u.below c.in_ok-state.ensures c.in_ok-begin.ensures.begun inputs (λ source. u.rows ∙ own source) (λ other. u.rows ∙ u.none other) in
    record {
      at = ap (λ (part : Part). part.at) same ∙ u.part.at;
      worker = ap (λ (part : Part). part.worker) same ∙ u.part.worker;
      batch = ap (λ (part : Part). part.batch) same ∙ u.part.batch;
      started = first;
      local = λ inputs own. started_local (spot (setting p inputs q) (subtree_of at q.tree)) worker (seen g.L.Local.rows c.begin.new.self) (first inputs own);
    }

pub returns-clause-small : goal.returns-clause-small
returns-clause-small g c = small_started g.L.Local.rows c.in_ok-state.state c.begin.new.self c.args.unstarted.rows c.in_ok-begin.ensures.begun c.in_ok-begin.ensures.batches

pub begin-requires-clause-batch : goal.begin-requires-clause-batch
begin-requires-clause-batch g c = λ lifetimes bound.
    let fresh = c.in_ok-state.ensures in
    let u = c.requires.may.is in
    subst (λ (n : ℕ). 1 ≤ n) (sym (ap (λ (p : Part). p.batch) fresh.part ∙ u.part.batch)) u.some

pub begin-requires-clause-worker : goal.begin-requires-clause-worker
begin-requires-clause-worker g c = λ lifetimes bound.
    let fresh = c.in_ok-state.ensures in
    let u = c.requires.may.is in
    transport (λ i. sym (ap (λ (p : Part). p.worker) fresh.part ∙ u.part.worker) i < sym (ap (λ (p : Part). p.workers) fresh.part ∙ u.part.workers) i) u.below

pub begin-requires-clause-left : goal.begin-requires-clause-left
begin-requires-clause-left g c = λ lifetimes bound.
    let fresh = c.in_ok-state.ensures in
    fresh.left_flags ∙ sym (ap (λ (p : Part). p.workers) fresh.part)

pub begin-requires-clause-right : goal.begin-requires-clause-right
begin-requires-clause-right g c = λ lifetimes bound.
    let fresh = c.in_ok-state.ensures in
    fresh.right_flags ∙ sym (ap (λ (p : Part). p.workers) fresh.part)

pub begin-requires-clause-wide : goal.begin-requires-clause-wide
begin-requires-clause-wide g c = λ lifetimes bound.
    let fresh = c.in_ok-state.ensures in
    let u = c.requires.may.is in
    subst (λ (n : ℕ). AreWide n c.args.unstarted.rows) (sym (ap (λ (p : Part). p.fields) fresh.part ∙ u.part.fields)) (subst (AreWide c.requires.may.program.fields) (sym u.rows) u.wide)
