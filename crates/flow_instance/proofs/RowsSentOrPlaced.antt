-- Records that are sent on or placed.
use Rattle.std.proofs.Common.{◌≡◌, ◌<◌, ◌&&◌, ℕ, true, List, [], ◌∷◌, ◌++◌, Option, Some, None, map, length, refl, ap, sym, ◌∙◌, subst, append-nil}
use Rattle.std.specs.List.{AllByRecursion}
use Rattle.std.proofs.Math.Bool.{and-true}
use Rattle.flow_instance.proofs.Bags.{is_same}
use Rattle.flow_instance.specs.Instances.{Part}
use Rattle.flow_instance.specs.Local.{IsReceiver, IsWaiting, Placed, one_if}
use Rattle.flow_instance.specs.Spots.{Spot, sent}
use Rattle.plan_trees.specs.Sending.{has_out, has_pipe}
use Rattle.flow_instance.specs.Steps.{Carry}
use Rattle.pact_operators.specs.Allowed.{Bag}
use Rattle.pact_operators.specs.PlanOps.{PlanOps}
use Rattle.pact_record.proofs.Lists.{AllByRecursion-append, AllByRecursion-weaker}
use Rattle.pact_record.specs.Widths.{AreWide}
use Rattle.pact_record.specs.declared.values.Value.{Value}
use Rattle.plan_trees.specs.declared.physicals.Ship.{Ship}
use Rattle.tac_syntax.specs.declared.declarations.OpKind.TheVariants.{Source}
use Rattle.flow_instance.specs.Sending.{AreMarked, AreSent, HasPipe, IsInOrder, IsSent, addressed_batch, batches_in, addressed_mark, marks_in}
use Rattle.flow_instance.specs.States.{AreOrderly, PlacesAtRoot, spot_of}
use Rattle.flow_instance.specs.StateSteps.{HasGiven, HasMarked}
use Rattle.flow_instance.specs.declared.addressed_notes.AddressedNote.{AddressedNote}

-- at the root
pub given_placed : (p : Part) (out before placed : Bag) (queue : List AddressedNote) → p.out ≡ None → queue ≡ [] → AreWide p.fields out → AreWide p.fields before → placed ≡ before ++ out → HasGiven p out before placed queue
given_placed p out before placed queue root none out_wide wide e = record {
  list = [];
  is = none;
  carries = λ ops. record { notes = tt; sent_on = λ to less. is_same (ap (λ (o : Option Ship). sent o p.workers p.worker to out) root) };
  places = subst (λ (o : Option Ship). Placed o (before ++ out) placed) (sym root) (is_same (sym e));
  wide = subst (AreWide p.fields) (sym e) (AllByRecursion-append (λ (r : List Value). length r ≡ p.fields) before out wide out_wide);
}

pub sent_on : (p : Part) (ship : Ship) (out : Bag) (queue : List AddressedNote) (ops : PlanOps) → p.out ≡ Some ship → (a : AreSent p.fields p.workers ship p.worker out queue) → Carry (spot_of p ops) p.worker out a.list
sent_on p ship out queue ops o a = record {
  notes = AllByRecursion-weaker (IsSent p.fields p.workers ship p.worker) (IsWaiting (spot_of p ops) p.worker) a.list (λ w h. ((h.0.0, ap (λ (x : Option Ship). has_out x p.worker w.0) o ∙ h.0.1), h.1, h.2)) a.batches;
  sent_on = λ to less. is_same (ap (λ (x : Option Ship). sent x p.workers p.worker to out) o ∙ sym (a.each to less));
}

pub given_sent : (p : Part) (ship : Ship) (out before : Bag) (queue : List AddressedNote) → p.out ≡ Some ship → PlacesAtRoot p.out before → AreWide p.fields before → AreSent p.fields p.workers ship p.worker out queue
    → HasGiven p out before before queue
given_sent p ship out before queue o at_root wide a = record {
  list = a.list;
  is = a.is;
  carries = λ ops. sent_on p ship out queue ops o a;
  places = subst (λ (x : Option Ship). Placed x (before ++ out) before) (sym o) (subst (λ (x : Option Ship). PlacesAtRoot x before) o at_root);
  wide = wide;
}

-- ---- end marks

pub marked_none : (p : Part) (queue : List AddressedNote) → p.out ≡ None → HasMarked p queue queue
marked_none p queue root = record {
  list = [];
  behind = sym (append-nil queue);
  marks = λ ops. record { receivers = tt; each = λ to less. sym (ap (λ (x : Option Ship). one_if (has_out x p.worker to && true)) root) };
}

pub marked_some : (p : Part) (ship : Ship) (old new : List AddressedNote) → p.out ≡ Some ship → AreMarked p.workers ship p.worker p.workers old new → HasMarked p old new
marked_some p ship old new o a = record {
  list = a.list;
  behind = a.behind;
  marks = λ ops. record {
    receivers = AllByRecursion-weaker (HasPipe p.workers ship p.worker) (IsReceiver (spot_of p ops) p.worker) a.list (λ to h. (h.0, ap (λ (x : Option Ship). has_out x p.worker to) o ∙ h.1)) a.receivers;
    each = λ to less. a.each to less ∙ sym (ap (λ (x : Option Ship). one_if (has_out x p.worker to && true)) o ∙ ap one_if (and-true (has_pipe ship p.worker to)));
  };
}

-- ---- the order of the waiting notes

-- a plan that exists only to instantiate a lemma
no_ops : PlanOps
no_ops = record {
  nulls = true;
  kind = λ n. Source;
  rows = λ n. [];
  of_record = λ n row. [];
  of_pair = λ n left right. [];
  of_group = λ n key group. [];
  of_groups = λ n key left right. [];
  left_keys = λ n. [];
  right_keys = λ n. [];
}

pub batches_in-queue : (list : List (ℕ × Bag)) (marks : List ℕ) → batches_in (map addressed_batch list ++ map addressed_mark marks) ≡ list
batches_in-queue [] [] = refl
batches_in-queue [] (m ∷ marks) = batches_in-queue [] marks
batches_in-queue (w ∷ list) marks = ap (λ (l : List (ℕ × Bag)). w ∷ l) (batches_in-queue list marks)

pub marks_in-queue : (list : List (ℕ × Bag)) (marks : List ℕ) → marks_in (map addressed_batch list ++ map addressed_mark marks) ≡ marks
marks_in-queue [] [] = refl
marks_in-queue [] (m ∷ marks) = ap (λ (l : List ℕ). m ∷ l) (marks_in-queue [] marks)
marks_in-queue (w ∷ list) marks = marks_in-queue list marks

in_order : (queue : List AddressedNote) (list : List (ℕ × Bag)) (marks : List ℕ) → queue ≡ map addressed_batch list ++ map addressed_mark marks → IsInOrder queue
in_order queue list marks e = e ∙ sym (λ i. map addressed_batch ((ap batches_in e ∙ batches_in-queue list marks) i) ++ map addressed_mark ((ap marks_in e ∙ marks_in-queue list marks) i))

below_batches : (s : Spot) (worker : ℕ) (list : List (ℕ × Bag)) → AllByRecursion (IsWaiting s worker) list → AllByRecursion (λ (p : AddressedNote). p.to < s.workers) (map addressed_batch list)
below_batches s worker [] h = tt
below_batches s worker (w ∷ list) h = (h.0.0.0, below_batches s worker list h.1)

below_marks : (s : Spot) (worker : ℕ) (list : List ℕ) → AllByRecursion (IsReceiver s worker) list → AllByRecursion (λ (p : AddressedNote). p.to < s.workers) (map addressed_mark list)
below_marks s worker [] h = tt
below_marks s worker (m ∷ list) h = (h.0.0, below_marks s worker list h.1)

pub orderly_given : (p : Part) (out before placed : Bag) (queue : List AddressedNote) → HasGiven p out before placed queue → AreOrderly p.workers queue
orderly_given p out before placed queue g = record {
  order = in_order queue g.list [] (g.is ∙ sym (append-nil (map addressed_batch g.list)));
  receivers = subst (AllByRecursion (λ (x : AddressedNote). x.to < p.workers)) (sym g.is) (below_batches (spot_of p no_ops) p.worker g.list (g.carries no_ops).notes);
}

pub orderly_marked : (p : Part) (out before placed : Bag) (old queue : List AddressedNote) → HasGiven p out before placed old → HasMarked p old queue → AreOrderly p.workers queue
orderly_marked p out before placed old queue g m =
    let is = m.behind ∙ ap (λ (l : List AddressedNote). l ++ map addressed_mark m.list) g.is in
    record {
      order = in_order queue g.list m.list is;
      receivers = subst (AllByRecursion (λ (x : AddressedNote). x.to < p.workers)) (sym is) (AllByRecursion-append (λ (x : AddressedNote). x.to < p.workers) (map addressed_batch g.list) (map addressed_mark m.list)
          (below_batches (spot_of p no_ops) p.worker g.list (g.carries no_ops).notes) (below_marks (spot_of p no_ops) p.worker m.list (m.marks no_ops).receivers));
    }
