-- Instances at their start.
use Rattle.std.proofs.Common.{◌≡◌, ◌+◌, Bool, true, false, Option, [], ◌++◌, length, map, ap, sym, ◌∙◌, subst, append-nil}
use Rattle.flow_instance.specs.Instances.{all_ended}
use Rattle.flow_instance.specs.Steps.{Carry, Mark}
use Rattle.pact_operators.specs.Allowed.{Bag, count_of}
use Rattle.flow_instance.specs.Local.{Placed}
use Rattle.plan_trees.specs.declared.physicals.Ship.{Ship}
use Rattle.pact_record.specs.Widths.{AreWide}
use Rattle.flow_instance.specs.Sending.{batches_in, addressed_batch, addressed_mark, marks_in}
use Rattle.flow_instance.specs.States.{AreOrderly, HasBegun, part_of, seen, spot_of}
use Rattle.flow_instance.specs.StateSteps.{HasGiven, HasMarked}
use Rattle.flow_instance.specs.declared.parts.Part.{Part}
use Rattle.flow_instance.specs.declared.states.State.{State}
use Rattle.flow_instance.proofs.EndMarks.{queue_lists}
use Rattle.flow_instance.proofs.RowsSentOrPlaced.{batches_in-queue, marks_in-queue, orderly_marked}
use Rattle.flow_instance.proofs.TakenNotes.{no_marks}

placed_first : (o : Option Ship) (before out placed : Bag) → before ≡ [] → Placed o (before ++ out) placed → Placed o out placed
placed_first o before out placed e h = subst (λ (l : Bag). Placed o l placed) (ap (λ (l : Bag). l ++ out) e) h

module _ {L : Type 0} (rows : L → Bag) (s c d : State L) (out : Bag) (none : s.placed ≡ []) (given : c ≡ record s { queue = c.queue; placed = c.placed; given = c.given }) (counted : c.given ≡ count_of (s.given + length out))
    (g : HasGiven (part_of s.part) out s.placed c.placed c.queue.items) (orderly : AreOrderly s.part.workers c.queue.items) where
  lists : c.queue.items ≡ map addressed_batch g.list ++ map addressed_mark []
  lists = g.is ∙ sym (append-nil (map addressed_batch g.list))

  -- some sender hasn't ended
  pub begun_more : all_ended (seen rows c) ≡ false → HasBegun rows s out c
  begun_more not_yet = record {
    same = given;
    counted = counted;
    carries = λ ops. subst (Carry (spot_of (part_of s.part) ops) s.part.worker out) (sym (ap batches_in lists ∙ batches_in-queue g.list [])) (g.carries ops);
    marks = λ ops. no_marks (spot_of (part_of s.part) ops) s.part.worker (all_ended (seen rows c)) (marks_in c.queue.items) not_yet (ap marks_in lists ∙ marks_in-queue g.list []);
    places = placed_first s.part.out s.placed out c.placed none g.places;
    wide = g.wide;
    orderly = orderly;
  }

  -- all senders have ended
  pub begun_last : all_ended (seen rows c) ≡ true → d ≡ record c { queue = d.queue } → HasMarked (part_of c.part) c.queue.items d.queue.items → HasBegun rows s out d
  begun_last all marked m =
      let part : c.part ≡ s.part = ap (λ (u : State L). u.part) given in
      let has_marked = subst (λ (p : Part). HasMarked (part_of p) c.queue.items d.queue.items) part m in
      let is = queue_lists (part_of s.part) out s.placed c.placed c.queue.items d.queue.items g has_marked in
      let same : d ≡ record s { queue = d.queue; placed = c.placed; given = c.given } = marked ∙ ap (λ (u : State L). record u { queue = d.queue }) given in
      let placed : d.placed ≡ c.placed = ap (λ (u : State L). u.placed) marked in
      let count : d.given ≡ c.given = ap (λ (u : State L). u.given) marked in
      record {
        same = same ∙ (λ i. record s { queue = d.queue; placed = sym placed i; given = sym count i });
        counted = count ∙ counted;
        carries = λ ops. subst (Carry (spot_of (part_of s.part) ops) s.part.worker out) (sym (ap batches_in is ∙ batches_in-queue g.list has_marked.list)) (g.carries ops);
        marks = λ ops. subst (λ (w : Bool). Mark (spot_of (part_of s.part) ops) s.part.worker w (marks_in d.queue.items)) (sym (ap (λ (u : State L). all_ended (seen rows u)) marked ∙ all))
            (subst (Mark (spot_of (part_of s.part) ops) s.part.worker true) (sym (ap marks_in is ∙ marks_in-queue g.list has_marked.list)) (has_marked.marks ops));
        places = subst (Placed s.part.out out) (sym placed) (placed_first s.part.out s.placed out c.placed none g.places);
        wide = subst (λ (l : Bag). AreWide s.part.fields l) (sym placed) g.wide;
        orderly = orderly_marked (part_of s.part) out s.placed c.placed c.queue.items d.queue.items g has_marked;
      }
