use Rattle.std.proofs.Common.{◌≡◌, [], true, false, ap, ◌∙◌}
use Rattle.flow_instance.specs.Instances.{want}
use Rattle.flow_instance.specs.Sending.{batches_in, marks_in}
use Rattle.flow_instance.specs.States.{seen}
use Rattle.flow_instance.proofs.WantsOfInstances.{all_flags, empty_queue, wants_end, wants_left, wants_none, wants_right}
use Rattle.flow_instance.proofs.instances.Instance.want.Goals as goal

pub returns-then-not-have_all_ended : goal.returns-then-not-have_all_ended
returns-then-not-have_all_ended g c =
    let s = c.self.inside.state in
    let none : s.queue.items ≡ [] = empty_queue c.front.result _ s.queue.items c.in_default.is c.front.ensures.variant s.queue.ok.0 in
    let left = all_flags s.left_ended s.part.workers c.have_all_ended.result false c.self.invariant.flags.left c.have_all_ended.ensures c.if-not-have_all_ended.true in
    wants_left (seen g.L.Local.rows s) (ap batches_in none) (ap marks_in none) left ∙ ap want c.self.view_is

pub returns-then-not-have_all_ended-2 : goal.returns-then-not-have_all_ended-2
returns-then-not-have_all_ended-2 g c =
    let s = c.self.inside.state in
    let none : s.queue.items ≡ [] = empty_queue c.front.result _ s.queue.items c.in_default.is c.front.ensures.variant s.queue.ok.0 in
    let left = all_flags s.left_ended s.part.workers c.have_all_ended.result true c.self.invariant.flags.left c.have_all_ended.ensures c.if-not-have_all_ended.false in
    let right = all_flags s.right_ended s.part.workers c.have_all_ended-2.result false c.self.invariant.flags.right c.have_all_ended-2.ensures c.if-not-have_all_ended-2.true in
    wants_right (seen g.L.Local.rows s) (ap batches_in none) (ap marks_in none) left right ∙ ap want c.self.view_is

pub returns-then-self : goal.returns-then-self
returns-then-self g c =
    let s = c.self.inside.state in
    let none : s.queue.items ≡ [] = empty_queue c.front.result _ s.queue.items c.in_default.is c.front.ensures.variant s.queue.ok.0 in
    let left = all_flags s.left_ended s.part.workers c.have_all_ended.result true c.self.invariant.flags.left c.have_all_ended.ensures c.if-not-have_all_ended.false in
    let right = all_flags s.right_ended s.part.workers c.have_all_ended-2.result true c.self.invariant.flags.right c.have_all_ended-2.ensures c.if-not-have_all_ended-2.false in
    wants_none (seen g.L.Local.rows s) (ap batches_in none) (ap marks_in none) left right c.if-self.true ∙ ap want c.self.view_is

pub returns-else-self : goal.returns-else-self
returns-else-self g c =
    let s = c.self.inside.state in
    let none : s.queue.items ≡ [] = empty_queue c.front.result _ s.queue.items c.in_default.is c.front.ensures.variant s.queue.ok.0 in
    let left = all_flags s.left_ended s.part.workers c.have_all_ended.result true c.self.invariant.flags.left c.have_all_ended.ensures c.if-not-have_all_ended.false in
    let right = all_flags s.right_ended s.part.workers c.have_all_ended-2.result true c.self.invariant.flags.right c.have_all_ended-2.ensures c.if-not-have_all_ended-2.false in
    wants_end (seen g.L.Local.rows s) (ap batches_in none) (ap marks_in none) left right c.if-self.false ∙ ap want c.self.view_is
