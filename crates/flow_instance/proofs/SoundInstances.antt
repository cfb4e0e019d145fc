-- Instances that stay sound.
use Rattle.std.proofs.Common.{◌≡◌, ◌++◌, ◌+◌, ℕ, Bool, List, Option, Some, None, length, sym, subst, arith}
use Rattle.flow_instance.specs.Local.{Placed}
use Rattle.pact_operators.specs.Allowed.{Bag, count_of}
use Rattle.plan_trees.specs.declared.physicals.Ship.{Ship}
use Rattle.flow_instance.specs.States.{IsSound, PlacesAtRoot, part_of}
use Rattle.flow_instance.specs.StateSteps.{HasGiven}
use Rattle.flow_instance.specs.declared.states.State.{State}

pub at_root : (o : Option Ship) (given placed : Bag) → Placed o given placed → PlacesAtRoot o placed
at_root None given placed h = tt
at_root (Some ship) given placed h = h

pub count_twice : (n k : ℕ) → n ≡ count_of k → n ≡ count_of n
count_twice n k e = omega (arith, e)

pub sound_given : {L : Type 0} (rows : L → Bag) (keys : L → List ℕ) (is_sealed : L → Bool) (s t : State L) (out : Bag) → IsSound rows keys is_sealed s → t ≡ record s { queue = t.queue; placed = t.placed; given = t.given }
    → t.given ≡ count_of (s.given + length out) → HasGiven (part_of s.part) out s.placed t.placed t.queue.items → IsSound rows keys is_sealed t
sound_given rows keys is_sealed s t out h frame counted given = subst (IsSound rows keys is_sealed) (sym frame) (record {
  batch = h.batch;
  worker = h.worker;
  operator = h.operator;
  left_flags = h.left_flags;
  right_flags = h.right_flags;
  left_wide = h.left_wide;
  right_wide = h.right_wide;
  left_keys = h.left_keys;
  right_keys = h.right_keys;
  left_sealed = h.left_sealed;
  right_sealed = h.right_sealed;
  placed_wide = given.wide;
  placed_at_root = at_root s.part.out (s.placed ++ out) t.placed given.places;
  counted = count_twice t.given (s.given + length out) counted;
})
