-- If a subtree and its replacement agree, the whole trees agree: in the bags, in the attributes, and in sides that
-- share none.
use Rattle.std.proofs.Common.{◌≡◌, ◌⊎◌, inl, inr, ℕ, true, List}
use Rattle.tac_syntax.specs.Valid.{WithFields}
use Rattle.plan_trees.specs.Plans.{PlanTree, over, both, has, subtree_of, replaced}
use Rattle.plan_trees.proofs.InPlace.{IsKept, GoesDown, in_place, down}
use Rattle.pact_operators.specs.declared.operators.Op.{Op}
use Rattle.pact_operators.specs.Allowed.{Bag, Allows, AllowSame}
use Rattle.pact_operators.specs.PlanOps.{PlanOps}
use Rattle.pact_operators.specs.Programs.{HasAttribute, AreSidesApart, HasArity}

-- ---- bags

one_more : (o : PlanOps) (n : ℕ) (t u : PlanTree) → ((bag : Bag) → Allows o t bag → Allows o u bag) → (bag : Bag) → Allows o (over n t) bag → Allows o (over n u) bag
one_more o n t u e bag h = let a = h.0 in (record { rows = a.rows; out = a.out; below = e a.rows a.below; given = a.given; permuted = a.permuted }, tt)

two_more : (o : PlanOps) (n : ℕ) (t u v w : PlanTree) → ((bag : Bag) → Allows o t bag → Allows o v bag) → ((bag : Bag) → Allows o u bag → Allows o w bag) → (bag : Bag) → Allows o (both n t u) bag → Allows o (both n v w) bag
two_more o n t u v w e f bag h =
    let a = h.0 in (
      record { left_rows = a.left_rows; right_rows = a.right_rows; out = a.out; left_below = e a.left_rows a.left_below; right_below = f a.right_rows a.right_below; given = a.given; permuted = a.permuted },
      tt,
    )

pub allow_kept : (o : PlanOps) → IsKept (AllowSame o)
allow_kept o = record {
  self = λ t bag. ((λ h. h), (λ h. h));
  under_one = λ n t u e bag. (one_more o n t u (λ b. (e b).0) bag, one_more o n u t (λ b. (e b).1) bag);
  under_two = λ n t u v w e f bag. (two_more o n t u v w (λ b. (e b).0) (λ b. (f b).0) bag, two_more o n v w t u (λ b. (e b).1) (λ b. (f b).1) bag);
}

pub allowed_in_place : (o : PlanOps) (at : ℕ) (new t : PlanTree) → has at t ≡ true → AllowSame o (subtree_of at t) new → AllowSame o t (replaced at new t)
allowed_in_place o at new t h e = in_place (AllowSame o) (allow_kept o) at new t h e

-- ---- attributes, and sides that share none

abbrev pub SameAttributes : List WithFields → List Op → PlanTree → PlanTree → Type 0
SameAttributes v ops t u = (k : ℕ) → (HasAttribute v ops t k → HasAttribute v ops u k) × (HasAttribute v ops u k → HasAttribute v ops t k)

pub record StaysApart (v : List WithFields) (ops : List Op) (t u : PlanTree) : Type 0 where
  pub attributes : SameAttributes v ops t u
  pub apart : AreSidesApart v ops t → AreSidesApart v ops u

own_or : {A B C : Type 0} → (B → C) → A ⊎ B → A ⊎ C
own_or f (inl a) = inl a
own_or f (inr b) = inr (f b)

own_or_two : {A B C D E : Type 0} → (B → D) → (C → E) → A ⊎ B ⊎ C → A ⊎ D ⊎ E
own_or_two f g (inl a) = inl a
own_or_two f g (inr (inl b)) = inr (inl (f b))
own_or_two f g (inr (inr c)) = inr (inr (g c))

pub apart_kept : (v : List WithFields) (ops : List Op) → IsKept (StaysApart v ops)
apart_kept v ops = record {
  self = λ t. record { attributes = λ k. ((λ h. h), (λ h. h)); apart = λ h. h };
  under_one = λ n t u e. record { attributes = λ k. (own_or (e.attributes k).0, own_or (e.attributes k).1); apart = e.apart };
  under_two = λ n t u v1 w e f. record {
    attributes = λ k. (own_or_two (e.attributes k).0 (f.attributes k).0, own_or_two (e.attributes k).1 (f.attributes k).1);
    apart = λ h. ((λ k a b. h.0 k ((e.attributes k).1 a) ((f.attributes k).1 b)), e.apart h.1, f.apart h.2);
  };
}

pub apart_down : (v : List WithFields) (ops : List Op) → GoesDown (AreSidesApart v ops)
apart_down v ops = record { of_one = λ n t h. h; of_left = λ n t u h. h.1; of_right = λ n t u h. h.2 }

pub AreSidesApart-subtree : (v : List WithFields) (ops : List Op) (at : ℕ) (t : PlanTree) → AreSidesApart v ops t → AreSidesApart v ops (subtree_of at t)
AreSidesApart-subtree v ops at t h = down (AreSidesApart v ops) (apart_down v ops) at t h

-- ---- numbers of inputs

pub arity_kept : (ops : List Op) → IsKept (λ t u. HasArity ops t → HasArity ops u)
arity_kept ops = record {
  self = λ t h. h;
  under_one = λ n t u e h. (h.0, e h.1);
  under_two = λ n t u v w e f h. (h.0, e h.1, f h.2);
}
