-- A tree in which two neighbours have changed places has the same attributes as before, and its sides still share none.
use Rattle.std.proofs.Common.{◌⊎◌, inl, inr, ℕ, List}
use Rattle.tac_syntax.specs.Valid.{WithFields}
use Rattle.plan_trees.specs.Plans.{PlanTree, over, both}
use Rattle.plan_trees.specs.Shapes.{HasShape, exchanged}
use Rattle.plan_trees.specs.declared.shapes.Shape.{Shape}
use Rattle.plan_trees.specs.declared.shapes.Shape.TheVariants.{OneOverOne, IntoLeft, OutOfLeft, IntoRight, OutOfRight, ToRight, ToLeft}
use Rattle.plan_trees.proofs.ExchangedTrees.{exchanged-nodes}
use Rattle.pact_operators.specs.declared.operators.Op.{Op}
use Rattle.pact_operators.specs.Programs.{HasAttribute, Owns}
use Rattle.pact_operators.proofs.PlanInPlace.{IsExchange}

-- the upper operator owns no attribute of the side that it is no longer above, and the lower one none of the side that
-- it is newly above
abbrev pub KeepsSides : List WithFields → List Op → Shape → PlanTree → Type 0
KeepsSides v ops IntoLeft (over f (both g t u)) = (k : ℕ) → Owns v ops f k → HasAttribute v ops u k → ⊥
KeepsSides v ops IntoRight (over f (both g t u)) = (k : ℕ) → Owns v ops f k → HasAttribute v ops t k → ⊥
KeepsSides v ops ToRight (both h (both g t u) w) = (k : ℕ) → Owns v ops h k → HasAttribute v ops t k → ⊥
KeepsSides v ops ToLeft (both g t (both h u w)) = (k : ℕ) → Owns v ops g k → HasAttribute v ops w k → ⊥
KeepsSides v ops s t = Unit {0}

-- ---- attributes in another order

second_first : {A B C : Type 0} → A ⊎ B ⊎ C → B ⊎ A ⊎ C
second_first (inl a) = inr (inl a)
second_first (inr (inl b)) = inl b
second_first (inr (inr c)) = inr (inr c)

left_in : {A B C D : Type 0} → A ⊎ B ⊎ C ⊎ D → B ⊎ (A ⊎ C) ⊎ D
left_in (inl a) = inr (inl (inl a))
left_in (inr (inl b)) = inl b
left_in (inr (inr (inl c))) = inr (inl (inr c))
left_in (inr (inr (inr d))) = inr (inr d)

left_out : {A B C D : Type 0} → B ⊎ (A ⊎ C) ⊎ D → A ⊎ B ⊎ C ⊎ D
left_out (inl b) = inr (inl b)
left_out (inr (inl (inl a))) = inl a
left_out (inr (inl (inr c))) = inr (inr (inl c))
left_out (inr (inr d)) = inr (inr (inr d))

right_in : {A B C D : Type 0} → A ⊎ B ⊎ C ⊎ D → B ⊎ C ⊎ (A ⊎ D)
right_in (inl a) = inr (inr (inl a))
right_in (inr (inl b)) = inl b
right_in (inr (inr (inl c))) = inr (inl c)
right_in (inr (inr (inr d))) = inr (inr (inr d))

right_out : {A B C D : Type 0} → B ⊎ C ⊎ (A ⊎ D) → A ⊎ B ⊎ C ⊎ D
right_out (inl b) = inr (inl b)
right_out (inr (inl c)) = inr (inr (inl c))
right_out (inr (inr (inl a))) = inl a
right_out (inr (inr (inr d))) = inr (inr (inr d))

turn_in : {H G T U W : Type 0} → H ⊎ (G ⊎ T ⊎ U) ⊎ W → G ⊎ T ⊎ (H ⊎ U ⊎ W)
turn_in (inl h) = inr (inr (inl h))
turn_in (inr (inl (inl g))) = inl g
turn_in (inr (inl (inr (inl t)))) = inr (inl t)
turn_in (inr (inl (inr (inr u)))) = inr (inr (inr (inl u)))
turn_in (inr (inr w)) = inr (inr (inr (inr w)))

turn_out : {H G T U W : Type 0} → G ⊎ T ⊎ (H ⊎ U ⊎ W) → H ⊎ (G ⊎ T ⊎ U) ⊎ W
turn_out (inl g) = inr (inl (inl g))
turn_out (inr (inl t)) = inr (inl (inr (inl t)))
turn_out (inr (inr (inl h))) = inl h
turn_out (inr (inr (inr (inl u)))) = inr (inl (inr (inr u)))
turn_out (inr (inr (inr (inr w)))) = inr (inr w)

-- ---- the seven shapes

module _ (v : List WithFields) (ops : List Op) where
  one_over_one : (f g : ℕ) (t : PlanTree) → IsExchange v ops (over f (over g t)) (over g (over f t))
  one_over_one f g t = record {
    stays = record { attributes = λ k. (second_first, second_first); apart = λ a. a };
    arity = λ a. (a.1.0, (a.0, a.1.1));
    nodes_same = exchanged-nodes OneOverOne (over f (over g t));
  }

  into_left : (f g : ℕ) (t u : PlanTree) → KeepsSides v ops IntoLeft (over f (both g t u)) → IsExchange v ops (over f (both g t u)) (both g (over f t) u)
  into_left f g t u side = record {
    stays = record {
      attributes = λ k. (left_in, left_out);
      apart = λ a. ((λ k p b. elim p as (λ _. ⊥) [ inl own ↦ side k own b | inr q ↦ a.0 k q b ]), a.1, a.2);
    };
    arity = λ a. (a.1.0, (a.0, a.1.1), a.1.2);
    nodes_same = exchanged-nodes IntoLeft (over f (both g t u));
  }

  out_of_left : (f g : ℕ) (t u : PlanTree) → IsExchange v ops (both g (over f t) u) (over f (both g t u))
  out_of_left f g t u = record {
    stays = record {
      attributes = λ k. (left_out, left_in);
      apart = λ a. ((λ k p b. a.0 k (inr p) b), a.1, a.2);
    };
    arity = λ a. (a.1.0, (a.0, a.1.1, a.2));
    nodes_same = exchanged-nodes OutOfLeft (both g (over f t) u);
  }

  into_right : (f g : ℕ) (t u : PlanTree) → KeepsSides v ops IntoRight (over f (both g t u)) → IsExchange v ops (over f (both g t u)) (both g t (over f u))
  into_right f g t u side = record {
    stays = record {
      attributes = λ k. (right_in, right_out);
      apart = λ a. ((λ k p b. elim b as (λ _. ⊥) [ inl own ↦ side k own p | inr q ↦ a.0 k p q ]), a.1, a.2);
    };
    arity = λ a. (a.1.0, a.1.1, (a.0, a.1.2));
    nodes_same = exchanged-nodes IntoRight (over f (both g t u));
  }

  out_of_right : (f g : ℕ) (t u : PlanTree) → IsExchange v ops (both g t (over f u)) (over f (both g t u))
  out_of_right f g t u = record {
    stays = record {
      attributes = λ k. (right_out, right_in);
      apart = λ a. ((λ k p b. a.0 k p (inr b)), a.1, a.2);
    };
    arity = λ a. (a.2.0, (a.0, a.1, a.2.1));
    nodes_same = exchanged-nodes OutOfRight (both g t (over f u));
  }

  to_right : (h g : ℕ) (t u w : PlanTree) → KeepsSides v ops ToRight (both h (both g t u) w) → IsExchange v ops (both h (both g t u) w) (both g t (both h u w))
  to_right h g t u w side = record {
    stays = record {
      attributes = λ k. (turn_in, turn_out);
      apart = λ a. (
        (λ k p b. elim b as (λ _. ⊥) [ inl own ↦ side k own p | inr q ↦ elim q as (λ _. ⊥) [ inl r ↦ a.1.0 k p r | inr r ↦ a.0 k (inr (inl p)) r ] ]),
        a.1.1,
        ((λ k p b. a.0 k (inr (inr p)) b), a.1.2, a.2),
      );
    };
    arity = λ a. (a.1.0, a.1.1, (a.0, a.1.2, a.2));
    nodes_same = exchanged-nodes ToRight (both h (both g t u) w);
  }

  to_left : (h g : ℕ) (t u w : PlanTree) → KeepsSides v ops ToLeft (both g t (both h u w)) → IsExchange v ops (both g t (both h u w)) (both h (both g t u) w)
  to_left h g t u w side = record {
    stays = record {
      attributes = λ k. (turn_out, turn_in);
      apart = λ a. (
        (λ k p c. elim p as (λ _. ⊥) [ inl own ↦ side k own c | inr q ↦ elim q as (λ _. ⊥) [ inl r ↦ a.0 k r (inr (inr c)) | inr r ↦ a.2.0 k r c ] ]),
        ((λ k p b. a.0 k p (inr (inl b))), a.1, a.2.1),
        a.2.2,
      );
    };
    arity = λ a. (a.2.0, (a.0, a.1, a.2.1), a.2.2);
    nodes_same = exchanged-nodes ToLeft (both g t (both h u w));
  }

  pub exchange_of : (s : Shape) (t : PlanTree) → HasShape s t → KeepsSides v ops s t → IsExchange v ops t (exchanged s t)
  exchange_of OneOverOne (over f (over g t)) h side = one_over_one f g t
  exchange_of IntoLeft (over f (both g t u)) h side = into_left f g t u side
  exchange_of OutOfLeft (both g (over f t) u) h side = out_of_left f g t u
  exchange_of IntoRight (over f (both g t u)) h side = into_right f g t u side
  exchange_of OutOfRight (both g t (over f u)) h side = out_of_right f g t u
  exchange_of ToRight (both h (both g t u) w) x side = to_right h g t u w side
  exchange_of ToLeft (both g t (both h u w)) x side = to_left h g t u w side
  exchange_of s t h side = absurd h
