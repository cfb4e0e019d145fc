-- What a row of queued instances leaves.
use Rattle.std.proofs.Common.{◌≡◌, ◌+◌, ◌++◌, ◌∷◌, [], ℕ, suc, List, append-nil, append_assoc, length, length-append, refl, ap, subst, sym, ◌∙◌, arith}
use Rattle.std.proofs.lemmas.List.Elements.{All-from_recursion, recursion_from_All}
use Rattle.std.proofs.Math.Seq.{get_or-append_seam}
use Rattle.pact_bag.specs.Rows.{HaveOneWidth}
use Rattle.pact_operators.specs.Allowed.{Bag}
use Rattle.pact_record.specs.declared.values.Value.{Value}
use Rattle.pact_record.proofs.Lists.{AllByRecursion-left}
use Rattle.plan_trees.specs.Sending.{all_of}
use Rattle.flow_instance.specs.Spread.{sum_below}
use Rattle.flow_core.specs.QueuedInstances.{placed_by}
use Rattle.flow_core.specs.Worlds.{QueuedInstanceData, no_queued_instance}

-- ---- counts

sum_at : (n m : ℕ) (f : ℕ → ℕ) → m ≡ suc n → sum_below m f ≡ sum_below n f + f n
sum_at n m f e = ap (λ (k : ℕ). sum_below k f) e

pub sum_more : (n : ℕ) (f : ℕ → ℕ) → sum_below (n + 1) f ≡ sum_below n f + f n
sum_more n f = sum_at n (n + 1) f (omega arith)

-- ---- records

-- the queued instances that are left are the first ones, and the records are those of the others
pub record IsMoved (whole rest : List QueuedInstanceData) (rows : Bag) : Type 0 where
  pub more : List QueuedInstanceData
  pub front : whole ≡ rest ++ more
  pub all : all_of (length whole) (placed_by whole) ≡ rows ++ all_of (length rest) (placed_by whole)

pub none_moved : (whole : List QueuedInstanceData) → IsMoved whole whole []
none_moved whole = record { more = []; front = sym (append-nil whole); all = refl }

pub front_width : (xs ys : Bag) → HaveOneWidth (xs ++ ys) → HaveOneWidth xs
front_width xs ys h =
    let P = λ (row : List Value). length row ≡ h.width in
    record { width = h.width; all = All-from_recursion P xs (AllByRecursion-left P xs ys (recursion_from_All P (xs ++ ys) h.all)) }

at_seam : (whole rest more : List QueuedInstanceData) (s : QueuedInstanceData) → whole ≡ rest ++ s ∷ more → placed_by whole (length rest) ≡ s.instance.placed
at_seam whole rest more s e = ap (λ (l : List QueuedInstanceData). placed_by l (length rest)) e ∙ ap (λ (x : QueuedInstanceData). x.instance.placed) (get_or-append_seam rest s more no_queued_instance)

pub moved-next : (whole old rest : List QueuedInstanceData) (s : QueuedInstanceData) (rows placed new : Bag) → IsMoved whole old rows → old ≡ rest ++ s ∷ [] → placed ≡ s.instance.placed → new ≡ rows ++ placed → IsMoved whole rest new
moved-next whole old rest s rows placed new m e p r =
    let front : whole ≡ rest ++ s ∷ m.more = m.front ∙ ap (λ (l : List QueuedInstanceData). l ++ m.more) e ∙ append_assoc rest (s ∷ []) m.more in
    let long : length old ≡ suc (length rest) = ap length e ∙ length-append rest (s ∷ []) ∙ (omega arith) in
    let f = placed_by whole in
    record {
      more = s ∷ m.more;
      front = front;
      all = m.all ∙ ap (λ (n : ℕ). rows ++ all_of n f) long ∙ ap (λ (l : Bag). rows ++ (l ++ all_of (length rest) f)) (at_seam whole rest m.more s front ∙ sym p)
          ∙ sym (append_assoc rows placed (all_of (length rest) f)) ∙ ap (λ (l : Bag). l ++ all_of (length rest) f) (sym r);
    }

pub moved_width : (whole old rest : List QueuedInstanceData) (s : QueuedInstanceData) (rows placed : Bag) → HaveOneWidth (all_of (length whole) (placed_by whole)) → IsMoved whole old rows → old ≡ rest ++ s ∷ [] → placed ≡ s.instance.placed
    → HaveOneWidth (rows ++ placed)
moved_width whole old rest s rows placed h m e p =
    let next = moved-next whole old rest s rows placed (rows ++ placed) m e p refl in
    front_width (rows ++ placed) (all_of (length rest) (placed_by whole)) (subst HaveOneWidth next.all h)
