-- Nodes that are added after others in an array.
use Rattle.std.proofs.Common.{◌≡◌, ◌<◌, ◌+◌, ◌-◌, ◌++◌, ℕ, suc, List, [], ◌∷◌, length, set, replicate, take, ap, sym, ◌∙◌, arith, append_assoc, length-append, length-set}
use Rattle.std.proofs.lemmas.List.{length-take-le, set_at, take_more_set}
use Rattle.plan_trees.specs.declared.preorders.Node.{Node}
use Rattle.plan_trees.specs.NodeRows.{blank, HoldsNodes}
use Rattle.plan_trees.specs.Plans.{node_limit}

-- one more node
pub holds_more : (held : List Node) (n : ℕ) (x : Node) → HoldsNodes held n → n < node_limit → HoldsNodes (set held n x) (n + 1)
holds_more held n x h room =
    let xs = take n held in
    let blanks = replicate (node_limit - (n + 1)) blank in
    let len : length xs ≡ n = length-take-le n held (omega (arith, h.long)) in
    let front : take (n + 1) (set held n x) ≡ xs ++ x ∷ [] = take_more_set held n x (omega (arith, h.long)) in
    let more : length (xs ++ x ∷ []) ≡ n + 1 = omega (arith, length-append xs (x ∷ [])) in
    let left : node_limit - n ≡ suc (node_limit - (n + 1)) = omega arith in
    let whole : xs ++ blank ∷ blanks ≡ held = rw (len, left) at h.rest in
    let next : set held n x ≡ (xs ++ x ∷ []) ++ blanks = ap (λ (ys : List Node). set ys n x) (sym whole) ∙ set_at xs blank blanks x n len ∙ sym (append_assoc xs (x ∷ []) blanks) in
    record { few = omega arith; long = length-set held n x ∙ h.long; rest = rw (front, more) (sym next) }
