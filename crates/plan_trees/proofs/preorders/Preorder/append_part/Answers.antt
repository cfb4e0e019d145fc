use Rattle.std.proofs.Common.{◌≡◌, ◌+◌, ◌++◌, [], ◌∷◌, List, ap, sym, ◌∙◌, append_assoc}
use Rattle.std.proofs.lemmas.List.Edits.{between_more}
use Rattle.std.proofs.lemmas.Option.{slice_get_within, get_or_from_slice_get}
use Rattle.std.specs.Prelude.{slice_range}
use Rattle.plan_trees.specs.declared.preorders.Node.{Node}
use Rattle.plan_trees.specs.NodeRows.{blank}
use Rattle.plan_trees.proofs.preorders.Preorder.append_part.Goals as goal

pub loop-n-preserved : goal.loop-n-preserved
loop-n-preserved c =
    let xs = c.args.other.now in
    let n = c.loop-n.n in
    let x = c.at.result in
    let more : slice_range xs c.args.start (n + 1) ≡ slice_range xs c.args.start n ++ x ∷ [] =
    between_more xs c.args.start n blank c.loop-n.auto.n (slice_get_within xs n x c.at.ensures)
    ∙ ap (λ (y : Node). slice_range xs c.args.start n ++ y ∷ []) (get_or_from_slice_get xs n x blank c.at.ensures) in
    c.push.ensures ∙ ap (λ (ys : List Node). ys ++ x ∷ []) c.loop-n.invariant
    ∙ append_assoc c.args.self.now (slice_range xs c.args.start n) (x ∷ []) ∙ ap (λ (ys : List Node). c.args.self.now ++ ys) (sym more)
