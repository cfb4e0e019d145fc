-- `most` bounds the events of a world that agrees with a history (`Stands`).
use Rattle.std.proofs.Common.{◌≤◌, ℕ, refl, sym, subst}
use Rattle.std.proofs.lemmas.Bool.{eq-eqb}
use Rattle.plan_trees.specs.Distinct.{AreDifferent}
use Rattle.plan_trees.specs.Plans.{nodes, root_of, subtree_of}
use Rattle.flow_instance.specs.Most.{AreCallsBounded, events, most}
use Rattle.flow_instance.specs.Spots.{Setting}
use Rattle.flow_instance.specs.Worlds.{History, LocalAt, Stands, World}
use Rattle.flow_instance.proofs.AllPutIsTaken.{no_edge}
use Rattle.flow_instance.proofs.Most.{all_few}
use Rattle.flow_instance.proofs.Stuck.{StandsAt}
use Rattle.plan_trees.proofs.EverySubtree.{all_below}
use Rattle.plan_trees.proofs.SubtreesOfPlans.{root_of-subtree}

pub bound : (g : Setting) (turns : ℕ → ℕ → ℕ) (w : World) (h : History) → AreDifferent (nodes g.physical.tree) → AreCallsBounded g.ops turns → Stands g w h → events g w h ≤ most g turns
bound g turns w h d bounded st =
    let tree = g.physical.tree in
    let at = all_below (StandsAt g w h) tree d (λ m there k below. subst (λ (n : ℕ). LocalAt g w h (subtree_of m tree) n k) (sym (root_of-subtree m tree there)) (st.instances m k there below)) in
    all_few g turns w h bounded st.pipe tree at (λ k to. no_edge g (root_of tree) k to (eq-eqb (root_of tree) (root_of tree) refl))
