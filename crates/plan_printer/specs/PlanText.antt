-- A chosen plan, as text: how it was found, its tree, and the exchanges that lead to it.
use Rattle.std.specs.Prelude.{◌++◌, ◌+◌, ℕ, Bool, true, false, List, [], ◌∷◌, Option, Some, None, codes, decimal, slice_get}
use Rattle.tac_syntax.specs.declared.declarations.OpKind.{OpKind}
use Rattle.tac_syntax.specs.declared.declarations.OpKind.TheVariants.{Reduce, Match, CoGroup}
use Rattle.tac_syntax.specs.Declarations.{kind_word}
use Rattle.plan_trees.specs.Plans.{PlanTree, leaf, over, both}
use Rattle.plan_trees.specs.Physicals.{PhysicalData, ship_at}
use Rattle.plan_trees.specs.declared.physicals.Ship.{Ship}
use Rattle.plan_trees.specs.declared.physicals.Ship.TheVariants.{Forward, Partition, Broadcast}
use Rattle.pact_operators.specs.declared.operators.Op.{Op}
use Rattle.pact_operators.specs.Programs.{ProgramData}
use Rattle.reorder_pair.specs.declared.legality.Condition.{Condition}
use Rattle.reorder_pair.specs.Rules.{word_of}
use Rattle.cost_model.specs.Estimates.{estimate}
use Rattle.plan_printer.specs.FoundText.{found_text}
use Rattle.plan_printer.specs.declared.plans.Shown.{Shown}

-- numbers, each after a space
abbrev pub behind_spaces : List ℕ → List ℕ
behind_spaces [] = []
behind_spaces (n ∷ numbers) = codes " " ++ (decimal n ++ behind_spaces numbers)

-- ---- an operator or a source

-- the keys of an operator whose kind has keys
abbrev pub keys_text : OpKind → (left right : List ℕ) → List ℕ
keys_text Reduce left right = codes " by" ++ behind_spaces left
keys_text Match left right = codes " by" ++ (behind_spaces left ++ (codes " =" ++ behind_spaces right))
keys_text CoGroup left right = codes " by" ++ (behind_spaces left ++ (codes " =" ++ behind_spaces right))
keys_text kind left right = []

-- how its records go to its consumer; those of the root go to the sink
abbrev pub ship_text : Option Ship → List ℕ
ship_text None = codes "sink"
ship_text (Some Forward) = codes "forward"
ship_text (Some (Partition keys)) = codes "partition" ++ behind_spaces keys
ship_text (Some Broadcast) = codes "broadcast"

-- its name, kind and keys
abbrev pub head_text : Option Op → List ℕ
head_text None = []
head_text (Some op) = op.name ++ (codes " " ++ (kind_word op.kind ++ keys_text op.kind op.left_keys op.right_keys))

-- its line, with an estimate of the number of records that it emits
abbrev pub node_line : Option Op → Option Ship → ℕ → List ℕ
node_line op ship records = head_text op ++ (codes " ship " ++ (ship_text ship ++ (codes " estimate " ++ (decimal records ++ codes "\n"))))

-- ---- the tree

-- the line of a tree's root, after its margin
abbrev pub root_line : ProgramData → List ℕ → PhysicalData → List ℕ → ℕ → PlanTree → List ℕ
root_line p counts physical margin at t = margin ++ node_line (slice_get p.ops at) (ship_at physical at) (estimate p counts t)

-- Each operator is printed before its inputs, which are indented by two more spaces.
abbrev pub tree_text : ProgramData → List ℕ → PhysicalData → List ℕ → PlanTree → List ℕ
tree_text p counts physical margin (leaf n) = root_line p counts physical margin n (leaf n)
tree_text p counts physical margin (over n t) = root_line p counts physical margin n (over n t) ++ tree_text p counts physical (margin ++ codes "  ") t
tree_text p counts physical margin (both n t u) =
    root_line p counts physical margin n (both n t u)
    ++ (tree_text p counts physical (margin ++ codes "  ") t ++ tree_text p counts physical (margin ++ codes "  ") u)

-- ---- the exchanges

abbrev pub operator_name : Option Op → List ℕ
operator_name None = []
operator_name (Some op) = op.name

-- the exchange with a number: its rule, its upper operator, and the findings for both operators
abbrev pub step_text : ProgramData → ℕ → Condition → List ℕ
step_text p number c =
    codes "swap " ++ (decimal number ++ (codes " " ++ (word_of c.rule ++ (codes " at " ++ (operator_name (slice_get p.ops c.at)
    ++ (codes "\n  upper " ++ (found_text c.upper ++ (codes "\n  lower " ++ (found_text c.lower ++ codes "\n")))))))))

-- exchanges, numbered from this number on
abbrev pub steps_text : ProgramData → ℕ → List Condition → List ℕ
steps_text p number [] = []
steps_text p number (c ∷ cs) = step_text p number c ++ steps_text p (number + 1) cs

-- ---- the whole text

abbrev pub listing_word : Bool → List ℕ
listing_word true = codes "complete"
listing_word false = codes "limit"

abbrev pub choice_text : Shown → List ℕ
choice_text s =
    codes "plans " ++ (decimal s.plans ++ (codes " " ++ (listing_word s.complete ++ (codes "\nchosen " ++ (decimal s.entry
    ++ (codes " layout " ++ (decimal s.layout ++ (codes " cost " ++ (decimal s.cost ++ codes "\n")))))))))

abbrev pub plan_text : ProgramData → Shown → List ℕ
plan_text p s = choice_text s ++ (tree_text p s.counts s.physical [] s.physical.tree ++ steps_text p 1 s.steps)
