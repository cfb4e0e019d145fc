-- Functions whose outputs are the same, up to order, if the records inside the groups change places.
use Rattle.std.specs.Prelude.{◌≡◌, ℕ}
use Rattle.std.specs.List.Sorted.{IsPermutation}
use Rattle.tac_syntax.specs.declared.functions.Kind.{Kind}
use Rattle.tac_syntax.specs.declared.functions.Kind.TheVariants.{Map, Match, Cross, Reduce, CoGroup}
use Rattle.tac_syntax.specs.Code.{Code}
use Rattle.tac_syntax.specs.Call.{CallInput, of_record, of_pair, of_group, of_groups, Out}

-- two inputs for a function of the kind that differ only in the order inside their groups
abbrev pub AreReordered : Kind → CallInput → CallInput → Type 0
AreReordered Map (of_record r) (of_record q) = r ≡ q
AreReordered Match (of_pair l r) (of_pair m q) = (l ≡ m) × (r ≡ q)
AreReordered Cross (of_pair l r) (of_pair m q) = (l ≡ m) × (r ≡ q)
AreReordered Reduce (of_group key group) (of_group other_key other) = (key ≡ other_key) × IsPermutation group other
AreReordered CoGroup (of_groups key left right) (of_groups other_key other_left other_right) =
    (key ≡ other_key) × IsPermutation left other_left × IsPermutation right other_right
AreReordered kind x y = ⊥

abbrev pub Permutes : Kind → ℕ → Code → Type 0
Permutes kind fields body = (x y : CallInput) → AreReordered kind x y → IsPermutation (Out fields body x) (Out fields body y)
