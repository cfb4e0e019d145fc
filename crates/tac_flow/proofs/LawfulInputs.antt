-- Two lawful inputs that agree are two calls that can be followed side by side.
use Rattle.std.proofs.Common.{◌≡◌, ℕ, true, false, List, refl}
use Rattle.std.proofs.lemmas.Bool.{false_from_ne_true}
use Rattle.tac_syntax.specs.declared.functions.Kind.{Kind}
use Rattle.tac_syntax.specs.declared.functions.Kind.TheVariants.{Map, Match, Cross, Reduce, CoGroup}
use Rattle.tac_syntax.specs.declared.statements.LoopList.{LoopList}
use Rattle.tac_syntax.specs.declared.statements.LoopList.TheVariants.{Group, Left as LeftGroup, Right as RightGroup}
use Rattle.tac_syntax.specs.Call.{CallInput, of_record, of_pair, of_group, of_groups, rows_of}
use Rattle.tac_flow.specs.Known.{FieldSet}
use Rattle.tac_flow.specs.Steps.{Scope}
use Rattle.tac_flow.specs.Walks.{side_of_list}
use Rattle.tac_syntax.specs.Forms.{IsLawful, InputsAgree, anchors}
use Rattle.tac_syntax.specs.CallInputs.{IsOfPair}
use Rattle.tac_flow.specs.Views.{ports_in}
use Rattle.tac_flow.proofs.TwoCalls.{AreCalls}
use Rattle.tac_syntax.specs.WellFormed.{HasList}
use Rattle.tac_flow.proofs.SamePaths.{HaveLists}
use Rattle.tac_flow.proofs.StartingRecords.{scope}
use Rattle.tac_flow.proofs.CallsOfRecords.{PairKind, one_calls, two_calls}
use Rattle.tac_flow.proofs.CallsOfGroups.{group_calls, groups_calls}

module _ (fields : ℕ) (a b : FieldSet) (ks js : List ℕ) (disjoint : (k : ℕ) → a k ≡ true → b k ≡ false) where
  pairs_by : (R : FieldSet) (kind : Kind) → PairKind kind → (x y : CallInput) → IsOfPair x → IsOfPair y
      → IsLawful kind fields (ports_in (scope kind fields a b ks js)) x → IsLawful kind fields (ports_in (scope kind fields a b ks js)) y → InputsAgree R x y → AreCalls R (scope kind fields a b ks js) x y
  pairs_by R kind pair (of_record r) y i j h g e = absurd i
  pairs_by R kind pair (of_pair l r) (of_record q) i j h g e = absurd j
  pairs_by R kind pair (of_pair l r) (of_pair m n) i j h g e = two_calls fields a b ks js disjoint R kind pair l r m n h.left.0 h.right.0 g.left.0 g.right.0 e.left.0 e.right.0
  pairs_by R kind pair (of_pair l r) (of_group key m) i j h g e = absurd j
  pairs_by R kind pair (of_pair l r) (of_groups key m n) i j h g e = absurd j
  pairs_by R kind pair (of_group key l) y i j h g e = absurd i
  pairs_by R kind pair (of_groups key l m) y i j h g e = absurd i

  calls_by : (R : FieldSet) (kind : Kind) (x y : CallInput) → IsLawful kind fields (ports_in (scope kind fields a b ks js)) x → IsLawful kind fields (ports_in (scope kind fields a b ks js)) y → InputsAgree R x y
      → AreCalls R (scope kind fields a b ks js) x y
  calls_by R Map (of_record r) (of_record q) h g e = one_calls fields a b ks js disjoint R r q h.left.0 g.left.0 e.left.0
  calls_by R Map (of_pair l m) y h g e = absurd h.called
  calls_by R Map (of_group key l) y h g e = absurd h.called
  calls_by R Map (of_groups key l m) y h g e = absurd h.called
  calls_by R Match x y h g e = pairs_by R Match refl x y h.called g.called h g e
  calls_by R Cross x y h g e = pairs_by R Cross refl x y h.called g.called h g e
  calls_by R Reduce (of_record r) y h g e = absurd h.called
  calls_by R Reduce (of_pair l m) y h g e = absurd h.called
  calls_by R Reduce (of_group key l) (of_group other m) h g e = group_calls fields a b ks js R key other l m h.some h.left h.keyed g.left g.keyed e.left
  calls_by R Reduce (of_groups key l m) y h g e = absurd h.called
  calls_by R CoGroup (of_record r) y h g e = absurd h.called
  calls_by R CoGroup (of_pair l m) y h g e = absurd h.called
  calls_by R CoGroup (of_group key l) y h g e = absurd h.called
  calls_by R CoGroup (of_groups key l r) (of_groups other m n) h g e = groups_calls fields a b ks js R key other l r m n h.some h.left h.right h.keyed.0 h.keyed.1 g.left g.right g.keyed.0 g.keyed.1 e.left e.right
  calls_by R kind x y h g e = absurd g.called

  lists_by : (kind : Kind) (x : CallInput) → IsLawful kind fields (ports_in (scope kind fields a b ks js)) x → (list : LoopList) → HasList kind list → rows_of x list ≡ anchors (side_of_list list) x
  lists_by Map x h Group i = cc
  lists_by Map x h LeftGroup i = cc
  lists_by Map x h RightGroup i = cc
  lists_by Match x h Group i = cc
  lists_by Match x h LeftGroup i = cc
  lists_by Match x h RightGroup i = cc
  lists_by Cross x h Group i = cc
  lists_by Cross x h LeftGroup i = cc
  lists_by Cross x h RightGroup i = cc
  lists_by Reduce (of_record r) h list i = absurd h.called
  lists_by Reduce (of_pair l m) h list i = absurd h.called
  lists_by Reduce (of_group key l) h Group i = refl
  lists_by Reduce (of_group key l) h LeftGroup i = cc
  lists_by Reduce (of_group key l) h RightGroup i = cc
  lists_by Reduce (of_groups key l m) h list i = absurd h.called
  lists_by CoGroup (of_record r) h list i = absurd h.called
  lists_by CoGroup (of_pair l m) h list i = absurd h.called
  lists_by CoGroup (of_group key l) h list i = absurd h.called
  lists_by CoGroup (of_groups key l r) h Group i = cc
  lists_by CoGroup (of_groups key l r) h LeftGroup i = refl
  lists_by CoGroup (of_groups key l r) h RightGroup i = refl

module _ (R : FieldSet) (c : Scope) (x y : CallInput) (h : IsLawful c.kind c.fields (ports_in c) x) (g : IsLawful c.kind c.fields (ports_in c) y) (e : InputsAgree R x y) where
  disjoint : (k : ℕ) → c.left k ≡ true → c.right k ≡ false
  disjoint k m = false_from_ne_true (c.right k) (h.apart k m)

  pub calls_of : AreCalls R c x y
  calls_of = calls_by c.fields c.left c.right c.left_keys c.right_keys disjoint R c.kind x y h g e

  pub lists_of : HaveLists c x y
  lists_of = record {
    own = lists_by c.fields c.left c.right c.left_keys c.right_keys disjoint c.kind x h;
    other = lists_by c.fields c.left c.right c.left_keys c.right_keys disjoint c.kind y g;
  }
