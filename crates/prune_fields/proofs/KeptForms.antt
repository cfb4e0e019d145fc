-- Calls that agree on the needed fields of their inputs agree on the needed fields of their outputs.
use Rattle.std.proofs.Common.{◌≡◌, ◌∙◌, ◌&&◌, not, inl, inr, ℕ, true, false, List, [], ◌∷◌, length, get_or, sym}
use Rattle.std.specs.List.{AllZip}
use Rattle.std.proofs.lemmas.Bool.{and_from, cases_Bool, not_from_false, or_left, or_right}
use Rattle.std.proofs.lemmas.List.Elements.{AllZip-get_or}
use Rattle.pact_record.specs.declared.values.Value.{Value}
use Rattle.pact_record.specs.Record.{Agree, at_field, joined_record, joined_value}
use Rattle.pact_record.proofs.JoinedRecords.{at_field-joined_record}
use Rattle.pact_record.proofs.SideBySide.{AllZip-weaker}
use Rattle.tac_syntax.specs.declared.functions.Kind.{Kind}
use Rattle.tac_syntax.specs.declared.functions.Kind.TheVariants.{Map, Match, Cross, Reduce, CoGroup}
use Rattle.tac_syntax.specs.CallInputs.{IsOfGroup, IsOfGroups, IsOfPair, IsOfRecord}
use Rattle.tac_syntax.specs.Call.{CallInput, of_record, of_pair, of_group, of_groups}
use Rattle.tac_syntax.specs.declared.contexts.Side.{Side}
use Rattle.tac_syntax.specs.declared.contexts.Side.TheVariants.{Left as left, Right as right}
use Rattle.tac_syntax.specs.Contexts.{FieldSet, Ports}
use Rattle.tac_syntax.specs.Forms.{AreAnchored, AreAnchoredAt, HasForm, HasFormAlone, InputsAgree, IsLawful, anchors}
use Rattle.prune_fields.specs.Needs.{wanted}

abbrev pub Bag : Type 0
Bag = List (List Value)

-- ---- needed fields

pub reads_wanted : (reads writes above : FieldSet) (k : ℕ) → reads k ≡ true → wanted reads writes above k ≡ true
reads_wanted reads writes above k m = or_left (reads k) (above k && not (writes k)) m

handed_wanted : (reads writes above : FieldSet) (k : ℕ) → above k ≡ true → writes k ≡ false → wanted reads writes above k ≡ true
handed_wanted reads writes above k m w =
    or_right (reads k) (above k && not (writes k)) (and_from (above k) (not (writes k)) m (not_from_false (writes k) w))

less_agree : (s t : FieldSet) → ((k : ℕ) → s k ≡ true → t k ≡ true) → (x y : CallInput) → InputsAgree t x y → InputsAgree s x y
less_agree s t f x y h = record {
  left = AllZip-weaker (Agree t) (Agree s) _ _ (λ a b e k m. e k (f k m)) h.left;
  right = AllZip-weaker (Agree t) (Agree s) _ _ (λ a b e k m. e k (f k m)) h.right;
}

-- ---- anchors

joined_agree : (s : FieldSet) (l r m t : List Value) → length l ≡ length r → length m ≡ length t → Agree s l m → Agree s r t
    → Agree s (joined_record l r) (joined_record m t)
joined_agree s l r m t e f h g k is =
    at_field-joined_record l r k e ∙ (λ i. joined_value (h k is i) (g k is i)) ∙ sym (at_field-joined_record m t k f)

module _ (fields : ℕ) (c : Ports) (s : FieldSet) (side : Side) where
  beside_record : (kind : Kind) (a : List Value) (y : CallInput) → IsOfRecord y → IsLawful kind fields c y → InputsAgree s (of_record a) y
      → AllZip (Agree s) (a ∷ []) (anchors side y)
  beside_record kind a (of_record b) fit g h = h.left
  beside_record kind a y fit g h = absurd fit

  beside_pair : (kind : Kind) (l r : List Value) (y : CallInput) → IsOfPair y → length l ≡ length r → IsLawful kind fields c y
      → InputsAgree s (of_pair l r) y → AllZip (Agree s) (joined_record l r ∷ []) (anchors side y)
  beside_pair kind l r (of_pair m t) fit e g h = (joined_agree s l r m t e (g.left.0.width ∙ sym g.right.0.width) h.left.0 h.right.0, tt)
  beside_pair kind l r y fit e g h = absurd fit

  beside_group : (kind : Kind) (k : List Value) (a : Bag) (y : CallInput) → IsOfGroup y → IsLawful kind fields c y → InputsAgree s (of_group k a) y
      → AllZip (Agree s) a (anchors side y)
  beside_group kind k a (of_group j b) fit g h = h.left
  beside_group kind k a y fit g h = absurd fit

  beside_groups : (kind : Kind) (of : Side) (k : List Value) (l r : Bag) (y : CallInput) → IsOfGroups y → IsLawful kind fields c y
      → InputsAgree s (of_groups k l r) y → AllZip (Agree s) (anchors of (of_groups k l r)) (anchors of y)
  beside_groups kind left k l r (of_groups j m t) fit g h = h.left
  beside_groups kind right k l r (of_groups j m t) fit g h = h.right
  beside_groups kind of k l r y fit g h = absurd fit

  anchors_agree : (kind : Kind) (x y : CallInput) → IsLawful kind fields c x → IsLawful kind fields c y → InputsAgree s x y
      → AllZip (Agree s) (anchors side x) (anchors side y)
  anchors_agree Map (of_record a) y f g h = beside_record Map a y g.called g h
  anchors_agree Map x y f g h = absurd f.called
  anchors_agree Match (of_pair l r) y f g h = beside_pair Match l r y g.called (f.left.0.width ∙ sym f.right.0.width) g h
  anchors_agree Match x y f g h = absurd f.called
  anchors_agree Cross (of_pair l r) y f g h = beside_pair Cross l r y g.called (f.left.0.width ∙ sym f.right.0.width) g h
  anchors_agree Cross x y f g h = absurd f.called
  anchors_agree Reduce (of_group k a) y f g h = beside_group Reduce k a y g.called g h
  anchors_agree Reduce x y f g h = absurd f.called
  anchors_agree CoGroup (of_groups k l r) y f g h = beside_groups CoGroup side k l r y g.called g h
  anchors_agree CoGroup x y f g h = absurd f.called

-- ---- outputs

-- outputs agree if they agree on the written fields, and their inputs agree on the fields that are copied
output_agrees : (reads writes above : FieldSet) (a b out other : List Value) → AreAnchored writes a b out other
    → Agree (wanted reads writes above) a b → Agree above out other
output_agrees reads writes above a b out other h g k m = elim (cases_Bool (writes k)) as (λ _. at_field out k ≡ at_field other k) [
  | inl w ↦ h.written k w
  | inr w ↦ h.kept k w ∙ g k (handed_wanted reads writes above k m w) ∙ sym (h.other_kept k w)
]

outputs_agree : (reads writes above : FieldSet) (xs ys : Bag) → AllZip (Agree (wanted reads writes above)) xs ys
    → (places : List ℕ) (outs others : Bag) → AreAnchoredAt writes xs ys places outs others
    → AllZip (Agree above) outs others
outputs_agree reads writes above xs ys z [] [] [] h = tt
outputs_agree reads writes above xs ys z (p ∷ places) (r ∷ outs) (q ∷ others) h = (
  output_agrees reads writes above (get_or xs p []) (get_or ys p []) r q h.1 (AllZip-get_or (Agree (wanted reads writes above)) xs ys p [] [] z h.0),
  outputs_agree reads writes above xs ys z places outs others h.2,
)
outputs_agree reads writes above xs ys z places outs others h = absurd h

-- ---- calls

-- calls that are anchored on a side
pub kept_form : (kind : Kind) (fields : ℕ) (c : Ports) (reads writes above : FieldSet) (side : Side) (call : CallInput → Bag)
    → HasForm kind fields c reads writes side call
    → HasFormAlone kind fields c (wanted reads writes above) above call
kept_form kind fields c reads writes above side call form x y f g h =
    let w = wanted reads writes above in
    let o = form x y f g (less_agree reads w (reads_wanted reads writes above) x y h) in
    outputs_agree reads writes above (anchors side x) (anchors side y) (anchors_agree fields c w side kind x y f g h) o.0 (call x) (call y) o.1

-- calls that aren't anchored on any side, and write all fields
pub kept_alone : (kind : Kind) (fields : ℕ) (c : Ports) (reads writes above : FieldSet) (call : CallInput → Bag)
    → ((k : ℕ) → above k ≡ true → writes k ≡ true) → HasFormAlone kind fields c reads writes call
    → HasFormAlone kind fields c (wanted reads writes above) above call
kept_alone kind fields c reads writes above call all form x y f g h =
    let w = wanted reads writes above in
    AllZip-weaker (Agree writes) (Agree above) (call x) (call y) (λ a b e k m. e k (all k m))
    (form x y f g (less_agree reads w (reads_wanted reads writes above) x y h))
