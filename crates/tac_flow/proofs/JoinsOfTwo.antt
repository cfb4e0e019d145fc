-- What is known of two calls after one of two bodies.
use Rattle.std.proofs.Common.{◌≡◌, List, length}
use Rattle.tac_syntax.specs.Call.{CallInput, Store}
use Rattle.tac_flow.specs.Known.{FieldSet, Side, State, joined_known, joined_held, joined}
use Rattle.tac_flow.specs.Steps.{Scope}
use Rattle.tac_flow.proofs.ThreeLists.{Each-zipped_left, Each-zipped_right}
use Rattle.tac_flow.proofs.TwoCalls.{SameValue, SameRecord, AreTwins, AreCalls, with_registers}
use Rattle.tac_flow.proofs.RecordsOfTwo.{value_left, value_right, record_left, record_right}

-- equally many registers of either sort
pub record SameShape (a b : State) : Type 0 where
  pub values : length a.values ≡ length b.values
  pub records : length a.records ≡ length b.records

module _ (R : FieldSet) (c : Scope) (x y : CallInput) (calls : AreCalls R c x y) (sides : List Side) where
  pub twins_left : (a b : State) (s t : Store) → SameShape b a → AreTwins R c x y sides a s t → AreTwins R c x y sides (joined c.fields a b) s t
  twins_left a b s t e h = with_registers R c x y sides a (joined c.fields a b) s t s.values t.values s.records t.records h
      (Each-zipped_left (SameValue R x y (length sides) s.loops t.loops) joined_known (value_left R c x y calls (length sides) s.loops t.loops) a.values b.values s.values t.values e.values h.values)
      (Each-zipped_left (SameRecord R c.fields x y (length sides) s.loops t.loops) (joined_held c.fields) (record_left R c x y calls (length sides) s.loops t.loops) a.records b.records s.records t.records e.records h.records)

  pub twins_right : (a b : State) (s t : Store) → SameShape b a → AreTwins R c x y sides b s t → AreTwins R c x y sides (joined c.fields a b) s t
  twins_right a b s t e h = with_registers R c x y sides b (joined c.fields a b) s t s.values t.values s.records t.records h
      (Each-zipped_right (SameValue R x y (length sides) s.loops t.loops) joined_known (value_right R c x y calls (length sides) s.loops t.loops) a.values b.values s.values t.values e.values h.values)
      (Each-zipped_right (SameRecord R c.fields x y (length sides) s.loops t.loops) (joined_held c.fields) (record_right R c x y calls (length sides) s.loops t.loops) a.records b.records s.records t.records e.records h.records)
