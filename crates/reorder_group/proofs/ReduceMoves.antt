-- A Reduce over what a function of pairs emits for the records of one side, and over these records: each is moved past
-- the other.
use Rattle.std.proofs.Common.{◌≡◌, ◌<◌, ◌⊎◌, ℕ, List, [], ◌∷◌, length, sym, subst, arith}
use Rattle.std.specs.List.{AllByRecursion}
use Rattle.pact_record.specs.Keys.{is_listed}
use Rattle.pact_record.specs.Record.{key_of}
use Rattle.pact_bag.proofs.KeyLists.{Key}
use Rattle.tac_syntax.specs.Call.{of_group}
use Rattle.tac_syntax.specs.Contexts.{Ports}
use Rattle.tac_syntax.specs.declared.contexts.Side.TheVariants.{Left as on_left}
use Rattle.tac_syntax.specs.Forms.{HasForm, IsWithin}
use Rattle.tac_syntax.specs.Valid.{WithFields}
use Rattle.tac_syntax.specs.declared.declarations.OpKind.{OpKind}
use Rattle.tac_syntax.specs.declared.declarations.OpKind.TheVariants.{Reduce}
use Rattle.pact_operators.specs.declared.operators.Op.{Op}
use Rattle.pact_operators.specs.Allowed.{Bag}
use Rattle.pact_operators.specs.PlanOps.{PlanOps}
use Rattle.pact_operators.specs.Programs.{Owns}
use Rattle.pact_operators.specs.SoundOps.{AreOpsOf, IsCallOf, called, function_kind}
use Rattle.pact_operators.proofs.ChosenForKeys.{of_one_side}
use Rattle.pact_operators.proofs.LawfulBags.{IsCallOf-group, all_wide, call_fits_one}
use Rattle.pact_operators.proofs.WithinFields.{IsCovered, all_within_larger, within_larger}
use Rattle.reorder_pair.proofs.FunctionForms.{Row}
use Rattle.reorder_pair.proofs.PermittedExchanges.{AreSetsOf, UsedFields}
use Rattle.reorder_group.proofs.SideGroups.{IsCall, IsMove, Move}
use Rattle.reorder_group.proofs.Partners.{ArePartners, beside, beside-no_conflict, partners_form, partners_keep, with_rows}

-- Reduce f over the records in `below`. c is the context that it may be called in, before and after. The function of
-- pairs is called for records in `each`, and the rows of the other side are in `side`.
pub record IsReduceMove (fields : ℕ) (v : List WithFields) (ops : List Op) (o : PlanOps) (f : ℕ) (c : Ports) (below each side right : ℕ → Type 0) (grouping pairing : UsedFields) (call : Row → Row → Bag) (rows : Bag) : Type 0 where
  pub kind : o.kind f ≡ Reduce
  pub no_right : (k : ℕ) → c.right k → ⊥
  pub keyed : c.left_keys ≡ o.left_keys f
  pub sets : AreSetsOf fields v ops o f c on_left grouping
  pub partners : ArePartners fields each side right (is_listed (o.left_keys f)) grouping pairing call rows
  pub below_each : IsCovered below each
  pub below_group : IsCovered below c.left
  pub out_each : (r : Row) → IsWithin fields below r → AllByRecursion (IsWithin fields c.left) (with_rows call rows r)
  pub out_group : IsCovered (λ k. Owns v ops f k ⊎ below k) each

module _ (fields : ℕ) (v : List WithFields) (ops : List Op) (o : PlanOps) (good : AreOpsOf fields v ops o) (f : ℕ) (c : Ports) (below each side right : ℕ → Type 0) (grouping pairing : UsedFields)
    (call : Row → Row → Bag) (rows : Bag) (x : IsReduceMove fields v ops o f c below each side right grouping pairing call rows) where
  -- there is no other side
  abbrev pub move : Move
  move = record {
    keys = o.left_keys f;
    other_keys = [];
    below = below;
    for_each = each;
    for_group = c.left;
    other = λ r. ⊥;
    upper = beside grouping;
    lower = grouping;
    each = with_rows call rows;
    group = of_one_side (o.of_group f);
  }

  some_here : (set : ℕ → Type 0) (k : Key) (xs zs : Bag) → IsCall fields move set k xs zs → 0 < length xs
  some_here set k xs [] h = omega (arith, h.some)
  some_here set k xs (z ∷ zs) h = absurd h.fit_others.0

  group_called : (set : ℕ → Type 0) (k : Key) (xs zs : Bag) → IsCall fields move set k xs zs → IsCallOf (o.kind f) (o.left_keys f) (o.right_keys f) (of_group k xs)
  group_called set k xs zs h = IsCallOf-group (o.kind f) (o.left_keys f) (o.right_keys f) k xs x.kind (some_here set k xs zs h) h.keyed

  have_keys : (k : Key) (xs zs : Bag) → IsCall fields move c.left k xs zs → AllByRecursion (λ r. key_of c.left_keys r ≡ k) xs
  have_keys k xs zs h = subst (λ (ks : List ℕ). AllByRecursion (λ r. key_of ks r ≡ k) xs) (sym x.keyed) h.keyed

  pub reduce_move : IsMove fields move
  reduce_move =
      let partners = x.partners in
      let agreed = is_listed (o.left_keys f) in
      record {
        form_each = partners_form fields each side right agreed grouping pairing call rows partners;
        form_group = λ k xs ys zs h d agree.
            let form = subst (λ (q : OpKind). HasForm (function_kind q) fields c grouping.reads grouping.writes on_left (called o f)) x.kind x.sets.form in
            form (of_group k xs) (of_group k ys)
            (record { apart = λ i l r. x.no_right i r; called = tt; some = some_here c.left k xs zs h; keyed = have_keys k xs zs h; left = h.fit; right = tt })
            (record { apart = λ i l r. x.no_right i r; called = tt; some = some_here c.left k ys zs d; keyed = have_keys k ys zs d; left = d.fit; right = tt })
            (record { left = agree; right = tt });
        below_each = λ r h. within_larger fields below each r x.below_each h;
        below_group = λ r h. within_larger fields below c.left r x.below_group h;
        out_each = x.out_each;
        out_group = λ k xs zs h.
            all_within_larger fields (λ i. Owns v ops f i ⊎ below i) each (o.of_group f k xs) x.out_group
            (call_fits_one fields v ops o good f below (of_group k xs) (group_called below k xs zs h) h.fit tt);
        wide_group = λ k xs zs h.
            all_wide fields (λ i. Owns v ops f i ⊎ c.left i) (o.of_group f k xs) (call_fits_one fields v ops o good f c.left (of_group k xs) (group_called c.left k xs zs h) h.fit tt);
        no_conflict = beside-no_conflict grouping;
        keys_read = x.sets.left_keys;
        keeps = partners_keep fields each side right agreed grouping pairing call rows partners;
      }
