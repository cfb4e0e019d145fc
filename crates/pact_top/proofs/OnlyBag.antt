-- If a program's grouping functions pass the order test, each plan allows only one bag, and only one text is written
-- for it.
use Rattle.std.proofs.Common.{◌≡◌, inl, inr, ℕ, List, Option, Some, None, map, slice_get, refl, sym, ap, subst, ◌∙◌}
use Rattle.std.specs.List.Sorted.{IsPermutation}
use Rattle.std.specs.Ordering.{is_eq}
use Rattle.pact_record.specs.Order.{records_total}
use Rattle.pact_record.proofs.Lists.{AllByRecursion-slice_get}
use Rattle.pact_record.proofs.Permutations.{chains, from_permutation, map_perm, to_permutation, turned}
use Rattle.pact_record.proofs.SortedLists.{one_sorted}
use Rattle.pact_bag.specs.Rows.{cut}
use Rattle.pact_bag.proofs.KeyGroups.{same_keys}
use Rattle.csv_sink.specs.CsvText.{csv_text}
use Rattle.tac_syntax.specs.declared.functions.Kind.{Kind}
use Rattle.tac_syntax.specs.Call.{CallInput, Out, of_group, of_groups}
use Rattle.tac_syntax.specs.Code.{Code}
use Rattle.tac_syntax.specs.Valid.{IsValid}
use Rattle.order_free.specs.Permutes.{AreReordered}
use Rattle.order_free.proofs.PermutedOutputs.{valid-permutes}
use Rattle.tac_syntax.specs.declared.declarations.OpKind.{OpKind}
use Rattle.tac_syntax.specs.declared.declarations.OpKind.TheVariants.{Reduce, CoGroup}
use Rattle.plan_trees.specs.Plans.{PlanTree, leaf, over, both}
use Rattle.pact_operators.specs.declared.operators.Op.{Op}
use Rattle.pact_operators.specs.Allowed.{Allows, Bag}
use Rattle.pact_operators.specs.PlanOps.{body_at, kind_at, kind_in, plan_ops}
use Rattle.pact_operators.specs.Programs.{IsOpOf, IsProgram, ProgramData}
use Rattle.pact_operators.specs.SoundOps.{function_kind}
use Rattle.pact_operators.proofs.CalledFunctions.{called_at}
use Rattle.pact_operators.proofs.SoundPrograms.{function_kind-for}
use Rattle.reorder_group.proofs.OneBag.{AllPermute, PermutesAt, one_bag}
use Rattle.bag_lines.specs.Lines.{AreLines}
use Rattle.pact_top.specs.OrderFreePrograms.{AreGroupsFree, IsGrouping}

-- ---- one bag

module _ (p : ProgramData) (program : IsProgram p) (free : AreGroupsFree p) where
  -- what the operator of a number gives for groups in another order
  call_permutes : (n : ℕ) (found : Option Op) → slice_get p.ops n ≡ found → IsGrouping (kind_in found) → (x y : CallInput) → AreReordered (function_kind (kind_in found)) x y
      → IsPermutation (Out p.fields (body_at p n) x) (Out p.fields (body_at p n) y)
  call_permutes n None e grouping x y reordered = absurd grouping
  call_permutes n (Some op) e grouping x y reordered =
      elim (AllByRecursion-slice_get (IsOpOf p.fields p.functions) p.ops n op program.ops e) as (λ _. IsPermutation (Out p.fields (body_at p n) x) (Out p.fields (body_at p n) y)) [
        | inl source ↦ absurd (subst IsGrouping source grouping)
        | inr h ↦
            let v = h.called in
            let f = v.function in
            let c = called_at p program n op (λ source. subst IsGrouping (sym (ap kind_in e) ∙ source) grouping) v e h.function in
            let lawful = subst (λ (k : Kind). AreReordered k x y) (function_kind-for op.kind f.kind c.kind) reordered in
            subst (λ (body : Code). IsPermutation (Out p.fields body x) (Out p.fields body y)) c.body
            (valid-permutes f p.fields (subst (IsValid f) c.fields c.valid) (free n op v e grouping h.function) x y lawful)
      ]

  module _ (inputs : List Bag) where
    permutes_at : (n : ℕ) (kind : OpKind) → kind_at p.ops n ≡ kind → PermutesAt (plan_ops p inputs) kind n
    permutes_at n Reduce e = λ key group other q.
        call_permutes n (slice_get p.ops n) refl (subst IsGrouping (sym e) tt) (of_group key group) (of_group key other)
        (subst (λ (k : OpKind). AreReordered (function_kind k) (of_group key group) (of_group key other)) (sym e) (refl, q))
    permutes_at n CoGroup e = λ key left other_left right other_right q r.
        call_permutes n (slice_get p.ops n) refl (subst IsGrouping (sym e) tt) (of_groups key left right) (of_groups key other_left other_right)
        (subst (λ (k : OpKind). AreReordered (function_kind k) (of_groups key left right) (of_groups key other_left other_right)) (sym e) (refl, q, r))
    permutes_at n kind e = tt

    all_permute : (t : PlanTree) → AllPermute (plan_ops p inputs) t
    all_permute (leaf n) = tt
    all_permute (over n t) = (permutes_at n (kind_at p.ops n) refl, all_permute t)
    all_permute (both n t u) = (permutes_at n (kind_at p.ops n) refl, all_permute t, all_permute u)

pub only_bag : (p : ProgramData) → IsProgram p → AreGroupsFree p → (inputs : List Bag) (t : PlanTree) (bag other : Bag) → Allows (plan_ops p inputs) t bag → Allows (plan_ops p inputs) t other → IsPermutation bag other
only_bag p program free inputs t bag other a b = to_permutation (one_bag (plan_ops p inputs) t (all_permute p program free inputs t) bag other a b)

-- ---- one text

pub one_text : (fields : List ℕ) (bag other : Bag) (text another : List ℕ) → IsPermutation bag other → AreLines fields bag text → AreLines fields other another → text ≡ another
one_text fields bag other text another p a b =
    let cut_rows = map (cut fields) bag in
    let other_rows = map (cut fields) other in
    let rows = chains (turned (from_permutation cut_rows a.rows a.permuted)) (chains (map_perm (cut fields) (from_permutation bag other p)) (from_permutation other_rows b.rows b.permuted)) in
    a.spelled ∙ ap csv_text (one_sorted records_total (λ x y e. same_keys x y (ap is_eq e)) a.rows b.rows rows a.sorted b.sorted) ∙ sym b.spelled
