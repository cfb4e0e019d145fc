-- A program's plan with Maps that keep the needed fields meets the conditions of the simulation.
use Rattle.std.proofs.Common.{◌≡◌, ℕ, suc, List, length, refl, sym, ap, ◌∙◌, arith}
use Rattle.std.specs.List.{AllByRecursion}
use Rattle.std.proofs.lemmas.Bool.{false_from_ne_true, true≢false}
use Rattle.std.proofs.lemmas.Option.{slice_get_within}
use Rattle.pact_record.proofs.Lists.{AllByRecursion-weaker}
use Rattle.tac_syntax.specs.declared.declarations.OpKind.TheVariants.{Source}
use Rattle.tac_syntax.specs.Contexts.{FieldSet, Has, IsBelow}
use Rattle.tac_syntax.specs.Forms.{IsWithin}
use Rattle.tac_flow.specs.Known.{no_fields}
use Rattle.plan_trees.specs.Plans.{PlanTree, leaf, over, both, root_of}
use Rattle.pact_operators.specs.Allowed.{Bag}
use Rattle.pact_operators.specs.Inputs.{AreInputsOf}
use Rattle.pact_operators.specs.PlanOps.{PlanOps, kind_at, kind_in, plan_ops}
use Rattle.pact_operators.specs.Programs.{AreSidesApart, HasArity, HasAttribute, IsProgram, ProgramData, Takes, takes}
use Rattle.pact_operators.proofs.LawfulBags.{all_wide, lawful_bags}
use Rattle.pact_operators.proofs.SoundPrograms.{are_ops}
use Rattle.pact_operators.proofs.WithinFields.{all_within_larger}
use Rattle.ship_strategy.specs.PlanFacts.{attribute}
use Rattle.prune_fields.specs.Insertions.{Cuts, cuts_from, grown, with_keeps}
use Rattle.prune_fields.specs.Needs.{wanted, wants_of, within}
use Rattle.prune_fields.proofs.KeptAttributes.{attribute_below, attribute_has, grown_has, onto_has}
use Rattle.prune_fields.proofs.KeptForms.{reads_wanted}
use Rattle.prune_fields.proofs.MoreOps.{do_same, is_cut, same_inputs, same_kind, same_rows}
use Rattle.prune_fields.proofs.NeededCalls.{left_keys_needed, needed_calls, right_keys_needed}
use Rattle.prune_fields.proofs.NeedsByEdge.{AreNeeds, IsNeededAt, second}
use Rattle.prune_fields.proofs.TwinPlans.{AreKept, IsEdge, onto}

module _ (p : ProgramData) (program : IsProgram p) (inputs : List Bag) (of_inputs : AreInputsOf p inputs) (tree : PlanTree) (needs : ℕ → FieldSet)
    (ns : List ℕ)
    (more : IsProgram (with_keeps p tree needs ns)) where
  abbrev Whole : ProgramData
  Whole = with_keeps p tree needs ns

  abbrev CutAll : Cuts
  CutAll = cuts_from (length p.ops) ns

  abbrev O : PlanOps
  O = plan_ops p inputs

  abbrev R : PlanOps
  R = plan_ops (with_keeps p tree needs ns) inputs

  own_rows : (t : PlanTree) (s : ℕ → Type 0) (rows : Bag) → ((k : ℕ) → s k → HasAttribute p.functions p.ops t k)
      → AllByRecursion (IsWithin p.fields s) rows → AllByRecursion (IsWithin p.fields (Has (attribute p t))) rows
  own_rows t s rows f h = all_within_larger p.fields s (Has (attribute p t)) rows (λ k out in_s. out ((attribute_has p t k).1 (f k in_s))) h

  input_needs_below : (whole t : PlanTree) → IsNeededAt p needs whole t → IsBelow p.fields (needs (root_of t))
  input_needs_below whole t needed k past =
      ap (λ (s : FieldSet). s k) needed
      ∙ false_from_ne_true (within (wants_of p whole (needs (root_of whole))) (attribute p t) k)
      (λ e. true≢false (sym (second (wants_of p whole (needs (root_of whole)) k) (attribute p t k) e) ∙ attribute_below p program t k past))

  edge : (whole t : PlanTree) → HasArity p.ops t → AreNeeds p needs t → IsNeededAt p needs whole t
      → IsEdge p.fields O R CutAll needs (wants_of p whole (needs (root_of whole))) (attribute p t) t
  edge whole t a d needed =
      let ops = are_ops p inputs program of_inputs in
      let more_ops = are_ops Whole inputs more (same_inputs p inputs tree needs ns of_inputs) in
      record {
        needed = needed;
        fits = λ bag h. own_rows t (HasAttribute p.functions p.ops t) bag (λ k in_t. in_t) (lawful_bags p.fields p.functions p.ops O ops t bag h);
        grown_fits =
            λ bag h. own_rows t (HasAttribute Whole.functions Whole.ops (onto p.fields O R CutAll needs t)) bag
            (λ k in_t. onto_has p program tree needs ns whole t k needed (grown_has p program tree needs ns t a d k)
            (CutAll (root_of t)) refl in_t)
            (lawful_bags p.fields Whole.functions Whole.ops R more_ops (onto p.fields O R CutAll needs t) bag h);
        grown_wide =
            λ bag h. all_wide p.fields (HasAttribute Whole.functions Whole.ops (grown CutAll t)) bag
            (lawful_bags p.fields Whole.functions Whole.ops R more_ops (grown CutAll t) bag h);
        cuts = λ m e. is_cut p program inputs tree needs ns (root_of t) m e (input_needs_below whole t needed);
      }

  operator_of : (n count : ℕ) → Takes p.ops n (suc count) → kind_at p.ops n ≡ Source → ⊥
  operator_of n count a e =
      let kind : a.0.kind ≡ Source = sym (ap kind_in a.1) ∙ e in
      let none : suc count ≡ 0 = sym a.2 ∙ ap takes kind in
      absurd (omega (arith, none))

  read_keys : (n : ℕ) (t : PlanTree) (above reads writes : FieldSet) (keys : List ℕ) → AllByRecursion (Has reads) keys
      → AllByRecursion (Has (wanted reads writes above)) keys
  read_keys n t above reads writes keys h =
      AllByRecursion-weaker (Has reads) (Has (wanted reads writes above)) keys (λ k m. reads_wanted reads writes above k m) h

  pub are_kept : (t : PlanTree) → HasArity p.ops t → AreSidesApart p.functions p.ops t → AreNeeds p needs t → IsBelow p.fields (needs (root_of t))
      → AreKept p.fields O R CutAll needs t
  are_kept (leaf n) a s d b =
      let lt = slice_get_within p.ops n a.0 a.1 in
      (sym (same_kind p program inputs tree needs ns n lt), same_rows p program inputs tree needs ns n lt)
  are_kept (over n t) a s d b =
      let lt = slice_get_within p.ops n a.0.0 a.0.1 in
      let operator = operator_of n 0 a.0 in
      let left = attribute_below p program t in
      let none : IsBelow p.fields no_fields = λ k past. refl in (
        record {
          want = wants_of p (over n t) (needs n);
          own = attribute p t;
          same = do_same p program inputs tree needs ns n lt operator;
          keys = read_keys n t (needs n) _ _ _ (left_keys_needed p program n operator (attribute p t) no_fields left none);
          apart = λ k l r. true≢false (sym r);
          calls = needed_calls p program n operator (attribute p t) no_fields left none inputs (needs n) b;
          edge = edge (over n t) t a.1 d.1 d.0;
        },
        are_kept t a.1 s d.1 (input_needs_below (over n t) t d.0),
      )
  are_kept (both n t u) a s d b =
      let lt = slice_get_within p.ops n a.0.0 a.0.1 in
      let operator = operator_of n 1 a.0 in
      let left = attribute_below p program t in
      let right = attribute_below p program u in (
        record {
          want = wants_of p (both n t u) (needs n);
          left = attribute p t;
          right = attribute p u;
          same = do_same p program inputs tree needs ns n lt operator;
          left_keys = read_keys n t (needs n) _ _ _ (left_keys_needed p program n operator (attribute p t) (attribute p u) left right);
          right_keys = read_keys n t (needs n) _ _ _ (right_keys_needed p program n operator (attribute p t) (attribute p u) left right);
          apart = λ k l r. s.0 k ((attribute_has p t k).0 l) ((attribute_has p u k).0 r);
          calls = needed_calls p program n operator (attribute p t) (attribute p u) left right inputs (needs n) b;
          left_edge = edge (both n t u) t a.1 d.2 d.0;
          right_edge = edge (both n t u) u a.2 d.3 d.1;
        },
        are_kept t a.1 s.1 d.2 (input_needs_below (both n t u) t d.0),
        are_kept u a.2 s.2 d.3 (input_needs_below (both n t u) u d.1),
      )
