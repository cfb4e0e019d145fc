-- What a plan's facts say that an operator writes, and on which sides it is anchored, is true of its calls.
use Rattle.std.proofs.Common.{◌≡◌, ◌∙◌, ◌↔◌, ℕ, Option, Some, None, List, slice_get, refl, ap, sym, subst, arith}
use Rattle.std.proofs.lemmas.Bool.{false_from_ne_true}
use Rattle.tac_syntax.specs.declared.contexts.Side.{Side}
use Rattle.tac_syntax.specs.declared.contexts.Side.TheVariants.{Left as on_left, Right as on_right}
use Rattle.tac_syntax.specs.declared.declarations.OpKind.{OpKind}
use Rattle.tac_syntax.specs.declared.declarations.OpKind.TheVariants.{Source, CoGroup}
use Rattle.tac_syntax.specs.declared.functions.Kind.{Kind}
use Rattle.tac_syntax.specs.Code.{Code}
use Rattle.tac_syntax.specs.Call.{Out}
use Rattle.tac_syntax.specs.Contexts.{Has}
use Rattle.tac_syntax.specs.Forms.{HasForm}
use Rattle.tac_syntax.specs.Valid.{WithFields}
use Rattle.tac_syntax.specs.WellFormed.{IsWellFormed}
use Rattle.tac_syntax.proofs.WellFormed.{valid_is_well_formed}
use Rattle.tac_flow.specs.Results.{FoundSets, IsAnchoredOn, sets_of}
use Rattle.tac_flow.specs.Steps.{Scope}
use Rattle.tac_flow.specs.Views.{ports_in}
use Rattle.tac_flow.proofs.FormOfCalls.{form_of}
use Rattle.tac_flow.proofs.SmallScopes.{IsSmallScope}
use Rattle.plan_trees.specs.Plans.{PlanTree, root_of}
use Rattle.pact_operators.specs.declared.operators.Op.{Op}
use Rattle.pact_operators.specs.Allowed.{Bag}
use Rattle.pact_operators.specs.PlanOps.{body_at, kind_at, kind_in, plan_ops}
use Rattle.pact_operators.specs.Programs.{IsProgram, ProgramData}
use Rattle.pact_operators.specs.SoundOps.{called, function_kind}
use Rattle.pact_operators.proofs.BelowFields.{AreOf}
use Rattle.pact_operators.proofs.CalledFunctions.{IsCalled, called_at, called_kind, is_operator}
use Rattle.pact_operators.proofs.PlanContexts.{keys-below, left-below, right-below}
use Rattle.pact_operators.proofs.SmallerContexts.{IsSmaller, form_in_smaller, form_of_ops}
use Rattle.ship_strategy.specs.Facts.{NodeFacts}
use Rattle.ship_strategy.specs.PlanFacts.{facts_at, left_attribute, right_attribute, scope_at, sets_at}
use Rattle.ship_strategy.proofs.KeptPlacements.{HasKnownForm, IsAnchored, ports_at}
use Rattle.ship_strategy.proofs.PlanAttributes.{left_true, right_true}
use Rattle.ship_strategy.proofs.PlanSets.{operator_sets}

anchored_on : (kind : OpKind) (side : Side) (x : NodeFacts) (s : FoundSets) → x.anchor_left ≡ s.anchor_left → x.anchor_right ≡ s.anchor_right → IsAnchored kind x side → IsAnchoredOn (function_kind kind) side s
anchored_on Source side x s l r h = absurd h
anchored_on CoGroup on_left x s l r h = sym l ∙ h
anchored_on CoGroup on_right x s l r h = sym r ∙ h
anchored_on kind side x s l r h = tt

module _ (p : ProgramData) (program : IsProgram p) (inputs : List Bag) (t : PlanTree) where
  abbrev N : ℕ
  N = root_of t

  abbrev Root : OpKind
  Root = kind_at p.ops N

  abbrev InScope : Scope
  InScope = scope_at p N (left_attribute p t) (right_attribute p t)

  module _ (operator : Root ≡ Source → ⊥) where
    root_function : (found : Option Op) → slice_get p.ops N ≡ found → (op : Op) × (v : WithFields) × IsCalled p N op v
    root_function None e = absurd (operator (ap kind_in e))
    root_function (Some op) e = let h = is_operator p program N op operator e in (op, h.called, called_at p program N op operator h.called e h.function)

    well_formed : IsWellFormed (function_kind Root) p.fields 0 (body_at p N)
    well_formed =
        let r = root_function (slice_get p.ops N) refl in
        let v = r.1 in
        let c = r.2 in
        subst (λ (k : Kind). IsWellFormed k p.fields 0 (body_at p N)) (called_kind p N r.0 v c)
        (subst (λ (m : ℕ). IsWellFormed v.function.kind m 0 (body_at p N)) c.fields
        (subst (λ (b : Code). IsWellFormed v.function.kind v.fields 0 b) c.body (valid_is_well_formed v.function v.fields c.valid)))

    small : IsSmallScope InScope
    small =
        let valid : AreOf p.fields p.functions = record { same = program.functions; valid = program.valid } in
        let keys = keys-below p.fields p.functions p.ops N program.ops operator in
        record {
          left = λ k past. false_from_ne_true (left_attribute p t k) (λ e.
              let lt = left-below p.fields p.functions p.ops t k valid program.columns_below ((left_true p t k).0 e) in absurd (omega (arith, past, lt)));
          right = λ k past. false_from_ne_true (right_attribute p t k) (λ e.
              let lt = right-below p.fields p.functions p.ops t k valid program.columns_below ((right_true p t k).0 e) in absurd (omega (arith, past, lt)));
          left_keys = keys.0;
          right_keys = keys.1;
        }

    found_form : (side : Side) → IsAnchored Root (facts_at p t) side
        → HasForm (function_kind Root) p.fields (ports_in InScope) (sets_at p N (left_attribute p t) (right_attribute p t)).reads (facts_at p t).writes side (Out p.fields (body_at p N))
    found_form side anchor =
        let found = sets_of InScope (body_at p N) in
        let is = operator_sets Root found operator in
        let on = anchored_on Root side (facts_at p t) (sets_at p N (left_attribute p t) (right_attribute p t)) refl refl anchor in
        subst (λ (s : FoundSets). HasForm (function_kind Root) p.fields (ports_in InScope) s.reads s.writes side (Out p.fields (body_at p N))) (sym is)
        (form_of InScope (body_at p N) well_formed small side (subst (IsAnchoredOn (function_kind Root) side) is on))

  -- for inputs whose fields are the attributes
  pub known_form : (in_left in_right : ℕ → Type 0) → ((k : ℕ) → Has (left_attribute p t) k ↔ in_left k) → ((k : ℕ) → Has (right_attribute p t) k ↔ in_right k)
      → HasKnownForm p.fields (plan_ops p inputs) N (ports_at (plan_ops p inputs) N in_left in_right) Root (facts_at p t)
  known_form in_left in_right l r side anchor =
      let operator : Root ≡ Source → ⊥ = λ e. subst (λ (k : OpKind). IsAnchored k (facts_at p t) side) e anchor in
      let C = ports_at (plan_ops p inputs) N in_left in_right in
      let D = ports_in InScope in
      let reads = (sets_at p N (left_attribute p t) (right_attribute p t)).reads in
      let writes = (facts_at p t).writes in
      let smaller : IsSmaller C D = record {
        left = λ k out a. out ((l k).1 a);
        right = λ k out a. out ((r k).1 a);
        left_keys = refl;
        right_keys = refl;
        apart = λ apart k a b. apart k ((l k).0 a) ((r k).0 b);
      } in (
        reads,
        form_in_smaller (function_kind Root) p.fields C D reads writes side (called (plan_ops p inputs) N) smaller
            (form_of_ops p inputs N (function_kind Root) D reads writes side (found_form operator side anchor)),
      )
